-- `input::section::size_of` meets its contract: a count and a record's size are small.
use native.Mathlib.Omega.{arith}
use Rattle.input.proofs.Records.{small}
use Rattle.input.proofs.section.size_of.Goals as goal

pub overflow_mul-result : goal.overflow_mul-result
overflow_mul-result c = omega (arith, small c.word.result c.args.size (omega arith) (omega arith))

pub overflow_add-result : goal.overflow_add-result
overflow_add-result c = omega (arith, small c.word.result c.args.size (omega arith) (omega arith))

pub returns : goal.returns
returns c = rw c.word.ensures
