-- `input::section::record_at` meets its contract: a count and a record's size are small.
use native.Mathlib.Omega.{arith}
use Rattle.input.proofs.Records.{small}
use Rattle.input.proofs.section.record_at.Goals as goal

pub overflow_mul-i : goal.overflow_mul-i
overflow_mul-i c = let a = c.args in omega (arith, small a.i a.size (omega arith) (omega arith))

pub overflow_add-i : goal.overflow_add-i
overflow_add-i c = let a = c.args in omega (arith, small a.i a.size (omega arith) (omega arith))

pub returns : goal.returns
returns c = rw (c.front.ensures, c.tail.ensures)
