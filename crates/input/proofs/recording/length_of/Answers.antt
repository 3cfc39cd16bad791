-- `input::recording::length_of` meets its contract.
use native.Mathlib.Omega.{arith}
use Rattle.header.specs.Fields.{word_at}
use Rattle.input.proofs.recording.length_of.Goals as goal

pub returns-then-d-lt3 : goal.returns-then-d-lt3
returns-then-d-lt3 c = (c.word.ensures, omega arith)

pub returns : goal.returns
unfolding word_at
returns c = (c.pair.ensures, omega arith)
