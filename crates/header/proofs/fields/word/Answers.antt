-- `header::fields::word` meets its contract: the bytes are those of the tail.
use native.Mathlib.Nat.{add-zero}
use lib.Seq.{get_or-drop}
use Rattle.header.specs.Fields.{word_at}
use Rattle.header.proofs.fields.word.Goals as goal

pub returns : goal.returns
unfolding word_at
returns c = simp (c.pair.ensures, c.byte-2.ensures, c.byte.ensures, c.tail-t.ensures, get_or-drop, add-zero)
