-- `header::fields::quad` meets its contract: the bytes are those of the tail.
use native.Mathlib.Nat.{add-zero}
use lib.Seq.{get_or-drop}
use Rattle.header.specs.Fields.{quad_at}
use Rattle.header.proofs.fields.quad.Goals as goal

pub returns-then-t-lt4 : goal.returns-then-t-lt4
unfolding quad_at
returns-then-t-lt4 c = simp (
  c.quad.ensures,
  c.byte-then-t-lt4-3.ensures,
  c.byte-then-t-lt4-2.ensures,
  c.byte-then-t-lt4.ensures,
  c.byte.ensures,
  c.tail-t.ensures,
  get_or-drop,
  add-zero,
)

pub returns-else-t-lt4 : goal.returns-else-t-lt4
unfolding quad_at
returns-else-t-lt4 c = simp (c.quad_in.ensures, c.tail-t.ensures, get_or-drop, add-zero)
