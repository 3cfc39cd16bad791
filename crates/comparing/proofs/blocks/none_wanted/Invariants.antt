-- `comparing::blocks::none_wanted` meets its contract: while none was found, none is there.
use mathlib.Core.Path.{◌≡◌}
use mathlib.Core.Bool.{true}
use Rattle.comparing.specs.Runs.{is_unequal_at}
use Rattle.comparing.specs.Search.{NoneIn}
use Rattle.comparing.proofs.blocks.none_wanted.Given as goal

abbrev pub invariant-loop-i : goal.invariant-loop-i
invariant-loop-i l = l.none ≡ true → NoneIn (is_unequal_at l.a l.b) l.wanted 0 l.i
