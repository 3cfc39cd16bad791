use borrow.Author.Tests.{lt-ltb, le-ltb}
use native.Mathlib.Omega.{arith}
use mathlib.Core.Path.{sym, ◌∙◌}
use Rattle.lists.specs.Any.{first_with}
use Rattle.pieces.specs.Places.{is_free, places}
use Rattle.pieces.specs.Take.{plan_new}
use Rattle.pieces.proofs.Found.{found, found-none}
use Rattle.pieces.proofs.judging.plan_new.Goals as goal

pub returns-in-Some : goal.returns-in-Some
unfolding plan_new
returns-in-Some c =
    let a = c.args in
    let f = found (is_free a.time) a.places.now c.in-Some.k (sym c.free_place.ensures ∙ c.in-Some.is) in
    rw (← f.0, lt-ltb c.in-Some.k places (omega (arith, f.1)))

pub returns-in-None : goal.returns-in-None
unfolding plan_new
returns-in-None c =
    let a = c.args in
    let f = found-none (is_free a.time) a.places.now (sym c.free_place.ensures ∙ c.in-None.is) in
    rw (le-ltb (first_with (is_free a.time) a.places.now) places (omega (arith, f)))
