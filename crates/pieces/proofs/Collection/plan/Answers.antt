-- What is planned is `plan_of`, whichever way it came.
use mathlib.Core.Path.{refl, sym, ap, ◌∙◌, subst}
use native.Mathlib.Omega.{arith}
use Rattle.pieces.specs.declared.Place.{Place}
use Rattle.pieces.specs.declared.Plan.{Plan}
use Rattle.pieces.specs.Places.{is_of, part_of, no_place}
use Rattle.pieces.specs.Take.{plan_in}
use Rattle.pieces.specs.Change.{Placed}
use Rattle.pieces.proofs.Found.{blank, read_within, found, found-none}
use Rattle.pieces.proofs.Judged.{plan_unfit, plan_found, plan_fresh}
use Rattle.pieces.proofs.Planned.{plan_placed}
use Rattle.pieces.proofs.Collection.plan.Goals as goal

pub returns-then-is_unfit-clause-value : goal.returns-then-is_unfit-clause-value
returns-then-is_unfit-clause-value c =
    let a = c.args in
    let l = a.loaded.now in
    plan_unfit a.time l.piece.key (part_of l.piece l.payload.now) a.self.now a.memory.now (sym c.is_unfit.ensures ∙ c.if-is_unfit.true)

pub returns-in-Some-clause-value : goal.returns-in-Some-clause-value
returns-in-Some-clause-value c =
    let a = c.args in
    let l = a.loaded.now in
    let p = part_of l.piece l.payload.now in
    let f = found (is_of l.piece.key a.time) a.self.now.places c.in-Some.k (sym c.place_of.ensures ∙ c.in-Some.is) in
    c.plan_in.ensures
    ∙ ap (λ (d : Place). plan_in c.in-Some.k p d a.memory.now) (read_within a.self.now.places c.in-Some.k blank no_place f.1)
    ∙ plan_found a.time l.piece.key p a.self.now a.memory.now (sym c.is_unfit.ensures ∙ c.if-is_unfit.false) c.in-Some.k f.0 (omega (arith, f.1))

pub returns-in-Some-clause-placed : goal.returns-in-Some-clause-placed
returns-in-Some-clause-placed c =
    let a = c.args in
    let l = a.loaded.now in
    let p = part_of l.piece l.payload.now in
    subst (λ (plan : Plan). Placed plan p) (sym (returns-in-Some-clause-value c)) (plan_placed a.time l.piece.key p a.self.now a.memory.now)

pub returns-in_default-clause-value : goal.returns-in_default-clause-value
returns-in_default-clause-value c =
    let a = c.args in
    let l = a.loaded.now in
    let p = part_of l.piece l.payload.now in
    let f = found-none (is_of l.piece.key a.time) a.self.now.places (sym c.place_of.ensures ∙ c.in_default.is) in
    c.plan_new.ensures
    ∙ plan_fresh a.time l.piece.key p a.self.now a.memory.now (sym c.is_unfit.ensures ∙ c.if-is_unfit.false) _ refl (omega (arith, f))

pub returns-in_default-clause-placed : goal.returns-in_default-clause-placed
returns-in_default-clause-placed c =
    let a = c.args in
    let l = a.loaded.now in
    let p = part_of l.piece l.payload.now in
    subst (λ (plan : Plan). Placed plan p) (sym (returns-in_default-clause-value c)) (plan_placed a.time l.piece.key p a.self.now a.memory.now)
