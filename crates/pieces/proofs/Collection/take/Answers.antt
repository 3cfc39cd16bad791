-- The plan is carried out in the place that it changes.
use mathlib.Core.Path.{◌≡◌, ap, ◌∙◌, subst}
use lib.ListN.{length}
use Rattle.lists.proofs.Parts.{unmapped}
use Rattle.pieces.specs.declared.Plan.{Plan}
use Rattle.pieces.specs.Places.{Part, places, part_of}
use Rattle.pieces.specs.Take.{plan_of, memory_by, memory_of}
use Rattle.pieces.specs.Change.{Placed, change_by, change_of}
use Rattle.pieces.proofs.Carried.{placed-there, carries}
use Rattle.pieces.proofs.Collection.take.Goals as goal
use Rattle.pieces.proofs.Collection.take.Goals.{Start, After-plan-plan}

full : (c : Start) → length c.args.self.places ≡ places
full c = search unmapped

-- the piece with its payload is that which was handed in
module _ (c : After-plan-plan) where
  abbrev p : Part
  p = part_of c.args.piece c.args.payload.now

  loaded : part_of c.new-loaded.result.piece c.new-loaded.result.payload.now ≡ p
  loaded = rw (c.new-loaded.ensures.0, c.new-loaded.ensures.1)

  planned : c.plan-plan.result ≡ plan_of c.args.time c.args.piece.key p c.args.self c.args.memory.now
  planned = c.plan-plan.ensures.value ∙ rw (c.new-loaded.ensures.0, c.new-loaded.ensures.1)

  placed : Placed c.plan-plan.result p
  placed = subst (λ (x : Part). Placed c.plan-plan.result x) loaded c.plan-plan.ensures.placed

pub returns-clause-value : goal.returns-clause-value
unfolding change_of
returns-clause-value c =
    let w = (goal.at.returns-clause-value c).After-plan-plan in
    let a = c.args in
    carries c.plan-plan.result a.time a.piece.key (p w) a.self c.changed_place-k.result c.changed.result (full (goal.at.returns-clause-value c).Start)
    (placed-there c.plan-plan.result (p w) (placed w)) c.changed_place-k.ensures (c.changed.ensures ∙ rw (c.new-loaded.ensures.0, c.new-loaded.ensures.1))
    ∙ ap (λ (plan : Plan). change_by plan a.time a.piece.key (p w) a.self) (planned w)

pub returns-clause-memory_after : goal.returns-clause-memory_after
unfolding memory_of
returns-clause-memory_after c =
    let w = (goal.at.returns-clause-memory_after c).After-plan-plan in
    let a = c.args in
    c.write.ensures ∙ ap (λ (x : Part). memory_by c.plan-plan.result x a.memory.now) (loaded w)
    ∙ ap (λ (plan : Plan). memory_by plan (p w) a.memory.now) (planned w)
