use mathlib.Core.Path.{sym, ◌∙◌}
use Rattle.pieces.specs.Places.{part_of}
use Rattle.pieces.proofs.Judged.{ends_differ, held_none, held-some, held_same, held-other}
use Rattle.pieces.proofs.judging.plan_in.Goals as goal
use Rattle.pieces.proofs.judging.plan_in.Goals.{else-all-via-then-all+else-has_at, else-all-via-else-all}

pub returns-then-ends_apart : goal.returns-then-ends_apart
returns-then-ends_apart c =
    let a = c.args in
    let l = a.loaded.now in
    ends_differ a.k (part_of l.piece l.payload.now) a.d a.memory.now (sym c.ends_apart.ensures ∙ c.if-ends_apart.true)

pub returns-then-not-any : goal.returns-then-not-any
returns-then-not-any c =
    let a = c.args in
    let l = a.loaded.now in
    held_none a.k (part_of l.piece l.payload.now) a.d a.memory.now (sym c.ends_apart.ensures ∙ c.if-ends_apart.false) l.range l.fills
    (sym c.any.ensures ∙ c.if-not-any.true)

pub returns-then-has_at : goal.returns-then-has_at
returns-then-has_at c =
    let a = c.args in
    let l = a.loaded.now in
    held_same a.k (part_of l.piece l.payload.now) a.d a.memory.now (sym c.ends_apart.ensures ∙ c.if-ends_apart.false) l.range l.fills
    (sym c.any.ensures ∙ c.if-not-any.false) (sym c.all.ensures ∙ c.if-all.true)
    c.has_at.result c.byte_at.result c.byte_at.ensures c.has_at.ensures c.if-has_at.true

pub returns-else-all : goal.returns-else-all
returns-else-all c =
    let a = c.args in
    let l = a.loaded.now in
    elim c.else-all.branch [
      | else-all-via-then-all+else-has_at w ↦
          held-other a.k (part_of l.piece l.payload.now) a.d a.memory.now (sym c.ends_apart.ensures ∙ c.if-ends_apart.false) l.range l.fills
          (sym c.any.ensures ∙ c.if-not-any.false) (sym c.all.ensures ∙ w.if-all.true)
          w.has_at.result w.byte_at.result w.byte_at.ensures w.has_at.ensures w.if-has_at.false
      | else-all-via-else-all w ↦
          held-some a.k (part_of l.piece l.payload.now) a.d a.memory.now (sym c.ends_apart.ensures ∙ c.if-ends_apart.false) l.range l.fills
          (sym c.any.ensures ∙ c.if-not-any.false) (sym c.all.ensures ∙ w.if-all.false)
    ]
