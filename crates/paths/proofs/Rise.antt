-- The size toward a neighbour falls by a report of its own alone: time and other neighbours' reports only end what is kept.
use Rattle.std.specs.Prelude.{Some, None, Option}
use mathlib.Core.Path.{◌≡◌, refl}
use mathlib.Core.Logic.{◌⊎◌, ⊎_elim, inl, inr}
use mathlib.Core.Bool.{Bool, true, false, cond, false≢true}
use mathlib.Core.List.{List, [], ◌∷◌}
use Prim.Native.Nat.{ℕ, zero, suc, ◌+◌, ◌≤◌}
use native.Mathlib.Nat.{le_refl}
use native.Mathlib.Omega.{arith}
use borrow.Author.Tests.{lt-ltb, ltb-true}
use lib.Dec.{ltb, eqb}
use Rattle.paths.specs.Kept.{Report, lifetime, most_neighbours, last_of, while_young, kept_from, in_force}
use Rattle.paths.specs.Table.{row_in, cut}
use Rattle.paths.specs.Record.{last_of_each, others_since, record_kept}
use Rattle.paths.proofs.Calls.{plain, size_toward}
use Rattle.paths.proofs.Reports.{tested, others-row, without_each}

-- ---- what is kept stays or ends

abbrev Fades : Option ℕ → Option ℕ → Type 0
Fades k l = (l ≡ k) ⊎ (l ≡ None)

fades_cond : (a b : Bool) (k l : Option ℕ) → (b ≡ true → a ≡ true) → Fades k l → Fades (cond a k None) (cond b l None)
fades_cond true true k l h f = f
fades_cond true false k l h f = inr refl
fades_cond false true k l h f = absurd (false≢true (h refl))
fades_cond false false k l h f = inl refl

-- by time
kept_from-later : (o : Option Report) (now then : ℕ) → now ≤ then → Fades (kept_from o now) (kept_from o then)
unfolding while_young
kept_from-later None now then l = inl refl
kept_from-later (Some e) now then l =
    fades_cond (ltb now (e.time + lifetime)) (ltb then (e.time + lifetime)) (Some e.size) (Some e.size)
    (λ h. lt-ltb now (e.time + lifetime) (omega (arith, ltb-true then (e.time + lifetime) h))) (inl refl)

-- a list without one element has v at most one place further on
row_in-cut : (v p : ℕ) (es : List Report) → row_in v es ≤ suc (row_in v (cut p es))
row_in-cut v p [] = omega arith
row_in-cut v zero (e ∷ es) =
    ⊎_elim (λ h. rw h (omega arith)) (λ h. rw h (omega arith)) (tested (eqb e.neighbour v))
row_in-cut v (suc p) (e ∷ es) =
    ⊎_elim (λ h. rw h (omega arith)) (λ h. rw h (omega (arith, row_in-cut v p es))) (tested (eqb e.neighbour v))

-- another neighbour's report takes away nothing from the count of others since
others_grow : (v : ℕ) (e : Report) (es : List Report) → eqb e.neighbour v ≡ false → others_since v es ≤ others_since v (e ∷ es)
others_grow v e es other =
    let q : ℕ = row_in e.neighbour (last_of_each es) in
    let p : row_in v (last_of_each (e ∷ es)) ≡ suc (row_in v (cut q (last_of_each es))) = cc (without_each e.neighbour es) in
    omega (arith, others-row v es, others-row v (e ∷ es), row_in-cut v q (last_of_each es))

module _ (es : List Report) (v now : ℕ) where
  kept-later : (then : ℕ) → now ≤ then → Fades (record_kept es v now) (record_kept es v then)
  unfolding record_kept
  kept-later then l =
      let few : Bool = ltb (others_since v es) most_neighbours in
      fades_cond few few (kept_from (last_of v es) now) (kept_from (last_of v es) then) (λ h. h) (kept_from-later (last_of v es) now then l)

  kept-others : (e : Report) → eqb e.neighbour v ≡ false → Fades (record_kept es v now) (record_kept (e ∷ es) v now)
  unfolding record_kept
  kept-others e other =
      let n : last_of v (e ∷ es) ≡ last_of v es = cc in
      let k : Option ℕ = kept_from (last_of v es) now in
      rw n
      (fades_cond (ltb (others_since v es) most_neighbours) (ltb (others_since v (e ∷ es)) most_neighbours) k k
      (λ h. lt-ltb (others_since v es) most_neighbours (omega (arith, others_grow v e es other, ltb-true (others_since v (e ∷ es)) most_neighbours h)))
      (inl refl))

-- ---- so the size over a link only rises

module _ (link : ℕ) where
  rises : (k l : Option ℕ) → Fades k l → in_force link k ≤ in_force link l
  unfolding in_force
  rises k l f = ⊎_elim (λ e. rw e (le_refl _)) (λ e. rw e (small k)) f
    where
      small : (k : Option ℕ) → in_force link k ≤ link
      small (Some s) = omega arith
      small None = le_refl link

  module _ (es : List Report) (v now : ℕ) where
    pub size-later : (then : ℕ) → now ≤ then → size_toward plain link es now v ≤ size_toward plain link es then v
    size-later then l = rises (record_kept es v now) (record_kept es v then) (kept-later es v now then l)

    pub size-others : (e : Report) → eqb e.neighbour v ≡ false → size_toward plain link es now v ≤ size_toward plain link (e ∷ es) now v
    size-others e other = rises (record_kept es v now) (record_kept (e ∷ es) v now) (kept-others es v now e other)
