-- The first of a descending list that is below n is the largest below n.
use Rattle.std.specs.Prelude.{Option, Some, None}
use mathlib.Core.Path.{◌≡◌, refl, sym, ap, ◌∙◌}
use mathlib.Core.Logic.{◌↔◌, ⊎_elim, inl, inr}
use mathlib.Core.Bool.{Bool, true, false, cond}
use mathlib.Core.List.Memᴰ
use mathlib.Core.List.{List, [], ◌∷◌, Memᴰ}
use Prim.Native.Nat.{ℕ, ◌≤◌}
use native.Mathlib.Omega.{arith}
use borrow.Author.Tests.{le-ltb, ltb-true, ltb-false, eqb-true, eq-eqb, ne_eqb}
use lib.Dec.{eqb, ltb}
use Rattle.paths.specs.Candidate.{least_size, plateaus, first_below, plateau_below, candidate_of}
use Rattle.paths.specs.Largest.{LargestBelow, CandidateIs}
use Rattle.paths.proofs.Reports.{tested}

abbrev Descending : List ℕ → Type 0
Descending [] = Unit {0}
Descending (p ∷ []) = Unit {0}
Descending (p ∷ (q ∷ ps)) = (q ≤ p) × Descending (q ∷ ps)

-- n is at most each of them
abbrev AllFrom : ℕ → List ℕ → Type 0
AllFrom n [] = Unit {0}
AllFrom n (p ∷ ps) = (n ≤ p) × AllFrom n ps

first-largest : (p : ℕ) (ps : List ℕ) → Descending (p ∷ ps) → (q : ℕ) → Memᴰ q ps → q ≤ p
first-largest p [] d q m = absurd (Memᴰ.not-nil m)
first-largest p (r ∷ ps) d q m = ⊎_elim (λ e. omega arith) (λ k. omega (arith, first-largest r ps d.1 q k)) (Memᴰ.cases_cons m)

rest_descends : (p : ℕ) (ps : List ℕ) → Descending (p ∷ ps) → Descending ps
rest_descends p [] d = tt
rest_descends p (q ∷ ps) d = d.1

module _ (n : ℕ) where
  first_below_lem : (ps : List ℕ) → Descending ps → (p : ℕ) → first_below n ps ≡ Some p → LargestBelow n p ps
  first_below_lem [] d p h = let z : ◌≡◌ {A = ℕ} 0 1 = cc in absurd (omega arith)
  first_below_lem (a ∷ ps) d p h =
      ⊎_elim
      (λ t. let e : a ≡ p = cc in record {
        among = Memᴰ.head (sym e);
        below = omega (arith, ltb-true a n t);
        largest = λ q m l. ⊎_elim (λ k. omega arith) (λ k. omega (arith, first-largest a ps d q k)) (Memᴰ.cases_cons m);
      })
      (λ t. let i : LargestBelow n p ps = first_below_lem ps (rest_descends a ps d) p (rw t at h) in record {
        among = Memᴰ.tail i.among;
        below = i.below;
        largest = λ q m l. ⊎_elim (λ k. absurd (omega (arith, ltb-false a n t))) (λ k. i.largest q k l) (Memᴰ.cases_cons m);
      })
      (tested (ltb a n))

  none_below : (ps : List ℕ) → AllFrom n ps → first_below n ps ≡ None
  none_below [] h = refl
  none_below (p ∷ ps) h = rw (le-ltb p n h.0) (none_below ps h.1)

  all_from : (ps : List ℕ) → first_below n ps ≡ None → AllFrom n ps
  all_from [] h = tt
  all_from (p ∷ ps) h =
      ⊎_elim (λ t. let z : ◌≡◌ {A = ℕ} 0 1 = cc in absurd (omega arith)) (λ t. (ltb-false p n t, all_from ps (rw t at h))) (tested (ltb p n))

-- what is found is the largest plateau below n, and none is found exactly when n is at most 68
pub record PlateauRule (n : ℕ) : Type 0 where
  pub found : (p : ℕ) → plateau_below n ≡ Some p → LargestBelow n p plateaus
  pub missing : (plateau_below n ≡ None) ↔ (n ≤ least_size)

pub plateau_rule : (n : ℕ) → PlateauRule n
unfolding plateau_below
plateau_rule n =
    record {
      found = first_below_lem n plateaus (omega arith);
      missing = (λ h. omega (arith, all_from n plateaus h), λ l. none_below n plateaus (omega arith));
    }

from_all : (n p : ℕ) (ps : List ℕ) → AllFrom n ps → Memᴰ p ps → n ≤ p
from_all n p [] a m = absurd (Memᴰ.not-nil m)
from_all n p (q ∷ ps) a m = ⊎_elim (λ e. omega (arith, a.0)) (λ k. from_all n p ps a.1 k) (Memᴰ.cases_cons m)

-- the largest plateau below n is found
largest-found : (n p : ℕ) → LargestBelow n p plateaus → plateau_below n ≡ Some p
unfolding plateau_below
largest-found n p l = go (plateau_below n) refl
  where
    go : (k : Option ℕ) → plateau_below n ≡ k → plateau_below n ≡ Some p
    go (Some q) e =
        let f = (plateau_rule n).found q e in
        let same : q ≡ p = omega (arith, l.largest q f.among f.below, f.largest p l.among l.below) in
        e ∙ ap Some same
    go None e = absurd (omega (arith, from_all n p plateaus (all_from n plateaus e) l.among, l.below))

module _ (reported total : ℕ) where
  -- what is found is the candidate
  pub candidate-is : (c : ℕ) → candidate_of reported total ≡ Some c → CandidateIs reported total c
  unfolding candidate_of
  candidate-is c = go (eqb reported 0) (ltb reported least_size) refl refl
    where
      go : (s t : Bool) → eqb reported 0 ≡ s → ltb reported least_size ≡ t → cond s (plateau_below total) (cond t None (Some reported)) ≡ Some c
          → CandidateIs reported total c
      go true t e f h = inr (eqb-true reported 0 e, (plateau_rule total).found c h)
      go false true e f h = let z : ◌≡◌ {A = ℕ} 0 1 = cc in absurd (omega arith)
      go false false e f h = let same : reported ≡ c = cc in inl (same, omega (arith, ltb-false reported least_size f))

  -- what is the candidate is found
  pub is-candidate : (c : ℕ) → CandidateIs reported total c → candidate_of reported total ≡ Some c
  unfolding candidate_of
  is-candidate c =
      ⊎_elim
      (λ f. let other : c ≡ 0 → ⊥ = λ e. omega (arith, f.1) in rw f.0 (simp (ne_eqb c 0 other, le-ltb c least_size f.1)))
      (λ f. rw (eq-eqb reported 0 f.0) (largest-found total c f.1))

  -- without one the size is unusable
  pub no_candidate : ((c : ℕ) → CandidateIs reported total c → ⊥) → candidate_of reported total ≡ None
  no_candidate n = go (candidate_of reported total) refl
    where
      go : (k : Option ℕ) → candidate_of reported total ≡ k → candidate_of reported total ≡ None
      go (Some c) e = absurd (n c (candidate-is c e))
      go None e = e
