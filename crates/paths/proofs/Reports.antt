-- Lists of reports: a neighbour's last and those since, the last of each, and a list without one element.
use Rattle.std.specs.Prelude.{None, Option}
use mathlib.Core.Path.{◌≡◌, refl, ap, ◌∙◌}
use mathlib.Core.Logic.{◌⊎◌, ⊎_elim, inl, inr}
use mathlib.Core.Bool.{Bool, true, false, cond}
use mathlib.Core.List.{List, [], ◌∷◌}
use Prim.Native.Nat.{ℕ, zero, suc, ◌≤◌, min}
use native.Mathlib.Nat.{min-zero, zero-min, suc-min-suc}
use native.Mathlib.Omega.{arith}
use borrow.Author.Tests.{lt-ltb, le-ltb, eqb-true}
use lib.Dec.{ltb, eqb, leb-suc-suc}
use lib.ListN.{length, take}
use Rattle.paths.specs.Kept.{Report, last_of, kept_from}
use Rattle.paths.specs.Table.{row_in, cut}
use Rattle.paths.specs.Record.{since, without, last_of_each, others_since}

-- a test came out one way or the other
pub tested : (b : Bool) → (b ≡ true) ⊎ (b ≡ false)
tested true = inl refl
tested false = inr refl

pub kept_from-cond : (b : Bool) (o : Option Report) (now : ℕ) → kept_from (cond b o None) now ≡ cond b (kept_from o now) None
kept_from-cond true o now = refl
kept_from-cond false o now = refl

-- ---- a list without one element

module _ {A : Type 0} where
  pub take-length-take : (n : ℕ) (xs : List A) → take (length (take n xs)) xs ≡ take n xs
  take-length-take zero xs = refl
  take-length-take (suc n) [] = refl
  take-length-take (suc n) (x ∷ xs) = ap (λ (l : List A). x ∷ l) (take-length-take n xs)

  -- a part of a list without one element is a longer part without one
  pub take-cut : (m p : ℕ) (xs : List A) → take m (cut p xs) ≡ cut (min p m) (take (suc m) xs)
  take-cut zero p [] = cc (min-zero p)
  take-cut zero p (x ∷ xs) = cc (min-zero p)
  take-cut (suc m) zero [] = cc (zero-min (suc m))
  take-cut (suc m) zero (x ∷ xs) = cc (zero-min (suc m))
  take-cut (suc m) (suc p) [] = cc (suc-min-suc p m)
  take-cut (suc m) (suc p) (x ∷ xs) = cc (suc-min-suc p m, take-cut m p xs)

  -- past the end there is nothing to cut
  pub cut-last : (p : ℕ) (xs : List A) → cut p (take (suc p) xs) ≡ cut p (take p xs)
  cut-last zero [] = refl
  cut-last zero (x ∷ xs) = refl
  cut-last (suc p) [] = refl
  cut-last (suc p) (x ∷ xs) = ap (λ (l : List A). x ∷ l) (cut-last p xs)

-- ---- the last report of v

module _ (v : ℕ) where
  pub row_in_le : (es : List Report) → row_in v es ≤ length es
  row_in_le [] = omega arith
  row_in_le (e ∷ es) =
      ⊎_elim (λ h. rw h (omega arith)) (λ h. rw h (omega (arith, row_in_le es))) (tested (eqb e.neighbour v))

  pub row_in-take : (m : ℕ) (es : List Report) → row_in v (take m es) ≡ min m (row_in v es)
  row_in-take zero es = omega arith
  row_in-take (suc m) [] = omega arith
  row_in-take (suc m) (e ∷ es) =
      ⊎_elim (λ h. rw h (omega arith)) (λ h. rw h (omega (arith, row_in-take m es))) (tested (eqb e.neighbour v))

  pub since-length : (es : List Report) → length (since v es) ≡ row_in v es
  since-length [] = refl
  since-length (e ∷ es) = ⊎_elim (λ h. rw h) (λ h. rw h (ap suc (since-length es))) (tested (eqb e.neighbour v))

  pub last_of-take : (m : ℕ) (es : List Report) → last_of v (take m es) ≡ cond (ltb (row_in v es) m) (last_of v es) None
  last_of-take zero es = rw (le-ltb (row_in v es) 0 (omega arith))
  last_of-take (suc m) [] = rw (lt-ltb 0 (suc m) (omega arith))
  last_of-take (suc m) (e ∷ es) =
      ⊎_elim (λ h. cc (lt-ltb 0 (suc m) (omega arith))) (λ h. cc (leb-suc-suc (suc (row_in v es)) m, last_of-take m es))
      (tested (eqb e.neighbour v))

  -- ---- without the reports of another neighbour a

  module _ (a : ℕ) (other : eqb a v ≡ false) where
    -- a report of a is none of v
    not_v : (e : Report) → eqb e.neighbour a ≡ true → eqb e.neighbour v ≡ false
    not_v e h = rw (eqb-true e.neighbour a h) other

    last_of-without : (es : List Report) → last_of v (without a es) ≡ last_of v es
    last_of-without [] = refl
    last_of-without (e ∷ es) =
        ⊎_elim (λ h. cc (not_v e h, last_of-without es))
        (λ h. ⊎_elim (λ k. cc) (λ k. cc (last_of-without es)) (tested (eqb e.neighbour v)))
        (tested (eqb e.neighbour a))

    since-without : (es : List Report) → since v (without a es) ≡ without a (since v es)
    since-without [] = refl
    since-without (e ∷ es) =
        ⊎_elim (λ h. cc (not_v e h, since-without es))
        (λ h. ⊎_elim (λ k. cc) (λ k. cc (since-without es)) (tested (eqb e.neighbour v)))
        (tested (eqb e.neighbour a))

    cut-without : (es : List Report) → without a (cut (row_in v es) es) ≡ cut (row_in v (without a es)) (without a es)
    cut-without [] = refl
    cut-without (e ∷ es) =
        ⊎_elim (λ h. cc (not_v e h, cut-without es))
        (λ h. ⊎_elim (λ k. cc) (λ k. cc (cut-without es)) (tested (eqb e.neighbour v)))
        (tested (eqb e.neighbour a))

without-twice : (v : ℕ) (es : List Report) → without v (without v es) ≡ without v es
without-twice v [] = refl
without-twice v (e ∷ es) = ⊎_elim (λ h. cc (without-twice v es)) (λ h. cc (without-twice v es)) (tested (eqb e.neighbour v))

without-swap : (v a : ℕ) (es : List Report) → without v (without a es) ≡ without a (without v es)
without-swap v a [] = refl
without-swap v a (e ∷ es) =
    ⊎_elim (λ h. ⊎_elim (λ k. cc (without-swap v a es)) (λ k. cc (without-swap v a es)) (tested (eqb e.neighbour v)))
    (λ h. ⊎_elim (λ k. cc (without-swap v a es)) (λ k. cc (without-swap v a es)) (tested (eqb e.neighbour v)))
    (tested (eqb e.neighbour a))

-- ---- the last of each

module _ (v : ℕ) where
  pub last_of-each : (es : List Report) → last_of v (last_of_each es) ≡ last_of v es
  last_of-each [] = refl
  last_of-each (e ∷ es) =
      ⊎_elim (λ h. cc) (λ h. cc (last_of-without v e.neighbour h (last_of_each es), last_of-each es)) (tested (eqb e.neighbour v))

  since_each : (es : List Report) → last_of_each (since v es) ≡ since v (last_of_each es)
  since_each [] = refl
  since_each (e ∷ es) =
      ⊎_elim (λ h. cc) (λ h. cc (since_each es, since-without v e.neighbour h (last_of_each es))) (tested (eqb e.neighbour v))

  -- how many other neighbours have had a report since is the place among the last of each
  pub others-row : (es : List Report) → others_since v es ≡ row_in v (last_of_each es)
  others-row es = ap length (since_each es) ∙ since-length v (last_of_each es)

  -- among the last of each there is one of v at most
  pub without_each : (es : List Report) → without v (last_of_each es) ≡ cut (row_in v (last_of_each es)) (last_of_each es)
  without_each [] = refl
  without_each (e ∷ es) =
      ⊎_elim (λ h. cc (eqb-true e.neighbour v h, without-twice v (last_of_each es)))
      (λ h. cc (without-swap v e.neighbour (last_of_each es), without_each es, cut-without v e.neighbour h (last_of_each es)))
      (tested (eqb e.neighbour v))
