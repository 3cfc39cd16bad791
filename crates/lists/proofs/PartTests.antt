-- What a test of some or of all elements of a part of a list decides, element by element. Assumes nothing.
use Prim.Native.Nat.{ℕ, zero, suc, ◌+◌, ◌≤◌, ◌<◌}
use mathlib.Core.Path.{◌≡◌, refl, sym}
use mathlib.Core.Logic.{⊎_elim}
use mathlib.Core.Bool.{Bool, true, true≢false, or-true}
use mathlib.Core.List.{List, [], ◌∷◌}
use native.Mathlib.Omega.{arith}
use lib.ListN.{length, get_or}
use Rattle.lists.specs.Any.{any_of, all_of}
use Rattle.lists.specs.Parts.{part}
use Rattle.lists.proofs.Decides.{Decides}
use Rattle.lists.proofs.Tests.{tested, and_left, and_right}

module _ {A : Type 0} (p : A → Bool) (d : A) where
  -- some of n elements from an index on passes
  abbrev pub SomePasses : ℕ → ℕ → List A → Type 0
  SomePasses from n xs = (i : ℕ) × (from ≤ i) × (i < from + n) × (i < length xs) × (p (get_or xs i d) ≡ true)

  -- all of them do
  abbrev pub EachPasses : ℕ → ℕ → List A → Type 0
  EachPasses from n xs = (i : ℕ) → from ≤ i → i < from + n → i < length xs → p (get_or xs i d) ≡ true

  any_part : (from n : ℕ) (xs : List A) → any_of p (part from n xs) ≡ true → SomePasses from n xs
  any_part zero zero xs h = absurd (true≢false (sym h))
  any_part zero (suc n) [] h = absurd (true≢false (sym h))
  any_part zero (suc n) (x ∷ xs) h =
      ⊎_elim (λ t. (0, omega arith, omega arith, omega arith, t))
      (λ t. let r = any_part zero n xs (rw t at h) in (suc r.0, omega arith, omega arith, omega arith, r.4)) (tested (p x))
  any_part (suc from) zero [] h = absurd (true≢false (sym h))
  any_part (suc from) (suc n) [] h = absurd (true≢false (sym h))
  any_part (suc from) n (x ∷ xs) h =
      let r = any_part from n xs h in (suc r.0, omega arith, omega arith, omega arith, r.4)

  part-any : (from n : ℕ) (xs : List A) (i : ℕ) → from ≤ i → i < from + n → i < length xs → p (get_or xs i d) ≡ true → any_of p (part from n xs) ≡ true
  part-any from n [] i a b c t = absurd (omega arith)
  part-any zero zero (x ∷ xs) i a b c t = absurd (omega arith)
  part-any zero (suc n) (x ∷ xs) zero a b c t = rw t
  part-any zero (suc n) (x ∷ xs) (suc i) a b c t = rw (part-any zero n xs i (omega arith) (omega arith) (omega arith) t) (or-true (p x))
  part-any (suc from) n (x ∷ xs) zero a b c t = absurd (omega arith)
  part-any (suc from) n (x ∷ xs) (suc i) a b c t = part-any from n xs i (omega arith) (omega arith) (omega arith) t

  -- so asking some decides
  pub decides_any-part : (from n : ℕ) (xs : List A) → Decides (any_of p (part from n xs)) (SomePasses from n xs)
  decides_any-part from n xs = record { holds = any_part from n xs; passes = λ s. part-any from n xs s.0 s.1 s.2 s.3 s.4 }

  all-part : (from n : ℕ) (xs : List A) → all_of p (part from n xs) ≡ true → EachPasses from n xs
  all-part from n [] h i a b c = absurd (omega arith)
  all-part zero zero (x ∷ xs) h i a b c = absurd (omega arith)
  all-part zero (suc n) (x ∷ xs) h zero a b c = and_left (p x) (all_of p (part 0 n xs)) h
  all-part zero (suc n) (x ∷ xs) h (suc i) a b c = all-part zero n xs (and_right (p x) (all_of p (part 0 n xs)) h) i (omega arith) (omega arith) (omega arith)
  all-part (suc from) n (x ∷ xs) h zero a b c = absurd (omega arith)
  all-part (suc from) n (x ∷ xs) h (suc i) a b c = all-part from n xs h i (omega arith) (omega arith) (omega arith)

  part-all : (from n : ℕ) (xs : List A) → EachPasses from n xs → all_of p (part from n xs) ≡ true
  part-all zero zero xs e = refl
  part-all zero (suc n) [] e = refl
  part-all zero (suc n) (x ∷ xs) e =
      rw (e 0 (omega arith) (omega arith) (omega arith)) (part-all zero n xs (λ i a b c. e (suc i) (omega arith) (omega arith) (omega arith)))
  part-all (suc from) zero [] e = refl
  part-all (suc from) (suc n) [] e = refl
  part-all (suc from) n (x ∷ xs) e = part-all from n xs (λ i a b c. e (suc i) (omega arith) (omega arith) (omega arith))

  -- and asking all
  pub decides_all-part : (from n : ℕ) (xs : List A) → Decides (all_of p (part from n xs)) (EachPasses from n xs)
  decides_all-part from n xs = record { holds = all-part from n xs; passes = part-all from n xs }
