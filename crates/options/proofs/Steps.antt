-- What the options say, an option at a time.
-- Assumes nothing.
use Rattle.std.specs.Prelude.{Option, Some, None}
use mathlib.Core.Path.{◌≡◌, refl, sym, ap, ◌∙◌}
use mathlib.Core.List.{List, [], ◌∷◌, ◌++◌, map, flatten, append-nil}
use mathlib.Core.Bool.{Bool, true, false, cond, or-false, or_assoc}
use Prim.Native.Nat.{ℕ, ◌+◌, ◌≤◌, min}
use native.Mathlib.Decide.{ℕ_discrete}
use native.Mathlib.Omega.{arith}
use lib.ListN.{length, take, drop, length-append, length-take, length-drop}
use lib.Seq.{get_or-take}
use lib.Dec.{eqb}
use borrow.Author.Tests.{eq-eqb, ne_eqb}
use Rattle.options.specs.declared.Options.{Options}
use Rattle.options.specs.declared.Found.{Found}
use Rattle.options.specs.Options.{option_size, options_from, options_of, are_options_whole}
use Rattle.options.specs.Lifetimes.{lifetime_of, is_counted, counted, least_of, smallest_of}
use Rattle.options.specs.SoFar.{so_far, shorter_of, found_with, read_of}
use Rattle.options.proofs.Sizes.{size_fits, size-least, options-none, options-cons}

pub so_far_lem : (s : Option ℕ) → smallest_of (so_far s) ≡ s
unfolding least_of
so_far_lem (Some s) = refl
so_far_lem None = refl

-- one lifetime more, by whether it counts
pub shorter-kept : (s : Option ℕ) (l : ℕ) → is_counted l ≡ false → s ≡ shorter_of s l
unfolding shorter_of counted
shorter-kept s l e = sym (so_far_lem s) ∙ cc (append-nil (so_far s))

pub shorter-first : (l : ℕ) → is_counted l ≡ true → Some l ≡ shorter_of None l
unfolding shorter_of counted least_of
shorter-first l e = cc

pub shorter-more : (s l : ℕ) → is_counted l ≡ true → Some (min s l) ≡ shorter_of (Some s) l
unfolding shorter_of counted least_of
shorter-more s l e = cc

-- a lifetime that goes into the smallest so far is one of the lifetimes
pub shorter-counted : (s : Option ℕ) (l : ℕ) (ls : List ℕ) → smallest_of (so_far (shorter_of s l) ++ counted ls) ≡ smallest_of (so_far s ++ counted (l ∷ ls))
unfolding shorter_of counted least_of
shorter-counted s l ls = go s (is_counted l)
  where
    go : (s : Option ℕ) (t : Bool)
        → smallest_of (so_far (smallest_of (so_far s ++ cond t (l ∷ []) [])) ++ counted ls) ≡ smallest_of (so_far s ++ cond t (l ∷ counted ls) (counted ls))
    go (Some s) true = refl
    go (Some s) false = refl
    go None true = refl
    go None false = refl

eqb_add : (n x y : ℕ) → eqb (n + x) (n + y) ≡ eqb x y
eqb_add n x y = go (ℕ_discrete x y)
  where
    go : Dec (x ≡ y) → eqb (n + x) (n + y) ≡ eqb x y
    go (yes e) = rw (eq-eqb x y e, eq-eqb (n + x) (n + y) (ap (λ (k : ℕ). n + k) e))
    go (no ne) = rw (ne_eqb x y ne, ne_eqb (n + x) (n + y) (λ e. ne (omega arith)))

-- the lifetime of an option is that of the bytes that it begins
lifetime-first : (n : ℕ) (bs : List ℕ) → 8 ≤ n → lifetime_of (take n bs) ≡ lifetime_of bs
unfolding lifetime_of
lifetime-first n bs h =
    rw (
      get_or-take n bs 0 0 (omega arith),
      get_or-take n bs 1 0 (omega arith),
      get_or-take n bs 4 0 (omega arith),
      get_or-take n bs 5 0 (omega arith),
      get_or-take n bs 6 0 (omega arith),
      get_or-take n bs 7 0 (omega arith),
    )

-- what the options say, where no more of them is found
abbrev pub options_with : Bool → Found → Options
options_with whole f = record { whole = whole; smallest = f.smallest; source_link_layer = f.source_link_layer }

pub read-end : (bs : List ℕ) (f : Found) → length bs ≡ 0 → options_with true f ≡ read_of bs f
unfolding are_options_whole options_from flatten counted
read-end [] f h = rw (append-nil, so_far_lem f.smallest, or-false)
read-end (b ∷ bs) f h = absurd (omega arith)

-- an option that has length 0 or runs past the end
pub read_bad : (bs : List ℕ) (f : Found) → (length bs ≡ 0 → ⊥) → option_size bs ≡ 0 → options_with false f ≡ read_of bs f
unfolding are_options_whole flatten counted
read_bad bs f h e = rw (options-none bs e, append-nil, so_far_lem f.smallest, or-false, ne_eqb 0 (length bs) (λ z. h (sym z)))

module _ (bs : List ℕ) (good : option_size bs ≡ 0 → ⊥) where
  whole-on : are_options_whole bs ≡ are_options_whole (drop (option_size bs) bs)
  unfolding are_options_whole flatten
  whole-on =
      let n = option_size bs in
      let rest = drop n bs in
      let all : length bs ≡ n + length rest = omega (arith, size_fits bs, length-drop n bs) in
      let option : length (take n bs) ≡ n = omega (arith, size_fits bs, length-take n bs) in
      rw (options-cons bs good, length-append, option, all, eqb_add)

  -- the options after a good one
  pub read-on : (f : Found) → read_of (drop (option_size bs) bs) (found_with f bs) ≡ read_of bs f
  unfolding found_with
  read-on f =
      let rest = options_of (drop (option_size bs) bs) in
      let least = size-least bs good in
      rw (whole-on, options-cons bs good, lifetime-first (option_size bs) bs least, get_or-take (option_size bs) bs 0 0 (omega arith))
      (rw (shorter-counted f.smallest (lifetime_of bs) (map lifetime_of rest), or_assoc f.source_link_layer))
