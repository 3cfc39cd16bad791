-- The chain of extension headers, a header at a time. Assumes nothing.
use Prim.Native.Nat.{ℕ, zero, suc, ◌+◌, ◌*◌, ◌≤◌, ◌<◌, pred}
use mathlib.Core.Path.{◌≡◌, refl}
use mathlib.Core.Bool.{Bool, true, false, cond, not, ◌&&◌, ◌||◌, and-false}
use mathlib.Core.List.{List, [], ◌∷◌}
use native.Mathlib.Decide.{ℕ_discrete}
use native.Mathlib.Omega.{arith}
use lib.ListN.{get_or, length, drop}
use lib.Dec.{eqb, leb}
use borrow.Author.Tests.{leb-true, leb-false, ne_eqb}
use Rattle.std.specs.Option.{is_some}
use Rattle.std.specs.Prelude.{Some}
use Rattle.header.specs.Chain.{fragment, is_extension, extension_length, is_later_fragment, is_quiet, may_draw_from, chain_may_draw}
use Rattle.header.specs.Walks.{passed_length, some_length}

-- a length that is told, and that none is
pub told : (n k : ℕ) → some_length n ≡ Some k → (n ≡ k) × (n ≡ 0 → ⊥)
told zero k e = let no : ◌≡◌ {A = ℕ} 0 1 = cc in absurd (omega arith)
told (suc n) k e = let same = rw (ne_eqb (suc n) 0 (λ z. omega arith)) at e in (cc, λ z. omega arith)

pub not_told : (n : ℕ) → is_some (some_length n) ≡ false → n ≡ 0
not_told zero e = refl
not_told (suc n) e =
    let other = rw (ne_eqb (suc n) 0 (λ z. omega arith)) at e in
    let no : ◌≡◌ {A = ℕ} 0 1 = cc in
    absurd (omega arith)

pub is_told : (n : ℕ) → is_some (some_length n) ≡ true → n ≡ 0 → ⊥
is_told zero e z = let no : ◌≡◌ {A = ℕ} 0 1 = cc in omega arith
is_told (suc n) e z = omega arith

pub told_length : (n : ℕ) → (n ≡ 0 → ⊥) → some_length n ≡ Some n
told_length n good = rw (ne_eqb n 0 good)

-- a header has at least 8 bytes
pub extension-least : (next : ℕ) (bs : List ℕ) → 8 ≤ extension_length next bs
extension-least next bs = go (eqb next fragment)
  where
    go : (t : Bool) → 8 ≤ cond t 8 ((get_or bs 1 0 + 1) * 8)
    go true = omega arith
    go false = omega arith

-- bytes that are to be passed, and are there
passed : (k next : ℕ) (bs : List ℕ) → k ≤ length bs → may_draw_from k next bs ≡ chain_may_draw next (drop k bs)
unfolding may_draw_from
passed zero next bs h = refl
passed (suc k) next [] h = absurd (omega arith)
passed (suc k) next (b ∷ bs) h = passed k next bs (omega arith)

-- bytes that are to be passed, and are not all there
past : (k next : ℕ) (bs : List ℕ) → length bs < k → may_draw_from k next bs ≡ false
unfolding may_draw_from
past zero next bs h = absurd (omega arith)
past (suc k) next [] h = refl
past (suc k) next (b ∷ bs) h = past k next bs (omega arith)

-- an upper layer
pub chain-upper : (next : ℕ) (bs : List ℕ) → is_extension next ≡ false → chain_may_draw next bs ≡ not (is_quiet next bs)
unfolding may_draw_from
chain-upper next [] e = rw e
chain-upper next (b ∷ bs) e = rw e

-- a later fragment
pub chain-later : (next : ℕ) (bs : List ℕ) → is_extension next ≡ true → is_later_fragment next bs ≡ true → chain_may_draw next bs ≡ false
unfolding may_draw_from
chain-later next [] e l = rw e
chain-later next (b ∷ bs) e l = rw (e, l)

-- a header that runs past the end
chain-past : (next : ℕ) (bs : List ℕ) → is_extension next ≡ true → length bs < extension_length next bs → chain_may_draw next bs ≡ false
unfolding may_draw_from
chain-past next [] e h = rw e
chain-past next (b ∷ bs) e h =
    let least = extension-least next (b ∷ bs) in
    rw (e, past (pred (extension_length next (b ∷ bs))) b bs (omega arith)) (and-false (not (is_later_fragment next (b ∷ bs))))

-- a header that is there, and what stands behind it
pub chain-on : (next : ℕ) (bs : List ℕ) → is_extension next ≡ true → is_later_fragment next bs ≡ false → extension_length next bs ≤ length bs
    → chain_may_draw next bs ≡ chain_may_draw (get_or bs 0 0) (drop (extension_length next bs) bs)
unfolding may_draw_from
chain-on next [] e l h = absurd (omega (arith, extension-least next []))
chain-on next (b ∷ bs) e l h = rw (e, l) (behind (extension_length next (b ∷ bs)) (extension-least next (b ∷ bs)) h)
  where
    behind : (n : ℕ) → 8 ≤ n → n ≤ length (b ∷ bs) → may_draw_from (pred n) b bs ≡ chain_may_draw b (drop n (b ∷ bs))
    behind zero least h = absurd (omega arith)
    behind (suc n) least h = passed n b bs (omega arith)

-- a header that is passed
pub record Passed (next : ℕ) (bs : List ℕ) : Type 0 where
  pub extension : is_extension next ≡ true
  pub not_later : is_later_fragment next bs ≡ false
  pub there : extension_length next bs ≤ length bs
  pub size : passed_length next bs ≡ extension_length next bs

module _ (next : ℕ) (bs : List ℕ) where
  pub is-passed : (passed_length next bs ≡ 0 → ⊥) → Passed next bs
  unfolding passed_length
  is-passed good = go (is_extension next) (is_later_fragment next bs) (leb (extension_length next bs) (length bs)) refl refl refl good
    where
      go : (x l f : Bool) → is_extension next ≡ x → is_later_fragment next bs ≡ l → leb (extension_length next bs) (length bs) ≡ f
          → (cond (x && not l && f) (extension_length next bs) 0 ≡ 0 → ⊥) → Passed next bs
      go true false true ex el ef good = record { extension = ex; not_later = el; there = leb-true _ _ ef; size = rw (ex, el, ef) }
      go true false false ex el ef good = absurd (good refl)
      go true true f ex el ef good = absurd (good refl)
      go false l f ex el ef good = absurd (good refl)

  -- none is passed where no header fits
  pub passed-short : length bs < 8 → passed_length next bs ≡ 0
  passed-short few = go (ℕ_discrete (passed_length next bs) 0)
    where
      go : Dec (passed_length next bs ≡ 0) → passed_length next bs ≡ 0
      go (yes e) = e
      go (no good) = absurd (omega (arith, few, (is-passed good).there, extension-least next bs))

  pub passed-least : (passed_length next bs ≡ 0 → ⊥) → 8 ≤ passed_length next bs
  passed-least good = rw (is-passed good).size (extension-least next bs)

  pub passed_on : (passed_length next bs ≡ 0 → ⊥) → chain_may_draw next bs ≡ chain_may_draw (get_or bs 0 0) (drop (passed_length next bs) bs)
  passed_on good = let p = is-passed good in rw p.size (chain-on next bs p.extension p.not_later p.there)

  pub passed-fits : passed_length next bs ≤ length bs
  passed-fits = go (ℕ_discrete (passed_length next bs) 0)
    where
      go : Dec (passed_length next bs ≡ 0) → passed_length next bs ≤ length bs
      go (yes e) = omega arith
      go (no good) = omega (arith, (is-passed good).there, (is-passed good).size)

  -- where none is passed, an upper layer stands there, or no message is drawn
  pub passed_none : passed_length next bs ≡ 0 → chain_may_draw next bs ≡ not (is_extension next || is_quiet next bs)
  unfolding passed_length
  passed_none none = go (is_extension next) (is_later_fragment next bs) (leb (extension_length next bs) (length bs)) refl refl refl none
    where
      go : (x l f : Bool) → is_extension next ≡ x → is_later_fragment next bs ≡ l → leb (extension_length next bs) (length bs) ≡ f
          → cond (x && not l && f) (extension_length next bs) 0 ≡ 0 → chain_may_draw next bs ≡ not (x || is_quiet next bs)
      go true false true ex el ef none = absurd (omega (arith, none, extension-least next bs))
      go true false false ex el ef none = chain-past next bs ex (omega (arith, leb-false (extension_length next bs) (length bs) ef))
      go true true f ex el ef none = chain-later next bs ex el
      go false l f ex el ef none = chain-upper next bs ex
