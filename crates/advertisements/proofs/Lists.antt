-- Laws of lists of which one element after another is written. Assumes nothing.
use Prim.Native.Nat.{ℕ, ◌+◌, ◌-◌, ◌≤◌, ◌<◌}
use mathlib.Core.Path.{◌≡◌, refl, sym, ap, ◌∙◌}
use mathlib.Core.List.{List, [], ◌∷◌, ◌++◌, map, flatten, map-append, append_assoc, append-nil}
use native.Mathlib.Omega.{arith}
use native.Mathlib.Numerals.{add-one}
use lib.ListN.{length, take, drop, get_or}
use lib.Seq.{take-suc}
use mathlib.Core.Bool.{false}
use Rattle.advertisements.specs.declared.prefix.Prefix.{Prefix}
use Rattle.advertisements.specs.declared.route.Route.{Route}
use Rattle.advertisements.specs.declared.route.Preference.TheVariants.{Medium}
use Rattle.lent.specs.Written.{written, written_at}
use Rattle.lent.proofs.Laws.{written_at-more, written_at-fits, part-over, length-written}

-- what is read where there is no prefix
abbrev pub no_prefix : Prefix
no_prefix = record { bytes = []; valid = 0; preferred = 0; length = 0; on_link = false; autonomous = false }

-- what is read where there is no route
abbrev pub no_route : Route
no_route = record { bytes = []; lifetime = 0; length = 0; preference = Medium }

-- what stands behind one another in two lists
pub flatten_append : {A : Type 0} (xs ys : List (List A)) → flatten (xs ++ ys) ≡ flatten xs ++ flatten ys
unfolding flatten
flatten_append [] ys = refl
flatten_append (x ∷ xs) ys = ap (λ (l : List _). x ++ l) (flatten_append xs ys) ∙ sym (append_assoc x (flatten xs) (flatten ys))

module _ {A : Type 0} (f : A → List ℕ) (xs : List A) (i : ℕ) (d : A) (inside : i < length xs) where
  -- the bytes of the first i + 1 elements: those of the first i, and those of the next
  pub flatten_next : flatten (map f (take (i + 1) xs)) ≡ flatten (map f (take i xs)) ++ f (get_or xs i d)
  unfolding flatten
  flatten_next =
      rw (add-one, take-suc xs i d inside, map-append f (take i xs) (get_or xs i d ∷ []), flatten_append (map f (take i xs)) (f (get_or xs i d) ∷ []), append-nil (f (get_or xs i d)))

  -- a turn of a loop that writes the bytes of one element right behind those of the last
  pub write-next : (at : ℕ) (out : List ℕ) {out₁ out₂ : List ℕ} → length (flatten (map f (take i xs))) ≡ at → at + length (f (get_or xs i d)) ≤ length out
      → out₁ ≡ written (flatten (map f (take i xs))) out → out₂ ≡ written_at at (f (get_or xs i d)) out₁ → out₂ ≡ written (flatten (map f (take (i + 1) xs))) out
  write-next at out l h e g =
      written_at-more at (flatten (map f (take i xs))) (f (get_or xs i d)) out l h e g ∙ ap (λ (w : List ℕ). written w out) (sym flatten_next)

-- a part from `at` on, lent and written over from its start, right behind what was written
pub part-next : (w p d : List ℕ) {at : ℕ} {d₁ part d₂ : List ℕ} → d₁ ≡ written w d → part ≡ written p (take (length d₁ - at) (drop at d₁))
    → d₂ ≡ take at d₁ ++ (part ++ drop (length d₁ - at) (drop at d₁)) → length w ≡ at → at + length p ≤ length d → d₂ ≡ written (w ++ p) d
part-next w p d {at} {d₁} e f g l h =
    let room : length d₁ ≡ length d = ap length e ∙ length-written w d (omega arith) in
    let put = ap (λ (x : List ℕ). take at d₁ ++ (x ++ drop (length d₁ - at) (drop at d₁))) f ∙ part-over at p d₁ (omega arith) in
    written_at-more at w p d l h e (g ∙ put ∙ sym (written_at-fits at p d₁ (omega arith)))
