-- Each test on a piece decides a plain fact. Assumes nothing.
use Prim.Native.Nat.{ℕ, ◌+◌, ◌%◌}
use mathlib.Core.Path.{◌≡◌, refl, sym, ap₂, ◌∙◌}
use mathlib.Core.Logic.{⊎_elim, inl, inr}
use mathlib.Core.Bool.{Bool, true, false, cond, not, ◌&&◌, ◌||◌, true≢false}
use mathlib.Core.List.{List, [], ◌∷◌}
use native.Mathlib.Omega.{arith}
use borrow.Author.Tests.{eqb-true}
use lib.Dec.{eqb, leb, ltb}
use lib.ListN.{length}
use Rattle.lists.proofs.Decides.{Decides, decides_not, decides_as, decides_eq, decides_le, decides_lt, decides_or, decides_and}
use Rattle.lists.proofs.Tests.{and_left, and_right}
use Rattle.lists.proofs.PartTests.{decides_any-part, decides_all-part}
use Rattle.units.specs.Held.{marks_in, any_held, all_held}
use Rattle.units.proofs.Laws.{length_marks}
use Rattle.pieces.specs.declared.Key.{Key}
use Rattle.pieces.specs.declared.Place.{Place}
use Rattle.pieces.specs.Places.{Part, room, lifetime, end_of, count_of, unfit, is_unfit, is_same, is_live, is_free, is_of, ends_apart, is_apart, is_equal, bytes_of}
use Rattle.pieces.specs.Facts.{behind, Unfit, SameKey, Live, LiveOf, EndsApart, Covers, HasUnit, SomeHeld, Repeats}
use Rattle.pieces.proofs.Keys.{equal-same}
use Rattle.pieces.proofs.Cut.{Fit}
use Rattle.pieces.proofs.Apart.{within}

-- ---- a piece, a key, a time

decides_flag : (b : Bool) → Decides b (b ≡ true)
decides_flag b = record { holds = λ h. h; passes = λ h. h }

pub decides_unfit : (p : Part) → Decides (is_unfit p) (Unfit p)
unfolding unfit
decides_unfit p =
    let n : ℕ = length p.payload in
    let long = decides_or (eqb n 0) (ltb room (end_of p)) (decides_eq n 0) (decides_lt room (end_of p)) in
    let odd = decides_and p.more (not (eqb (n % 8) 0)) (decides_flag p.more) (decides_not (eqb (n % 8) 0) (decides_eq (n % 8) 0)) in
    decides_as (is_unfit p) (decides_or (eqb n 0 || ltb room (end_of p)) (p.more && not (eqb (n % 8) 0)) long odd)
    (⊎_elim (⊎_elim inl (λ h. inr (inl h))) (λ h. inr (inr h))) (⊎_elim (λ h. inl (inl h)) (⊎_elim (λ h. inl (inr h)) inr))

pub decides_same : (a b : Key) → Decides (is_same a b) (SameKey a b)
unfolding is_same
decides_same a b =
    let s = decides_eq a.source b.source in
    let d = decides_eq a.destination b.destination in
    let p = decides_eq a.protocol b.protocol in
    let i = decides_eq a.identification b.identification in
    decides_as (is_same a b) (decides_and _ _ (decides_and _ _ (decides_and _ _ s d) p) i)
    (λ f. record { source = f.0.0.0; destination = f.0.0.1; protocol = f.0.1; identification = f.1 })
    (λ f. (((f.source, f.destination), f.protocol), f.identification))

module _ (now : ℕ) (d : Place) where
  pub decides_live : Decides (is_live now d) (Live now d)
  unfolding is_live
  decides_live =
      decides_as (is_live now d) (decides_and (not (eqb d.used 0)) (ltb now (d.first + lifetime)) (decides_not _ (decides_eq d.used 0)) (decides_lt now (d.first + lifetime)))
      (λ f. record { used = f.0; young = f.1 }) (λ f. (f.used, f.young))

  pub decides_free : Decides (is_free now d) (Live now d → ⊥)
  unfolding is_free
  decides_free = decides_not (is_live now d) decides_live

  pub decides_live-of : (key : Key) → Decides (is_of key now d) (LiveOf now key d)
  unfolding is_of
  decides_live-of key =
      decides_as (is_of key now d) (decides_and (is_live now d) (is_same key d.key) decides_live (decides_same key d.key))
      (λ f. record { live = f.0; same = f.1 }) (λ f. (f.live, f.same))

-- ---- a piece and a place

pub decides_apart : (p : Part) (d : Place) → Decides (is_apart p d) (EndsApart p d)
unfolding ends_apart
decides_apart p d = go p.more refl
  where
    go : (b : Bool) → p.more ≡ b → Decides (cond b (not (eqb d.end 0) && leb d.end (behind p)) ((not (eqb d.end 0) && not (eqb d.end (behind p))) || leb (behind p) d.reach)) (EndsApart p d)
    go true m =
        decides_as (not (eqb d.end 0) && leb d.end (behind p)) (decides_and (not (eqb d.end 0)) (leb d.end (behind p)) (decides_not (eqb d.end 0) (decides_eq d.end 0)) (decides_le d.end (behind p)))
        (λ f. inl (m, f.0, f.1))
        (⊎_elim (λ f. (f.1, f.2)) (⊎_elim (λ f. absurd (true≢false (sym m ∙ f.0))) (λ f. absurd (true≢false (sym m ∙ f.0)))))
    go false m =
        decides_as ((not (eqb d.end 0) && not (eqb d.end (behind p))) || leb (behind p) d.reach)
        (decides_or (not (eqb d.end 0) && not (eqb d.end (behind p))) (leb (behind p) d.reach)
        (decides_and (not (eqb d.end 0)) (not (eqb d.end (behind p))) (decides_not (eqb d.end 0) (decides_eq d.end 0)) (decides_not (eqb d.end (behind p)) (decides_eq d.end (behind p)))) (decides_le (behind p) d.reach))
        (⊎_elim (λ f. inr (inl (m, f.0, f.1))) (λ f. inr (inr (m, f))))
        (⊎_elim (λ f. absurd (true≢false (sym f.0 ∙ m))) (⊎_elim (λ f. inl (f.1, f.2)) (λ f. inr f.1)))

module _ (p : Part) (d : Place) (fp : Fit p) where
  pub decides_some-held : Decides (any_held d.held p.offset (count_of p)) (SomeHeld p d)
  unfolding any_held
  decides_some-held =
      let l = length_marks d.held in
      let w = within p fp in
      decides_as _ (decides_any-part (λ (m : Bool). m) false p.offset (count_of p) (marks_in d.held))
      (λ f. let i : ℕ = f.0 in let a = f.1 in let b = f.2 in (i, (omega arith, omega arith), f.4))
      (λ f. let u : ℕ = f.0 in let a = f.1.0 in let b = f.1.1 in (u, omega arith, omega arith, omega arith, f.2))

  pub decides_all-held : Decides (all_held d.held p.offset (count_of p)) ((u : ℕ) → Covers u p → HasUnit d u)
  unfolding all_held
  decides_all-held =
      let l = length_marks d.held in
      let w = within p fp in
      decides_as _ (decides_all-part (λ (m : Bool). m) false p.offset (count_of p) (marks_in d.held))
      (λ f u c. f u (omega arith) (omega arith) (omega arith))
      (λ f u a b c. f u (omega arith, omega arith))

equal_so : (xs ys : List ℕ) → is_equal xs ys ≡ true → xs ≡ ys
equal_so [] [] h = refl
equal_so [] (y ∷ ys) h = absurd (true≢false (sym h))
equal_so (x ∷ xs) [] h = absurd (true≢false (sym h))
equal_so (x ∷ xs) (y ∷ ys) h =
    ap₂ (λ (z : ℕ) (zs : List ℕ). z ∷ zs) (eqb-true x y (and_left (eqb x y) (is_equal xs ys) h)) (equal_so xs ys (and_right (eqb x y) (is_equal xs ys) h))

pub decides_equal : (xs ys : List ℕ) → Decides (is_equal xs ys) (xs ≡ ys)
decides_equal xs ys = record { holds = equal_so xs ys; passes = λ e. rw e (equal-same ys) }

pub decides_repeats : (k : ℕ) (p : Part) (d : Place) (memory : List ℕ) → Fit p
    → Decides (all_held d.held p.offset (count_of p) && is_equal (bytes_of k p memory) p.payload) (Repeats k p d memory)
decides_repeats k p d memory fp =
    decides_as _ (decides_and _ _ (decides_all-held p d fp) (decides_equal (bytes_of k p memory) p.payload))
    (λ f. record { held = f.0; same = f.1 }) (λ f. (f.held, f.same))
