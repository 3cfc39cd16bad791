-- The units of a datagram with one more piece, and whether it is complete with it. Assumes nothing.
use Prim.Native.Nat.{ℕ, ◌+◌, ◌-◌, ◌*◌, ◌≤◌, ◌<◌}
use mathlib.Core.Path.{◌≡◌, refl, sym, ap, ◌∙◌}
use mathlib.Core.Logic.{◌⊎◌, ⊎_elim, inl, inr}
use mathlib.Core.Bool.{Bool, true, false, cond, not, true≢false}
use mathlib.Core.List.{List}
use native.Mathlib.Omega.{arith}
use borrow.Author.Tests.{ltb-true, ltb-false}
use lib.Dec.{eqb, ltb}
use lib.ListN.{length, get_or, replicate, get_or-replicate, length-replicate, get_or-eq_default}
use Rattle.lists.specs.Any.{all_of}
use Rattle.lists.specs.Parts.{part}
use Rattle.lists.proofs.Tests.{tested}
use Rattle.lists.proofs.Decides.{Decides, decides_as, decides_and, decides_eq, decides_not}
use Rattle.lists.proofs.PartTests.{decides_all-part}
use Rattle.lent.specs.Written.{over}
use Rattle.lent.proofs.Ranges.{get_d_inside, get_d_outside}
use Rattle.units.specs.Held.{units, marks_in, all_held, none_held}
use Rattle.units.specs.declared.Held.{Held}
use Rattle.units.proofs.Laws.{length_marks, none_marks}
use Rattle.pieces.specs.declared.Key.{Key}
use Rattle.pieces.specs.declared.Place.{Place}
use Rattle.pieces.specs.Places.{Part, units_of, count_of, extended_to, extended, begun, is_whole}
use Rattle.pieces.specs.Facts.{behind, Covers, HasUnit, Completes}
use Rattle.pieces.proofs.Cut.{Fit}
use Rattle.pieces.proofs.Apart.{marks_with, room_for}

-- nothing has come yet
pub has-none : (key : Key) (now u : ℕ) → HasUnit (begun key now) u → ⊥
has-none key now u h =
    ⊎_elim (λ l. true≢false (sym h ∙ rw none_marks (get_or-replicate units u false false (ltb-true u units l))))
    (λ l. true≢false (sym h ∙ get_or-eq_default (marks_in none_held) false {n = u} (omega (arith, length_marks none_held, ltb-false u units l)))) (tested (ltb u units))

module _ (p : Part) (fp : Fit p) (d : Place) where
  -- a unit that the piece covers
  pub has-own : (u : ℕ) → Covers u p → HasUnit (extended p d) u
  unfolding extended_to
  has-own u c =
      let w : List Bool = replicate (count_of p) true in
      let n : length w ≡ count_of p = length-replicate (count_of p) true in
      let e : u ≡ p.offset + (u - p.offset) = omega arith in
      rw (marks_with p fp d.held) (
      ap (λ (j : ℕ). get_or (over p.offset w (marks_in d.held)) j false) e
      ∙ get_d_inside p.offset w (marks_in d.held) (room_for p fp d.held) (u - p.offset) false (omega arith)
      ∙ get_or-replicate (count_of p) (u - p.offset) true false (omega arith))

  -- another
  has_other : (u : ℕ) → (u < p.offset) ⊎ (p.offset + count_of p ≤ u) → get_or (marks_in (extended p d).held) u false ≡ get_or (marks_in d.held) u false
  unfolding extended_to
  has_other u away =
      let w : List Bool = replicate (count_of p) true in
      let n : length w ≡ count_of p = length-replicate (count_of p) true in
      rw (marks_with p fp d.held) (get_d_outside p.offset w (marks_in d.held) (room_for p fp d.held) u false
      (⊎_elim (λ h. inl h) (λ h. inr (omega arith)) away))

  -- where it lies
  side : (u : ℕ) → Covers u p ⊎ ((u < p.offset) ⊎ (p.offset + count_of p ≤ u))
  side u =
      ⊎_elim (λ a. inr (inl (ltb-true u p.offset a)))
      (λ a. ⊎_elim (λ b. inl (omega (arith, ltb-false u p.offset a), omega (arith, ltb-true u (p.offset + count_of p) b))) (λ b. inr (inr (ltb-false u (p.offset + count_of p) b)))
      (tested (ltb u (p.offset + count_of p)))) (tested (ltb u p.offset))

  -- what was held stays so
  pub has-before : (u : ℕ) → HasUnit d u → HasUnit (extended p d) u
  has-before u h = ⊎_elim (λ c. has-own u c) (λ a. has_other u a ∙ h) (side u)

  -- and no other is
  pub has_either : (u : ℕ) → HasUnit (extended p d) u → HasUnit d u ⊎ Covers u p
  has_either u h = ⊎_elim (λ c. inr c) (λ a. inl (sym (has_other u a) ∙ h)) (side u)

  -- the end that is known with the piece
  end_by : (b : Bool) → p.more ≡ b → ((p.more ≡ false) × (cond b d.end (behind p) ≡ behind p)) ⊎ ((p.more ≡ true) × (cond b d.end (behind p) ≡ d.end))
  end_by true m = inr (m, refl)
  end_by false m = inl (m, refl)

  end_as : (n : ℕ) → ((p.more ≡ false) × (n ≡ behind p)) ⊎ ((p.more ≡ true) × (n ≡ d.end)) → (extended p d).end ≡ n
  unfolding extended_to
  end_as n e = ⊎_elim (λ f. rw f.0 (sym f.1)) (λ f. rw f.0 (sym f.1)) e

  -- the test asks for every unit before the end
  whole-test : Decides (is_whole (extended p d)) ((0 < (extended p d).end) × ((u : ℕ) → u < units → 8 * u < (extended p d).end → HasUnit (extended p d) u))
  unfolding is_whole all_held
  whole-test =
      let e : ℕ = (extended p d).end in
      let h : Held = (extended p d).held in
      let l = length_marks h in
      decides_as _ (decides_and (not (eqb e 0)) (all_of (λ (m : Bool). m) (part 0 (units_of e) (marks_in h))) (decides_not (eqb e 0) (decides_eq e 0)) (decides_all-part (λ (m : Bool). m) false 0 (units_of e) (marks_in h)))
      (λ f. (omega (arith, f.0), λ u i b. f.1 u (omega arith) (omega arith) (omega arith)))
      (λ f. (λ z. omega (arith, f.0), λ u a b i. f.1 u (omega arith) (omega arith)))

  -- a test of the place with the piece says what is complete with it
  pub whole_completes : is_whole (extended p d) ≡ true → Completes p d (extended p d).end
  unfolding extended_to
  whole_completes h =
      let t = whole-test.holds h in
      record { end = end_by p.more refl; some = t.0; all = λ u i b. has_either u (t.1 u i b) }

  pub completes_whole : (n : ℕ) → Completes p d n → (is_whole (extended p d) ≡ true) × ((extended p d).end ≡ n)
  completes_whole n c =
      let e = end_as n c.end in
      (whole-test.passes (omega (arith, c.some), λ u i b. ⊎_elim (has-before u) (has-own u) (c.all u i (omega arith))), e)

-- a piece by itself
module _ (p : Part) (fp : Fit p) (key : Key) (now : ℕ) where
  pub whole-alone : is_whole (extended p (begun key now)) ≡ true
      → (p.more ≡ false) × (p.offset ≡ 0) × ((extended p (begun key now)).end ≡ length p.payload)
  whole-alone h =
      let c = whole_completes p fp (begun key now) h in
      let some = c.some in
      let front : p.offset ≡ 0 = ⊎_elim (λ u. absurd (has-none key now 0 u)) (λ u. omega arith) (c.all 0 (omega arith) (omega arith)) in
      ⊎_elim (λ e. (e.0, front, omega (arith, e.1))) (λ e. absurd (omega (arith, e.1))) c.end

  pub alone-whole : p.more ≡ false → p.offset ≡ 0 → is_whole (extended p (begun key now)) ≡ true
  alone-whole m o =
      let some = fp.some in
      (completes_whole p fp (begun key now) (behind p) (record { end = inl (m, refl); some = omega arith; all = λ u i b. inr (omega arith, b) })).0
