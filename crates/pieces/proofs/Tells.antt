-- What a place tells of the pieces that were taken: nothing at first, one more with each. Assumes nothing.
use Prim.Native.Nat.{ℕ, ◌≤◌, ◌<◌, max}
use mathlib.Core.Path.{◌≡◌, refl, sym, ◌∙◌}
use mathlib.Core.Logic.{◌⊎◌, ⊎_elim, inl, inr}
use mathlib.Core.Bool.{Bool, true, false, cond, true≢false}
use mathlib.Core.List.Memᴰ
use mathlib.Core.List.{List, [], ◌∷◌, Memᴰ}
use native.Mathlib.Omega.{arith}
use borrow.Author.Tests.{eqb-true, eqb-false, leb-true, leb-false}
use lib.Dec.{eqb, leb}
use Rattle.lists.specs.Any.{Some}
use Rattle.lists.proofs.Tests.{tested}
use Rattle.pieces.specs.declared.Key.{Key}
use Rattle.pieces.specs.declared.Place.{Place}
use Rattle.pieces.specs.Places.{Part, extended_to, extended, begun}
use Rattle.pieces.specs.Facts.{behind, Unfit, EndsApart, Covers}
use Rattle.pieces.specs.History.{Tells, NoneUnfit}
use Rattle.pieces.proofs.Planning.{fit_of_lem}
use Rattle.pieces.proofs.Marks.{has-none, has-own, has-before, has_either}

module _ {A : Type 0} (F : A → Type 0) where
  pub some-here : (x : A) (xs : List A) → F x → Some F (x ∷ xs)
  some-here x xs f = (x, Memᴰ.head refl, f)

  pub some-there : (x : A) (xs : List A) → Some F xs → Some F (x ∷ xs)
  some-there x xs m = (m.0, Memᴰ.tail m.1, m.2)

  pub some-none : Some F [] → ⊥
  some-none m = Memᴰ.not-nil m.1

  pub some_cases : (x : A) (xs : List A) → Some F (x ∷ xs) → F x ⊎ Some F xs
  some_cases x xs m = ⊎_elim (λ (e : m.0 ≡ x). inl (rw e at m.2)) (λ n. inr (m.0, n, m.2)) (Memᴰ.cases_cons m.1)

-- a piece that is fit has a byte, and ends past 0
pub ends-past : (q : Part) → (Unfit q → ⊥) → 0 < behind q
ends-past q n = omega (arith, (fit_of_lem q n).some)

-- what nothing tells of
pub tells_none : (key : Key) (now : ℕ) → Tells [] (begun key now)
tells_none key now = record {
  end = λ q m. absurd (Memᴰ.not-nil m);
  ended = inl refl;
  reach = λ q m. absurd (Memᴰ.not-nil m);
  reached = inl refl;
  held_by = λ u h. absurd (has-none key now u h);
  holds = λ u m. absurd (some-none (Covers u) m);
}

module _ (ps : List Part) (d : Place) (t : Tells ps d) (fit : NoneUnfit ps) (p : Part) (nf : Unfit p → ⊥) (agrees : EndsApart p d → ⊥) where
  -- the end with the piece
  abbrev end : Bool → ℕ
  end b = cond b d.end (behind p)

  abbrev reach : Bool → ℕ
  reach b = cond b (max d.reach (behind p)) d.reach

  -- those before it end where it does
  end_before : (b : Bool) → p.more ≡ b → (q : Part) → Memᴰ q ps → q.more ≡ false → behind q ≡ end b
  end_before true m q i f = t.end q i f
  end_before false m q i f =
      let e = t.end q i f in
      let some = ends-past q (fit q i) in
      ⊎_elim (λ h. e ∙ eqb-true d.end (behind p) h)
      (λ h. absurd (agrees (inr (inl (m, λ z. omega arith, eqb-false d.end (behind p) h))))) (tested (eqb d.end (behind p)))

  end-own : (b : Bool) → p.more ≡ b → p.more ≡ false → behind p ≡ end b
  end-own true m f = absurd (true≢false (sym m ∙ f))
  end-own false m f = refl

  ended-with : (b : Bool) → p.more ≡ b → (end b ≡ 0) ⊎ Some (λ (q : Part). (q.more ≡ false) × (behind q ≡ end b)) (p ∷ ps)
  ended-with true m = ⊎_elim (λ z. inl z) (λ s. inr (some-there (λ (q : Part). (q.more ≡ false) × (behind q ≡ d.end)) p ps s)) t.ended
  ended-with false m = inr (some-here (λ (q : Part). (q.more ≡ false) × (behind q ≡ behind p)) p ps (m, refl))

  reach-before : (b : Bool) → (q : Part) → Memᴰ q ps → q.more ≡ true → behind q ≤ reach b
  reach-before true q i f = omega (arith, t.reach q i f)
  reach-before false q i f = t.reach q i f

  reach-own : (b : Bool) → p.more ≡ b → p.more ≡ true → behind p ≤ reach b
  reach-own true m f = omega arith
  reach-own false m f = absurd (true≢false (sym f ∙ m))

  reached-with : (b : Bool) → p.more ≡ b → (reach b ≡ 0) ⊎ Some (λ (q : Part). (q.more ≡ true) × (behind q ≡ reach b)) (p ∷ ps)
  reached-with true m =
      ⊎_elim (λ h. inr (some-here (λ (q : Part). (q.more ≡ true) × (behind q ≡ reach true)) p ps (m, omega (arith, leb-true d.reach (behind p) h))))
      (λ h.
      let far = leb-false d.reach (behind p) h in
      ⊎_elim (λ z. absurd (omega arith))
      (λ s. inr (some-there (λ (q : Part). (q.more ≡ true) × (behind q ≡ reach true)) p ps (s.0, s.1, (s.2.0, omega (arith, s.2.1))))) t.reached)
      (tested (leb d.reach (behind p)))
  reached-with false m = ⊎_elim (λ z. inl z) (λ s. inr (some-there (λ (q : Part). (q.more ≡ true) × (behind q ≡ d.reach)) p ps s)) t.reached

  -- one more piece, that agrees about the end
  pub tells_more : Tells (p ∷ ps) (extended p d)
  unfolding extended_to
  tells_more = record {
    end = λ q i f. ⊎_elim (λ (e : q ≡ p). rw e (end-own p.more refl (rw e at f))) (λ j. end_before p.more refl q j f) (Memᴰ.cases_cons i);
    ended = ended-with p.more refl;
    reach = λ q i f. ⊎_elim (λ (e : q ≡ p). rw e (reach-own p.more refl (rw e at f))) (λ j. reach-before p.more q j f) (Memᴰ.cases_cons i);
    reached = reached-with p.more refl;
    held_by = λ u h. ⊎_elim (λ s. some-there (Covers u) p ps (t.held_by u s)) (λ s. some-here (Covers u) p ps s) (has_either p (fit_of_lem p nf) d u h);
    holds = λ u m. ⊎_elim (has-own p (fit_of_lem p nf) d u) (λ s. has-before p (fit_of_lem p nf) d u (t.holds u s)) (some_cases (Covers u) p ps m);
  }

-- the first piece of a datagram
pub tells_first : (key : Key) (now : ℕ) (p : Part) → (Unfit p → ⊥) → Tells (p ∷ []) (extended p (begun key now))
tells_first key now p nf =
    let some = ends-past p nf in
    tells_more [] (begun key now) (tells_none key now) (λ q i. absurd (Memᴰ.not-nil i)) p nf
    (⊎_elim (λ f. f.1 refl) (⊎_elim (λ f. f.1 refl) (λ f. omega (arith, f.1))))
