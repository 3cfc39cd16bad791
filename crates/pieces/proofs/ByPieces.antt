-- The facts over a place are facts of the pieces that it tells of, byte by byte: only the last unit of a datagram can be there in part, and who covers
-- it ends where it does. Assumes nothing.
use Prim.Native.Nat.{ℕ, ◌*◌, ◌/◌, ◌%◌, ◌≤◌, ◌<◌}
use mathlib.Core.Path.{◌≡◌, sym, ◌∙◌}
use mathlib.Core.Logic.{◌⊎◌, ⊎_elim, inl, inr}
use mathlib.Core.Bool.{true, false, true≢false}
use mathlib.Core.List.{List, ◌∷◌, Memᴰ}
use native.Mathlib.Omega.{arith}
use borrow.Author.Tests.{eqb-true, eqb-false, leb-true, leb-false}
use lib.Dec.{eqb, leb}
use lib.ListN.{length}
use Rattle.lists.specs.Any.{Some}
use Rattle.lists.proofs.Tests.{tested}
use Rattle.pieces.specs.declared.Place.{Place}
use Rattle.pieces.specs.Places.{Part}
use Rattle.pieces.specs.Facts.{behind, Unfit, EndsApart, Covers, HasUnit, SomeHeld, Completes}
use Rattle.pieces.specs.History.{Tells, NoneUnfit, Disagree, HasByte, Whole}
use Rattle.pieces.proofs.Planning.{fit_of_lem}
use Rattle.pieces.proofs.Tells.{some-here, some-there, some_cases, ends-past}

-- what the facts over a place are, said by the pieces ps that it tells of: ends are apart exactly if the piece disagrees with one of them; some of
-- it is held exactly if it has a byte of one of them; and where it does not disagree, all of it is held exactly if each of its bytes is one
-- of theirs, and it completes the datagram exactly if with it they are whole
pub record ByPieces (ps : List Part) (d : Place) (p : Part) : Type 0 where
  pub apart : EndsApart p d → Some (Disagree p) ps
  pub disagree : Some (Disagree p) ps → EndsApart p d
  pub overlaps : SomeHeld p d → (b : ℕ) × HasByte b p × Some (HasByte b) ps
  pub some_held : (b : ℕ) → HasByte b p → Some (HasByte b) ps → SomeHeld p d
  pub known : (Some (Disagree p) ps → ⊥) → ((u : ℕ) → Covers u p → HasUnit d u) → (b : ℕ) → HasByte b p → Some (HasByte b) ps
  pub all_held : ((b : ℕ) → HasByte b p → Some (HasByte b) ps) → (u : ℕ) → Covers u p → HasUnit d u
  pub whole : (n : ℕ) → (Some (Disagree p) ps → ⊥) → Completes p d n → Whole (p ∷ ps) n
  pub completes : (n : ℕ) → (Some (Disagree p) ps → ⊥) → Whole (p ∷ ps) n → Completes p d n

-- with more-fragments set a piece that is fit is of whole units
eights : (q : Part) → (Unfit q → ⊥) → q.more ≡ true → length q.payload % 8 ≡ 0
eights q n m =
    ⊎_elim (λ t. eqb-true (length q.payload % 8) 0 t) (λ t. absurd (n (inr (inr (m, eqb-false (length q.payload % 8) 0 t))))) (tested (eqb (length q.payload % 8) 0))

-- a byte of a piece is in a unit that it covers
unit-of : (b : ℕ) (q : Part) → HasByte b q → Covers (b / 8) q
unit-of b q h = (omega arith, omega arith)

-- the first byte of a unit that a piece covers is one of the piece
byte_of : (u : ℕ) (q : Part) → Covers u q → HasByte (8 * u) q
byte_of u q c = c

-- so is each byte of the unit, if the piece is of whole units or ends behind the byte
byte_in : (b : ℕ) (q : Part) → (Unfit q → ⊥) → Covers (b / 8) q → (q.more ≡ false → b < behind q) → HasByte b q
byte_in b q n c last =
    ⊎_elim (λ m. let e = eights q n m in (omega arith, omega arith)) (λ m. let l = last m in (omega arith, l)) (tested q.more)

module _ (ps : List Part) (d : Place) (t : Tells ps d) (fit : NoneUnfit ps) (p : Part) (nf : Unfit p → ⊥) where
  apart : EndsApart p d → Some (Disagree p) ps
  apart =
      ⊎_elim
      (λ f. ⊎_elim (λ z. absurd (f.1 z)) (λ s. (s.0, s.1, inr (inl (f.0, s.2.0, omega (arith, s.2.1, f.2))))) t.ended)
      (⊎_elim
      (λ f. ⊎_elim (λ z. absurd (f.1 z)) (λ s. (s.0, s.1, inl (f.0, s.2.0, λ e. f.2 (sym s.2.1 ∙ sym e)))) t.ended)
      (λ f. ⊎_elim (λ z. absurd (omega (arith, f.1, ends-past p nf))) (λ s. (s.0, s.1, inr (inr (f.0, s.2.0, omega (arith, s.2.1, f.1))))) t.reached))

  disagree : Some (Disagree p) ps → EndsApart p d
  disagree s =
      let q = s.0 in
      let some = ends-past q (fit q s.1) in
      ⊎_elim (λ f. let e = t.end q s.1 f.1 in inr (inl (f.0, λ z. omega arith, λ g. f.2 (sym g ∙ sym e))))
      (⊎_elim (λ f. let e = t.end q s.1 f.1 in inl (f.0, λ z. omega arith, omega (arith, f.2)))
      (λ f. inr (inr (f.0, omega (arith, f.2, t.reach q s.1 f.1))))) s.2

  module _ (agree : Some (Disagree p) ps → ⊥) where
    -- a byte of the piece stands before the end of a piece with more-fragments clear
    before-end : (b : ℕ) → b < behind p → (q : Part) → Memᴰ q ps → q.more ≡ false → b < behind q
    before-end b h q i f =
        ⊎_elim
        (λ m. ⊎_elim (λ l. absurd (agree (q, i, inr (inl (m, f, leb-true (behind q) (behind p) l))))) (λ l. omega (arith, leb-false (behind q) (behind p) l)) (tested (leb (behind q) (behind p))))
        (λ m. ⊎_elim (λ l. omega (arith, eqb-true (behind p) (behind q) l)) (λ l. absurd (agree (q, i, inl (m, f, eqb-false (behind p) (behind q) l)))) (tested (eqb (behind p) (behind q))))
        (tested p.more)

    known : ((u : ℕ) → Covers u p → HasUnit d u) → (b : ℕ) → HasByte b p → Some (HasByte b) ps
    known all b h =
        let s = t.held_by (b / 8) (all (b / 8) (unit-of b p h)) in
        (s.0, s.1, byte_in b s.0 (fit s.0 s.1) s.2 (before-end b h.1 s.0 s.1))

    -- the end n that the piece and those before it have
    final : (n : ℕ) → Completes p d n → Some (λ (q : Part). (q.more ≡ false) × (behind q ≡ n)) (p ∷ ps)
    final n c =
        let some = c.some in
        ⊎_elim (λ e. some-here (λ (q : Part). (q.more ≡ false) × (behind q ≡ n)) p ps (e.0, sym e.1))
        (λ e. ⊎_elim (λ z. absurd (omega (arith, e.1)))
        (λ s. some-there (λ (q : Part). (q.more ≡ false) × (behind q ≡ n)) p ps (s.0, s.1, (s.2.0, s.2.1 ∙ sym e.1))) t.ended) c.end

    -- a byte before it stands before the end of a piece with more-fragments clear
    before-all : (n : ℕ) → Completes p d n → (b : ℕ) → b < n → (q : Part) → Memᴰ q ps → q.more ≡ false → b < behind q
    before-all n c b h q i f =
        ⊎_elim (λ e. before-end b (omega (arith, e.1)) q i f) (λ e. omega (arith, e.1, t.end q i f)) c.end

    inside : (n : ℕ) → Completes p d n → n ≤ 2048
    inside n c =
        ⊎_elim (λ e. omega (arith, e.1, (fit_of_lem p nf).inside))
        (λ e. ⊎_elim (λ z. omega (arith, e.1)) (λ s. omega (arith, e.1, s.2.1, (fit_of_lem s.0 (fit s.0 s.1)).inside)) t.ended) c.end

    whole : (n : ℕ) → Completes p d n → Whole (p ∷ ps) n
    whole n c = record {
      final = final n c;
      all = λ b h.
          ⊎_elim
          (λ u.
          let s = t.held_by (b / 8) u in
          some-there (HasByte b) p ps (s.0, s.1, byte_in b s.0 (fit s.0 s.1) s.2 (before-all n c b h s.0 s.1)))
          (λ u. some-here (HasByte b) p ps (byte_in b p nf u (own b h)))
          (c.all (b / 8) (omega (arith, inside n c)) (omega arith));
    }
      where
        own : (b : ℕ) → b < n → p.more ≡ false → b < behind p
        own b h f = ⊎_elim (λ e. omega (arith, e.1)) (λ e. absurd (true≢false (sym e.0 ∙ f))) c.end

    -- the piece and one of those before it that have more-fragments clear end alike
    alike : (q : Part) → Memᴰ q ps → p.more ≡ false → q.more ≡ false → behind q ≡ behind p
    alike q i m f =
        ⊎_elim (λ l. sym (eqb-true (behind p) (behind q) l)) (λ l. absurd (agree (q, i, inl (m, f, eqb-false (behind p) (behind q) l)))) (tested (eqb (behind p) (behind q)))

    completes : (n : ℕ) → Whole (p ∷ ps) n → Completes p d n
    completes n w = record {
      end = ⊎_elim (λ m. inr (m, late m)) (λ m. inl (m, last m)) (tested p.more);
      some = ⊎_elim (λ f. omega (arith, f.1, ends-past p nf)) (λ s. omega (arith, s.2.1, ends-past s.0 (fit s.0 s.1))) ends;
      all = λ u i h. ⊎_elim (λ b. inr b) (λ s. inl (t.holds u s)) (some_cases (HasByte (8 * u)) p ps (w.all (8 * u) h));
    }
      where
        ends : ((p.more ≡ false) × (behind p ≡ n)) ⊎ Some (λ (q : Part). (q.more ≡ false) × (behind q ≡ n)) ps
        ends = some_cases (λ (q : Part). (q.more ≡ false) × (behind q ≡ n)) p ps w.final

        late : p.more ≡ true → n ≡ d.end
        late m = ⊎_elim (λ f. absurd (true≢false (sym m ∙ f.0))) (λ s. sym s.2.1 ∙ t.end s.0 s.1 s.2.0) ends

        last : p.more ≡ false → n ≡ behind p
        last m = ⊎_elim (λ f. sym f.1) (λ s. sym s.2.1 ∙ alike s.0 s.1 m s.2.0) ends

  pub by_pieces : ByPieces ps d p
  by_pieces = record {
    apart = apart;
    disagree = disagree;
    overlaps = λ s. let m = t.held_by s.0 s.2 in (8 * s.0, byte_of s.0 p s.1, m);
    some_held = λ b h s. (b / 8, unit-of b p h, t.holds (b / 8) (s.0, s.1, unit-of b s.0 s.2));
    known = known;
    all_held = λ all u c. t.holds u (all (8 * u) (byte_of u p c));
    whole = λ n agree. whole agree n;
    completes = λ n agree. completes agree n;
  }
