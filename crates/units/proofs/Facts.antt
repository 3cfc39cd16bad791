-- The marks say which units are held; the tests ask this of some or of all units of a range, and those held besides are just the range's. Assumes nothing.
use Prim.Native.Nat.{ℕ, zero, suc, ◌+◌, ◌-◌, ◌/◌, ◌%◌, ◌^◌, ◌<◌, min}
use mathlib.Core.Path.{◌≡◌, refl, sym, ap, ◌∙◌}
use mathlib.Core.Logic.{◌⊎◌, ◌↔◌}
use mathlib.Core.Bool.{Bool, true, false, ◌&&◌, or-true, true≢false}
use mathlib.Core.List.{List, [], ◌∷◌, ◌++◌}
use native.Mathlib.Nat.{add-sub_cancel_left}
use native.Mathlib.Omega.{arith}
use lib.Dec.{leb, ltb}
use lib.ListN.{length, get_or, drop, length-take, length-drop, get_or-append}
use lib.Seq.{get_or-append-add, get_or-take, get_or-drop}
use Rattle.lists.specs.Any.{any_of, all_of}
use Rattle.lists.specs.Parts.{part}
use Rattle.lists.proofs.Tests.{and_left, and_right}
use Rattle.lists.proofs.Decides.{Decides, decides_eq, decides_le, decides_lt, decides_and, decides_or}
use Rattle.units.specs.declared.Held.{Held}
use Rattle.units.specs.Held.{bits_of, marks_in, any_held, all_held, held_with}
use Rattle.units.specs.Facts.{Holds, Among}
use Rattle.units.proofs.Bits.{bit_at}
use Rattle.units.proofs.Ranges.{marked_over, marked_at}
use Rattle.units.proofs.Laws.{length_marks, held-over}

-- behind a list stands the next
there : (a b : List Bool) (i j : ℕ) → length a + j ≡ i → get_or (a ++ b) i false ≡ get_or b j false
there a b i j e = ap (λ (k : ℕ). get_or (a ++ b) k false) (sym e) ∙ get_or-append-add a b j false

module _ (h : Held) (u : ℕ) (inside : u < 256) where
  in-word : (q : ℕ) → u / 64 ≡ q → get_or (marks_in h) u false ≡ get_or (bits_of 64 (get_or h.words q 0)) (u % 64) false
  unfolding marks_in
  in-word q e = go q e
    where
      w : ℕ → List Bool
      w i = bits_of 64 (get_or h.words i 0)

      go : (q : ℕ) → u / 64 ≡ q → get_or (w 0 ++ (w 1 ++ (w 2 ++ w 3))) u false ≡ get_or (w q) (u % 64) false
      go zero e = there [] (w 0 ++ (w 1 ++ (w 2 ++ w 3))) u (u % 64) (omega arith) ∙ get_or-append (w 0) (w 1 ++ (w 2 ++ w 3)) false (u % 64) (omega arith)
      go (suc zero) e = there (w 0) (w 1 ++ (w 2 ++ w 3)) u (u % 64) (omega arith) ∙ get_or-append (w 1) (w 2 ++ w 3) false (u % 64) (omega arith)
      go (suc (suc zero)) e =
          there (w 0) (w 1 ++ (w 2 ++ w 3)) u (u - 64) (omega arith) ∙ there (w 1) (w 2 ++ w 3) (u - 64) (u % 64) (omega arith)
          ∙ get_or-append (w 2) (w 3) false (u % 64) (omega arith)
      go (suc (suc (suc zero))) e =
          there (w 0) (w 1 ++ (w 2 ++ w 3)) u (u - 64) (omega arith) ∙ there (w 1) (w 2 ++ w 3) (u - 64) (u - 128) (omega arith)
          ∙ there (w 2) (w 3) (u - 128) (u % 64) (omega arith)
      go (suc (suc (suc (suc q)))) e = absurd (omega arith)

  -- a mark is set exactly if its unit is held
  pub marks_holds : Decides (get_or (marks_in h) u false) (Holds h u)
  marks_holds =
      let bit = in-word (u / 64) refl ∙ bit_at 64 (u % 64) (get_or h.words (u / 64) 0) (omega arith) in
      rw bit (decides_eq (get_or h.words (u / 64) 0 / 2 ^ (u % 64) % 2) 1)

any_at : (bs : List Bool) → any_of (λ (b : Bool). b) bs ≡ true → (i : ℕ) × (i < length bs) × (get_or bs i false ≡ true)
any_at [] e = absurd (true≢false (sym e))
any_at (true ∷ bs) e = (0, omega arith, refl)
any_at (false ∷ bs) e = let m = any_at bs e in (suc m.0, omega arith, m.2)

at-any : (bs : List Bool) (i : ℕ) → get_or bs i false ≡ true → any_of (λ (b : Bool). b) bs ≡ true
at-any [] i e = e
at-any (b ∷ bs) zero e = rw e
at-any (b ∷ bs) (suc i) e = rw (at-any bs i e) (or-true b)

all-at : (bs : List Bool) (i : ℕ) → i < length bs → all_of (λ (b : Bool). b) bs ≡ true → get_or bs i false ≡ true
all-at [] i l e = absurd (omega arith)
all-at (b ∷ bs) zero l e = and_left b (all_of (λ (b : Bool). b) bs) e
all-at (b ∷ bs) (suc i) l e = all-at bs i (omega arith) (and_right b (all_of (λ (b : Bool). b) bs) e)

at_all : (bs : List Bool) → ((i : ℕ) → i < length bs → get_or bs i false ≡ true) → all_of (λ (b : Bool). b) bs ≡ true
at_all [] f = refl
at_all (b ∷ bs) f = rw (f 0 (omega arith), at_all bs (λ i l. f (suc i) (omega arith)))

module _ (h : Held) (from n : ℕ) where
  abbrev ms : List Bool
  ms = part from n (marks_in h)

  long : length ms ≡ min n (256 - from)
  long = rw (length-take, length-drop, length_marks h)

  -- the marks of the range
  mark_holds : (u : ℕ) → Among from n u → u < 256 → Decides (get_or ms (u - from) false) (Holds h u)
  mark_holds u a inside =
      let same : from + (u - from) ≡ u = omega arith in
      let mark = get_or-take n (drop from (marks_in h)) (u - from) false (omega arith) ∙ get_or-drop from (marks_in h) (u - from) false in
      rw (mark ∙ ap (λ (k : ℕ). get_or (marks_in h) k false) same) (marks_holds h u inside)

  back : (i : ℕ) → get_or ms (from + i - from) false ≡ get_or ms i false
  back i = ap (λ (k : ℕ). get_or ms k false) (add-sub_cancel_left from i)

  -- some unit of the range is held
  pub any-holds : Decides (any_held h from n) ((u : ℕ) × Among from n u × (u < 256) × Holds h u)
  unfolding any_held
  any-holds = record {
    holds = λ e.
        let (i, l, m) = any_at ms e in
        let a : Among from n (from + i) × (from + i < 256) = omega (arith, long) in
        (from + i, a.0, a.1, (mark_holds (from + i) a.0 a.1).holds (back i ∙ m));
    passes = λ (u, a, inside, f). at-any ms (u - from) ((mark_holds u a inside).passes f);
  }

  -- every unit of it is
  pub all-holds : Decides (all_held h from n) ((u : ℕ) → Among from n u → u < 256 → Holds h u)
  unfolding all_held
  all-holds = record {
    holds = λ e u a inside. (mark_holds u a inside).holds (all-at ms (u - from) (omega (arith, long)) e);
    passes = λ f. at_all ms (λ i l.
        let a : Among from n (from + i) × (from + i < 256) = omega (arith, long) in
        sym (back i) ∙ (mark_holds (from + i) a.0 a.1).passes (f (from + i) a.0 a.1));
  }

  -- units that are held besides are just those of the range
  pub with-holds : (u : ℕ) → u < 256 → Holds (held_with h from n) u ↔ (Holds h u ⊎ Among from n u)
  unfolding marks_in
  with-holds u inside =
      let now = marks_holds (held_with h from n) u inside in
      let mark = ap (λ (l : List Bool). get_or l u false) (held-over h from n ∙ sym (marked_over from n (marks_in h))) ∙ marked_at from n (marks_in h) u inside in
      let either = decides_or (get_or (marks_in h) u false) (leb from u && ltb u (from + n)) (marks_holds h u inside) (decides_and (leb from u) (ltb u (from + n)) (decides_le from u) (decides_lt u (from + n))) in
      (λ f. either.holds (sym mark ∙ now.passes f), λ f. now.holds (mark ∙ either.passes f))
