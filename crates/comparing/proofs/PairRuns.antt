-- The runs of two datagrams are each longest run of differing bytes, in order, and nothing else. Assumes nothing.
use Prim.Native.Nat.{ℕ, suc, ◌+◌, ◌≤◌, ◌<◌, max}
use mathlib.Core.Path.{◌≡◌, refl, sym, ◌∙◌}
use mathlib.Core.Logic.{◌⊎◌, inl, inr, ⊎_elim}
use mathlib.Core.Bool.{Bool, true, false, true≢false}
use mathlib.Core.List.{List, [], ◌∷◌}
use native.Mathlib.Omega.{arith}
use native.Mathlib.Nat.{zero-add}
use borrow.Author.Tests.{ltb-true, ltb-false}
use lib.Dec.{ltb}
use lib.ListN.{length}
use Rattle.lists.proofs.Tests.{tested}
use Rattle.lists.proofs.Decides.{fails}
use Rattle.comparing.specs.Runs.{Run, differs_at, runs}
use Rattle.comparing.specs.Facts.{Differs, Lies, Longest, Each, OneOf, Chained, Behind, RunsOfPair}
use Rattle.comparing.proofs.Differing.{decides_differs, differs-past}
use Rattle.comparing.proofs.Tiling.{Tile, Tiles, tiles}

module _ (masked : Bool) (a b : List ℕ) where
  abbrev end : ℕ
  end = max (length a) (length b)

  -- a byte that the test does not find does not differ
  same : (q : ℕ) → differs_at masked a b q ≡ false → Differs masked a b q → ⊥
  same q h = fails (differs_at masked a b q) (decides_differs masked a b q) h

  -- runs that tell of the bytes from p on: p is the first, or does not differ or is not there
  abbrev Starts : ℕ → Type 0
  Starts p = (p ≡ 0) ⊎ (p < end → differs_at masked a b p ≡ false)

  begins : (p : ℕ) (r : Run) → Tile (differs_at masked a b) p end r → differs_at masked a b r.offset ≡ true
  begins p r t = t.all r.offset (omega arith, omega (arith, t.some))

  -- a run does not begin where the one before it ended
  apart : (p : ℕ) (r : Run) → (p < end → differs_at masked a b p ≡ false) → Tile (differs_at masked a b) p end r → p < r.offset
  apart p r s t =
      ⊎_elim (λ l. ltb-true p r.offset l)
      (λ l. let e : r.offset ≡ p = omega (arith, t.from, ltb-false p r.offset l) in
      absurd (true≢false (sym (begins p r t) ∙ rw e (s (omega (arith, t.some, t.inside))))))
      (tested (ltb p r.offset))

  longest : (p : ℕ) (r : Run) → Starts p → Tile (differs_at masked a b) p end r → Longest masked a b r
  longest p r s t = record {
    some = t.some;
    all = λ q l. (decides_differs masked a b q).holds (t.all q l);
    before = λ q e. same q (⊎_elim (λ l. t.gap q (ltb-false q p l) (omega arith)) (λ l. l) (before q e));
    behind = same (r.offset + r.length) (behind (tested (ltb (r.offset + r.length) end)));
  }
    where
      behind : (ltb (r.offset + r.length) end ≡ true) ⊎ (ltb (r.offset + r.length) end ≡ false) → differs_at masked a b (r.offset + r.length) ≡ false
      behind (inl l) = t.behind (ltb-true (r.offset + r.length) end l)
      behind (inr l) = differs-past masked a b (r.offset + r.length) (ltb-false (r.offset + r.length) end l)

      before : (q : ℕ) → suc q ≡ r.offset → (ltb q p ≡ false) ⊎ (differs_at masked a b q ≡ false)
      before q e = ⊎_elim (λ l. absurd (first (ltb-true q p l) s)) (λ l. inl l) (tested (ltb q p))
        where
          first : q < p → Starts p → ⊥
          first l (inl z) = absurd (omega arith)
          first l (inr n) = absurd (omega (arith, apart p r n t))

  each_longest : (p : ℕ) (rs : List Run) → Starts p → Tiles (differs_at masked a b) p end rs → Each (Longest masked a b) rs
  each_longest p [] s t = tt
  each_longest p (r ∷ rs) s t = (longest p r s t.0, each_longest (r.offset + r.length) rs (inr t.0.behind) t.1)

  each_found : (p : ℕ) (rs : List Run) → Tiles (differs_at masked a b) p end rs → (q : ℕ) → p ≤ q → q < end → differs_at masked a b q ≡ true → OneOf (Lies q) rs
  each_found p [] t q h k e = absurd (true≢false (sym e ∙ t q h k))
  each_found p (r ∷ rs) t q h k e =
      ⊎_elim (λ l. absurd (true≢false (sym e ∙ t.0.gap q h (ltb-true q r.offset l))))
      (λ l. ⊎_elim (λ m. inl (ltb-false q r.offset l, ltb-true q (r.offset + r.length) m))
      (λ m. inr (each_found (r.offset + r.length) rs t.1 q (ltb-false q (r.offset + r.length) m) k e)) (tested (ltb q (r.offset + r.length))))
      (tested (ltb q r.offset))

  in_order : (p : ℕ) (rs : List Run) → Tiles (differs_at masked a b) p end rs → Chained Behind rs
  in_order p [] t = tt
  in_order p (r ∷ []) t = tt
  in_order p (r ∷ (s ∷ rs)) t = (apart (r.offset + r.length) s t.0.behind t.1.0, in_order (r.offset + r.length) (s ∷ rs) t.1)

  -- each longest run of differing bytes of two datagrams is among their runs, and nothing else
  pub runs-of-pair : RunsOfPair masked a b (runs masked a b)
  unfolding runs
  runs-of-pair =
      let t = rw (zero-add end) at (tiles (differs_at masked a b) 0 end) in
      let rs = runs masked a b in record {
        longest = each_longest 0 rs (inl refl) t;
        found = λ p f. let g = (decides_differs masked a b p).passes f in each_found 0 rs t p (omega arith) (inside p g (tested (ltb p end))) g;
        order = in_order 0 rs t;
      }
    where
      inside : (p : ℕ) → differs_at masked a b p ≡ true → (ltb p end ≡ true) ⊎ (ltb p end ≡ false) → p < end
      inside p g (inl l) = ltb-true p end l
      inside p g (inr l) = absurd (true≢false (sym g ∙ differs-past masked a b p (ltb-false p end l)))
