-- How a search goes on, and what differs where. Assumes nothing.
use Prim.Native.Nat.{ℕ, ◌+◌, ◌-◌, ◌≤◌, ◌<◌, min, max}
use mathlib.Core.Path.{◌≡◌, refl, ap, ◌∙◌}
use mathlib.Core.Logic.{⊎_elim}
use mathlib.Core.Bool.{Bool, true, false, not, cond, ◌&&◌, beq, true≢false, false≢true}
use mathlib.Core.List.{List}
use native.Mathlib.Omega.{arith}
use borrow.Author.Tests.{lt-ltb, le-ltb, ltb-true, ltb-false, not-true}
use lib.Dec.{ltb}
use lib.ListN.{length, get_or, take, drop, length-drop}
use lib.Seq.{get_or-take, get_or-drop, length-take-le}
use Rattle.lists.proofs.Tests.{tested, and_left, and_right}
use Rattle.comparing.specs.Runs.{is_masked_byte, is_unequal_at, differs_at}
use Rattle.comparing.specs.Search.{NoneIn, IsNext}
use Rattle.comparing.proofs.Masking.{mask_ends}

beq_true : (s t : Bool) → beq s t ≡ true → s ≡ t
beq_true true true e = refl
beq_true true false e = absurd (false≢true e)
beq_true false true e = absurd (false≢true e)
beq_true false false e = refl

beq_false : (s t : Bool) → beq s t ≡ false → s ≡ not t
beq_false true true e = absurd (true≢false e)
beq_false true false e = refl
beq_false false true e = refl
beq_false false false e = absurd (true≢false e)

module _ (test : ℕ → Bool) (wanted : Bool) where
  pub none_yet : (p : ℕ) → NoneIn test wanted p p
  none_yet p q h k = absurd (omega arith)

  -- two stretches one behind the other
  pub none_more : (p r s : ℕ) → NoneIn test wanted p r → NoneIn test wanted r s → NoneIn test wanted p s
  none_more p r s n m q h k = ⊎_elim (λ t. n q h (ltb-true q r t)) (λ t. m q (ltb-false q r t) k) (tested (ltb q r))

  pub none-one : (p : ℕ) → test p ≡ not wanted → NoneIn test wanted p (p + 1)
  none-one p t q h k = let e : q ≡ p = omega arith in rw e t

  -- a turn of a loop that asks one place after another: this one is not wanted, or it is found
  pub none_turn : (p r : ℕ) → NoneIn test wanted p r → beq (test r) wanted ≡ false → NoneIn test wanted p (r + 1)
  none_turn p r n t = none_more p r (r + 1) n (none-one r (beq_false (test r) wanted t))

  -- the same of a loop that looks at all places
  pub none_kept_lem : (p r : ℕ) (none : Bool) → (none ≡ true → NoneIn test wanted p r) → (none && not (beq (test r) wanted)) ≡ true → NoneIn test wanted p (r + 1)
  none_kept_lem p r none n t =
      none_turn p r (n (and_left none (not (beq (test r) wanted)) t)) (not-true (beq (test r) wanted) (and_right none (not (beq (test r) wanted)) t))

  pub found_here : (p end r : ℕ) → p ≤ r → r < end → NoneIn test wanted p r → beq (test r) wanted ≡ true → IsNext test wanted p end r
  found_here p end r h k n t = record { behind = h; inside = omega arith; before = n; here = λ l. beq_true (test r) wanted t }

  -- the loop ends
  pub found_none : (p end r : ℕ) → p ≤ r → r ≡ end → NoneIn test wanted p r → IsNext test wanted p end r
  found_none p end r h e n = record { behind = h; inside = omega arith; before = n; here = λ l. absurd (omega arith) }

  -- a search from where nothing was found before
  pub next-on : (p r s end : ℕ) → p ≤ r → NoneIn test wanted p r → IsNext test wanted r end s → IsNext test wanted p end s
  next-on p r s end h n i = record { behind = omega (arith, i.behind); inside = i.inside; before = none_more p r s n i.before; here = i.here }

  -- a search that found nothing, and one from there on
  pub next_more : (p m r s end : ℕ) → IsNext test wanted p m r → m ≤ r → IsNext test wanted r end s → IsNext test wanted p end s
  next_more p m r s end i h j = next-on p r s end i.behind i.before j

  -- a search that found a place before its end
  pub next-found : (p m r end : ℕ) → IsNext test wanted p m r → r < m → m ≤ end → IsNext test wanted p end r
  next-found p m r end i h k = record { behind = i.behind; inside = omega arith; before = i.before; here = λ l. i.here h }

  -- of a test that comes out the same
  pub next_as : (other : ℕ → Bool) (p end r : ℕ) → ((q : ℕ) → p ≤ q → q < end → other q ≡ test q) → IsNext test wanted p end r → IsNext other wanted p end r
  next_as other p end r e i = record {
    behind = i.behind;
    inside = i.inside;
    before = λ q h k. e q h (omega (arith, i.inside)) ∙ i.before q h k;
    here = λ h. e r i.behind h ∙ i.here h;
  }

module _ (masked : Bool) (a b : List ℕ) (q : ℕ) where
  -- a byte that both have
  pub differs-shared : q < min (length a) (length b) → differs_at masked a b q ≡ (not (masked && is_masked_byte q) && is_unequal_at a b q)
  unfolding differs_at
  differs-shared h = simp (lt-ltb _ _ h)

  -- a byte behind the shorter end
  pub differs-behind : min (length a) (length b) ≤ q → differs_at masked a b q ≡ ltb q (max (length a) (length b))
  unfolding differs_at
  differs-behind h = simp (le-ltb _ _ h)

  -- a byte that one alone has
  pub differs-alone : min (length a) (length b) ≤ q → q < max (length a) (length b) → differs_at masked a b q ≡ true
  unfolding differs_at
  differs-alone h k = simp (le-ltb _ _ h, lt-ltb _ _ k)

-- behind the mask a byte that both have differs if it is unequal
pub differs-unmasked : (masked : Bool) (a b : List ℕ) (q : ℕ) → (masked ≡ true → 12 ≤ q) → q < min (length a) (length b) → differs_at masked a b q ≡ is_unequal_at a b q
differs-unmasked true a b q m h = differs-shared true a b q h ∙ simp (mask_ends q (m refl))
differs-unmasked false a b q m h = differs-shared false a b q h

-- from the shorter datagram's end on, a search finds the place where it starts, or none
pub next-alone : (masked wanted : Bool) (a b : List ℕ) (p r : ℕ) → min (length a) (length b) ≤ p → p ≤ max (length a) (length b) → r ≡ cond wanted p (max (length a) (length b))
    → IsNext (differs_at masked a b) wanted p (max (length a) (length b)) r
next-alone masked true a b p r h k e = rw e (record {
  behind = omega arith;
  inside = k;
  before = none_yet (differs_at masked a b) true p;
  here = differs-alone masked a b p h;
})
next-alone masked false a b p r h k e = rw e (record {
  behind = k;
  inside = omega arith;
  before = λ q g l. differs-alone masked a b q (omega arith) l;
  here = λ l. absurd (omega arith);
})

-- where a search is not in the masked part, no byte from there on is masked
pub not-masked : (masked : Bool) (p q : ℕ) → (masked && ltb p 12) ≡ false → p ≤ q → masked ≡ true → 12 ≤ q
not-masked true p q t h m = omega (arith, ltb-false p 12 t)
not-masked false p q t h m = absurd (false≢true m)

-- a byte of a block
pub block-byte : (s : List ℕ) (p n i : ℕ) → i < n → get_or (take n (drop p s)) i 0 ≡ get_or s (p + i) 0
block-byte s p n i h = get_or-take n (drop p s) i 0 h ∙ get_or-drop p s i 0

-- a block without a wanted place
pub none-block : (wanted : Bool) (a b : List ℕ) (p n : ℕ) → p + n ≤ length a
    → NoneIn (is_unequal_at (take n (drop p a)) (take n (drop p b))) wanted 0 (length (take n (drop p a))) → NoneIn (is_unequal_at a b) wanted p (p + n)
none-block wanted a b p n h none q k l =
    let long : length (take n (drop p a)) ≡ n = length-take-le n (drop p a) (rw length-drop (omega arith)) in
    let e : p + (q - p) ≡ q = omega arith in
    let at : (s : List ℕ) → get_or (take n (drop p s)) (q - p) 0 ≡ get_or s q 0 =
    λ s. block-byte s p n (q - p) (omega arith) ∙ ap (λ (j : ℕ). get_or s j 0) e in
    rw (at a, at b) at (none (q - p) (omega arith) (omega arith))
