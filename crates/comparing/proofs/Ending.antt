-- The runs among bytes are as many as their ends; and how ends are counted on. Assumes nothing.
use Prim.Native.Nat.{ℕ, zero, suc, ◌+◌, ◌-◌, ◌≤◌, ◌<◌}
use mathlib.Core.Path.{◌≡◌, refl, sym, ap, ◌∙◌}
use mathlib.Core.Bool.{Bool, true, false, cond, not, ◌&&◌, true≢false}
use mathlib.Core.List.{List, [], ◌∷◌}
use mir.Val.{bool_byte}
use native.Mathlib.Omega.{arith}
use native.Mathlib.Nat.{add-zero, zero-add, suc-add}
use lib.ListN.{length, take, drop, length-drop}
use lib.Seq.{length-take-le}
use lib.Dec.{eqb}
use Rattle.comparing.specs.Runs.{Run, is_unequal_at, joined, runs_from}
use Rattle.comparing.specs.Search.{NoneIn, ends_from, ends}
use Rattle.comparing.proofs.Running.{join_longer, join_alone, begin_behind}
use Rattle.comparing.proofs.Searching.{block-byte}

-- a byte in front of a run that begins right behind it
join_kept : (p : ℕ) (rs : List Run) → length (joined p (joined (suc p) rs)) ≡ length (joined (suc p) rs)
join_kept p [] = ap length (join_longer p 1 [])
join_kept p (r ∷ rs) = go (eqb r.offset (suc (suc p)))
  where
    go : (t : Bool) → length (joined p (cond t (record { offset = suc p; length = suc r.length } ∷ rs) (record { offset = suc p; length = 1 } ∷ (r ∷ rs)))) ≡ length (cond t (record { offset = suc p; length = suc r.length } ∷ rs) (record { offset = suc p; length = 1 } ∷ (r ∷ rs)))
    go true = ap length (join_longer p (suc r.length) rs)
    go false = ap length (join_longer p 1 (r ∷ rs))

-- a test as a number
as_number : (t : Bool) → bool_byte t ≡ cond t 1 0
as_number true = refl
as_number false = refl

module _ (differs : ℕ → Bool) where
  -- runs and their ends: the place behind the last one does not differ
  pub runs-ends : (p n : ℕ) → differs (p + n) ≡ false → length (runs_from differs p n) ≡ ends_from differs p n
  runs-ends p zero h = refl
  runs-ends p (suc n) h =
      let e : p + suc n ≡ suc p + n = omega arith in
      go (runs-ends (suc p) n (rw e at h)) (differs p) (differs (suc p)) refl refl
    where
      longer : (m : ℕ) → n ≡ m → differs (suc p) ≡ true → length (joined p (runs_from differs (suc p) m)) ≡ length (runs_from differs (suc p) m)
      longer zero k t =
          let f : p + suc n ≡ suc p = omega arith in
          absurd (true≢false (sym t ∙ rw f at h))
      longer (suc m) k t = rw t (join_kept p (runs_from differs (suc (suc p)) m))

      go : length (runs_from differs (suc p) n) ≡ ends_from differs (suc p) n → (s t : Bool) → differs p ≡ s → differs (suc p) ≡ t
          → length (cond (differs p) (joined p (runs_from differs (suc p) n)) (runs_from differs (suc p) n)) ≡ cond (differs p && not (differs (suc p))) 1 0 + ends_from differs (suc p) n
      go rest false t i j = rw i (omega (arith, rest))
      go rest true true i j = rw (i, j) (omega (arith, rest, longer n refl j))
      go rest true false i j = rw (i, j) (omega (arith, rest, ap length (join_alone p (runs_from differs (suc p) n) (begin_behind differs (suc p) n (λ k. j)))))

  -- no more than there are places
  pub ends-most : (p n : ℕ) → ends_from differs p n ≤ n
  ends-most p zero = omega arith
  ends-most p (suc n) = go (differs p && not (differs (suc p))) (ends-most (suc p) n)
    where
      go : (t : Bool) → ends_from differs (suc p) n ≤ n → cond t 1 0 + ends_from differs (suc p) n ≤ suc n
      go true h = omega (arith, h)
      go false h = omega (arith, h)

  ends-append : (p m n : ℕ) → ends_from differs p (m + n) ≡ ends_from differs p m + ends_from differs (p + m) n
  ends-append p zero n = rw (add-zero p, zero-add n) (omega arith)
  ends-append p (suc m) n =
      let e : p + suc m ≡ suc p + m = omega arith in
      rw (suc-add m n, e) (omega (arith, ends-append (suc p) m n))

  -- one stretch behind another
  pub ends_more : (p q r : ℕ) → p ≤ q → q ≤ r → ends differs p r ≡ ends differs p q + ends differs q r
  ends_more p q r h k =
      let e : r - p ≡ (q - p) + (r - q) = omega arith in
      let f : p + (q - p) ≡ q = omega arith in
      rw e (rw f at (ends-append p (q - p) (r - q)))

  -- a turn of a loop that counts one place after another
  pub ends_turn : (p r : ℕ) → p < r → ends differs p r ≡ bool_byte (differs p && not (differs (p + 1))) + ends differs (p + 1) r
  ends_turn p r h =
      let e : r - p ≡ suc (r - (p + 1)) = omega arith in
      let f : p + 1 ≡ suc p = omega arith in
      rw (as_number (differs p && not (differs (p + 1))), e, f)

  -- the loop ends
  pub ends-past : (p r : ℕ) → r ≤ p → ends differs p r ≡ 0
  ends-past p r h = let e : r - p ≡ 0 = omega arith in rw e

  none_end : (p n : ℕ) → ((q : ℕ) → p ≤ q → q < p + n → differs q ≡ false) → ends_from differs p n ≡ 0
  none_end p zero h = refl
  none_end p (suc n) h = rw (h p (omega arith) (omega arith)) (omega (arith, none_end (suc p) n (λ q k l. h q (omega arith) (omega arith))))

  -- where no place differs
  pub ends-none : (p r : ℕ) → NoneIn differs true p r → ends differs p r ≡ 0
  ends-none p r h = none_end p (r - p) (λ q k l. h q k (omega arith))

  -- from a place on up to which none differs
  pub ends-behind : (p q r : ℕ) → p ≤ q → q ≤ r → NoneIn differs true p q → ends differs p r ≡ ends differs q r
  ends-behind p q r h k n = omega (arith, ends_more p q r h k, ends-none p q n)

  -- of a test that comes out the same, at other places
  pub ends_alike : (other : ℕ → Bool) (k p n : ℕ) → ((i : ℕ) → 0 < n → i ≤ n → other (k + i) ≡ differs (p + i)) → ends_from other k n ≡ ends_from differs p n
  ends_alike other k p zero h = refl
  ends_alike other k p (suc n) h =
      let first : other k ≡ differs p = simp (add-zero k, add-zero p) at (h 0 (omega arith) (omega arith)) in
      let f : k + 1 ≡ suc k = omega arith in
      let g : p + 1 ≡ suc p = omega arith in
      let second : other (suc k) ≡ differs (suc p) = rw (f, g) at (h 1 (omega arith) (omega arith)) in
      let rest : ends_from other (suc k) n ≡ ends_from differs (suc p) n = ends_alike other (suc k) (suc p) n shifted in
      rw (first, second, rest)
    where
      shifted : (i : ℕ) → 0 < n → i ≤ n → other (suc k + i) ≡ differs (suc p + i)
      shifted i z l =
          let f : k + suc i ≡ suc k + i = omega arith in
          let g : p + suc i ≡ suc p + i = omega arith in
          rw (f, g) at (h (suc i) (omega arith) (omega arith))

-- two blocks up to and with place r are of one length, which a byte can count
pub block-length : (a b : List ℕ) (p r m : ℕ) → m ≡ r + 1 - p → p ≤ r → r < length a → r < length b → r < p + 256
    → (length (take m (drop p a)) ≡ length (take m (drop p b))) × (0 < length (take m (drop p a))) × (length (take m (drop p a)) ≤ 256)
block-length a b p r m e h k l n =
    let f : length (take m (drop p a)) ≡ m = length-take-le m (drop p a) (rw length-drop (omega arith)) in
    let g : length (take m (drop p b)) ≡ m = length-take-le m (drop p b) (rw length-drop (omega arith)) in
    (omega arith, omega arith, omega arith)

-- the ends in a block, which goes one place further
pub ends-block : (a b : List ℕ) (p r m : ℕ) → m ≡ r + 1 - p → p ≤ r → r < length a
    → ends (is_unequal_at (take m (drop p a)) (take m (drop p b))) 0 (length (take m (drop p a)) - 1) ≡ ends (is_unequal_at a b) p r
ends-block a b p r m e h k =
    let long : length (take m (drop p a)) ≡ m = length-take-le m (drop p a) (rw length-drop (omega arith)) in
    let f : m - 1 - 0 ≡ r - p = omega arith in
    rw (long, f) (ends_alike (is_unequal_at a b) (is_unequal_at (take m (drop p a)) (take m (drop p b))) 0 p (r - p) (λ i z l. rw (zero-add i, block-byte a p m i (omega arith), block-byte b p m i (omega arith))))
