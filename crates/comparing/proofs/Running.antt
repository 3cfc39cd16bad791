-- How the runs among bytes go on: past bytes that do not differ, and past a run. Assumes nothing.
use Prim.Native.Nat.{ℕ, zero, suc, ◌+◌, ◌-◌, ◌≤◌, ◌<◌, max}
use mathlib.Core.Path.{◌≡◌, refl, sym, ap, ◌∙◌}
use mathlib.Core.Bool.{Bool, true, false, cond, true≢false}
use mathlib.Core.List.{List, [], ◌∷◌}
use native.Mathlib.Omega.{arith}
use native.Mathlib.Nat.{add-zero, zero-add, suc-add}
use borrow.Author.Tests.{eq-eqb, ne_eqb, ltb-true, ltb-false}
use lib.Dec.{eqb, ltb}
use lib.ListN.{length}
use Rattle.comparing.specs.Runs.{Run, joined, runs_from, differs_at, runs}
use Rattle.comparing.specs.Search.{IsNext}

-- the first of the runs begins at p or behind it
abbrev pub BeginFrom : ℕ → List Run → Type 0
BeginFrom p [] = Unit {0}
BeginFrom p (r ∷ rs) = p ≤ r.offset

pub begin_joined : (p : ℕ) (rs : List Run) → BeginFrom p (joined p rs)
begin_joined p [] = omega arith
begin_joined p (r ∷ rs) = go (eqb r.offset (suc p))
  where
    go : (t : Bool) → BeginFrom p (cond t (record { offset = p; length = suc r.length } ∷ rs) (record { offset = p; length = 1 } ∷ (r ∷ rs)))
    go true = omega arith
    go false = omega arith

begin_less : (p : ℕ) (rs : List Run) → BeginFrom (suc p) rs → BeginFrom p rs
begin_less p [] h = tt
begin_less p (r ∷ rs) h = omega (arith, h)

-- a byte in front of runs that begin right behind it, or do not
pub join_longer : (p n : ℕ) (rs : List Run) → joined p (record { offset = suc p; length = n } ∷ rs) ≡ record { offset = p; length = suc n } ∷ rs
join_longer p n rs = simp (eq-eqb (suc p) (suc p) refl)

pub join_alone : (p : ℕ) (rs : List Run) → BeginFrom (suc (suc p)) rs → joined p rs ≡ record { offset = p; length = 1 } ∷ rs
join_alone p [] h = refl
join_alone p (r ∷ rs) h = simp (ne_eqb r.offset (suc p) (λ e. absurd (omega (arith, h))))

module _ (differs : ℕ → Bool) where
  pub begin_from : (p n : ℕ) → BeginFrom p (runs_from differs p n)
  begin_from p zero = tt
  begin_from p (suc n) = go (differs p) (begin_from (suc p) n)
    where
      go : (t : Bool) → BeginFrom (suc p) (runs_from differs (suc p) n) → BeginFrom p (cond t (joined p (runs_from differs (suc p) n)) (runs_from differs (suc p) n))
      go true h = begin_joined p (runs_from differs (suc p) n)
      go false h = begin_less p (runs_from differs (suc p) n) h

  -- past m bytes that do not differ
  runs_skip : (m p n : ℕ) → ((q : ℕ) → p ≤ q → q < p + m → differs q ≡ false) → runs_from differs p (m + n) ≡ runs_from differs (p + m) n
  runs_skip zero p n h = rw (add-zero p, zero-add n)
  runs_skip (suc m) p n h =
      let e : p + suc m ≡ suc p + m = omega arith in
      rw (suc-add m n, e) (rw (h p (omega arith) (omega arith)) (runs_skip m (suc p) n (λ q k l. h q (omega arith) (omega arith))))

  -- behind a byte that does not differ, or is not there
  pub begin_behind : (p n : ℕ) → (0 < n → differs p ≡ false) → BeginFrom (suc p) (runs_from differs p n)
  begin_behind p zero k = tt
  begin_behind p (suc n) k = rw (k (omega arith)) (begin_from (suc p) n)

  -- a run of m + 1 bytes, and the byte behind it does not differ or is not there
  runs-run : (m p n : ℕ) → ((q : ℕ) → p ≤ q → q < p + suc m → differs q ≡ true) → (0 < n → differs (p + suc m) ≡ false)
      → runs_from differs p (suc m + n) ≡ record { offset = p; length = suc m } ∷ runs_from differs (p + suc m) n
  runs-run zero p n h k =
      let e : p + 1 ≡ suc p = omega arith in
      let g : 0 < n → differs (suc p) ≡ false = rw e at k in
      rw (suc-add 0 n, zero-add n, e) (rw (h p (omega arith) (omega arith)) (join_alone p (runs_from differs (suc p) n) (begin_behind (suc p) n g)))
  runs-run (suc m) p n h k =
      let e : p + suc (suc m) ≡ suc p + suc m = omega arith in
      let g : 0 < n → differs (suc p + suc m) ≡ false = rw e at k in
      let rest = runs-run m (suc p) n (λ q i l. h q (omega arith) (omega arith)) g in
      rw (suc-add (suc m) n, e) (rw (h p (omega arith) (omega arith), rest) (join_longer p (suc m) (runs_from differs (suc p + suc m) n)))

  -- a search for a byte that differs passes no run
  pub runs-next : (p end r : ℕ) → IsNext differs true p end r → runs_from differs p (end - p) ≡ runs_from differs r (end - r)
  runs-next p end r i =
      let a : end - p ≡ (r - p) + (end - r) = omega (arith, i.behind, i.inside) in
      let b : p + (r - p) ≡ r = omega (arith, i.behind) in
      rw a (rw b at (runs_skip (r - p) p (end - r) (λ q k l. i.before q k (omega arith))))

  -- a search for a byte that does not differ, from one that does, goes on
  pub run_ahead : (p end r : ℕ) → differs p ≡ true → p < end → IsNext differs false p end r → p < r
  run_ahead p end r d h i = passed (ltb p r) refl
    where
      passed : (t : Bool) → ltb p r ≡ t → p < r
      passed true t = ltb-true p r t
      passed false t =
          let e : r ≡ p = omega (arith, ltb-false p r t, i.behind) in
          absurd (true≢false (sym d ∙ rw e at (i.here (omega arith))))

  -- and passes one run
  pub runs-passed : (p end r : ℕ) → differs p ≡ true → p < end → IsNext differs false p end r
      → runs_from differs p (end - p) ≡ record { offset = p; length = r - p } ∷ runs_from differs r (end - r)
  runs-passed p end r d h i =
      let g : p < r = run_ahead p end r d h i in
      let a : end - p ≡ (r - p) + (end - r) = omega (arith, i.inside) in
      let b : p + suc (r - p - 1) ≡ r = omega arith in
      let e : suc (r - p - 1) ≡ r - p = omega arith in
      let run = runs-run (r - p - 1) p (end - r) (λ q k l. i.before q k (omega arith)) (λ l. rw b (i.here (omega arith))) in
      rw a (rw (b, e) at run)

module _ (masked : Bool) (a b : List ℕ) where
  -- the runs from a place on
  abbrev pub left : ℕ → List Run
  left p = runs_from (differs_at masked a b) p (max (length a) (length b) - p)

  -- a search stands at a byte that differs, or at the end
  abbrev pub AtRun : ℕ → Type 0
  AtRun p = (p ≤ max (length a) (length b)) × (p < max (length a) (length b) → differs_at masked a b p ≡ true)

  pub left-all : (r : ℕ) → IsNext (differs_at masked a b) true 0 (max (length a) (length b)) r → runs masked a b ≡ left r
  unfolding runs
  left-all r i =
      let e : max (length a) (length b) - 0 ≡ max (length a) (length b) = omega arith in
      rw e at (runs-next (differs_at masked a b) 0 (max (length a) (length b)) r i)

  pub left-none : (p : ℕ) → max (length a) (length b) ≤ p → left p ≡ []
  left-none p h = let e : max (length a) (length b) - p ≡ 0 = omega arith in rw e

  -- a turn: past a run, and up to the next
  pub left-turn : (p e r : ℕ) → AtRun p → p < max (length a) (length b) → IsNext (differs_at masked a b) false p (max (length a) (length b)) e
      → IsNext (differs_at masked a b) true e (max (length a) (length b)) r → (p < r) × (left p ≡ record { offset = p; length = e - p } ∷ left r)
  left-turn p e r t h i j =
      let end = max (length a) (length b) in
      let d = differs_at masked a b in (
        omega (arith, run_ahead d p end e (t.1 h) h i, j.behind),
        runs-passed d p end e (t.1 h) h i ∙ ap (λ (rs : List Run). record { offset = p; length = e - p } ∷ rs) (runs-next d e end r j),
      )

  -- there is one where a search stands before the end
  pub left-some : (p e : ℕ) → AtRun p → p < max (length a) (length b) → IsNext (differs_at masked a b) false p (max (length a) (length b)) e → 0 < length (left p)
  left-some p e t h i = omega (arith, ap length (runs-passed (differs_at masked a b) p (max (length a) (length b)) e (t.1 h) h i))
