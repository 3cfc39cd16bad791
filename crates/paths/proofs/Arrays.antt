-- The table's three arrays against its reports: what the code reads of the arrays is so of the reports.
use Rattle.std.specs.Prelude.{None, Option, Some}
use mathlib.Core.Path.{◌≡◌, refl, sym, ap, ◌∙◌}
use mathlib.Core.Logic.{⊎_elim}
use mathlib.Core.Bool.{Bool, true, false, cond}
use mathlib.Core.List.{List, [], ◌∷◌}
use Prim.Native.Nat.{ℕ, zero, suc, ◌-◌, ◌≤◌, ◌<◌, min, max}
use native.Mathlib.Omega.{arith}
use native.Mathlib.Nat.{zero-min}
use borrow.Author.Tests.{lt-ltb, le-ltb, ltb-true, ltb-false}
use lib.Dec.{ltb, eqb, leb-suc-suc}
use lib.ListN.{length, take, get_or, length-take}
use Rattle.paths.specs.Kept.{Report, most_neighbours, last_of, kept_from, while_young, in_force}
use Rattle.paths.specs.Look.{last_row, row_for, look_among, pushed_in}
use Rattle.paths.specs.Table.{rows, held_in, row_of, row_in, pushed, kept_among, kept_in, table_after}
use Rattle.paths.specs.declared.PathTable.{PathTable}
use Rattle.paths.specs.declared.Look.{Look}
use Rattle.paths.proofs.Reports.{tested, kept_from-cond}
use Rattle.paths.proofs.Scan.{row-take}

-- the report at a place
abbrev row_at : List ℕ → List ℕ → List ℕ → ℕ → Report
row_at vs ss ts p = record { neighbour = get_or vs p 0; size = get_or ss p 0; time = get_or ts p 0 }

module _ (v : ℕ) where
  -- of the reports es that the first places hold: the place of v, and its report if that place is among them
  abbrev Found : List ℕ → List ℕ → List ℕ → List Report → Type 0
  Found vs ss ts es =
      let p : ℕ = row_of v (take (length es) vs) in
      (row_in v es ≡ p) × (last_of v es ≡ cond (ltb p (length es)) (Some (row_at vs ss ts p)) None)

  found : (n : ℕ) (vs ss ts : List ℕ) → Found vs ss ts (held_in vs ss ts n)
  found zero vs ss ts = (refl, refl)
  found (suc n) [] ss ts = (refl, refl)
  found (suc n) (a ∷ vs) [] ts = (refl, refl)
  found (suc n) (a ∷ vs) (s ∷ ss) [] = (refl, refl)
  found (suc n) (a ∷ vs) (s ∷ ss) (t ∷ ts) =
      let es : List Report = held_in vs ss ts n in
      let i : Found vs ss ts es = found n vs ss ts in
      ⊎_elim (λ e. rw e (refl, cc (lt-ltb 0 (suc (length es)) (omega arith))))
      (λ e. rw e (ap suc i.0, cc (leb-suc-suc (suc (row_of v (take (length es) vs))) (length es), i.1))) (tested (eqb a v))

-- three arrays hold as many reports as the shortest is long
rows-length : (vs ss ts : List ℕ) → length (rows vs ss ts) ≡ min (min (length vs) (length ss)) (length ts)
rows-length [] ss ts = rw (zero-min (length ss)) (sym (zero-min (length ts)))
rows-length (v ∷ vs) [] ts = omega arith
rows-length (v ∷ vs) (s ∷ ss) [] = omega arith
rows-length (v ∷ vs) (s ∷ ss) (t ∷ ts) = omega (arith, rows-length vs ss ts)

-- at a place that there is
pub pushed-there : (x p : ℕ) (xs : List ℕ) → p < length xs → pushed_in x p xs ≡ pushed x p xs
pushed-there x p xs inside = rw (lt-ltb _ _ inside)

-- where no report is kept the size in force is the link's
in-force-cond : (t : Bool) (link : ℕ) (k : Option ℕ) → in_force link (cond t k None) ≡ cond t (in_force link k) link
unfolding in_force
in-force-cond true link k = refl
in-force-cond false link k = refl

-- what the code knows of three arrays: n places are in use, and p is the place of v among them
pub record Scanned (vs ss ts : List ℕ) (count v n p : ℕ) : Type 0 where
  pub used : n ≡ min count (min (min (length vs) (length ss)) (length ts))
  pub row : p ≡ row_of v (take n vs)

-- of all rows the place r of v was found: that among those in use is r, or their number
pub scanned_all : (vs ss ts : List ℕ) (count v r m : ℕ) → r ≡ row_of v vs → m ≡ min (min (length vs) (length ss)) (length ts)
    → Scanned vs ss ts count v (min count m) (min r (min count m))
scanned_all vs ss ts count v r m found all = record { used = ap (min count) all; row = ap (λ (k : ℕ). min k (min count m)) found ∙ sym (row-take v (min count m) vs) }

-- what is read at a place that is in use
pub read_in_use : (f : ℕ → ℕ) (r n other : ℕ) → cond (ltb r n) (f r) other ≡ cond (ltb (min r n) n) (f (min r n)) other
read_in_use f r n other =
    ⊎_elim (λ e. let h : r < n = ltb-true r n e in let m : min r n ≡ r = omega arith in rw m)
    (λ e. let h : n ≤ r = ltb-false r n e in let m : min r n ≡ n = omega arith in rw (e, m, le-ltb n n (omega arith))) (tested (ltb r n))

module _ {vs ss ts : List ℕ} {count v n p : ℕ} (c : Scanned vs ss ts count v n p) (now : ℕ) where
  number : n ≡ length (held_in vs ss ts count)
  number = omega (arith, c.used, length-take count (rows vs ss ts), rows-length vs ss ts)

  reads : (row_in v (held_in vs ss ts count) ≡ p) × (last_of v (held_in vs ss ts count) ≡ cond (ltb p n) (Some (row_at vs ss ts p)) None)
  reads = rw (c.row, number) (found v count vs ss ts)

  pub kept_at : kept_among vs ss ts count v now ≡ cond (ltb p n) (while_young (get_or ss p 0) (get_or ts p 0) now) None
  kept_at = ap (λ (o : Option Report). kept_from o now) reads.1 ∙ kept_from-cond (ltb p n) (Some (row_at vs ss ts p)) now

  -- the size in force by the row that was found
  pub size-at : (link : ℕ) → cond (ltb p n) (in_force link (while_young (get_or ss p 0) (get_or ts p 0) now)) link ≡ in_force link (kept_among vs ss ts count v now)
  unfolding in_force
  size-at link = sym (ap (in_force link) kept_at ∙ in-force-cond (ltb p n) link (while_young (get_or ss p 0) (get_or ts p 0) now))

  pub looked-at : (link r m i : ℕ) → i ≡ cond (ltb p n) (in_force link (while_young (get_or ss p 0) (get_or ts p 0) now)) link → r ≡ min p last_row → m ≡ max n (suc r)
      → ◌≡◌ {A = Look} (record { in_force = i; row = r; count = m }) (look_among link vs ss ts count v now)
  unfolding look_among
  looked-at link r m i hi hr hm =
      let s : i ≡ in_force link (kept_among vs ss ts count v now) = hi ∙ size-at link in
      let e : r ≡ row_for vs ss ts count v = omega (arith, reads.0) in
      let f : m ≡ max (length (held_in vs ss ts count)) (suc r) = omega (arith, number) in
      cc

  pub made : (size q m : ℕ) (ns cs ks : List ℕ) → q ≡ min p (most_neighbours - 1) → m ≡ max n (suc q) → ns ≡ pushed v q vs → cs ≡ pushed size q ss → ks ≡ pushed now q ts
      → ◌≡◌ {A = PathTable} (record { neighbours = ns; sizes = cs; times = ks; count = m }) (table_after (record { neighbours = vs; sizes = ss; times = ts; count = count }) v size now)
  unfolding table_after
  made size q m ns cs ks hq hm hns hcs hks =
      let e : q ≡ min (row_in v (held_in vs ss ts count)) (most_neighbours - 1) = omega (arith, reads.0) in
      let f : m ≡ max (length (held_in vs ss ts count)) (suc q) = omega (arith, number) in
      cc

-- an empty table keeps nothing
pub kept_in_none : (t : PathTable) (v now : ℕ) → t.count ≡ 0 → None ≡ kept_in t v now
unfolding kept_in
kept_in_none t v now empty = rw empty
