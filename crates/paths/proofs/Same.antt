-- The table against the plain record: it holds the last reports of the 64 newest neighbours, and so keeps the same sizes.
use Rattle.std.specs.Prelude.{Option}
use mathlib.Core.Path.{◌≡◌, refl, ap, ◌∙◌}
use mathlib.Core.Logic.{⊎_elim}
use mathlib.Core.List.{List, [], ◌∷◌}
use Prim.Native.Nat.{ℕ, zero, suc, ◌-◌, ◌≤◌, ◌<◌, min, max}
use native.Mathlib.Nat.{not-suc-le-zero, eq-or-lt_of_le}
use native.Mathlib.Omega.{arith}
use lib.Dec.{ltb}
use lib.ListN.{length, take}
use Rattle.paths.specs.Kept.{Report, most_neighbours, last_of, kept_from}
use Rattle.paths.specs.Table.{rows, held, row_in, cut, kept_in, table_after}
use Rattle.paths.specs.Record.{last_of_each, record_kept}
use Rattle.paths.proofs.Claim.{table_of}
use Rattle.paths.specs.declared.PathTable.{PathTable}
use Rattle.paths.proofs.Reports.{kept_from-cond, take-length-take, take-cut, cut-last, row_in_le, row_in-take, last_of-take, last_of-each, others-row, without_each}

-- the table holds the last reports of the 64 newest neighbours of the record es
abbrev pub Keeps : PathTable → List Report → Type 0
Keeps t es = held t ≡ take most_neighbours (last_of_each es)

-- ---- the same size

pub kept_same : (t : PathTable) (es : List Report) → Keeps t es → (v now : ℕ) → kept_in t v now ≡ record_kept es v now
unfolding kept_in record_kept
kept_same t es h v now =
    ap (λ (l : List Report). kept_from (last_of v l) now) h
    ∙ ap (λ (o : Option Report). kept_from o now) (last_of-take v most_neighbours (last_of_each es))
    ∙ kept_from-cond (ltb (row_in v (last_of_each es)) most_neighbours) (last_of v (last_of_each es)) now
    ∙ cc (last_of-each v es, others-row v es)

-- ---- a report more

rows_no_size : (vs ts : List ℕ) → rows vs [] ts ≡ []
rows_no_size [] ts = refl
rows_no_size (v ∷ vs) ts = refl

rows_no_time : (vs ss : List ℕ) → rows vs ss [] ≡ []
rows_no_time [] ss = refl
rows_no_time (v ∷ vs) [] = refl
rows_no_time (v ∷ vs) (s ∷ ss) = refl

rows_cut : (p : ℕ) (vs ss ts : List ℕ) → rows (cut p vs) (cut p ss) (cut p ts) ≡ cut p (rows vs ss ts)
rows_cut zero [] ss ts = refl
rows_cut zero (v ∷ vs) [] ts = rows_no_size vs (cut zero ts)
rows_cut zero (v ∷ vs) (s ∷ ss) [] = rows_no_time vs ss
rows_cut zero (v ∷ vs) (s ∷ ss) (t ∷ ts) = refl
rows_cut (suc p) [] ss ts = refl
rows_cut (suc p) (v ∷ vs) [] ts = refl
rows_cut (suc p) (v ∷ vs) (s ∷ ss) [] = refl
rows_cut (suc p) (v ∷ vs) (s ∷ ss) (t ∷ ts) = ap (λ (l : List Report). record { neighbour = v; size = s; time = t } ∷ l) (rows_cut p vs ss ts)

-- a longer part of the list with e in front and the element at p gone
take-pushed : (k p : ℕ) (e : Report) (es : List Report) → p < k → take k (e ∷ cut p es) ≡ e ∷ cut p (take k es)
take-pushed zero p e es l = absurd (not-suc-le-zero l)
take-pushed (suc k) p e es l = let m : min p k ≡ p = omega arith in cc (take-cut k p es)

-- one more element at the end is as if it were the one that goes
cut-grown : (n p : ℕ) (es : List Report) → p ≤ n → cut p (take (max n (suc p)) es) ≡ cut p (take n es)
cut-grown n p es l =
    ⊎_elim (λ e. let m : max n (suc p) ≡ suc p = omega arith in cc (cut-last p es))
    (λ h. let m : max n (suc p) ≡ n = omega arith in cc)
    (eq-or-lt_of_le l)

pub after-keeps : (t : PathTable) (es : List Report) → Keeps t es → (v c now : ℕ)
    → Keeps (table_after t v c now) (record { neighbour = v; size = c; time = now } ∷ es)
unfolding table_after
after-keeps t es h v c now =
    let p : ℕ = min (row_in v (held t)) (most_neighbours - 1) in
    let e : Report = record { neighbour = v; size = c; time = now } in
    let n : ℕ = length (held t) in
    let all : List Report = rows t.neighbours t.sizes t.times in
    let q : p ≡ min (row_in v (last_of_each es)) (most_neighbours - 1) = omega (arith, ap (row_in v) h, row_in-take v most_neighbours (last_of_each es)) in
    cc (
      rows_cut p t.neighbours t.sizes t.times,
      take-pushed (max n (suc p)) p e all (omega arith),
      cut-grown n p all (omega (arith, row_in_le v (held t))),
      take-length-take t.count all,
      take-cut (most_neighbours - 1) (row_in v (last_of_each es)) (last_of_each es),
      without_each v es,
    )

pub table_of_keeps : (es : List Report) → Keeps (table_of es) es
table_of_keeps [] = refl
table_of_keeps (e ∷ es) = after-keeps (table_of es) es (table_of_keeps es) e.neighbour e.size e.time
