-- Laws of writing runs into the report, one behind another. Assumes nothing.
use Prim.Native.Nat.{ℕ, ◌+◌, ◌*◌, ◌≤◌}
use mathlib.Core.Path.{◌≡◌, refl, ap, sym, ◌∙◌}
use mathlib.Core.List.{List, [], ◌∷◌, ◌++◌, map, flatten, append_assoc, append-nil}
use native.Mathlib.Omega.{arith}
use native.Mathlib.Nat.{add-zero, zero-add}
use lib.ListN.{length, take, drop, length-append, take-append-drop}
use lib.Seq.{take_at, drop-drop, drop_at, length-take-le}
use Rattle.lent.specs.Written.{written, over, written_at}
use Rattle.lent.proofs.Laws.{written_at-fits, length_over}
use Rattle.comparing.specs.Runs.{Run, run_bytes, runs_bytes}

-- six bytes each
pub length-report : (rs : List (ℕ × Run)) → length (runs_bytes rs) ≡ 6 * length rs
unfolding runs_bytes flatten
length-report [] = refl
length-report (r ∷ rs) = omega (arith, length-report rs)

-- of two rows of runs
pub report-append : (rs ss : List (ℕ × Run)) → runs_bytes (rs ++ ss) ≡ runs_bytes rs ++ runs_bytes ss
unfolding runs_bytes flatten
report-append [] ss = refl
report-append (r ∷ rs) ss = rw (append_assoc (run_bytes r) (flatten (map run_bytes rs)) (flatten (map run_bytes ss))) (ap (λ (l : List ℕ). run_bytes r ++ l) (report-append rs ss))

-- a write right behind another
over-more : (at : ℕ) (w p d : List ℕ) → at + length w ≤ length d → over (at + length w) p (over at w d) ≡ over at (w ++ p) d
over-more at w p d h =
    let front = take at d in
    let rest = drop (at + length w) d in
    let l : length (front ++ w) ≡ at + length w = rw (length-append, length-take-le at d (omega arith)) in
    let split : over at w d ≡ front ++ w ++ rest = sym (append_assoc front w rest) in
    let e : at + length (w ++ p) ≡ at + length w + length p = rw length-append (omega arith) in
    let t : take (at + length w) (front ++ w ++ rest) ≡ front ++ w = take_at (front ++ w) rest (at + length w) l in
    let b : drop (at + length w + length p) (front ++ w ++ rest) ≡ drop (at + length w + length p) d =
    sym (drop-drop (length p) (at + length w) (front ++ w ++ rest)) ∙ rw (drop_at (front ++ w) rest (at + length w) l) (drop-drop (length p) (at + length w) d) in
    rw (split, t, b, e) (append_assoc front w (p ++ drop (at + length w + length p) d) ∙ ap (λ (l : List ℕ). front ++ l) (sym (append_assoc w p (drop (at + length w + length p) d))))

-- the same, of lists that are known by what they equal
written-more : (start at : ℕ) (w p d : List ℕ) {d₁ d₂ : List ℕ} → at ≡ start + length w → at + length p ≤ length d
    → d₁ ≡ over start w d → d₂ ≡ written_at at p d₁ → (d₂ ≡ over start (w ++ p) d) × (length d₂ ≡ length d)
written-more start at w p d l h e f =
    let next : _ ≡ over start (w ++ p) d =
    f ∙ rw (e, l) (written_at-fits (start + length w) p (over start w d) (rw (length_over start w d (omega arith)) (omega arith)) ∙ over-more start w p d (omega arith)) in
    (next, ap length next ∙ length_over start (w ++ p) d (rw length-append (omega arith)))

-- what was written from `start` on, and what is left, are all the runs
abbrev pub Done : List (ℕ × Run) → List (ℕ × Run) → List ℕ → ℕ → List ℕ → ℕ → Type 0
Done all rs out₀ start out at =
    (done : List ℕ) × (out ≡ over start done out₀) × (at ≡ start + length done) × (done ++ runs_bytes rs ≡ runs_bytes all)

over_nothing : (at : ℕ) (d : List ℕ) → d ≡ over at [] d
over_nothing at d = rw (add-zero at) (sym (take-append-drop at d))

-- nothing yet
pub done_none : (all : List (ℕ × Run)) (start : ℕ) (out : List ℕ) → Done all all out start out start
done_none all start out = ([], over_nothing start out, omega arith, refl)

-- the first of what was left are written too
pub done_more : (all rs ss ts : List (ℕ × Run)) (start at after : ℕ) (out : List ℕ) {out₁ out₂ : List ℕ} → Done all rs out start out₁ at → rs ≡ ss ++ ts
    → after ≡ at + length (runs_bytes ss) → after ≤ length out → out₂ ≡ written_at at (runs_bytes ss) out₁
    → (length out₂ ≡ length out) × Done all ts out start out₂ after
done_more all rs ss ts start at after out d e l h f =
    let done = d.0 in
    let more = written-more start at done (runs_bytes ss) out d.2 (omega arith) d.1 f in
    let left : done ++ runs_bytes ss ++ runs_bytes ts ≡ runs_bytes all = append_assoc done (runs_bytes ss) (runs_bytes ts) ∙ rw (← report-append ss ts, ← e) d.3 in
    (more.1, (done ++ runs_bytes ss, more.0, rw length-append (omega (arith, d.2)), left))

-- a single run
pub report-one : (r : ℕ × Run) → runs_bytes (r ∷ []) ≡ run_bytes r
unfolding runs_bytes flatten
report-one r = refl

-- nothing is left
pub done_end : (all rs : List (ℕ × Run)) (done : List ℕ) → length rs ≡ 0 → done ++ runs_bytes rs ≡ runs_bytes all → done ≡ runs_bytes all
unfolding runs_bytes flatten
done_end all [] done e h = sym (append-nil done) ∙ h
done_end all (r ∷ rs) done e h = absurd (omega arith)

-- a write over the front
pub over-front : (w d : List ℕ) → over 0 w d ≡ written w d
over-front w d = rw (zero-add (length w))
