-- Over the table of the reports that the plain record has, every call gets the record's answer.
use mathlib.Core.Path.{◌≡◌, refl, ap}
use mathlib.Core.List.{List, [], ◌∷◌}
use Prim.Native.Nat.{ℕ}
use Rattle.paths.specs.Kept.{Report, in_force}
use Rattle.paths.specs.Table.{kept_in}
use Rattle.paths.specs.Record.{record_kept}
use Rattle.paths.proofs.Calls.{PathCall, clock, report, send, Answer, accepted, not_below, too_big, other, table, plain, answer, remembered, latest, history, kept_after}
use Rattle.paths.proofs.Claim.{SameKept, table_of}
use Rattle.paths.proofs.Same.{kept_same, table_of_keeps}

pub same_kept : SameKept
same_kept es v now = kept_same (table_of es) es (table_of_keeps es) v now

-- table and record give the same size in force over every link
pub same_in_force : (es : List Report) (v now link : ℕ) → in_force link (kept_in (table_of es) v now) ≡ in_force link (record_kept es v now)
same_in_force es v now link = ap (in_force link) (same_kept es v now)

same_remembered : (es : List Report) (now : ℕ) (a : Answer) → remembered table (table_of es) now a ≡ table_of (remembered plain es now a)
same_remembered es now (accepted v c) = refl
same_remembered es now not_below = refl
same_remembered es now (too_big s) = refl
same_remembered es now other = refl

module _ (limit : ℕ → ℕ) (links : ℕ → ℕ) where
  same_answer : (es : List Report) (now : ℕ) (x : PathCall) → answer table limit links (table_of es) now x ≡ answer plain limit links es now x
  same_answer es now (clock t) = refl
  same_answer es now (report i v c) = rw (same_kept es v now)
  same_answer es now (send mine i v n fits) = rw (same_kept es v now)

  pub same_history : (es : List Report) (now : ℕ) (xs : List PathCall) → history table limit links (table_of es) now xs ≡ history plain limit links es now xs
  same_history es now [] = refl
  same_history es now (x ∷ xs) =
      let a : Answer = answer plain limit links es now x in
      cc (same_answer es now x, same_remembered es now a, same_history (remembered plain es now a) (latest now x) xs)

  pub same_after : (es : List Report) (now : ℕ) (xs : List PathCall) (v : ℕ) → kept_after table limit links (table_of es) now xs v ≡ kept_after plain limit links es now xs v
  same_after es now [] v = same_kept es v now
  same_after es now (x ∷ xs) v =
      let a : Answer = answer plain limit links es now x in
      cc (same_answer es now x, same_remembered es now a, same_after (remembered plain es now a) (latest now x) xs v)
