-- A list of calls on one node, as far as the path sizes go, and their answers. What remembers the reports is a parameter,
-- the table or the plain record, and so are the links of its services, which are numbered, and the rule that says what a path of a given size lets through.
use Rattle.std.specs.Prelude.{Option}
use Prim.Native.Nat.{ℕ, max}
use mathlib.Core.Bool.{Bool, cond, ◌&&◌}
use mathlib.Core.List.{List, [], ◌∷◌}
use lib.Dec.{ltb}
use Rattle.paths.specs.Candidate.{is_below}
use Rattle.paths.specs.Kept.{Report, in_force}
use Rattle.paths.specs.Table.{no_reports, kept_in, table_after}
use Rattle.paths.specs.Record.{record_kept, record_after}
use Rattle.paths.specs.declared.PathTable.{PathTable}

pub data PathCall : Type 0 where
  -- a call's time
  clock : ℕ → PathCall
  -- a size report that passed 16, 17 and 18: its service, neighbour and candidate
  report : ℕ → ℕ → ℕ → PathCall
  -- a sending that came to 14: its service, neighbour, length, and whether the output takes the message of 14 (else 15 is given);
  -- first, whether it is one of the watched sender's, on which no answer depends
  send : Bool → ℕ → ℕ → ℕ → Bool → PathCall

pub data Answer : Type 0 where
  -- a report was accepted: neighbour and size
  accepted : ℕ → ℕ → Answer
  -- 19
  not_below : Answer
  -- 14, with the size named
  too_big : ℕ → Answer
  -- any other answer
  other : Answer

-- what remembers accepted reports: none of them, the size kept toward a neighbour at a time, and one more of a neighbour, a size and a time
pub record Memory (M : Type 0) : Type 0 where
  pub fresh : M
  pub kept : M → ℕ → ℕ → Option ℕ
  pub after : M → ℕ → ℕ → ℕ → M

abbrev pub table : Memory PathTable
table = record { fresh = no_reports; kept = kept_in; after = table_after }

abbrev pub plain : Memory (List Report)
plain = record { fresh = []; kept = record_kept; after = record_after }

-- the latest time after a call: an earlier one is read as the latest
abbrev pub latest : ℕ → PathCall → ℕ
latest now (clock t) = max now t
latest now (report i v c) = now
latest now (send mine i v n fits) = now

module _ {M : Type 0} (K : Memory M) where
  -- the size in force toward v over a link
  abbrev pub size_toward : ℕ → M → ℕ → ℕ → ℕ
  size_toward link m now v = in_force link (K.kept m v now)

  -- what is remembered after an answer: an accepted report more, and nothing else changes it
  abbrev pub remembered : M → ℕ → Answer → M
  remembered m now (accepted v c) = K.after m v c now
  remembered m now not_below = m
  remembered m now (too_big s) = m
  remembered m now other = m

-- 19, at a path of size P
abbrev pub report_answer : ℕ → ℕ → ℕ → Answer
report_answer P v c = cond (is_below c P) (accepted v c) not_below

-- 14, where a path lets M bytes through
abbrev pub send_answer : ℕ → ℕ → Bool → Answer
send_answer M n fits = cond (ltb M n && fits) (too_big M) other

module _ {M : Type 0} (K : Memory M) (limit : ℕ → ℕ) (links : ℕ → ℕ) where
  -- the answer to a call, by what is remembered and the latest time
  abbrev pub answer : M → ℕ → PathCall → Answer
  answer m now (clock t) = other
  answer m now (report i v c) = report_answer (size_toward K (links i) m now v) v c
  answer m now (send mine i v n fits) = send_answer (limit (size_toward K (links i) m now v)) n fits

  -- each call with its answer
  abbrev pub history : M → ℕ → List PathCall → List (PathCall × Answer)
  history m now [] = []
  history m now (x ∷ xs) = let a : Answer = answer m now x in (x, a) ∷ history (remembered K m now a) (latest now x) xs

  -- the size kept toward v after the calls
  abbrev pub kept_after : M → ℕ → List PathCall → ℕ → Option ℕ
  kept_after m now [] v = K.kept m v now
  kept_after m now (x ∷ xs) v = kept_after (remembered K m now (answer m now x)) (latest now x) xs v

  -- each call of a list that starts on a fresh node, with its answer: nothing is remembered, and the latest time is 0
  abbrev pub history_of : List PathCall → List (PathCall × Answer)
  history_of calls = history K.fresh 0 calls

  abbrev pub kept_of : List PathCall → ℕ → Option ℕ
  kept_of calls v = kept_after K.fresh 0 calls v
