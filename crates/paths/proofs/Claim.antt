-- What is claimed of the path sizes: the table keeps what the plain record keeps, and demand 3 holds of every list of calls.
use Prim.Native.Nat.{ℕ, ◌≤◌}
use mathlib.Core.Path.{◌≡◌}
use mathlib.Core.List.{List, [], ◌∷◌}
use lib.ListN.{take}
use Rattle.paths.specs.Kept.{Report}
use Rattle.paths.specs.Table.{no_reports, kept_in, table_after}
use Rattle.paths.specs.Record.{record_kept}
use Rattle.paths.proofs.Calls.{PathCall, table, plain, history_of, kept_of}
use Rattle.paths.specs.Sender.{Bound}
use Rattle.paths.proofs.Events.{events_of}
use Rattle.paths.specs.declared.PathTable.{PathTable}

-- the table after accepted reports, the newest first
abbrev pub table_of : List Report → PathTable
table_of [] = no_reports
table_of (e ∷ es) = table_after (table_of es) e.neighbour e.size e.time

-- after any accepted reports the table keeps what the record keeps, toward every neighbour and at any time
abbrev pub SameKept : Type 0
SameKept = (es : List Report) (v now : ℕ) → kept_in (table_of es) v now ≡ record_kept es v now

-- the larger the path, the more it lets through
abbrev pub Grows : (ℕ → ℕ) → Type 0
Grows limit = (P Q : ℕ) → P ≤ Q → limit P ≤ limit Q

pub record PathsHold (limit : ℕ → ℕ) (links : ℕ → ℕ) (calls : List PathCall) : Type 0 where
  -- every call gets the answer that the plain record gives
  pub answers : history_of table limit links calls ≡ history_of plain limit links calls
  -- the size kept toward any neighbour is the record's, after any number of the calls
  pub sizes : (k v : ℕ) → kept_of table limit links (take k calls) v ≡ kept_of plain limit links (take k calls) v
  -- a sender through one service to v that heeds the sizes named to it gets at most one Too Big more than v has accepted reports, of whichever
  -- service, since its first packet
  pub senders : (j v : ℕ) → Bound (events_of j v (history_of table limit links calls))

-- demand 3 of the path sizes, as one statement about a whole list of calls
abbrev pub AllPathsHold : Type 0
AllPathsHold = (limit : ℕ → ℕ) → Grows limit → (links : ℕ → ℕ) (calls : List PathCall) → PathsHold limit links calls
