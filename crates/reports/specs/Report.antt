-- Size reports (R9): 16, 17 and 18 by the settings and the bytes alone, then 19 by the size in force.
use Rattle.std.specs.Prelude.{ℕ, ◌+◌, Bool, cond, not, ◌||◌, List, [], ◌∷◌, eqb, ltb, length, get_or, Option, Some, None, Result, Ok, Err}
use Rattle.checksum.specs.Sum.{is_right}
use Rattle.header.specs.Fields.{word_at}
use Rattle.header.specs.Numbers.{outer_header, ipv6}
use Rattle.header.specs.Outer.{outer_of, quote_of, is_quote_malformed}
use Rattle.header.specs.declared.outer.Outer.{Outer}
use Rattle.paths.specs.Candidate.{candidate_of, is_below}
use Rattle.refusals.specs.Refusals.{first_of, stop_or}
use Rattle.refusals.specs.Given.{Given, answered, refused}
use Rattle.refusals.specs.declared.Refusal.{Refusal}
use Rattle.refusals.specs.declared.Refusal.TheVariants.{ReportMalformed, QuoteNotOurs, SizeUnusable, SizeNotBelow}
use Rattle.settings.specs.Settings.{is_ours, is_bad_end}
use Rattle.settings.specs.declared.Settings.{Settings}
use Rattle.reports.specs.declared.Report.{Report}

-- a report that asks for the size c toward the neighbour v
abbrev pub report_to : ℕ → ℕ → Report
report_to v c = record { neighbour = v; size = c }

-- a message of 8 bytes and the least IPv4 header: 28 bytes
abbrev pub least_message : ℕ
least_message = 8 + outer_header

-- 16: under 28 bytes, checksum wrong, not type 3 code 4, or the quoted header not version 4, under 5 words or cut off
unfoldable pub is_report_malformed : List ℕ → Outer → Bool
is_report_malformed m quoted =
    ltb (length m) least_message
    || not (is_right m)
    || not (eqb (get_or m 0 0) 3)
    || not (eqb (get_or m 1 0) 4)
    || is_quote_malformed (length (quote_of m)) quoted

-- 17: quoted protocol not 41, quoted source no locator address, or quoted destination forbidden or our own
unfoldable pub is_quote_foreign : Settings → Outer → Bool
is_quote_foreign s quoted =
    not (eqb quoted.protocol ipv6) || not (is_ours s quoted.source) || is_bad_end s quoted.destination

-- 16 and 17, in this order
abbrev pub report_rows : Settings → List ℕ → Outer → List (Bool × Refusal)
report_rows s m quoted = (is_report_malformed m quoted, ReportMalformed) ∷ (is_quote_foreign s quoted, QuoteNotOurs) ∷ []

-- the first of 16 and 17 that a message gets whose quoted header has these fields
unfoldable pub report_check : Settings → List ℕ → Outer → Result Unit Refusal
report_check s m quoted = first_of (report_rows s m quoted)

-- the neighbour is the quoted destination
abbrev pub neighbour_of : List ℕ → ℕ
neighbour_of m = (outer_of (quote_of m)).destination

-- the candidate is bytes 6 and 7; if 0, the largest plateau below the quoted total length
unfoldable pub candidate_for : List ℕ → Option ℕ
candidate_for m = candidate_of (word_at m 6) (word_at (quote_of m) 2)

-- 18: below 68, or no plateau
abbrev pub judged_as : ℕ → Option ℕ → Result Report Refusal
judged_as v (Some c) = Ok (report_to v c)
judged_as v None = Err SizeUnusable

-- the first of 16, 17 and 18 that a report's bytes and the settings give, else its neighbour and its candidate
unfoldable pub judged_of : Settings → List ℕ → Result Report Refusal
judged_of s m = stop_or Err (report_check s m (outer_of (quote_of m))) (judged_as (neighbour_of m) (candidate_for m))

-- the neighbour of a report that 16, 17 and 18 pass
abbrev pub neighbour_in : Result Report Refusal → ℕ
neighbour_in (Ok report) = report.neighbour
neighbour_in (Err refusal) = 0

-- 19: not below the size in force
unfoldable pub accepted_below : Report → ℕ → Result Report Refusal
accepted_below report P = cond (is_below report.size P) (Ok report) (Err SizeNotBelow)

-- the answer at the size in force toward the neighbour
abbrev pub answer_at : Result Report Refusal → ℕ → Result Report Refusal
answer_at (Ok report) P = accepted_below report P
answer_at (Err refusal) P = Err refusal

-- the answer, where `size` is the size in force toward each neighbour
abbrev pub answer_toward : Settings → List ℕ → (ℕ → ℕ) → Result Report Refusal
answer_toward s m size = answer_at (judged_of s m) (size (neighbour_in (judged_of s m)))

-- an accepted report answers the neighbour and its size
abbrev pub report_given : Result Report Refusal → Given
report_given (Ok report) = answered (report.neighbour ∷ report.size ∷ [])
report_given (Err refusal) = refused refusal
