-- The plain record of demand 3 (R11), one for both services: fed the settings and the calls, and no answers.
use Rattle.std.specs.Prelude.{ℕ, max, cond, List, [], ◌∷◌, length, Option, None, Some, Result, Ok, Err}
use Rattle.refusals.specs.declared.Refusal.{Refusal}
use Rattle.refusals.specs.Given.{Given}
use Rattle.refusals.specs.declared.Refusal.TheVariants.{NoLocator}
use Rattle.address.specs.Address.{last_quad}
use Rattle.settings.specs.declared.Settings.{Settings}
use Rattle.paths.specs.Kept.{Report, in_force}
use Rattle.paths.specs.Record.{record_kept, record_after}
use Rattle.sending.specs.Sending.{answer_of, send_given}
use Rattle.sending.specs.declared.SendAnswer.{SendAnswer}
use Rattle.sending.specs.declared.SendAnswer.TheVariants as sent
use Rattle.reports.specs.Report.{answer_toward, report_given}
use Rattle.reports.specs.declared.Report as reports
use Rattle.node.specs.Report.{quotes_other}
use Rattle.node.specs.declared.Node.{Node}
use Rattle.demands.specs.Starts.{Start, settings_of}
use Rattle.demands.specs.Calls.{NodeCall, outcome_of, OfSizes, a_sending, a_report, no_size, view_of}

-- the record has a latest time, at first 0, and entries, at first none (R11.2)
pub record Plain : Type 0 where
  pub latest : ℕ
  pub entries : List Report

-- the record at first
abbrev pub fresh_plain : Plain
fresh_plain = record { latest = 0; entries = [] }

-- a call with a time, refused or not, first raises the latest time to that if it is later (R11.3)
abbrev pub raised : Plain → ℕ → Plain
raised r time = record { latest = max r.latest time; entries = r.entries }

-- neighbour and candidate are its answer and, with the latest time, the new last entry. Nothing else changes the record (R11.5, R11.6)
abbrev pub entered : Plain → Result reports.Report Refusal → Plain
entered r (Ok report) = record { latest = r.latest; entries = record_after r.entries report.neighbour report.size r.latest }
entered r (Err n) = r

-- its size toward a neighbour, for a service of these settings: ages are taken at its latest time (R11.7, R26.6)
abbrev pub plain_size : Settings → Plain → ℕ → ℕ
plain_size t r v = in_force t.link_size (record_kept r.entries v r.latest)

-- the settings of the service that a report belongs to (R26.5): the second's where they alone have the quoted source for a locator address
abbrev pub reported_with : Settings → Option Settings → List ℕ → Settings
reported_with a None m = a
reported_with a (Some b) m = cond (quotes_other a b m) b a

-- the rules of sending, for the record's size toward the tunnel end; 11 where there is no such service
abbrev pub sent_with : Option Settings → Plain → List ℕ → List ℕ → ℕ → ℕ → SendAnswer
sent_with None r packet hop k room = sent.Refused NoLocator
sent_with (Some t) r packet hop k room = answer_of t (plain_size t r (last_quad hop)) packet hop k room

module _ (s : Start) where
  -- the first of 16, 17, 18 that its bytes and the settings of its service give, else 19 if its candidate is not below the record's size
  -- toward its neighbour (R11.4)
  abbrev pub plain_report : Plain → List ℕ → Result reports.Report Refusal
  plain_report r m =
      let t : Settings = reported_with s.first s.second m in
      answer_toward t m (plain_size t r)

  -- its answer to a call, with that much room in the output; none where the call is neither a sending nor a report
  abbrev pub plain_given : Plain → ℕ → OfSizes → Option Given
  plain_given r room (a_sending w packet hop k) = Some (send_given (sent_with (settings_of s w) r packet hop k room))
  plain_given r room (a_report m) = Some (report_given (plain_report r m))
  plain_given r room no_size = None

  -- the record after a call, once its latest time is raised
  abbrev pub plain_entered : Plain → OfSizes → Plain
  plain_entered r (a_sending w packet hop k) = r
  plain_entered r (a_report m) = entered r (plain_report r m)
  plain_entered r no_size = r

  -- the record after a call
  abbrev pub plain_next : Plain → NodeCall → Plain
  plain_next r x = plain_entered (raised r (view_of x).time) (view_of x).sizes

  -- the record after a list of calls
  abbrev pub plain_after : Plain → List NodeCall → Plain
  plain_after r [] = r
  plain_after r (x ∷ xs) = plain_after (plain_next r x) xs

  -- what the record answers to each call of a list
  abbrev pub plain_run : Plain → List NodeCall → List (Option Given)
  plain_run r [] = []
  plain_run r (x ∷ xs) =
      plain_given (raised r (view_of x).time) (length (view_of x).lent) (view_of x).sizes ∷ plain_run (plain_next r x) xs

-- what is given back to a sending or a report; none of any other call
abbrev pub given_if : OfSizes → Given → Option Given
given_if (a_sending w packet hop k) g = Some g
given_if (a_report m) g = Some g
given_if no_size g = None

-- what the node answers to each call of a list, if it is a sending or a report
abbrev pub run : Node → List NodeCall → List (Option Given)
run n [] = []
run n (x ∷ xs) = given_if (view_of x).sizes (outcome_of n x).given ∷ run (outcome_of n x).node xs
