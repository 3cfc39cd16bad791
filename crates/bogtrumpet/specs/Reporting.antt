-- What a size report that was read comes to over a pointer: the plain answer, and what is changed of the node. Only functions of the crate's own cite this.
use Rattle.std.specs.Prelude.{ℕ, max, true, false, cond, List, ltb, Result, Ok, Err}
use Rattle.paths.specs.Candidate.{is_below}
use Rattle.paths.specs.Look.{look_among}
use Rattle.paths.specs.declared.Look.{Look}
use Rattle.paths.specs.declared.PathTable.{PathTable}
use Rattle.refusals.specs.declared.Refusal.{Refusal}
use Rattle.refusals.specs.declared.Refusal.TheVariants.{SizeNotBelow}
use Rattle.reports.specs.Reading.{judged_over}
use Rattle.reports.specs.declared.Report.{Report}
use Rattle.reports.specs.declared.reading.LinkReport.{LinkReport}
use Rattle.reports.specs.declared.reading.Quote.{Quote}
use Rattle.settings.specs.declared.Settings.{Settings}
use Rattle.node.specs.declared.Node.{Node}
use Rattle.bogtrumpet.specs.Answers.{plain_reported}
use Rattle.bogtrumpet.specs.declared.reporting.ReportLook.{ReportLook}

-- a refused report: of the node the latest time alone is changed
abbrev pub refused_look : Refusal → ℕ → ReportLook
refused_look refusal now = record { answer = plain_reported (Err refusal); row = 0; count = 0; latest = now; accepted = false }

-- an accepted report: the row that makes room for it, and how many are in use then
abbrev pub accepted_look : Report → Look → ℕ → ReportLook
accepted_look report look now = record { answer = plain_reported (Ok report); row = look.row; count = look.count; latest = now; accepted = true }

-- 19, by what the rows say of the neighbour
unfoldable pub looked_below : Report → Look → ℕ → ReportLook
looked_below report look now = cond (is_below report.size look.in_force) (accepted_look report look now) (refused_look SizeNotBelow now)

-- a report that was judged over a link, by the first n places of three rows
abbrev pub looked_over : Result LinkReport Refusal → List ℕ → List ℕ → List ℕ → ℕ → ℕ → ReportLook
looked_over (Ok over) neighbours sizes times n now = looked_below over.report (look_among over.link neighbours sizes times n over.report.neighbour now) now
looked_over (Err refusal) neighbours sizes times n now = refused_look refusal now

-- a report that was read, by the settings of both services and those rows, at the later of two times
unfoldable pub looked_among : Settings → Settings → ℕ → List ℕ → List ℕ → List ℕ → ℕ → ℕ → Result Quote Refusal → ℕ → ReportLook
looked_among a b both neighbours sizes times n latest reading time = looked_over (judged_over a b (ltb 0 both) reading) neighbours sizes times n (max latest time)

-- the same, by a node
abbrev pub looked_in : Node → Result Quote Refusal → ℕ → ReportLook
looked_in h reading time =
    let t : PathTable = h.paths in
    looked_among h.first.settings h.second.settings h.both t.neighbours t.sizes t.times t.count h.latest reading time
