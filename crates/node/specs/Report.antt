-- The call with a size report (R9): answer and next node.
use Rattle.std.specs.Prelude.{ℕ, max, Bool, cond, not, ◌&&◌, List, ltb, Result, Ok, Err}
use Rattle.header.specs.Outer.{outer_of, quote_of}
use Rattle.paths.specs.Table.{table_after}
use Rattle.paths.specs.declared.PathTable.{PathTable}
use Rattle.settings.specs.Settings.{is_ours}
use Rattle.settings.specs.declared.Settings.{Settings}
use Rattle.reports.specs.Report.{judged_of, neighbour_in, answer_at}
use Rattle.refusals.specs.declared.Refusal.{Refusal}
use Rattle.reports.specs.declared.Report.{Report}
use Rattle.node.specs.Node.{service_of, node_keeping, path_size_at}
use Rattle.node.specs.declared.Node.{Node}
use Rattle.node.specs.declared.ServiceName.{ServiceName}
use Rattle.node.specs.declared.ServiceName.TheVariants.{First, Second}
use Rattle.node.specs.declared.report.ReportStep.{ReportStep}
use Rattle.node.specs.declared.report.Reported.{Reported}

-- R26.5: a report quotes a locator address of the settings b, and none of the settings a
unfoldable pub quotes_other : Settings → Settings → List ℕ → Bool
quotes_other a b m = not (is_ours a (outer_of (quote_of m)).source) && is_ours b (outer_of (quote_of m)).source

-- R26.5: the service that a report belongs to; the first where neither has the address, for its 16 or 17, and where both have
unfoldable pub reported_to : Node → List ℕ → ServiceName
reported_to node m = cond (ltb 0 node.both && quotes_other node.first.settings node.second.settings m) Second First

-- an accepted report is the neighbour's last
abbrev pub paths_after : Result Report Refusal → PathTable → ℕ → PathTable
paths_after (Ok report) table now = table_after table report.neighbour report.size now
paths_after (Err refusal) table now = table

-- 16, 17 and 18 by the settings of its service and the bytes, 19 by the service's size in force toward the neighbour
unfoldable pub report_answer_of : Node → List ℕ → ℕ → Result Report Refusal
report_answer_of node m now =
    let name : ServiceName = reported_to node m in
    let j : Result Report Refusal = judged_of (service_of node name).settings m in
    answer_at j (path_size_at node name (neighbour_in j) now)

-- what the node makes of it, now: the answer, and the path table afterwards
abbrev pub reported_by : Node → List ℕ → ℕ → ReportStep
reported_by node m now =
    let a : Result Report Refusal = report_answer_of node m now in
    record { answer = a; paths = paths_after a node.paths now }

-- the answer and the next node, whose path sizes are those that the report leaves
unfoldable pub report_of : Node → List ℕ → ℕ → Reported
report_of node m time =
    let step : ReportStep = reported_by node m (max node.latest time) in
    record { answer = step.answer; node = node_keeping node step.paths time }
