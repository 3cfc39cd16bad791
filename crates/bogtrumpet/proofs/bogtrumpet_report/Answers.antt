-- A report over a pointer is the node's, and its rows are changed one by one.
use Rattle.std.proofs.Common.{◌≡◌, true, true≢false, rules, sym, ap, ◌∙◌}
use Rattle.node.specs.declared.Node.{Node}
use Rattle.bogtrumpet.specs.Reporting.{looked_in}
use Rattle.bogtrumpet.specs.declared.reporting.ReportLook.{ReportLook}
use Rattle.reports.specs.Reading.{reading_of}
use Rattle.bogtrumpet.proofs.Changed.{at-time, with_paths}
use Rattle.bogtrumpet.proofs.ReportSame.{Full, table_left, look_same}
use Rattle.bogtrumpet.proofs.bogtrumpet_report.Goals as goal
use Rattle.bogtrumpet.proofs.bogtrumpet_report.Goals.{then-look, else-look}

pub returns : goal.returns
returns c =
    let h = c.args.node.now in
    let look = c.report_look-look.result in
    let e : look ≡ looked_in h (reading_of c.args.message.now) c.args.time = rw (← c.read-reading.ensures) c.report_look-look.ensures in
    let full : (looked_in h (reading_of c.args.message.now) c.args.time).accepted ≡ true → Full h.paths =
    λ t. elim c.if-look.branch [
      | then-look w ↦ (search rules, search rules, search rules)
      | else-look w ↦ absurd (true≢false (sym t ∙ ap (λ (z : ReportLook). z.accepted) (sym e) ∙ w.if-look.false))
    ] in
    let s = look_same h c.args.message.now c.args.time full in
    let left : c.if-look.node ≡ with_paths h (table_left h.paths look) =
    elim c.if-look.branch [
      | then-look w ↦ rw (w.node-is, w.if-look.true, w.push.ensures, w.push-then-look.ensures, w.push-then-look-2.ensures)
      | else-look w ↦ rw (w.node-is, w.if-look.false)
    ] in
    let s' = rw (← e) at s in
    (s'.0, ap (λ (n : Node). at-time n look.latest) left ∙ s'.1)
