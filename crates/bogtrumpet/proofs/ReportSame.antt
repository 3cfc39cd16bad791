-- A size report over a pointer is the node's: what it comes to over lent rows, and the path table that is left row by row. Assumes nothing.
--     Full             all places of the table's rows are there.        table_left    the path table that is left
--     look_same        the answer and the node of Node::report
use mathlib.Core.Path.{◌≡◌, refl, ap, ◌∙◌}
use Rattle.std.specs.Prelude.{Result, Ok, Err}
use Rattle.refusals.specs.declared.Refusal.{Refusal}
use Prim.Native.Nat.{ℕ, max, ◌<◌}
use mathlib.Core.Bool.{Bool, true, false, cond}
use mathlib.Core.List.{List}
use lib.Dec.{ltb}
use lib.ListN.{length}
use native.Mathlib.Omega.{arith}
use Rattle.header.specs.Outer.{outer_of, quote_of}
use Rattle.paths.specs.Candidate.{is_below}
use Rattle.paths.specs.Kept.{most_neighbours, in_force}
use Rattle.paths.specs.Look.{row_for, look_among, pushed_in}
use Rattle.paths.specs.Table.{kept_in, table_after}
use Rattle.paths.specs.declared.Look.{Look}
use Rattle.paths.specs.declared.PathTable.{PathTable}
use Rattle.paths.proofs.Arrays.{pushed-there}
use Rattle.refusals.specs.declared.Refusal.TheVariants.{SizeNotBelow}
use Rattle.reports.specs.Report.{judged_of, neighbour_in, accepted_below, answer_at}
use Rattle.reports.specs.Reading.{reading_of}
use Rattle.reports.specs.declared.Report.{Report}
use Rattle.reports.proofs.ReadingLaws.{over_with, is_other, over-same}
use Rattle.settings.specs.declared.Settings.{Settings}
use Rattle.node.specs.Node.{service_of, path_size_at}
use Rattle.node.specs.Report.{quotes_other, reported_to, paths_after, report_answer_of, report_of}
use Rattle.node.specs.declared.Node.{Node}
use Rattle.node.specs.declared.ServiceName.TheVariants.{First, Second}
use Rattle.bogtrumpet.specs.Answers.{plain_reported}
use Rattle.bogtrumpet.specs.Reporting.{refused_look, accepted_look, looked_below, looked_over, looked_among, looked_in}
use Rattle.bogtrumpet.specs.declared.reporting.ReportLook.{ReportLook}
use Rattle.bogtrumpet.proofs.Changed.{at-time, with_paths}

-- all of its rows have 64 places
abbrev pub Full : PathTable → Type 0
Full t = (length t.neighbours ≡ most_neighbours) × (length t.sizes ≡ most_neighbours) × (length t.times ≡ most_neighbours)

-- the path table that is left: of an accepted report, row by row
abbrev pub table_left : PathTable → ReportLook → PathTable
table_left t look = cond look.accepted (record {
  neighbours = pushed_in look.answer.neighbour look.row t.neighbours;
  sizes = pushed_in look.answer.size look.row t.sizes;
  times = pushed_in look.latest look.row t.times;
  count = look.count;
}) t

-- a look is the step with that answer, at that time
abbrev Same : PathTable → ReportLook → Result Report Refusal → ℕ → Type 0
Same t look a now = (look.answer ≡ plain_reported a) × (table_left t look ≡ paths_after a t now) × (look.latest ≡ now)

module _ (t : PathTable) (now : ℕ) where
  abbrev look_at : ℕ → ℕ → Look
  look_at link v = look_among link t.neighbours t.sizes t.times t.count v now

  -- an accepted report
  table_left_lem : Full t → (link : ℕ) (r : Report) → table_left t (accepted_look r (look_at link r.neighbour) now) ≡ table_after t r.neighbour r.size now
  unfolding look_among table_after
  table_left_lem full link r =
      let p : ℕ = row_for t.neighbours t.sizes t.times t.count r.neighbour in
      let there : p < most_neighbours = omega arith in
      rw (pushed-there r.neighbour p t.neighbours (rw full.0 there), pushed-there r.size p t.sizes (rw full.1 there), pushed-there now p t.times (rw full.2 there))

  by_below : (link : ℕ) (r : Report) (below : Bool)
      → ((cond below (accepted_look r (look_at link r.neighbour) now) (refused_look SizeNotBelow now)).accepted ≡ true → Full t)
      → Same t (cond below (accepted_look r (look_at link r.neighbour) now) (refused_look SizeNotBelow now)) (cond below (Ok r) (Err SizeNotBelow)) now
  by_below link r true full = (refl, table_left_lem (full refl) link r, refl)
  by_below link r false full = (refl, refl, refl)

  by_judged : (link : ℕ) (j : Result Report Refusal)
      → ((looked_over (over_with link j) t.neighbours t.sizes t.times t.count now).accepted ≡ true → Full t)
      → Same t (looked_over (over_with link j) t.neighbours t.sizes t.times t.count now) (answer_at j (in_force link (kept_in t (neighbour_in j) now))) now
  unfolding looked_below accepted_below look_among kept_in
  by_judged link (Ok r) full = by_below link r (is_below r.size (in_force link (kept_in t r.neighbour now))) full
  by_judged link (Err refusal) full = (refl, refl, refl)

-- the settings of the service that a report belongs to
chosen : (h : Node) (t : Bool) → (service_of h (cond t Second First)).settings ≡ cond t h.second.settings h.first.settings
chosen h true = refl
chosen h false = refl

-- of a table that is asked for its places only where the report is accepted
pub look_same : (h : Node) (m : List ℕ) (time : ℕ)
    → let z : ReportLook = looked_in h (reading_of m) time in
    (z.accepted ≡ true → Full h.paths)
    → (z.answer ≡ plain_reported (report_of h m time).answer) × (at-time (with_paths h (table_left h.paths z)) z.latest ≡ (report_of h m time).node)
unfolding report_of report_answer_of reported_to quotes_other path_size_at looked_among
look_same h m time full =
    let now : ℕ = max h.latest time in
    let a : Settings = h.first.settings in
    let b : Settings = h.second.settings in
    let t : Bool = is_other a b (ltb 0 h.both) (outer_of (quote_of m)).source in
    let s : Settings = (service_of h (cond t Second First)).settings in
    let j : Result Report Refusal = judged_of s m in
    let over = over-same a b m (ltb 0 h.both) in
    let z : ReportLook = looked_in h (reading_of m) time in
    let by_table : (z.accepted ≡ true → Full h.paths) → Same h.paths z (answer_at j (in_force s.link_size (kept_in h.paths (neighbour_in j) now))) now =
    rw (over, ← chosen h t) (by_judged h.paths now s.link_size j) in
    let same = by_table full in
    (same.0, ap (λ (p : PathTable). at-time (with_paths h p) (looked_in h (reading_of m) time).latest) same.1 ∙ ap (λ (l : ℕ). at-time (with_paths h (report_of h m time).node.paths) l) same.2)
