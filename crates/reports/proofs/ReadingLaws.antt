-- A report that is read first and judged by the settings of two services is judged as one of the service that it belongs to. Assumes nothing.
--     malformed_parts  16 in two parts.        over-same     what is read and judged so
use Rattle.std.specs.Prelude.{Option, Some, None, Result, Ok, Err}
use Rattle.refusals.specs.declared.Refusal.{Refusal}
use Prim.Native.Nat.{ℕ}
use mathlib.Core.Path.{◌≡◌, refl, sym, ap, ◌∙◌}
use mathlib.Core.Bool.{Bool, true, false, cond, not, ◌||◌, ◌&&◌}
use mathlib.Core.List.{List, [], ◌∷◌}
use lib.Dec.{eqb, ltb}
use lib.ListN.{length, get_or}
use Rattle.address.specs.Address.{is_forbidden}
use Rattle.checksum.specs.Sum.{is_right}
use Rattle.header.specs.Numbers.{ipv6}
use Rattle.header.specs.Outer.{outer_of, quote_of, is_quote_malformed}
use Rattle.header.specs.declared.outer.Outer.{Outer}
use Rattle.refusals.specs.Refusals.{first_of, stop_or}
use Rattle.refusals.specs.declared.Refusal.TheVariants.{ReportMalformed, QuoteNotOurs}
use Rattle.settings.specs.Settings.{is_ours, is_bad_end, forbidden_to}
use Rattle.settings.specs.declared.Settings.{Settings}
use Rattle.reports.specs.Report.{least_message, is_report_malformed, is_quote_foreign, report_check, neighbour_of, candidate_for, judged_as, judged_of}
use Rattle.reports.specs.Reading.{is_other_message, is_quote_wrong, is_never_ours, reading_of, origin_of, over_link, quote_from, judged_over}
use Rattle.reports.specs.declared.Report.{Report}
use Rattle.reports.specs.declared.reading.LinkReport.{LinkReport}
use Rattle.reports.specs.declared.reading.Origin.TheVariants.{First, Second}

-- length, checksum, type, code and quoted header
in_parts : (a s k c q : Bool) → (a || s || k || c || q) ≡ ((a || k || c) || (q || s))
in_parts true s k c q = refl
in_parts false true true c q = refl
in_parts false true false true q = refl
in_parts false true false false true = refl
in_parts false true false false false = refl
in_parts false false true c q = refl
in_parts false false false true q = refl
in_parts false false false false true = refl
in_parts false false false false false = refl

pub malformed_parts : (m : List ℕ) (quoted : Outer) → is_report_malformed m quoted ≡ (is_other_message m || is_quote_wrong m quoted)
unfolding is_report_malformed is_other_message is_quote_wrong
malformed_parts m quoted = in_parts (ltb (length m) least_message) (not (is_right m)) (not (eqb (get_or m 0 0) 3)) (not (eqb (get_or m 1 0) 4)) (is_quote_malformed (length (quote_of m)) quoted)

-- what was judged by the settings of one service, over a link
abbrev pub over_with : ℕ → Result Report Refusal → Result LinkReport Refusal
over_with link (Ok report) = Ok (record { report = report; link = link })
over_with link (Err refusal) = Err refusal

-- a report quotes a locator address of the second settings and none of the first; where there are two
abbrev pub is_other : Settings → Settings → Bool → ℕ → Bool
is_other a b two source = two && (not (is_ours a source) && is_ours b source)

module _ (v : ℕ) (candidate : Option ℕ) where
  -- by the tests alone: o and w of 16; p and f of 17, whatever the settings; then the source and the neighbour, in each service
  tests : (o w p f two sa sb da db : Bool) (la lb : ℕ)
      → let t : Bool = two && (not sa && sb) in
      stop_or Err (first_of ((o, ReportMalformed) ∷ (w, ReportMalformed) ∷ (p || f, QuoteNotOurs) ∷ [])) (cond sa (over_link da la v candidate) (cond (two && sb) (over_link db lb v candidate) (Err QuoteNotOurs)))
      ≡ stop_or Err (first_of ((o || w, ReportMalformed) ∷ (p || not (cond t sb sa) || (f || cond t db da), QuoteNotOurs) ∷ [])) (over_link false (cond t lb la) v candidate)
  unfolding over_link
  tests true w p f two sa sb da db la lb = refl
  tests false true p f two sa sb da db la lb = refl
  tests false false true f two sa sb da db la lb = refl
  tests false false false true false true sb da db la lb = refl
  tests false false false true false false sb da db la lb = refl
  tests false false false true true true sb da db la lb = refl
  tests false false false true true false true da db la lb = refl
  tests false false false true true false false da db la lb = refl
  tests false false false false false true sb true db la lb = refl
  tests false false false false false true sb false db la lb = refl
  tests false false false false false false sb da db la lb = refl
  tests false false false false true true sb true db la lb = refl
  tests false false false false true true sb false db la lb = refl
  tests false false false false true false true da true la lb = refl
  tests false false false false true false true da false la lb = refl
  tests false false false false true false false da db la lb = refl

  module _ (a b : Settings) where
    by_origin : (x y : Bool) → quote_from a b (cond x (Some First) (cond y (Some Second) None)) v candidate ≡ cond x (over_link (is_ours a v) a.link_size v candidate) (cond y (over_link (is_ours b v) b.link_size v candidate) (Err QuoteNotOurs))
    by_origin true y = refl
    by_origin false true = refl
    by_origin false false = refl

    read_stop : (two : Bool) (source : ℕ) (check : Result Unit Refusal) → judged_over a b two (stop_or Err check (Ok (record { source = source; neighbour = v; candidate = candidate }))) ≡ stop_or Err check (quote_from a b (origin_of a b two source) v candidate)
    unfolding judged_over
    read_stop two source (Ok tt) = refl
    read_stop two source (Err refusal) = refl

over_as : (link v : ℕ) (candidate : Option ℕ) → over_with link (judged_as v candidate) ≡ over_link false link v candidate
unfolding over_link
over_as link v (Some c) = refl
over_as link v None = refl

judged_stop : (link v : ℕ) (candidate : Option ℕ) (check : Result Unit Refusal) → over_with link (stop_or Err check (judged_as v candidate)) ≡ stop_or Err check (over_link false link v candidate)
judged_stop link v candidate (Ok tt) = over_as link v candidate
judged_stop link v candidate (Err refusal) = refl

module _ (a b : Settings) (m : List ℕ) where
  abbrev quoted : Outer
  quoted = outer_of (quote_of m)

  -- of the settings that are chosen
  chosen : (t : Bool) → over_with (cond t b a).link_size (judged_of (cond t b a) m)
      ≡ stop_or Err (first_of ((is_report_malformed m quoted, ReportMalformed) ∷ (not (eqb quoted.protocol ipv6) || not (cond t (is_ours b quoted.source) (is_ours a quoted.source)) || (is_forbidden quoted.destination || cond t (is_ours b quoted.destination) (is_ours a quoted.destination)), QuoteNotOurs) ∷ [])) (over_link false (cond t b.link_size a.link_size) (neighbour_of m) (candidate_for m))
  unfolding judged_of report_check is_quote_foreign is_bad_end forbidden_to
  chosen true = judged_stop b.link_size (neighbour_of m) (candidate_for m) (report_check b m quoted)
  chosen false = judged_stop a.link_size (neighbour_of m) (candidate_for m) (report_check a m quoted)

  pub over-same : (two : Bool) → let s : Settings = cond (is_other a b two quoted.source) b a in judged_over a b two (reading_of m) ≡ over_with s.link_size (judged_of s m)
  unfolding reading_of origin_of is_never_ours
  over-same two =
      let v : ℕ = neighbour_of m in
      let c : Option ℕ = candidate_for m in
      let p : Bool = not (eqb quoted.protocol ipv6) in
      let f : Bool = is_forbidden quoted.destination in
      let sa : Bool = is_ours a quoted.source in
      let sb : Bool = is_ours b quoted.source in
      let t : Bool = is_other a b two quoted.source in
      let check : Result Unit Refusal = first_of ((is_other_message m, ReportMalformed) ∷ (is_quote_wrong m quoted, ReportMalformed) ∷ (p || f, QuoteNotOurs) ∷ []) in
      let foreign : Bool = p || not (cond t sb sa) || (f || cond t (is_ours b v) (is_ours a v)) in
      read_stop v c a b two quoted.source check ∙ ap (stop_or Err check) (by_origin v c a b sa (two && sb))
      ∙ tests v c (is_other_message m) (is_quote_wrong m quoted) p f two sa sb (is_ours a v) (is_ours b v) a.link_size b.link_size
      ∙ sym (chosen t ∙ ap (λ (z : Bool). stop_or Err (first_of ((z, ReportMalformed) ∷ (foreign, QuoteNotOurs) ∷ [])) (over_link false (cond t b.link_size a.link_size) v c)) (malformed_parts m quoted))
