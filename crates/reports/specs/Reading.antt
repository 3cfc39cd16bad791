-- A size report read before any settings are, and judged by the settings of two services: it is judged as `Report` says, by laws in proofs/. No contract of node, boundary or program rests on this.
use Rattle.std.specs.Prelude.{ℕ, Bool, true, false, cond, not, ◌||◌, ◌&&◌, List, [], ◌∷◌, eqb, ltb, length, get_or, Option, Some, None, Result, Ok, Err}
use Rattle.address.specs.Address.{is_forbidden}
use Rattle.checksum.specs.Sum.{is_right}
use Rattle.header.specs.Numbers.{ipv6}
use Rattle.header.specs.Outer.{outer_of, quote_of, is_quote_malformed}
use Rattle.header.specs.declared.outer.Outer.{Outer}
use Rattle.refusals.specs.Refusals.{first_of, stop_or}
use Rattle.refusals.specs.declared.Refusal.{Refusal}
use Rattle.refusals.specs.declared.Refusal.TheVariants.{ReportMalformed, QuoteNotOurs, SizeUnusable}
use Rattle.settings.specs.Settings.{is_ours}
use Rattle.settings.specs.declared.Settings.{Settings}
use Rattle.reports.specs.Report.{least_message, candidate_for, report_to}
use Rattle.reports.specs.declared.reading.LinkReport.{LinkReport}
use Rattle.reports.specs.declared.reading.Origin.{Origin}
use Rattle.reports.specs.declared.reading.Origin.TheVariants.{First, Second}
use Rattle.reports.specs.declared.reading.Quote.{Quote}

-- of 16: under 28 bytes, or not type 3 code 4
unfoldable pub is_other_message : List ℕ → Bool
is_other_message m = ltb (length m) least_message || not (eqb (get_or m 0 0) 3) || not (eqb (get_or m 1 0) 4)

-- of 16: the quoted header not version 4, under 5 words or cut off, or the checksum wrong
unfoldable pub is_quote_wrong : List ℕ → Outer → Bool
is_quote_wrong m quoted = is_quote_malformed (length (quote_of m)) quoted || not (is_right m)

-- of 17, whatever the settings: quoted protocol not 41, or quoted destination forbidden
unfoldable pub is_never_ours : Outer → Bool
is_never_ours quoted = not (eqb quoted.protocol ipv6) || is_forbidden quoted.destination

-- what a message quotes and asks for: the quoted source and destination, and its candidate
abbrev pub read_as : List ℕ → Outer → Quote
read_as m quoted = record { source = quoted.source; neighbour = quoted.destination; candidate = candidate_for m }

-- 16, then what of 17 is so whatever the settings; else what the message quotes and asks for
unfoldable pub reading_of : List ℕ → Result Quote Refusal
reading_of m =
    let quoted : Outer = outer_of (quote_of m) in
    stop_or Err (first_of ((is_other_message m, ReportMalformed) ∷ (is_quote_wrong m quoted, ReportMalformed) ∷ (is_never_ours quoted, QuoteNotOurs) ∷ [])) (Ok (read_as m quoted))

-- the service that has the address among its locators, the first before the second; of the second only where there are two
unfoldable pub origin_of : Settings → Settings → Bool → ℕ → Option Origin
origin_of a b two source = cond (is_ours a source) (Some First) (cond (two && is_ours b source) (Some Second) None)

-- the rest of 17, where the neighbour is our own, then 18; else the neighbour, its candidate and the size of the link
unfoldable pub over_link : Bool → ℕ → ℕ → Option ℕ → Result LinkReport Refusal
over_link true link v candidate = Err QuoteNotOurs
over_link false link v (Some c) = Ok (record { report = report_to v c; link = link })
over_link false link v None = Err SizeUnusable

-- by the settings of the service that the report belongs to
abbrev pub quote_over : Settings → Settings → Origin → ℕ → Option ℕ → Result LinkReport Refusal
quote_over a b First v candidate = over_link (is_ours a v) a.link_size v candidate
quote_over a b Second v candidate = over_link (is_ours b v) b.link_size v candidate

-- the same, where a service has the quoted source; else 17
abbrev pub quote_from : Settings → Settings → Option Origin → ℕ → Option ℕ → Result LinkReport Refusal
quote_from a b (Some origin) v candidate = quote_over a b origin v candidate
quote_from a b None v candidate = Err QuoteNotOurs

-- what is read, judged by the settings of two services
unfoldable pub judged_over : Settings → Settings → Bool → Result Quote Refusal → Result LinkReport Refusal
judged_over a b two (Ok quote) = quote_from a b (origin_of a b two quote.source) quote.neighbour quote.candidate
judged_over a b two (Err refusal) = Err refusal
