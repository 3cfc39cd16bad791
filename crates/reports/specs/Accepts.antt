-- Demand 2 of size reports, said in plain facts: a report is accepted exactly when the rules admit it, with its neighbour and size, and
-- each refusal is given when they say.
use Rattle.std.specs.Prelude.{ℕ, ◌*◌, ◌/◌, ◌%◌, ◌≤◌, ◌<◌, ◌≡◌, ◌↔◌, List, length, get_or, Result, Ok, Err}
use Rattle.checksum.specs.Sum.{ones_sum}
use Rattle.header.specs.Fields.{word_at, quad_at}
use Rattle.header.specs.Outer.{quote_of}
use Rattle.paths.specs.Largest.{CandidateIs}
use Rattle.refusals.specs.declared.Refusal.{Refusal}
use Rattle.refusals.specs.declared.Refusal.TheVariants.{ReportMalformed, QuoteNotOurs, SizeUnusable, SizeNotBelow}
use Rattle.settings.specs.Facts.{ForbiddenTo, Ours}
use Rattle.settings.specs.declared.Settings.{Settings}
use Rattle.reports.specs.Report.{report_to}
use Rattle.reports.specs.declared.Report.{Report}

-- 16 does not hold of a message m
pub record WellFormed (m : List ℕ) : Type 0 where
  -- RFC 792: at least 8 bytes and an IPv4 header, with a checksum that is right
  pub some : 28 ≤ length m
  pub checksum_right : ones_sum m ≡ 0xFFFF
  -- RFC 1191, 4: destination unreachable, fragmentation needed
  pub kind : get_or m 0 0 ≡ 3
  pub code : get_or m 1 0 ≡ 4
  -- RFC 791, 3.1: it quotes a whole IPv4 header of five words or more
  pub version : get_or (quote_of m) 0 0 / 16 ≡ 4
  pub words : 5 ≤ get_or (quote_of m) 0 0 % 16
  pub whole : get_or (quote_of m) 0 0 % 16 * 4 ≤ length (quote_of m)

-- 17 does not hold: the quoted datagram is of our sending, protocol 41, from a locator address to a tunnel end, the neighbour v
pub record OfOurs (s : Settings) (m : List ℕ) (v : ℕ) : Type 0 where
  pub protocol : get_or (quote_of m) 9 0 ≡ 41
  pub source : Ours s (quad_at (quote_of m) 12)
  pub neighbour : quad_at (quote_of m) 16 ≡ v
  pub allowed : ForbiddenTo s v → ⊥
  pub foreign : Ours s v → ⊥

-- 18 does not hold: bytes 6 and 7, or for 0 the plateau below the quoted total length, give the candidate c
abbrev pub AsksFor : List ℕ → ℕ → Type 0
AsksFor m c = CandidateIs (word_at m 6) (word_at (quote_of m) 2) c

-- the rules, at a size P in force toward the neighbour v
pub record Accepts (s : Settings) (m : List ℕ) (P v c : ℕ) : Type 0 where
  pub formed : WellFormed m
  pub ours : OfOurs s m v
  pub candidate : AsksFor m c
  -- 19 does not hold
  pub below : c < P

-- the claim, of the answer to a message, where `size` is the size in force toward each neighbour
pub record ReportedExactly (s : Settings) (m : List ℕ) (size : ℕ → ℕ) (answer : Result Report Refusal) : Type 0 where
  pub accepted : (v c : ℕ) → (answer ≡ Ok (report_to v c)) ↔ Accepts s m (size v) v c
  pub malformed : (WellFormed m → ⊥) → answer ≡ Err ReportMalformed
  pub not_ours : WellFormed m → ((v : ℕ) → OfOurs s m v → ⊥) → answer ≡ Err QuoteNotOurs
  pub unusable : (v : ℕ) → WellFormed m → OfOurs s m v → ((c : ℕ) → AsksFor m c → ⊥) → answer ≡ Err SizeUnusable
  pub not_below : (v c : ℕ) → WellFormed m → OfOurs s m v → AsksFor m c → size v ≤ c → answer ≡ Err SizeNotBelow
