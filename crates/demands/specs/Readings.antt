-- What facts and tests both read by, said once more in the bytes and members themselves: a reading that is bent breaks this, though a rule
-- and its test would go on agreeing.
use Rattle.std.specs.Prelude.{ℕ, ◌+◌, ◌*◌, ◌<◌, min, ◌≡◌, ◌⊎◌, ◌↔◌, true, false, List, [], ◌∷◌, map, length, get_or, take, drop, Some, None}
use Rattle.address.specs.Address.{quad_of, last_quad, link_local_prefix}
use Rattle.address.specs.Prefixes.{rows_of}
use Rattle.header.specs.Fields.{word_at, quad_at}
use Rattle.header.specs.Outer.{quote_of}
use Rattle.paths.specs.Kept.{in_force}
use Rattle.refusals.specs.Refusals.{number_of}
use Rattle.refusals.specs.declared.Refusal.TheVariants as refusal
use Rattle.routers.specs.Routers.{live, places_of}
use Rattle.routers.specs.Facts.{no_router}
use Rattle.routers.specs.declared.RouterList.{RouterList}
use Rattle.settings.specs.Settings.{locators_of}
use Rattle.units.specs.Facts.{Holds, Among}
use Rattle.units.specs.Held.{marks_in, held_with}
use Rattle.units.specs.declared.Held.{Held}
use Rattle.settings.specs.declared.Settings.{Settings}

-- numbers are big-endian; prefixes stand one behind the other, eight bytes each; of locators and routers the first `count` are in force; a router is
-- its address and its due time, at one place of two rows; a size report quotes from its byte 8 on; each refusal has its number of R4; the unit u of a
-- collected datagram is marked by bit u % 64 of word u / 64, and units are held besides by setting theirs alone; the size in force is the smaller of link
-- size and kept size, and the link size where none is kept
pub record Readings : Type 0 where
  pub word : (d : List ℕ) (k : ℕ) → word_at d k ≡ get_or d k 0 * 256 + get_or d (k + 1) 0
  pub quad : (a b c d : ℕ) → quad_of a b c d ≡ a * 16777216 + b * 65536 + c * 256 + d
  pub quad_in : (d : List ℕ) (k : ℕ) → quad_at d k ≡ quad_of (get_or d k 0) (get_or d (k + 1) 0) (get_or d (k + 2) 0) (get_or d (k + 3) 0)
  pub last : (a : List ℕ) → last_quad a ≡ quad_of (get_or a 12 0) (get_or a 13 0) (get_or a 14 0) (get_or a 15 0)
  pub link_local : link_local_prefix ≡ 0xFE ∷ (0x80 ∷ (0 ∷ (0 ∷ (0 ∷ (0 ∷ (0 ∷ (0 ∷ [])))))))
  pub prefixes : (flat : List ℕ) (k i : ℕ) → k < 8 → i < 8 → get_or (get_or (rows_of flat) k []) i 0 ≡ get_or flat (k * 8 + i) 0
  pub locators : (s : Settings) → locators_of s ≡ take s.locator_count s.locators
  pub routers : (l : RouterList) → live l ≡ take l.count (places_of l)
  pub places : (l : RouterList) → length (places_of l) ≡ min (length l.addresses) (length l.dues)
  pub place : (l : RouterList) (k : ℕ) → k < length l.addresses → k < length l.dues
      → get_or (places_of l) k no_router ≡ record { address = get_or l.addresses k 0; due = get_or l.dues k 0 }
  pub quote : (m : List ℕ) → quote_of m ≡ drop 8 m
  pub numbers : map number_of (refusal.Settings ∷ refusal.OuterMalformed ∷ refusal.OuterChecksum ∷ refusal.OtherProtocol ∷ refusal.Piece ∷ refusal.NotForUs ∷ refusal.OuterSourceForbidden ∷ refusal.InnerMalformed ∷ refusal.InnerSourceBad ∷ refusal.OuterSourceWrong ∷ refusal.NoLocator ∷ refusal.NextHopNotIsatap ∷ refusal.TunnelEndForbidden ∷ refusal.OutputShort ∷ refusal.ReportMalformed ∷ refusal.QuoteNotOurs ∷ refusal.SizeUnusable ∷ refusal.SizeNotBelow ∷ refusal.AdvertisementInvalid ∷ refusal.AdvertiserNotListed ∷ refusal.NoRouterDue ∷ refusal.WrappedTooLong ∷ refusal.SolicitationInvalid ∷ refusal.AskerNotIsatap ∷ refusal.OptionsBad ∷ refusal.PieceWaits ∷ refusal.NoPlace ∷ refusal.PiecesDisagree ∷ refusal.PieceUnfit ∷ refusal.RecordingMalformed ∷ [])
      ≡ 1 ∷ 2 ∷ 3 ∷ 4 ∷ 5 ∷ 6 ∷ 7 ∷ 8 ∷ 9 ∷ 10 ∷ 11 ∷ 12 ∷ 13 ∷ 15 ∷ 16 ∷ 17 ∷ 18 ∷ 19 ∷ 20 ∷ 21 ∷ 22 ∷ 23 ∷ 24 ∷ 25 ∷ 26 ∷ 27 ∷ 28 ∷ 29 ∷ 30 ∷ 31 ∷ []
  pub unit : (h : Held) (u : ℕ) → u < 256 → (get_or (marks_in h) u false ≡ true) ↔ Holds h u
  pub units_besides : (h : Held) (from n u : ℕ) → u < 256 → Holds (held_with h from n) u ↔ (Holds h u ⊎ Among from n u)
  pub smaller : (link size : ℕ) → in_force link (Some size) ≡ min link size
  pub none_kept : (link : ℕ) → in_force link None ≡ link
