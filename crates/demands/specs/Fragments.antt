-- RFC 791, 3.2, "An Example Fragmentation Procedure" (R23.20): what a carrier makes of a datagram that is longer than the largest that it
-- passes.
use Rattle.std.specs.Prelude.{ℕ, zero, suc, ◌+◌, ◌-◌, ◌*◌, ◌/◌, ◌%◌, ◌≤◌, ◌<◌, ◌≡◌, Bool, true, cond, List, [], ◌∷◌, ◌++◌, eqb, leb, get_or, length, take, drop}
use Rattle.checksum.specs.Sum.{ones_sum, ones_complement}
use Rattle.lent.specs.Written.{over}
use Rattle.header.specs.Fields.{word_at}
use Rattle.header.specs.Wrap.{be16}
use Rattle.receiving.specs.Facts.{header_length, total_length, encapsulated, Unfragmented}
use Rattle.demands.specs.Cuttings.{SameKey, HeaderRight, Cutting}

-- a header with another total length, other flags and offset, and a number for its checksum
abbrev pub header_with : List ℕ → ℕ → ℕ → ℕ → List ℕ
header_with h total fragment sum = over 10 (be16 sum []) (over 6 (be16 fragment []) (over 2 (be16 total []) h))

-- "Correct the header": its checksum is recomputed
unfoldable pub corrected : List ℕ → ℕ → ℕ → List ℕ
corrected h total fragment = header_with h total fragment (ones_complement (ones_sum (header_with h total fragment 0)))

-- the 16 bits of flags and offset: those above more-fragments stay as they were
abbrev pub fragment_word : ℕ → Bool → ℕ → ℕ
fragment_word old more offset = old / 0x4000 * 0x4000 + cond more 0x2000 0 + offset

-- NFB, the number of fragment blocks: as many units of 8 bytes as fit behind a header
abbrev pub blocks : ℕ → List ℕ → ℕ
blocks mtu d = (mtu - header_length d) / 8

-- (1) to (5): the header is copied, NFB units are attached, more-fragments is set
abbrev pub first_fragment : ℕ → List ℕ → List ℕ
first_fragment mtu d =
    corrected (take (header_length d) d) (header_length d + 8 * blocks mtu d) (fragment_word (word_at d 6) true (word_at d 6 % 0x2000))
    ++ take (8 * blocks mtu d) (encapsulated d)

-- (7) to (9): the header is copied but for some options, the remaining data is appended, the offset moves on; more-fragments is as it was
abbrev pub second_fragment : (List ℕ → List ℕ) → ℕ → List ℕ → List ℕ
second_fragment select mtu d =
    let h : List ℕ = select (take (header_length d) d) in
    let rest : List ℕ = drop (8 * blocks mtu d) (encapsulated d) in
    corrected h (length h + length rest) (fragment_word (word_at d 6) (eqb (word_at d 6 / 0x2000 % 2) 1) (word_at d 6 % 0x2000 + blocks mtu d)) ++ rest

-- the procedure: a datagram that passes goes as it is; of any other the first fragment goes, and the second is tried again, at most k times. One with
-- don't-fragment set is thrown away instead: that is not asked here
abbrev pub fragments_of : ℕ → (List ℕ → List ℕ) → ℕ → List ℕ → List (List ℕ)
fragments_of zero select mtu d = d ∷ []
fragments_of (suc k) select mtu d =
    cond (leb (total_length d) mtu) (d ∷ []) (first_fragment mtu d ∷ fragments_of k select mtu (second_fragment select mtu d))

-- all are bytes
abbrev pub Bytes : List ℕ → Type 0
Bytes s = (i : ℕ) → get_or s i 0 < 256

-- an IPv4 header: of whole words, five to fifteen, which its first byte says
pub record Header (h : List ℕ) : Type 0 where
  pub bytes : Bytes h
  pub some : 20 ≤ length h
  pub words : header_length h ≡ length h
  pub version : get_or h 0 0 / 16 ≡ 4

-- the header of the second fragment has the key of the first's, and is no longer; which options it keeps, and what else it has, is free
abbrev pub Selects : (List ℕ → List ℕ) → Type 0
Selects select = (h : List ℕ) → Header h → Header (select h) × SameKey (select h) h × (length (select h) ≤ length h)

-- of a whole datagram that passes 2 and 3 and is longer than the largest that passes, 68 bytes or more, the procedure makes a cutting; and it
-- makes one of a cutting when it is used on any of the pieces
pub record Fragments : Type 0 where
  pub cuts : (select : List ℕ → List ℕ) → Selects select
      → (mtu : ℕ) → 68 ≤ mtu → (d : List ℕ) → Bytes d → HeaderRight d → Unfragmented d → mtu < total_length d
      → (k : ℕ) → length (encapsulated d) ≤ k → Cutting d (fragments_of k select mtu d)
  pub cuts_again : (select : List ℕ → List ℕ) → Selects select
      → (mtu : ℕ) → 68 ≤ mtu → (d : List ℕ) (front : List (List ℕ)) (p : List ℕ) (back : List (List ℕ)) → Cutting d (front ++ p ∷ back)
      → Bytes d → Bytes p → (k : ℕ) → length (encapsulated p) ≤ k → Cutting d (front ++ (fragments_of k select mtu p ++ back))
