-- Demand 2 of sending, said in plain facts: a packet is wrapped exactly when the rules admit it, and then those bytes are written.
use Rattle.std.specs.Prelude.{◌≡◌, ℕ, ◌+◌, ◌/◌, ◌%◌, ◌<◌, ◌≤◌, Bool, true, cond, ◌⊎◌, ◌↔◌, List, [], ◌∷◌, ◌++◌, length, slice_index}
use Rattle.checksum.specs.Sum.{ones_sum, ones_complement}
use Rattle.address.specs.Address.{last_quad}
use Rattle.header.specs.Fields.{word_at}
use Rattle.header.specs.Wrap.{be16, be32}
use Rattle.lent.specs.Written.{written}
use Rattle.settings.specs.Facts.{ForbiddenTo, Ours, IsatapTo, LocatorAt}
use Rattle.settings.specs.declared.Settings.{Settings}
use Rattle.sending.specs.declared.SendAnswer.{SendAnswer}
use Rattle.sending.specs.declared.SendAnswer.TheVariants.{Wrapped}

-- an IPv6 packet, whose length is 40 + payload length
abbrev pub Whole : List ℕ → Type 0
Whole packet = (slice_index packet 0 / 16 ≡ 6) × (length packet ≡ 40 + word_at packet 4)

-- 8, 11, 12 and 13 do not hold of a packet to a next hop, from locator k, whose address is a
pub record Passes (s : Settings) (packet hop : List ℕ) (k a : ℕ) : Type 0 where
  pub whole : Whole packet
  -- there is a locator of that number
  pub locator : LocatorAt s k a
  -- the next hop is an ISATAP address, which embeds the tunnel end, its last 32 bits
  pub isatap : IsatapTo s hop (last_quad hop)
  -- the tunnel end is neither forbidden nor a locator address of our own
  pub allowed : ForbiddenTo s (last_quad hop) → ⊥
  pub foreign : Ours s (last_quad hop) → ⊥

-- a packet of n bytes is no longer than M, the larger of 1,280 and P − 20: it is no longer than one of them
abbrev pub PathTakes : ℕ → ℕ → Type 0
PathTakes P n = (n ≤ 1280) ⊎ (20 + n ≤ P)

-- the rules of wrapping, over a path of size P with that much room in the output
pub record Wraps (s : Settings) (P : ℕ) (packet hop : List ℕ) (k room a : ℕ) : Type 0 where
  pub passes : Passes s packet hop k a
  -- the packet is no longer than M, its header takes it, and so does the output
  pub path : PathTakes P (length packet)
  pub total : 20 + length packet ≤ 65535
  pub output : 20 + length packet ≤ room

-- the outer header of a packet of n bytes, with a number for its checksum: version 4 and five words, type of service 0, total length 20 + n,
-- identification, don't-fragment or no flag, offset 0, TTL, protocol 41, the locator's address a, the tunnel end v (R7.10)
abbrev pub header_bytes : Settings → ℕ → Bool → ℕ → ℕ → ℕ → ℕ → List ℕ
header_bytes s i flag a v n sum =
    0x45 ∷ (0 ∷ be16 (20 + n) (be16 i (cond flag 0x40 0 ∷ (0 ∷ (s.ttl ∷ (41 ∷ be16 sum (be32 a (be32 v []))))))))

-- the packet behind that header, whose checksum is the complement of the sum taken with that field 0
abbrev pub wrapped_bytes : Settings → ℕ → Bool → ℕ → ℕ → List ℕ → List ℕ
wrapped_bytes s i flag a v packet =
    header_bytes s i flag a v (length packet) (ones_complement (ones_sum (header_bytes s i flag a v (length packet) 0))) ++ packet

-- the claim, of a sending with identification i into the output `out`: its answer, the next identification, and the output afterwards
pub record WrappedExactly (s : Settings) (i P : ℕ) (packet hop : List ℕ) (k : ℕ) (out : List ℕ) (answer : SendAnswer) (next : ℕ) (output : List ℕ) : Type 0 where
  -- a packet is answered as wrapped only when the rules hold, and with its length and the header's
  pub only_if : (len : ℕ) → answer ≡ Wrapped len → (len ≡ 20 + length packet) × ((a : ℕ) × Wraps s P packet hop k (length out) a)
  -- whenever the rules hold it is wrapped; the identification goes on by one, from 65,535 to 0
  pub if : (a : ℕ) → Wraps s P packet hop k (length out) a → (answer ≡ Wrapped (20 + length packet)) × (next ≡ (i + 1) % 65536)
  -- whenever the rules hold the output gets the header and the packet behind it, and what stood behind that stays; the flag is set exactly when P − 20 > 1,280
  pub bytes : (a : ℕ) (flag : Bool) → Wraps s P packet hop k (length out) a → (flag ≡ true) ↔ (20 + 1280 < P)
      → output ≡ written (wrapped_bytes s i flag a (last_quad hop) packet) out
