-- Demand 2 of receiving: a datagram is delivered exactly when the rules of RFC 5214 and RFC 2893 admit it, and what is delivered is the
-- inner packet, unchanged.
use Rattle.std.specs.Prelude.{ℕ, ◌≤◌, ◌<◌, ◌≡◌, List, length, take, Ok, Err}
use Rattle.refusals.specs.Refusals.{AnswersFirst}
use Rattle.refusals.specs.declared.Refusal.{Refusal}
use Rattle.header.specs.Fields.{quad_at}
use Rattle.settings.specs.declared.Settings.{Settings}
use Rattle.routers.specs.declared.Router.{Router}
use Rattle.receiving.specs.Receive.{received_of, part_of}
use Rattle.receiving.specs.Facts.{header_length, behind_header, encapsulated, inner_length, OuterWhole, SumRight, Encapsulates, Unfragmented, ForUs, OuterBad, InnerWhole, InnerBad, SourceRight, receive_facts}
use Rattle.receiving.specs.declared.Received.TheVariants.{Delivered}

-- the rules of a datagram d that encapsulates p
pub record Admitted (s : Settings) (routers : List Router) (d : List ℕ) (interface : ℕ) (p : List ℕ) : Type 0 where
  pub outer_whole : OuterWhole d
  pub checksum_right : SumRight d
  pub protocol : Encapsulates d
  pub no_piece : Unfragmented d
  pub for_us : ForUs s d interface
  pub outer_source : OuterBad s d → ⊥
  pub inner_whole : InnerWhole p
  pub inner_source : InnerBad s p → ⊥
  pub source_matches : SourceRight s routers (quad_at d 12) p

module _ (s : Settings) (routers : List Router) (d : List ℕ) (interface : ℕ) where
  -- the rules of the datagram d
  abbrev pub Admits : Type 0
  Admits = Admitted s routers d interface (encapsulated d)

  -- the part that receiving hands back
  abbrev pub delivered : List ℕ
  delivered = part_of (received_of s routers d interface) d

  -- the verdict on the datagram by itself, and the part, are exactly what the rules say
  pub record DeliveredExactly : Type 0 where
    -- the verdict is the first of 2 to 10 whose fact holds, and where none holds the end of the outer header and
    -- 40 + payload length
    pub answers : AnswersFirst Err (receive_facts s routers d interface (encapsulated d)) (Ok (Delivered (header_length d) (inner_length (encapsulated d)))) (received_of s routers d interface)
    -- it gives a place and a length only when the rules hold
    pub placed_only_if : (offset size : ℕ) → received_of s routers d interface ≡ Ok (Delivered offset size) → Admits
    -- whenever the rules hold, it gives the exact place and length
    pub placed_if : Admits → received_of s routers d interface ≡ Ok (Delivered (header_length d) (inner_length (behind_header d)))
    -- it gives a number only when the rules do not hold
    pub refused_only_if : (r : Refusal) → received_of s routers d interface ≡ Err r → Admits → ⊥
    -- whenever the rules do not hold, it gives a number
    pub refused_if : (Admits → ⊥) → (r : Refusal) × (received_of s routers d interface ≡ Err r)
    -- the part is non-empty only when the rules hold
    pub only_if : 0 < length delivered → Admits
    -- whenever the rules hold, the part is the 40 + payload length bytes behind the outer header, options included
    pub if : Admits → delivered ≡ take (inner_length (behind_header d)) (behind_header d)
    -- the part of an admitted datagram has 40 bytes at least
    pub non_empty : Admits → 40 ≤ length delivered
