-- The Packet Too Big byte for byte (R8.1; RFC 4443, 3.2), as the demands state it.
use Rattle.std.specs.Prelude.{ℕ, ◌+◌, List, ◌∷◌, ◌++◌, length, take}
use Rattle.checksum.specs.Sum.{ones_sum, ones_complement}
use Rattle.header.specs.Fields.{address_at}
use Rattle.header.specs.Wrap.{be16, be32}

-- type 2, code 0, a checksum, the size M in 32 bits, and the first min(n, 1,232) bytes of the packet
abbrev pub too_big_message : ℕ → ℕ → List ℕ → List ℕ
too_big_message sum M packet = 2 ∷ (0 ∷ be16 sum (be32 M (take 1232 packet)))

-- the complement of the sum over the reporting address, the packet's source, the message's length, next header 58 and the message, taken
-- with the checksum 0
abbrev pub too_big_sum : List ℕ → ℕ → List ℕ → ℕ
too_big_sum reporting M packet =
    ones_complement
    (ones_sum
    ((reporting ++ address_at packet 8)
    ++ be32 (8 + length (take 1232 packet)) (0 ∷ (0 ∷ (0 ∷ (58 ∷ too_big_message 0 M packet))))))

-- the message in its IPv6 packet: traffic class and flow label 0, payload length, next header 58, hop limit 64, reporting address to the
-- packet's source
abbrev pub too_big_bytes : List ℕ → ℕ → List ℕ → List ℕ
too_big_bytes reporting M packet =
    0x60 ∷ (0 ∷ (0 ∷ (0 ∷ be16 (8 + length (take 1232 packet))
    (58 ∷ (64 ∷ ((reporting ++ address_at packet 8) ++ too_big_message (too_big_sum reporting M packet) M packet))))))
