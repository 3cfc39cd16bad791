-- The Packet Too Big that we write is the one of RFC 4443, byte for byte. Assumes nothing.
use Prim.Native.Nat.{ℕ, ◌+◌}
use mathlib.Core.Path.{◌≡◌}
use mathlib.Core.List.{List}
use native.Mathlib.Omega.{arith}
use lib.ListN.{length, take}
use Rattle.header.specs.Wrap.{be32}
use Rattle.messages.specs.Icmp.{icmp_sum, icmp_with, icmp_message, icmp_packet, too_big_of}
use Rattle.messages.specs.Facts.{too_big_bytes}

pub too_big_bytes_lem : (reporting : List ℕ) (M : ℕ) (packet : List ℕ) → too_big_of reporting M packet ≡ too_big_bytes reporting M packet
unfolding too_big_of icmp_packet icmp_message icmp_sum
too_big_bytes_lem reporting M packet =
    let body : 4 + length (be32 M (take 1232 packet)) ≡ 8 + length (take 1232 packet) = omega arith in
    let message : length (icmp_with 2 0 0 (be32 M (take 1232 packet))) ≡ 8 + length (take 1232 packet) = omega arith in
    rw (body, message)
