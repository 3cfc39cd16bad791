-- How the code makes an ICMPv6 packet: the checksum is put into a packet where it is 0. Only functions of the crate's own cite this.
use Rattle.std.specs.Prelude.{ℕ, List, [], take, drop}
use Rattle.checksum.specs.Sum.{ones_complement}
use Rattle.lent.specs.Written.{over}
use Rattle.header.specs.Numbers.{inner_header}
use Rattle.header.specs.Wrap.{be16}
use Rattle.messages.specs.Icmp.{icmp_sum}

-- the complement of the sum over the addresses and the message is put at the checksum's place
unfoldable pub sealed : List ℕ → List ℕ
sealed p = over 42 (be16 (ones_complement (icmp_sum (take 32 (drop 8 p)) (drop inner_header p))) []) p
