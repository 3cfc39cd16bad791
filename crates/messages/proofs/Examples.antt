-- A worked solicitation, computed apart from RFC 4861, 4.1, and RFC 4443, 2.3: the definition gives it. Assumes nothing.
use Prim.Native.Nat.{ℕ}
use mathlib.Core.Path.{◌≡◌, refl}
use mathlib.Core.List.{List, [], ◌∷◌, ◌++◌}
use Rattle.checksum.specs.Sum.{ones_sum_from}
use Rattle.messages.specs.Icmp.{icmp_sum, icmp_message, icmp_packet, solicitation_of}

-- fe80::5efe:10.0.0.1
abbrev ours : List ℕ
ours = 254 ∷ 128 ∷ 0 ∷ 0 ∷ 0 ∷ 0 ∷ 0 ∷ 0 ∷ 0 ∷ 0 ∷ 94 ∷ 254 ∷ 10 ∷ 0 ∷ 0 ∷ 1 ∷ []

-- fe80::5efe:10.0.0.2
abbrev router : List ℕ
router = 254 ∷ 128 ∷ 0 ∷ 0 ∷ 0 ∷ 0 ∷ 0 ∷ 0 ∷ 0 ∷ 0 ∷ 94 ∷ 254 ∷ 10 ∷ 0 ∷ 0 ∷ 2 ∷ []

solicitation : solicitation_of ours router
    ≡ (96 ∷ 0 ∷ 0 ∷ 0 ∷ 0 ∷ 8 ∷ 58 ∷ 255 ∷ []) ++ (ours ++ (router ++ (133 ∷ 0 ∷ 171 ∷ 187 ∷ 0 ∷ 0 ∷ 0 ∷ 0 ∷ [])))
unfolding ones_sum_from icmp_sum icmp_message icmp_packet solicitation_of
solicitation = refl
