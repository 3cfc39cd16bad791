-- The checksums of the messages that we write are right. Assumes nothing.
use Prim.Native.Nat.{ℕ, ◌%◌, ◌≤◌, ◌<◌}
use mathlib.Core.Path.{◌≡◌, sym, ap, ◌∙◌}
use mathlib.Core.List.{List, [], ◌∷◌, ◌++◌, append_assoc}
use native.Mathlib.Omega.{arith}
use lib.ListN.{length, length-append}
use Rattle.checksum.specs.Sum.{ones_complement, ones_sum}
use Rattle.checksum.proofs.Bytes.{Bytes, bytes-append}
use Rattle.checksum.proofs.Laws.{with_word, sum-complement}
use Rattle.header.specs.Wrap.{be16}
use Rattle.messages.specs.Icmp.{pseudo_tail, icmp_sum, icmp_with, icmp_message}

-- an ICMPv6 message that we write
pub message-right : (addresses : List ℕ) (kind code : ℕ) (body : List ℕ) → length addresses % 2 ≡ 0 → kind < 256 → code < 256 → length body ≤ 65531
    → Bytes addresses → Bytes body → icmp_sum addresses (icmp_message addresses kind code body) ≡ 65535
unfolding icmp_sum icmp_message
message-right addresses kind code body even k c most ba bb =
    let n = length (icmp_with kind code 0 body) in
    let front = addresses ++ (pseudo_tail n ++ (kind ∷ (code ∷ []))) in
    let e : (x : ℕ) → addresses ++ (pseudo_tail n ++ icmp_with kind code x body) ≡ with_word front x body =
    λ x. sym (append_assoc addresses (pseudo_tail n ++ (kind ∷ (code ∷ []))) (be16 x body))
    in
    let l : length front % 2 ≡ 0 = rw length-append (omega arith) in
    let bf : Bytes front = bytes-append addresses _ ba (omega arith) in
    let x = ones_complement (ones_sum (addresses ++ (pseudo_tail n ++ icmp_with kind code 0 body))) in
    ap ones_sum (e x) ∙ ap (λ (s : List ℕ). ones_sum (with_word front (ones_complement (ones_sum s)) body)) (e 0) ∙ sum-complement 0 front body l (omega arith) bf bb
