-- `messages::too_big` meets its contract: at each return the tests that led there say which case holds.
use native.Mathlib.Omega.{arith}
use Rattle.messages.proofs.SealedLaws.{be32-small}
use Rattle.messages.proofs.EnclosedLaws.{enclosed-over}
use Rattle.messages.specs.Icmp.{icmp_packet, too_big_of, too_big_answer, too_big_output}
use Rattle.messages.proofs.WriterLaws.{too_big_headless, too_big_short, too_big_pass}
use Rattle.lists.proofs.Parts.{take-least}
use Rattle.header.specs.Wrap.{be32}
use Rattle.lent.specs.Written.{written}
use Rattle.lent.proofs.Laws.{written_at-fits}
use Prim.Native.Nat.{ℕ, ◌+◌}
use mathlib.Core.Path.{◌≡◌, refl, ap, ◌∙◌}
use mathlib.Core.List.{List, [], ◌∷◌}
use lib.ListN.{length, take, get_or, length-take}
use Rattle.messages.proofs.too_big.Goals as goal

pub returns-then-packet-lt-INNER_HEADER : goal.returns-then-packet-lt-INNER_HEADER
unfolding too_big_answer too_big_output
returns-then-packet-lt-INNER_HEADER c = let stop = too_big_headless (length c.args.packet.now) (length c.args.out.now) (omega arith) in record {
  value = rw stop;
  out_after = rw stop;
}

pub returns-then-out-quoted : goal.returns-then-out-quoted
unfolding too_big_answer too_big_output
returns-then-out-quoted c = let stop = too_big_short (length c.args.packet.now) (length c.args.out.now) (omega arith) (omega arith) in record {
  value = rw stop;
  out_after = rw stop;
}

pub returns : goal.returns
unfolding too_big_answer too_big_output too_big_of
returns c = let a = c.args in
    let out = a.out.now in
    let pass = too_big_pass (length a.packet.now) (length out) (omega arith) (omega arith) in
    let quote = take c.min-quoted.result a.packet.now in
    let quoted : length quote ≡ c.min-quoted.result = rw length-take (omega arith) in
    let placed = c.write_at.ensures ∙ written_at-fits 48 quote out (omega arith) in
    let packet = enclosed-over 64 a.reporting c.address.result 2 (0 ∷ (0 ∷ (get_or c.word_bytes.result 0 0 ∷ (get_or c.word_bytes.result 1 0 ∷ [])))) quote (48 + c.min-quoted.result) out (omega arith) (omega arith) refl (omega arith) (omega arith) (omega arith) placed c.enclose.ensures in
    let body : 0 ∷ (0 ∷ (get_or c.word_bytes.result 0 0 ∷ (get_or c.word_bytes.result 1 0 ∷ quote))) ≡ be32 a.size (take 1232 a.packet.now) =
    rw (c.word_bytes.ensures, c.min-quoted.ensures, take-least 1232 a.packet.now) (be32-small a.size (take 1232 a.packet.now) (omega arith))
    in
    record {
      value = rw (pass, c.min-quoted.ensures);
      out_after = rw pass (packet ∙ ap (λ (b : List ℕ). written (icmp_packet 64 a.reporting c.address.result 2 0 b) out) body ∙ rw c.address.ensures);
    }
