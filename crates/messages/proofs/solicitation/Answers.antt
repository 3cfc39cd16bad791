-- `messages::solicitation` meets its contract: the IPv6 header, and the message behind it.
use borrow.Author.Rules.{rules}
use native.Mathlib.Omega.{arith}
use mathlib.Core.Path.{◌≡◌, ap, ◌∙◌}
use mathlib.Core.List.{List, [], ◌∷◌, ◌++◌}
use Prim.Native.Nat.{ℕ}
use lib.ListN.{length, get_or}
use Rattle.lent.proofs.Laws.{written_at-more}
use Rattle.lent.specs.Written.{written}
use Rattle.messages.specs.Icmp.{ipv6_header, icmp_packet, icmp_message, solicitation_of, solicitation_answer, solicitation_output}
use Rattle.messages.proofs.WriterLaws.{solicitation-short, solicitation_pass, length-ipv6_header}
use Rattle.messages.proofs.solicitation.Goals as goal

pub returns-then-out-lt-SOLICITATION : goal.returns-then-out-lt-SOLICITATION
unfolding solicitation_answer solicitation_output
returns-then-out-lt-SOLICITATION c = let stop = solicitation-short (length c.args.out.now) (omega arith) in record {
  value = rw stop;
  out_after = rw stop;
}

pub returns : goal.returns
unfolding solicitation_answer solicitation_output solicitation_of icmp_packet icmp_message
returns c = let a = c.args in
    let out = a.out.now in
    let lf : length a.from ≡ 16 = search rules in
    let g = c.well_formed in
    let lt : length a.to ≡ 16 = omega (arith, g.1.0.1) in
    let pass = solicitation_pass (length out) (omega arith) in
    let header = ipv6_header 8 255 a.from a.to in
    let front : List ℕ = 133 ∷ 0 ∷ get_or c.word_bytes.result 0 0 ∷ get_or c.word_bytes.result 1 0 ∷ 0 ∷ 0 ∷ 0 ∷ 0 ∷ [] in
    let packet = written_at-more 40 header front out (length-ipv6_header 8 255 a.from a.to lf lt) (omega arith) c.write_ipv6_header.ensures c.write_at.ensures in
    let bytes : front ≡ icmp_message (a.from ++ a.to) 133 0 (0 ∷ 0 ∷ 0 ∷ 0 ∷ []) = rw (c.word_bytes.ensures, c.complement-sum.ensures, c.solicitation_sum.ensures) in
    record {
      value = rw pass;
      out_after = rw pass (packet ∙ ap (λ (m : List ℕ). written (header ++ m) out) bytes);
    }
