-- `header::wrap::wrap` meets its contract: two writes, one right behind the other.
use native.Mathlib.Omega.{arith}
use Rattle.header.specs.Wrap.{outer_bytes, wrapped, wrap_answer, wrap_output}
use Rattle.header.proofs.WriterLaws.{wrap_too_long, wrap-short, wrap_pass, length-outer_bytes}
use Rattle.lent.proofs.Laws.{written_at-first, written_at-more}
use lib.ListN.{length}
use Prim.Native.Nat.{◌+◌, ◌≤◌}
use Rattle.header.proofs.wrap.wrap.Goals as goal

pub returns-then-n-gt-LONGEST : goal.returns-then-n-gt-LONGEST
unfolding wrap_answer wrap_output
returns-then-n-gt-LONGEST c = let stop = wrap_too_long (length c.args.packet.now) (length c.args.out.now) (omega arith) in record {
  value = rw stop;
  out_after = rw stop;
}

pub returns-then-out-total : goal.returns-then-out-total
unfolding wrap_answer wrap_output
returns-then-out-total c = let stop = wrap-short (length c.args.packet.now) (length c.args.out.now) (omega arith) (omega arith) in record {
  value = rw stop;
  out_after = rw stop;
}

pub returns : goal.returns
unfolding wrap_answer wrap_output wrapped
returns c = let a = c.args in
    let n = length a.packet.now in
    let room = length a.out.now in
    let header = outer_bytes (20 + n) a.h in
    let long = length-outer_bytes (20 + n) a.h in
    let fits : 20 + n ≤ room = omega arith in
    let pass = wrap_pass n room (omega arith) fits in
    let first = written_at-first header a.out.now (omega arith) (rw c.outer_bytes-header.ensures at c.write_at.ensures) in
    record {
      value = rw pass;
      out_after = rw pass (written_at-more _ header a.packet.now a.out.now (omega arith) (omega arith) first c.write_at-2.ensures);
    }
