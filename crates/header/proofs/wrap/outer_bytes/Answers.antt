-- `header::wrap::outer_bytes` meets its contract: each call's result is put in its place.
use Rattle.lent.specs.Written.{written_at}
use Rattle.header.specs.Wrap.{outer_bytes}
use Rattle.header.proofs.wrap.outer_bytes.Goals as goal

pub returns : goal.returns
unfolding outer_bytes written_at
returns c = let total = rw (c.word_bytes.ensures, c.flags.ensures) at c.write_at.ensures in
    let identification = rw (c.word_bytes-2.ensures, total) at c.write_at-2.ensures in
    let sum = rw (c.word_bytes-3.ensures, c.complement-sum.ensures, c.header_sum.ensures, identification) at c.write_at-3.ensures in
    let source = rw (c.quad_bytes.ensures, sum) at c.write_at-4.ensures in
    rw (c.quad_bytes-2.ensures, source) at c.write_at-5.ensures
