-- `header::wrap::header_sum` meets its contract: each number is a word of the header, or two of them.
use native.Mathlib.Omega.{arith}
use Rattle.header.proofs.Right.{Fits, sum_header}
use Rattle.header.proofs.wrap.header_sum.Goals as goal

pub returns : goal.returns
returns c = let a = c.args in
    let flags = c.flags-flags.ensures in
    let fits : Fits a.h = record { identification = omega arith; ttl = omega arith; protocol = omega arith; source = omega arith; destination = omega arith } in
    rw (c.sum_of_words.ensures, c.two_words-source.ensures.0, c.two_words-destination.ensures.0, flags)
    (sum_header a.total a.h (omega arith) fits)
