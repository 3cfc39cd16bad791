-- `header::outer::check_header` meets its contract: number 2 stands before the others.
use Rattle.header.specs.Outer.{sum_check, header_check}
use Rattle.header.proofs.outer.check_header.Goals as goal

pub returns-then-malformed : goal.returns-then-malformed
unfolding header_check
returns-then-malformed c = simp (← c.malformed.ensures, c.if-malformed.true)

pub returns : goal.returns
unfolding header_check sum_check
returns c = rw c.check_sum.ensures (simp (← c.malformed.ensures, c.if-malformed.false))
