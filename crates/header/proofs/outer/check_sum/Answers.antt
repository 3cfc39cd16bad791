-- `header::outer::check_sum` meets its contract: at each return the tests that led there say which row holds.
use borrow.Author.Tests.{eq-eqb, ne_eqb}
use Rattle.header.specs.Outer.{sum_check}
use Rattle.header.proofs.outer.check_sum.Goals as goal

pub returns-then-sum_wrong : goal.returns-then-sum_wrong
unfolding sum_check
returns-then-sum_wrong c = simp (← c.sum_wrong.ensures, c.if-sum_wrong.true)

pub returns-then-o-ne-IPV6 : goal.returns-then-o-ne-IPV6
unfolding sum_check
returns-then-o-ne-IPV6 c = simp (← c.sum_wrong.ensures, c.if-sum_wrong.false, ne_eqb _ _ c.if-o-ne-IPV6.true)

pub returns : goal.returns
unfolding sum_check
returns c = simp (← c.sum_wrong.ensures, c.if-sum_wrong.false, eq-eqb _ _ c.if-o-ne-IPV6.false)
