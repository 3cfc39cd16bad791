-- `reports::reading::never_ours` meets its contract: the protocol, then the destination.
use borrow.Author.Tests.{eq-eqb, ne_eqb}
use Rattle.reports.specs.Reading.{is_never_ours}
use Rattle.reports.proofs.reading.never_ours.Goals as goal

pub returns-then-quoted-ne-IPV6 : goal.returns-then-quoted-ne-IPV6
unfolding is_never_ours
returns-then-quoted-ne-IPV6 c = simp (ne_eqb _ _ c.if-quoted-ne-IPV6.true)

pub returns : goal.returns
unfolding is_never_ours
returns c = simp (eq-eqb _ _ c.if-quoted-ne-IPV6.false, c.forbidden.ensures)
