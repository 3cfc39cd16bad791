-- `header::inner::may_draw_error` meets its contract: each call gives its part of the test.
use Rattle.header.specs.Inner.{may_draw_error}
use Rattle.header.proofs.inner.may_draw_error.Goals as goal

pub returns-then-multicast_or_unspecified : goal.returns-then-multicast_or_unspecified
unfolding may_draw_error
returns-then-multicast_or_unspecified c = rw (← c.address.ensures, ← c.multicast_or_unspecified.ensures, c.if-multicast_or_unspecified.true)

pub returns : goal.returns
unfolding may_draw_error
returns c = rw (c.chain_may_draw.ensures, c.tail.ensures, c.byte.ensures, ← c.address.ensures, ← c.multicast_or_unspecified.ensures, c.if-multicast_or_unspecified.false)
