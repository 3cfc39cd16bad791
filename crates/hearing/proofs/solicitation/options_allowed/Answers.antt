-- `hearing::solicitation::options_allowed` meets its contract: what one walk over the options finds.
use Rattle.hearing.specs.Solicitation.{are_options_allowed}
use Rattle.hearing.proofs.solicitation.options_allowed.Goals as goal

pub returns : goal.returns
unfolding are_options_allowed
returns c = rw (c.unspecified.ensures, c.options_read-read.ensures, c.tail.ensures, c.tail-message.ensures)
