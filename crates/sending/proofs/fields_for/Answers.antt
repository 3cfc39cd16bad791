-- `sending::fields_for` meets its contract: each call gives its field.
use Rattle.sending.specs.Sending.{fields_for}
use Rattle.sending.proofs.fields_for.Goals as goal

pub returns : goal.returns
unfolding fields_for
returns c = rw (c.last_quad-destination.ensures, c.dont_fragment-dont_fragment.ensures)
