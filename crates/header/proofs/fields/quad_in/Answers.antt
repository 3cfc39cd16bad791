-- `header::fields::quad_in` meets its contract.
use Rattle.header.specs.Fields.{quad_at}
use Rattle.header.proofs.fields.quad_in.Goals as goal

pub returns : goal.returns
unfolding quad_at
returns c = c.quad.ensures
