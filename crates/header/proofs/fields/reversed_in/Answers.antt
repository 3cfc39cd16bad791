-- `header::fields::reversed_in` meets its contract.
use Rattle.header.specs.Fields.{reversed_at}
use Rattle.header.proofs.fields.reversed_in.Goals as goal

pub returns : goal.returns
unfolding reversed_at
returns c = c.quad.ensures
