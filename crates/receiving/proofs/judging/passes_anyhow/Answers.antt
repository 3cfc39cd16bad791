-- `receiving::judging::passes_anyhow` meets its contract: the tests are the definition.
use Rattle.receiving.specs.Stages.{passes_anyhow}
use Rattle.receiving.proofs.judging.passes_anyhow.Goals as goal

pub returns : goal.returns
unfolding passes_anyhow
returns c = rw (c.malformed.ensures, c.identifier.ensures, c.link_local_prefixed.ensures)
