-- `hearing::solicitation::solicitation` meets its contract: by whether the packet is whole.
use Rattle.std.proofs.Common.{rules}
use Rattle.hearing.specs.Solicitation.{is_solicitation}
use Rattle.hearing.proofs.solicitation.solicitation.Goals as goal

pub returns-in-Some : goal.returns-in-Some
unfolding is_solicitation
returns-in-Some c = search rules

pub returns-in-None : goal.returns-in-None
unfolding is_solicitation
returns-in-None c = search rules
