-- `hearing::solicitation::valid_solicitation` meets its contract: what the options are asked goes last.
use Rattle.std.proofs.Common.{rules}
use Rattle.hearing.specs.Message.{is_valid_message}
use Rattle.hearing.specs.Solicitation.{is_valid_solicitation, are_options_allowed}
use Rattle.hearing.proofs.solicitation.valid_solicitation.Goals as goal

pub returns-then-sum_right : goal.returns-then-sum_right
unfolding is_valid_solicitation is_valid_message are_options_allowed
returns-then-sum_right c = search rules

pub returns-else-sum_right : goal.returns-else-sum_right
unfolding is_valid_solicitation is_valid_message
returns-else-sum_right c = search rules
