-- `advertising::advertise` meets its contract: the locator's address, then the writer.
use Rattle.std.proofs.Common.{rules}
use Rattle.advertising.specs.Advertise.{source_for, advertised_of, advertised_output}
use Rattle.advertising.proofs.advertise.Goals as goal

pub returns-in_err-source-clause-value : goal.returns-in_err-source-clause-value
unfolding source_for advertised_of
returns-in_err-source-clause-value c = search rules

pub returns-in_err-source-clause-out_after : goal.returns-in_err-source-clause-out_after
unfolding source_for advertised_output
returns-in_err-source-clause-out_after c = search rules

pub returns-clause-value : goal.returns-clause-value
unfolding source_for advertised_of
returns-clause-value c = search rules

pub returns-clause-out_after : goal.returns-clause-out_after
unfolding source_for advertised_output
returns-clause-out_after c = search rules
