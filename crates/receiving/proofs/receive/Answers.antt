-- `receiving::receive` meets its contract: its stages are the table.
use Rattle.std.proofs.Common.{rules}
use Rattle.receiving.proofs.Stages.{arrived_of, delivered_of, by_stages}
use Rattle.receiving.proofs.receive.Goals as goal

pub returns-in_err-o : goal.returns-in_err-o
unfolding arrived_of delivered_of
returns-in_err-o c = rw by_stages (search rules)

pub returns-in_err-check_addresses : goal.returns-in_err-check_addresses
unfolding arrived_of delivered_of
returns-in_err-check_addresses c = rw by_stages (search rules)

pub returns : goal.returns
unfolding arrived_of delivered_of
returns c = rw by_stages (search rules)
