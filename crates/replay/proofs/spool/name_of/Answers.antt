-- `replay::spool::name_of` meets its contract.
use Rattle.replay.proofs.Names.{name-text}
use Rattle.replay.proofs.spool.name_of.Goals as goal

pub returns : goal.returns
returns c = rw c.put_hexadecimal.ensures.out_after (name-text c.args.number)
