-- The measure is the count of the bytes that are left.
use lib.ListN.{length}
use Rattle.options.proofs.+walk.Given as goal

abbrev pub decreases-walk : goal.decreases-walk
decreases-walk l = length l.rest.now
