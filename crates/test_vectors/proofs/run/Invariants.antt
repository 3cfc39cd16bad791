-- `test_vectors::run` ends: a case takes at least a byte.
use Rattle.std.proofs.Common.{length}
use Rattle.test_vectors.proofs.run.Given as goal

abbrev pub decreases-loop-rest : goal.decreases-loop-rest
decreases-loop-rest g l = length l.rest
