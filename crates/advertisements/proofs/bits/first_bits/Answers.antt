-- `advertisements::bits::first_bits` meets its contract: shifts divide and multiply by the value of the last bit.
use native.Mathlib.Omega.{arith}
use Rattle.advertisements.proofs.CutLaws.{shifted, none_left}
use Rattle.advertisements.proofs.bits.first_bits.Goals as goal

pub returns-then-n-eq0 : goal.returns-then-n-eq0
returns-then-n-eq0 c = let a = c.args in
    none_left a.n a.x (omega arith) (omega arith)

pub returns-else-n-eq0 : goal.returns-else-n-eq0
returns-else-n-eq0 c = let a = c.args in
    shifted a.n a.x _ (omega arith) (omega arith) (omega arith)
