-- `comparing::pair::Pair::differs` meets its contract.
use Prim.Native.Nat.{max}
use mathlib.Core.Path.{◌≡◌}
use lib.ListN.{length}
use native.Mathlib.Omega.{arith}
use Rattle.comparing.proofs.Searching.{differs-shared, differs-behind}
use Rattle.comparing.proofs.pair.Pair.differs.Goals as goal

pub returns-then-p-min : goal.returns-then-p-min
returns-then-p-min c = let a = c.args in
    rw (c.masked_byte.ensures, differs-shared a.self.masked a.self.a.now a.self.b.now a.p (omega arith))

pub returns : goal.returns
returns c = let a = c.args in
    let m : c.max.result ≡ max (length a.self.a.now) (length a.self.b.now) = omega arith in
    rw (m, differs-behind a.self.masked a.self.a.now a.self.b.now a.p (omega arith))
