-- `comparing::pair::Pair::next_alone` meets its contract.
use Prim.Native.Nat.{max}
use mathlib.Core.Path.{◌≡◌}
use lib.ListN.{length}
use native.Mathlib.Omega.{arith}
use Rattle.comparing.proofs.pair.Pair.next_alone.Goals as goal

pub returns-then-wanted : goal.returns-then-wanted
returns-then-wanted c = rw c.if-wanted.true

pub returns : goal.returns
returns c = let m : c.max.result ≡ max (length c.args.self.a.now) (length c.args.self.b.now) = omega arith in rw c.if-wanted.false m
