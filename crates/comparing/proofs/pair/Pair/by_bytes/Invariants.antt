-- `comparing::pair::Pair::by_bytes` meets its contract: a turn counts one place of those that are left.
use Prim.Native.Nat.{◌+◌}
use mathlib.Core.Path.{◌≡◌}
use Rattle.comparing.specs.Runs.{differs_at}
use Rattle.comparing.specs.Search.{ends}
use Rattle.comparing.proofs.pair.Pair.by_bytes.Given as goal

abbrev pub invariant-loop-p : goal.invariant-loop-p
invariant-loop-p l = l.n + ends (differs_at l.self.masked l.self.a.now l.self.b.now) l.p l.end ≡ ends (differs_at l.self.masked l.self.a.now l.self.b.now) l.start l.end
