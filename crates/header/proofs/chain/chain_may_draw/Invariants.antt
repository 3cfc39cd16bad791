-- `header::chain::chain_may_draw`: the chain draws what its rest from `at` on draws. A turn's walk takes some of the bytes, since there is a
-- header to pass.
use Prim.Native.Nat.{◌-◌, ◌≤◌}
use mathlib.Core.Path.{◌≡◌}
use lib.ListN.{length, drop}
use Rattle.header.specs.Chain.{chain_may_draw}
use Rattle.std.specs.Option.{is_some}
use Rattle.header.specs.Walks.{passed_length, some_length}
use Rattle.header.proofs.chain.chain_may_draw.Given as goal

abbrev pub invariant-loop-more : goal.invariant-loop-more
invariant-loop-more l = (l.at ≤ length l.payload) × (l.more ≡ is_some (some_length (passed_length l.next (drop l.at l.payload)))) × (chain_may_draw l.first l.payload ≡ chain_may_draw l.next (drop l.at l.payload))

abbrev pub decreases-loop-more : goal.decreases-loop-more
decreases-loop-more l = length l.payload - l.at
