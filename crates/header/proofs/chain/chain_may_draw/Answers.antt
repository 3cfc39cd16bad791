-- `header::chain::chain_may_draw`: the chain draws what its rest from `at` on draws. A turn's walk takes some of the bytes, since there is a
-- header to pass.
use native.Mathlib.Omega.{arith}
use Prim.Native.Nat.{ℕ, suc, ◌-◌, ◌≤◌, ◌<◌}
use mathlib.Core.List.{List}
use mathlib.Core.Path.{◌≡◌, sym, ap, ◌∙◌}
use lib.ListN.{length, take, drop}
use Rattle.lists.specs.Walks.{walked}
use Rattle.lists.proofs.Parts.{rest_from}
use Rattle.lists.proofs.Walks.{turn_left, turn_falls, turn_on}
use Rattle.header.specs.Chain.{chain_may_draw}
use Rattle.header.specs.Walks.{passed_length, next_in, walked_of}
use Rattle.header.specs.declared.chain.Walked.{Walked}
use Rattle.header.proofs.ChainLaws.{passed-fits, passed_on, passed_none, is_told, not_told}
use Rattle.header.proofs.chain.chain_may_draw.Goals as goal

-- a turn: a walk over what follows `at`, where at least one header can be passed
module _ (most at next : ℕ) (bs : List ℕ) (r : Walked) (is : r ≡ walked_of (suc most) next (take (length bs - at) (drop at bs))) where
  came : (r.next, r.left) ≡ walked passed_length next_in (suc most) next (take (length bs - at) (drop at bs))
  unfolding walked_of
  came = ap (λ (w : Walked). (w.next, w.left)) is

  left : r.left ≤ length bs - at
  left = turn_left passed_length next_in passed-fits most at bs next (r.next, r.left) came

  falls : (passed_length next (drop at bs) ≡ 0 → ⊥) → r.left < length bs - at
  falls = turn_falls passed_length next_in passed-fits most at bs next (r.next, r.left) came

  on : at ≤ length bs → chain_may_draw next (drop at bs) ≡ chain_may_draw r.next (drop (length bs - r.left) bs)
  on within = turn_on passed_length next_in passed-fits chain_may_draw passed_on most at bs next within (r.next, r.left) came

pub overflow_sub-at : goal.overflow_sub-at
overflow_sub-at c = let bs = c.args.payload.now in
    let few = left _ c.loop-more.at c.loop-more.next bs c.walk-walked.result c.walk-walked.ensures in
    omega arith

pub loop-more-smaller : goal.loop-more-smaller
loop-more-smaller c = let bs = c.args.payload.now in
    let good = is_told _ (sym c.loop-more.invariant.1 ∙ c.loop-more-test.true) in
    let less = falls _ c.loop-more.at c.loop-more.next bs c.walk-walked.result c.walk-walked.ensures good in
    omega arith

pub loop-more-preserved : goal.loop-more-preserved
loop-more-preserved c = let bs = c.args.payload.now in
    let again = on _ c.loop-more.at c.loop-more.next bs c.walk-walked.result c.walk-walked.ensures c.loop-more.invariant.0 in
    (omega arith, rw (c.is_some-more-in-loop-more.ensures, c.passed_length-in-loop-more.ensures, rest_from _ bs), c.loop-more.invariant.2 ∙ again)

pub returns : goal.returns
returns c = let bs = c.args.payload.now in
    let none : passed_length c.loop-more.next (drop c.loop-more.at bs) ≡ 0 = not_told _ (sym c.loop-more.invariant.1 ∙ c.loop-more-test.false) in
    rw (c.extension.ensures, c.quiet.ensures, rest_from _ bs) (sym (c.loop-more.invariant.2 ∙ passed_none c.loop-more.next (drop c.loop-more.at bs) none))
