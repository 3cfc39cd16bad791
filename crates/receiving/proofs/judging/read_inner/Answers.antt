-- `receiving::judging::read_inner` meets its contract: by its length, and then field by field.
use native.Mathlib.Omega.{arith}
use borrow.Author.Tests.{lt-ltb}
use Rattle.header.specs.Inner.{inner_of, is_inner_malformed}
use Rattle.receiving.specs.Stages.{inner_check}
use Rattle.receiving.proofs.Embeds.{still_open}
use Rattle.receiving.proofs.judging.read_inner.Goals as goal

pub returns-then-payload-lt-INNER_HEADER : goal.returns-then-payload-lt-INNER_HEADER
unfolding inner_check is_inner_malformed
returns-then-payload-lt-INNER_HEADER c s routers = simp (lt-ltb _ _ c.if-payload-lt-INNER_HEADER.true)

pub returns : goal.returns
unfolding inner_of
returns c = let q = c.quads-address in (
  omega (arith, c.word.ensures),
  λ s routers. rw (c.then_some-open.ensures, c.passes_anyhow.ensures, c.byte.ensures, c.word.ensures)
      (still_open c.args.source c.args.payload.now q.result q.ensures.result_value s routers (omega arith)),
)
