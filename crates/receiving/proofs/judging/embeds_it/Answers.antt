-- `receiving::judging::embeds_it` meets its contract: by its three tests.
use native.Mathlib.Omega.{arith}
use Rattle.address.specs.Address.{is_on_link}
use Rattle.receiving.proofs.Embeds.{embeds-quads}
use Rattle.receiving.proofs.judging.embeds_it.Goals as goal

pub returns-then-link_local_prefixed : goal.returns-then-link_local_prefixed
unfolding is_on_link
returns-then-link_local_prefixed c = let a = c.args in
    rw (
      embeds-quads a.settings a.q a.v (omega arith),
      ← c.identifier.ensures,
      c.if-identifier-q.true,
      ← c.link_local_prefixed.ensures,
      c.if-link_local_prefixed.true,
    )

pub returns-then-identifier-q : goal.returns-then-identifier-q
returns-then-identifier-q c = let a = c.args in
    rw (
      c.on_link.ensures,
      c.rows.ensures,
      embeds-quads a.settings a.q a.v (omega arith),
      ← c.identifier.ensures,
      c.if-identifier-q.true,
    )

pub returns : goal.returns
returns c = let a = c.args in
    rw (embeds-quads a.settings a.q a.v (omega arith), ← c.identifier.ensures, c.if-identifier-q.false)
