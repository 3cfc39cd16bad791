-- `address::isatap` meets its contract: both tests decide, and the address is read out.
use native.Mathlib.Omega.{arith}
use mathlib.Core.Bool.{and-false}
use Rattle.address.specs.Address.{embedded_in}
use Rattle.address.proofs.Bytes.{last-number}
use Rattle.address.proofs.isatap.Goals as goal
use Rattle.address.proofs.isatap.Goals.{else-identifier-via-then-identifier+else-on_link, else-identifier-via-else-identifier}

pub returns-then-on_link : goal.returns-then-on_link
unfolding embedded_in
returns-then-on_link g c =
    simp (← c.quads-q.ensures, ← c.on_link.ensures, c.if-on_link.true, ← c.identifier.ensures, c.if-identifier.true, last-number c.quads-q.result (omega arith))

pub returns-else-identifier : goal.returns-else-identifier
unfolding embedded_in
returns-else-identifier g c = elim c.else-identifier.branch [
  | else-identifier-via-then-identifier+else-on_link w ↦ simp (← c.quads-q.ensures, ← w.on_link.ensures, w.if-on_link.false)
  | else-identifier-via-else-identifier w ↦ simp (← c.quads-q.ensures, ← c.identifier.ensures, w.if-identifier.false, and-false)
]
