-- `header::chain::passed_length`: its tests are those of the definition, and fewer than 8 bytes are no header.
use mathlib.Core.Path.{sym}
use native.Mathlib.Omega.{arith}
use Rattle.header.specs.Walks.{passed_length}
use Rattle.header.proofs.ChainLaws.{passed-short, extension-least, told_length}
use Rattle.header.proofs.chain.passed_length.Goals as goal

pub returns-then-rest-lt-UNIT : goal.returns-then-rest-lt-UNIT
returns-then-rest-lt-UNIT c = let a = c.args in rw (passed-short a.next a.rest.now c.if-rest-lt-UNIT.true)

pub returns-then-extension-later_fragment : goal.returns-then-extension-later_fragment
unfolding passed_length
returns-then-extension-later_fragment c = let a = c.args in
    let least = extension-least a.next a.rest.now in
    let size = c.extension_length-size.ensures in
    rw (← c.extension.ensures, ← c.later_fragment.ensures, ← size, c.if-extension-later_fragment.true)
    (sym (told_length c.extension_length-size.result (λ z. omega arith)))

pub returns-else-extension-later_fragment : goal.returns-else-extension-later_fragment
unfolding passed_length
returns-else-extension-later_fragment c = rw (← c.extension.ensures, ← c.later_fragment.ensures, ← c.extension_length-size.ensures, c.if-extension-later_fragment.false)
