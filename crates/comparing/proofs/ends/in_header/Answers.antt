-- `comparing::ends::in_header` meets its contract: none ends before the first place that differs.
use mathlib.Core.Bool.{true, not, ◌&&◌}
use native.Mathlib.Omega.{arith}
use Rattle.comparing.specs.Runs.{is_masked_byte, is_unequal_at, differs_at}
use Rattle.comparing.proofs.Searching.{next_as, differs-shared}
use Rattle.comparing.proofs.Ending.{ends-behind}
use Rattle.comparing.proofs.ends.in_header.Goals as goal

pub returns : goal.returns
returns c = let m = c.next_masked-p in
    let a = c.args in
    let d = differs_at true a.a.now a.b.now in
    let i = next_as (λ q. not (is_masked_byte q) && is_unequal_at a.a.now a.b.now q) true d 0 a.end m.result (λ q h k. differs-shared true a.a.now a.b.now q (omega arith)) m.ensures in
    omega (arith, c.by_bytes.ensures, ends-behind d 0 m.result a.end (omega arith) i.inside i.before)
