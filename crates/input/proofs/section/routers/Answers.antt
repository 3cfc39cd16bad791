-- `input::section::routers` meets its contract: the records read so far stand in front.
use mathlib.Core.Path.{refl}
use native.Mathlib.Omega.{arith}
use lib.ListN.{length-set}
use Rattle.input.specs.Section.{router_bytes, router_of, routers_in}
use Rattle.input.proofs.Records.{fill_turn, fill_end}
use Rattle.input.proofs.section.routers.Goals as goal

pub loop-i-init : goal.loop-i-init
loop-i-init c = (refl, refl)

pub loop-i-preserved : goal.loop-i-preserved
loop-i-preserved c = let l = c.loop-i in
    let s = c.args.s.now in (
      rw length-set l.invariant.0,
      fill_turn router_of 0 router_bytes 16 s l.all l.i c.quad.result (omega arith) (omega arith) l.invariant.1 (rw c.record_at.ensures at c.quad.ensures),
    )

pub returns : goal.returns
unfolding routers_in
returns c = let l = c.loop-i in
    fill_end router_of 0 router_bytes 16 c.args.s.now l.all l.i (omega arith) l.invariant.1
