-- `sending::judging::sized_plan` meets its contract: the tests decide.
use Rattle.std.proofs.Common.{◌<◌, ◌≤◌, length, arith, le-ltb, lt-ltb}
use Rattle.paths.specs.Packets.{largest_packet}
use Rattle.sending.specs.Plan.{sized_plan}
use Rattle.sending.proofs.judging.sized_plan.Goals as goal

pub returns-then-packet-size : goal.returns-then-packet-size
unfolding sized_plan
returns-then-packet-size c = let a = c.args in
    let fits : length a.packet.now ≤ largest_packet a.path_size = omega (arith, c.largest_packet-size.ensures) in
    simp (le-ltb _ _ fits)

pub returns-then-may_draw_error : goal.returns-then-may_draw_error
unfolding sized_plan
returns-then-may_draw_error c = let m = c.largest_packet-size.ensures in
    let a = c.args in
    let big : largest_packet a.path_size < length a.packet.now = omega (arith, m) in
    rw m (simp (lt-ltb _ _ big, ← c.may_draw_error.ensures, c.if-may_draw_error.true))

pub returns-else-may_draw_error : goal.returns-else-may_draw_error
unfolding sized_plan
returns-else-may_draw_error c = let m = c.largest_packet-size.ensures in
    let a = c.args in
    let big : largest_packet a.path_size < length a.packet.now = omega (arith, m) in
    rw m (simp (lt-ltb _ _ big, ← c.may_draw_error.ensures, c.if-may_draw_error.false))
