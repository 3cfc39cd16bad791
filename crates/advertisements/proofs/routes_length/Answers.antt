-- `advertisements::routes_length` meets its contract.
use native.Mathlib.Omega.{arith}
use Prim.Native.Nat.{◌*◌}
use mathlib.Core.Path.{◌≡◌}
use lib.ListN.{get_or}
use Rattle.advertisements.specs.Options.{route_units}
use Rattle.advertisements.proofs.Lists.{no_route}
use Rattle.advertisements.proofs.LengthLaws.{routes_from, routes_end}
use Rattle.advertisements.proofs.UnitLaws.{units_between}
use Rattle.advertisements.proofs.routes_length.Goals as goal

pub overflow_add-sum : goal.overflow_add-sum
overflow_add-sum c =
    let r = get_or c.args.routes.now c.loop-r.r-index no_route in
    let most = units_between r.length in
    let size : c.route_size-sum.result ≡ route_units r.length * 8 = c.route_size-sum.ensures in
    omega arith

pub loop-r-preserved : goal.loop-r-preserved
loop-r-preserved c =
    let rs = c.args.routes.now in
    let r = get_or rs c.loop-r.r-index no_route in
    let most = units_between r.length in
    let size : c.route_size-sum.result ≡ route_units r.length * 8 = c.route_size-sum.ensures in
    let next = routes_from rs c.loop-r.r-index c.loop-r-test.true in
    (omega arith, omega arith)

pub returns : goal.returns
returns c =
    let none = routes_end c.args.routes.now c.loop-r.r-index c.loop-r-test.false in
    (omega arith, omega arith)
