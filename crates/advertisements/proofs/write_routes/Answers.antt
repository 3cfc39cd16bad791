-- `advertisements::write_routes` meets its contract.
use native.Mathlib.Omega.{arith}
use Prim.Native.Nat.{ℕ, ◌+◌, ◌*◌}
use mathlib.Core.Path.{◌≡◌, refl, sym, ap, ◌∙◌}
use mathlib.Core.List.{List, map, flatten}
use lib.ListN.{take, length, get_or, length-append}
use lib.Seq.{take_all}
use Rattle.lent.specs.Written.{written, written_at}
use Rattle.lent.proofs.Laws.{length-written}
use Rattle.advertisements.specs.declared.route.Route.{Route}
use Rattle.advertisements.specs.Options.{route_units, route_option}
use Rattle.advertisements.proofs.Lists.{no_route, write-next, flatten_next}
use Rattle.advertisements.proofs.LengthLaws.{route-part, routes_from, routes_end}
use Rattle.advertisements.proofs.UnitLaws.{units_between}
use Rattle.advertisements.proofs.write_routes.Goals as goal

pub loop-r-init : goal.loop-r-init
unfolding flatten
loop-r-init c = (refl, refl, omega arith, omega arith, refl)

pub write_first-requires : goal.write_first-requires
write_first-requires c =
    let r = get_or c.args.routes.now c.loop-r.r-index no_route in
    let most = units_between r.length in
    let size : c.route_size-size.result ≡ route_units r.length * 8 = c.route_size-size.ensures in
    omega arith

pub overflow_add-at : goal.overflow_add-at
overflow_add-at c =
    let r = get_or c.args.routes.now c.loop-r.r-index no_route in
    let most = units_between r.length in
    let size : c.route_size-size.result ≡ route_units r.length * 8 = c.route_size-size.ensures in
    omega arith

pub loop-r-preserved : goal.loop-r-preserved
loop-r-preserved c =
    let rs = c.args.routes.now in
    let out = c.args.out.now in
    let i = c.loop-r.r-index in
    let r = get_or rs i no_route in
    let size = c.route_size-size.result in
    let units : size ≡ route_units r.length * 8 = c.route_size-size.ensures in
    let wide : length c.route_option.result ≡ 24 = omega arith in
    let part = route-part r units c.route_option.ensures.value wide in
    let long : length (route_option r) ≡ size = ap length (sym part.0) ∙ part.1 in
    let left = routes_from rs i c.loop-r-test.true in
    let put = c.write_first.ensures ∙ ap (λ (bytes : List ℕ). written_at c.loop-r.at bytes c.loop-r.out) part.0 in
    let next = write-next route_option rs i no_route c.loop-r-test.true c.loop-r.at out c.loop-r.invariant.1 (omega arith) c.loop-r.invariant.4 put in
    let behind : length (flatten (map route_option (take (i + 1) rs))) ≡ c.loop-r.at + size = ap length (flatten_next route_option rs i no_route c.loop-r-test.true) ∙ rw length-append (omega arith) in
    (ap length next ∙ length-written (flatten (map route_option (take (i + 1) rs))) out (omega arith), behind, omega arith, omega arith, next)

pub returns : goal.returns
returns c =
    let rs = c.args.routes.now in
    let none = routes_end rs c.loop-r.r-index c.loop-r-test.false in
    let all : take c.loop-r.r-index rs ≡ rs = take_all c.loop-r.r-index rs (omega arith) in
    record {
      out_after = c.loop-r.invariant.4 ∙ ap (λ (xs : List Route). written (flatten (map route_option xs)) c.args.out.now) all;
      routes_len = ap (λ (xs : List Route). length (flatten (map route_option xs))) (sym all) ∙ c.loop-r.invariant.1 ∙ omega arith;
    }
