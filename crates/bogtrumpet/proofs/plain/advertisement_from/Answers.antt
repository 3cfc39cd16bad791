-- A turn converts a prefix that counts, or else a route.
use Rattle.std.proofs.Common.{◌≡◌, ◌+◌, ◌-◌, min, length, rules, refl, arith}
use Rattle.bogtrumpet.specs.Plain.{prefix_from, no_prefix, route_from, no_route, advertisement_from}
use Rattle.bogtrumpet.proofs.Firsts.{firsts_start, firsts_same, firsts_turn, firsts_end}
use Rattle.bogtrumpet.proofs.plain.advertisement_from.Goals as goal
use Rattle.bogtrumpet.proofs.plain.advertisement_from.Goals.{then-i-p, else-i-p}

pub loop-i-init : goal.loop-i-init
loop-i-init c = (
  omega arith,
  firsts_start prefix_from no_prefix c.args.a.prefixes c.no_prefix-prefixes.result (min 0 c.min-p.result) c.no_prefix-prefixes.ensures (omega arith),
  firsts_start route_from no_route c.args.a.routes c.no_route-routes.result (0 - c.min-p.result) c.no_route-routes.ensures (omega arith),
)

pub loop-i-preserved : goal.loop-i-preserved
loop-i-preserved c =
    let a = c.args.a in
    let p = c.min-p.result in
    let l = c.loop-i in
    let all_prefixes : length a.prefixes ≡ 8 = search rules in
    let all_routes : length a.routes ≡ 8 = search rules in
    elim c.if-i-p.branch [
      | then-i-p w ↦ (
        omega arith,
        firsts_turn prefix_from no_prefix a.prefixes _ l.prefixes c.if-i-p.prefixes l.i (min l.i p) (min (l.i + 1) p) w.prefix_from.result all_prefixes
            (omega arith) (omega arith) (omega arith) l.invariant.1 w.prefix_from.ensures w.prefixes-is,
        firsts_same route_from no_route a.routes l.routes c.if-i-p.routes (l.i - p) (l.i + 1 - p) (omega arith) l.invariant.2 w.routes-is,
      )
      | else-i-p w ↦ (
        omega arith,
        firsts_same prefix_from no_prefix a.prefixes l.prefixes c.if-i-p.prefixes (min l.i p) (min (l.i + 1) p) (omega arith) l.invariant.1 w.prefixes-is,
        firsts_turn route_from no_route a.routes _ l.routes c.if-i-p.routes (l.i - p) (l.i - p) (l.i + 1 - p) w.route_from.result all_routes
            (omega arith) refl (omega arith) l.invariant.2 w.route_from.ensures w.routes-is,
      )
    ]

pub returns : goal.returns
unfolding advertisement_from
returns c =
    let a = c.args.a in
    let p = c.min-p.result in
    let l = c.loop-i in
    let all_prefixes : length a.prefixes ≡ 8 = search rules in
    let all_routes : length a.routes ≡ 8 = search rules in
    rw (firsts_end prefix_from no_prefix a.prefixes l.prefixes (min l.i p) a.prefix_count all_prefixes (omega arith) l.invariant.1, firsts_end route_from no_route a.routes l.routes (l.i - p) a.route_count all_routes (omega arith) l.invariant.2)
