-- Laws of how many bytes options take. Assumes nothing.
use Prim.Native.Nat.{ℕ, ◌+◌, ◌*◌, ◌≤◌, ◌<◌}
use mathlib.Core.Path.{◌≡◌, ap}
use mathlib.Core.List.{List, ◌∷◌}
use native.Mathlib.Omega.{arith}
use lib.ListN.{length, take, drop, get_or, drop_of_length-le}
use native.Mathlib.Numerals.{add-one}
use lib.Seq.{length-take-le, drop-cons}
use Rattle.advertisements.specs.declared.route.Route.{Route}
use Rattle.advertisements.specs.Options.{route_units, full_route_option, route_option}
use Rattle.advertisements.specs.Advertisement.{routes_length}
use Rattle.advertisements.proofs.UnitLaws.{units_between}
use Rattle.advertisements.proofs.Lists.{no_route}

-- the first bytes of a whole route option are the option
pub route-part : (r : Route) {option : List ℕ} {size : ℕ} → size ≡ route_units r.length * 8 → option ≡ full_route_option r → length option ≡ 24
    → (take size option ≡ route_option r) × (length (take size option) ≡ size) × (size ≤ 24)
unfolding route_option
route-part r {option} {size} e g l =
    let most = units_between r.length in
    (rw (e, g), length-take-le size option (omega arith), omega arith)

-- the bytes of the routes from i on: those of the one at i, and those behind it
pub routes_from : (rs : List Route) (i : ℕ) → i < length rs
    → routes_length (drop i rs) ≡ route_units (get_or rs i no_route).length * 8 + routes_length (drop (i + 1) rs)
routes_from rs i h =
    let e : drop i rs ≡ get_or rs i no_route ∷ drop (i + 1) rs = rw (add-one i, drop-cons rs i no_route h) in
    ap routes_length e

-- behind the last there are none
pub routes_end : (rs : List Route) (i : ℕ) → length rs ≤ i → routes_length (drop i rs) ≡ 0
routes_end rs i h = ap routes_length (drop_of_length-le rs {i = i} h)
