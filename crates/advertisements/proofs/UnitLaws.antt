-- The length of a route option, in units of 8 bytes, and what of its prefix that holds. Assumes nothing.
use Prim.Native.Nat.{ℕ, ◌+◌, ◌-◌, ◌*◌, ◌≤◌}
use mathlib.Core.Path.{◌≡◌, refl}
use mathlib.Core.Logic.{inl, inr}
use mathlib.Core.Bool.{Bool, true, false, cond}
use mathlib.Core.List.{[], ◌∷◌}
use native.Mathlib.Omega.{arith}
use borrow.Author.Tests.{eqb-true, eqb-false, leb-true, leb-false}
use lib.Dec.{eqb, leb}
use lib.ListN.{take}
use lib.Seq.{take-append-add}
use Rattle.header.specs.Wrap.{be32}
use Rattle.advertisements.specs.Bits.{first_bits_of}
use Rattle.advertisements.specs.Options.{preference_bits, route_units, full_route_option, route_option}
use Rattle.advertisements.specs.OptionFacts.{ShortestUnits}
use Rattle.advertisements.specs.declared.route.Route.{Route}

-- one unit at least, and three at most
pub units_between : (l : ℕ) → (1 ≤ route_units l) × (route_units l ≤ 3)
unfolding route_units
units_between l = go (eqb l 0) (leb l 64)
  where
    go : (s t : Bool) → (1 ≤ cond s 1 (cond t 2 3)) × (cond s 1 (cond t 2 3) ≤ 3)
    go true t = omega arith
    go false true = omega arith
    go false false = omega arith

-- the units that we write are the fewest
pub units-shortest : (l : ℕ) → l ≤ 128 → ShortestUnits l (route_units l)
unfolding route_units
units-shortest l most = go (eqb l 0) (leb l 64) refl refl
  where
    go : (s t : Bool) → eqb l 0 ≡ s → leb l 64 ≡ t → ShortestUnits l (cond s 1 (cond t 2 3))
    go true t e g = inl (eqb-true l 0 e, refl)
    go false true e g = inr (inl (omega (arith, eqb-false l 0 e), leb-true l 64 g, refl))
    go false false e g = inr (inr (omega (arith, leb-false l 64 g), most, refl))

-- the option: 8 bytes, and as much of the prefix as its length holds
pub route_option_bytes : (r : Route)
    → route_option r
    ≡ 24 ∷ (route_units r.length ∷ (r.length ∷ (preference_bits r.preference
    ∷ be32 r.lifetime (take (8 * (route_units r.length - 1)) (first_bits_of r.length r.bytes)))))
unfolding route_option full_route_option
route_option_bytes r =
    let u = route_units r.length in
    let between = units_between r.length in
    let e : u * 8 ≡ 8 + 8 * (u - 1) = omega arith in
    rw e (take-append-add (24 ∷ (u ∷ (r.length ∷ (preference_bits r.preference ∷ be32 r.lifetime []))))
    (first_bits_of r.length r.bytes) (8 * (u - 1)))
