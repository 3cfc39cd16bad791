-- R16: the lifetimes of a router advertisement, and when its router is due again.
use Rattle.std.specs.Prelude.{ℕ, ◌+◌, ◌/◌, min, max, List, [], ◌∷◌, map, Bool, cond, not, ◌&&◌, ◌||◌, get_or, leb, eqb, Option, Some, None}
use Rattle.address.specs.Address.{quad_of}
use Rattle.options.specs.declared.Options.{Options}
use Rattle.options.specs.Options.{prefix_type, prefix_units, route_type, options_of, are_options_whole, has_source_link_layer}

-- R16.1: prefix options (type 3, length 4)
abbrev pub is_prefix : ℕ → ℕ → Bool
is_prefix kind units = eqb kind prefix_type && eqb units prefix_units

-- R16.1: route options (type 24, length 1 to 3)
abbrev pub is_route : ℕ → ℕ → Bool
is_route kind units = eqb kind route_type && leb 1 units && leb units 3

-- RFC 4861, 4.6.2, and RFC 4191, 2.3: the valid lifetime of a prefix option and the route lifetime of a route option are its bytes 4 to 7;
-- zero, which does not count, for any other option
unfoldable pub lifetime_of : List ℕ → ℕ
lifetime_of o = cond (is_prefix (get_or o 0 0) (get_or o 1 0) || is_route (get_or o 0 0) (get_or o 1 0)) (quad_of (get_or o 4 0) (get_or o 5 0) (get_or o 6 0) (get_or o 7 0)) 0

-- R16.1: the router's lifetime and those of the options
abbrev pub lifetimes_of : ℕ → List ℕ → List ℕ
lifetimes_of router bs = router ∷ map lifetime_of (options_of bs)

-- a lifetime without end (RFC 4861, 4.6.2, and RFC 4191, 2.3: all one bits)
abbrev pub infinite : ℕ
infinite = 0xffff_ffff

-- R16.2: zero and 0xffffffff don't count
abbrev pub is_counted : ℕ → Bool
is_counted l = not (eqb l 0) && not (eqb l infinite)

-- the lifetimes that count
unfoldable pub counted : List ℕ → List ℕ
counted [] = []
counted (l ∷ ls) = cond (is_counted l) (l ∷ counted ls) (counted ls)

-- the least of a lifetime and others
unfoldable pub least_of : ℕ → List ℕ → ℕ
least_of l [] = l
least_of l (k ∷ ks) = least_of (min l k) ks

-- R16.3: the smallest lifetime, if there is one
abbrev pub smallest_of : List ℕ → Option ℕ
smallest_of [] = None
smallest_of (l ∷ ls) = Some (least_of l ls)

-- what the options of an advertisement say, with the router's lifetime
abbrev pub options_read_of : ℕ → List ℕ → Options
options_read_of router bs = record { whole = are_options_whole bs; smallest = smallest_of (counted (lifetimes_of router bs)); source_link_layer = has_source_link_layer bs }

-- R16.4: 3,600 if none counts
abbrev pub without_lifetime : ℕ
without_lifetime = 3600

-- R16.3, R16.4: the larger of the interval and half the smallest lifetime, rounded down; 3,600 if none counts
unfoldable pub delay_of : ℕ → Option ℕ → ℕ
delay_of interval (Some s) = max interval (s / 2)
delay_of interval None = without_lifetime

-- R16.3: due becomes now + that
abbrev pub due_after : ℕ → ℕ → Option ℕ → ℕ
due_after now interval smallest = now + delay_of interval smallest
