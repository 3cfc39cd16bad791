-- `advertisements::route::route_option` meets its contract: each call's result is put in its place.
use borrow.Author.Rules.{rules}
use mathlib.Core.Path.{◌≡◌}
use mathlib.Core.List.{append-nil}
use lib.ListN.{length}
use Rattle.lent.specs.Written.{written_at}
use Rattle.advertisements.specs.Bits.{first_bits_of}
use Rattle.advertisements.specs.Options.{full_route_option}
use Rattle.advertisements.proofs.route.route_option.Goals as goal

pub returns-clause-value : goal.returns-clause-value
unfolding full_route_option written_at
returns-clause-value c = let masked = c.first_bits_of-kept in
    let r = c.args.route in
    let full : length masked.result ≡ 16 = search rules in
    let long = rw masked.ensures at full in
    let lifetime = rw (c.quad_bytes.ensures, c.bits.ensures, c.route_units.ensures) at c.write_at.ensures in
    rw (masked.ensures, lifetime, long, append-nil (first_bits_of r.length r.bytes)) at c.write_at-2.ensures
