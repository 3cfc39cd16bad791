-- `units::both` meets its contract.
use mathlib.Core.Path.{sym}
use native.Mathlib.Nat.{mod-eq_of_lt}
use lib.Bits.{or_lt}
use Rattle.units.proofs.both.Goals as goal

pub returns : goal.returns
returns c = sym (mod-eq_of_lt (or_lt 64 c.args.a c.args.b c.ranges.a.fits c.ranges.b.fits))
