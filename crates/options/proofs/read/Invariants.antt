-- `options::read`: all options say what those from `at` on say, with what is found up to there. A turn's walk takes some of the
-- bytes, since there is an option.
use Prim.Native.Nat.{◌-◌, ◌≤◌}
use mathlib.Core.Path.{◌≡◌}
use lib.ListN.{length, drop}
use Rattle.std.specs.Option.{is_some}
use Rattle.options.specs.Options.{option_size}
use Rattle.options.specs.SoFar.{some_size, read_of}
use Rattle.options.proofs.read.Given as goal

abbrev pub invariant-loop-more : goal.invariant-loop-more
invariant-loop-more l = (l.at ≤ length l.options) × (l.more ≡ is_some (some_size (option_size (drop l.at l.options)))) × (read_of l.options l.initial.found ≡ read_of (drop l.at l.options) l.found)

abbrev pub decreases-loop-more : goal.decreases-loop-more
decreases-loop-more l = length l.options - l.at
