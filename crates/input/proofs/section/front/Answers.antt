-- `input::section::front` meets its contract: a count past the end is read as the length.
use native.Mathlib.Omega.{arith}
use Prim.Native.Nat.{min}
use mathlib.Core.Path.{◌≡◌}
use lib.ListN.{length, length-take}
use Rattle.lists.proofs.Parts.{take-least}
use Rattle.input.proofs.section.front.Goals as goal

pub slice_bounds-result-end : goal.slice_bounds-result-end
slice_bounds-result-end c = rw length-take (omega arith)

pub returns : goal.returns
returns c = let n : c.min.result ≡ min c.args.n (length c.args.d.now) = omega arith in rw n (take-least c.args.n c.args.d.now)
