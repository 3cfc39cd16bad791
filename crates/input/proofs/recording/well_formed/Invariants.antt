-- `input::recording::well_formed` meets its contract: what is left to see is in the bytes that are left.
use Prim.Native.Nat.{◌-◌}
use mathlib.Core.Path.{◌≡◌}
use mathlib.Core.Bool.{◌&&◌}
use Rattle.input.specs.Recording.{are_there, is_recording}
use Rattle.input.proofs.recording.well_formed.Given as goal

abbrev pub invariant-loop-i : goal.invariant-loop-i
invariant-loop-i l = (l.good && are_there (l.n - l._i) l.rest) ≡ is_recording l.r
