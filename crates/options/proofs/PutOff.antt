-- How long an advertisement puts its router off.
-- Assumes nothing.
use Rattle.std.specs.Prelude.{Option, Some, None}
use Prim.Native.Nat.{ℕ, ◌≤◌}
use native.Mathlib.Omega.{arith}
use Rattle.options.specs.Lifetimes.{without_lifetime, delay_of}

-- by the interval at least, if that is one that the settings allow
pub interval-delay : (interval : ℕ) (s : Option ℕ) → interval ≤ without_lifetime → interval ≤ delay_of interval s
unfolding delay_of
interval-delay interval (Some s) h = omega arith
interval-delay interval None h = h
