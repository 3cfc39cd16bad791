-- `text::hex_digit` meets its contract.
use Prim.Native.Nat.{◌%◌, ◌<◌, ◌≤◌}
use native.Mathlib.Omega.{arith}
use borrow.Author.Tests.{lt-ltb, le-ltb}
use Rattle.text.proofs.hex_digit.Goals as goal

pub returns-then-digit-lt10 : goal.returns-then-digit-lt10
returns-then-digit-lt10 c = let n = c.args.n in let h : n % 16 < 10 = omega arith in simp (lt-ltb _ _ h)

pub returns-else-digit-lt10 : goal.returns-else-digit-lt10
returns-else-digit-lt10 c = let n = c.args.n in let h : 10 ≤ n % 16 = omega arith in simp (le-ltb _ _ h)
