-- `comparing::pair::Pair::runs` meets its contract: the places before the last that both have, that one, and those that one alone has.
use Prim.Native.Nat.{◌-◌, min, max}
use native.Mathlib.Omega.{arith}
use lib.ListN.{length}
use Rattle.comparing.specs.Runs.{differs_at}
use Rattle.comparing.proofs.Ending.{ends_more, ends-most, ends-past}
use Rattle.comparing.proofs.Counting.{ends-alone, runs-count}
use Rattle.comparing.proofs.pair.Pair.runs.Goals as goal

pub returns-then-shared-eq0 : goal.returns-then-shared-eq0
returns-then-shared-eq0 c = let a = c.args in
    let d = differs_at a.self.masked a.self.a.now a.self.b.now in
    let s = min (length a.self.a.now) (length a.self.b.now) in
    let l = max (length a.self.a.now) (length a.self.b.now) in
    omega (arith, runs-count a.self.masked a.self.a.now a.self.b.now, ends-alone a.self.masked a.self.a.now a.self.b.now, ends_more d 0 s l (omega arith) (omega arith), ends-past d 0 s (omega arith))

pub returns : goal.returns
returns c = let a = c.args in
    let d = differs_at a.self.masked a.self.a.now a.self.b.now in
    let shared = c.min-shared in
    let s = shared.result in
    let l = max (length a.self.a.now) (length a.self.b.now) in
    let alone = rw (← shared.ensures) at (ends-alone a.self.masked a.self.a.now a.self.b.now) in
    omega (arith, runs-count a.self.masked a.self.a.now a.self.b.now, alone, ends_more d 0 (s - 1) l (omega arith) (omega arith), ends_more d (s - 1) s l (omega arith) (omega arith), c.before_last.ensures, c.by_bytes.ensures)

pub overflow_add-result-2 : goal.overflow_add-result-2
overflow_add-result-2 c = let a = c.args in
    let d = differs_at a.self.masked a.self.a.now a.self.b.now in
    let l = max (length a.self.a.now) (length a.self.b.now) in
    omega (arith, returns c, runs-count a.self.masked a.self.a.now a.self.b.now, ends-most d 0 (l - 0))

pub overflow_add-result : goal.overflow_add-result
overflow_add-result c = let e = overflow_add-result-2 c in
    omega arith
