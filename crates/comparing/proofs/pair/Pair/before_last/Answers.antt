-- `comparing::pair::Pair::before_last` meets its contract: behind the masked part no byte is masked.
use Prim.Native.Nat.{◌-◌}
use mathlib.Core.Path.{sym, ◌∙◌}
use mathlib.Core.Bool.{true, true≢false}
use native.Mathlib.Omega.{arith}
use Rattle.comparing.specs.Runs.{differs_at}
use Rattle.comparing.proofs.Ending.{ends_more, ends-most}
use Rattle.comparing.proofs.Counting.{ends-unmasked}
use Rattle.comparing.proofs.pair.Pair.before_last.Goals as goal

pub returns-then-masked : goal.returns-then-masked
returns-then-masked c = let f = c.min-front.result in
    let a = c.args in
    let d = differs_at true a.self.a.now a.self.b.now in
    let e = ends-unmasked true a.self.a.now a.self.b.now f a.end (λ t h. omega arith) (omega arith) in
    rw c.if-masked.true (omega (arith, c.in_header.ensures, c.unmasked.ensures, e, ends_more d 0 f a.end (omega arith) (omega arith)))

pub returns : goal.returns
returns c = let a = c.args in
    c.unmasked-2.ensures ∙ sym (ends-unmasked a.self.masked a.self.a.now a.self.b.now 0 a.end (λ t h. absurd (true≢false (sym t ∙ c.if-masked.false))) (omega arith))

pub overflow_add-result : goal.overflow_add-result
overflow_add-result c = let a = c.args in
    omega (arith, returns-then-masked c, ends-most (differs_at a.self.masked a.self.a.now a.self.b.now) 0 (a.end - 0))
