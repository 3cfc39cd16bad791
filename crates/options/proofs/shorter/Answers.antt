-- `options::shorter`: by what `counts` answers and the smallest so far.
use Prim.Native.Nat.{ℕ, min}
use mathlib.Core.Path.{◌≡◌, sym, ◌∙◌}
use mathlib.Core.Bool.{true}
use Rattle.std.proofs.Common.{rules}
use Rattle.std.specs.Prelude.{Option, Some, None, MatchOption}
use Rattle.options.specs.Lifetimes.{is_counted}
use Rattle.options.specs.SoFar.{shorter_of}
use Rattle.options.proofs.Steps.{shorter-kept, shorter-first, shorter-more}
use Rattle.options.proofs.shorter.Goals as goal

counting : {P : ℕ → Type 0} (o : Option ℕ) (l r : ℕ) → is_counted l ≡ true → MatchOption o (r ≡ l) P → ((s : ℕ) → P s → r ≡ min s l) → Some r ≡ shorter_of o l
counting None l r h m p = rw m (shorter-first l h)
counting (Some s) l r h m p = rw (p s m) (shorter-more s l h)

pub returns-then-counts : goal.returns-then-counts
returns-then-counts c = let a = c.args in
    counting a.smallest a.lifetime c.map_or.result (sym c.counts.ensures ∙ c.if-counts.true) c.map_or.ensures (λ s p. search rules)

pub returns-else-counts : goal.returns-else-counts
returns-else-counts c = let a = c.args in
    shorter-kept a.smallest a.lifetime (sym c.counts.ensures ∙ c.if-counts.false)
