-- `options::option_lifetime`: by what `has_lifetime` answers.
use mathlib.Core.Path.{sym}
use Rattle.options.specs.Lifetimes.{lifetime_of}
use Rattle.options.proofs.option_lifetime.Goals as goal

pub returns-then-has_lifetime : goal.returns-then-has_lifetime
unfolding lifetime_of
returns-then-has_lifetime c = rw (sym c.has_lifetime.ensures, c.if-has_lifetime.true) c.quad.ensures

pub returns-else-has_lifetime : goal.returns-else-has_lifetime
unfolding lifetime_of
returns-else-has_lifetime c = rw (sym c.has_lifetime.ensures, c.if-has_lifetime.false)
