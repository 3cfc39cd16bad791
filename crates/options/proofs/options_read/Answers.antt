-- `options::options_read`: the router's lifetime goes first into the smallest so far.
use Rattle.std.specs.Prelude.{None}
use mathlib.Core.Path.{◌∙◌}
use mathlib.Core.List.{map}
use Rattle.options.specs.Options.{options_of}
use Rattle.options.specs.Lifetimes.{lifetime_of}
use Rattle.options.proofs.Steps.{shorter-counted}
use Rattle.options.proofs.options_read.Goals as goal

pub returns : goal.returns
returns c = let a = c.args in
    c.read.ensures
    ∙ rw (c.shorter.ensures, c.from.ensures, shorter-counted None a.router (map lifetime_of (options_of a.options.now)))
