-- `units::Held::any` meets its contract.
use Rattle.units.specs.Held.{meets, shared}
use Rattle.units.proofs.Words.{or-some_four}
use Rattle.units.proofs.Held.any.Goals as goal

pub returns : goal.returns
unfolding meets
returns c = let a = c.args in
    or-some_four (shared a.self a.of 0) (shared a.self a.of 1) (shared a.self a.of 2) (shared a.self a.of 3)
