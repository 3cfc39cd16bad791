-- `units::Held::first` meets its contract.
use Rattle.units.proofs.Ranged.{first-words}
use Rattle.units.proofs.Held.first.Goals as goal

pub returns : goal.returns
returns c = rw (
  c.ones-4.ensures,
  c.saturating_sub-3.ensures,
  c.ones-3.ensures,
  c.saturating_sub-2.ensures,
  c.ones-2.ensures,
  c.saturating_sub.ensures,
  c.ones.ensures,
)
    (first-words c.args.n)
