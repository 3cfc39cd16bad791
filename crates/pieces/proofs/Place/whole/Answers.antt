-- `pieces::Place::whole` meets its contract.
use borrow.Author.Tests.{eq-eqb, ne_eqb}
use Rattle.units.proofs.Ranged.{covers-range}
use Rattle.pieces.specs.Places.{is_whole, units_of}
use Rattle.pieces.proofs.Place.whole.Goals as goal

pub returns-then-self-ne0 : goal.returns-then-self-ne0
unfolding is_whole
returns-then-self-ne0 c = let a = c.args in
    rw (
      c.all.ensures,
      c.first.ensures,
      c.units_of.ensures,
      covers-range 0 (units_of a.self.end) a.self.held,
      ne_eqb a.self.end 0 c.if-self-ne0.true,
    )

pub returns-else-self-ne0 : goal.returns-else-self-ne0
unfolding is_whole
returns-else-self-ne0 c = rw (eq-eqb _ _ c.if-self-ne0.false)
