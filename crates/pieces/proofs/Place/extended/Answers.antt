use Rattle.units.proofs.Ranged.{united-range}
use Rattle.pieces.specs.Places.{units_of, extended_to}
use Rattle.pieces.proofs.Place.extended.Goals as goal

pub returns-then-loaded : goal.returns-then-loaded
unfolding extended_to
returns-then-loaded c = let a = c.args in
    let l = a.loaded.now in
    rw (c.max.ensures, c.end-end.ensures, c.if-loaded.true, c.with-held.ensures, l.fills, united-range l.piece.offset (units_of _) a.self.held)

pub returns-else-loaded : goal.returns-else-loaded
unfolding extended_to
returns-else-loaded c = let a = c.args in
    let l = a.loaded.now in
    rw (c.end-end.ensures, c.if-loaded.false, c.with-held.ensures, l.fills, united-range l.piece.offset (units_of _) a.self.held)
