use mathlib.Core.Path.{◌≡◌, refl}
use mathlib.Core.Bool.{Bool, true, false, ◌&&◌}
use lib.Dec.{eqb}
use Rattle.pieces.specs.declared.Key.{Key}
use Rattle.pieces.specs.Places.{is_of, is_same}
use Rattle.pieces.proofs.Place.of.Goals as goal

-- the fields as they stand in a key, and in their order in the definition
swapped : (a b c d : Bool) → (a && (b && (c && d))) ≡ (a && b && d && c)
swapped false b c d = refl
swapped true false c d = refl
swapped true true false false = refl
swapped true true false true = refl
swapped true true true false = refl
swapped true true true true = refl

same_key : (a b : Key)
    → (eqb a.source b.source && (eqb a.destination b.destination && (eqb a.identification b.identification && eqb a.protocol b.protocol)))
    ≡ is_same a b
unfolding is_same
same_key a b =
    swapped (eqb a.source b.source) (eqb a.destination b.destination) (eqb a.identification b.identification) (eqb a.protocol b.protocol)

pub returns : goal.returns
unfolding is_of
returns c = rw (c.live.ensures, c.eq.ensures, same_key c.args.key c.args.self.key)
