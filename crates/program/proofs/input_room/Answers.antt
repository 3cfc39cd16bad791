-- `input_room` meets its contract.
use mathlib.Core.Path.{refl}
use Rattle.program.proofs.input_room.Goals as goal

pub returns : goal.returns
returns c = record {
  value = refl;
  input_room_value = refl;
}
