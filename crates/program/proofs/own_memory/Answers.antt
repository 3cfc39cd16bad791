-- `own_memory` meets its contract.
use mathlib.Core.Path.{refl}
use Rattle.program.specs.Program.{own_memory}
use Rattle.program.proofs.own_memory.Goals as goal

pub returns : goal.returns
unfolding own_memory
returns c = record {
  value = refl;
  memory_room_value = refl;
}
