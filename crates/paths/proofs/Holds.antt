-- What is claimed of the path sizes holds, and the checked values compute.
use mathlib.Core.Path.{refl}
use mathlib.Core.List.{[]}
use native.Mathlib.Omega.{arith}
use lib.ListN.{take}
use Rattle.paths.specs.Packets.{largest_packet}
use Rattle.paths.specs.Kept.{while_young, in_force}
use Rattle.paths.specs.Table.{kept_in, table_after}
use Rattle.paths.proofs.Claim.{Grows, AllPathsHold}
use Rattle.paths.proofs.Values.{Values}
use Rattle.paths.proofs.Answers.{same_history, same_after}
use Rattle.paths.proofs.Bound.{from_first_lem}

pub all_paths_hold : AllPathsHold
all_paths_hold limit grows links calls =
    record {
      answers = same_history limit links [] 0 calls;
      sizes = λ k v. same_after limit links [] 0 (take k calls) v;
      senders = λ j v. rw (same_history limit links [] 0 calls) (from_first_lem limit grows links j v calls [] 0);
    }

-- M grows with the path size, so that the bound of demand 3 holds for it
pub largest_packet_grows : Grows largest_packet
unfolding largest_packet
largest_packet_grows P Q l = omega arith

pub values : Values
unfolding largest_packet while_young in_force kept_in table_after
values =
    record {
      larger = refl;
      equal = refl;
      neighbours = (refl, refl);
      reached = (omega arith, refl, refl);
    }
