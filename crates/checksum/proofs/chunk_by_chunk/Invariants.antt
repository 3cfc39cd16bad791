-- `checksum::chunk_by_chunk` meets its contract: in what is left the last fold is given the same; a turn takes a full chunk off.
use Rattle.std.proofs.Common.{◌≡◌, ◌-◌, ◌%◌, ◌^◌, ◌<◌, ◌≤◌, length, drop}
use Rattle.checksum.specs.Folding.{chunk, final_input}
use Rattle.checksum.proofs.chunk_by_chunk.Given as goal

abbrev pub invariant-loop-at : goal.invariant-loop-at
invariant-loop-at l = (l.at ≤ length l.s) × (l.at % chunk ≡ 0) × (l.result < 2 ^ 32) × (final_input l.result (drop l.at l.s) ≡ final_input l.start l.s)

abbrev pub decreases-loop-at : goal.decreases-loop-at
decreases-loop-at l = length l.s - l.at
