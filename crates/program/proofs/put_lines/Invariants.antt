-- `put_lines` meets its contract: the walk has come to the datagram of number k, and the lines before it are written.
use mathlib.Core.Path.{◌≡◌}
use lib.ListN.{length}
use Rattle.text.proofs.Laws.{Wrote}
use Rattle.program.proofs.LineLaws.{lines_to}
use Rattle.program.specs.Program.{lines_of}
use Rattle.program.proofs.Laws.{Walked}
use Rattle.program.proofs.put_lines.Given as goal

abbrev pub invariant-loop-k : goal.invariant-loop-k
invariant-loop-k l = Walked l.initial.next l.initial.memory l.r l.k l.next l.memory l.rest × (length l.memory ≡ length l.initial.memory) × (length l.out ≡ length l.initial.out) × Wrote l.from (lines_to l.k (lines_of l.initial.next l.initial.memory l.r)) l.initial.out l.at l.out
