-- `comparing::blocks::Front::next_by_bytes` meets its contract: no place is passed that is wanted.
use Rattle.comparing.specs.Runs.{is_unequal_at}
use Rattle.comparing.specs.Search.{NoneIn}
use Rattle.comparing.proofs.blocks.Front.next_by_bytes.Given as goal

abbrev pub invariant-loop-p : goal.invariant-loop-p
invariant-loop-p l = NoneIn (is_unequal_at l.a l.b) l.wanted l.start l.p
