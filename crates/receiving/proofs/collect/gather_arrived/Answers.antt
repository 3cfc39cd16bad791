-- `receiving::collect::gather_arrived` meets its contract: by whether the datagram is a piece.
use borrow.Author.Tests.{eq-eqb, ne_eqb}
use Rattle.receiving.specs.Stages.{settled_of, settled_memory}
use Rattle.receiving.proofs.collect.gather_arrived.Goals as goal

pub returns-then-o-ne0 : goal.returns-then-o-ne0
unfolding settled_of settled_memory
returns-then-o-ne0 c = let g = c.gather_piece.ensures in
    let h = ne_eqb _ _ c.if-o-ne0.true in
    record {
      gathered_as = (λ s routers. rw h (g.gathered_as.0 s routers), g.gathered_as.1);
      memory_after = rw h g.memory_after;
    }

pub returns : goal.returns
unfolding settled_of settled_memory
returns c = let h = eq-eqb _ _ c.if-o-ne0.false in
    record {
      gathered_as = (λ s routers. rw (h, c.unchanged.ensures, c.read_whole.ensures), rw c.unchanged.ensures tt);
      memory_after = rw h;
    }
