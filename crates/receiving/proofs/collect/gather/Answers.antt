-- `receiving::collect::gather` meets its contract: by cases on what has arrived.
use Rattle.receiving.proofs.Stages.{collected_stages, collected-memory}
use Rattle.receiving.proofs.collect.gather.Goals as goal

pub returns-in-Ok : goal.returns-in-Ok
returns-in-Ok c = let g = c.gather_arrived.ensures in
    let arrival = c.arrival.ensures in record {
      judged = λ routers. rw (collected_stages, ← arrival, c.in-Ok.is, g.gathered_as.0);
      at_lt_places = g.gathered_as.1;
      memory_after = rw (collected-memory, ← arrival, c.in-Ok.is) g.memory_after;
    }

pub returns-in-Err : goal.returns-in-Err
returns-in-Err c = let arrival = c.arrival.ensures in record {
  judged = λ routers. rw (collected_stages, ← arrival, c.in-Err.is, c.unchanged.ensures);
  at_lt_places = rw c.unchanged.ensures tt;
  memory_after = rw (collected-memory, ← arrival, c.in-Err.is);
}
