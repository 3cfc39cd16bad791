-- Where the service is there, what is gathered says all that is asked.
use Rattle.std.proofs.Common.{◌≡◌, true, false}
use Rattle.routers.specs.Routers.{live}
use Rattle.node.specs.Receive.{collected_through}
use Rattle.bogtrumpet.specs.Numbered.{is_there}
use Rattle.bogtrumpet.proofs.Same.{gathered-same, absent-same}
use Rattle.bogtrumpet.proofs.steps.gathered.Goals as goal

pub returns-then-there : goal.returns-then-there
unfolding collected_through
returns-then-there c =
    let a = c.args in
    let g = c.gather-gathered in
    let there : is_there a.both a.service ≡ true = cc in (
      rw (there, ← c.max-latest.ensures, c.plain_stage.ensures)
          (gathered-same a.named c.max-latest.result a.datagram.now a.interface a.memory.now g.result (g.ensures.judged (live a.named.routers)) g.ensures.at_lt_places),
      rw (there, ← c.max-latest.ensures) g.ensures.memory_after,
    )

pub returns : goal.returns
unfolding collected_through
returns c =
    let a = c.args in
    let there : is_there a.both a.service ≡ false = cc in (
      rw (there, ← c.max-latest.ensures, c.plain_stage-2.ensures)
          (absent-same a.named c.max-latest.result a.datagram.now a.interface a.memory.now),
      rw there,
    )
