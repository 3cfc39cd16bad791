-- `receiving::collect::arrival` meets its contract: by what is lent, and then by its stages.
use Rattle.std.proofs.Common.{rules}
use borrow.Author.Tests.{lt-ltb, le-ltb}
use Rattle.pieces.specs.Places.{memory_room}
use Rattle.receiving.specs.Stages.{arrival_of}
use Rattle.receiving.proofs.Stages.{arrived_of, arrival_stages}
use Rattle.receiving.proofs.collect.arrival.Goals as goal

pub returns-then-lent-lt-MEMORY : goal.returns-then-lent-lt-MEMORY
unfolding arrival_of
returns-then-lent-lt-MEMORY c = rw (lt-ltb _ memory_room c.if-lent-lt-MEMORY.true)

pub returns-in_err-o : goal.returns-in_err-o
unfolding arrived_of
returns-in_err-o c = let a = c.args in
    rw (arrival_stages a.settings a.interface a.d.now a.lent (le-ltb a.lent memory_room c.if-lent-lt-MEMORY.false)) (search rules)

pub returns-in_err-check_addresses : goal.returns-in_err-check_addresses
unfolding arrived_of
returns-in_err-check_addresses c = let a = c.args in
    rw (arrival_stages a.settings a.interface a.d.now a.lent (le-ltb a.lent memory_room c.if-lent-lt-MEMORY.false)) (search rules)

pub returns : goal.returns
unfolding arrived_of
returns c = let a = c.args in
    rw (arrival_stages a.settings a.interface a.d.now a.lent (le-ltb a.lent memory_room c.if-lent-lt-MEMORY.false)) (search rules)
