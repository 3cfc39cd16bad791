-- `address::forbidden` meets its contract: the tests are the definition, and between 0.0.0.0 and 127.0.0.0 all fail.
use borrow.Author.Rules.{rules}
use native.Mathlib.Omega.{arith}
use borrow.Author.Tests.{ne_eqb, lt-leb, leb-true}
use lib.Dec.{leb}
use Rattle.lists.proofs.Tests.{and_left, and_right}
use Rattle.address.specs.Address.{is_forbidden}
use Rattle.address.proofs.forbidden.Goals as goal

pub returns-then-a : goal.returns-then-a
unfolding is_forbidden
returns-then-a c = let a = c.args.a in
    let above = leb-true 1 a (and_left (leb 1 a) (leb a 2130706431) c.if-a.true) in
    let below = leb-true a 2130706431 (and_right (leb 1 a) (leb a 2130706431) c.if-a.true) in
    rw (ne_eqb a 0 (λ e. omega arith), lt-leb 2130706432 a (omega arith), lt-leb 3758096384 a (omega arith), ne_eqb a 4294967295 (λ e. omega arith))

pub returns : goal.returns
unfolding is_forbidden
returns c = search rules
