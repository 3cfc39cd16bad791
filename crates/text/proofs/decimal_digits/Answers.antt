-- `text::decimal_digits` meets its contract: the digits before those written are those of what is left.
use mathlib.Core.Path.{sym, ◌∙◌}
use mathlib.Core.List.{append-nil}
use native.Mathlib.Omega.{arith}
use lib.ListN.{length-set}
use Rattle.text.specs.Text.{decimal_up_to, decimal}
use Rattle.text.proofs.DigitLaws.{tenth, digit_turn, digit_last}
use Rattle.text.proofs.decimal_digits.Goals as goal

pub loop-rest-init : goal.loop-rest-init
unfolding decimal
loop-rest-init c = (omega arith, omega arith, omega arith, sym (append-nil (decimal_up_to 19 c.args.n)))

pub overflow_sub-start : goal.overflow_sub-start
overflow_sub-start c = let l = c.loop-rest in (tenth l.start l.rest (omega arith) l.invariant.2).0

pub loop-rest-smaller : goal.loop-rest-smaller
loop-rest-smaller c = let l = c.loop-rest in omega (arith, (tenth l.start l.rest (omega arith) l.invariant.2).0)

pub loop-rest-preserved : goal.loop-rest-preserved
loop-rest-preserved c = let l = c.loop-rest in
    let t = tenth l.start l.rest (omega arith) l.invariant.2 in (
      omega arith,
      rw length-set l.invariant.1,
      t.1,
      l.invariant.3 ∙ digit_turn l.bytes l.start l.rest (omega arith) (omega arith) t.0,
    )

pub returns : goal.returns
returns c = let l = c.loop-rest in
    (digit_last l.bytes l.start l.rest (omega arith) (omega arith) ∙ sym l.invariant.3, omega arith, rw length-set l.invariant.1)
