-- `routers::next_among` meets its contract: the chain reduces the routers to the earliest.
use mathlib.Core.Path.{sym, ◌∙◌, ap}
use Rattle.std.proofs.Common.{rules}
use Rattle.std.specs.List.{reduce}
use Rattle.std.proofs.lemmas.Iterator.{YieldsList-from_slice, YieldsList-from_take, YieldsList-from_zip, YieldsList-from_map}
use Rattle.routers.specs.Routers.{held_in, earlier_of}
use Rattle.routers.proofs.Chains.{router_of, pairs_zipped, reduced, none-next, next_reduced}
use Rattle.routers.proofs.next_among.Goals as goal

pub returns-in_err-reduce : goal.returns-in_err-reduce
returns-in_err-reduce c = let a = c.args in
    rw c.from_residual.ensures (none-next a.time (held_in a.addresses.now a.dues.now a.count) (sym c.in_err-reduce.was
    ∙ reduced _ earlier_of _ (λ p z y q k. search rules) _ c.reduce.result c.reduce.ensures.ran
    (YieldsList-from_map _ router_of (YieldsList-from_take a.count (YieldsList-from_zip (YieldsList-from_slice a.addresses.now cc) (YieldsList-from_slice a.dues.now cc)) cc) (cc) (λ x r q k. search rules))
    ∙ ap (reduce earlier_of) (pairs_zipped a.count a.addresses.now a.dues.now)))

pub returns : goal.returns
returns c = let a = c.args in
    rw c.if_due.ensures (next_reduced a.time (held_in a.addresses.now a.dues.now a.count) c.in_ok-reduce.field-0 (sym c.in_ok-reduce.was
    ∙ reduced _ earlier_of _ (λ p z y q k. search rules) _ c.reduce.result c.reduce.ensures.ran
    (YieldsList-from_map _ router_of (YieldsList-from_take a.count (YieldsList-from_zip (YieldsList-from_slice a.addresses.now cc) (YieldsList-from_slice a.dues.now cc)) cc) (cc) (λ x r q k. search rules))
    ∙ ap (reduce earlier_of) (pairs_zipped a.count a.addresses.now a.dues.now)))
