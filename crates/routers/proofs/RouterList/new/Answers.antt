-- `routers::RouterList::new`: there are as many due times as addresses.
--
use borrow.Author.Rules.{rules}
use mathlib.Core.Path.{◌≡◌, ap, sym, ◌∙◌}
use mathlib.Core.List.{List}
use Prim.Native.Nat.{ℕ}
use lib.ListN.{length, replicate}
use Rattle.routers.proofs.Rows.{places, zeros}
use Rattle.routers.proofs.RouterList.new.Goals as goal

pub returns : goal.returns
returns c = let a = c.args in
    let whole : length a.addresses ≡ places = search rules in
    let row = ap (λ (n : ℕ). replicate n 0) (sym whole) ∙ zeros a.addresses in
    ap (λ (ds : List ℕ). record { addresses = a.addresses; dues = ds; count = a.count }) row
