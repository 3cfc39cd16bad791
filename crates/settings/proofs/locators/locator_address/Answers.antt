-- `settings::locators::locator_address` meets its contract: a locator is found by a number below the count.
use Prim.Native.Nat.{ℕ, min, ◌≤◌}
use mathlib.Core.Path.{◌≡◌, sym, ◌∙◌, ap}
use mathlib.Core.Bool.{true, false, cond}
use mathlib.Core.List.{List}
use native.Mathlib.Omega.{arith}
use lib.Dec.{ltb}
use lib.ListN.{length, take, get_or}
use lib.Seq.{length-take-le, get_or-take}
use borrow.Author.Tests.{ltb-true}
use denote.Ref.{Bor}
use Rattle.std.proofs.Common.{rules}
use Rattle.std.specs.Prelude.{Option, Some, None, MatchOption, IsSomeAnd, is_some}
use Rattle.lists.proofs.Parts.{unmapped}
use Rattle.settings.specs.Locators.{no_locator, locator_found}
use Rattle.settings.specs.declared.locators.Locator.{Locator}
use Rattle.settings.proofs.locators.locator_address.Goals as goal

module _ (xs : List Locator) (n k : ℕ) (whole : n ≤ length xs) (P : Bor Locator → ℕ → Type 0) (read : (l : Bor Locator) (a : ℕ) → P l a → a ≡ l.now.address) where
  found : (o : Option (Bor Locator)) (r : Option ℕ) → is_some o ≡ ltb k (length (take n xs)) → MatchOption o (Unit {0}) (λ l. l.now ≡ get_or (take n xs) k no_locator)
      → MatchOption o (r ≡ None) (λ l. IsSomeAnd r (P l)) → r ≡ cond (ltb k n) (Some (get_or xs k no_locator).address) None
  found None r t i m =
      let e : ltb k n ≡ false = rw (length-take-le n xs whole) at (sym t) in
      rw (e, m)
  found (Some l) None t i m = absurd m
  found (Some l) (Some a) t i m =
      let e : ltb k n ≡ true = rw (length-take-le n xs whole) at (sym t) in
      rw (e, read l a m, i, get_or-take n xs k no_locator (ltb-true k n e))

pub returns : goal.returns
unfolding locator_found
returns c = let a = c.args in
    let full : length a.all ≡ 8 = search unmapped in
    let l = c.get.ensures.lookup in
    rw (← c.min.ensures) (found a.all c.min.result a.number (omega arith) _ (λ x y p. search rules) c.get.result c.map.result l.0 (search (rules, l.4)) c.map.ensures.cases)
