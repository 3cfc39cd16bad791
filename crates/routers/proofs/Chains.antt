-- What a chain over the places of a router list says: who is due first.
-- Assumes nothing.
use Prim.Native.Nat.{ℕ, zero, suc}
use mathlib.Core.Path.{◌≡◌, refl, ap}
use mathlib.Core.List.{List, [], ◌∷◌, map}
use lib.ListN.{take}
use Rattle.std.specs.Prelude.{Option, Some, None}
use denote.Param.Members.{Mut}
use Rattle.std.specs.Fn.{Called}
use Rattle.std.specs.Iterator.{FoldTurn, ReducesItems}
use Rattle.std.specs.List.{zip, fold, reduce, FoldsTo}
use Rattle.std.proofs.lemmas.Iterator.{YieldsList}
use Rattle.std.proofs.lemmas.Iterator.Consumers.{reduce_from_yields_List}
use Rattle.routers.specs.declared.Router.{Router}
use Rattle.routers.specs.Routers.{held_in, earlier_of, earliest, next_of, if_due}

-- the router of a pair of address and due time
abbrev pub router_of : ℕ × ℕ → Router
router_of p = record { address = p.0; due = p.1 }

pub pairs_zipped : (n : ℕ) (bs ds : List ℕ) → map router_of (take n (zip bs ds)) ≡ held_in bs ds n
pairs_zipped zero bs ds = refl
pairs_zipped (suc n) [] ds = refl
pairs_zipped (suc n) (b ∷ bs) [] = refl
pairs_zipped (suc n) (b ∷ bs) (d ∷ ds) = ap (λ rs. record { address = b; due = d } ∷ rs) (pairs_zipped n bs ds)

earliest_folded : (r : Router) (rs : List Router) → fold earlier_of r rs ≡ earliest r rs
unfolding earliest
earliest_folded r [] = refl
earliest_folded r (s ∷ rs) = earliest_folded (earlier_of r s) rs

-- the router that is asked is the earliest, if there is one and it is due
pub none-next : (now : ℕ) (rs : List Router) → None ≡ reduce earlier_of rs → None ≡ next_of now rs
unfolding next_of
none-next now [] e = refl
none-next now (r ∷ rs) e = cc

pub next_reduced : (now : ℕ) (rs : List Router) (r : Router) → Some r ≡ reduce earlier_of rs → if_due now r ≡ next_of now rs
unfolding next_of
next_reduced now [] r e = cc
next_reduced now (s ∷ rs) r e =
    let same : r ≡ fold earlier_of s rs = cc in
    rw (same, earliest_folded s rs)

-- what `reduce` answers, where each call of what it is given answers h of the two and leaves it as it was
module _ {A F : Type 0} (g : Mut F (A × (A × Unit {0})) A) (h : A → A → A) (f : F) (k : (p z y : A) (q : F) → Called g f (p, (z, tt)) y q → (q ≡ f) × (y ≡ h p z)) where
  turns : (x : A) (xs : List A) (d e : F) (y : A) → d ≡ f → FoldsTo {P = F × A} (FoldTurn g) (d, x) xs (e, y) → FoldsTo (λ p z c. c ≡ h p z) x xs y
  turns x [] d e y same r = ap (λ (p : F × A). p.1) r
  turns x (z ∷ xs) d e y same r =
      let here = k x z r.0.1 r.0.0 (rw same at r.1) in
      (r.0.1, here.1, turns r.0.1 xs r.0.0 e y here.0 r.2)

  pub reduced : {S : Type 0} {steps : S → Option A → S → Type 0} {all : List A} (s : S) (r : Option A) → ReducesItems steps g s f r → YieldsList steps (λ x. x) s all → r ≡ reduce h all
  reduced s None n y = reduce_from_yields_List h s None n y
  reduced s (Some a) n y = reduce_from_yields_List h s (Some a) (n.0, n.1, n.3, turns n.0 n.1 f n.2 a refl n.4) y
