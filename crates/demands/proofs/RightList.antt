-- The test on a new router list passes exactly if the list keeps the rules. Assumes nothing.
use Prim.Native.Nat.{ℕ}
use mathlib.Core.Path.{◌≡◌, refl}
use mathlib.Core.List.{List, [], ◌∷◌, Memᴰ}
use lib.Dec.{eqb}
use lib.ListN.{take}
use Rattle.lists.specs.Any.{Some}
use Rattle.lists.proofs.Decides.{Decides, decides_not, decides_as, decides_eq, decides_le, decides_and, decides_any}
use Rattle.routers.specs.Routers.{among, are_distinct}
use Rattle.settings.specs.Facts.{BadEnd}
use Rattle.settings.specs.Settings.{is_bad_end, are_routers_right}
use Rattle.settings.specs.declared.Settings.{Settings}
use Rattle.settings.proofs.Facts.{decides_bad_end}
use Rattle.demands.specs.Two.{Distinct, RightList}

decides_among : (a : ℕ) (bs : List ℕ) → Decides (among a bs) (Memᴰ a bs)
decides_among a bs =
    decides_as _ (decides_any (λ b. eqb b a) (λ b. b ≡ a) (λ b. decides_eq b a) bs) member (λ m. (a, m, refl))
  where
    member : Some (λ (b : ℕ). b ≡ a) bs → Memᴰ a bs
    member f = rw f.2 at f.1

decides_distinct : (xs : List ℕ) → Decides (are_distinct xs) (Distinct xs)
unfolding are_distinct
decides_distinct [] = record { holds = λ h. tt; passes = λ f. refl }
decides_distinct (a ∷ bs) = decides_and _ _ (decides_not _ (decides_among a bs)) (decides_distinct bs)

pub decides_right : (s : Settings) (addresses : List ℕ) (count : ℕ) → Decides (are_routers_right s addresses count) (RightList s addresses count)
unfolding are_routers_right
decides_right s addresses count =
    let listed = take count addresses in
    decides_as _
    (decides_and _ _ (decides_and _ _ (decides_le count 16) (decides_distinct listed))
    (decides_not _ (decides_any (is_bad_end s) (BadEnd s) (decides_bad_end s) listed)))
    (λ f. record { few = f.0.0; distinct = f.0.1; allowed = f.1 })
    (λ r. ((r.few, r.distinct), r.allowed))
