-- The tests on a router list pass exactly if the facts hold. Assumes nothing.
use Prim.Native.Nat.{ℕ}
use mathlib.Core.Path.{◌≡◌}
use mathlib.Core.List.{List}
use lib.Dec.{eqb}
use Rattle.lists.proofs.Decides.{Decides, decides_eq, decides_any}
use Rattle.routers.specs.declared.Router.{Router}
use Rattle.routers.specs.Routers.{listed}
use Rattle.routers.specs.Facts.{Listed}

pub decides_listed : (a : ℕ) (rs : List Router) → Decides (listed a rs) (Listed a rs)
unfolding Listed
decides_listed a rs = decides_any (λ r. eqb r.address a) (λ r. r.address ≡ a) (λ r. decides_eq r.address a) rs
