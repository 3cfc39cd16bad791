-- Which services a node has, and that a call leaves the one that it does not name as it is. Assumes nothing.
use Rattle.std.specs.Prelude.{Option, None, Some}
use Prim.Native.Nat.{ℕ, zero, suc, ◌<◌}
use mathlib.Core.Path.{◌≡◌, refl, ap}
use native.Mathlib.Omega.{arith}
use borrow.Author.Tests.{ltb-true, lt-ltb}
use Rattle.lists.proofs.Decides.{Decides}
use Rattle.node.specs.Node.{service_of, has_service, node_with}
use Rattle.node.specs.Receive.{receive_of}
use Rattle.node.specs.Send.{send_of}
use Rattle.node.specs.Report.{report_of}
use Rattle.node.specs.RouterList.{replace_of}
use Rattle.node.specs.Ask.{ask_of}
use Rattle.node.specs.Hear.{hear_of}
use Rattle.node.specs.declared.Node.{Node}
use Rattle.node.specs.declared.Service.{Service}
use Rattle.node.specs.declared.ServiceName.{ServiceName}
use Rattle.node.specs.declared.ServiceName.TheVariants.{First, Second}
use Rattle.demands.specs.Two.{Has}
use Rattle.demands.specs.Calls.{NodeCall, receiving, receiving_part, sending, reporting, relisting, asking, hearing, advertising, outcome_of, view_of}

-- a mark for each of the names
abbrev marked : Option ServiceName → ℕ
marked None = 2
marked (Some First) = 0
marked (Some Second) = 1

-- the two names differ, and no name is none of them
pub not_same : Some Second ≡ Some First → ⊥
not_same e = let z : ◌≡◌ {A = ℕ} 1 0 = ap marked e in omega arith

pub not-same-back : Some First ≡ Some Second → ⊥
not-same-back e = let z : ◌≡◌ {A = ℕ} 0 1 = ap marked e in omega arith

pub no_name : (w : ServiceName) → None ≡ Some w → ⊥
no_name First e = let z : ◌≡◌ {A = ℕ} 2 0 = ap marked e in omega arith
no_name Second e = let z : ◌≡◌ {A = ℕ} 2 1 = ap marked e in omega arith

-- ---- the services that there are

pub decides_has : (n : Node) (w : ServiceName) → Decides (has_service n w) (Has n w)
decides_has n First = record { holds = λ h. tt; passes = λ f. refl }
decides_has n Second = record {
  holds = λ h zero. absurd (positive n.both (ltb-true 0 n.both h) zero);
  passes = λ Some. lt-ltb 0 n.both (more n.both Some);
}
  where
    positive : (k : ℕ) → 0 < k → k ≡ 0 → ⊥
    positive k h e = omega arith

    more : (k : ℕ) → (k ≡ 0 → ⊥) → 0 < k
    more zero h = absurd (h refl)
    more (suc k) h = omega arith

-- ---- the one that is not named

put_other : (n : Node) (v : ServiceName) (s : Service) (time : ℕ) (w : ServiceName) → (Some v ≡ Some w → ⊥) → service_of (node_with n v s time) w ≡ service_of n w
put_other n First s time First h = absurd (h refl)
put_other n First s time Second h = refl
put_other n Second s time First h = refl
put_other n Second s time Second h = absurd (h refl)

pub others_left : (n : Node) (x : NodeCall) (w : ServiceName) → ((view_of x).service ≡ Some w → ⊥) → service_of (outcome_of n x).node w ≡ service_of n w
unfolding receive_of send_of report_of replace_of ask_of hear_of
others_left n (receiving v d interface time memory) w h = put_other n v _ time w h
others_left n (receiving_part v d interface) w h = refl
others_left n (sending v packet hop k time out) w h = put_other n v _ time w h
others_left n (reporting m time) w h = refl
others_left n (relisting v addresses count time) w h = put_other n v _ time w h
others_left n (asking v k time out) w h = put_other n v _ time w h
others_left n (hearing v packet time) w h = put_other n v _ time w h
others_left n (advertising v packet k a out) w h = refl
