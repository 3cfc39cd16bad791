-- A node whose service is put back: that service is what was put there, the other one stays. Assumes nothing.
use Prim.Native.Nat.{ℕ}
use mathlib.Core.Path.{◌≡◌, refl}
use Rattle.node.specs.Node.{service_of, node_with, raised_to}
use Rattle.node.specs.declared.Node.{Node}
use Rattle.node.specs.declared.Service.{Service}
use Rattle.node.specs.declared.ServiceName.{ServiceName}
use Rattle.node.specs.declared.ServiceName.TheVariants.{First, Second}

-- the service itself
pub put_same : (n : Node) (name : ServiceName) (s : Service) (time : ℕ) → service_of (node_with n name s time) name ≡ s
put_same n First s time = refl
put_same n Second s time = refl

-- where the service is as it was, the latest time alone is raised
pub put-own : (n : Node) (name : ServiceName) (time : ℕ) → node_with n name (service_of n name) time ≡ raised_to n time
unfolding raised_to
put-own n First time = refl
put-own n Second time = refl

-- what is asked of a service is the same of both services, where the one that is put back has it as it was
pub put-kept : {A : Type 0} (f : Service → A) (n : Node) (v : ServiceName) (s : Service) (time : ℕ) → f s ≡ f (service_of n v)
    → (w : ServiceName) → f (service_of (node_with n v s time) w) ≡ f (service_of n w)
put-kept f n First s time e First = e
put-kept f n First s time e Second = refl
put-kept f n Second s time e First = refl
put-kept f n Second s time e Second = e

-- where the latest time alone is raised, both services stay
pub raised-service : (n : Node) (time : ℕ) (w : ServiceName) → service_of (raised_to n time) w ≡ service_of n w
unfolding raised_to
raised-service n time First = refl
raised-service n time Second = refl
