-- R13.6: which routers are served, over any list of calls that leaves the router list unchanged.
use Rattle.std.specs.Prelude.{Option, Some, None}
use Prim.Native.Nat.{ℕ, ◌+◌, ◌≤◌, max}
use mathlib.Core.Path.{◌≡◌}
use mathlib.Core.List.{List, [], ◌∷◌, ◌++◌, Memᴰ}
use lib.ListN.{length, take}
use Rattle.routers.specs.declared.Router.{Router}
use Rattle.routers.specs.Routers.{next_of, rescheduled}

-- a call, at a time (0 for a call without one): an asking that no number but 22 refuses; an accepted advertisement of the router of an
-- address, which puts it off by so many seconds; any other call, an asking that is refused by another number among them
pub data RouterCall : Type 0 where
  asked : ℕ → RouterCall
  heard : ℕ → ℕ → ℕ → RouterCall
  other : ℕ → RouterCall

-- the answer of an asking names the router; a refused one names none
abbrev pub answer : Option ℕ → List ℕ
answer (Some a) = a ∷ []
answer None = []

-- the due time of the router that is asked becomes d
abbrev pub after_asking : Option ℕ → ℕ → List Router → List Router
after_asking (Some a) d rs = rescheduled a d rs
after_asking None d rs = rs

-- the addresses of the routers that are served, one for each answered asking: v is the interval, t the latest time before the calls
unfoldable pub served : ℕ → ℕ → List Router → List RouterCall → List ℕ
served v t rs [] = []
served v t rs (asked u ∷ cs) =
    let now = max t u in
    let next = next_of now rs in
    answer next ++ served v now (after_asking next (now + v) rs) cs
served v t rs (heard u b x ∷ cs) = served v (max t u) (rescheduled b (max t u + x) rs) cs
served v t rs (other u ∷ cs) = served v (max t u) rs cs

-- no advertisement of the router of address a is accepted, and one of another router puts that one off by the interval at least
unfoldable pub Unheard : ℕ → ℕ → List RouterCall → Type 0
Unheard v a [] = Unit {0}
Unheard v a (asked u ∷ cs) = Unheard v a cs
Unheard v a (heard u b x ∷ cs) = (b ≡ a → ⊥) × (v ≤ x) × Unheard v a cs
Unheard v a (other u ∷ cs) = Unheard v a cs

-- with the list unchanged and no advertisement of its own accepted meanwhile, a due router is served within as many answered askings as
-- there are routers
abbrev pub Fair : Type 0
Fair =
    (interval latest : ℕ) (r : Router) (rs : List Router) (cs : List RouterCall)
    → 1 ≤ interval
    → Memᴰ r rs
    → r.due ≤ latest
    → Unheard interval r.address cs
    → length rs ≤ length (served interval latest rs cs)
    → Memᴰ r.address (take (length rs) (served interval latest rs cs))
