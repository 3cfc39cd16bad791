-- Neither service sees how the other is set up (R26.9): two lists of calls that differ in what one service was given alone look the same to the
-- other.
use Rattle.std.specs.Prelude.{ℕ, ◌≡◌, ◌⊎◌, true, List, [], ◌∷◌, Option, None, Some}
use Rattle.refusals.specs.Given.{Given}
use Rattle.settings.specs.Settings.{locators_of}
use Rattle.settings.specs.declared.Settings.{Settings}
use Rattle.node.specs.Node.{pick}
use Rattle.node.specs.Size.{path_size_of}
use Rattle.node.specs.declared.Node.{Node}
use Rattle.node.specs.declared.ServiceName.{ServiceName}
use Rattle.node.specs.declared.ServiceName.TheVariants.{First, Second}
use Rattle.demands.specs.Starts.{Start, is_right, start_of, settings_of}
use Rattle.demands.specs.Calls.{NodeCall, Outcome, outcome_of, if_same, view_of, node_after}

-- the service beside
abbrev pub beside : ServiceName → ServiceName
beside w = pick w Second First

-- settings with the same locators and link size: routers, prefixes and first identification may differ, and all else
pub record SeenAlike (a b : Settings) : Type 0 where
  pub locators : locators_of a ≡ locators_of b
  pub link_size : a.link_size ≡ b.link_size

-- neither is there, or both are and are seen alike
abbrev pub BothAlike : Option Settings → Option Settings → Type 0
BothAlike None None = Unit {0}
BothAlike None (Some b) = ⊥
BothAlike (Some a) None = ⊥
BothAlike (Some a) (Some b) = SeenAlike a b

-- settings that differ in those of the service x alone
pub record AlikeBut (x : ServiceName) (s t : Start) : Type 0 where
  pub its : BothAlike (settings_of s x) (settings_of t x)
  pub others : settings_of s (beside x) ≡ settings_of t (beside x)

-- the same call; or two calls of the service x with one time, whatever else they are: new router lists among them
abbrev pub AlikeCall : ServiceName → NodeCall → NodeCall → Type 0
AlikeCall x c d = (c ≡ d) ⊎ (((view_of c).service ≡ Some x) × ((view_of d).service ≡ Some x) × ((view_of c).time ≡ (view_of d).time))

-- lists of such calls, one by one
abbrev pub AlikeCalls : ServiceName → List NodeCall → List NodeCall → Type 0
AlikeCalls x [] [] = Unit {0}
AlikeCalls x [] (d ∷ ds) = ⊥
AlikeCalls x (c ∷ cs) [] = ⊥
AlikeCalls x (c ∷ cs) (d ∷ ds) = AlikeCall x c d × AlikeCalls x cs ds

-- what is seen of a call: number and values, and the bytes of the output or memory lent to it
pub record Seen : Type 0 where
  pub given : Given
  pub output : List ℕ

-- what is seen of a call that names that service, or none, by who does not use the service x
abbrev pub seen_beside : ServiceName → Option ServiceName → Outcome → Option Seen
seen_beside x None o = Some (record { given = o.given; output = o.output })
seen_beside x (Some w) o = if_same x w None (Some (record { given = o.given; output = o.output }))

-- what is seen so of a list of calls
abbrev pub run_beside : ServiceName → Node → List NodeCall → List (Option Seen)
run_beside x n [] = []
run_beside x n (c ∷ cs) = seen_beside x (view_of c).service (outcome_of n c) ∷ run_beside x (outcome_of n c).node cs

-- every call of the service beside x, and every report, is seen alike in both lists; and so are its path sizes after them
pub record LooksTheSame (x : ServiceName) (s t : Start) (cs ds : List NodeCall) : Type 0 where
  pub calls : run_beside x (start_of s) cs ≡ run_beside x (start_of t) ds
  pub sizes : (v : ℕ) → path_size_of (node_after (start_of s) cs) (beside x) v ≡ path_size_of (node_after (start_of t) ds) (beside x) v

-- for all accepted settings that differ in those of one service alone, and all lists of calls that differ in its calls alone
unfoldable pub NonInterference : Type 0
NonInterference =
    (x : ServiceName) (s t : Start) → is_right s ≡ true → is_right t ≡ true → AlikeBut x s t
    → (cs ds : List NodeCall) → AlikeCalls x cs ds → LooksTheSame x s t cs ds
