-- What the tests on a router list decide, said over its routers.
use Rattle.std.specs.Prelude.{ℕ, ◌<◌, ◌≤◌, ◌≡◌, length, get_or}
use mathlib.Core.List.{List, ◌∷◌, ◌++◌, Memᴰ}
use Rattle.lists.specs.Any.{Some}
use Rattle.routers.specs.declared.Router.{Router}
use Rattle.routers.specs.Routers.{places_of}
use Rattle.routers.specs.declared.RouterList.{RouterList}

-- R5.12, R15.5: some router of the list has the address
unfoldable pub Listed : ℕ → List Router → Type 0
Listed a rs = Some (λ (r : Router). r.address ≡ a) rs

-- R13.3: the router with the earliest due time that is not in the future, lowest place on a tie
pub record EarliestDue (now : ℕ) (rs : List Router) (a : ℕ) : Type 0 where
  pub front : List Router
  pub router : Router
  pub back : List Router
  pub stands : rs ≡ front ++ router ∷ back
  pub address : router.address ≡ a
  pub due : router.due ≤ now
  -- a router at a lower place is due later, one at a higher place no earlier
  pub lower : (r : Router) → Memᴰ r front → router.due < r.due
  pub higher : (r : Router) → Memᴰ r back → router.due ≤ r.due

-- the due time of each router lies in the future
abbrev pub NoneIsDue : ℕ → List Router → Type 0
NoneIsDue now rs = (r : Router) → Memᴰ r rs → now < r.due

-- what a read past the last place gives
abbrev pub no_router : Router
no_router = record { address = 0; due = 0 }

-- the due time of the router of address a becomes d, and nothing else of the list changes
pub record OnlyDue (before : RouterList) (a d : ℕ) (after : RouterList) : Type 0 where
  pub count : after.count ≡ before.count
  pub places : length (places_of after) ≡ length (places_of before)
  pub addresses : (k : ℕ) → (get_or (places_of after) k no_router).address ≡ (get_or (places_of before) k no_router).address
  pub due : (k : ℕ) → k < length (places_of before) → (get_or (places_of before) k no_router).address ≡ a → (get_or (places_of after) k no_router).due ≡ d
  pub others : (k : ℕ) → ((get_or (places_of before) k no_router).address ≡ a → ⊥)
      → (get_or (places_of after) k no_router).due ≡ (get_or (places_of before) k no_router).due
