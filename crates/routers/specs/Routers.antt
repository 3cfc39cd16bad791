-- R2.13, R13: what the calls of the router list give.
use Rattle.std.specs.Prelude.{ℕ, List, [], ◌∷◌, map, Bool, true, cond, not, ◌&&◌, take, ltb, leb, eqb, Option, Some, None}
use Rattle.lists.specs.Any.{any_of}
use Rattle.routers.specs.declared.Router.{Router}
use Rattle.routers.specs.declared.RouterList.{RouterList}

-- the routers that a row of addresses and a row of due times hold, place by place
abbrev pub pairs : List ℕ → List ℕ → List Router
pairs [] dues = []
pairs (a ∷ bs) [] = []
pairs (a ∷ bs) (d ∷ ds) = record { address = a; due = d } ∷ pairs bs ds

-- the routers of the first n places
abbrev pub held_in : List ℕ → List ℕ → ℕ → List Router
held_in addresses dues n = take n (pairs addresses dues)

-- what stands at the places of a list, in force or behind the count
abbrev pub places_of : RouterList → List Router
places_of l = pairs l.addresses l.dues

-- R2.4: the routers of a list are the first `count` of its places, all 16 if `count` is larger
abbrev pub live : RouterList → List Router
live l = held_in l.addresses l.dues l.count

-- R5.12: a listed router is one whose address is in the list
abbrev pub listed : ℕ → List Router → Bool
listed a rs = any_of (λ r. eqb r.address a) rs

-- R13.3: of two routers the one with the earlier due time, the first on a tie
unfoldable pub earlier_of : Router → Router → Router
earlier_of r s = cond (ltb s.due r.due) s r

-- R13.3: the router with the earliest due time, lowest place on a tie, of a list that begins with r
unfoldable pub earliest : Router → List Router → Router
earliest r [] = r
earliest r (s ∷ rs) = earliest (earlier_of r s) rs

-- R13.3: a router is asked if its due time is not in the future
abbrev pub if_due : ℕ → Router → Option ℕ
if_due now r = cond (leb r.due now) (Some r.address) None

-- R13.3: the router with the earliest due time that is not in the future, lowest place on a tie
unfoldable pub next_of : ℕ → List Router → Option ℕ
next_of now [] = None
next_of now (r ∷ rs) = if_due now (earliest r rs)

-- the due time of the router of that address, and `other` if it is not listed
unfoldable pub due_or : ℕ → ℕ → List Router → ℕ
due_or other a [] = other
due_or other a (r ∷ rs) = cond (eqb r.address a) r.due (due_or other a rs)

-- a router, due at d if it has the address a
unfoldable pub due_if : ℕ → ℕ → Router → Router
due_if a d r = record { address = r.address; due = cond (eqb r.address a) d r.due }

-- R13.5: the due time of the router of address a becomes d
abbrev pub rescheduled : ℕ → ℕ → List Router → List Router
rescheduled a d rs = map (due_if a d) rs

-- R13.5: the row of due times once the due time of the router of address a is d
abbrev pub dues_after : ℕ → ℕ → List ℕ → List ℕ → List ℕ
dues_after a d addresses dues = map (λ r. r.due) (rescheduled a d (pairs addresses dues))

-- R13.5: the due time becomes d at every place of a router list that has the address a, in force or behind the count
abbrev pub rescheduled_of : ℕ → ℕ → RouterList → RouterList
rescheduled_of a d l = record { addresses = l.addresses; dues = dues_after a d l.addresses l.dues; count = l.count }

-- R2.13: a router in both lists keeps its due time, a new one is due now
abbrev pub kept : ℕ → List Router → ℕ → ℕ
kept now old a = due_or now a old

-- R2.13: the router list replaced, with a time; a count above 16 is read as 16, here as everywhere
abbrev pub replaced_of : List ℕ → ℕ → ℕ → RouterList → RouterList
replaced_of addresses n now l = record { addresses = addresses; dues = map (kept now (live l)) addresses; count = n }

-- R2.12: at setup all are due at time 0
abbrev pub new_of : List ℕ → ℕ → RouterList
new_of addresses n = record { addresses = addresses; dues = map (λ a. 0) addresses; count = n }

-- the address is among the addresses
abbrev pub among : ℕ → List ℕ → Bool
among a bs = any_of (λ b. eqb b a) bs

-- R2.4: routers are distinct
unfoldable pub are_distinct : List ℕ → Bool
are_distinct [] = true
are_distinct (a ∷ bs) = not (among a bs) && are_distinct bs
