-- R12.6: a sender is any choice of sendings with one neighbour. What it meets, and what it heeds.
use Rattle.std.specs.Prelude.{ℕ, suc, ◌≤◌, List, [], ◌∷◌}

-- what a call is to a sender
pub data Event : Type 0 where
  -- a packet of its own, of n bytes, answered Too Big with a size
  told : ℕ → ℕ → Event
  -- a packet of its own, of n bytes, answered otherwise
  passed : ℕ → Event
  -- an accepted report of its neighbour
  lowered : Event
  -- anything else
  nothing : Event

-- n is at most the smallest of the sizes
abbrev pub AtMostAll : ℕ → List ℕ → Type 0
AtMostAll n [] = Unit {0}
AtMostAll n (m ∷ ms) = (n ≤ m) × AtMostAll n ms

-- it never offers more than the smallest size that a Too Big has named to it, where ms were named before
abbrev pub Heeds : List ℕ → List Event → Type 0
Heeds ms [] = Unit {0}
Heeds ms (told n m ∷ h) = AtMostAll n ms × Heeds (m ∷ ms) h
Heeds ms (passed n ∷ h) = AtMostAll n ms × Heeds ms h
Heeds ms (lowered ∷ h) = Heeds ms h
Heeds ms (nothing ∷ h) = Heeds ms h

-- the Too Big answers of a sender
abbrev pub too_bigs : List Event → ℕ
too_bigs [] = 0
too_bigs (told n m ∷ h) = suc (too_bigs h)
too_bigs (passed n ∷ h) = too_bigs h
too_bigs (lowered ∷ h) = too_bigs h
too_bigs (nothing ∷ h) = too_bigs h

-- the accepted reports for its neighbour
abbrev pub reports : List Event → ℕ
reports [] = 0
reports (told n m ∷ h) = reports h
reports (passed n ∷ h) = reports h
reports (lowered ∷ h) = suc (reports h)
reports (nothing ∷ h) = reports h

-- from its first packet on
abbrev pub from_first : List Event → List Event
from_first [] = []
from_first (told n m ∷ h) = told n m ∷ h
from_first (passed n ∷ h) = passed n ∷ h
from_first (lowered ∷ h) = from_first h
from_first (nothing ∷ h) = from_first h

-- if it heeds, it gets at most one Too Big more than the accepted reports for its neighbour since its first packet
abbrev pub Bound : List Event → Type 0
Bound h = Heeds [] h → too_bigs h ≤ suc (reports (from_first h))
