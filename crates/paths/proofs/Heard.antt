-- What is nothing to a sender changes no bound: two lists of events that differ by `nothing` alone are bounded alike.
use mathlib.Core.Path.{◌≡◌, refl, ap}
use mathlib.Core.List.{List, [], ◌∷◌}
use Prim.Native.Nat.{ℕ, suc}
use Rattle.paths.specs.Sender.{Event, told, passed, lowered, nothing, Heeds, too_bigs, reports, from_first, Bound}

-- the events that are something to the sender
abbrev pub heard : List Event → List Event
heard [] = []
heard (told n m ∷ h) = told n m ∷ heard h
heard (passed n ∷ h) = passed n ∷ heard h
heard (lowered ∷ h) = lowered ∷ heard h
heard (nothing ∷ h) = heard h

too_bigs-heard : (h : List Event) → too_bigs (heard h) ≡ too_bigs h
too_bigs-heard [] = refl
too_bigs-heard (told n m ∷ h) = ap suc (too_bigs-heard h)
too_bigs-heard (passed n ∷ h) = too_bigs-heard h
too_bigs-heard (lowered ∷ h) = too_bigs-heard h
too_bigs-heard (nothing ∷ h) = too_bigs-heard h

reports-heard : (h : List Event) → reports (heard h) ≡ reports h
reports-heard [] = refl
reports-heard (told n m ∷ h) = reports-heard h
reports-heard (passed n ∷ h) = reports-heard h
reports-heard (lowered ∷ h) = ap suc (reports-heard h)
reports-heard (nothing ∷ h) = reports-heard h

from_first-heard : (h : List Event) → reports (from_first (heard h)) ≡ reports (from_first h)
from_first-heard [] = refl
from_first-heard (told n m ∷ h) = reports-heard h
from_first-heard (passed n ∷ h) = reports-heard h
from_first-heard (lowered ∷ h) = from_first-heard h
from_first-heard (nothing ∷ h) = from_first-heard h

heeds_heard : (h : List Event) (ms : List ℕ) → Heeds ms (heard h) ≡ Heeds ms h
heeds_heard [] ms = refl
heeds_heard (told n m ∷ h) ms = rw (heeds_heard h (m ∷ ms))
heeds_heard (passed n ∷ h) ms = rw (heeds_heard h ms)
heeds_heard (lowered ∷ h) ms = heeds_heard h ms
heeds_heard (nothing ∷ h) ms = heeds_heard h ms

bound_is-heard : (h : List Event) → Bound (heard h) ≡ Bound h
bound_is-heard h = rw (heeds_heard h [], too_bigs-heard h, from_first-heard h)

pub bound_heard : (h k : List Event) → heard h ≡ heard k → Bound h → Bound k
bound_heard h k e b = rw (← bound_is-heard k, ← e, bound_is-heard h) b
