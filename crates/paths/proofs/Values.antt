-- Values of R12.6, R18.10, R19.5 and R19.6 that go by path sizes alone and are not starred: a link of 1,500 bytes, and neighbour 7.
use Prim.Native.Nat.{ℕ, zero, suc, ◌+◌}
use mathlib.Core.Path.{◌≡◌}
use mathlib.Core.Bool.{true}
use mathlib.Core.List.{List, [], ◌∷◌, map}
use Rattle.paths.specs.Packets.{largest_packet}
use Rattle.paths.specs.Kept.{in_force}
use Rattle.paths.proofs.Calls.{PathCall, clock, report, send, Answer, accepted, not_below, table, history_of, kept_of}
use Rattle.paths.specs.Sender.{Event, Heeds, too_bigs, reports, from_first}
use Rattle.paths.proofs.Events.{events_of}

abbrev answers_to : List PathCall → List Answer
answers_to calls = map (λ (x : PathCall × Answer). x.1) (history_of table largest_packet (λ i. 1500) calls)

abbrev size_toward7 : List PathCall → ℕ
size_toward7 calls = in_force 1500 (kept_of table largest_packet (λ i. 1500) calls 7)

-- a report of each of n other neighbours
abbrev others : ℕ → List PathCall
others zero = []
others (suc n) = report 0 (100 + n) 1400 ∷ others n

-- a sender that heeds what it is told, and is told once more than the one report that is accepted
abbrev told_twice : List Event
told_twice =
    events_of 0 7
    (history_of table largest_packet (λ i. 1500)
    (report 0 7 1499 ∷ send true 0 7 1480 true ∷ report 1 7 1400 ∷ send true 0 7 1479 true ∷ send true 0 7 1380 true ∷ []))

pub record Values : Type 0 where
  -- a later, larger report does not raise the size; an equal one does not renew its age
  pub larger : answers_to (report 0 7 1300 ∷ report 0 7 1300 ∷ report 0 7 1400 ∷ report 0 7 1299 ∷ [])
      ≡ accepted 7 1300 ∷ not_below ∷ not_below ∷ accepted 7 1299 ∷ []
  pub equal : size_toward7 (clock 1000 ∷ report 0 7 1300 ∷ clock 1500 ∷ report 0 7 1300 ∷ clock 1600 ∷ []) ≡ 1500
  -- the 63rd other neighbour leaves a size, the 64th removes it
  pub neighbours : (size_toward7 (report 0 7 1300 ∷ others 63) ≡ 1300) × (size_toward7 (report 0 7 1300 ∷ others 64) ≡ 1500)
  -- the bound of demand 3 is reached: two Too Big answers, one accepted report
  pub reached : (Heeds [] told_twice) × (too_bigs told_twice ≡ 2) × (reports (from_first told_twice) ≡ 1)
