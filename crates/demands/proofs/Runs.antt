-- A list of calls is a list of steps of a service's collection, each piece with the memory that the last one left. Assumes nothing.
use Rattle.std.specs.Prelude.{Result, Ok, Err}
use Rattle.refusals.specs.declared.Refusal.{Refusal}
use Prim.Native.Nat.{ℕ, max}
use mathlib.Core.Path.{◌≡◌, refl, sym, ap, subst, ◌∙◌}
use mathlib.Core.Bool.{Bool, true, false}
use mathlib.Core.List.{List, [], ◌∷◌, ◌++◌, Memᴰ}
use Rattle.refusals.specs.Given.{Given}
use Rattle.header.specs.Outer.{outer_of}
use Rattle.pieces.specs.History.{Handed}
use Rattle.pieces.specs.declared.Collection.{Collection}
use Rattle.pieces.proofs.Joining.{Step, State, after, after_all}
use Rattle.receiving.specs.Collect.{is_piece}
use Rattle.node.specs.declared.Node.{Node}
use Rattle.node.specs.declared.ServiceName.{ServiceName}
use Rattle.demands.specs.Calls.{NodeCall, Outcome, outcome_of, OfPieces, a_datagram, no_datagram, pieces_of, node_after}
use Rattle.demands.specs.Collecting.{handed_with, handed_by}
use Rattle.demands.specs.Joining.{IsLent, memory_by, memory_after, Untouched}
use Rattle.demands.proofs.Seats.{Seat, seat_of, collected_at, memory_at, PiecesLeft, pieces_left}
use Rattle.demands.proofs.Steps.{arrival, step_at, step_by, steps_at, state_of, received}
use Rattle.demands.proofs.Handed.{handed_at, here, handed_in_lem, hands_at}

-- ---- at a seat

-- what a call hands in is lent the memory m
abbrev pub Lends : Seat → List ℕ → OfPieces → Type 0
Lends n m c = (h : Handed) → Memᴰ h (hands_at n c) → h.memory ≡ m

module _ (n : Seat) (m : List ℕ) (e : List ℕ) (j time : ℕ) (memory : List ℕ) where
  abbrev y : Step
  y = step_at (max n.latest time) e

  abbrev left : State
  left = record { collection = (collected_at n e j time memory).pieces; memory = memory_at n e j time memory }

  by_handed : (c : Result Unit Refusal) (b : Bool) → left ≡ after_all (state_of n memory) (step_by c b y)
      → ((h : Handed) → Memᴰ h (handed_at c b (here n e j time memory)) → h.memory ≡ m)
      → ◌≡◌ {A = State} (record { collection = left.collection; memory = memory_by (handed_at c b (here n e j time memory)) m left.memory }) (after_all (state_of n m) (step_by c b y))
  by_handed (Ok tt) true s lent = s ∙ ap (λ (l : List ℕ). after (state_of n l) y) (lent (here n e j time memory) (Memᴰ.head refl))
  by_handed (Ok tt) false s lent = ap (λ (t : State). record { collection = t.collection; memory = m }) s
  by_handed (Err r) b s lent = ap (λ (t : State). record { collection = t.collection; memory = m }) s

  -- a datagram is its steps, with its own memory where it hands in a piece
  datagram_steps : Lends n m (a_datagram e j time memory)
      → ◌≡◌ {A = State} (record { collection = left.collection; memory = memory_by (hands_at n (a_datagram e j time memory)) m left.memory }) (after_all (state_of n m) (steps_at n (a_datagram e j time memory)))
  datagram_steps lent = by_handed (arrival n e j memory) (is_piece (outer_of e)) (received n e j time memory) lent

  -- a piece that passes is one step
  module _ (a : arrival n e j memory ≡ Ok tt) (b : is_piece (outer_of e) ≡ true) where
    pub one_step : steps_at n (a_datagram e j time memory) ≡ step_at (max n.latest time) e ∷ []
    one_step = ap (λ (c : Result Unit Refusal). step_by c (is_piece (outer_of e)) y) a ∙ ap (λ (t : Bool). step_by (Ok tt) t y) b

    -- and is lent the memory m
    pub lent_step : Lends n m (a_datagram e j time memory) → memory ≡ m
    lent_step lent =
        let own : hands_at n (a_datagram e j time memory) ≡ here n e j time memory ∷ [] =
        ap (λ (c : Result Unit Refusal). handed_at c (is_piece (outer_of e)) (here n e j time memory)) a ∙ ap (λ (t : Bool). handed_at (Ok tt) t (here n e j time memory)) b in
        lent (here n e j time memory) (subst (λ (hs : List Handed). Memᴰ (here n e j time memory) hs) (sym own) (Memᴰ.head refl))

-- ---- on a node

module _ (v : ServiceName) where
  -- what a call hands in is what it hands in at the seat
  pub handed_by_lem : (n : Node) (x : NodeCall) → handed_by v n x ≡ hands_at (seat_of v n) (pieces_of v x)
  handed_by_lem n x = go (pieces_of v x) (outcome_of n x) (pieces_left v n x)
    where
      go : (c : OfPieces) (o : Outcome) → PiecesLeft v n c o → handed_with n o.given.number c ≡ hands_at (seat_of v n) c
      go (a_datagram e j time memory) o l =
          ap (λ (g : Given). handed_with n g.number (a_datagram e j time memory)) l.0 ∙ handed_in_lem (seat_of v n) e j time memory
      go no_datagram o l = refl

  pub lends : (n : Node) (m : List ℕ) (x : NodeCall) → IsLent v n m x → Lends (seat_of v n) m (pieces_of v x)
  lends n m x lent h i = lent h (subst (λ (hs : List Handed). Memᴰ h hs) (sym (handed_by_lem n x)) i)

  -- the steps of a call
  abbrev pub steps_of : Node → NodeCall → List Step
  steps_of n x = steps_at (seat_of v n) (pieces_of v x)

  -- a call is its steps
  pub steps : (n : Node) (m : List ℕ) (x : NodeCall) → IsLent v n m x
      → state_of (seat_of v (outcome_of n x).node) (memory_after v n m x) ≡ after_all (state_of (seat_of v n) m) (steps_of n x)
  steps n m x lent =
      ap (λ (hs : List Handed). state_of (seat_of v (outcome_of n x).node) (memory_by hs m (outcome_of n x).output)) (handed_by_lem n x)
      ∙ go (pieces_of v x) (outcome_of n x) (pieces_left v n x) (lends n m x lent)
    where
      go : (c : OfPieces) (o : Outcome) → PiecesLeft v n c o → Lends (seat_of v n) m c
          → state_of (seat_of v o.node) (memory_by (hands_at (seat_of v n) c) m o.output) ≡ after_all (state_of (seat_of v n) m) (steps_at (seat_of v n) c)
      go (a_datagram e j time memory) o l lent =
          ap (λ (c : Collection). record { collection = c; memory = memory_by (hands_at (seat_of v n) (a_datagram e j time memory)) m o.output }) l.1
          ∙ ap (λ (w : List ℕ). record { collection = (collected_at (seat_of v n) e j time memory).pieces; memory = memory_by (hands_at (seat_of v n) (a_datagram e j time memory)) m w }) l.2
          ∙ datagram_steps (seat_of v n) m e j time memory lent
      go no_datagram o l lent = ap (λ (c : Collection). record { collection = c; memory = m }) l

  -- the steps of a list of calls
  abbrev pub all_steps : Node → List NodeCall → List Step
  all_steps n [] = []
  all_steps n (x ∷ xs) = steps_of n x ++ all_steps (outcome_of n x).node xs

  -- the memory after a list of calls
  abbrev pub memory_after_all : Node → List ℕ → List NodeCall → List ℕ
  memory_after_all n m [] = m
  memory_after_all n m (x ∷ xs) = memory_after_all (outcome_of n x).node (memory_after v n m x) xs

pub after-append : (s : State) (xs ys : List Step) → after_all s (xs ++ ys) ≡ after_all (after_all s xs) ys
after-append s [] ys = refl
after-append s (x ∷ xs) ys = after-append (after s x) xs ys

pub all_steps_lem : (v : ServiceName) (n : Node) (m : List ℕ) (xs : List NodeCall) → Untouched v n m xs
    → state_of (seat_of v (node_after n xs)) (memory_after_all v n m xs) ≡ after_all (state_of (seat_of v n) m) (all_steps v n xs)
all_steps_lem v n m [] u = refl
all_steps_lem v n m (x ∷ xs) u =
    all_steps_lem v (outcome_of n x).node (memory_after v n m x) xs u.1
    ∙ rw (steps v n m x u.0) (sym (after-append (state_of (seat_of v n) m) (steps_of v n x) (all_steps v (outcome_of n x).node xs)))
