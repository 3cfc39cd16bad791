-- Each call of the node is at most one step of a service's collection: a piece that passes 11, 15, 2, 3, 4, 6, 7 and is handed in for the number.
-- Assumes nothing.
use Rattle.std.specs.Prelude.{Result, Ok, Err}
use Prim.Native.Nat.{ℕ, max}
use mathlib.Core.Path.{◌≡◌, refl, ap, ◌∙◌}
use mathlib.Core.Bool.{Bool, true, false, cond, not}
use mathlib.Core.List.{List, [], ◌∷◌, ◌++◌}
use lib.ListN.{length}
use Rattle.refusals.specs.Refusals.{first_of, stop_or}
use Rattle.refusals.proofs.Laws.{stop_append}
use Rattle.refusals.specs.declared.Refusal.{Refusal}
use Rattle.refusals.specs.declared.Refusal.TheVariants.{NoLocator}
use Rattle.header.specs.Fields.{quad_at}
use Rattle.header.specs.Outer.{outer_of, payload_of}
use Rattle.header.specs.Inner.{inner_of}
use Rattle.settings.specs.declared.Settings.{Settings}
use Rattle.routers.specs.Routers.{live, listed}
use Rattle.routers.specs.declared.Router.{Router}
use Rattle.pieces.specs.declared.Collection.{Collection}
use Rattle.pieces.proofs.Joining.{Step, State, answer, after, after_all}
use Rattle.receiving.specs.Collect.{Collected, arrival_rows, whole_of, is_piece, piece_of, joined_by, taken_piece, taken_memory, fragment_of, fragment_memory, collected_of, collected_memory}
use Rattle.receiving.specs.Facts.{header_length, encapsulated, inner_length}
use Rattle.receiving.specs.Receive.{inner_rows}
use Rattle.receiving.specs.declared.Received.{Received}
use Rattle.receiving.specs.declared.Received.TheVariants.{Delivered}
use Rattle.node.specs.Receive.{collected_by, collected_through}
use Rattle.demands.specs.Calls.{OfPieces, a_datagram, no_datagram}
use Rattle.demands.specs.Collecting.{key_of, part_in}
use Rattle.demands.proofs.Seats.{Seat, collected_at, memory_at}

-- 11, 15, 2, 3, 4, 6, 7 of a datagram, by whether the service is there
abbrev arrives_at : Bool → Seat → List ℕ → ℕ → List ℕ → List (Bool × Refusal)
arrives_at there n e interface memory = (not there, NoLocator) ∷ arrival_rows n.service.settings interface (length memory) e (outer_of e)

abbrev pub arrivals : Seat → List ℕ → ℕ → List ℕ → List (Bool × Refusal)
arrivals n e interface memory = arrives_at n.there n e interface memory

-- the first of them
abbrev pub arrival : Seat → List ℕ → ℕ → List ℕ → Result Unit Refusal
arrival n e interface memory = first_of (arrivals n e interface memory)

-- the step that a piece is at a time
abbrev pub step_at : ℕ → List ℕ → Step
step_at now e = record { key = key_of e; piece = part_in e; time = now }

-- one step where the check passes and it is a piece
abbrev pub step_by : Result Unit Refusal → Bool → Step → List Step
step_by (Ok tt) true x = x ∷ []
step_by (Ok tt) false x = []
step_by (Err r) b x = []

-- the steps that a call is, by what it is to the collection
abbrev pub steps_at : Seat → OfPieces → List Step
steps_at n (a_datagram e interface time memory) =
    step_by (arrival n e interface memory) (is_piece (outer_of e)) (step_at (max n.latest time) e)
steps_at n no_datagram = []

-- what is collected there, with the memory m
abbrev pub state_of : Seat → List ℕ → State
state_of n m = record { collection = n.service.pieces; memory = m }

-- what comes of a piece that passes is a step
module _ (n : Seat) (e : List ℕ) (now : ℕ) (memory : List ℕ) where
  abbrev pub judge : Settings
  judge = n.service.settings

  abbrev pub routers : List Router
  routers = live n.service.routers

  taken-collection : (taken_piece judge routers n.service.pieces now e (outer_of e) memory).pieces ≡ (after (state_of n memory) (step_at now e)).collection
  unfolding taken_piece piece_of outer_of payload_of
  taken-collection = refl

  taken_memory_lem : taken_memory n.service.pieces now e (outer_of e) memory ≡ (after (state_of n memory) (step_at now e)).memory
  unfolding taken_memory piece_of outer_of payload_of
  taken_memory_lem = refl

  pub taken-answer : (taken_piece judge routers n.service.pieces now e (outer_of e) memory).answer
      ≡ joined_by judge routers (quad_at e 12) (answer (state_of n memory) (step_at now e)) (after (state_of n memory) (step_at now e)).memory
  unfolding taken_piece piece_of outer_of payload_of
  taken-answer = refl

-- what a check leaves, and what a step does
by_check : (c : Result Unit Refusal) (b : Bool) (s : State) (x : Step) (f g : Collected) (m : List ℕ) → f.pieces ≡ (after s x).collection → g.pieces ≡ s.collection → m ≡ (after s x).memory
    → ◌≡◌ {A = State}
    (record {
      collection = (cond b (stop_or (λ (r : Refusal). record { answer = Err r; pieces = s.collection }) c f) g).pieces;
      memory = cond b (stop_or (λ (r : Refusal). s.memory) c m) s.memory;
    })
    (after_all s (step_by c b x))
by_check (Ok tt) true s x f g m e h k = rw (e, k)
by_check (Ok tt) false s x f g m e h k = rw h
by_check (Err r) true s x f g m e h k = refl
by_check (Err r) false s x f g m e h k = rw h

-- rows that stop, or pass, before others
rows_stop : (xs ys : List (Bool × Refusal)) (a : Result Received Refusal) (r : Refusal) → first_of xs ≡ Err r → stop_or Err (first_of (xs ++ ys)) a ≡ Err r
rows_stop xs ys a r h = stop_append Err xs ys a ∙ ap (λ (c : Result Unit Refusal). stop_or Err c (stop_or Err (first_of ys) a)) h

rows_pass : (xs ys : List (Bool × Refusal)) (a : Result Received Refusal) → first_of xs ≡ Ok tt → stop_or Err (first_of (xs ++ ys)) a ≡ stop_or Err (first_of ys) a
rows_pass xs ys a h = stop_append Err xs ys a ∙ ap (λ (c : Result Unit Refusal). stop_or Err c (stop_or Err (first_of ys) a)) h

-- 8 to 10 of the payload p, from an outer source
abbrev pub inward_rows : Seat → ℕ → List ℕ → List (Bool × Refusal)
inward_rows n source p = inner_rows n.service.settings (listed source (live n.service.routers)) source (length p) (inner_of p)

-- the first of them
abbrev pub inward : Seat → ℕ → List ℕ → Result Unit Refusal
inward n source p = first_of (inward_rows n source p)

module _ (n : Seat) (e : List ℕ) (interface : ℕ) (memory : List ℕ) where
  whole-rows : whole_of n.service.settings (live n.service.routers) (length memory) e interface
      ≡ stop_or Err
      (first_of (arrival_rows n.service.settings interface (length memory) e (outer_of e)
      ++ inward_rows n (quad_at e 12) (encapsulated e)))
      (Ok (Delivered (header_length e) (inner_length (encapsulated e))))
  unfolding whole_of outer_of payload_of inner_of
  whole-rows = refl

  whole_stop : (r : Refusal) → first_of (arrival_rows n.service.settings interface (length memory) e (outer_of e)) ≡ Err r → whole_of n.service.settings (live n.service.routers) (length memory) e interface ≡ Err r
  whole_stop r h = whole-rows ∙ rows_stop (arrival_rows n.service.settings interface (length memory) e (outer_of e)) (inward_rows n (quad_at e 12) (encapsulated e)) (Ok (Delivered (header_length e) (inner_length (encapsulated e)))) r h

  whole_pass : first_of (arrival_rows n.service.settings interface (length memory) e (outer_of e)) ≡ Ok tt
      → whole_of n.service.settings (live n.service.routers) (length memory) e interface ≡ stop_or Err (inward n (quad_at e 12) (encapsulated e)) (Ok (Delivered (header_length e) (inner_length (encapsulated e))))
  whole_pass h = whole-rows ∙ rows_pass (arrival_rows n.service.settings interface (length memory) e (outer_of e)) (inward_rows n (quad_at e 12) (encapsulated e)) (Ok (Delivered (header_length e) (inner_length (encapsulated e)))) h

-- a datagram that is handed in for the number
module _ (n : Seat) (e : List ℕ) (interface time : ℕ) (memory : List ℕ) where
  abbrev now : ℕ
  now = max n.latest time

  abbrev x : Step
  x = step_at now e

  abbrev came : Bool → Collected
  came there = collected_by there n.service now e interface memory

  pub received : ◌≡◌ {A = State} (record { collection = (collected_at n e interface time memory).pieces; memory = memory_at n e interface time memory })
      (after_all (state_of n memory) (steps_at n (a_datagram e interface time memory)))
  unfolding collected_by collected_through collected_of collected_memory fragment_of fragment_memory
  received = go n.there
    where
      go : (there : Bool)
          → ◌≡◌ {A = State} (record { collection = (came there).pieces; memory = collected_through there n.service now e interface memory })
          (after_all (state_of n memory) (step_by (first_of (arrives_at there n e interface memory)) (is_piece (outer_of e)) x))
      go true =
          by_check (first_of (arrival_rows n.service.settings interface (length memory) e (outer_of e))) (is_piece (outer_of e)) (state_of n memory) x _ _ _
          (taken-collection n e now memory) refl (taken_memory_lem n e now memory)
      go false = refl

  -- a number of the arrival is the answer, of a whole datagram and of a piece
  by_stop : (b : Bool) (c : Result Unit Refusal) (r : Refusal) (f : Collected) (p : Collection) (a : Result Received Refusal) → c ≡ Err r → a ≡ Err r
      → (cond b (stop_or (λ (q : Refusal). record { answer = Err q; pieces = p }) c f) (record { answer = a; pieces = p })).answer ≡ Err r
  by_stop true c r f p a e h = rw e
  by_stop false c r f p a e h = h

  pub stopped : (r : Refusal) → arrival n e interface memory ≡ Err r → (collected_at n e interface time memory).answer ≡ Err r
  unfolding collected_by collected_of fragment_of
  stopped r h = go n.there h
    where
      go : (there : Bool) → first_of (arrives_at there n e interface memory) ≡ Err r → (came there).answer ≡ Err r
      go true h =
          by_stop (is_piece (outer_of e)) (first_of (arrival_rows n.service.settings interface (length memory) e (outer_of e))) r _ n.service.pieces _ h
          (whole_stop n e interface memory r h)
      go false h = ap (λ (c : Result Unit Refusal). stop_or Err c (Err NoLocator)) h

  -- a piece that passes is answered by the step
  pub answered_step : arrival n e interface memory ≡ Ok tt → is_piece (outer_of e) ≡ true
      → (collected_at n e interface time memory).answer
      ≡ joined_by n.service.settings (live n.service.routers) (quad_at e 12) (answer (state_of n memory) (step_at (max n.latest time) e)) (after (state_of n memory) (step_at (max n.latest time) e)).memory
  unfolding collected_by collected_of fragment_of
  answered_step h b = go n.there h
    where
      go : (there : Bool) → first_of (arrives_at there n e interface memory) ≡ Ok tt
          → (came there).answer ≡ joined_by n.service.settings (live n.service.routers) (quad_at e 12) (answer (state_of n memory) x) (after (state_of n memory) x).memory
      go true h = rw (b, h) (taken-answer n e now memory)
      go false h = cc

  -- a whole datagram that passes is judged by 8 to 10
  pub answered-whole : arrival n e interface memory ≡ Ok tt → is_piece (outer_of e) ≡ false
      → (collected_at n e interface time memory).answer ≡ stop_or Err (inward n (quad_at e 12) (encapsulated e)) (Ok (Delivered (header_length e) (inner_length (encapsulated e))))
  unfolding collected_by collected_of
  answered-whole h b = go n.there h
    where
      go : (there : Bool) → first_of (arrives_at there n e interface memory) ≡ Ok tt
          → (came there).answer ≡ stop_or Err (inward n (quad_at e 12) (encapsulated e)) (Ok (Delivered (header_length e) (inner_length (encapsulated e))))
      go true h = rw b (whole_pass n e interface memory h)
      go false h = cc
