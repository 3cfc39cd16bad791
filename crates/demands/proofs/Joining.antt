-- The pieces of one cutting join, through each service of every node that grew from accepted settings. Assumes nothing.
use Rattle.std.specs.Prelude.{Result, Ok, Err}
use Prim.Native.Nat.{ℕ, suc, ◌+◌, ◌-◌, ◌*◌, ◌≤◌, ◌<◌, max}
use mathlib.Core.Path.{◌≡◌, refl, sym, ap, subst, ◌∙◌}
use mathlib.Core.Logic.{inr}
use mathlib.Core.Bool.{Bool, true, false, cond, not, true≢false}
use mathlib.Core.List.{List, [], ◌∷◌, ◌++◌, map, append_assoc, Memᴰ}
use native.Mathlib.Omega.{arith}
use borrow.Author.Tests.{eq-eqb, ltb-true}
use lib.Dec.{eqb, ltb}
use lib.ListN.{length, take, drop, length-drop}
use lib.Seq.{take-take, length-take-le}
use Rattle.lists.specs.Any.{first_with, Some}
use Rattle.lists.specs.Parts.{part}
use Rattle.lists.proofs.Parts.{drop-take}
use Rattle.lists.proofs.Tests.{and_left, and_right}
use Rattle.lists.proofs.Decides.{refutes}
use Rattle.refusals.specs.Refusals.{number_of, stop_or}
use Rattle.refusals.proofs.Laws.{all_false}
use Rattle.refusals.specs.declared.Refusal.{Refusal}
use Rattle.header.specs.Fields.{quad_at}
use Rattle.header.specs.Outer.{outer_of}
use Rattle.header.specs.Inner.{inner_of}
use Rattle.routers.specs.Routers.{live}
use Rattle.settings.specs.declared.Settings.{Settings}
use Rattle.pieces.specs.Places.{Part, room, is_of, is_live}
use Rattle.pieces.specs.declared.Collection.{Collection}
use Rattle.pieces.specs.declared.Key.{Key}
use Rattle.pieces.specs.declared.Place.{Place}
use Rattle.pieces.specs.declared.Joined as taken
use Rattle.pieces.proofs.Joining as pieces
use Rattle.pieces.proofs.Joining.{Step, State, answer, after, after_all, In, under}
use Rattle.pieces.proofs.Holds.{pieces_join}
use Rattle.pieces.proofs.History.{kept-grown}
use Rattle.pieces.proofs.Keys.{of_live, of-key}
use Rattle.receiving.specs.Collect.{is_piece, joined_by}
use Rattle.receiving.specs.Facts.{header_length, total_length, encapsulated, inner_length}
use Rattle.receiving.specs.Receive.{received_given}
use Rattle.receiving.proofs.Facts.{decides_piece, inner-whole-bytes}
use Rattle.receiving.specs.declared.Received.{Received}
use Rattle.receiving.specs.declared.Received.TheVariants.{Delivered, Joined}
use Rattle.node.specs.Node.{service_of}
use Rattle.node.specs.Receive.{receive_of, receive_memory}
use Rattle.node.specs.declared.Node.{Node}
use Rattle.node.specs.declared.ServiceName.{ServiceName}
use Rattle.node.specs.declared.ServiceName.TheVariants.{First, Second}
use Rattle.demands.specs.Starts.{Start, is_right, start_of}
use Rattle.demands.specs.Calls.{NodeCall, receiving, outcome_of, OfPieces, a_datagram, pieces_of, node_after}
use Rattle.demands.specs.Cuttings.{Cutting, Repeats}
use Rattle.demands.specs.Joining.{Hands, IsOne, memory_after, Untouched, AtEach, NotForeign, Admitted, NoneLive, Arrive, WaitsOr, bytes_by, number_by, GetsTheWhole, PiecesJoin}
use Rattle.demands.specs.Collecting.{key_of, part_in, handed_in, CollectedByHistory}
use Rattle.demands.proofs.Left.{settings-kept, both-kept, has_kept}
use Rattle.demands.proofs.PieceOf.{is_same_lem, runs_on, same-payloads, in_parts, parts_in}
use Rattle.demands.proofs.Seats.{Seat, seat_of, collected_at}
use Rattle.demands.proofs.Steps.{arrival, step_at, steps_at, state_of, inward_rows, inward, stopped, answered_step, answered-whole, received}
use Rattle.demands.proofs.Handed.{number}
use Rattle.demands.proofs.Runs.{Lends, one_step, lent_step, lends, steps_of, all_steps, memory_after_all, after-append, all_steps_lem}
use Rattle.demands.proofs.Collecting.{collected_by_history}
use Rattle.demands.proofs.Arrivals.{judge_of, onward, onward_there, goes_onward, onward_number, one_key, one_piece, one-memory, one-arrival, one_stops}
use Rattle.demands.proofs.Lift.{judge-next, Gives, gives, arrives, Admits, admits, all-admitted, handing, came, waits, back}

-- each service of a node that grew from settings has eight places
grown_eight : (s : Start) → is_right s ≡ true → (v : ServiceName) (before : List NodeCall) → length (service_of (node_after (start_of s) before) v).pieces.places ≡ 8
unfolding CollectedByHistory
grown_eight s right v before =
    ap (λ (c : Collection). length c.places) (collected_by_history s right v before) ∙ (kept-grown (handed_in v (start_of s) before)).eight

-- ---- lists of calls one behind another

at_front : (F : Node → NodeCall → Type 0) (n : Node) (xs ys : List NodeCall) → AtEach F n (xs ++ ys) → AtEach F n xs
at_front F n [] ys h = tt
at_front F n (x ∷ xs) ys h = (h.0, at_front F (outcome_of n x).node xs ys h.1)

at_back : (F : Node → NodeCall → Type 0) (n : Node) (xs ys : List NodeCall) → AtEach F n (xs ++ ys) → AtEach F (node_after n xs) ys
at_back F n [] ys h = h
at_back F n (x ∷ xs) ys h = at_back F (outcome_of n x).node xs ys h.1

module _ (v : ServiceName) where
  untouched-front : (n : Node) (m : List ℕ) (xs ys : List NodeCall) → Untouched v n m (xs ++ ys) → Untouched v n m xs
  untouched-front n m [] ys u = tt
  untouched-front n m (x ∷ xs) ys u = (u.0, untouched-front (outcome_of n x).node (memory_after v n m x) xs ys u.1)

  untouched-back : (n : Node) (m : List ℕ) (xs ys : List NodeCall) → Untouched v n m (xs ++ ys) → Untouched v (node_after n xs) (memory_after_all v n m xs) ys
  untouched-back n m [] ys u = u
  untouched-back n m (x ∷ xs) ys u = untouched-back (outcome_of n x).node (memory_after v n m x) xs ys u.1

  steps_append : (n : Node) (xs ys : List NodeCall) → all_steps v n (xs ++ ys) ≡ all_steps v n xs ++ all_steps v (node_after n xs) ys
  steps_append n [] ys = refl
  steps_append n (x ∷ xs) ys =
      ap (λ (l : List Step). steps_of v n x ++ l) (steps_append (outcome_of n x).node xs ys)
      ∙ sym (append_assoc (steps_of v n x) (all_steps v (outcome_of n x).node xs) (all_steps v (node_after (outcome_of n x).node xs) ys))

-- a call that names the service hands its datagram in to it
pub own-call : (v : ServiceName) (e : List ℕ) (i t : ℕ) (m : List ℕ) → pieces_of v (receiving v e i t m) ≡ a_datagram e i t m
own-call First e i t m = refl
own-call Second e i t m = refl

-- ---- the verdict on the joined payload and on the whole datagram

same_number : (c : Result Unit Refusal) (o h l : ℕ) → (received_given (stop_or Err c (Ok (Joined o l)))).number ≡ (received_given (stop_or Err c (Ok (Delivered h l)))).number
same_number (Ok tt) o h l = refl
same_number (Err r) o h l = refl

same_bytes : (c : Result Unit Refusal) (o h l : ℕ) (f d memory other : List ℕ) → (c ≡ Ok tt → part o l memory ≡ part h l d)
    → bytes_by (stop_or Err c (Ok (Joined o l))) f memory ≡ bytes_by (stop_or Err c (Ok (Delivered h l))) d other
same_bytes (Ok tt) o h l f d memory other e = e refl
same_bytes (Err r) o h l f d memory other e = refl

-- a part of the payload, in the memory and in the datagram
same-part : (o h t l : ℕ) (memory d : List ℕ) → h ≤ t → t ≤ length d → part o (length (drop h (take t d))) memory ≡ drop h (take t d) → l ≤ length (drop h (take t d))
    → part o l memory ≡ part h l d
same-part o h t l memory d ht td e within =
    let size : length (drop h (take t d)) ≡ t - h = length-drop h (take t d) ∙ ap (λ (k : ℕ). k - h) (length-take-le t d td) in
    sym (take-take l (length (drop h (take t d))) (drop o memory) within)
    ∙ ap (take l) (e ∙ drop-take h t d ht (omega arith))
    ∙ take-take l (t - h) (drop h d) (omega (arith, size))

inner-length : (p : List ℕ) → (inner_of p).length ≡ inner_length p
unfolding inner_of
inner-length p = refl

-- ---- no live datagram has the key

live-used : (now : ℕ) (c : Place) → is_live now c ≡ true → (c.used ≡ 0 → ⊥) × (now < c.first + 30)
unfolding is_live
live-used now c h =
    let a : not (eqb c.used 0) ≡ true = and_left (not (eqb c.used 0)) (ltb now (c.first + 30)) h in
    let b : ltb now (c.first + 30) ≡ true = and_right (not (eqb c.used 0)) (ltb now (c.first + 30)) h in
    (λ z. true≢false (sym a ∙ ap not (eq-eqb c.used 0 z)), ltb-true now (c.first + 30) b)

first-none : {A : Type 0} (t : A → Bool) (xs : List A) → ((a : A) → Memᴰ a xs → t a ≡ true → ⊥) → first_with t xs ≡ length xs
first-none t [] h = refl
first-none t (x ∷ xs) h = go (t x) refl (first-none t xs (λ a i. h a (Memᴰ.tail i)))
  where
    go : (b : Bool) → t x ≡ b → first_with t xs ≡ length xs → cond b 0 (suc (first_with t xs)) ≡ suc (length xs)
    go true e rest = absurd (h x (Memᴰ.head refl) e)
    go false e rest = ap suc rest

none-live : (v : ServiceName) (d : List ℕ) (i : ℕ) (ps : List (List ℕ)) (n : Node) (now : ℕ) → NoneLive v i d ps n now
    → first_with (is_of (key_of d) now) (service_of n v).pieces.places ≡ length (service_of n v).pieces.places
none-live v d i ps n now none =
    first-none (is_of (key_of d) now) (service_of n v).pieces.places
    (λ c here h.
    let k : key_of d ≡ c.key = of-key (key_of d) now c h in
    let l = live-used now c (of_live (key_of d) now c h) in
    none c here
    (record {
      source = sym (ap (λ (x : Key). x.source) k);
      destination = sym (ap (λ (x : Key). x.destination) k);
      protocol = sym (ap (λ (x : Key). x.protocol) k);
      identification = sym (ap (λ (x : Key). x.identification) k);
    }) l.0 l.1)

-- ---- where 11, 4, 6 or 7 refuses

stop_all : (v : ServiceName) (q : Bool × Settings) (i : ℕ) (d : List ℕ) (ps : List (List ℕ)) (cut : Cutting d ps) (r : Refusal) → onward q i d ≡ Err r → (n : Node) (xs : List NodeCall)
    → judge_of (seat_of v n) ≡ q → AtEach (Admitted v i d ps) n xs → AtEach (WaitsOr v i d ps (number_of r)) n xs
stop_all v q i d ps cut r stop n [] same admitted = tt
stop_all v q i d ps cut r stop n (x ∷ xs) same admitted = (
  λ one.
      inr (
        gives v n x (number_of r)
            (handing v i d ps cut (seat_of v n) (Gives (seat_of v n) (number_of r)) one.0 one.1
            (λ e time memory repeats long.
            ap (λ (z : Result Received Refusal). (received_given z).number)
            (one_stops i d ps cut (seat_of v n) e time memory (one.0, one.1, repeats) long r (ap (λ (t : Bool × Settings). onward t i d) same ∙ stop)))
            (pieces_of v x) one.2 (admits v i d ps cut n x admitted.0)),
        onward_number q i d r stop,
      ),
  stop_all v q i d ps cut r stop (outcome_of n x).node xs (judge-next v n x ∙ same) admitted.1,
)

-- ---- the theorem

module _ (v : ServiceName) (i : ℕ) (d : List ℕ) (ps : List (List ℕ)) (n : Node) (e : List ℕ) (t : ℕ) (m : List ℕ) (others : List NodeCall) (f : List ℕ) (u : ℕ) (w : List ℕ)
    (eight : length (service_of n v).pieces.places ≡ 8) (a : Arrive v i d ps n e t m others f u w) where
  abbrev first : NodeCall
  first = receiving v e i t m

  abbrev last : NodeCall
  last = receiving v f i u w

  -- the node at the last call
  abbrev then : Node
  then = node_after n (first ∷ others)

  -- the service at the first call, and at the last
  abbrev start : Seat
  start = seat_of v n

  abbrev end : Seat
  end = seat_of v then

  cut : Cutting d ps
  cut = a.cutting

  front-admitted : AtEach (Admitted v i d ps) n (first ∷ others)
  front-admitted = at_front (Admitted v i d ps) n (first ∷ others) (last ∷ []) a.admitted

  -- the datagrams of the first call and of the last are pieces, and not refused by 15
  one_of : (x : List ℕ) (time : ℕ) (memory : List ℕ) → IsOne v i d ps (receiving v x i time memory) → Some (λ (p : List ℕ). Repeats x p × (i ≡ i)) ps
  one_of x time memory one = subst (λ (c : OfPieces). Some (λ (p : List ℕ). Hands i p c) ps) (own-call v x i time memory) one

  repeats-one : (x : List ℕ) (time : ℕ) (memory : List ℕ) → IsOne v i d ps (receiving v x i time memory) → Some (Repeats x) ps
  repeats-one x time memory one = let p = one_of x time memory one in (p.0, p.1, p.2.0)

  long_enough : (k : Node) (x : List ℕ) (time : ℕ) (memory : List ℕ) → IsOne v i d ps (receiving v x i time memory) → Admitted v i d ps k (receiving v x i time memory)
      → number (seat_of v k) x i time memory ≡ 15 → ⊥
  long_enough k x time memory one ok =
      (subst (λ (c : OfPieces). Admits v i d ps cut (seat_of v k) c) (own-call v x i time memory) (admits v i d ps cut k (receiving v x i time memory) ok)
      (one_of x time memory one)).0

  first_one : Some (Repeats e) ps
  first_one = repeats-one e t m a.starts

  first-long : number start e i t m ≡ 15 → ⊥
  first-long = long_enough n e t m a.starts a.admitted.0

  last_one : Some (Repeats f) ps
  last_one = repeats-one f u w a.ends

  last-long : number end f i u w ≡ 15 → ⊥
  last-long = long_enough then f u w a.ends (at_back (Admitted v i d ps) n (first ∷ others) (last ∷ []) a.admitted).0

  kept : onward (judge_of end) i d ≡ onward (judge_of start) i d
  kept = rw (has_kept n then (both-kept n (first ∷ others)) v, settings-kept n (first ∷ others) v)

  -- the whole datagram arrives as the last piece does
  whole-arrival : arrival end d i w ≡ onward (judge_of start) i d
  whole-arrival = goes_onward end d i w (one-memory i d ps cut end f u w last_one last-long) cut.right ∙ kept

  stops : (r : Refusal) → onward (judge_of start) i d ≡ Err r → GetsTheWhole v i d ps n e t m others f u w
  unfolding receive_of receive_memory
  stops r h =
      let of-last : (collected_at end f i u w).answer ≡ Err r = one_stops i d ps cut end f u w last_one last-long r (kept ∙ h) in
      let of-whole : (collected_at end d i u w).answer ≡ Err r = stopped end d i u w r (whole-arrival ∙ h) in
      let number : number_by v then d i u w ≡ number_of r = ap (λ (x : Result Received Refusal). (received_given x).number) of-whole in
      record {
        number = ap (λ (x : Result Received Refusal). (received_given x).number) of-last ∙ sym number;
        bytes =
            ap (λ (x : Result Received Refusal). bytes_by x f (outcome_of then last).output) of-last
            ∙ sym (ap (λ (x : Result Received Refusal). bytes_by x d (outcome_of then (receiving v d i u w)).output) of-whole);
        earlier = subst (λ (k : ℕ). AtEach (WaitsOr v i d ps k) n (first ∷ others)) (sym number) (stop_all v (judge_of start) i d ps cut r h n (first ∷ others) refl front-admitted);
      }

  -- ---- where 11, 4, 6 and 7 pass

  module _ (ok : onward (judge_of start) i d ≡ Ok tt) where
    first-arrival : arrival start e i m ≡ Ok tt
    first-arrival = one-arrival i d ps cut start e t m first_one first-long ∙ ok

    first_piece_lem : is_piece (outer_of e) ≡ true
    first_piece_lem = one_piece i d ps cut start e t m first_one first-long

    last-arrival : arrival end f i w ≡ Ok tt
    last-arrival = one-arrival i d ps cut end f u w last_one last-long ∙ kept ∙ ok

    last-piece : is_piece (outer_of f) ≡ true
    last-piece = one_piece i d ps cut end f u w last_one last-long

    abbrev head : Step
    head = step_at (max n.latest t) e

    abbrev middle : List Step
    middle = all_steps v (outcome_of n first).node others

    abbrev tail : Step
    tail = step_at (max then.latest u) f

    first_steps : steps_of v n first ≡ head ∷ []
    first_steps = ap (steps_at start) (own-call v e i t m) ∙ one_step start m e i t m first-arrival first_piece_lem

    last_steps : steps_of v then last ≡ tail ∷ []
    last_steps = ap (steps_at end) (own-call v f i u w) ∙ one_step end w f i u w last-arrival last-piece

    front_steps : all_steps v n (first ∷ others) ≡ head ∷ middle
    front_steps = ap (λ (l : List Step). l ++ middle) first_steps

    all-of_them : all_steps v n (first ∷ others ++ last ∷ []) ≡ head ∷ middle ++ tail ∷ []
    all-of_them =
        steps_append v n (first ∷ others) (last ∷ [])
        ∙ ap (λ (l : List Step). l ++ (steps_of v then last ++ [])) front_steps
        ∙ ap (λ (l : List Step). head ∷ middle ++ (l ++ [])) last_steps

    -- the memory that the last call is lent, and what is collected there
    lent-last : w ≡ memory_after_all v n m (first ∷ others)
    lent-last =
        lent_step end (memory_after_all v n m (first ∷ others)) f i u w last-arrival last-piece
        (subst (λ (c : OfPieces). Lends end (memory_after_all v n m (first ∷ others)) c) (own-call v f i u w)
        (lends v then (memory_after_all v n m (first ∷ others)) last (untouched-back v n m (first ∷ others) (last ∷ []) a.untouched).0))

    state-last : state_of end w ≡ after_all (state_of start m) (head ∷ middle)
    state-last =
        ap (λ (l : List ℕ). state_of end l) lent-last
        ∙ all_steps_lem v n m (first ∷ others) (untouched-front v n m (first ∷ others) (last ∷ []) a.untouched)
        ∙ ap (λ (l : List Step). after_all (state_of start m) l) front_steps

    arriving : pieces.Arrive (key_of d) (map part_in ps) n.latest (head ∷ middle ++ tail ∷ [])
    arriving =
        subst (λ (l : List Step). pieces.Arrive (key_of d) (map part_in ps) n.latest l) all-of_them
        (arrives v i d ps cut n (first ∷ others ++ last ∷ []) a.own n.latest (omega arith))

    premises : pieces.Premises (key_of d) (map part_in ps) (encapsulated d) (state_of start m) head middle tail
    premises = record {
      cut = record { runs = runs_on 0 ps cut.runs; whole = same-payloads ps ∙ cut.payload };
      sized = record { eight = eight; memory = one-memory i d ps cut start e t m first_one first-long (onward_there (judge_of start) i d ok) };
      new = none-live v d i ps n (max n.latest t) a.new ∙ eight;
      arrive = (omega arith, arriving.1, arriving.2);
      in_time = a.in_time;
      admitted = subst (λ (l : List Step). pieces.Admitted (key_of d) (state_of start m) l) all-of_them (all-admitted v i d ps cut n m (first ∷ others ++ last ∷ []) a.untouched a.own a.admitted);
      starts = is_same_lem (one_key i d ps cut start e t m first_one first-long);
      ends = is_same_lem (one_key i d ps cut end f u w last_one last-long);
      missing = (
        part_in a.missing.0,
        in_parts a.missing.0 ps a.missing.1,
        λ q. a.missing.2.1 (back v i d ps cut a.missing.0 a.missing.1 n (first ∷ others)
            (at_front (NotForeign v i d ps) n (first ∷ others) (last ∷ []) a.own) (subst (λ (l : List Step). In (part_in a.missing.0) (under (key_of d) l)) (sym front_steps) q)),
      );
      whole = λ q here.
          let p = parts_in q ps here in
          subst (λ (x : Part). In x (under (key_of d) (head ∷ middle ++ tail ∷ []))) (sym p.2)
          (subst (λ (l : List Step). In (part_in p.0) (under (key_of d) l)) all-of_them
          (came v i d ps cut (judge_of start) ok p.0 p.1 n (first ∷ others ++ last ∷ []) refl a.admitted (a.all p.0 p.1)));
    }

    joins : pieces.Joins (key_of d) (encapsulated d) (state_of start m) head middle tail
    joins = pieces_join (key_of d) (map part_in ps) (encapsulated d) (state_of start m) head middle tail premises

    abbrev k : ℕ
    k = joins.place

    -- what the last call leaves in the memory
    left_there : (outcome_of then last).output ≡ (after (state_of end w) tail).memory
    unfolding receive_memory
    left_there =
        ap (λ (x : State). x.memory) (received end f i u w)
        ∙ ap (λ (l : List Step). (after_all (state_of end w) l).memory) (one_step end w f i u w last-arrival last-piece)

    stands-there : part (room * k) (length (encapsulated d)) (after (state_of end w) tail).memory ≡ encapsulated d
    stands-there =
        ap (λ (x : State). part (room * k) (length (encapsulated d)) (after x tail).memory) state-last
        ∙ ap (λ (x : State). part (room * k) (length (encapsulated d)) x.memory) (sym (after-append (state_of start m) (head ∷ middle) (tail ∷ [])))
        ∙ joins.stands

    -- the last call's answer: 8 to 10 on the joined payload
    last-answer : (collected_at end f i u w).answer ≡ stop_or Err (inward end (quad_at d 12) (encapsulated d)) (Ok (Joined (room * k) (inner_length (encapsulated d))))
    last-answer =
        answered_step end f i u w last-arrival last-piece
        ∙ ap (λ (x : Result taken.Joined Refusal). joined_by end.service.settings (live end.service.routers) (quad_at f 12) x (after (state_of end w) tail).memory) (ap (λ (x : State). answer x tail) state-last ∙ joins.joined)
        ∙ ap (λ (p : List ℕ). stop_or Err (inward end (quad_at f 12) p) (Ok (Joined (room * k) (inner_of p).length))) stands-there
        ∙ ap (λ (s : ℕ). stop_or Err (inward end s (encapsulated d)) (Ok (Joined (room * k) (inner_of (encapsulated d)).length))) (one_key i d ps cut end f u w last_one last-long).source
        ∙ ap (λ (l : ℕ). stop_or Err (inward end (quad_at d 12) (encapsulated d)) (Ok (Joined (room * k) l))) (inner-length (encapsulated d))

    -- and the whole datagram's, on its own
    whole-answer : (collected_at end d i u w).answer ≡ stop_or Err (inward end (quad_at d 12) (encapsulated d)) (Ok (Delivered (header_length d) (inner_length (encapsulated d))))
    whole-answer = answered-whole end d i u w (whole-arrival ∙ ok) (refutes _ (decides_piece d) (λ piece. piece cut.whole))

    passes : GetsTheWhole v i d ps n e t m others f u w
    unfolding receive_of receive_memory
    passes =
        let c = inward end (quad_at d 12) (encapsulated d) in
        let l = inner_length (encapsulated d) in
        let front = untouched-front v n m (first ∷ others) (last ∷ []) a.untouched in
        record {
          number =
              ap (λ (x : Result Received Refusal). (received_given x).number) last-answer ∙ same_number c (room * k) (header_length d) l
              ∙ sym (ap (λ (x : Result Received Refusal). (received_given x).number) whole-answer);
          bytes =
              ap (λ (x : Result Received Refusal). bytes_by x f (outcome_of then last).output) last-answer
              ∙ same_bytes c (room * k) (header_length d) l f d (outcome_of then last).output (outcome_of then (receiving v d i u w)).output
              (λ pass. same-part (room * k) (header_length d) (total_length d) l (outcome_of then last).output d cut.right.whole.inside cut.right.whole.all
              (ap (λ (x : List ℕ). part (room * k) (length (encapsulated d)) x) left_there ∙ stands-there) (inner_within pass))
              ∙ sym (ap (λ (x : Result Received Refusal). bytes_by x d (outcome_of then (receiving v d i u w)).output) whole-answer);
          earlier =
              waits v i d ps cut (judge_of start) ok (number_by v then d i u w) n m (first ∷ others) refl front front-admitted
              (subst (λ (x : List Step). pieces.Wait (key_of d) (state_of start m) x) (sym front_steps) joins.waits);
        }
      where
        inner_within : inward end (quad_at d 12) (encapsulated d) ≡ Ok tt → inner_length (encapsulated d) ≤ length (encapsulated d)
        inner_within pass = (inner-whole-bytes (encapsulated d) (all_false (inward_rows end (quad_at d 12) (encapsulated d)) pass).0).whole

  pub joined_as_whole : GetsTheWhole v i d ps n e t m others f u w
  joined_as_whole = go (onward (judge_of start) i d) refl
    where
      go : (c : Result Unit Refusal) → onward (judge_of start) i d ≡ c → GetsTheWhole v i d ps n e t m others f u w
      go (Ok tt) h = passes h
      go (Err r) h = stops r h

pub pieces_join_on_nodes : PiecesJoin
unfolding PiecesJoin
pieces_join_on_nodes s right v before i d ps e t m others f u w a =
    joined_as_whole v i d ps (node_after (start_of s) before) e t m others f u w (grown_eight s right v before) a
