-- What is collected on a node is what comes of the pieces that its calls handed in. Assumes nothing.
use Rattle.std.specs.Prelude.{Result, Ok, Err, Option, None, Some}
use Rattle.refusals.specs.declared.Refusal.{Refusal}
use Prim.Native.Nat.{ℕ, max}
use mathlib.Core.Path.{◌≡◌, refl, sym, ap, ◌∙◌}
use mathlib.Core.Bool.{Bool, true, false}
use mathlib.Core.List.{List, [], ◌∷◌, ◌++◌}
use Rattle.header.specs.Outer.{outer_of}
use Rattle.settings.specs.Settings.{is_accepted, are_pair_accepted}
use Rattle.settings.specs.declared.Settings.{Settings}
use Rattle.pieces.specs.Take.{no_datagrams, taken_of}
use Rattle.pieces.specs.History.{Handed, Grown, nothing, grown_by, grown}
use Rattle.pieces.specs.declared.Collection.{Collection}
use Rattle.pieces.proofs.Joining.{State, after_all}
use Rattle.receiving.specs.Collect.{is_piece}
use Rattle.node.specs.Node.{service_of, service_from, node_of, pair_of, setup_of, setup_pair_of}
use Rattle.node.specs.declared.Node.{Node}
use Rattle.node.specs.declared.ServiceName.{ServiceName}
use Rattle.node.specs.declared.ServiceName.TheVariants.{First, Second}
use Rattle.demands.specs.Starts.{accepted_with, made_with, start_of}
use Rattle.demands.specs.Calls.{NodeCall, Outcome, outcome_of, OfPieces, a_datagram, no_datagram, pieces_of, node_after}
use Rattle.demands.specs.Collecting.{handed_by, handed_in, CollectedByHistory}
use Rattle.demands.proofs.Seats.{seat_of, PiecesLeft, pieces_left}
use Rattle.demands.proofs.Steps.{arrival, step_at, step_by, state_of, received}
use Rattle.demands.proofs.Handed.{handed_at, here, hands_at}
use Rattle.demands.proofs.Runs.{handed_by_lem}

-- the collection after what a call hands in
abbrev handed_after : Collection → List Handed → Collection
handed_after c [] = c
handed_after c (x ∷ xs) = handed_after (taken_of x.time x.key x.piece c x.memory).collection xs

by_handed : (v : ServiceName) (n : Node) (x : NodeCall) → (service_of (outcome_of n x).node v).pieces ≡ handed_after (service_of n v).pieces (handed_by v n x)
by_handed v n x =
    go (pieces_of v x) (outcome_of n x) (pieces_left v n x) ∙ sym (ap (handed_after (service_of n v).pieces) (handed_by_lem v n x))
  where
    at : (e : List ℕ) (j time : ℕ) (memory : List ℕ) (c : Result Unit Refusal) (b : Bool)
        → (after_all (state_of (seat_of v n) memory) (step_by c b (step_at (max n.latest time) e))).collection ≡ handed_after (service_of n v).pieces (handed_at c b (here (seat_of v n) e j time memory))
    at e j time memory (Ok tt) true = refl
    at e j time memory (Ok tt) false = refl
    at e j time memory (Err r) b = refl

    go : (c : OfPieces) (o : Outcome) → PiecesLeft v n c o → (service_of o.node v).pieces ≡ handed_after (service_of n v).pieces (hands_at (seat_of v n) c)
    go (a_datagram e j time memory) o l =
        l.1 ∙ ap (λ (s : State). s.collection) (received (seat_of v n) e j time memory)
        ∙ at e j time memory (arrival (seat_of v n) e j memory) (is_piece (outer_of e))
    go no_datagram o l = l

after-append : (c : Collection) (xs ys : List Handed) → handed_after c (xs ++ ys) ≡ handed_after (handed_after c xs) ys
after-append c [] ys = refl
after-append c (x ∷ xs) ys = after-append (taken_of x.time x.key x.piece c x.memory).collection xs ys

all_handed : (v : ServiceName) (n : Node) (xs : List NodeCall) → (service_of (node_after n xs) v).pieces ≡ handed_after (service_of n v).pieces (handed_in v n xs)
all_handed v n [] = refl
all_handed v n (x ∷ xs) =
    all_handed v (outcome_of n x).node xs
    ∙ ap (λ (c : Collection). handed_after c (handed_in v (outcome_of n x).node xs)) (by_handed v n x)
    ∙ sym (after-append (service_of n v).pieces (handed_by v n x) (handed_in v (outcome_of n x).node xs))

grown-after : (g : Grown) (xs : List Handed) → (grown g xs).collection ≡ handed_after g.collection xs
grown-after g [] = refl
grown-after g (x ∷ xs) = grown-after (grown_by g x) xs

-- a new node has collected nothing
one_none : (a : Settings) → is_accepted a ≡ true → (v : ServiceName) → (service_of (setup_of a).node v).pieces ≡ no_datagrams
unfolding setup_of node_of service_from
one_none a right First = rw right
one_none a right Second = rw right

pair-none : (a b : Settings) → are_pair_accepted a b ≡ true → (v : ServiceName) → (service_of (setup_pair_of a b).node v).pieces ≡ no_datagrams
unfolding setup_pair_of pair_of service_from
pair-none a b right First = rw right
pair-none a b right Second = rw right

made_none : (a : Settings) (o : Option Settings) → accepted_with a o ≡ true → (v : ServiceName) → (service_of (made_with a o) v).pieces ≡ no_datagrams
made_none a None right = one_none a right
made_none a (Some b) right = pair-none a b right

pub collected_by_history : CollectedByHistory
unfolding CollectedByHistory
collected_by_history s right v xs =
    all_handed v (start_of s) xs
    ∙ ap (λ (c : Collection). handed_after c (handed_in v (start_of s) xs)) (made_none s.first s.second right v)
    ∙ sym (grown-after nothing (handed_in v (start_of s) xs))
