-- Demand 3 holds of every list of calls. Assumes nothing.
use Prim.Native.Nat.{ℕ}
use mathlib.Core.Path.{◌≡◌, refl, ap}
use mathlib.Core.Bool.{Bool, true}
use mathlib.Core.List.{List, [], ◌∷◌}
use lib.ListN.{take}
use Rattle.paths.specs.Packets.{largest_packet}
use Rattle.paths.specs.Sender.{Event, told, passed, lowered, nothing, Bound}
use Rattle.paths.proofs.Heard.{heard, bound_heard}
use Rattle.paths.proofs.Holds as paths
use Rattle.node.specs.declared.ServiceName.{ServiceName}
use Rattle.demands.specs.Starts.{Start, is_right, start_of}
use Rattle.demands.specs.Calls.{NodeCall, node_after}
use Rattle.demands.specs.Plain.{fresh_plain, plain_after}
use Rattle.demands.specs.Sender.{node_events}
use Rattle.demands.specs.Three.{DemandThree}
use Rattle.demands.proofs.Follows.{Follows, fresh_follows, follows_after, size-at, same-run}
use Rattle.demands.proofs.Events.{place_of, links_of, calls_seen, spaced, same_events}

-- the clocks are nothing to a sender
heard_spaced : (h : List Event) → heard (spaced h) ≡ heard h
heard_spaced [] = refl
heard_spaced (told n m ∷ h) = ap (λ (k : List Event). told n m ∷ k) (heard_spaced h)
heard_spaced (passed n ∷ h) = ap (λ (k : List Event). passed n ∷ k) (heard_spaced h)
heard_spaced (lowered ∷ h) = ap (λ (k : List Event). lowered ∷ k) (heard_spaced h)
heard_spaced (nothing ∷ h) = heard_spaced h

module _ (s : Start) (right : is_right s ≡ true) (calls : List NodeCall) where
  follows : Follows s (start_of s) fresh_plain
  follows = fresh_follows s right

  -- the node starts with no report, at time 0
  sender_bound : (w : ServiceName) (choice : ℕ → Bool) (v : ℕ) → Bound (node_events w choice v (start_of s) calls)
  sender_bound w choice v =
      let n = start_of s in
      let events = node_events w choice v n calls in
      let abstract = (paths.all_paths_hold largest_packet paths.largest_packet_grows (links_of n.first.settings n.second.settings)
      (calls_seen n.first.settings n.second.settings n.both choice calls)).senders (place_of w) v in
      let seen = rw (follows.paths, follows.latest) at (same_events w v choice n calls) in
      bound_heard (spaced events) events (heard_spaced events) (rw seen at abstract)

pub demand_three : DemandThree
unfolding DemandThree
demand_three s right calls =
    let f = fresh_follows s right in
    record {
      answers = same-run s (start_of s) fresh_plain f calls;
      sizes = λ w t e k v time. size-at s (node_after (start_of s) (take k calls)) (plain_after s fresh_plain (take k calls))
          (follows_after s (start_of s) fresh_plain f (take k calls)) w t e v time;
      senders = sender_bound s right calls;
    }
