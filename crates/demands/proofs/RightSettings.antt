-- Settings, of one service or of both, are accepted exactly if they keep the rules. Assumes nothing.
use Rattle.std.specs.Prelude.{Ok, Err}
use Prim.Native.Nat.{ℕ}
use mathlib.Core.Path.{◌≡◌, refl, sym, ap, ◌∙◌}
use native.Mathlib.Omega.{arith}
use mathlib.Core.Logic.{inl, inr, ⊎_elim}
use mathlib.Core.Bool.{Bool, true, false, not, ◌&&◌, ◌||◌}
use mathlib.Core.List.{List, [], ◌∷◌}
use Rattle.lists.specs.Any.{any_of, twice, Some}
use Rattle.lists.proofs.Decides.{Decides, refutes, decides_not, decides_as, decides_eq, decides_le, decides_and, decides_any}
use Rattle.address.proofs.Facts.{decides_multicast_or-unspecified}
use Rattle.refusals.specs.declared.Refusal.TheVariants as refusal
use Rattle.settings.specs.Facts.{ForbiddenTo, Ours}
use Rattle.settings.specs.Locators.{same_locator}
use Rattle.settings.specs.Settings.{locators_of, is_forbidden_locator, are_locators_right, are_numbers_right, is_accepted, is_ours, share_address, are_pair_accepted}
use Rattle.settings.specs.declared.locators.Locator.{Locator}
use Rattle.settings.specs.declared.Settings.{Settings}
use Rattle.settings.proofs.Facts.{decides_forbidden_to, decides_ours}
use Rattle.node.specs.Node.{service_from, no_settings, node_of, pair_of, setup_of, setup_pair_of}
use Rattle.node.specs.declared.Node.{Node}
use Rattle.demands.specs.Two.{DistinctPairs, RightSettings, NewService, NewNode, NoNode, Sets, RightPair, SetsPair}
use Rattle.demands.proofs.RightList.{decides_right}
use Rattle.demands.proofs.NewList.{new-list}

neither : (a b : Bool) → not (a || b) ≡ (not a && not b)
neither true b = refl
neither false b = refl

decides_pairs : (ls : List Locator) → Decides (not (twice same_locator ls)) (DistinctPairs ls)
decides_pairs [] = record { holds = λ h. tt; passes = λ f. refl }
decides_pairs (l ∷ ls) =
    rw (neither (any_of (same_locator l) ls) (twice same_locator ls))
    (decides_and _ _
    (decides_not _
    (decides_any (same_locator l) (λ (m : Locator). (m.address ≡ l.address) × (m.interface ≡ l.interface))
    (λ m. decides_and _ _ (decides_eq m.address l.address) (decides_eq m.interface l.interface)) ls))
    (decides_pairs ls))

pub decides_accepted : (s : Settings) → Decides (is_accepted s) (RightSettings s)
unfolding is_accepted are_locators_right are_numbers_right
decides_accepted s =
    let ls = locators_of s in
    decides_as _
    (decides_and _ _
    (decides_and _ _
    (decides_and _ _
    (decides_and _ _
    (decides_and _ _ (decides_and _ _ (decides_le 1 s.locator_count) (decides_le s.locator_count 8)) (decides_pairs ls))
    (decides_not _ (decides_any (is_forbidden_locator s) (λ (l : Locator). ForbiddenTo s l.address) (λ l. decides_forbidden_to s l.address) ls)))
    (decides_right s s.routers s.router_count))
    (decides_and _ _
    (decides_and _ _
    (decides_and _ _
    (decides_and _ _ (decides_and _ _ (decides_le s.prefix_count 8) (decides_le 576 s.link_size)) (decides_le s.link_size 9216))
    (decides_le 1 s.ttl))
    (decides_le 1 s.interval))
    (decides_le s.interval 3600)))
    (decides_not _ (decides_multicast_or-unspecified s.reporting)))
    (λ f. let l = f.0.0.0 in
    let n = f.0.1 in
    record {
      some = l.0.0.0;
      few = l.0.0.1;
      pairs = l.0.1;
      allowed = l.1;
      routers = f.0.0.1;
      prefixes = n.0.0.0.0.0;
      link_size = (n.0.0.0.0.1, n.0.0.0.1);
      ttl = n.0.0.1;
      interval = (n.0.1, n.1);
      unicast = λ m. f.1 (inl m);
      specified = λ u. f.1 (inr u);
    })
    (λ r. ((
      (
        ((((r.some, r.few), r.pairs), r.allowed), r.routers),
        (((((r.prefixes, r.link_size.0), r.link_size.1), r.ttl), r.interval.0), r.interval.1),
      ),
      λ x. ⊎_elim r.unicast r.specified x,
    )))

-- ---- the nodes that they make

new-service : (s : Settings) → NewService s (service_from s)
unfolding service_from
new-service s = record { settings = refl; identification = refl; no_piece = refl; routers = new-list s.routers s.router_count }

new-node : (s : Settings) → NewNode (node_of s)
unfolding node_of
new-node s = record { latest = refl; no_report = refl }

new-pair : (a b : Settings) → NewNode (pair_of a b)
unfolding pair_of
new-pair a b = record { latest = refl; no_report = refl }

-- where the test passes, the answer and the node are the first ones
module _ (s : Settings) (h : is_accepted s ≡ true) where
  made-answer : (setup_of s).answer ≡ Ok tt
  unfolding setup_of
  made-answer = rw h

  pub made-node : (setup_of s).node ≡ node_of s
  unfolding setup_of
  made-node = rw h

module _ (a b : Settings) (h : are_pair_accepted a b ≡ true) where
  paired_answer : (setup_pair_of a b).answer ≡ Ok tt
  unfolding setup_pair_of
  paired_answer = rw h

  pub paired_node : (setup_pair_of a b).node ≡ pair_of a b
  unfolding setup_pair_of
  paired_node = rw h

one-refused : (s : Settings) → is_accepted s ≡ false → (setup_of s).answer ≡ Err refusal.Settings
unfolding setup_of
one-refused s h = rw h

pair-refused : (a b : Settings) → are_pair_accepted a b ≡ false → (setup_pair_of a b).answer ≡ Err refusal.Settings
unfolding setup_pair_of
pair-refused a b h = rw h

no_node : NoNode (node_of no_settings)
unfolding node_of service_from
no_node = record { alone = λ has. has refl; locators = refl; prefixes = refl; routers = refl }

one-nothing : (s : Settings) → is_accepted s ≡ false → NoNode (setup_of s).node
unfolding setup_of
one-nothing s h = rw h no_node

pair-nothing : (a b : Settings) → are_pair_accepted a b ≡ false → NoNode (setup_pair_of a b).node
unfolding setup_pair_of
pair-nothing a b h = rw h no_node

pub sets : (s : Settings) → Sets s
unfolding node_of
sets s =
    let d = decides_accepted s in
    record {
      made = λ r. made-answer s (d.passes r);
      refused = λ w. one-refused s (refutes (is_accepted s) d w);
      nothing = λ w. one-nothing s (refutes (is_accepted s) d w);
      new = λ r. rw (made-node s (d.passes r)) (new-node s);
      first = λ r. rw (made-node s (d.passes r)) (new-service s);
      alone = λ r has. has (ap (λ (n : Node). n.both) (made-node s (d.passes r)));
    }

decides_shared : (a b : Settings) → Decides (share_address a b) (Some (λ (l : Locator). Ours b l.address) (locators_of a))
unfolding share_address
decides_shared a b = decides_any (λ (l : Locator). is_ours b l.address) (λ (l : Locator). Ours b l.address) (λ l. decides_ours b l.address) (locators_of a)

decides_pair : (a b : Settings) → Decides (are_pair_accepted a b) (RightPair a b)
unfolding are_pair_accepted
decides_pair a b =
    decides_as _
    (decides_and _ _ (decides_and _ _ (decides_accepted a) (decides_accepted b)) (decides_not _ (decides_shared a b)))
    (λ f. record { first = f.0.0; second = f.0.1; apart = f.1 })
    (λ r. ((r.first, r.second), r.apart))

pub sets-pair : (a b : Settings) → SetsPair a b
unfolding pair_of
sets-pair a b =
    let d = decides_pair a b in
    record {
      made = λ r. paired_answer a b (d.passes r);
      refused = λ w. pair-refused a b (refutes (are_pair_accepted a b) d w);
      nothing = λ w. pair-nothing a b (refutes (are_pair_accepted a b) d w);
      new = λ r. rw (paired_node a b (d.passes r)) (new-pair a b);
      first = λ r. rw (paired_node a b (d.passes r)) (new-service a);
      second = λ r. rw (paired_node a b (d.passes r)) (new-service b);
      both = λ r zero. let z : ◌≡◌ {A = ℕ} 1 0 = sym (ap (λ (n : Node). n.both) (paired_node a b (d.passes r))) ∙ zero in omega arith;
    }
