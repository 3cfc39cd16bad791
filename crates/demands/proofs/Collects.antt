-- What a refusal of receiving's call for the number leaves of the collection and of its memory, by its number. Assumes nothing.
use Rattle.std.specs.Prelude.{Result, Ok, Err}
use Prim.Native.Nat.{ℕ, ◌*◌, max}
use mathlib.Core.Path.{◌≡◌, refl, sym, ap, subst, ◌∙◌}
use mathlib.Core.Bool.{Bool, true, false, cond, not}
use mathlib.Core.List.{List, [], ◌∷◌}
use native.Mathlib.Omega.{arith}
use lib.ListN.{length}
use Rattle.refusals.specs.Refusals.{number_of, first_of, stop_or}
use Rattle.refusals.specs.declared.Refusal.{Refusal}
use Rattle.refusals.specs.declared.Refusal.TheVariants.{InnerMalformed, InnerSourceBad, OuterSourceWrong, PieceWaits, PiecesDisagree}
use Rattle.header.specs.Fields.{quad_at}
use Rattle.header.specs.Outer.{outer_of}
use Rattle.header.specs.Inner.{inner_of, is_inner_malformed}
use Rattle.address.specs.Address.{last_quad, is_bad_source_with}
use Rattle.settings.specs.Settings.{forbidden_to}
use Rattle.routers.specs.Routers.{live, listed}
use Rattle.lists.specs.Parts.{part}
use Rattle.pieces.specs.Places.{room, is_whole, freed, extended, begun}
use Rattle.pieces.specs.Take.{Taken, place_at, with_place, plan_of, settled, taken_by, taken_of, memory_by, memory_of, joined_in}
use Rattle.pieces.specs.declared.Joined as taken
use Rattle.pieces.specs.declared.Place.{Place}
use Rattle.pieces.specs.declared.Plan.{Plan}
use Rattle.pieces.specs.declared.Plan.TheVariants.{Unfit, Full, Ignore, Drop, Extend, Begin}
use Rattle.pieces.proofs.Joining.{Step, State, answer, after, after_all}
use Rattle.receiving.specs.Collect.{is_piece, joined_by}
use Rattle.receiving.specs.Receive.{is_source_right}
use Rattle.receiving.specs.declared.Received.{Received}
use Rattle.receiving.specs.declared.Received.TheVariants.{Delivered, Joined}
use Rattle.demands.specs.One.{MayChange, nothing, collection, memory_too, changed_by}
use Rattle.demands.proofs.Seats.{Seat, collected_at, memory_at}
use Rattle.demands.proofs.Steps.{arrival, step_at, step_by, state_of, inward, answered_step, received}

-- what is left of a state, where that much may change
pub record Leaves (c : MayChange) (s t : State) : Type 0 where
  pub collected : c ≡ nothing → t.collection ≡ s.collection
  pub memory : (c ≡ memory_too → ⊥) → t.memory ≡ s.memory

-- the three differ
abbrev rank : MayChange → ℕ
rank nothing = 0
rank collection = 1
rank memory_too = 2

not-nothing : (c : MayChange) → (rank c ≡ 0 → ⊥) → c ≡ nothing → ⊥
not-nothing c h e = h (ap rank e)

leaves_all : (c : MayChange) (s t : State) → t ≡ s → Leaves c s t
leaves_all c s t e = record { collected = λ h. ap (λ (x : State). x.collection) e; memory = λ h. ap (λ (x : State). x.memory) e }

-- where the memory may change, nothing is said
leaves_none : (s t : State) → Leaves memory_too s t
leaves_none s t = record { collected = λ h. absurd (not-nothing memory_too (λ z. omega arith) h); memory = λ h. absurd (h refl) }

waits_number : (q r : Refusal) → ◌≡◌ {A = Result taken.Joined Refusal} (Err q) (Err r) → q ≡ r
waits_number q r h = cc

module _ (s : State) (x : Step) where
  -- what a piece that is refused leaves
  settled_leaves : (k : ℕ) (d : Place) (r : Refusal) (t : State) → (settled k d s.collection).answer ≡ Err r → Leaves (changed_by true (number_of r)) s t
  unfolding settled
  settled_leaves k d r t h = go (is_whole d) h
    where
      go : (b : Bool) → (cond {A = Taken} b (record { answer = joined_in k d.end; collection = with_place k (freed d) s.collection }) (record { answer = Err PieceWaits; collection = with_place k d s.collection })).answer ≡ Err r
          → Leaves (changed_by true (number_of r)) s t
      go true e = absurd cc
      go false e = subst (λ (q : Refusal). Leaves (changed_by true (number_of q)) s t) (waits_number PieceWaits r e) (leaves_none s t)

  plan_leaves : (p : Plan) (r : Refusal) → (taken_by p x.time x.key x.piece s.collection).answer ≡ Err r
      → Leaves (changed_by true (number_of r)) s (record { collection = (taken_by p x.time x.key x.piece s.collection).collection; memory = memory_by p x.piece s.memory })
  plan_leaves Unfit r h = leaves_all _ s _ refl
  plan_leaves Full r h = leaves_all _ s _ refl
  plan_leaves Ignore r h = leaves_all _ s _ refl
  plan_leaves (Drop k) r h =
      subst (λ (q : Refusal). Leaves (changed_by true (number_of q)) s (record { collection = with_place k (freed (place_at s.collection k)) s.collection; memory = s.memory })) (waits_number PiecesDisagree r h)
      (record { collected = λ e. absurd {0} (not-nothing collection (λ z. omega arith) e); memory = λ e. refl })
  plan_leaves (Extend k) r h = settled_leaves k (extended x.piece (place_at s.collection k)) r _ h
  plan_leaves (Begin k) r h = settled_leaves k (extended x.piece (begun x.key x.time)) r _ h

  step_leaves : (r : Refusal) → answer s x ≡ Err r → Leaves (changed_by true (number_of r)) s (after s x)
  unfolding taken_of memory_of
  step_leaves r h = plan_leaves (plan_of x.time x.key x.piece s.collection s.memory) r h

-- what a check may change
abbrev changed_in : Result Unit Refusal → MayChange
changed_in (Ok tt) = memory_too
changed_in (Err r) = changed_by true (number_of r)

-- 8, 9 and 10, of what a piece completes, may change the memory
inward_changes : (n : Seat) (source : ℕ) (p : List ℕ) → changed_in (inward n source p) ≡ memory_too
inward_changes n source p =
    let s = n.service.settings in
    let i = inner_of p in
    go (is_inner_malformed (length p) i) (is_bad_source_with (forbidden_to s (last_quad i.source)) i.source) (not (is_source_right s (listed source (live n.service.routers)) source i.source))
  where
    go : (a b c : Bool) → changed_in (first_of ((a, InnerMalformed) ∷ (b, InnerSourceBad) ∷ (c, OuterSourceWrong) ∷ [])) ≡ memory_too
    go true b c = refl
    go false true c = refl
    go false false true = refl
    go false false false = refl

refused-same : (q r : Refusal) → ◌≡◌ {A = Result Received Refusal} (Err q) (Err r) → q ≡ r
refused-same q r h = cc

joined-refused : (o l : ℕ) (r : Refusal) → ◌≡◌ {A = Result Received Refusal} (Ok (Joined o l)) (Err r) → ⊥
joined-refused o l r e = let z : ◌≡◌ {A = ℕ} 0 1 = ap tagged e in omega arith
  where
    tagged : Result Received Refusal → ℕ
    tagged (Ok (Delivered o l)) = 2
    tagged (Ok (Joined o l)) = 0
    tagged (Err r) = 1

module _ (n : Seat) (e : List ℕ) (j time : ℕ) (memory : List ℕ) (r : Refusal) (h : (collected_at n e j time memory).answer ≡ Err r) where
  abbrev y : Step
  y = step_at (max n.latest time) e

  joined_leaves : (t : State) (c : Result Unit Refusal) (o l : ℕ) → changed_in c ≡ memory_too → stop_or Err c (Ok (Joined o l)) ≡ Err r → Leaves (changed_by true (number_of r)) (state_of n memory) t
  joined_leaves t (Ok tt) o l m z = absurd (joined-refused o l r z)
  joined_leaves t (Err q) o l m z =
      subst (λ (k : MayChange). Leaves k (state_of n memory) t) (sym m ∙ ap (λ (k : Refusal). changed_by true (number_of k)) (refused-same q r z)) (leaves_none (state_of n memory) t)

  piece_leaves : arrival n e j memory ≡ Ok tt → is_piece (outer_of e) ≡ true → Leaves (changed_by true (number_of r)) (state_of n memory) (after (state_of n memory) y)
  piece_leaves a b = go (answer (state_of n memory) y) refl (sym (answered_step n e j time memory a b) ∙ h)
    where
      go : (x : Result taken.Joined Refusal) → answer (state_of n memory) y ≡ x
          → joined_by n.service.settings (live n.service.routers) (quad_at e 12) x (after (state_of n memory) y).memory ≡ Err r
          → Leaves (changed_by true (number_of r)) (state_of n memory) (after (state_of n memory) y)
      go (Ok d) q z = let p : List ℕ = part (room * d.place) d.length (after (state_of n memory) y).memory in
          joined_leaves (after (state_of n memory) y) (inward n (quad_at e 12) p) (room * d.place) (inner_of p).length (inward_changes n (quad_at e 12) p) z
      go (Err k) q z = step_leaves (state_of n memory) y r (q ∙ ap Err (refused-same k r z))

  -- what a refused call for the number leaves
  pub received_leaves : Leaves (changed_by (is_piece (outer_of e)) (number_of r)) (state_of n memory)
      (record { collection = (collected_at n e j time memory).pieces; memory = memory_at n e j time memory })
  received_leaves =
      subst (λ (t : State). Leaves (changed_by (is_piece (outer_of e)) (number_of r)) (state_of n memory) t) (sym (received n e j time memory))
      (go (arrival n e j memory) refl (is_piece (outer_of e)) refl)
    where
      go : (c : Result Unit Refusal) → arrival n e j memory ≡ c → (b : Bool) → is_piece (outer_of e) ≡ b → Leaves (changed_by b (number_of r)) (state_of n memory) (after_all (state_of n memory) (step_by c b y))
      go (Ok tt) a true b = piece_leaves a b
      go (Ok tt) a false b = leaves_all _ (state_of n memory) _ refl
      go (Err q) a b z = leaves_all _ (state_of n memory) _ refl
