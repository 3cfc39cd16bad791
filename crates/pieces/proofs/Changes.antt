-- What each answer to a piece changes, and that sizes are kept. Assumes nothing.
use Prim.Native.Nat.{ℕ, ◌≤◌, ◌<◌}
use mathlib.Core.Path.{◌≡◌, refl, ap, ◌∙◌}
use mathlib.Core.Logic.{◌⊎◌, ⊎_elim, inl, inr}
use mathlib.Core.List.{List}
use native.Mathlib.Omega.{arith}
use lib.ListN.{length-set}
use lib.Seq.{get_or-set_same, get_or-set_other}
use Rattle.lists.proofs.Tests.{by_test}
use Rattle.lent.specs.Written.{over, written_at}
use Rattle.refusals.specs.Refusals.{number_of}
use Rattle.refusals.specs.declared.Refusal.TheVariants.{PieceWaits, NoPlace, PiecesDisagree, PieceUnfit}
use Rattle.pieces.specs.declared.Key.{Key}
use Rattle.pieces.specs.declared.Place.{Place}
use Rattle.pieces.specs.declared.Collection.{Collection}
use Rattle.pieces.specs.declared.Plan.{Plan}
use Rattle.pieces.specs.declared.Plan.TheVariants.{Unfit, Full, Ignore, Drop, Extend, Begin}
use Rattle.pieces.specs.declared.Joined.{Joined}
use Rattle.pieces.specs.Places.{Part, places, room, end_of, is_whole, byte_at, no_place, begun, extended, freed}
use Rattle.pieces.specs.Take.{Taken, place_at, with_place, settled, plan_of, taken_by, memory_by, taken_of, memory_of, joined_in}
use Rattle.pieces.proofs.Joining.{Step, State, Sized, after, OnlyPlace, Changes, StepChanges}
use Rattle.pieces.proofs.Kept.{writes}
use Rattle.pieces.specs.Change.{Placed}
use Rattle.pieces.proofs.Planned.{plan_placed}
use Rattle.pieces.proofs.Collecting.{sized_with}
use Rattle.std.specs.Prelude.{Result, Ok, Err}
use Rattle.refusals.specs.declared.Refusal.{Refusal}

-- answers are told apart by their numbers
abbrev pub code : Result Joined Refusal → ℕ
code (Ok joined) = 0
code (Err r) = number_of r

-- the place of a datagram that is joined
abbrev pub place_in : Result Joined Refusal → ℕ
place_in (Ok joined) = joined.place
place_in (Err r) = 0

module _ (s : State) (p : Part) where
  abbrev state_of : Taken → List ℕ → State
  state_of t memory = record { collection = t.collection; memory = memory }

  abbrev Same : Taken → List ℕ → Type 0
  Same t memory = (t.collection ≡ s.collection) × (memory ≡ s.memory)

  abbrev Into : ℕ → Taken → List ℕ → Type 0
  Into k t memory = OnlyPlace k s (state_of t memory) × (end_of p ≤ room) × (memory ≡ over (byte_at k p.offset) p.payload s.memory)

  abbrev Free : ℕ → Taken → Type 0
  Free k t = (place_at t.collection k).used ≡ 0

  -- what each answer says of collection and memory
  record Left (t : Taken) (memory : List ℕ) : Type 0 where
    full : t.answer ≡ Err NoPlace → Same t memory
    unfit : t.answer ≡ Err PieceUnfit → Same t memory
    disagree : t.answer ≡ Err PiecesDisagree → (memory ≡ s.memory) × ((k : ℕ) × OnlyPlace k s (state_of t memory) × Free k t)
    waits : t.answer ≡ Err PieceWaits → Same t memory ⊎ ((k : ℕ) × Into k t memory)
    joined : (k n : ℕ) → t.answer ≡ joined_in k n → Into k t memory × Free k t

  module _ (sized : Sized s) where
    only : (k : ℕ) (d : Place) (memory : List ℕ) → k < places → OnlyPlace k s (record { collection = with_place k d s.collection; memory = memory })
    only k d memory h = record { inside = h; others = λ j n. get_or-set_other s.collection.places k j d no_place n }

    free : (k : ℕ) (d : Place) → k < places → (place_at (with_place k (freed d) s.collection) k).used ≡ 0
    free k d h = rw (get_or-set_same s.collection.places k (freed d) no_place (omega (arith, sized.eight)))

    -- a piece that is taken is not refused but by 27
    left-settled : (k : ℕ) (d : Place) → (k < places) × (end_of p ≤ room)
        → Left (settled k d s.collection) (written_at (byte_at k p.offset) p.payload s.memory)
    unfolding settled
    left-settled k d h =
        let m : List ℕ = over (byte_at k p.offset) p.payload s.memory in
        rw (writes k p s.memory h.0 h.1 sized.memory) (by_test (λ (t : Taken). Left t m) (is_whole d) _ _
        (λ t. record {
          full = λ e. absurd (omega (arith, ap code e));
          unfit = λ e. absurd (omega (arith, ap code e));
          disagree = λ e. absurd (omega (arith, ap code e));
          waits = λ e. absurd (omega (arith, ap code e));
          joined = λ j n e. let same : k ≡ j = ap place_in e in rw (← same) ((only k (freed d) m h.0, h.1, refl), free k d h.0);
        })
        (λ t. record {
          full = λ e. absurd (omega (arith, ap code e));
          unfit = λ e. absurd (omega (arith, ap code e));
          disagree = λ e. absurd (omega (arith, ap code e));
          waits = λ e. inr (k, (only k d m h.0, h.1, refl));
          joined = λ j n e. absurd (omega (arith, ap code e));
        }))

    left_by : (plan : Plan) (now : ℕ) (key : Key) → Placed plan p → Left (taken_by plan now key p s.collection) (memory_by plan p s.memory)
    left_by Unfit now key h = record {
      full = λ e. (refl, refl);
      unfit = λ e. (refl, refl);
      disagree = λ e. absurd (omega (arith, ap code e));
      waits = λ e. absurd (omega (arith, ap code e));
      joined = λ j n e. absurd (omega (arith, ap code e));
    }
    left_by Full now key h = record {
      full = λ e. (refl, refl);
      unfit = λ e. (refl, refl);
      disagree = λ e. absurd (omega (arith, ap code e));
      waits = λ e. absurd (omega (arith, ap code e));
      joined = λ j n e. absurd (omega (arith, ap code e));
    }
    left_by Ignore now key h = record {
      full = λ e. (refl, refl);
      unfit = λ e. (refl, refl);
      disagree = λ e. absurd (omega (arith, ap code e));
      waits = λ e. inl (refl, refl);
      joined = λ j n e. absurd (omega (arith, ap code e));
    }
    left_by (Drop k) now key h = record {
      full = λ e. absurd (omega (arith, ap code e));
      unfit = λ e. absurd (omega (arith, ap code e));
      disagree = λ e. (refl, (k, only k (freed (place_at s.collection k)) s.memory h, free k (place_at s.collection k) h));
      waits = λ e. absurd (omega (arith, ap code e));
      joined = λ j n e. absurd (omega (arith, ap code e));
    }
    left_by (Extend k) now key h = left-settled k (extended p (place_at s.collection k)) h
    left_by (Begin k) now key h = left-settled k (extended p (begun key now)) h

    sized_settled : (k : ℕ) (d : Place) → (k < places) × (end_of p ≤ room)
        → Sized (record { collection = (settled k d s.collection).collection; memory = written_at (byte_at k p.offset) p.payload s.memory })
    unfolding settled
    sized_settled k d h =
        let m : List ℕ = over (byte_at k p.offset) p.payload s.memory in
        rw (writes k p s.memory h.0 h.1 sized.memory) (by_test (λ (t : Taken). Sized (record { collection = t.collection; memory = m })) (is_whole d) _ _
        (λ t. sized_with s.collection s.memory sized k (freed d) p h.0 h.1)
        (λ t. sized_with s.collection s.memory sized k d p h.0 h.1))

    sized_by : (plan : Plan) (now : ℕ) (key : Key) → Placed plan p
        → Sized (record { collection = (taken_by plan now key p s.collection).collection; memory = memory_by plan p s.memory })
    sized_by Unfit now key h = sized
    sized_by Full now key h = sized
    sized_by Ignore now key h = sized
    sized_by (Drop k) now key h =
        record { eight = length-set s.collection.places k (freed (place_at s.collection k)) ∙ sized.eight; memory = sized.memory }
    sized_by (Extend k) now key h = sized_settled k (extended p (place_at s.collection k)) h
    sized_by (Begin k) now key h = sized_settled k (extended p (begun key now)) h

same-state : {a b : Collection} {m n : List ℕ} → (a ≡ b) × (m ≡ n) → ◌≡◌ {A = State} (record { collection = a; memory = m }) (record { collection = b; memory = n })
same-state h = let c = h.0 in let d = h.1 in cc

changes : (s : State) (x : Step) → Sized s → Changes s x
unfolding taken_of memory_of
changes s x sized =
    let plan : Plan = plan_of x.time x.key x.piece s.collection s.memory in
    let l = left_by s x.piece sized plan x.time x.key (plan_placed x.time x.key x.piece s.collection s.memory) in
    record {
      full = λ e. same-state (l.full e);
      unfit = λ e. same-state (l.unfit e);
      disagree = λ e. l.disagree e;
      waits = λ e. ⊎_elim (λ h. inl (same-state h)) (λ h. inr (h.0, record { only = h.1.0; fits = h.1.1; memory = h.1.2 })) (l.waits e);
      joined = λ k n e. let j = l.joined k n e in (record { only = j.0.0; fits = j.0.1; memory = j.0.2 }, j.1);
    }

sized_after : (s : State) (x : Step) → Sized s → Sized (after s x)
unfolding taken_of memory_of
sized_after s x sized =
    let plan : Plan = plan_of x.time x.key x.piece s.collection s.memory in
    sized_by s x.piece sized plan x.time x.key (plan_placed x.time x.key x.piece s.collection s.memory)

pub step_changes : StepChanges
step_changes = record { changes = changes; sized = sized_after }
