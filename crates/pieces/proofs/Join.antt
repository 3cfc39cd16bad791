-- The pieces of a cutting, step by step among others: each waits, and the last that was missing joins them. Assumes nothing.
use Prim.Native.Nat.{ℕ, ◌+◌, ◌*◌, ◌≤◌, ◌<◌}
use mathlib.Core.Path.{◌≡◌, refl, sym, ◌∙◌}
use mathlib.Core.Logic.{⊎_elim}
use mathlib.Core.Bool.{Bool, true, false, cond, ◌&&◌, true≢false, or-true}
use mathlib.Core.List.{List, [], ◌∷◌, ◌++◌}
use native.Mathlib.Omega.{arith}
use borrow.Author.Tests.{lt-ltb, ltb-true}
use lib.Dec.{eqb, ltb}
use lib.ListN.{length}
use Rattle.lists.specs.Any.{first_with}
use Rattle.lists.specs.Parts.{part}
use Rattle.lists.proofs.Tests.{tested}
use Rattle.lists.proofs.First.{first_passes}
use Rattle.refusals.specs.declared.Refusal.TheVariants.{NoPlace}
use Rattle.pieces.specs.declared.Key.{Key}
use Rattle.pieces.specs.declared.Plan.TheVariants.{Full, Ignore, Drop, Extend, Begin}
use Rattle.pieces.specs.Places.{Part, places, room, lifetime, is_free, is_of, is_apart, is_equal, bytes_of, no_place, begun}
use Rattle.pieces.specs.Take.{Taken, place_at, plan_in, plan_held, plan_new, plan_of, taken_by, memory_by, taken_of, memory_of, joined_in}
use Rattle.pieces.proofs.Joining.{In, Step, State, Sized, answer, after, after_all, is_under, under, Wait, Arrive}
use Rattle.pieces.proofs.Cut.{Fitted, has_come, have_come}
use Rattle.pieces.proofs.Content.{fits, both, content_none, ends-agree}
use Rattle.pieces.proofs.Others.{kept-after}
use Rattle.pieces.proofs.Keys.{same_key, equal-same}
use Rattle.pieces.proofs.Apart.{offsets}
use Rattle.pieces.proofs.Live.{of-extended, of-begun}
use Rattle.pieces.proofs.Come.{have_same, moved, fewer}
use Rattle.pieces.proofs.Collecting.{Collecting as Collected, Outcome as Came, later, keeps, takes}
use Rattle.std.specs.Prelude.{Err}

module _ (key : Key) (ps : List Part) (payload : List ℕ) (cut : Fitted ps payload) (start : ℕ) where
  abbrev Collecting : List Part → ℕ → ℕ → State → Type 0
  Collecting = Collected key ps payload cut start

  abbrev Outcome : List Part → ℕ → ℕ → Taken → List ℕ → Type 0
  Outcome = Came key ps payload cut start

  -- ---- a piece of the cutting

  module _ (come : List Part) (now k : ℕ) (s : State) (c : Collecting come now k s) (p : Part) (i : In p ps) where
    agrees : is_apart p (place_at s.collection k) ≡ false
    agrees = ends-agree ps payload cut come k (place_at s.collection k) s.memory c.content c.inside c.sized.memory p i

    -- it is ignored if it has come, and taken if not
    plan_own : plan_of now key p s.collection s.memory ≡ cond (has_come come p) Ignore (Extend k)
    unfolding plan_of plan_in plan_held
    plan_own =
        rw (cut.fits p i, c.found, lt-ltb k places c.inside, agrees, c.content.any p i, c.content.all p i) (go (has_come come p) refl)
      where
        go : (b : Bool) → has_come come p ≡ b
            → cond b (cond (b && is_equal (bytes_of k p s.memory) p.payload) Ignore (Drop k)) (Extend k) ≡ cond b Ignore (Extend k)
        go true h = rw (c.content.stand p i h, equal-same p.payload)
        go false h = refl

    -- a piece that has come once more
    come_again : has_come come p ≡ true → (q : Part) → In q ps → has_come (p ∷ come) q ≡ has_come come q
    come_again h q j =
        ⊎_elim (λ (e : p ≡ q). let z : has_come come q ≡ true = rw e at h in rw (z, or-true (eqb p.offset q.offset)))
        (λ a. rw (offsets p q (fits ps payload cut p i) (fits ps payload cut q j) a)) (both ps payload cut p q i j)

    own : have_come come ps ≡ false → Outcome (p ∷ come) now k (taken_of now key p s.collection s.memory) (memory_of now key p s.collection s.memory)
    unfolding taken_of memory_of
    own missing = rw plan_own (go (has_come come p) refl)
      where
        go : (b : Bool) → has_come come p ≡ b
            → Outcome (p ∷ come) now k (taken_by (cond b Ignore (Extend k)) now key p s.collection) (memory_by (cond b Ignore (Extend k)) p s.memory)
        go true h =
            let same = have_same (p ∷ come) come ps (come_again h) in
            record {
              waits = λ e. (
                refl,
                record {
                  sized = c.sized;
                  inside = c.inside;
                  found = c.found;
                  first = c.first;
                  content = record {
                    reach = c.content.reach;
                    end = λ q j e. rw (come_again h q j) (c.content.end q j e);
                    any = λ q j. rw (come_again h q j) (c.content.any q j);
                    all = λ q j. rw (come_again h q j) (c.content.all q j);
                    stand = λ q j e. c.content.stand q j (sym (come_again h q j) ∙ e);
                  };
                },
              );
              joins = λ e. absurd (true≢false (sym e ∙ same ∙ missing));
            }
        go false h =
            let d = place_at s.collection k in
            let inside : k < length s.collection.places = omega (arith, c.inside, c.sized.eight) in
            let mine = first_passes (is_of key now) s.collection.places no_place k c.found inside in
            takes key ps payload cut start come now k s.collection s.memory d p i c.sized c.inside c.content
            (omega (arith, c.found)) (of-extended key now p d mine) c.first

  -- ---- the first piece

  -- no live datagram has the key, and the piece is not refused by 28: it takes a place
  begins : (s : State) (p : Part) → In p ps → Sized s → first_with (is_of key start) s.collection.places ≡ places
      → ((taken_of start key p s.collection s.memory).answer ≡ Err NoPlace → ⊥)
      → (k : ℕ) × (k < places) × Outcome (p ∷ []) start k (taken_of start key p s.collection s.memory) (memory_of start key p s.collection s.memory)
  unfolding taken_of memory_of plan_of plan_new
  begins s p i sized none taken =
      let c = s.collection in
      let k : ℕ = first_with (is_free start) c.places in
      let plan : plan_of start key p c s.memory ≡ plan_new k = rw (cut.fits p i, none) in
      rw plan (go k (ltb k places) refl (rw plan at taken))
    where
      go : (k : ℕ) (b : Bool) → ltb k places ≡ b → ((taken_by (cond b (Begin k) Full) start key p s.collection).answer ≡ Err NoPlace → ⊥)
          → (j : ℕ) × (j < places) × Outcome (p ∷ []) start j (taken_by (cond b (Begin k) Full) start key p s.collection) (memory_by (cond b (Begin k) Full) p s.memory)
      go k true h taken =
          let hk = ltb-true k places h in (
            k,
            hk,
            takes key ps payload cut start [] start k s.collection s.memory (begun key start) p i sized hk
                (content_none ps payload cut key start k s.memory) (omega arith) (of-begun key start p) refl,
          )
      go k false h taken = absurd (taken refl)

  -- ---- the steps

  -- the rest of the steps
  pub record Rest (k : ℕ) (s : State) (xs : List Step) (last : Step) : Type 0 where
    pub waits : Wait key s xs
    pub joined : answer (after_all s xs) last ≡ joined_in k (length payload)
    pub stands : part (room * k) (length payload) (after_all s (xs ++ last ∷ [])).memory ≡ payload

  pub under_one : (x : Step) (xs : List Step) → is_under key x ≡ true → under key (x ∷ xs) ≡ x.piece ∷ under key xs
  under_one x xs h = rw h

  under-other : (x : Step) (xs : List Step) → is_under key x ≡ false → under key (x ∷ xs) ≡ under key xs
  under-other x xs h = rw h

  -- a step under the key
  outcome : (come : List Part) (now k : ℕ) (s : State) → Collecting come now k s → (x : Step) → is_under key x ≡ true → x.time ≡ now → In x.piece ps → have_come come ps ≡ false
      → Outcome (x.piece ∷ come) x.time k (taken_of x.time x.key x.piece s.collection s.memory) (after s x).memory
  outcome come now k s c x u e i missing = rw (e, ← same_key key x.key u) (own come now k s c x.piece i missing)

  pub beginning : (s : State) (x : Step) → is_under key x ≡ true → x.time ≡ start → In x.piece ps → Sized s → first_with (is_of key x.time) s.collection.places ≡ places
      → (answer s x ≡ Err NoPlace → ⊥)
      → (k : ℕ) × (k < places) × Outcome (x.piece ∷ []) x.time k (taken_of x.time x.key x.piece s.collection s.memory) (after s x).memory
  beginning s x u e i sized none taken =
      let same : key ≡ x.key = same_key key x.key u in
      rw (e, ← same) (begins s x.piece i sized (rw e at none) (rw (e, ← same) at taken))

  -- no step is later than the last
  before_last : (now : ℕ) (xs : List Step) (last : Step) → Arrive key ps now (xs ++ last ∷ []) → now ≤ last.time
  before_last now [] last a = a.0
  before_last now (x ∷ xs) last a = omega (arith, before_last x.time xs last a.2)

  pub goes_on : (xs : List Step) (last : Step) (come : List Part) (now k : ℕ) (s : State) → Collecting come now k s → Arrive key ps now (xs ++ last ∷ [])
      → last.time < start + lifetime → is_under key last ≡ true → have_come (under key xs ++ come) ps ≡ false → have_come (under key (xs ++ last ∷ []) ++ come) ps ≡ true → Rest k s xs last
  goes_on [] last come now k s c a t u missing whole =
      let Now-on = later key ps payload cut start come now k s c last.time a.0 t in
      let o = outcome come last.time k s Now-on last u refl (a.1 u) missing in
      let all : have_come (last.piece ∷ come) ps ≡ true = rw (under_one last [] u) at whole in
      let j = o.joins all in
      record { waits = tt; joined = j.0; stands = j.1 }
  goes_on (x ∷ xs) last come now k s c a t u missing whole =
      let Now-on = later key ps payload cut start come now k s c x.time a.0 (omega (arith, before_last x.time xs last a.2)) in
      ⊎_elim
      (λ h.
      let m : have_come (under key xs ++ x.piece ∷ come) ps ≡ false = sym (moved ps x.piece (under key xs) come) ∙ (rw (under_one x xs h) at missing) in
      let w : have_come (under key (xs ++ last ∷ []) ++ x.piece ∷ come) ps ≡ true =
      sym (moved ps x.piece (under key (xs ++ last ∷ [])) come) ∙ (rw (under_one x (xs ++ last ∷ []) h) at whole) in
      let o = outcome come x.time k s Now-on x h refl (a.1 h) (fewer ps (under key (x ∷ xs)) come missing) in
      let waiting = o.waits (fewer ps (under key xs) (x.piece ∷ come) m) in
      let r = goes_on xs last (x.piece ∷ come) x.time k (after s x) waiting.1 a.2 t u m w in
      record { waits = (λ e. waiting.0, r.waits); joined = r.joined; stands = r.stands })
      (λ h.
      let kept = kept-after key k s x Now-on.sized Now-on.inside Now-on.found h in
      let m : have_come (under key xs ++ come) ps ≡ false = rw (under-other x xs h) at missing in
      let w : have_come (under key (xs ++ last ∷ []) ++ come) ps ≡ true = rw (under-other x (xs ++ last ∷ []) h) at whole in
      let r = goes_on xs last come x.time k (after s x) (keeps key ps payload cut start come x.time k s (after s x) Now-on kept) a.2 t u m w in
      record { waits = (λ e. absurd (true≢false (sym e ∙ h)), r.waits); joined = r.joined; stands = r.stands })
      (tested (is_under key x))
