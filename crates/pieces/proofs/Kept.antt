-- What is left alone of one place where another is changed. Assumes nothing.
use Prim.Native.Nat.{ℕ, ◌+◌, ◌*◌, ◌≤◌, ◌<◌}
use mathlib.Core.Path.{◌≡◌, refl, sym, ◌∙◌}
use mathlib.Core.Logic.{◌⊎◌, ⊎_elim, inl, inr}
use mathlib.Core.Bool.{false}
use mathlib.Core.List.{List}
use native.Mathlib.Omega.{arith}
use borrow.Author.Tests.{ltb-true, ltb-false}
use lib.Dec.{ltb}
use lib.ListN.{length, length-set}
use lib.Seq.{get_or-set_other}
use Rattle.lists.specs.Any.{first_with}
use Rattle.lists.specs.Parts.{part}
use Rattle.lists.proofs.Tests.{tested, by_test}
use Rattle.lists.proofs.First.{first-other}
use Rattle.lent.specs.Written.{over, written_at}
use Rattle.lent.proofs.Laws.{length_over, written_at-fits}
use Rattle.lent.proofs.Ranges.{part-before, part-behind}
use Rattle.pieces.specs.declared.Key.{Key}
use Rattle.pieces.specs.declared.Place.{Place}
use Rattle.pieces.specs.declared.Collection.{Collection}
use Rattle.pieces.specs.Places.{Part, places, room, memory_room, end_of, is_live, is_of, is_whole, byte_at, no_place, freed}
use Rattle.pieces.specs.Take.{Taken, place_at, with_place, settled}
use Rattle.pieces.proofs.Joining.{State}

-- ---- one place among others

unlike : (j k : ℕ) → (j ≡ k → ⊥) → (j < k) ⊎ (k < j)
unlike j k n = ⊎_elim (λ h. inl (ltb-true j k h)) (λ h. inr (omega (arith, ltb-false j k h, n))) (tested (ltb j k))

-- a piece that has room in a place of the memory is written there
pub writes : (k : ℕ) (p : Part) (memory : List ℕ) → k < places → end_of p ≤ room → memory_room ≤ length memory
    → written_at (byte_at k p.offset) p.payload memory ≡ over (byte_at k p.offset) p.payload memory
writes k p memory h i l = written_at-fits (byte_at k p.offset) p.payload memory (omega arith)

-- what is written to the bytes of place j leaves those of place k
bytes-other : (j k : ℕ) → (j ≡ k → ⊥) → j < places → k < places → (o : ℕ) (w memory : List ℕ) → 8 * o + length w ≤ room → memory_room ≤ length memory
    → (u n : ℕ) → 8 * u + n ≤ room → part (byte_at k u) n (over (byte_at j o) w memory) ≡ part (byte_at k u) n memory
bytes-other j k away hj hk o w memory i l u n h =
    let fits : byte_at j o + length w ≤ length memory = omega arith in
    ⊎_elim (λ b. part-behind (byte_at j o) w memory fits (byte_at k u) n (omega arith)) (λ b. part-before (byte_at j o) w memory fits (byte_at k u) n (omega arith)) (unlike j k away)

-- ---- what is left alone

module _ (key : Key) (now k : ℕ) where
  -- place k is as it was, and still the one of the key
  pub record Kept (s t : State) : Type 0 where
    pub eight : length t.collection.places ≡ length s.collection.places
    pub memory : length t.memory ≡ length s.memory
    pub place : place_at t.collection k ≡ place_at s.collection k
    pub found : first_with (is_of key now) s.collection.places ≡ k → first_with (is_of key now) t.collection.places ≡ k
    pub bytes : (u n : ℕ) → 8 * u + n ≤ room → part (byte_at k u) n t.memory ≡ part (byte_at k u) n s.memory

  pub kept_same : (s : State) → Kept s s
  kept_same s = record { eight = refl; memory = refl; place = refl; found = λ f. f; bytes = λ u n h. refl }

  kept-both : (s t r : State) → Kept s t → Kept t r → Kept s r
  kept-both s t r a b = record {
    eight = b.eight ∙ a.eight;
    memory = b.memory ∙ a.memory;
    place = b.place ∙ a.place;
    found = λ f. b.found (a.found f);
    bytes = λ u n h. b.bytes u n h ∙ a.bytes u n h;
  }

  -- a place that is not in use is of no key
  pub unused : (d : Place) → is_of key now (freed d) ≡ false
  unfolding is_of is_live
  unused d = refl

  -- another place has a datagram d that is not the key's
  pub kept-placed : (c : Collection) (memory : List ℕ) (j : ℕ) (d : Place) → (j ≡ k → ⊥) → is_of key now d ≡ false
      → Kept (record { collection = c; memory = memory }) (record { collection = with_place j d c; memory = memory })
  kept-placed c memory j d n other = record {
    eight = length-set c.places j d;
    memory = refl;
    place = get_or-set_other c.places j k d no_place (λ e. n (sym e));
    found = λ f. first-other (is_of key now) c.places j k d f n other;
    bytes = λ u n h. refl;
  }

  -- and its bytes are written
  kept-written : (c : Collection) (memory : List ℕ) (j : ℕ) (p : Part) → (j ≡ k → ⊥) → j < places → k < places → end_of p ≤ room → memory_room ≤ length memory
      → Kept (record { collection = c; memory = memory }) (record { collection = c; memory = over (byte_at j p.offset) p.payload memory })
  kept-written c memory j p n hj hk i l = record {
    eight = refl;
    memory = length_over (byte_at j p.offset) p.payload memory (omega arith);
    place = refl;
    found = λ f. f;
    bytes = λ u m h. bytes-other j k n hj hk p.offset p.payload memory i l u m h;
  }

  -- both, and it is free again if it is complete
  pub kept-settled : (c : Collection) (memory : List ℕ) (j : ℕ) (d : Place) (p : Part) → (j ≡ k → ⊥) → j < places → k < places → end_of p ≤ room
      → memory_room ≤ length memory → is_of key now d ≡ false
      → Kept (record { collection = c; memory = memory }) (record { collection = (settled j d c).collection; memory = written_at (byte_at j p.offset) p.payload memory })
  unfolding settled
  kept-settled c memory j d p n hj hk i l other =
      let m : List ℕ = over (byte_at j p.offset) p.payload memory in
      let here : State = record { collection = c; memory = memory } in
      rw (writes j p memory hj i l) (by_test (λ (r : Taken). Kept here (record { collection = r.collection; memory = m })) (is_whole d) _ _
      (λ e. kept-both here (record { collection = c; memory = m }) _ (kept-written c memory j p n hj hk i l) (kept-placed c m j (freed d) n (unused d)))
      (λ e. kept-both here (record { collection = c; memory = m }) _ (kept-written c memory j p n hj hk i l) (kept-placed c m j d n other)))
