-- The pieces of a cutting that have come, collected in a place: time goes on, other keys come, one more piece is taken.
-- Assumes nothing.
use Prim.Native.Nat.{ℕ, ◌+◌, ◌*◌, ◌≤◌, ◌<◌}
use mathlib.Core.Path.{◌≡◌, refl, ap, ◌∙◌}
use mathlib.Core.Bool.{true, false}
use mathlib.Core.List.{List, ◌∷◌}
use native.Mathlib.Omega.{arith}
use lib.ListN.{length, length-set}
use lib.Seq.{get_or-set_same}
use Rattle.lists.specs.Any.{first_with}
use Rattle.lists.specs.Parts.{part}
use Rattle.lists.proofs.First.{first_passes, first-here, first-later}
use Rattle.lent.specs.Written.{over, written_at}
use Rattle.lent.proofs.Laws.{length_over}
use Rattle.refusals.specs.declared.Refusal.TheVariants.{PieceWaits}
use Rattle.pieces.specs.declared.Key.{Key}
use Rattle.pieces.specs.declared.Place.{Place}
use Rattle.pieces.specs.declared.Collection.{Collection}
use Rattle.pieces.specs.Places.{Part, places, room, lifetime, end_of, is_of, is_whole, byte_at, no_place, extended}
use Rattle.pieces.specs.Take.{Taken, place_at, with_place, settled, joined_in}
use Rattle.pieces.proofs.Joining.{In, State, Sized}
use Rattle.pieces.proofs.Cut.{Fitted, have_come}
use Rattle.pieces.proofs.Content.{Content, fits, content_more, complete, standing, ending}
use Rattle.pieces.proofs.Kept.{Kept, writes}
use Rattle.pieces.proofs.Live.{of-before, of-later, first-extended, settled-not, settled_so}
use Rattle.std.specs.Prelude.{Err}

-- a state stays of its sizes where a piece that has room is taken into a place
pub sized_with : (c : Collection) (memory : List ℕ) → Sized (record { collection = c; memory = memory }) → (k : ℕ) (d : Place) (p : Part) → k < places → end_of p ≤ room
    → Sized (record { collection = with_place k d c; memory = over (byte_at k p.offset) p.payload memory })
sized_with c memory sized k d p hk i =
    let l = sized.memory in
    record {
      eight = length-set c.places k d ∙ sized.eight;
      memory = rw (length_over (byte_at k p.offset) p.payload memory (omega arith)) l;
    }

module _ (key : Key) (ps : List Part) (payload : List ℕ) (cut : Fitted ps payload) (start : ℕ) where
  -- of the cutting's pieces those that have come are collected in place k
  pub record Collecting (come : List Part) (now k : ℕ) (s : State) : Type 0 where
    pub sized : Sized s
    pub inside : k < places
    pub found : first_with (is_of key now) s.collection.places ≡ k
    pub first : (place_at s.collection k).first ≡ start
    pub content : Content ps payload cut come k (place_at s.collection k) s.memory

  -- what comes of a piece: it waits while one is missing, and joins them when none is
  pub record Outcome (come : List Part) (now k : ℕ) (t : Taken) (memory : List ℕ) : Type 0 where
    pub waits : have_come come ps ≡ false → (t.answer ≡ Err PieceWaits) × Collecting come now k (record { collection = t.collection; memory = memory })
    pub joins : have_come come ps ≡ true → (t.answer ≡ joined_in k (length payload)) × (part (room * k) (length payload) memory ≡ payload)

  module _ (come : List Part) (now k : ℕ) (c : Collection) (memory : List ℕ) (d : Place) (p : Part) (i : In p ps)
      (sized : Sized (record { collection = c; memory = memory })) (hk : k < places) (content : Content ps payload cut come k d memory) where
    abbrev writing : List ℕ
    writing = over (byte_at k p.offset) p.payload memory

    place-with : place_at (with_place k (extended p d) c) k ≡ extended p d
    place-with = get_or-set_same c.places k (extended p d) no_place (omega (arith, sized.eight))

    content_with : Content ps payload cut (p ∷ come) k (extended p d) writing
    content_with = content_more ps payload cut come k d memory content hk sized.memory p i

    whole_with : is_whole (extended p d) ≡ have_come (p ∷ come) ps
    whole_with = complete ps payload cut (p ∷ come) k (extended p d) writing content_with

    -- one more piece is taken into place k, whose datagram was d
    pub takes : k ≤ first_with (is_of key now) c.places → is_of key now (extended p d) ≡ true → d.first ≡ start
        → Outcome (p ∷ come) now k (settled k (extended p d) c) (written_at (byte_at k p.offset) p.payload memory)
    takes before passes first = rw (writes k p memory hk (fits ps payload cut p i).inside sized.memory) (record {
      waits = λ h. rw (settled-not k (extended p d) c (whole_with ∙ h)) (
        refl,
        record {
          sized = sized_with c memory sized k (extended p d) p hk (fits ps payload cut p i).inside;
          inside = hk;
          found = first-here (is_of key now) c.places k (extended p d) (omega (arith, sized.eight)) before passes;
          first = rw place-with (first-extended p d ∙ first);
          content = rw place-with content_with;
        },
      );
      joins = λ h. rw (settled_so k (extended p d) c (whole_with ∙ h)) (
        ap (joined_in k) (ending ps payload cut (p ∷ come) k (extended p d) writing content_with h),
        standing ps payload cut (p ∷ come) k (extended p d) writing content_with h,
      );
    })

  -- time goes on
  pub later : (come : List Part) (now k : ℕ) (s : State) → Collecting come now k s → (time : ℕ) → now ≤ time → time < start + lifetime → Collecting come time k s
  later come now k s c time h l =
      let places = s.collection.places in
      let inside : k < length places = omega (arith, c.inside, c.sized.eight) in
      let own = first_passes (is_of key now) places no_place k c.found inside in
      record {
        sized = c.sized;
        inside = c.inside;
        found = first-later (is_of key now) (is_of key time) (of-before key now time h) places no_place k c.found inside
            (of-later key now time (place_at s.collection k) own (rw c.first l));
        first = c.first;
        content = c.content;
      }

  -- a step under another key
  pub keeps : (come : List Part) (now k : ℕ) (s t : State) → Collecting come now k s → Kept key now k s t → Collecting come now k t
  keeps come now k s t c kept = record {
    sized = record {
      eight = kept.eight ∙ c.sized.eight;
      memory = rw kept.memory c.sized.memory;
    };
    inside = c.inside;
    found = kept.found c.found;
    first = rw kept.place c.first;
    content = rw kept.place (record {
      reach = c.content.reach;
      end = c.content.end;
      any = c.content.any;
      all = c.content.all;
      stand = λ p i h. rw (kept.bytes p.offset (length p.payload) (fits ps payload cut p i).inside) (c.content.stand p i h);
    });
  }
