-- A plan changes one place: what comes of it is what the plan takes. Assumes nothing.
use Prim.Native.Nat.{ℕ, ◌<◌}
use mathlib.Core.Path.{◌≡◌, refl, sym, ap, ◌∙◌}
use mathlib.Core.Bool.{Bool, true, false, cond, true≢false}
use mathlib.Core.List.{List}
use native.Mathlib.Omega.{arith}
use lib.ListN.{length, get_or}
use lib.Seq.{set-get_or}
use Rattle.lent.specs.Written.{written_at}
use Rattle.refusals.specs.declared.Refusal.{Refusal}
use Rattle.refusals.specs.declared.Refusal.TheVariants.{PieceWaits, NoPlace, PieceUnfit}
use Rattle.pieces.specs.declared.Key.{Key}
use Rattle.pieces.specs.declared.Place.{Place}
use Rattle.pieces.specs.declared.Collection.{Collection}
use Rattle.pieces.specs.declared.Plan.{Plan}
use Rattle.pieces.specs.declared.Plan.TheVariants.{Unfit, Full, Ignore, Drop, Extend, Begin}
use Rattle.pieces.specs.declared.Change.{Change}
use Rattle.pieces.specs.Places.{Part, places, byte_at, no_place, begun, extended, freed, is_whole}
use Rattle.pieces.specs.Take.{Taken, place_at, with_place, settled, plan_of, taken_by, taken_of, memory_by, joined_in}
use Rattle.pieces.specs.Change.{Placed, changed_place, is_taken, settled_in, changed_by, change_by, change_of}
use Rattle.pieces.proofs.Found.{blank, read_within}
use Rattle.pieces.proofs.Planned.{plan_placed}
use Rattle.std.specs.Prelude.{Err}

-- the place that a plan changes is there
pub placed-there : (plan : Plan) (p : Part) → Placed plan p → changed_place plan < places
placed-there Unfit p h = omega arith
placed-there Full p h = omega arith
placed-there Ignore p h = omega arith
placed-there (Drop k) p h = h
placed-there (Extend k) p h = h.0
placed-there (Begin k) p h = h.0

-- the memory is written where the piece is taken
module _ (p : Part) (memory : List ℕ) where
  pub writes : (plan : Plan) (k at : ℕ) → is_taken plan ≡ true → k ≡ changed_place plan → at ≡ byte_at k p.offset
      → written_at at p.payload memory ≡ memory_by plan p memory
  writes Unfit k at h e f = absurd (true≢false (sym h))
  writes Full k at h e f = absurd (true≢false (sym h))
  writes Ignore k at h e f = absurd (true≢false (sym h))
  writes (Drop j) k at h e f = absurd (true≢false (sym h))
  writes (Extend j) k at h e f = rw (f, e)
  writes (Begin j) k at h e f = rw (f, e)

  pub leaves : (plan : Plan) → is_taken plan ≡ false → memory ≡ memory_by plan p memory
  leaves Unfit h = refl
  leaves Full h = refl
  leaves Ignore h = refl
  leaves (Drop j) h = refl
  leaves (Extend j) h = absurd (true≢false h)
  leaves (Begin j) h = absurd (true≢false h)

-- a datagram that is complete, and one that is not
module _ (k : ℕ) (d : Place) where
  pub settles : (free : Place) → is_whole d ≡ true → free ≡ freed d → record { answer = joined_in k d.end; at = k; place = free } ≡ settled_in k d
  unfolding settled_in
  settles free h e = rw (h, e)

  pub waits : is_whole d ≡ false → record { answer = Err PieceWaits; at = k; place = d } ≡ settled_in k d
  unfolding settled_in
  waits h = rw h

  -- either way it is of place k
  settled_at : (settled_in k d).at ≡ k
  unfolding settled_in
  settled_at = go (is_whole d) (record { answer = joined_in k d.end; at = k; place = freed d }) (record { answer = Err PieceWaits; at = k; place = d }) refl refl
    where
      go : (b : Bool) (x y : Change) → x.at ≡ k → y.at ≡ k → (cond b x y).at ≡ k
      go true x y e f = e
      go false x y e f = f

-- the collection where a change is made
abbrev made : Change → Collection → Taken
made x c = record { answer = x.answer; collection = with_place x.at x.place c }

made-settled : (k : ℕ) (d : Place) (c : Collection) → made (settled_in k d) c ≡ settled k d c
unfolding settled_in settled
made-settled k d c = go (is_whole d)
  where
    go : (b : Bool)
        → made (cond b (record { answer = joined_in k d.end; at = k; place = freed d }) (record { answer = Err PieceWaits; at = k; place = d })) c
        ≡ cond b (record { answer = joined_in k d.end; collection = with_place k (freed d) c }) (record { answer = Err PieceWaits; collection = with_place k d c })
    go true = refl
    go false = refl

-- where no place is changed
made_none : (r : Refusal) (c : Collection) → made (record { answer = Err r; at = 0; place = place_at c 0 }) c ≡ record { answer = Err r; collection = c }
made_none r c =
    ap (λ (ds : List Place). record { answer = Err r; collection = record { places = ds } }) (set-get_or c.places 0 no_place)

module _ (now : ℕ) (key : Key) (p : Part) (c : Collection) where
  made_by : (plan : Plan) → made (change_by plan now key p c) c ≡ taken_by plan now key p c
  made_by Unfit = made_none PieceUnfit c
  made_by Full = made_none NoPlace c
  made_by Ignore = made_none PieceWaits c
  made_by (Drop k) = refl
  made_by (Extend k) = made-settled k (extended p (place_at c k)) c
  made_by (Begin k) = made-settled k (extended p (begun key now)) c

  at-changed : (plan : Plan) → (change_by plan now key p c).at ≡ changed_place plan
  at-changed Unfit = refl
  at-changed Full = refl
  at-changed Ignore = refl
  at-changed (Drop k) = refl
  at-changed (Extend k) = settled_at k (extended p (place_at c k))
  at-changed (Begin k) = settled_at k (extended p (begun key now))

  -- what comes of a piece is what comes of the one place that it changes
  module _ (memory : List ℕ) where
    pub taken_change : taken_of now key p c memory
        ≡ record { answer = (change_of now key p c memory).answer; collection = with_place (change_of now key p c memory).at (change_of now key p c memory).place c }
    unfolding taken_of change_of
    taken_change = sym (made_by (plan_of now key p c memory))

    -- and that place is there
    pub change_at : (change_of now key p c memory).at < places
    unfolding change_of
    change_at =
        let plan = plan_of now key p c memory in
        omega (arith, at-changed plan, placed-there plan p (plan_placed now key p c memory))

-- what the code makes of a plan, which reads the place k
pub carries : (plan : Plan) (now : ℕ) (key : Key) (p : Part) (c : Collection) (k : ℕ) (x : Change) → length c.places ≡ places → changed_place plan < places
    → k ≡ changed_place plan → x ≡ changed_by plan now key p (get_or c.places k blank) → x ≡ change_by plan now key p c
carries plan now key p c k x full there e f =
    let within : get_or c.places k blank ≡ get_or c.places k no_place = read_within c.places k blank no_place (omega arith) in
    rw (← e) (f ∙ ap (λ (d : Place). changed_by plan now key p d) within)
