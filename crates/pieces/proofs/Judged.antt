-- What the code's tests say of the plan, one law for each way out, and the numbers that it reckons with. Assumes nothing.
use Prim.Native.Nat.{ℕ, ◌≤◌, ◌<◌}
use mathlib.Core.Path.{◌≡◌, sym, ap, ◌∙◌}
use mathlib.Core.Bool.{Bool, true, false}
use mathlib.Core.List.{List}
use borrow.Author.Tests.{lt-ltb, le-ltb}
use lib.ListN.{length}
use Rattle.lists.specs.Any.{first_with}
use Rattle.lists.specs.Parts.{part}
use Rattle.units.specs.declared.Held.{Held}
use Rattle.units.specs.Held.{any_held, all_held, range_of, meets, covers}
use Rattle.units.proofs.Ranged.{meets-range, covers-range}
use Rattle.pieces.specs.declared.Key.{Key}
use Rattle.pieces.specs.declared.Place.{Place}
use Rattle.pieces.specs.declared.Collection.{Collection}
use Rattle.pieces.specs.declared.Plan.TheVariants.{Unfit, Ignore, Drop, Extend}
use Rattle.pieces.specs.Places.{Part, places, count_of, is_unfit, is_apart, is_equal, is_of, is_free, byte_at}
use Rattle.pieces.specs.Take.{place_at, plan_held, plan_in, plan_new, plan_of}

-- by the order of the tests: the ends disagree
module _ (k : ℕ) (p : Part) (d : Place) (memory : List ℕ) where
  pub ends_differ : is_apart p d ≡ true → Drop k ≡ plan_in k p d memory
  unfolding plan_in
  ends_differ h = rw h

  -- they agree; the piece fills that range
  module _ (fits : is_apart p d ≡ false) (range : Held) (fill : range ≡ range_of p.offset (count_of p)) where
    any_held_lem : any_held d.held p.offset (count_of p) ≡ meets d.held range
    any_held_lem = sym (ap (meets d.held) fill ∙ meets-range p.offset (count_of p) d.held)

    all_held_lem : all_held d.held p.offset (count_of p) ≡ covers d.held range
    all_held_lem = sym (ap (covers d.held) fill ∙ covers-range p.offset (count_of p) d.held)

    -- nothing of it is held
    pub held_none : meets d.held range ≡ false → Extend k ≡ plan_in k p d memory
    unfolding plan_in plan_held
    held_none h = rw (fits, any_held_lem, h)

    module _ (h : meets d.held range ≡ true) where
      -- some of it is, and some is not
      pub held-some : covers d.held range ≡ false → Drop k ≡ plan_in k p d memory
      unfolding plan_in plan_held
      held-some e = rw (fits, any_held_lem, h, all_held_lem, e)

      -- all is, and what stands in the memory is the same or is not
      module _ (e : covers d.held range ≡ true) (same : Bool) (at : ℕ) (place : at ≡ byte_at k p.offset)
          (bytes : same ≡ is_equal (part at (length p.payload) memory) p.payload) where
        pub held_same : same ≡ true → Ignore ≡ plan_in k p d memory
        unfolding plan_in plan_held
        held_same f = rw (fits, any_held_lem, h, all_held_lem, e, ← place, ← bytes, f)

        pub held-other : same ≡ false → Drop k ≡ plan_in k p d memory
        unfolding plan_in plan_held
        held-other f = rw (fits, any_held_lem, h, all_held_lem, e, ← place, ← bytes, f)

module _ (now : ℕ) (key : Key) (p : Part) (c : Collection) (memory : List ℕ) where
  pub plan_unfit : is_unfit p ≡ true → Unfit ≡ plan_of now key p c memory
  unfolding plan_of
  plan_unfit h = rw h

  module _ (fits : is_unfit p ≡ false) (k : ℕ) (found : k ≡ first_with (is_of key now) c.places) where
    -- the key has a live datagram, or none
    pub plan_found : k < places → plan_in k p (place_at c k) memory ≡ plan_of now key p c memory
    unfolding plan_of
    plan_found h = rw (fits, ← found, lt-ltb k places h)

    pub plan_fresh : places ≤ k → plan_new (first_with (is_free now) c.places) ≡ plan_of now key p c memory
    unfolding plan_of
    plan_fresh h = rw (fits, ← found, le-ltb k places h)
