-- A datagram that is live, earlier and later and with one more piece; and a place that is settled. Assumes nothing.
use Prim.Native.Nat.{ℕ, ◌+◌, ◌≤◌, ◌<◌}
use mathlib.Core.Path.{◌≡◌, refl}
use mathlib.Core.Bool.{true, false, not, ◌&&◌}
use native.Mathlib.Omega.{arith}
use borrow.Author.Tests.{lt-ltb, ltb-true}
use lib.Dec.{eqb, ltb}
use Rattle.lists.proofs.Tests.{and_left, and_right}
use Rattle.refusals.specs.declared.Refusal.TheVariants.{PieceWaits}
use Rattle.pieces.specs.declared.Key.{Key}
use Rattle.pieces.specs.declared.Place.{Place}
use Rattle.pieces.specs.declared.Collection.{Collection}
use Rattle.pieces.specs.Places.{Part, extended_to, lifetime, is_same, is_live, is_of, is_whole, begun, extended, freed}
use Rattle.pieces.specs.Take.{with_place, settled, joined_in}
use Rattle.pieces.proofs.Keys.{key-same}
use Rattle.std.specs.Prelude.{Err}

-- a datagram that was live was live before
pub live-before : (now later : ℕ) (d : Place) → now ≤ later → is_live later d ≡ true → is_live now d ≡ true
unfolding is_live
live-before now later d h l =
    let u = and_left (not (eqb d.used 0)) (ltb later (d.first + lifetime)) l in
    let t = ltb-true later (d.first + lifetime) (and_right (not (eqb d.used 0)) (ltb later (d.first + lifetime)) l) in
    rw (u, lt-ltb now (d.first + lifetime) (omega arith))

pub of-before : (key : Key) (now later : ℕ) → now ≤ later → (d : Place) → is_of key later d ≡ true → is_of key now d ≡ true
unfolding is_of
of-before key now later h d l =
    rw (live-before now later d h (and_left (is_live later d) (is_same key d.key) l), and_right (is_live later d) (is_same key d.key) l)

-- and is so later, within its time
pub of-later : (key : Key) (now later : ℕ) (d : Place) → is_of key now d ≡ true → later < d.first + lifetime → is_of key later d ≡ true
unfolding is_of is_live
of-later key now later d h l =
    let live = and_left (not (eqb d.used 0) && ltb now (d.first + lifetime)) (is_same key d.key) h in
    rw (and_left (not (eqb d.used 0)) (ltb now (d.first + lifetime)) live, lt-ltb later (d.first + lifetime) l)
    (and_right (not (eqb d.used 0) && ltb now (d.first + lifetime)) (is_same key d.key) h)

pub of-extended : (key : Key) (now : ℕ) (p : Part) (d : Place) → is_of key now d ≡ true → is_of key now (extended p d) ≡ true
unfolding is_of is_live extended_to
of-extended key now p d h =
    let live = and_left (not (eqb d.used 0) && ltb now (d.first + lifetime)) (is_same key d.key) h in
    rw (and_right (not (eqb d.used 0)) (ltb now (d.first + lifetime)) live)
    (and_right (not (eqb d.used 0) && ltb now (d.first + lifetime)) (is_same key d.key) h)

pub of-begun : (key : Key) (now : ℕ) (p : Part) → is_of key now (extended p (begun key now)) ≡ true
unfolding is_of is_live extended_to
of-begun key now p = rw (lt-ltb now (now + lifetime) (omega arith)) (key-same key)

pub first-extended : (p : Part) (d : Place) → (extended p d).first ≡ d.first
unfolding extended_to
first-extended p d = refl

pub settled-not : (k : ℕ) (d : Place) (c : Collection) → is_whole d ≡ false
    → settled k d c ≡ record { answer = Err PieceWaits; collection = with_place k d c }
unfolding settled
settled-not k d c h = rw h

pub settled_so : (k : ℕ) (d : Place) (c : Collection) → is_whole d ≡ true
    → settled k d c ≡ record { answer = joined_in k d.end; collection = with_place k (freed d) c }
unfolding settled
settled_so k d c h = rw h
