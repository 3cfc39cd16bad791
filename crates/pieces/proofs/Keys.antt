-- Keys, and the datagrams that have them; and lists of bytes that are the same. Assumes nothing.
use Prim.Native.Nat.{ℕ}
use mathlib.Core.Path.{◌≡◌, refl, sym, ◌∙◌}
use mathlib.Core.Bool.{true, ◌&&◌, true≢false}
use mathlib.Core.List.{List, [], ◌∷◌}
use borrow.Author.Tests.{eq-eqb, eqb-true, not-true}
use lib.Dec.{eqb}
use Rattle.lists.proofs.Tests.{and_left, and_right}
use Rattle.pieces.specs.declared.Key.{Key}
use Rattle.pieces.specs.declared.Place.{Place}
use Rattle.pieces.specs.Places.{is_same, is_live, is_free, is_of, is_equal}

pub same_key : (a b : Key) → is_same a b ≡ true → a ≡ b
unfolding is_same
same_key a b h =
    let abc = and_left (eqb a.source b.source && eqb a.destination b.destination && eqb a.protocol b.protocol) _ h in
    let ab = and_left (eqb a.source b.source && eqb a.destination b.destination) _ abc in
    let s = eqb-true a.source b.source (and_left (eqb a.source b.source) _ ab) in
    let d = eqb-true a.destination b.destination (and_right (eqb a.source b.source) _ ab) in
    let p = eqb-true a.protocol b.protocol (and_right (eqb a.source b.source && eqb a.destination b.destination) _ abc) in
    let i = eqb-true a.identification b.identification (and_right (eqb a.source b.source && eqb a.destination b.destination && eqb a.protocol b.protocol) _ h) in
    made a.source b.source a.destination b.destination a.protocol b.protocol a.identification b.identification s d p i
  where
    made : (s s' d d' p p' i i' : ℕ) → s ≡ s' → d ≡ d' → p ≡ p' → i ≡ i'
        → ◌≡◌ {A = Key} (record { source = s; destination = d; protocol = p; identification = i }) (record { source = s'; destination = d'; protocol = p'; identification = i' })
    made s s' d d' p p' i i' a b c e = cc

pub key-same : (a : Key) → is_same a a ≡ true
unfolding is_same
key-same a =
    rw (eq-eqb a.source a.source refl, eq-eqb a.destination a.destination refl, eq-eqb a.protocol a.protocol refl, eq-eqb a.identification a.identification refl)

pub of_live : (key : Key) (now : ℕ) (d : Place) → is_of key now d ≡ true → is_live now d ≡ true
unfolding is_of
of_live key now d h = and_left (is_live now d) (is_same key d.key) h

pub of-key : (key : Key) (now : ℕ) (d : Place) → is_of key now d ≡ true → key ≡ d.key
unfolding is_of
of-key key now d h = same_key key d.key (and_right (is_live now d) (is_same key d.key) h)

pub not_free : (now : ℕ) (d : Place) → is_free now d ≡ true → is_live now d ≡ true → ⊥
unfolding is_free
not_free now d h l = true≢false (sym l ∙ not-true (is_live now d) h)

pub equal-same : (xs : List ℕ) → is_equal xs xs ≡ true
equal-same [] = refl
equal-same (x ∷ xs) = rw (eq-eqb x x refl) (equal-same xs)
