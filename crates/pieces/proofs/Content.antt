-- One datagram that is collected: what of a cutting's pieces its place and bytes show. Assumes nothing.
use Prim.Native.Nat.{ℕ, ◌*◌, ◌≤◌, ◌<◌, max}
use mathlib.Core.Path.{◌≡◌, refl, sym, ◌∙◌}
use mathlib.Core.Logic.{◌⊎◌, ⊎_elim, inl, inr}
use mathlib.Core.Bool.{Bool, true, false, cond, not, ◌&&◌, ◌||◌, true≢false, and-false}
use mathlib.Core.List.{List, [], ◌∷◌}
use native.Mathlib.Omega.{arith}
use native.Mathlib.Nat.{add-zero, zero-add}
use borrow.Author.Tests.{eq-eqb, ne_eqb, lt-leb}
use lib.Dec.{eqb, leb}
use lib.ListN.{length}
use Rattle.lists.specs.Parts.{part}
use Rattle.lists.proofs.Tests.{tested}
use Rattle.lists.proofs.AnyLaws.{any-replicate, all_replicate}
use Rattle.lent.specs.Written.{over}
use Rattle.units.specs.Held.{any_held, all_held, held_with}
use Rattle.pieces.specs.declared.Key.{Key}
use Rattle.pieces.specs.declared.Place.{Place}
use Rattle.pieces.specs.Places.{Part, ends_apart, extended_to, places, room, memory_room, units_of, end_of, count_of, is_apart, is_whole, byte_at, bytes_of, begun, extended}
use Rattle.pieces.proofs.Joining.{In}
use Rattle.pieces.proofs.Cut.{Fitted, has_come, have_come, fit, AllFit, Lies, lies, apart, final, all_held_lem, all_stand, one-missing, each_come}
use Rattle.pieces.proofs.Apart.{counts, offsets, marks_apart, bytes_apart, marks_own, bytes-own, marks_none}

and_false_or : (b : Bool) → (b && false || false) ≡ false
and_false_or true = refl
and_false_or false = refl

module _ (ps : List Part) (payload : List ℕ) (cut : Fitted ps payload) where
  -- what shows of the pieces that have come
  pub record Content (come : List Part) (k : ℕ) (d : Place) (memory : List ℕ) : Type 0 where
    pub reach : d.reach < length payload
    pub end : (p : Part) → In p ps → p.more ≡ false → d.end ≡ cond (has_come come p) (length payload) 0
    pub any : (p : Part) → In p ps → any_held d.held p.offset (count_of p) ≡ has_come come p
    pub all : (p : Part) → In p ps → all_held d.held p.offset (count_of p) ≡ has_come come p
    pub stand : (p : Part) → In p ps → has_come come p ≡ true → bytes_of k p memory ≡ p.payload

  pub fits : AllFit ps
  fits p i = fit p (cut.fits p i)

  pub lying : (p : Part) → In p ps → Lies 0 (length payload) p
  lying p i = rw (cut.whole, zero-add) at (lies 0 ps cut.runs fits p i)

  -- a piece and another: the same, or apart
  pub both : (p q : Part) → In p ps → In q ps → (p ≡ q) ⊎ ((end_of p ≤ 8 * q.offset) ⊎ (end_of q ≤ 8 * p.offset))
  both p q i j = apart 0 ps cut.runs fits p q i j

  pub some-payload : 0 < length payload
  some-payload = let l = final 0 ps cut.runs in omega (arith, (fits l.0 l.1).some, (lying l.0 l.1).to)

  -- at first nothing has come
  pub content_none : (key : Key) (now k : ℕ) (memory : List ℕ) → Content [] k (begun key now) memory
  unfolding any_held all_held
  content_none key now k memory = record {
    reach = some-payload;
    end = λ p i m. refl;
    any = λ p i. rw (marks_none p (fits p i)) (any-replicate (λ (m : Bool). m) false (count_of p) (counts p (fits p i)));
    all = λ p i. rw (marks_none p (fits p i)) (all_replicate (λ (m : Bool). m) false (count_of p) (counts p (fits p i)));
    stand = λ p i m. absurd (true≢false (sym m));
  }

  module _ (come : List Part) (k : ℕ) (d : Place) (memory : List ℕ) (c : Content come k d memory)
      (h : k < places) (m : memory_room ≤ length memory) (p : Part) (i : In p ps) where
    end_known : (d.end ≡ 0) ⊎ (d.end ≡ length payload)
    end_known =
        let f = final 0 ps cut.runs in
        let e = c.end f.0 f.1 f.2 in
        ⊎_elim (λ t. inr (rw t at e)) (λ t. inl (rw t at e)) (tested (has_come come f.0))

    -- a piece does not disagree about the end
    pub ends-agree : is_apart p d ≡ false
    unfolding ends_apart
    ends-agree = go p.more refl
      where
        go : (b : Bool) → p.more ≡ b → cond b (not (eqb d.end 0) && leb d.end (end_of p)) ((not (eqb d.end 0) && not (eqb d.end (end_of p))) || leb (end_of p) d.reach) ≡ false
        go true e =
            ⊎_elim (λ z. rw z) (λ z. rw (lt-leb d.end (end_of p) (omega (arith, (lying p i).inner e))) (and-false (not (eqb d.end 0)))) end_known
        go false e =
            let last = (lying p i).last e in
            rw (lt-leb (end_of p) d.reach (omega (arith, c.reach)))
            (⊎_elim (λ z. rw z) (λ z. rw (eq-eqb d.end (end_of p) (z ∙ sym last)) (and_false_or (not (eqb d.end 0)))) end_known)

    -- one more has come
    own_come : has_come (p ∷ come) p ≡ true
    own_come = rw (eq-eqb p.offset p.offset refl)

    reach-more : (b : Bool) → p.more ≡ b → cond b (max d.reach (end_of p)) d.reach < length payload
    reach-more true e = omega (arith, c.reach, (lying p i).inner e)
    reach-more false e = c.reach

    -- what holds of p holds of each of the cutting's pieces that is p; the others lie apart
    each : (P : Part → Type 0) → P p → ((q : Part) → In q ps → ((end_of p ≤ 8 * q.offset) ⊎ (end_of q ≤ 8 * p.offset)) → P q) → (q : Part) → In q ps → P q
    each P own others q j = ⊎_elim (λ (e : p ≡ q). rw e at own) (λ a. others q j a) (both p q i j)

    end_more : (q : Part) → In q ps → (q.more ≡ false → cond p.more d.end (end_of p) ≡ cond (has_come (p ∷ come) q) (length payload) 0)
    end_more = each (λ q. q.more ≡ false → cond p.more d.end (end_of p) ≡ cond (has_come (p ∷ come) q) (length payload) 0)
        (λ e. rw (own_come, e) ((lying p i).last e))
        (λ q j a e. rw (offsets p q (fits p i) (fits q j) a) (go q j a e p.more refl))
      where
        go : (q : Part) → In q ps → ((end_of p ≤ 8 * q.offset) ⊎ (end_of q ≤ 8 * p.offset)) → q.more ≡ false → (b : Bool) → p.more ≡ b
            → cond b d.end (end_of p) ≡ cond (has_come come q) (length payload) 0
        go q j a e true f = c.end q j e
        go q j a e false f =
            let x = (lying p i).last f in
            let y = (lying q j).last e in
            let u = (fits p i).some in
            let v = (fits q j).some in
            ⊎_elim (λ z. absurd (omega arith)) (λ z. absurd (omega arith)) a

    pub content_more : Content (p ∷ come) k (extended p d) (over (byte_at k p.offset) p.payload memory)
    unfolding extended_to any_held all_held
    content_more = record {
      reach = reach-more p.more refl;
      end = end_more;
      any = each (λ q. any_held (held_with d.held p.offset (count_of p)) q.offset (count_of q) ≡ has_come (p ∷ come) q)
          (rw (own_come, marks_own p (fits p i) d.held) (any-replicate (λ (m : Bool). m) true (count_of p) (counts p (fits p i))))
          (λ q j a. rw (marks_apart p q (fits p i) (fits q j) a d.held, offsets p q (fits p i) (fits q j) a) (c.any q j));
      all = each (λ q. all_held (held_with d.held p.offset (count_of p)) q.offset (count_of q) ≡ has_come (p ∷ come) q)
          (rw (own_come, marks_own p (fits p i) d.held) (all_replicate (λ (m : Bool). m) true (count_of p) (counts p (fits p i))))
          (λ q j a. rw (marks_apart p q (fits p i) (fits q j) a d.held, offsets p q (fits p i) (fits q j) a) (c.all q j));
      stand = each (λ q. has_come (p ∷ come) q ≡ true → bytes_of k q (over (byte_at k p.offset) p.payload memory) ≡ q.payload)
          (λ e. bytes-own p (fits p i) k h memory m)
          (λ q j a e. rw (bytes_apart p q (fits p i) (fits q j) a k h memory m) (c.stand q j (rw (offsets p q (fits p i) (fits q j) a) at e)));
    }

  module _ (come : List Part) (k : ℕ) (d : Place) (memory : List ℕ) (c : Content come k d memory) where
    -- the datagram is complete exactly if all its pieces have come
    pub complete : is_whole d ≡ have_come come ps
    unfolding is_whole
    complete =
        let f = final 0 ps cut.runs in
        let e = c.end f.0 f.1 f.2 in
        ⊎_elim (λ t. go (rw t at e)) (λ t. let z : d.end ≡ 0 = rw t at e in rw z (sym (one-missing come ps f.0 f.1 t))) (tested (has_come come f.0))
      where
        go : d.end ≡ length payload → (not (eqb d.end 0) && all_held d.held 0 (units_of d.end)) ≡ have_come come ps
        go e =
            let some = some-payload in
            rw (ne_eqb d.end 0 (λ z. omega arith), e, ← cut.whole) (all_held_lem d.held come 0 ps cut.runs c.all)

    -- and then its payload stands in the memory
    pub standing : have_come come ps ≡ true → part (room * k) (length payload) memory ≡ payload
    standing h =
        rw (← cut.whole, ← add-zero (room * k)) (all_stand (room * k) memory 0 ps cut.runs (λ p i. c.stand p i (each_come come ps h p i)))

    -- its end is then the payload's
    pub ending : have_come come ps ≡ true → d.end ≡ length payload
    ending h = let f = final 0 ps cut.runs in rw (each_come come ps h f.0 f.1) at (c.end f.0 f.1 f.2)
