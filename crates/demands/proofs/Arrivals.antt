-- 11, 15, 2, 3, 4, 6, 7 of datagrams that pass 2 and 3 and have one key: they come to the same. Assumes nothing.
use Rattle.std.specs.Prelude.{Result, Ok, Err}
use Prim.Native.Nat.{ℕ, ◌≤◌, ◌<◌}
use mathlib.Core.Path.{◌≡◌, refl, sym, ap, ◌∙◌}
use mathlib.Core.Logic.{◌⊎◌, ⊎_elim, inl, inr}
use mathlib.Core.Bool.{Bool, true, false, not}
use mathlib.Core.List.{List, [], ◌∷◌}
use borrow.Author.Tests.{eqb-true, not-false, lt-ltb, le-ltb, ltb-true, ltb-false}
use lib.Dec.{eqb, ltb}
use lib.ListN.{get_or, length}
use Rattle.lists.specs.Any.{Some}
use Rattle.lists.proofs.Tests.{tested}
use Rattle.lists.proofs.Decides.{fails}
use Rattle.checksum.specs.Sum.{is_right_from}
use Rattle.refusals.specs.Given.{number_in}
use Rattle.refusals.specs.Refusals.{number_of, first_of}
use Rattle.refusals.proofs.Laws.{all_false}
use Rattle.refusals.specs.declared.Refusal.{Refusal}
use Rattle.refusals.specs.declared.Refusal.TheVariants.{NoLocator, OtherProtocol, NotForUs, OuterSourceForbidden, OutputShort}
use Rattle.header.specs.Numbers.{ipv6}
use Rattle.header.specs.Fields.{quad_at}
use Rattle.header.specs.Outer.{outer_of, is_outer_malformed, is_sum_wrong}
use Rattle.settings.specs.Settings.{forbidden_to, is_our_locator}
use Rattle.settings.proofs.Facts.{decides_forbidden_to, decides_our_locator}
use Rattle.settings.specs.declared.Settings.{Settings}
use Rattle.pieces.specs.Places.{memory_room}
use Rattle.receiving.specs.Collect.{arrival_rows, is_piece}
use Rattle.receiving.specs.Facts.{SumRight, Encapsulates, ForUs, OuterBad}
use Rattle.receiving.specs.Receive.{received_given}
use Rattle.receiving.proofs.Facts.{outer_whole-bytes, bytes-whole_outer, decides_piece}
use Rattle.receiving.specs.declared.Received.{Received}
use Rattle.demands.specs.Cuttings.{SameKey, HeaderRight, Cutting, Repeats}
use Rattle.demands.proofs.PieceOf.{key_trans}
use Rattle.demands.proofs.Seats.{Seat, collected_at}
use Rattle.demands.proofs.Steps.{arrivals, arrival, stopped}
use Rattle.demands.proofs.Handed.{pass_stop, number}

-- what 11, 4, 6 and 7 ask of a seat: whether the service is there, and its settings
abbrev pub judge_of : Seat → Bool × Settings
judge_of n = (n.there, n.service.settings)

-- 4, 6 and 7, by the key and the interface
abbrev key_rows : Settings → ℕ → List ℕ → List (Bool × Refusal)
key_rows s i d =
    (not (eqb (get_or d 9 0) ipv6), OtherProtocol)
    ∷ (not (is_our_locator s (quad_at d 16) i), NotForUs)
    ∷ (forbidden_to s (quad_at d 12), OuterSourceForbidden)
    ∷ []

-- the first of 11, 4, 6 and 7
abbrev pub onward : Bool × Settings → ℕ → List ℕ → Result Unit Refusal
onward q i d = first_of ((not q.0, NoLocator) ∷ key_rows q.1 i d)

pub onward_same : (q : Bool × Settings) (i : ℕ) {e d : List ℕ} → SameKey e d → onward q i e ≡ onward q i d
onward_same q i k = rw (k.protocol, k.destination, k.source)

-- what passes is for a service that is there
pub onward_there : (q : Bool × Settings) (i : ℕ) (d : List ℕ) → onward q i d ≡ Ok tt → q.0 ≡ true
onward_there q i d h = not-false _ (all_false ((not q.0, NoLocator) ∷ key_rows q.1 i d) h).0

module _ (n : Seat) (e : List ℕ) (i : ℕ) (memory : List ℕ) where
  sum-right : SumRight e → is_sum_wrong e (outer_of e) ≡ false
  unfolding is_sum_wrong is_right_from outer_of
  sum-right h = rw h

  right-sum : is_sum_wrong e (outer_of e) ≡ false → SumRight e
  unfolding is_sum_wrong is_right_from outer_of
  right-sum h = eqb-true _ _ (not-false _ h)

  -- the fields that 4, 6 and 7 ask are the key's
  key_fields : first_of
      ((not (eqb (outer_of e).protocol ipv6), OtherProtocol)
      ∷ (not (is_our_locator n.service.settings (outer_of e).destination i), NotForUs)
      ∷ (forbidden_to n.service.settings (outer_of e).source, OuterSourceForbidden)
      ∷ [])
      ≡ first_of (key_rows n.service.settings i e)
  unfolding outer_of
  key_fields = refl

  -- with memory enough for a service that is there, a header that is right goes on to 4, 6 and 7
  pub goes_onward : (n.there ≡ true → memory_room ≤ length memory) → HeaderRight e → arrival n e i memory ≡ onward (judge_of n) i e
  goes_onward enough h = go n.there refl
    where
      go : (t : Bool) → n.there ≡ t → first_of ((not t, NoLocator) ∷ arrival_rows n.service.settings i (length memory) e (outer_of e)) ≡ onward (t, n.service.settings) i e
      go true is =
          let a : ltb (length memory) memory_room ≡ false = le-ltb (length memory) memory_room (enough is) in
          let b : is_outer_malformed (length e) (outer_of e) ≡ false = bytes-whole_outer e h.whole in
          let c : is_sum_wrong e (outer_of e) ≡ false = sum-right h.sum in
          rw (a, b, c) key_fields
      go false is = refl

  -- with less it is refused by 15
  pub too_short : n.there ≡ true → length memory < memory_room → arrival n e i memory ≡ Err OutputShort
  too_short is l = rw (is, lt-ltb (length memory) memory_room l)

  -- what passes
  pub record Passed : Type 0 where
    pub there : n.there ≡ true
    pub right : HeaderRight e
    pub encapsulates : Encapsulates e
    pub for_us : ForUs n.service.settings e i
    pub allowed : OuterBad n.service.settings e → ⊥

  protocol-is : not (eqb (outer_of e).protocol ipv6) ≡ false → Encapsulates e
  unfolding outer_of
  protocol-is z = eqb-true _ _ (not-false _ z)

  for_us_lem : not (is_our_locator n.service.settings (outer_of e).destination i) ≡ false → ForUs n.service.settings e i
  unfolding outer_of
  for_us_lem z = (decides_our_locator n.service.settings (quad_at e 16) i).holds (not-false _ z)

  not_bad : forbidden_to n.service.settings (outer_of e).source ≡ false → OuterBad n.service.settings e → ⊥
  unfolding outer_of
  not_bad z = fails _ (decides_forbidden_to n.service.settings (quad_at e 12)) z

  pub passed : arrival n e i memory ≡ Ok tt → Passed
  passed h =
      let f = all_false (arrivals n e i memory) h in
      let g = f.1.1.1.1 in
      record {
        there = not-false _ f.0;
        right = record { whole = outer_whole-bytes e f.1.1.0; sum = right-sum f.1.1.1.0 };
        encapsulates = protocol-is g.0;
        for_us = for_us_lem g.1.0;
        allowed = not_bad g.1.1.0;
      }

-- 11, 4, 6 and 7 give no other number
pub onward_number : (q : Bool × Settings) (i : ℕ) (d : List ℕ) (r : Refusal) → onward q i d ≡ Err r
    → (number_of r ≡ 4) ⊎ ((number_of r ≡ 6) ⊎ ((number_of r ≡ 7) ⊎ (number_of r ≡ 11)))
onward_number q i d r h = go (not q.0) (not (eqb (get_or d 9 0) ipv6)) (not (is_our_locator q.1 (quad_at d 16) i)) (forbidden_to q.1 (quad_at d 12)) h
  where
    go : (t a b c : Bool) → first_of ((t, NoLocator) ∷ (a, OtherProtocol) ∷ (b, NotForUs) ∷ (c, OuterSourceForbidden) ∷ []) ≡ Err r
        → (number_of r ≡ 4) ⊎ ((number_of r ≡ 6) ⊎ ((number_of r ≡ 7) ⊎ (number_of r ≡ 11)))
    go true a b c e = inr (inr (inr (ap number_in (sym e))))
    go false true b c e = inl (ap number_in (sym e))
    go false false true c e = inr (inl (ap number_in (sym e)))
    go false false false true e = inr (inr (inl (ap number_in (sym e))))
    go false false false false e = absurd (pass_stop r e)

-- ---- one of the pieces of a cutting, not refused by 15

module _ (i : ℕ) (d : List ℕ) (ps : List (List ℕ)) (cut : Cutting d ps) (n : Seat) (e : List ℕ) (time : ℕ) (memory : List ℕ)
    (one : Some (Repeats e) ps) (long : number n e i time memory ≡ 15 → ⊥) where
  abbrev p : List ℕ
  p = one.0

  repeats : Repeats e p
  repeats = one.2

  pub one_key : SameKey e d
  one_key = key_trans repeats.key (cut.pieces p one.1).2

  pub one_piece : is_piece (outer_of e) ≡ true
  one_piece = (decides_piece e).passes (λ u. (cut.pieces p one.1).1 (sym repeats.fragment ∙ u))

  -- its number is that of its answer
  refused_by_lem : (r : Refusal) → (collected_at n e i time memory).answer ≡ Err r → number n e i time memory ≡ number_of r
  refused_by_lem r h = ap (λ (a : Result Received Refusal). (received_given a).number) h

  pub one-memory : n.there ≡ true → memory_room ≤ length memory
  one-memory is =
      ⊎_elim (λ t. absurd (long (refused_by_lem OutputShort (stopped n e i time memory OutputShort (too_short n e i memory is (ltb-true _ _ t)))))) (λ t. ltb-false _ _ t)
      (tested (ltb (length memory) memory_room))

  pub one-arrival : arrival n e i memory ≡ onward (judge_of n) i d
  one-arrival = goes_onward n e i memory one-memory repeats.right ∙ onward_same (judge_of n) i one_key

  -- where 11, 4, 6 or 7 refuses, that is its answer
  pub one_stops : (r : Refusal) → onward (judge_of n) i d ≡ Err r → (collected_at n e i time memory).answer ≡ Err r
  one_stops r h = stopped n e i time memory r (one-arrival ∙ h)
