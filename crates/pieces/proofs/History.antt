-- Whatever is handed in, each place in use has the datagram of the pieces that were taken into it. Assumes nothing.
use Prim.Native.Nat.{ℕ, ◌<◌}
use mathlib.Core.Path.{◌≡◌, refl, sym, ap, ◌∙◌}
use mathlib.Core.Logic.{⊎_elim}
use mathlib.Core.List.Memᴰ
use mathlib.Core.List.{List, [], ◌∷◌}
use native.Mathlib.Omega.{arith}
use borrow.Author.Tests.{eqb-true, eqb-false, eq-eqb, ne_eqb}
use lib.Dec.{eqb}
use lib.ListN.{length, length-set, get_or-replicate}
use lib.Seq.{get_or-set_same, get_or-set_other}
use Rattle.lists.proofs.Tests.{tested, by_test}
use Rattle.pieces.specs.declared.Place.{Place}
use Rattle.pieces.specs.declared.Collection.{Collection}
use Rattle.pieces.specs.declared.Plan.{Plan}
use Rattle.pieces.specs.declared.Plan.TheVariants as plan
use Rattle.pieces.specs.Places.{Part, places, no_place, is_whole, extended_to, extended, begun, freed}
use Rattle.pieces.specs.Take.{Taken, with_place, settled, taken_by, taken_of}
use Rattle.pieces.specs.Facts.{Unfit, datagram_at}
use Rattle.pieces.specs.Exactly.{Continues}
use Rattle.pieces.specs.History.{NoneUnfit, Handed, plan_for, taken_into, Grown, nothing, grown_by, grown, pieces, Collects, HistoryTells}
use Rattle.pieces.proofs.Live.{first-extended}
use Rattle.pieces.proofs.Planning.{PlanFact, plan_exactly}
use Rattle.pieces.proofs.Tells.{tells_more, tells_first}

-- each place in use has the datagram of those that were taken into it
pub record EachCollects (c : Collection) (taken : ℕ → List Handed) : Type 0 where
  pub eight : length c.places ≡ places
  pub collects : (k : ℕ) → k < 8 → ((datagram_at c k).used ≡ 0 → ⊥) → Collects (taken k) (datagram_at c k)

-- ---- one more piece of a datagram, and the first of one

key-extended : (p : Part) (d : Place) → (extended p d).key ≡ d.key
unfolding extended_to
key-extended p d = refl

fit-with : (p : Part) (ps : List Part) → (Unfit p → ⊥) → NoneUnfit ps → NoneUnfit (p ∷ ps)
fit-with p ps nf fit q i u = ⊎_elim (λ (e : q ≡ p). nf (rw e at u)) (λ j. fit q j u) (Memᴰ.cases_cons i)

module _ (x : Handed) (c : Collection) (nf : Unfit x.piece → ⊥) where
  collects-more : (xs : List Handed) (k : ℕ) → Continues x.time x.key x.piece c x.memory k → Collects xs (datagram_at c k)
      → Collects (x ∷ xs) (extended x.piece (datagram_at c k))
  collects-more xs k more old =
      let d = datagram_at c k in
      record {
        tells = tells_more (pieces xs) d old.tells old.fit x.piece nf more.agrees;
        fit = fit-with x.piece (pieces xs) nf old.fit;
        keys = λ y i.
            rw (key-extended x.piece d) (⊎_elim (λ (e : y ≡ x). rw e more.place.here.same) (λ j. old.keys y j) (Memᴰ.cases_cons i));
        later = x ∷ old.later;
        oldest = old.oldest;
        order = ap (λ (l : List Handed). x ∷ l) old.order;
        first = old.first ∙ sym (first-extended x.piece d);
      }

  collects-first : Collects (x ∷ []) (extended x.piece (begun x.key x.time))
  collects-first =
      let d = begun x.key x.time in
      record {
        tells = tells_first x.key x.time x.piece nf;
        fit = fit-with x.piece [] nf (λ q i. absurd (Memᴰ.not-nil i));
        keys = λ y i.
            rw (key-extended x.piece d)
            (⊎_elim (λ (e : y ≡ x). rw e (record { source = refl; destination = refl; protocol = refl; identification = refl })) (λ j. absurd (Memᴰ.not-nil j)) (Memᴰ.cases_cons i));
        later = [];
        oldest = x;
        order = refl;
        first = sym (first-extended x.piece d);
      }

-- ---- what a step keeps

module _ (c : Collection) (taken : ℕ → List Handed) (kept : EachCollects c taken) (j : ℕ) (h : j < places) where
  -- place j has another datagram, or none
  kept-with : (d : Place) (next : ℕ → List Handed) → ((k : ℕ) → (k ≡ j → ⊥) → next k ≡ taken k) → ((d.used ≡ 0 → ⊥) → Collects (next j) d)
      → EachCollects (with_place j d c) next
  kept-with d next others own = record {
    eight = length-set c.places j d ∙ kept.eight;
    collects = λ k i u.
        ⊎_elim (λ t. here k (eqb-true k j t) u) (λ t. there k (eqb-false k j t) i u) (tested (eqb k j));
  }
    where
      here : (k : ℕ) → k ≡ j → ((datagram_at (with_place j d c) k).used ≡ 0 → ⊥) → Collects (next k) (datagram_at (with_place j d c) k)
      here k e u =
          let at : datagram_at (with_place j d c) j ≡ d = get_or-set_same c.places j d no_place (omega (arith, kept.eight)) in
          rw (e, at) (own (rw (e, at) at u))

      there : (k : ℕ) → (k ≡ j → ⊥) → k < 8 → ((datagram_at (with_place j d c) k).used ≡ 0 → ⊥) → Collects (next k) (datagram_at (with_place j d c) k)
      there k n i u =
          let at : datagram_at (with_place j d c) k ≡ datagram_at c k = get_or-set_other c.places j k d no_place n in
          rw (at, others k n) (kept.collects k i (rw at at u))

  kept-settled : (d : Place) (next : ℕ → List Handed) → ((k : ℕ) → (k ≡ j → ⊥) → next k ≡ taken k) → Collects (next j) d → EachCollects (settled j d c).collection next
  unfolding settled
  kept-settled d next others own =
      by_test (λ (t : Taken). EachCollects t.collection next) (is_whole d) _ _
      (λ t. kept-with (freed d) next others (λ u. absurd (u refl))) (λ t. kept-with d next others (λ u. own))

module _ (x : Handed) (c : Collection) (taken : ℕ → List Handed) (kept : EachCollects c taken) where
  kept_by : (made : Plan) → PlanFact x.time x.key x.piece c x.memory made
      → EachCollects (taken_by made x.time x.key x.piece c).collection (taken_into made x taken)
  kept_by plan.Unfit f = record { eight = kept.eight; collects = kept.collects }
  kept_by plan.Full f = record { eight = kept.eight; collects = kept.collects }
  kept_by plan.Ignore f = record { eight = kept.eight; collects = kept.collects }
  kept_by (plan.Drop j) f = kept-with c taken kept j f.1.place.inside (freed (datagram_at c j)) (taken_into (plan.Drop j) x taken) (λ k n. refl) (λ u. absurd (u refl))
  kept_by (plan.Extend j) f =
      let place = f.1.place in
      let old = kept.collects j place.inside place.here.live.used in
      kept-settled c taken kept j place.inside (extended x.piece (datagram_at c j)) (taken_into (plan.Extend j) x taken)
      (λ k n. rw (ne_eqb k j n)) (rw (eq-eqb j j refl) (collects-more x c f.0 (taken j) j f.1 old))
  kept_by (plan.Begin j) f =
      kept-settled c taken kept j f.1.place.inside (extended x.piece (begun x.key x.time)) (taken_into (plan.Begin j) x taken)
      (λ k n. rw (ne_eqb k j n)) (rw (eq-eqb j j refl) (collects-first x c f.0))

kept-after : (g : Grown) (x : Handed) → EachCollects g.collection g.taken → EachCollects (grown_by g x).collection (grown_by g x).taken
unfolding taken_of
kept-after g x kept =
    kept_by x g.collection g.taken kept (plan_for g.collection x)
    (plan_exactly x.time x.key x.piece g.collection x.memory kept.eight).only_if

kept-all : (xs : List Handed) (g : Grown) → EachCollects g.collection g.taken → EachCollects (grown g xs).collection (grown g xs).taken
kept-all [] g kept = kept
kept-all (x ∷ xs) g kept = kept-all xs (grown_by g x) (kept-after g x kept)

pub kept-grown : (xs : List Handed) → EachCollects (grown nothing xs).collection (grown nothing xs).taken
kept-grown xs = kept-all xs nothing (record {
  eight = refl;
  collects = λ k i u. absurd (u (ap (λ (d : Place). d.used) (get_or-replicate places k no_place no_place i)));
})

pub history_tells : HistoryTells
history_tells xs k i u = (kept-grown xs).collects k i u
