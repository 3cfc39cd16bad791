-- The number of a piece, what is written and what becomes of the collection are exactly what the plain facts say. Assumes nothing.
use Prim.Native.Nat.{ℕ, ◌≤◌, ◌<◌}
use mathlib.Core.Path.{◌≡◌, refl, sym, ap, subst, ◌∙◌}
use mathlib.Core.Logic.{⊎_elim, inl, inr}
use mathlib.Core.Bool.{true, false, true≢false}
use mathlib.Core.List.{List}
use native.Mathlib.Omega.{arith}
use lib.ListN.{length}
use lib.Seq.{get_or-set_same, get_or-set_other}
use Rattle.lists.proofs.Tests.{tested, by_test}
use Rattle.lists.proofs.Decides.{fails}
use Rattle.refusals.specs.Refusals.{AnswersFirst}
use Rattle.refusals.specs.declared.Refusal.TheVariants.{PieceWaits}
use Rattle.pieces.specs.declared.Key.{Key}
use Rattle.pieces.specs.declared.Place.{Place}
use Rattle.pieces.specs.declared.Collection.{Collection}
use Rattle.pieces.specs.declared.Plan.{Plan}
use Rattle.pieces.specs.declared.Plan.TheVariants as plan
use Rattle.pieces.specs.declared.Joined.{Joined}
use Rattle.pieces.specs.Places.{Part, places, is_of, is_apart, is_whole, no_place, begun, extended_to, extended, freed}
use Rattle.pieces.specs.Take.{Taken, with_place, settled, plan_of, taken_by, memory_by, taken_of, memory_of, joined_in}
use Rattle.pieces.specs.Facts.{Unfit, LiveOf, Contradicts, NoneFree, Ignored, JoinedAt, piece_facts, datagram_at}
use Rattle.pieces.specs.Exactly.{OnlyAt, Continues, Begins, PieceExactly}
use Rattle.pieces.proofs.Kept.{writes}
use Rattle.pieces.proofs.Changes.{code, place_in}
use Rattle.pieces.proofs.Facts.{decides_apart, decides_live-of}
use Rattle.pieces.proofs.Marks.{whole_completes, completes_whole, whole-alone, alone-whole}
use Rattle.pieces.proofs.Planning.{PlanFact, lowest_one, fit_of_lem, plan_exactly}
use Rattle.std.specs.Prelude.{Result, Err}
use Rattle.refusals.specs.declared.Refusal.{Refusal}

-- plans are told apart by numbers
abbrev kind : Plan → ℕ
kind plan.Unfit = 0
kind plan.Full = 1
kind plan.Ignore = 2
kind (plan.Drop k) = 3
kind (plan.Extend k) = 4
kind (plan.Begin k) = 5

module _ (now : ℕ) (key : Key) (p : Part) (c : Collection) (memory : List ℕ) (eight : length c.places ≡ places) where
  abbrev Fact : Plan → Type 0
  Fact = PlanFact now key p c memory

  record Answered (answer : Result Joined Refusal) : Type 0 where
    place : ℕ
    size : ℕ
    answers : AnswersFirst Err (piece_facts now key p c memory) (joined_in place size) answer
    joins : answer ≡ joined_in place size → JoinedAt now key p c memory place size

  module _ (made : Plan) (e : plan_of now key p c memory ≡ made) where
    -- no other plan has its fact
    other : (q : Plan) → Fact q → made ≡ q
    other q f = sym e ∙ (plan_exactly now key p c memory eight).whenever q f

    no_clash : (Unfit p → ⊥) → (kind made ≡ 3 → ⊥) → (k : ℕ) × Contradicts now key p c memory k → ⊥
    no_clash nf n f = n (ap kind (other (plan.Drop f.0) (nf, f.1)))

    not_full : (Unfit p → ⊥) → (kind made ≡ 1 → ⊥) → NoneFree now key p c memory → ⊥
    not_full nf n f = n (ap kind (other plan.Full (nf, f)))

    not_ignored : (Unfit p → ⊥) → (kind made ≡ 3 → ⊥) → (kind made ≡ 2 → ⊥) → (k : ℕ) → Ignored now key p c memory k → ⊥
    not_ignored nf n m k f =
        let d = datagram_at c k in
        ⊎_elim (λ t. n (ap kind (other (plan.Drop k) (nf, record { place = f.place; clash = inl ((decides_apart p d).holds t) }))))
        (λ t. m (ap kind (other plan.Ignore (nf, (k, f, fails (is_apart p d) (decides_apart p d) t))))) (tested (is_apart p d))

  -- a piece that is taken waits, unless it completes a datagram
  answered-settled : (made : Plan) → plan_of now key p c memory ≡ made → (Unfit p → ⊥) → 4 ≤ kind made → (k : ℕ) (d : Place)
      → (is_whole d ≡ true → JoinedAt now key p c memory k d.end) → (is_whole d ≡ false → (j n : ℕ) → JoinedAt now key p c memory j n → ⊥)
      → Answered (settled k d c).answer
  unfolding settled
  answered-settled made e nf h k d joined waits =
      let clash = no_clash made e nf (λ i. omega arith) in
      let full = not_full made e nf (λ i. omega arith) in
      let ignored = not_ignored made e nf (λ i. omega arith) (λ i. omega arith) in
      by_test (λ (t : Taken). Answered t.answer) (is_whole d) _ _
      (λ t. record {
        place = k;
        size = d.end;
        answers = inr (nf, inr (clash, inr (full, inr (⊎_elim (λ i. ignored i.0 i.1) (λ n. n k d.end (joined t)), refl))));
        joins = λ i. joined t;
      })
      (λ t. record {
        place = 0;
        size = 0;
        answers = inr (nf, inr (clash, inr (full, inl (inr (waits t), refl))));
        joins = λ i. absurd (omega (arith, ap code i));
      })

  answered_by_lem : (plan : Plan) → plan_of now key p c memory ≡ plan → Fact plan → Answered (taken_by plan now key p c).answer
  answered_by_lem plan.Unfit e f = record { place = 0; size = 0; answers = inl (f, refl); joins = λ i. absurd (omega (arith, ap code i)) }
  answered_by_lem plan.Full e f = record {
    place = 0;
    size = 0;
    answers = inr (f.0, inr (no_clash plan.Full e f.0 (λ i. omega arith), inl (f.1, refl)));
    joins = λ i. absurd (omega (arith, ap code i));
  }
  answered_by_lem plan.Ignore e f = record {
    place = 0;
    size = 0;
    answers = inr (f.0, inr (no_clash plan.Ignore e f.0 (λ i. omega arith), inr (not_full plan.Ignore e f.0 (λ i. omega arith), inl (inl (f.1.0, f.1.1), refl))));
    joins = λ i. absurd (omega (arith, ap code i));
  }
  answered_by_lem (plan.Drop k) e f = record {
    place = 0;
    size = 0;
    answers = inr (f.0, inl ((k, f.1), refl));
    joins = λ i. absurd (omega (arith, ap code i));
  }
  answered_by_lem (plan.Extend k) e f =
      let d = datagram_at c k in
      let fp = fit_of_lem p f.0 in
      let low = f.1.place in
      answered-settled (plan.Extend k) e f.0 (omega arith) k (extended p d) (λ t. inl (low, whole_completes p fp d t))
      (λ t j n. ⊎_elim
      (λ g.
      let same : j ≡ k = lowest_one c eight (is_of key now) (LiveOf now key) (λ x. decides_live-of now x key) j k g.0 low in
      true≢false (sym (completes_whole p fp d n (rw same at g.1)).0 ∙ t))
      (λ g. g.0.0 k low.inside low.here))
  answered_by_lem (plan.Begin k) e f =
      let d = begun key now in
      let fp = fit_of_lem p f.0 in
      answered-settled (plan.Begin k) e f.0 (omega arith) k (extended p d) (λ t. inr ((f.1.new, f.1.place), whole-alone p fp key now t))
      (λ t j n. ⊎_elim (λ g. f.1.new j g.0.inside g.0.here) (λ g. true≢false (sym (alone-whole p fp key now g.1.0 g.1.1) ∙ t)))

  stays_by : (plan : Plan) → Fact plan → ((k : ℕ) → (Unfit p → ⊥) → Continues now key p c memory k → ⊥)
      → ((k : ℕ) → (Unfit p → ⊥) → Begins now key p c memory k → ⊥) → memory_by plan p memory ≡ memory
  stays_by plan.Unfit f m n = refl
  stays_by plan.Full f m n = refl
  stays_by plan.Ignore f m n = refl
  stays_by (plan.Drop k) f m n = refl
  stays_by (plan.Extend k) f m n = absurd (m k f.0 f.1)
  stays_by (plan.Begin k) f m n = absurd (n k f.0 f.1)

  -- ---- the collection afterwards

  -- another datagram in place k stands there, and no other place changes
  put-here : (k : ℕ) (d : Place) → k < places → datagram_at (with_place k d c) k ≡ d
  put-here k d h = get_or-set_same c.places k d no_place (omega (arith, eight))

  put_only : (k : ℕ) (d : Place) → OnlyAt k c (with_place k d c)
  put_only k d j n = get_or-set_other c.places k j d no_place n

  -- the datagram d, with the piece, went into place k
  record Into (k : ℕ) (d : Place) (t : Taken) : Type 0 where
    only : OnlyAt k c t.collection
    first : (datagram_at t.collection k).first ≡ d.first
    keyed : (datagram_at t.collection k).key ≡ d.key
    waits : t.answer ≡ Err PieceWaits → (datagram_at t.collection k).used ≡ d.used
    frees : (j n : ℕ) → t.answer ≡ joined_in j n → (datagram_at t.collection j).used ≡ 0

  into_settled : (k : ℕ) (d : Place) → k < places → Into k d (settled k d c)
  unfolding settled
  into_settled k d h =
      by_test (Into k d) (is_whole d) _ _
      (λ t.
      let here = put-here k (freed d) h in
      record {
        only = put_only k (freed d);
        first = ap (λ (x : Place). x.first) here;
        keyed = ap (λ (x : Place). x.key) here;
        waits = λ e. absurd (omega (arith, ap code e));
        frees = λ j n e. let same : k ≡ j = ap place_in e in rw (← same) (ap (λ (x : Place). x.used) here);
      })
      (λ t.
      let here = put-here k d h in
      record {
        only = put_only k d;
        first = ap (λ (x : Place). x.first) here;
        keyed = ap (λ (x : Place). x.key) here;
        waits = λ e. ap (λ (x : Place). x.used) here;
        frees = λ j n e. absurd (omega (arith, ap code e));
      })

  -- what is taken as planned holds of what is taken
  as_planned : (P : Taken → Type 0) (q : Plan) → Fact q → P (taken_by q now key p c) → P (taken_of now key p c memory)
  unfolding taken_of
  as_planned P q f h = subst (λ (r : Plan). P (taken_by r now key p c)) (sym ((plan_exactly now key p c memory eight).whenever q f)) h

  further : (k : ℕ) → (Unfit p → ⊥) → Continues now key p c memory k → Into k (extended p (datagram_at c k)) (taken_of now key p c memory)
  further k nf g =
      let d = extended p (datagram_at c k) in
      as_planned (Into k d) (plan.Extend k) (nf, g) (into_settled k d g.place.inside)

  new : (k : ℕ) → (Unfit p → ⊥) → Begins now key p c memory k → Into k (extended p (begun key now)) (taken_of now key p c memory)
  new k nf g =
      let d = extended p (begun key now) in
      as_planned (Into k d) (plan.Begin k) (nf, g) (into_settled k d g.place.inside)

  dropped : (k : ℕ) → (Unfit p → ⊥) → Contradicts now key p c memory k
      → OnlyAt k c (taken_of now key p c memory).collection × ((datagram_at (taken_of now key p c memory).collection k).used ≡ 0)
  dropped k nf g =
      let d = freed (datagram_at c k) in
      as_planned (λ (t : Taken). OnlyAt k c t.collection × ((datagram_at t.collection k).used ≡ 0)) (plan.Drop k) (nf, g)
      (put_only k d, ap (λ (x : Place). x.used) (put-here k d g.place.inside))

  frees_by : (plan : Plan) → Fact plan → (k n : ℕ) → (taken_by plan now key p c).answer ≡ joined_in k n
      → (datagram_at (taken_by plan now key p c).collection k).used ≡ 0
  frees_by plan.Unfit f k n e = absurd (omega (arith, ap code e))
  frees_by plan.Full f k n e = absurd (omega (arith, ap code e))
  frees_by plan.Ignore f k n e = absurd (omega (arith, ap code e))
  frees_by (plan.Drop j) f k n e = absurd (omega (arith, ap code e))
  frees_by (plan.Extend j) f k n e = (into_settled j (extended p (datagram_at c j)) f.1.place.inside).frees k n e
  frees_by (plan.Begin j) f k n e = (into_settled j (extended p (begun key now)) f.1.place.inside).frees k n e

  pub piece-exactly : PieceExactly now key p c memory
  unfolding taken_of memory_of extended_to
  piece-exactly =
      let x = plan_exactly now key p c memory eight in
      let a = answered_by_lem (plan_of now key p c memory) refl x.only_if in
      record {
        place = a.place;
        size = a.size;
        answers = a.answers;
        joins = a.joins;
        more = λ k nf g l. rw (x.whenever (plan.Extend k) (nf, g)) (writes k p memory g.place.inside (fit_of_lem p nf).inside l);
        first = λ k nf g l. rw (x.whenever (plan.Begin k) (nf, g)) (writes k p memory g.place.inside (fit_of_lem p nf).inside l);
        stays = λ m n. stays_by (plan_of now key p c memory) x.only_if m n;
        unfit_leaves = λ u. as_planned (λ (t : Taken). t.collection ≡ c) plan.Unfit u refl;
        full_leaves = λ nf g. as_planned (λ (t : Taken). t.collection ≡ c) plan.Full (nf, g) refl;
        ignores = λ k nf g a. as_planned (λ (t : Taken). t.collection ≡ c) plan.Ignore (nf, (k, g, a)) refl;
        drops = dropped;
        continues = λ k nf g. (further k nf g).only;
        keeps_first = λ k nf g. ((further k nf g).first, (further k nf g).keyed);
        begins = λ k nf g. ((new k nf g).only, (new k nf g).first, (new k nf g).keyed);
        frees = λ k n e. frees_by (plan_of now key p c memory) x.only_if k n e;
        still_used = λ k nf s e u. ⊎_elim (λ g. omega (arith, sym ((further k nf g).waits e) ∙ u)) (λ g. omega (arith, sym ((new k nf g).waits e) ∙ u)) s;
      }
