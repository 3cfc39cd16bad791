-- The number of the next piece, said by the pieces that were taken before it. Assumes nothing.
use Prim.Native.Nat.{ℕ}
use mathlib.Core.Path.{◌≡◌, sym, ap, ◌∙◌}
use mathlib.Core.Logic.{◌⊎◌, ⊎_elim, inl, inr}
use mathlib.Core.Bool.{false}
use mathlib.Core.List.{[], ◌∷◌}
use native.Mathlib.Omega.{arith}
use lib.ListN.{length}
use Rattle.lists.specs.Any.{Some}
use Rattle.lists.proofs.Tests.{tested}
use Rattle.lists.proofs.Decides.{fails}
use Rattle.refusals.specs.Refusals.{AnswersFirst}
use Rattle.pieces.specs.declared.Place.{Place}
use Rattle.pieces.specs.declared.Collection.{Collection}
use Rattle.pieces.specs.declared.Joined.{Joined}
use Rattle.pieces.specs.Places.{Part, is_apart}
use Rattle.pieces.specs.Facts.{behind, Unfit, Contradicts, Ignored, JoinedAt, Waits, piece_facts, datagram_at}
use Rattle.pieces.specs.Exactly.{PieceExactly}
use Rattle.pieces.specs.History.{Disagree, HasByte, Whole, Handed, Grown, nothing, grown}
use Rattle.pieces.specs.ByHistory.{before, Own, Known, Clashes, Completed, history_facts, NextExactly, HistoryExactly}
use Rattle.pieces.proofs.Facts.{decides_apart}
use Rattle.pieces.proofs.Planning.{fit_of_lem}
use Rattle.pieces.proofs.Exactly.{piece-exactly}
use Rattle.pieces.proofs.Changes.{code}
use Rattle.pieces.proofs.Tells.{some-here, some-none, some_cases}
use Rattle.pieces.proofs.ByPieces.{ByPieces, by_pieces}
use Rattle.pieces.proofs.History.{EachCollects, kept-grown}
use Rattle.pieces.specs.Take.{joined_in}
use Rattle.std.specs.Prelude.{Result, Err}
use Rattle.refusals.specs.declared.Refusal.{Refusal}

module _ (g : Grown) (each : EachCollects g.collection g.taken) (x : Handed) (nf : Unfit x.piece → ⊥) where
  abbrev p : Part
  p = x.piece

  abbrev c : Collection
  c = g.collection

  -- a piece by itself
  alone-whole : (n : ℕ) → (p.more ≡ false) × (p.offset ≡ 0) × (n ≡ length p.payload) → Whole (p ∷ []) n
  alone-whole n f = record {
    final = some-here (λ (q : Part). (q.more ≡ false) × (behind q ≡ n)) p [] (f.0, omega (arith, f.1, f.2));
    all = λ b h. some-here (HasByte b) p [] (omega (arith, f.1), omega (arith, f.1, f.2));
  }

  whole-alone : (n : ℕ) → Whole (p ∷ []) n → (p.more ≡ false) × (p.offset ≡ 0) × (n ≡ length p.payload)
  whole-alone n w =
      let some = (fit_of_lem p nf).some in
      let f : (p.more ≡ false) × (behind p ≡ n) =
      ⊎_elim (λ e. e) (λ s. absurd (some-none (λ (q : Part). (q.more ≡ false) × (behind q ≡ n)) s)) (some_cases (λ (q : Part). (q.more ≡ false) × (behind q ≡ n)) p [] w.final) in
      let e = f.1 in
      let zero : HasByte 0 p = ⊎_elim (λ b. b) (λ s. absurd (some-none (HasByte 0) s)) (some_cases (HasByte 0) p [] (w.all 0 (omega arith))) in
      (f.0, omega (arith, zero.0), omega (arith, zero.0))

  module _ (k : ℕ) (own : Own g x k) where
    abbrev d : Place
    d = datagram_at c k

    by : ByPieces (before g x k) d p
    by =
        let held = each.collects k own.inside own.here.live.used in
        by_pieces (before g x k) d held.tells held.fit p nf

    -- what is known repeats what is held, and the other way if the piece agrees about the end
    known_repeats : Known g x k → Ignored x.time x.key p c x.memory k
    known_repeats h = record { place = own; repeats = record { held = by.all_held h.held; same = h.same } }

    repeats_known : (Some (Disagree p) (before g x k) → ⊥) → Ignored x.time x.key p c x.memory k → Known g x k
    repeats_known agree h = record { held = by.known agree h.repeats.held; same = h.repeats.same }

  contradicts_clashes : (k : ℕ) → Contradicts x.time x.key p c x.memory k → Clashes g x k
  contradicts_clashes k h =
      let b = by k h.place in
      record {
        place = h.place;
        clash = ⊎_elim (λ a. inl (b.apart a)) (λ s. inr (b.overlaps s.0, λ m. s.1 (known_repeats k h.place m).repeats)) h.clash;
      }

  clashes_contradicts : (k : ℕ) → Clashes g x k → Contradicts x.time x.key p c x.memory k
  clashes_contradicts k h =
      let own = h.place in
      let b = by k own in
      let a = decides_apart p (datagram_at c k) in
      record {
        place = own;
        clash = ⊎_elim (λ s. inl (b.disagree s))
            (λ s. ⊎_elim (λ t. inl (a.holds t))
            (λ t. inr (
              b.some_held s.0.0 s.0.1 s.0.2,
              λ r. s.1 (repeats_known k own (λ m. fails (is_apart p (datagram_at c k)) a t (b.disagree m)) (record { place = own; repeats = r })),
            )) (tested (is_apart p (datagram_at c k)))) h.clash;
      }

  module _ (agree : (k : ℕ) → Clashes g x k → ⊥) where
    agree_at : (k : ℕ) → Own g x k → Some (Disagree p) (before g x k) → ⊥
    agree_at k own s = agree k (record { place = own; clash = inl s })

    joined_completed : (k n : ℕ) → JoinedAt x.time x.key p c x.memory k n → Completed g x k n
    joined_completed k n = ⊎_elim (λ h. inl (h.0, (by k h.0).whole n (agree_at k h.0) h.1)) (λ h. inr (h.0, alone-whole n h.1))

    completed_joined : (k n : ℕ) → Completed g x k n → JoinedAt x.time x.key p c x.memory k n
    completed_joined k n = ⊎_elim (λ h. inl (h.0, (by k h.0).completes n (agree_at k h.0) h.1)) (λ h. inr (h.0, whole-alone n h.1))

    abbrev WaitsBy : Type 0
    WaitsBy = ((k : ℕ) × Own g x k × Known g x k) ⊎ ((k n : ℕ) → Completed g x k n → ⊥)

    waits_by : Waits x.time x.key p c x.memory → WaitsBy
    waits_by = ⊎_elim (λ h. let own = h.1.place in inl (h.0, own, repeats_known h.0 own (agree_at h.0 own) h.1)) (λ h. inr (λ k n m. h k n (completed_joined k n m)))

    by_waits : WaitsBy → Waits x.time x.key p c x.memory
    by_waits = ⊎_elim (λ h. inl (h.0, known_repeats h.0 h.1 h.2)) (λ h. inr (λ k n m. h k n (joined_completed k n m)))

module _ (g : Grown) (each : EachCollects g.collection g.taken) (x : Handed) where
  rows : (follows answer : Result Joined Refusal) → AnswersFirst Err (piece_facts x.time x.key x.piece g.collection x.memory) follows answer
      → AnswersFirst Err (history_facts g x) follows answer
  rows follows answer =
      ⊎_elim inl
      (λ r.
      let nf = r.0 in
      inr (
        nf,
        ⊎_elim (λ h. inl ((h.0.0, contradicts_clashes g each x nf h.0.0 h.0.1), h.1))
            (λ r.
            let agree : (k : ℕ) × Clashes g x k → ⊥ = λ m. r.0 (m.0, clashes_contradicts g each x nf m.0 m.1) in
            let apart : (k : ℕ) → Clashes g x k → ⊥ = λ k m. agree (k, m) in
            inr (
              agree,
              ⊎_elim inl
                  (λ r. inr (
                    r.0,
                    ⊎_elim (λ h. inl (waits_by g each x nf apart h.0, h.1))
                        (λ r. inr (λ m. r.0 (by_waits g each x nf apart m), r.1)) r.1,
                  )) r.1,
            )) r.1,
      ))

  -- what is joined is refused by none of them
  passed : (k n : ℕ) (answer : Result Joined Refusal) → AnswersFirst Err (piece_facts x.time x.key x.piece g.collection x.memory) (joined_in k n) answer
      → answer ≡ joined_in k n → (Unfit x.piece → ⊥) × ((j : ℕ) → Contradicts x.time x.key x.piece g.collection x.memory j → ⊥)
  passed k n answer a e =
      ⊎_elim (λ h. absurd (omega (arith, ap code (sym e ∙ h.1))))
      (λ r. ⊎_elim (λ h. absurd (omega (arith, ap code (sym e ∙ h.1)))) (λ q. (r.0, λ j m. q.0 (j, m))) r.1) a

  next-exactly : NextExactly g x
  next-exactly =
      let e : PieceExactly x.time x.key x.piece g.collection x.memory = piece-exactly x.time x.key x.piece g.collection x.memory each.eight in
      record {
        place = e.place;
        size = e.size;
        answers = rows (joined_in e.place e.size) _ e.answers;
        joins = λ h.
            let f = passed e.place e.size _ e.answers h in
            joined_completed g each x f.0 (λ k m. f.1 k (clashes_contradicts g each x f.0 k m)) e.place e.size (e.joins h);
      }

pub history_exactly : HistoryExactly
history_exactly xs x = next-exactly (grown nothing xs) (kept-grown xs) x
