-- Demand 2 holds of receiving. Assumes nothing.
use Rattle.std.specs.Prelude.{Result, Ok, Err}
use Prim.Native.Nat.{ℕ, ◌-◌, ◌≤◌, ◌<◌}
use mathlib.Core.Path.{◌≡◌, refl, ap, ◌∙◌}
use mathlib.Core.Bool.{Bool}
use mathlib.Core.List.{List}
use native.Mathlib.Omega.{arith}
use borrow.Author.Tests.{eqb-true, not-false, eq-eqb}
use lib.ListN.{length, take, length-take}
use lib.Seq.{get_or-take}
use Rattle.lists.proofs.Parts.{drop-take}
use Rattle.lists.proofs.Decides.{fails, refutes, decides_eq, decides_not, decides_lack}
use Rattle.checksum.specs.Sum.{is_right_from}
use Rattle.refusals.specs.Refusals.{first_of, AnswersFirst}
use Rattle.refusals.proofs.Laws.{AllFalse, all_false, stop_passed, RowsDecide, row, answers-first}
use Rattle.refusals.specs.declared.Refusal.{Refusal}
use Rattle.header.specs.Fields.{word_at}
use Rattle.header.specs.Outer.{outer_of, is_sum_wrong, payload_of}
use Rattle.header.specs.Inner.{inner_of}
use Rattle.settings.proofs.Facts.{decides_forbidden_to, decides_our_locator, decides_bad_source_to}
use Rattle.settings.specs.declared.Settings.{Settings}
use Rattle.routers.specs.declared.Router.{Router}
use Rattle.receiving.specs.Receive.{receive_rows, received_of, part_of}
use Rattle.receiving.specs.Facts.{header_length, total_length, behind_header, encapsulated, inner_length, receive_facts}
use Rattle.receiving.specs.Admitted.{Admits, delivered, DeliveredExactly}
use Rattle.receiving.specs.declared.Received.{Received}
use Rattle.receiving.specs.declared.Received.TheVariants.{Delivered, Joined}
use Rattle.receiving.proofs.Facts.{outer_whole-bytes, bytes-whole_outer, inner-whole-bytes, bytes-whole-inner, decides_source-right, inner_decides}

module _ (s : Settings) (routers : List Router) (d : List ℕ) (interface : ℕ) where
  abbrev inner : List ℕ
  inner = payload_of d (outer_of d)

  abbrev rows : List (Bool × Refusal)
  rows = receive_rows s routers interface d (outer_of d) (length inner) (inner_of inner)

  -- each test decides its fact
  rows_decide : RowsDecide rows (receive_facts s routers d interface (encapsulated d))
  unfolding outer_of inner_of payload_of is_sum_wrong is_right_from
  rows_decide =
      row (decides_lack _ (outer_whole-bytes d) (bytes-whole_outer d))
      (row (decides_not _ (decides_eq _ _))
      (row (decides_not _ (decides_eq _ _))
      (row (decides_not _ (decides_eq _ _))
      (row (decides_not _ (decides_our_locator s _ _))
      (row (decides_forbidden_to s _) (inner_decides s routers _ inner))))))

  pub first_fact : AnswersFirst Err (receive_facts s routers d interface (encapsulated d)) (Ok (Delivered (header_length d) (inner_length (encapsulated d)))) (received_of s routers d interface)
  unfolding received_of outer_of inner_of payload_of
  first_fact = answers-first Err rows_decide (Ok (Delivered (header_length d) (inner_length (encapsulated d))))

  -- no row holds exactly if the rules hold
  admitted : AllFalse rows → Admits s routers d interface
  unfolding outer_of inner_of payload_of is_sum_wrong is_right_from
  admitted f =
      let arrival = f.1.1.1.1 in
      let last = arrival.1.1 in
      record {
        outer_whole = outer_whole-bytes d f.0;
        checksum_right = eqb-true _ _ (not-false _ f.1.0);
        protocol = eqb-true _ _ (not-false _ f.1.1.0);
        no_piece = eqb-true _ _ (not-false _ f.1.1.1.0);
        for_us = (decides_our_locator s _ _).holds (not-false _ arrival.0);
        outer_source = fails _ (decides_forbidden_to s _) arrival.1.0;
        inner_whole = inner-whole-bytes inner last.0;
        inner_source = fails _ (decides_bad_source_to s _) last.1.0;
        source_matches = (decides_source-right s _ _ routers).holds (not-false _ last.1.1.0);
      }

  passes : Admits s routers d interface → first_of rows ≡ Ok tt
  unfolding outer_of inner_of payload_of is_sum_wrong is_right_from
  passes a =
      rw (
        bytes-whole_outer d a.outer_whole,
        eq-eqb _ _ a.checksum_right,
        eq-eqb _ _ a.protocol,
        eq-eqb _ _ a.no_piece,
        (decides_our_locator s _ _).passes a.for_us,
        refutes _ (decides_forbidden_to s _) a.outer_source,
        bytes-whole-inner inner a.inner_whole,
        refutes _ (decides_bad_source_to s _) a.inner_source,
        (decides_source-right s _ _ routers).passes a.source_matches,
      )

  only_placed : (offset size : ℕ) → received_of s routers d interface ≡ Ok (Delivered offset size) → Admits s routers d interface
  unfolding received_of
  only_placed offset size h =
      let passed = stop_passed Err (first_of rows) _ (Ok (Delivered offset size)) (λ r e. let z : ◌≡◌ {A = ℕ} 0 1 = cc in omega arith) h in
      admitted (all_false rows passed.0)

  module _ (a : Admits s routers d interface) where
    at : received_of s routers d interface ≡ Ok (Delivered (outer_of d).header (inner_of inner).length)
    unfolding received_of
    at = rw (passes a)

    -- what remains for the inner packet starts as the bytes behind the outer header do
    rest : inner ≡ take (total_length d - header_length d) (behind_header d)
    unfolding payload_of outer_of
    rest = drop-take _ _ d a.outer_whole.inside a.outer_whole.whole

    size : (inner_of inner).length ≡ inner_length (behind_header d)
    unfolding inner_of word_at payload_of outer_of
    size =
        let m = total_length d - header_length d in
        let b = behind_header d in
        let l : 40 ≤ m = omega (arith, a.inner_whole.some, ap length rest, length-take m b) in
        rw (rest, get_or-take m b 4 0 (omega arith), get_or-take m b 5 0 (omega arith))

    placed : received_of s routers d interface ≡ Ok (Delivered (header_length d) (inner_length (behind_header d)))
    unfolding outer_of
    placed = at ∙ ap (λ (n : ℕ). Ok (Delivered (header_length d) n)) size

    exactly : delivered s routers d interface ≡ take (inner_length (behind_header d)) (behind_header d)
    exactly = rw placed

    long : 40 ≤ length (delivered s routers d interface)
    unfolding payload_of outer_of
    long =
        let m = total_length d - header_length d in
        let b = behind_header d in
        rw (exactly, length-take) (omega (arith, a.inner_whole.some, ap length rest, length-take m b))

  -- pieces are not joined by a datagram that is judged by itself
  never_joined : (offset size : ℕ) → received_of s routers d interface ≡ Ok (Joined offset size) → ⊥
  unfolding received_of
  never_joined offset size h =
      let passed = stop_passed Err (first_of rows) _ (Ok (Joined offset size)) (λ r e. let z : ◌≡◌ {A = ℕ} 0 1 = cc in omega arith) h in
      let e = passed.1 in
      let z : ◌≡◌ {A = ℕ} 0 1 = cc in
      omega arith

  only_if : (r : Result Received Refusal) → received_of s routers d interface ≡ r → 0 < length (part_of r d) → Admits s routers d interface
  only_if (Ok (Delivered offset size)) e h = only_placed offset size e
  only_if (Ok (Joined offset size)) e h = absurd (omega arith)
  only_if (Err r) e h = absurd (omega arith)

  never_refused : (r : Refusal) → received_of s routers d interface ≡ Err r → Admits s routers d interface → ⊥
  never_refused r e a =
      let p = placed a in
      let z : ◌≡◌ {A = ℕ} 0 1 = cc in
      omega arith

  refused : (r : Result Received Refusal) → received_of s routers d interface ≡ r → (Admits s routers d interface → ⊥) → (q : Refusal) × (received_of s routers d interface ≡ Err q)
  refused (Ok (Delivered offset size)) e n = absurd (n (only_placed offset size e))
  refused (Ok (Joined offset size)) e n = absurd (never_joined offset size e)
  refused (Err q) e n = (q, e)

-- receiving does exactly what the rules say, for all settings, router lists, datagrams and interfaces
pub delivers_exactly : (s : Settings) (routers : List Router) (d : List ℕ) (interface : ℕ) → DeliveredExactly s routers d interface
delivers_exactly s routers d interface = record {
  answers = first_fact s routers d interface;
  placed_only_if = only_placed s routers d interface;
  placed_if = placed s routers d interface;
  refused_only_if = never_refused s routers d interface;
  refused_if = refused s routers d interface (received_of s routers d interface) refl;
  only_if = only_if s routers d interface (received_of s routers d interface) refl;
  if = exactly s routers d interface;
  non_empty = long s routers d interface;
}
