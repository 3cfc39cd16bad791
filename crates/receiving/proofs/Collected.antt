-- Demand 2 holds of the call for the number. Assumes nothing.
use Rattle.std.specs.Prelude.{Result, Ok, Err}
use Prim.Native.Nat.{ℕ, ◌*◌}
use mathlib.Core.Path.{refl}
use mathlib.Core.List.{List, ◌++◌}
use lib.ListN.{length}
use Rattle.lists.specs.Parts.{part}
use Rattle.refusals.specs.Refusals.{AnswersFirst}
use Rattle.refusals.proofs.Laws.{end, answers-first}
use Rattle.refusals.specs.declared.Refusal.{Refusal}
use Rattle.header.specs.Fields.{quad_at}
use Rattle.header.specs.Outer.{outer_of, payload_of}
use Rattle.header.specs.Inner.{inner_of}
use Rattle.settings.specs.declared.Settings.{Settings}
use Rattle.routers.specs.declared.Router.{Router}
use Rattle.pieces.specs.Take.{Taken, taken_of, memory_of}
use Rattle.pieces.specs.declared.Collection.{Collection}
use Rattle.receiving.specs.Collect.{Collected, whole_of, joined_by}
use Rattle.receiving.specs.Facts.{header_length, encapsulated, inner_length, Unfragmented, inner_facts}
use Rattle.receiving.specs.CollectFacts.{arrival_facts, PieceIn, Judged, PieceCollected, CollectedExactly}
use Rattle.receiving.specs.declared.Received.{Received}
use Rattle.receiving.specs.declared.Received.TheVariants.{Delivered, Joined}
use Rattle.receiving.proofs.Facts.{inner_decides, arrival_decides}
use Rattle.receiving.proofs.Calls.{decides_more, key_in, piece_in, part_in, stop_pair, whole-call, piece-call}

-- the piece that the bytes say
piece_in_lem : (d : List ℕ) → PieceIn d (piece_in d)
piece_in_lem d = record {
  source = refl;
  destination = refl;
  protocol = refl;
  identification = refl;
  offset = refl;
  more_if = (decides_more d).passes;
  more_only_if = (decides_more d).holds;
}

module _ (s : Settings) (routers : List Router) (c : Collection) (now : ℕ) (d : List ℕ) (interface : ℕ) (memory : List ℕ) where
  -- what is answered to a piece of which t comes, and behind which the memory has these bytes
  judged : (t : Taken) (after : List ℕ) → Judged s routers c now d interface memory t after (joined_by s routers (quad_at d 12) t.answer after)
  unfolding inner_of
  judged t after = record {
    joined = λ k n e.
        let p : List ℕ = part (2048 * k) n after in
        rw e (answers-first Err (inner_decides s routers (quad_at d 12) p) (Ok (Joined (2048 * k) (inner_length p))));
    refused = λ r e. rw e;
  }

  piece-collected : (Unfragmented d → ⊥) → PieceCollected s routers c now d interface memory
  piece-collected h =
      let t : Taken = taken_of now (key_in d) (part_in d) c memory in
      let after : List ℕ = memory_of now (key_in d) (part_in d) c memory in
      let refuse : Refusal → Collected × List ℕ = λ r. (record { answer = Err r; pieces = c }, memory) in
      let answer : Result Received Refusal = joined_by s routers (quad_at d 12) t.answer after in
      let follows : Collected × List ℕ = (record { answer = answer; pieces = t.collection }, after) in
      let call = piece-call s routers c now d interface memory h in
      record {
        piece = piece_in d;
        says = piece_in_lem d;
        answer = answer;
        judged = judged t after;
        answers = rw (call.0, call.1, stop_pair) (answers-first refuse (arrival_decides s d interface (length memory) end) follows);
      }

  whole-answer : AnswersFirst Err (arrival_facts s d interface (length memory) ++ inner_facts s routers (quad_at d 12) (encapsulated d))
      (Ok (Delivered (header_length d) (inner_length (encapsulated d)))) (whole_of s routers (length memory) d interface)
  unfolding whole_of outer_of payload_of inner_of
  whole-answer =
      answers-first Err (arrival_decides s d interface (length memory) (inner_decides s routers (quad_at d 12) (encapsulated d)))
      (Ok (Delivered (header_length d) (inner_length (encapsulated d))))

  pub collected-exactly : CollectedExactly s routers c now d interface memory
  collected-exactly = record {
    whole = λ h. rw (whole-call s routers c now d interface memory h).0 whole-answer;
    whole_leaves = λ h. let w = whole-call s routers c now d interface memory h in (rw w.0, w.1);
    piece = piece-collected;
  }
