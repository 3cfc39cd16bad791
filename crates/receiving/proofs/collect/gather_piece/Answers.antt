-- `receiving::collect::gather_piece` meets its contract: the piece is read and taken.
use Rattle.receiving.specs.Collect.{taken_piece, taken_memory}
use Rattle.pieces.proofs.Carried.{taken_change, change_at}
use Rattle.receiving.proofs.InPlace.{in_place}
use Rattle.receiving.proofs.collect.gather_piece.Goals as goal

pub stage_of-stage-requires : goal.stage_of-stage-requires
stage_of-stage-requires c = rw c.take-taken.ensures.value (in_place _ _ _ _ _)

pub returns : goal.returns
unfolding taken_piece taken_memory
returns c = let payload = c.payload-payload.ensures in
    let piece = c.piece_of-piece.ensures in record {
      gathered_as = (λ s routers. rw (c.stage_of-stage.ensures, c.take-taken.ensures.value, c.take-taken.ensures.memory_after, payload, piece, taken_change), rw c.take-taken.ensures.value (change_at _ _ _ _ _));
      memory_after = rw (c.take-taken.ensures.memory_after, payload, piece);
    }
