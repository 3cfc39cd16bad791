-- `checksum::chunk_by_chunk` meets its contract: in what is left the last fold is given the same; a turn takes a full chunk off.
use Rattle.std.proofs.Common.{ℕ, ◌+◌, List, drop, sym, ap, ◌∙◌, arith, length-drop, take_all, drop-drop}
use Rattle.checksum.specs.Folding.{word_sum, folded, chunk, final_input}
use Rattle.checksum.proofs.FoldInputs.{final-full, final-end}
use Rattle.checksum.proofs.chunk_by_chunk.Goals as goal

pub returns-then-s-at-lt-CHUNK : goal.returns-then-s-at-lt-CHUNK
returns-then-s-at-lt-CHUNK c = let s = c.args.s.now in
    let rest = drop c.loop-at.at s in
    c.fold_input-sum.ensures
    ∙ ap (λ (t : List ℕ). c.loop-at.result + word_sum t) (take_all chunk rest (omega (arith, length-drop c.loop-at.at s)))
    ∙ sym (final-end c.loop-at.result rest (omega (arith, length-drop c.loop-at.at s)))
    ∙ c.loop-at.invariant.3

pub loop-at-preserved : goal.loop-at-preserved
loop-at-preserved c = let s = c.args.s.now in
    let at = c.loop-at.at in (
      omega arith,
      omega arith,
      omega arith,
      ap (λ (r : ℕ). final_input r (drop (at + chunk) s)) (c.fold-result.ensures ∙ ap folded c.fold_input-sum.ensures)
          ∙ rw (← drop-drop chunk at s) (sym (final-full c.loop-at.result (drop at s) (omega (arith, length-drop at s))))
          ∙ c.loop-at.invariant.3,
    )
