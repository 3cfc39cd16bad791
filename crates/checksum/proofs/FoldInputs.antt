-- What the folds are given: the definition step by step, and that the sum is the result of the last. Assumes nothing.
use Rattle.std.proofs.Common.{◌≡◌, ℕ, zero, suc, ◌+◌, ◌/◌, ◌^◌, ◌<◌, ◌≤◌, List, length, get_or, take, drop, sym, refl, ap, ◌∙◌, arith, length-drop, take-append-drop, length-take-le}
use Rattle.checksum.specs.Sum.{ones_sum_from}
use Rattle.checksum.specs.Folding.{word_sum, folded, chunk, inputs_after, fold_inputs, final_input}
use Rattle.checksum.proofs.Bytes.{Bytes}
use Rattle.checksum.proofs.Laws.{word_sum-append, folded-folded, sum_folded}

-- a full chunk, and what is behind it
full_chunks : (s : List ℕ) → chunk ≤ length s → length s / chunk ≡ suc (length (drop chunk s) / chunk)
full_chunks s h = omega (arith, length-drop chunk s)

pub final-full : (result : ℕ) (s : List ℕ) → chunk ≤ length s
    → final_input result s ≡ final_input (folded (result + word_sum (take chunk s))) (drop chunk s)
unfolding final_input fold_inputs
final-full result s h = rw (full_chunks s h)

-- fewer bytes than a chunk, which are the end
pub final-end : (result : ℕ) (s : List ℕ) → length s < chunk → final_input result s ≡ result + word_sum s
unfolding final_input fold_inputs
final-end result s h = let none : length s / chunk ≡ 0 = omega arith in rw none

chunk-words : (s : List ℕ) → chunk ≤ length s → word_sum s ≡ word_sum (take chunk s) + word_sum (drop chunk s)
chunk-words s h =
    let whole : length (take chunk s) ≡ chunk = length-take-le chunk s h in
    ap word_sum (sym (take-append-drop chunk s)) ∙ word_sum-append (take chunk s) (drop chunk s) (omega arith)

-- over so many full chunks, the last fold's result is that of all words at once
folds_all : (full result : ℕ) (s : List ℕ) → length s / chunk ≡ full → folded (get_or (inputs_after full result s) full 0) ≡ folded (result + word_sum s)
folds_all zero result s h = refl
folds_all (suc full) result s h =
    folds_all full (folded (result + word_sum (take chunk s))) (drop chunk s) (omega (arith, length-drop chunk s))
    ∙ folded-folded (result + word_sum (take chunk s)) (word_sum (drop chunk s))
    ∙ ap folded (omega (arith, chunk-words s (omega arith)))

-- the last fold's result is the sum
pub sum-final : (start : ℕ) (s : List ℕ) → start < 2 ^ 32 → Bytes s → ones_sum_from start s ≡ folded (final_input start s)
unfolding final_input fold_inputs
sum-final start s h b = sum_folded start s h b ∙ sym (folds_all (length s / chunk) start s refl)
