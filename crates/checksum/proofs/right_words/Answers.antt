-- `checksum::right_words` meets its contract: two turns of the fold leave no carry.
use Rattle.std.proofs.Common.{◌≡◌, ℕ, ◌+◌, ◌*◌, ◌/◌, ◌%◌, ◌^◌, ◌<◌, eqb, [], sym, ap, ◌∙◌, arith}
use Rattle.std.proofs.lemmas.Nat.{or_shifted}
use Rattle.std.specs.Int.{w32, rotate_left}
use Rattle.std.specs.Int.Bits.{bit_or}
use Rattle.checksum.specs.Sum.{ones_sum_from, is_right_from, all_ones}
use Rattle.checksum.specs.Folding.{word_sum, folded}
use Rattle.checksum.proofs.Laws.{sum_folded, folded_halves}
use Rattle.checksum.proofs.right_words.Goals as goal

halves_exchanged : (n : ℕ) → n < 2 ^ 32 → rotate_left w32 n 16 ≡ n % 65536 * 65536 + n / 65536
halves_exchanged n h =
    let upper : n * 2 ^ 16 % 2 ^ 32 ≡ n % 65536 * 2 ^ 16 = omega arith in
    ap (λ (x : ℕ). bit_or x (n / 2 ^ 16)) upper ∙ or_shifted (n % 65536) 16 (n / 2 ^ 16) (omega arith)

pub returns : goal.returns
unfolding is_right_from word_sum
returns c = let words = c.args.words in
    let sum : folded words ≡ ones_sum_from words [] = ap folded (omega arith) ∙ sym (sum_folded words [] (omega arith) tt) in
    ap (λ (x : ℕ). eqb ((words + x) % 2 ^ 32 / 65536) all_ones) (c.rotate_left.ensures ∙ halves_exchanged words (omega arith))
    ∙ ap (λ (x : ℕ). eqb x all_ones) (folded_halves words (omega arith) ∙ sum)
