-- `checksum::words::many` meets its contract: a turn takes a full run off what is left, and a full run is two blocks of 128 words.
use Rattle.std.proofs.Common.{◌≡◌, ◌%◌, length, ap, sym, refl, arith, ◌∙◌}
use Rattle.std.specs.Slice.Iter.{chunks_exact_rest}
use Rattle.checksum.specs.Folding.{word_sum}
use Rattle.checksum.proofs.Blocks.{words-front, words_fit, bytes_in, left_behind, left-end}
use Rattle.checksum.proofs.words.many.Goals as goal

pub overflow_add-sum : goal.overflow_add-sum
overflow_add-sum c =
    let (size, (front, long), _) = c.in-Some.ensures.steps in
    let whole : length c.in-Some.words.now % 2 ≡ 0 = omega arith in
    omega (arith, words_fit c.args.s.now (bytes_in _ c.type_inv.s), words-front _ _ _ front whole)

pub loop-words-preserved : goal.loop-words-preserved
loop-words-preserved c =
    let (size, (front, long), _) = c.in-Some.ensures.steps in
    let l = c.loop-words in
    let whole : length c.in-Some.words.now % 2 ≡ 0 = omega arith in (
      omega arith,
      tt,
      omega arith,
      omega (arith, words-front (chunks_exact_rest l.words-iterator) c.in-Some.words.now (chunks_exact_rest c.next.new.self) front whole),
      sym (left_behind 512 (chunks_exact_rest l.words-iterator) c.in-Some.words.now (chunks_exact_rest c.next.new.self) front (omega arith)) ∙ l.invariant.4,
    )

pub halving-requires : goal.halving-requires
halving-requires c =
    let short = c.in-None.ensures.steps.1.0 in
    let ends = left-end 512 c.args.s.now (chunks_exact_rest c.loop-words.words-iterator) c.remainder-rest.result.now (omega arith) c.loop-words.invariant.4 (c.remainder-rest.ensures ∙ c.chunks_exact-runs.ensures.remainder) in
    (omega (arith, ap length ends), (7, refl), omega arith)

pub overflow_add-result : goal.overflow_add-result
overflow_add-result c =
    let short = c.in-None.ensures.steps.1.0 in
    let ends = left-end 512 c.args.s.now (chunks_exact_rest c.loop-words.words-iterator) c.remainder-rest.result.now (omega arith) c.loop-words.invariant.4 (c.remainder-rest.ensures ∙ c.chunks_exact-runs.ensures.remainder) in
    omega (arith, words_fit c.args.s.now (bytes_in _ c.type_inv.s), ap word_sum ends)

pub returns : goal.returns
returns c =
    let short = c.in-None.ensures.steps.1.0 in
    let ends = left-end 512 c.args.s.now (chunks_exact_rest c.loop-words.words-iterator) c.remainder-rest.result.now (omega arith) c.loop-words.invariant.4 (c.remainder-rest.ensures ∙ c.chunks_exact-runs.ensures.remainder) in
    omega (arith, ap word_sum ends)
