-- `checksum::fold_input` meets its contract: the part up to the chunk's end is a chunk, or all that is left.
use Rattle.std.proofs.Common.{◌≡◌, ℕ, ◌+◌, ◌-◌, min, List, length, take, drop, ap, ◌∙◌, arith, length-drop, take_all}
use Rattle.std.proofs.lemmas.List.{take_min}
use Rattle.checksum.specs.Folding.{word_sum, chunk}
use Rattle.checksum.proofs.fold_input.Goals as goal

pub returns : goal.returns
returns c = let s = c.args.s.now in
    let left = drop c.args.at s in
    let all : take (length s - c.args.at) left ≡ left = take_all (length s - c.args.at) left (omega (arith, length-drop c.args.at s)) in
    let size : c.min.result ≡ min chunk (length left) = omega (arith, length-drop c.args.at s, ap length all) in
    ap (λ (w : ℕ). c.args.res + w)
    (c.many.ensures
    ∙ ap (λ (l : List ℕ). word_sum (take c.min.result l)) all
    ∙ ap (λ (n : ℕ). word_sum (take n left)) size
    ∙ ap word_sum (take_min chunk left))
