-- `messages::solicitation_sum` meets its contract: the words of the addresses, and those that every solicitation has.
use borrow.Author.Rules.{elem_Fits}
use native.Mathlib.Omega.{arith}
use Prim.Native.Nat.{ℕ}
use lib.ListN.{get_or}
use mir.Val.{Fits}
use mir.Syntax.{w8}
use Rattle.messages.proofs.WriterLaws.{solicitation-sum}
use Rattle.messages.proofs.solicitation_sum.Goals as goal

pub returns : goal.returns
returns c = let from = c.args.from in
    let to = c.args.to in
    let from_byte : (i : ℕ) → Fits w8 (get_or from i 0) = λ i. search elem_Fits in
    let to-byte : (i : ℕ) → Fits w8 (get_or to i 0) = λ i. search elem_Fits in
    rw (c.sum_of_words.ensures, c.address_words-2.ensures.0, c.address_words.ensures.0)
    (solicitation-sum from to (omega arith) (omega arith) (λ i. (from_byte i).fits) (λ i. (to-byte i).fits) (omega (arith, c.address_words.ensures.1)) (omega (arith, c.address_words-2.ensures.1)))
