-- `messages::address_words` meets its contract: the numbers of an address have its words.
use borrow.Author.Rules.{elem_Fits}
use native.Mathlib.Omega.{arith}
use Prim.Native.Nat.{ℕ}
use lib.ListN.{get_or}
use mir.Val.{Fits}
use mir.Syntax.{w8}
use Rattle.address.specs.Quads.{quads_of}
use Rattle.header.specs.Fields.{quad_at}
use Rattle.header.proofs.Words.{eight_words}
use Rattle.messages.proofs.address_words.Goals as goal

pub returns : goal.returns
unfolding quads_of quad_at
returns c = let a = c.args.a in
    let byte : (i : ℕ) → Fits w8 (get_or a i 0) = λ i. search elem_Fits in (
      rw (c.two_words.ensures.0, c.two_words-third.ensures.0, c.two_words-second.ensures.0, c.two_words-first.ensures.0, c.from-q.ensures.0)
          (eight_words a (omega arith) (λ i. (byte i).fits)),
      omega (arith, c.two_words.ensures.1, c.two_words-third.ensures.1, c.two_words-second.ensures.1, c.two_words-first.ensures.1),
    )
