-- `header::outer::ten_words` meets its contract: the numbers have the words of the header, their bytes exchanged.
use native.Mathlib.Omega.{arith}
use Rattle.header.proofs.Words.{ten_words}
use Rattle.header.proofs.outer.ten_words.Goals as goal

pub returns : goal.returns
returns c = (
  rw (
    c.two_words-5.ensures.0,
    c.reversed_in-5.ensures,
    c.two_words-4.ensures.0,
    c.reversed_in-4.ensures,
    c.two_words-3.ensures.0,
    c.reversed_in-3.ensures,
    c.two_words-2.ensures.0,
    c.reversed_in-2.ensures,
    c.two_words.ensures.0,
    c.reversed_in.ensures,
  )
      (ten_words c.args.d.now (λ i. (c.type_inv.d i).fits) c.requires),
  omega (arith, c.two_words-5.ensures.1, c.two_words-4.ensures.1, c.two_words-3.ensures.1, c.two_words-2.ensures.1, c.two_words.ensures.1),
)
