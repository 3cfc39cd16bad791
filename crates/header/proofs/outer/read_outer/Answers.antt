-- `header::outer::read_outer` meets its contract: by cases on what is read, and on whether it is a piece.
use borrow.Author.Tests.{eq-eqb, ne_eqb}
use Rattle.std.proofs.lemmas.Result.{err_from_is_err_and}
use Rattle.header.proofs.Readers.{outer_read}
use Rattle.header.proofs.outer.read_outer.Goals as goal

pub returns-in_err-o : goal.returns-in_err-o
returns-in_err-o c = let given = err_from_is_err_and c.from_residual.result c.from_residual.ensures.1 in
    rw (given.1, given.2, outer_read, ← c.read_header.ensures, c.in_err-o.was)

pub returns-then-o-ne0 : goal.returns-then-o-ne0
returns-then-o-ne0 c = rw (outer_read, ← c.read_header.ensures, c.in_ok-o.was) (simp (ne_eqb _ _ c.if-o-ne0.true))

pub returns : goal.returns
returns c = rw (outer_read, ← c.read_header.ensures, c.in_ok-o.was) (simp (eq-eqb _ _ c.if-o-ne0.false))
