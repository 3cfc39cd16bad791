-- `header::outer::read_header` meets its contract: by its length, and by cases on the check.
use borrow.Author.Tests.{lt-ltb}
use Rattle.std.proofs.lemmas.Result.{err_from_is_err_and}
use Rattle.header.specs.Outer.{is_outer_malformed, header_check, header_read_of}
use Rattle.header.proofs.outer.read_header.Goals as goal

pub returns-then-d-lt-OUTER_HEADER : goal.returns-then-d-lt-OUTER_HEADER
unfolding header_read_of header_check is_outer_malformed
returns-then-d-lt-OUTER_HEADER c = simp (lt-ltb _ _ c.if-d-lt-OUTER_HEADER.true)

pub returns-in_err-check_read : goal.returns-in_err-check_read
unfolding header_read_of
returns-in_err-check_read c = let given = err_from_is_err_and c.from_residual.result c.from_residual.ensures.1 in
    rw (given.1, given.2, ← c.full_header-o.ensures, ← c.check_read.ensures, c.in_err-check_read.was)

pub returns : goal.returns
unfolding header_read_of
returns c = rw (← c.full_header-o.ensures, ← c.check_read.ensures, c.in_ok-check_read.was)
