-- `address::prefixes::rows` meets its contract: each row is read at its place.
use Rattle.address.specs.Prefixes.{rows_of}
use Rattle.address.proofs.prefixes.rows.Goals as goal

pub returns : goal.returns
unfolding rows_of
returns c = rw (c.row-8.ensures, c.row-7.ensures, c.row-6.ensures, c.row-5.ensures, c.row-4.ensures, c.row-3.ensures, c.row-2.ensures, c.row.ensures)
