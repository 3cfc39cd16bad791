-- `header::outer::full_header` meets its contract: each field is a part of the number that holds it.
use Rattle.header.proofs.Words.{outer_in_lem}
use Rattle.header.proofs.outer.full_header.Goals as goal

pub returns : goal.returns
returns c = rw (c.quad_in-destination.ensures, c.quad_in-source.ensures, c.quad_in-third.ensures, c.quad_in-second.ensures, c.quad_in-first.ensures)
    (outer_in_lem c.args.d.now (λ i. (c.type_inv.d i).fits))
