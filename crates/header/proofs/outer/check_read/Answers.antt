-- `header::outer::check_read` meets its contract: the first byte has the version and the header's words.
use mathlib.Core.Path.{ap, ◌∙◌}
use Rattle.header.specs.Outer.{outer_of, sum_check, header_check}
use Rattle.header.specs.declared.outer.Outer.{Outer}
use Rattle.header.proofs.outer.check_read.Goals as goal

pub malformed_by-requires : goal.malformed_by-requires
unfolding outer_of
malformed_by-requires c = let read = c.requires in
    (ap (λ (x : Outer). x.version) read ∙ rw c.byte.ensures, ap (λ (x : Outer). x.header) read ∙ rw c.byte.ensures)

pub returns-then-malformed_by : goal.returns-then-malformed_by
unfolding header_check
returns-then-malformed_by c = simp (← c.malformed_by.ensures, c.if-malformed_by.true)

pub returns : goal.returns
unfolding header_check sum_check
returns c = rw c.check_sum.ensures (simp (← c.malformed_by.ensures, c.if-malformed_by.false))
