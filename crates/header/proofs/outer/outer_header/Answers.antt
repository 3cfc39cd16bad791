-- `header::outer::outer_header` meets its contract: zeros behind a header change nothing.
use mathlib.Core.Path.{◌∙◌}
use Rattle.header.specs.Fields.{word_at, quad_at}
use Rattle.header.specs.Outer.{outer_of}
use Rattle.header.proofs.outer.outer_header.Goals as goal

pub returns-then-d-lt-OUTER_HEADER : goal.returns-then-d-lt-OUTER_HEADER
unfolding outer_of word_at quad_at
returns-then-d-lt-OUTER_HEADER c = c.full_header.ensures ∙ rw c.padded.ensures
