-- `header::inner::inner_header` meets its contract: zeros behind a header change nothing.
use mathlib.Core.Path.{◌∙◌}
use lib.Seq.{get_or-drop}
use Rattle.header.specs.Fields.{word_at, address_at}
use Rattle.header.specs.Inner.{inner_of}
use Rattle.header.proofs.inner.inner_header.Goals as goal

pub returns-then-p-lt-INNER_HEADER : goal.returns-then-p-lt-INNER_HEADER
unfolding inner_of word_at address_at
returns-then-p-lt-INNER_HEADER c = c.full_header.ensures ∙ rw c.padded.ensures (simp get_or-drop)
