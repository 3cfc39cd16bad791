use mathlib.Core.Path.{◌≡◌}
use mathlib.Core.Bool.{◌||◌}
use lib.ListN.{drop}
use Rattle.paths.specs.Search.{is_among}
use Rattle.paths.proofs.rows.among.Given as goal

abbrev pub invariant-loop-number : goal.invariant-loop-number
invariant-loop-number l = (l.found || is_among l.neighbour (drop l.number-index l.numbers)) ≡ is_among l.neighbour l.numbers
