-- `address::on_link` meets its contract: none of the prefixes passed fits, so what is left to ask is the rest of them.
use mathlib.Core.Path.{◌≡◌}
use lib.ListN.{drop}
use Rattle.lists.specs.Any.{any_of}
use Rattle.address.specs.Address.{is_under, is_on_link}
use Rattle.address.specs.Quads.{bytes_in}
use Rattle.address.proofs.on_link.Given as goal

abbrev pub invariant-loop-p : goal.invariant-loop-p
invariant-loop-p g l = is_on_link l.fn.prefixes l.count (bytes_in l.q) ≡ any_of (is_under (bytes_in l.q)) (drop l.p-index l.p-items)
