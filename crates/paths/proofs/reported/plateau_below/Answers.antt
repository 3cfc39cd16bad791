use mathlib.Core.Path.{◌∙◌, sym}
use lib.Dec.{ltb}
use borrow.Author.Tests.{tests}
use Rattle.std.proofs.Common.{rules}
use Rattle.std.proofs.lemmas.Iterator.{YieldsList-from_slice}
use Rattle.std.proofs.lemmas.Iterator.Consumers.{YieldsList-from_copied}
use Rattle.std.proofs.lemmas.Iterator.Search.{find_from_yields_List}
use Rattle.std.proofs.lemmas.Iterator.Adapters.{option_map_id}
use Rattle.paths.specs.Candidate.{plateaus, plateau_below}
use Rattle.paths.proofs.Scan.{below-found}
use Rattle.paths.proofs.reported.plateau_below.Goals as goal

pub returns : goal.returns
unfolding plateau_below
returns c = let n = c.args.n in
    sym (option_map_id c.find.result)
    ∙ find_from_yields_List (λ p. ltb p n) c.find.new.self _ c.find.result c.find.ensures.ran (YieldsList-from_copied (YieldsList-from_slice plateaus cc)) (λ x b q k. search (rules, tests))
    ∙ below-found n plateaus
