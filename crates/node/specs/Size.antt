-- The question for the size in force (R10): at the latest time seen.
use Rattle.refusals.specs.declared.Refusal.{Refusal}
use Rattle.std.specs.Prelude.{ℕ, cond, [], ◌∷◌, Result, Ok, Err}
use Rattle.refusals.specs.Given.{Given, answered, refused}
use Rattle.refusals.specs.declared.Refusal.TheVariants.{NoLocator}
use Rattle.node.specs.Node.{has_service, path_size_at}
use Rattle.node.specs.declared.Node.{Node}
use Rattle.node.specs.declared.ServiceName.{ServiceName}

-- the size, or the number (R4)
abbrev pub size_given : Result ℕ Refusal → Given
size_given (Ok size) = answered (size ∷ [])
size_given (Err r) = refused r

-- 11: the node has no such service
unfoldable pub path_size_of : Node → ServiceName → ℕ → Result ℕ Refusal
path_size_of node name v = cond (has_service node name) (Ok (path_size_at node name v node.latest)) (Err NoLocator)
