-- A service by its number, as C names it (R26.4).
use Rattle.std.specs.Prelude.{ℕ, Bool, true, false, cond, eqb, ltb}
use Rattle.node.specs.Node.{pick}
use Rattle.node.specs.declared.ServiceName.{ServiceName}
use Rattle.node.specs.declared.ServiceName.TheVariants.{First, Second}

-- 0 is the first and 1 the second; any other number is of no service
abbrev pub by_number : {A : Type 0} → ℕ → (ServiceName → A) → A → A
by_number k call none = cond (eqb k 0) (call First) (cond (eqb k 1) (call Second) none)

-- the name of a number; one above 1 reads as the second, and is then not there
abbrev pub name_of : ℕ → ServiceName
name_of k = cond (eqb k 0) First Second

-- whether a node of this `both` has the service of that number
abbrev pub is_there : ℕ → ℕ → Bool
is_there both k = by_number k (λ name. pick name true (ltb 0 both)) false
