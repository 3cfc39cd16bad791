-- The service of a number, lent to be changed: what is left there is that service of the node. Only functions of the crate's own cite this.
use Rattle.std.specs.Prelude.{ℕ}
use Rattle.std.specs.Borrow.{Lends, MutBor, Fml}
use Rattle.node.specs.Node.{pick}
use Rattle.node.specs.contracts.Node as node
use Rattle.node.specs.contracts.Service as service
use Rattle.node.specs.declared.Node.{Node}
use Rattle.node.specs.declared.Service.{Service}
use Rattle.node.specs.declared.ServiceName.{ServiceName}
use Rattle.bogtrumpet.specs.Numbered.{name_of}

-- the node whose service of that name is another
abbrev pub with_service : Node → ServiceName → Service → Node
with_service h name s =
    record { first = pick name s h.first; second = pick name h.second s; paths = h.paths; latest = h.latest; both = h.both }

-- the node ends with what is left behind the reference as its service of that number
abbrev pub LendsService : MutBor Node → ℕ → MutBor Service → Fml
LendsService h k r = Lends node.the_row service.the_row h r (with_service h.now (name_of k))
