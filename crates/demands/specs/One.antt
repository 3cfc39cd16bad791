-- Demand 1 (R12.1), of every call: after any of them the state is as before but for the latest time, and the lent output is untouched; 14
-- alone may write, and of what is collected and of its memory a number may change what R23.16 says. Bytes behind the written length stay
-- (R1.14 to R1.16).
use Rattle.std.specs.Prelude.{ℕ, ◌≡◌, Bool, cond, ◌||◌, List, [], ◌∷◌, eqb, length, Option, None, Some}
use Rattle.lent.specs.Written.{written}
use Rattle.node.specs.Node.{service_of, node_with, raised_to}
use Rattle.node.specs.Receive.{with_pieces}
use Rattle.node.specs.declared.Node.{Node}
use Rattle.node.specs.declared.ServiceName.{ServiceName}
use Rattle.demands.specs.Calls.{NodeCall, Outcome, outcome_of, View, view_of}

-- what 14 may write into an output d: a message of the length that it names, behind which d stays
pub record Message (d e : List ℕ) (n : ℕ) : Type 0 where
  pub message : List ℕ
  pub size : length message ≡ n
  pub output : e ≡ written message d

-- what a refusal may change beside the latest time
pub data MayChange : Type 0 where
  -- nothing
  nothing : MayChange
  -- the collection
  collection : MayChange
  -- the collection and its memory
  memory_too : MayChange

-- R23.16, by the number: 29 the collection; 27, and 8, 9, 10 of what a piece completes, the memory too; all others nothing
abbrev pub changed_by : Bool → ℕ → MayChange
changed_by piece number =
    cond piece
    (cond (eqb number 29) collection (cond (eqb number 27 || eqb number 8 || eqb number 9 || eqb number 10) memory_too nothing))
    nothing

-- of the service that a call names no more than the collection changes, and of the other nothing; a report names none
abbrev pub OnlyCollected : Option ServiceName → Node → ℕ → Node → Type 0
OnlyCollected None n time next = next ≡ raised_to n time
OnlyCollected (Some w) n time next = next ≡ node_with n w (with_pieces (service_of n w) (service_of next w).pieces) time

-- a refusal of a call that is seen so changes nothing of the node n but its latest time, and writes nothing, but for the message of 14, and
-- but for what its number may change of what is collected
pub record Refusing (n : Node) (v : View) (o : Outcome) : Type 0 where
  pub state : (o.given.number ≡ 0 → ⊥) → changed_by v.piece o.given.number ≡ nothing → o.node ≡ raised_to n v.time
  pub collected : (o.given.number ≡ 0 → ⊥) → OnlyCollected v.service n v.time o.node
  pub output : (o.given.number ≡ 0 → ⊥) → (o.given.number ≡ 14 → ⊥) → (changed_by v.piece o.given.number ≡ memory_too → ⊥)
      → o.output ≡ v.lent
  pub too_big : (size len : ℕ) → o.given ≡ record { number = 14; values = size ∷ len ∷ [] } → Message v.lent o.output len

-- demand 1, of every node and every call; that a reporting address has 16 bytes is its type: the contract of `node::Node::put_back` has
-- it of every node
unfoldable pub DemandOne : Type 0
DemandOne =
    (n : Node) → ((w : ServiceName) → length (service_of n w).settings.reporting ≡ 16) → (x : NodeCall) → Refusing n (view_of x) (outcome_of n x)
