-- What R4 says of an answer: the number given back, 0 where the call is not refused, and the values that go
-- with it, in the order in which R1.17 names them.
use Rattle.std.specs.Prelude.{ℕ, cond, List, [], eqb, Result, Ok, Err}
use Rattle.refusals.specs.Refusals.{number_of}
use Rattle.refusals.specs.declared.Refusal.{Refusal}

-- what is given back: the number, and the values that go with it
pub record Given : Type 0 where
  pub number : ℕ
  pub values : List ℕ

-- a call that is not refused gives values alone
abbrev pub answered : List ℕ → Given
answered values = record { number = 0; values = values }

-- a refusal gives its number alone
abbrev pub refused : Refusal → Given
refused r = record { number = number_of r; values = [] }

-- the number of an answer, 0 where the call is not refused
abbrev pub number_in : {A : Type 0} → Result A Refusal → ℕ
number_in (Ok given) = 0
number_in (Err refusal) = number_of refusal

-- what is read back of a plain answer: its number, and with 0 its values
abbrev pub read_back : ℕ → List ℕ → Given
read_back number values = record { number = number; values = cond (eqb number 0) values [] }
