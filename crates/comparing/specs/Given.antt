-- What comparing gives back (R1.17, R27.7): number and values.
use Rattle.std.specs.Prelude.{ℕ, [], ◌∷◌, Result, Ok, Err}
use Rattle.refusals.specs.Given.{Given, answered, refused}
use Rattle.refusals.specs.declared.Refusal.{Refusal}
use Rattle.comparing.specs.declared.More.{More}
use Rattle.comparing.specs.declared.More.TheVariants.{First, Second, Neither}
use Rattle.comparing.specs.declared.Report.{Report}

-- which recording has more datagrams, as a number
abbrev pub more_number : More → ℕ
more_number Neither = 0
more_number First = 1
more_number Second = 2

-- number and values: the report's length, and which recording has more datagrams
abbrev pub compared_given : Result Report Refusal → Given
compared_given (Ok r) = answered (r.length ∷ (more_number r.more ∷ []))
compared_given (Err refusal) = refused refusal
