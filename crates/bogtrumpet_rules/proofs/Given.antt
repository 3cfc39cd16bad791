-- A plain answer read back has the number and values (R1.17) of the writer's, or of comparing. Assumes nothing.
use Rattle.refusals.specs.declared.Refusal.{Refusal}
use Rattle.std.specs.Prelude.{◌≡◌, refl, [], ◌∷◌, Result, Ok, Err, ℕ}
use Rattle.header.specs.Wrap.{written_given}
use Rattle.refusals.proofs.Numbers.{refused-back}
use Rattle.comparing.specs.Given.{compared_given}
use Rattle.comparing.specs.declared.Report.{Report}
use Rattle.bogtrumpet_rules.specs.Answers.{plain_written}
use Rattle.bogtrumpet_rules.specs.Given.{written_back, compared_back}
use Rattle.bogtrumpet_rules.specs.Recordings.{plain_compared}

pub written-given : (w : Result ℕ Refusal) → written_back (plain_written w) ≡ written_given w
written-given (Ok n) = refl
written-given (Err refusal) = refused-back refusal (0 ∷ [])

pub compared_given_lem : (c : Result Report Refusal) → compared_back (plain_compared c) ≡ compared_given c
compared_given_lem (Ok r) = refl
compared_given_lem (Err refusal) = refused-back refusal (0 ∷ (0 ∷ []))
