-- Number and values (R1.17), read back from the plain answers of a writer and of comparing.
use Rattle.std.specs.Prelude.{[], ◌∷◌}
use Rattle.refusals.specs.Given.{Given, read_back}
use Rattle.bogtrumpet_rules.specs.declared.recordings.Compared.{Compared}
use Rattle.bogtrumpet_rules.specs.declared.writers.Written.{Written}

-- number and values (R1.17) of a writer's plain answer
abbrev pub written_back : Written → Given
written_back a = read_back a.number (a.length ∷ [])

-- number and values (R1.17) of the plain answer of comparing
abbrev pub compared_back : Compared → Given
compared_back a = read_back a.number (a.length ∷ (a.more ∷ []))
