-- What comparing two recordings answers, as a plain struct for C (R27.7). What an answer does not have is 0.
use Rattle.std.specs.Prelude.{Result, Ok, Err}
use Rattle.comparing.specs.Given.{more_number}
use Rattle.comparing.specs.declared.Report.{Report}
use Rattle.refusals.specs.Refusals.{number_of}
use Rattle.refusals.specs.declared.Refusal.{Refusal}
use Rattle.bogtrumpet_rules.specs.declared.recordings.Compared.{Compared}

-- the number, and with 0 the report's length and which recording has more datagrams
abbrev pub plain_compared : Result Report Refusal → Compared
plain_compared (Ok r) = record { number = 0; more = more_number r.more; length = r.length }
plain_compared (Err refusal) = record { number = number_of refusal; more = 0; length = 0 }
