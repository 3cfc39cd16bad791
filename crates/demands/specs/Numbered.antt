-- What answers give, and their number: `refusals::number` gives of each answer the number that its definition by R4 has (R20.3).
use Rattle.std.specs.Prelude.{ℕ, ◌≡◌, Result}
use Rattle.refusals.specs.Given.{number_in}
use Rattle.refusals.specs.declared.Refusal.{Refusal}
use Rattle.header.specs.Outer.{outer_given}
use Rattle.header.specs.Wrap.{written_given}
use Rattle.header.specs.declared.outer.Outer.{Outer}
use Rattle.reports.specs.Report.{report_given}
use Rattle.reports.specs.declared.Report.{Report}
use Rattle.receiving.specs.Receive.{received_given}
use Rattle.receiving.specs.declared.Received.{Received}
use Rattle.asking.specs.Ask.{ask_given}
use Rattle.hearing.specs.Heard.{heard_given}
use Rattle.node.specs.Node.{setup_given}
use Rattle.node.specs.RouterList.{list_given}
use Rattle.node.specs.Size.{size_given}

-- a header that is read, a length that is written, a datagram that is received, a size report, a router that is asked or that advertised, a setup, a
-- router list, a size in force
pub record Numbered : Type 0 where
  pub outer : (a : Result Outer Refusal) → number_in a ≡ (outer_given a).number
  pub written : (a : Result ℕ Refusal) → number_in a ≡ (written_given a).number
  pub received : (a : Result Received Refusal) → number_in a ≡ (received_given a).number
  pub report : (a : Result Report Refusal) → number_in a ≡ (report_given a).number
  pub asked : (a : Result ℕ Refusal) → number_in a ≡ (ask_given a).number
  pub heard : (a : Result ℕ Refusal) → number_in a ≡ (heard_given a).number
  pub setup : (a : Result Unit Refusal) → number_in a ≡ (setup_given a).number
  pub list : (a : Result Unit Refusal) → number_in a ≡ (list_given a).number
  pub size : (a : Result ℕ Refusal) → number_in a ≡ (size_given a).number
