-- A plain answer read back has the call's number and values (R1.17). Assumes nothing.
use Rattle.std.specs.Prelude.{Result, Ok, Err, ℕ}
use Rattle.refusals.specs.declared.Refusal.{Refusal}
use mathlib.Core.Path.{◌≡◌, refl, ap, ◌∙◌}
use mathlib.Core.Bool.{Bool, cond}
use mathlib.Core.List.{[], ◌∷◌}
use Rattle.asking.specs.Ask.{ask_given}
use Rattle.header.specs.Wrap.{written_given}
use Rattle.hearing.specs.Heard.{heard_given}
use Rattle.receiving.specs.Receive.{received_given}
use Rattle.receiving.specs.declared.Received.{Received}
use Rattle.receiving.specs.declared.Received.TheVariants as received
use Rattle.refusals.specs.Given.{read_back}
use Rattle.refusals.specs.Refusals.{number_of}
use Rattle.refusals.proofs.Numbers.{never_14, refused-back}
use Rattle.reports.specs.Report.{report_given}
use Rattle.reports.specs.declared.Report.{Report}
use Rattle.sending.specs.Sending.{send_given}
use Rattle.sending.specs.declared.SendAnswer.{SendAnswer}
use Rattle.sending.specs.declared.SendAnswer.TheVariants as sent
use Rattle.bogtrumpet.specs.Answers.{plain_received, plain_sent, plain_reported, plain_asked, plain_heard, plain_advertised}
use Rattle.bogtrumpet.specs.Given.{received_back, sent_back, reported_back, asked_back, heard_back, advertised_back}

pub received-given : (a : Result Received Refusal) → received_back (plain_received a) ≡ received_given a
received-given (Ok (received.Delivered offset length)) = refl
received-given (Ok (received.Joined offset length)) = refl
received-given (Err r) = refused-back r (0 ∷ 0 ∷ 0 ∷ [])

pub sent-given : (a : SendAnswer) → sent_back (plain_sent a) ≡ send_given a
sent-given (sent.Wrapped length) = refl
sent-given (sent.TooBig size length) = refl
sent-given (sent.Refused r) =
    ap (λ (b : Bool). cond b (record { number = 14; values = 0 ∷ 0 ∷ [] }) (read_back (number_of r) (0 ∷ []))) (never_14 r) ∙ refused-back r (0 ∷ [])

pub reported-given : (a : Result Report Refusal) → reported_back (plain_reported a) ≡ report_given a
reported-given (Ok report) = refl
reported-given (Err r) = refused-back r (0 ∷ 0 ∷ [])

pub asked-given : (a : Result ℕ Refusal) → asked_back (plain_asked a) ≡ ask_given a
asked-given (Ok router) = refl
asked-given (Err r) = refused-back r (0 ∷ [])

pub heard-given : (a : Result ℕ Refusal) → heard_back (plain_heard a) ≡ heard_given a
heard-given (Ok router) = refl
heard-given (Err r) = refused-back r (0 ∷ [])

pub advertised-given : (a : Result ℕ Refusal) → advertised_back (plain_advertised a) ≡ written_given a
advertised-given (Ok length) = refl
advertised-given (Err r) = refused-back r (0 ∷ [])
