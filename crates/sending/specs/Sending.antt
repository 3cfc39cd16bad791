-- A sending (R7): its answer, the next identification, and what it leaves in the output.
use Rattle.refusals.specs.declared.Refusal.{Refusal}
use Rattle.std.specs.Prelude.{ℕ, ◌+◌, ◌%◌, List, [], ◌∷◌, length, Result, Ok, Err}
use Rattle.address.specs.Address.{last_quad}
use Rattle.header.specs.Numbers.{ipv6}
use Rattle.header.specs.Wrap.{wrap_answer, wrap_output}
use Rattle.header.specs.declared.wrap.OuterFields.{OuterFields}
use Rattle.messages.specs.Icmp.{too_big_answer, too_big_output}
use Rattle.paths.specs.Packets.{dont_fragment}
use Rattle.refusals.specs.Given.{Given, answered, refused}
use Rattle.settings.specs.declared.Settings.{Settings}
use Rattle.sending.specs.Plan.{plan_of}
use Rattle.sending.specs.declared.judging.Plan.{Plan}
use Rattle.sending.specs.declared.judging.Plan.TheVariants.{Wrap, Tell, Silent}
use Rattle.sending.specs.declared.Sent.{Sent}
use Rattle.sending.specs.declared.SendAnswer.{SendAnswer}
use Rattle.sending.specs.declared.SendAnswer.TheVariants.{Wrapped, TooBig, Refused}

-- what is answered for a packet that is wrapped: the length written, or why nothing is
abbrev pub wrapped_as : Result ℕ Refusal → SendAnswer
wrapped_as (Ok n) = Wrapped n
wrapped_as (Err refusal) = Refused refusal

-- what is answered for a packet that is too big, with M and the length of the message written
abbrev pub told_as : ℕ → Result ℕ Refusal → SendAnswer
told_as size (Ok n) = TooBig size n
told_as size (Err refusal) = Refused refusal

-- what is answered for a packet of n bytes with that much room: 23 and 15 are the writers'
abbrev pub plan_answer : Result Plan Refusal → ℕ → ℕ → SendAnswer
plan_answer (Ok (Wrap source)) n room = wrapped_as (wrap_answer n room)
plan_answer (Ok (Tell size)) n room = told_as size (too_big_answer n room)
plan_answer (Ok (Silent size)) n room = TooBig size 0
plan_answer (Err refusal) n room = Refused refusal

-- the identification wraps from 65,535 to 0; only a wrapped packet uses one (R7.13)
abbrev pub identification_after : SendAnswer → ℕ → ℕ
identification_after (Wrapped n) identification = (identification + 1) % 65536
identification_after (TooBig size n) identification = identification
identification_after (Refused refusal) identification = identification

-- identification, don't-fragment set exactly when P − 20 > 1,280, TTL, protocol 41, the locator's address, the tunnel end
unfoldable pub fields_for : Settings → ℕ → ℕ → List ℕ → ℕ → OuterFields
fields_for s identification P hop source = record {
  identification = identification;
  dont_fragment = dont_fragment P;
  ttl = s.ttl;
  protocol = ipv6;
  source = source;
  destination = last_quad hop;
}

-- what stands in the output afterwards: the wrapped packet, the message, or what stood there
abbrev pub plan_output : Result Plan Refusal → Settings → ℕ → ℕ → List ℕ → List ℕ → List ℕ → List ℕ
plan_output (Ok (Wrap source)) s identification P packet hop out = wrap_output (fields_for s identification P hop source) packet out
plan_output (Ok (Tell size)) s identification P packet hop out = too_big_output s.reporting size packet out
plan_output (Ok (Silent size)) s identification P packet hop out = out
plan_output (Err refusal) s identification P packet hop out = out

-- the answer to a sending over a path of size P, to a next hop from locator k, with that much room in the output
abbrev pub answer_of : Settings → ℕ → List ℕ → List ℕ → ℕ → ℕ → SendAnswer
answer_of s P packet hop k room = plan_answer (plan_of s P packet hop k) (length packet) room

-- the answer and the next identification
unfoldable pub sent_of : Settings → ℕ → ℕ → List ℕ → List ℕ → ℕ → ℕ → Sent
sent_of s identification P packet hop k room =
    let a : SendAnswer = answer_of s P packet hop k room in
    record { answer = a; identification = identification_after a identification }

-- what it leaves in the output
unfoldable pub sent_output : Settings → ℕ → ℕ → List ℕ → List ℕ → ℕ → List ℕ → List ℕ
sent_output s identification P packet hop k out = plan_output (plan_of s P packet hop k) s identification P packet hop out

-- 14 carries the size M and the length of the message written
abbrev pub send_given : SendAnswer → Given
send_given (Wrapped n) = answered (n ∷ [])
send_given (TooBig size n) = record { number = 14; values = size ∷ n ∷ [] }
send_given (Refused refusal) = refused refusal
