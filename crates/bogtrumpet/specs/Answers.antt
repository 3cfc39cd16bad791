-- Answers as plain structs (R4): the number, 0 where the call is not refused, and the values that go
-- with it; a value that an answer does not have is 0.
use Rattle.refusals.specs.declared.Refusal.{Refusal}
use Rattle.std.specs.Prelude.{true, false, Result, Ok, Err, ℕ}
use Rattle.receiving.specs.declared.Received as receiving
use Rattle.receiving.specs.declared.Received.TheVariants as received
use Rattle.refusals.specs.Refusals.{number_of}
use Rattle.reports.specs.declared.Report.{Report}
use Rattle.sending.specs.declared.SendAnswer.{SendAnswer}
use Rattle.sending.specs.declared.SendAnswer.TheVariants as sent
use Rattle.settings.specs.Settings.{defaults_for}
use Rattle.settings.specs.declared.Settings.{Settings}
use Rattle.bogtrumpet.specs.declared.answers.Received.{Received}
use Rattle.bogtrumpet.specs.declared.answers.Sent.{Sent}
use Rattle.bogtrumpet.specs.declared.answers.Sized.{Sized}
use Rattle.bogtrumpet.specs.declared.answers.Reported.{Reported}
use Rattle.bogtrumpet.specs.declared.answers.Asked.{Asked}
use Rattle.bogtrumpet.specs.declared.answers.Heard.{Heard}
use Rattle.bogtrumpet.specs.declared.answers.Advertised.{Advertised}

-- defaults belong to the settings (R2.10): the settings with the same locators, prefixes and routers, and defaults for the rest
unfoldable pub defaults_of : Settings → Settings
defaults_of s = defaults_for s.locators s.locator_count s.prefixes s.prefix_count s.routers s.router_count

-- the place of the 40 + payload length inner bytes, in the lent datagram (R5.13), or in the memory where they were joined (R23.14)
abbrev pub plain_received : Result receiving.Received Refusal → Received
plain_received (Ok (received.Delivered offset length)) = record { number = 0; joined = false; offset = offset; length = length }
plain_received (Ok (received.Joined offset length)) = record { number = 0; joined = true; offset = offset; length = length }
plain_received (Err r) = record { number = number_of r; joined = false; offset = 0; length = 0 }

-- the size in force (R10.1)
abbrev pub plain_sized : Result ℕ Refusal → Sized
plain_sized (Ok size) = record { number = 0; size = size }
plain_sized (Err r) = record { number = number_of r; size = 0 }

-- the length written (R1.17); 14 carries the size M and the length of the message written (R8.4)
abbrev pub plain_sent : SendAnswer → Sent
plain_sent (sent.Wrapped length) = record { number = 0; size = 0; length = length; message_length = 0 }
plain_sent (sent.TooBig size length) = record { number = 14; size = size; length = 0; message_length = length }
plain_sent (sent.Refused r) = record { number = number_of r; size = 0; length = 0; message_length = 0 }

-- a size report answers the neighbour and its size (R1.17)
abbrev pub plain_reported : Result Report Refusal → Reported
plain_reported (Ok report) = record { number = 0; neighbour = report.neighbour; size = report.size }
plain_reported (Err r) = record { number = number_of r; neighbour = 0; size = 0 }

-- asking answers the router's IPv4 address (R1.17)
abbrev pub plain_asked : Result ℕ Refusal → Asked
plain_asked (Ok router) = record { number = 0; router = router }
plain_asked (Err r) = record { number = number_of r; router = 0 }

-- an advertisement answers the router's IPv4 address (R1.17)
abbrev pub plain_heard : Result ℕ Refusal → Heard
plain_heard (Ok router) = record { number = 0; router = router }
plain_heard (Err r) = record { number = number_of r; router = 0 }

-- advertising answers the length written (R1.17)
abbrev pub plain_advertised : Result ℕ Refusal → Advertised
plain_advertised (Ok length) = record { number = 0; length = length }
plain_advertised (Err r) = record { number = number_of r; length = 0 }
