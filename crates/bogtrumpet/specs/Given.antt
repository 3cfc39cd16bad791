-- Number and values (R4, R1.17) of a plain answer, as a caller reads them.
use Rattle.std.specs.Prelude.{cond, [], ◌∷◌, eqb}
use Rattle.refusals.specs.Given.{Given, read_back}
use Rattle.bogtrumpet.specs.declared.answers.Received.{Received}
use Rattle.bogtrumpet.specs.declared.answers.Sent.{Sent}
use Rattle.bogtrumpet.specs.declared.answers.Sized.{Sized}
use Rattle.bogtrumpet.specs.declared.answers.Reported.{Reported}
use Rattle.bogtrumpet.specs.declared.answers.Asked.{Asked}
use Rattle.bogtrumpet.specs.declared.answers.Heard.{Heard}
use Rattle.bogtrumpet.specs.declared.answers.Advertised.{Advertised}

-- of receiving: 1 where the inner packet stands in the memory, its place there or in the datagram, and its length
abbrev pub received_back : Received → Given
received_back a = read_back a.number (cond a.joined 1 0 ∷ a.offset ∷ a.length ∷ [])

-- of the question for the size in force: the size
abbrev pub sized_back : Sized → Given
sized_back a = read_back a.number (a.size ∷ [])

-- of sending: with 14 the size M and the length of the message written, with 0 the length of the datagram written
abbrev pub sent_back : Sent → Given
sent_back a =
    cond (eqb a.number 14) (record { number = 14; values = a.size ∷ a.message_length ∷ [] }) (read_back a.number (a.length ∷ []))

-- of a size report: the neighbour and its size
abbrev pub reported_back : Reported → Given
reported_back a = read_back a.number (a.neighbour ∷ a.size ∷ [])

-- of asking: the router that is asked
abbrev pub asked_back : Asked → Given
asked_back a = read_back a.number (a.router ∷ [])

-- of an advertisement: the router that advertised
abbrev pub heard_back : Heard → Given
heard_back a = read_back a.number (a.router ∷ [])

-- of advertising: the length of the advertisement written
abbrev pub advertised_back : Advertised → Given
advertised_back a = read_back a.number (a.length ∷ [])
