-- Headers read and judged, for C (R5): the number, 0 where nothing is refused, and what was read.
use Rattle.std.specs.Prelude.{ℕ, false, cond, List, length, Ok, Err, Result}
use Rattle.header.specs.Inner.{inner_of, is_inner_malformed}
use Rattle.header.specs.Outer.{outer_of, outer_read_of, payload_of}
use Rattle.header.specs.declared.outer.Outer.{Outer}
use Rattle.refusals.specs.Refusals.{number_of}
use Rattle.refusals.specs.declared.Refusal.{Refusal}
use Rattle.refusals.specs.declared.Refusal.TheVariants.{InnerMalformed}
use Rattle.bogtrumpet_rules.specs.declared.headers.OuterRead.{OuterRead}
use Rattle.bogtrumpet_rules.specs.declared.headers.Received.{Received}

-- the fields of a header that passes, with its length and the datagram's
abbrev pub plain_outer : Result Outer Refusal → ℕ → ℕ → OuterRead
plain_outer (Ok o) header total =
    record { number = 0; protocol = o.protocol; header = header; total = total; source = o.source; destination = o.destination }
plain_outer (Err r) header total = record { number = number_of r; protocol = 0; header = 0; total = 0; source = 0; destination = 0 }

-- the outer header of a datagram, or the first of the numbers 2 to 5
unfoldable pub outer_in : List ℕ → OuterRead
outer_in d = plain_outer (outer_read_of d) (outer_of d).header (outer_of d).total

-- a refusal delivers nothing
abbrev pub refused_in : Refusal → Received
refused_in r = record { number = number_of r; joined = false; offset = 0; length = 0 }

-- 8, else the 40 + payload length inner bytes behind the outer header
unfoldable pub opened_in : List ℕ → Outer → Received
opened_in d o =
    let p : List ℕ = payload_of d o in
    cond (is_inner_malformed (length p) (inner_of p)) (refused_in InnerMalformed) (record { number = 0; joined = false; offset = o.header; length = (inner_of p).length })

-- 2 to 5, then 8, else the inner packet
abbrev pub unwrapped_as : Result Outer Refusal → List ℕ → Received
unwrapped_as (Ok o) d = opened_in d o
unwrapped_as (Err r) d = refused_in r

-- where the inner packet stands in a datagram, by the rules that need no settings: 2 to 5 and 8
unfoldable pub unwrapped_in : List ℕ → Received
unwrapped_in d = unwrapped_as (outer_read_of d) d
