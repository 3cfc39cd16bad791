-- Answers as plain numbers and structs, for C. What an answer does not have is 0.
use Rattle.std.specs.Prelude.{ℕ, true, false, ltb, Some, None, Ok, Err, Option, Result}
use Rattle.address.specs.Address.{embedded_in, link_local_of}
use Rattle.address.specs.Prefixes.{rows_of}
use Rattle.header.specs.declared.wrap.OuterFields.{OuterFields}
use Rattle.refusals.specs.Refusals.{number_of}
use Rattle.refusals.specs.declared.Refusal.{Refusal}
use Rattle.bogtrumpet_rules.specs.declared.addresses.Address.{Address}
use Rattle.bogtrumpet_rules.specs.declared.addresses.Prefixes.{Prefixes}
use Rattle.bogtrumpet_rules.specs.declared.addresses.Embedded.{Embedded}
use Rattle.bogtrumpet_rules.specs.declared.writers.Written.{Written}
use Rattle.bogtrumpet_rules.specs.declared.writers.Outer.{Outer}

-- the number, and with 0 the length written
abbrev pub plain_written : Result ℕ Refusal → Written
plain_written (Ok n) = record { number = 0; length = n }
plain_written (Err refusal) = record { number = number_of refusal; length = 0 }

-- the fields of an outer header: any don't-fragment byte but 0 sets the flag
abbrev pub fields_in : Outer → OuterFields
fields_in o = record {
  identification = o.identification;
  dont_fragment = ltb 0 o.dont_fragment;
  ttl = o.ttl;
  protocol = o.protocol;
  source = o.source;
  destination = o.destination;
}

-- the IPv4 address that an ISATAP address embeds
abbrev pub plain_embedded : Option ℕ → Embedded
plain_embedded (Some a) = record { found = true; address = a }
plain_embedded None = record { found = false; address = 0 }

-- an ISATAP address has an on-link prefix, then 00 or 02, 00, 5E, FE, then the IPv4 address (R6.1)
unfoldable pub isatap_in : Prefixes → Address → Embedded
isatap_in prefixes a = plain_embedded (embedded_in (rows_of prefixes.bytes) prefixes.count a.bytes)

-- the link-local ISATAP address of an IPv4 address, with 00 (R6.3)
unfoldable pub link_local_in : ℕ → Address
link_local_in a = record { bytes = link_local_of a }
