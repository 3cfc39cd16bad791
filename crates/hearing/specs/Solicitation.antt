-- Router solicitations (R22.4, R22.5; RFC 4861, 6.1.1): which are valid.
use Rattle.std.specs.Prelude.{ℕ, Bool, not, ◌&&◌, List, length, take, drop}
use Rattle.address.specs.Address.{is_unspecified}
use Rattle.header.specs.Inner.{inner_of, is_inner_malformed}
use Rattle.header.specs.declared.inner.Inner.{Inner}
use Rattle.messages.specs.Icmp.{solicitation_type}
use Rattle.options.specs.Options.{are_options_whole, has_source_link_layer}
use Rattle.hearing.specs.Message.{message_of, is_valid_message}

-- ICMPv6 length at least 8: the options start there (RFC 4861, 4.1)
abbrev pub solicitation_options : ℕ
solicitation_options = 8

-- where the source is `::`, no option is a source link-layer address
abbrev pub is_source_allowed : List ℕ → List ℕ → Bool
is_source_allowed source p = not (is_unspecified source && has_source_link_layer (drop solicitation_options (message_of p)))

-- valid: the rules of a message of type 133, and of its source
unfoldable pub is_valid_solicitation : Inner → List ℕ → Bool
is_valid_solicitation i p = is_valid_message solicitation_type solicitation_options i p && is_source_allowed i.source p

-- the 40 + payload length bytes at the front are a valid solicitation; bytes behind them are passed over
unfoldable pub is_solicitation : List ℕ → Bool
is_solicitation p = not (is_inner_malformed (length p) (inner_of p)) && is_valid_solicitation (inner_of p) (take (inner_of p).length p)

-- what the options of a solicitation are asked, in one walk; only a function of the crate's own cites this
unfoldable pub are_options_allowed : List ℕ → List ℕ → Bool
are_options_allowed source p = are_options_whole (drop solicitation_options (message_of p)) && is_source_allowed source p
