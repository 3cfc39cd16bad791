-- Receiving (R5): the order 2 to 10, and what comes of a datagram.
use Rattle.std.specs.Prelude.{ℕ, Bool, false, not, ◌||◌, List, [], ◌∷◌, length, take, drop, eqb, Option, Some, None, Result, Ok, Err}
use Rattle.address.specs.Address.{last_quad, is_bad_source_with}
use Rattle.refusals.specs.Refusals.{first_of, stop_or}
use Rattle.refusals.specs.Given.{Given, answered, refused}
use Rattle.refusals.specs.declared.Refusal.{Refusal}
use Rattle.refusals.specs.declared.Refusal.TheVariants.{OuterMalformed, OuterChecksum, OtherProtocol, Piece, NotForUs, OuterSourceForbidden, InnerMalformed, InnerSourceBad, OuterSourceWrong}
use Rattle.header.specs.Numbers.{ipv6}
use Rattle.header.specs.Outer.{outer_of, is_outer_malformed, is_sum_wrong, payload_of}
use Rattle.header.specs.Inner.{inner_of, is_inner_malformed}
use Rattle.header.specs.declared.outer.Outer.{Outer}
use Rattle.header.specs.declared.inner.Inner.{Inner}
use Rattle.settings.specs.Settings.{forbidden_to, is_our_locator, embedded_to}
use Rattle.settings.specs.declared.Settings.{Settings}
use Rattle.routers.specs.Routers.{listed}
use Rattle.routers.specs.declared.Router.{Router}
use Rattle.receiving.specs.declared.Received.{Received}
use Rattle.receiving.specs.declared.Received.TheVariants.{Delivered, Joined}

-- what is embedded is v
abbrev pub is_embedded : Option ℕ → ℕ → Bool
is_embedded (Some a) v = eqb a v
is_embedded None v = false

-- an ISATAP address that embeds v
unfoldable pub embeds : Settings → List ℕ → ℕ → Bool
embeds s a v = is_embedded (embedded_to s a) v

-- the source is right if it is an ISATAP address that embeds the outer source, or if the outer source is a listed router
abbrev pub is_source_right : Settings → Bool → ℕ → List ℕ → Bool
is_source_right s isListed source a = embeds s a source || isListed

-- 8 to 10, where n bytes remain for an inner packet with the fields i, from that outer source
abbrev pub inner_rows : Settings → Bool → ℕ → ℕ → Inner → List (Bool × Refusal)
inner_rows s isListed source n i =
    (is_inner_malformed n i, InnerMalformed)
    ∷ (is_bad_source_with (forbidden_to s (last_quad i.source)) i.source, InnerSourceBad)
    ∷ (not (is_source_right s isListed source i.source), OuterSourceWrong)
    ∷ []

-- the order 2 to 10, of a datagram d with the outer fields o, where n bytes remain for an inner packet with the fields i
abbrev pub receive_rows : Settings → List Router → ℕ → List ℕ → Outer → ℕ → Inner → List (Bool × Refusal)
receive_rows s routers interface d o n i =
    (is_outer_malformed (length d) o, OuterMalformed)
    ∷ (is_sum_wrong d o, OuterChecksum)
    ∷ (not (eqb o.protocol ipv6), OtherProtocol)
    ∷ (not (eqb o.fragment 0), Piece)
    ∷ (not (is_our_locator s o.destination interface), NotForUs)
    ∷ (forbidden_to s o.source, OuterSourceForbidden)
    ∷ inner_rows s (listed o.source routers) o.source n i

-- the first refusal of the order; else the place of the 40 + payload length inner bytes, behind the outer header
unfoldable pub received_of : Settings → List Router → List ℕ → ℕ → Result Received Refusal
received_of s routers d interface =
    let o : Outer = outer_of d in
    let p : List ℕ = payload_of d o in
    let i : Inner = inner_of p in
    stop_or Err (first_of (receive_rows s routers interface d o (length p) i)) (Ok (Delivered o.header i.length))

-- the answer is the part of the lent datagram that holds the 40 + payload length inner bytes; after a refusal that part is empty (R5.13)
abbrev pub part_of : Result Received Refusal → List ℕ → List ℕ
part_of (Ok (Delivered offset size)) d = take size (drop offset d)
part_of (Ok (Joined offset size)) d = []
part_of (Err refusal) d = []

-- number and values (R1.17): 0 where the inner packet stands in the datagram, 1 where it stands in the memory; its place there, and its length
abbrev pub received_given : Result Received Refusal → Given
received_given (Ok (Delivered offset size)) = answered (0 ∷ offset ∷ size ∷ [])
received_given (Ok (Joined offset size)) = answered (1 ∷ offset ∷ size ∷ [])
received_given (Err refusal) = refused refusal
