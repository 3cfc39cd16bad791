-- Advertisements (R15): the order 8, 20, 21, and the router's next due time.
use Rattle.std.specs.Prelude.{ℕ, Bool, cond, not, ◌&&◌, List, [], ◌∷◌, length, take, drop, Option, Some, None, Result, Ok, Err}
use Rattle.address.specs.Address.{is_link_local}
use Rattle.refusals.specs.Refusals.{first_of, stop_or}
use Rattle.refusals.specs.Given.{Given, answered, refused}
use Rattle.refusals.specs.declared.Refusal.{Refusal}
use Rattle.refusals.specs.declared.Refusal.TheVariants.{InnerMalformed, AdvertisementInvalid, AdvertiserNotListed}
use Rattle.header.specs.Fields.{word_at}
use Rattle.header.specs.Inner.{inner_of, is_inner_malformed}
use Rattle.header.specs.declared.inner.Inner.{Inner}
use Rattle.messages.specs.Icmp.{advertisement_type}
use Rattle.options.specs.Lifetimes.{options_read_of, due_after}
use Rattle.options.specs.declared.Options.{Options}
use Rattle.routers.specs.Routers.{live, listed, rescheduled_of}
use Rattle.routers.specs.declared.Router.{Router}
use Rattle.routers.specs.declared.RouterList.{RouterList}
use Rattle.settings.specs.Settings.{embedded_to}
use Rattle.settings.specs.declared.Settings.{Settings}
use Rattle.hearing.specs.Message.{message_of, is_sum_right, has_fields, is_valid_message}
use Rattle.hearing.specs.declared.Heard.{Heard}

-- ICMPv6 length at least 16: the options start there (RFC 4861, 4.2)
abbrev pub options_start : ℕ
options_start = 16

-- an advertisement, its options aside: a link-local source, the fields of a message of type 134, checksum right
unfoldable pub is_advertisement : Inner → List ℕ → Bool
is_advertisement i p = is_link_local i.source && has_fields advertisement_type options_start i p && is_sum_right p

-- what the options say, with the router's lifetime, which stands in the message's bytes 6 and 7 (RFC 4861, 4.2)
abbrev pub options_in : List ℕ → Options
options_in p = options_read_of (word_at (message_of p) 6) (drop options_start (message_of p))

-- valid: a link-local source, and the rules of a message of type 134
abbrev pub is_valid_advertisement : Inner → List ℕ → Bool
is_valid_advertisement i p = is_link_local i.source && is_valid_message advertisement_type options_start i p

-- after a refusal the router list is as before
abbrev pub refused_by : Refusal → RouterList → Heard
refused_by refusal routers = record { answer = Err refusal; routers = routers }

-- an answer, and the router list after it: the due time of the router whose advertisement is accepted becomes `due`
abbrev pub heard_as : Result ℕ Refusal → ℕ → RouterList → Heard
heard_as (Ok a) due routers = record { answer = Ok a; routers = rescheduled_of a due routers }
heard_as (Err refusal) due routers = refused_by refusal routers

-- what was judged of a packet, and the router list after it: the router whose advertisement is accepted is due then
abbrev pub heard_with : Result Router Refusal → RouterList → Heard
heard_with (Ok router) routers = heard_as (Ok router.address) router.due routers
heard_with (Err refusal) routers = refused_by refusal routers

-- 21: the source embeds no listed router; else the answer is that router, and its due time is set
abbrev pub heard_of_router : Option ℕ → RouterList → ℕ → Heard
heard_of_router (Some a) routers due =
    cond (listed a (live routers)) (heard_as (Ok a) due routers) (refused_by AdvertiserNotListed routers)
heard_of_router None routers due = refused_by AdvertiserNotListed routers

-- what comes of a valid advertisement from a source, with its smallest lifetime: 21, or its router's due time
unfoldable pub heard_from : Settings → RouterList → ℕ → List ℕ → Option ℕ → Heard
heard_from s routers now source smallest = heard_of_router (embedded_to s source) routers (due_after now s.interval smallest)

-- 20, where its options are not whole
unfoldable pub heard_message : Settings → RouterList → ℕ → List ℕ → List ℕ → Heard
heard_message s routers now source p =
    cond (options_in p).whole (heard_from s routers now source (options_in p).smallest) (refused_by AdvertisementInvalid routers)

-- 8 as in receiving; 20: no valid advertisement in the 40 + payload length bytes
abbrev pub heard_rows : List ℕ → List (Bool × Refusal)
heard_rows p =
    (is_inner_malformed (length p) (inner_of p), InnerMalformed)
    ∷ ((not (is_valid_advertisement (inner_of p) (take (inner_of p).length p)), AdvertisementInvalid)
    ∷ [])

-- 8, 20 and then 21; bytes behind 40 + payload length are passed over
unfoldable pub heard_of : Settings → RouterList → ℕ → List ℕ → Heard
heard_of s routers now p =
    stop_or (λ r. refused_by r routers) (first_of (heard_rows p))
    (heard_from s routers now (inner_of p).source (options_in (take (inner_of p).length p)).smallest)

-- number and values (R1.17): the router's IPv4 address
abbrev pub heard_given : Result ℕ Refusal → Given
heard_given (Ok a) = answered (a ∷ [])
heard_given (Err refusal) = refused refusal
