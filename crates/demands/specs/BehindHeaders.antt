-- Errors behind extension headers (R25): what a packet's chain of headers means for a sending that comes to 14, through every service of every node.
use Rattle.std.specs.Prelude.{ℕ, ◌≤◌, ◌≡◌, Bool, cond, not, ◌&&◌, ◌||◌, List, eqb, ltb, get_or, length, Result, Ok, Err}
use Rattle.refusals.specs.declared.Refusal.{Refusal}
use Rattle.address.specs.Address.{is_multicast_or_unspecified}
use Rattle.header.specs.Draws.{UpperLayer, Chain, OffsetsZero, ErrorOrRedirect, Harmless, Answerable}
use Rattle.header.specs.Fields.{address_at}
use Rattle.lent.specs.Written.{written}
use Rattle.messages.specs.Facts.{too_big_bytes}
use Rattle.paths.specs.Packets.{largest_packet}
use Rattle.refusals.specs.Refusals.{stop_or}
use Rattle.settings.specs.Locators.{address_of}
use Rattle.settings.specs.Settings.{locator_of}
use Rattle.settings.specs.declared.Settings.{Settings}
use Rattle.sending.specs.Plan.{send_check}
use Rattle.sending.specs.Sending.{plan_answer, identification_after, plan_output}
use Rattle.sending.specs.Exactly.{Exceeds, message_length}
use Rattle.sending.specs.declared.judging.Plan.{Plan}
use Rattle.sending.specs.declared.judging.Plan.TheVariants.{Wrap, Tell, Silent}
use Rattle.sending.specs.declared.SendAnswer.{SendAnswer}
use Rattle.sending.specs.declared.SendAnswer.TheVariants.{TooBig}
use Rattle.node.specs.Send.{path_size_toward, send_of, send_output}
use Rattle.node.specs.Node.{service_of}
use Rattle.node.specs.declared.Node.{Node}
use Rattle.node.specs.declared.ServiceName.{ServiceName}
use Rattle.demands.specs.Two.{Has}

-- whether a message may be drawn, where the first next header alone is looked at: not if the source is multicast or `::`, or if that header is 58
-- with payload and the type is below 128 or is 137
abbrev pub may_draw_by_first : List ℕ → Bool
may_draw_by_first p =
    not (is_multicast_or_unspecified (address_at p 8) || (eqb (get_or p 6 0) 58 && ltb 40 (length p) && (ltb (get_or p 40 0) 128 || eqb (get_or p 40 0) 137)))

-- the plan of a sending by that
abbrev pub plan_by_first : Settings → ℕ → List ℕ → List ℕ → ℕ → Result Plan Refusal
plan_by_first s P packet hop k =
    let size : ℕ = largest_packet P in
    stop_or Err (send_check s packet hop k)
    (Ok (cond (ltb size (length packet)) (cond (may_draw_by_first packet) (Tell size) (Silent size)) (Wrap (address_of (locator_of s k)))))

module _ (n : Node) (w : ServiceName) (packet hop : List ℕ) (k time : ℕ) (out : List ℕ) where
  -- 14 is to be given, and to name M
  abbrev pub Due : ℕ → Type 0
  Due M = Has n w × Exceeds (service_of n w).settings (path_size_toward n w hop time) packet hop k M

  -- 14 is given with M and that length of a message, and those bytes stand in the output
  abbrev pub Tells : ℕ → ℕ → List ℕ → Type 0
  Tells M len bytes = ((send_of n w packet hop k time (length out)).answer ≡ TooBig M len) × (send_output n w packet hop k time out ≡ bytes)

  -- the answer by the first next header alone
  abbrev pub answer_by_first : SendAnswer
  answer_by_first = plan_answer (plan_by_first (service_of n w).settings (path_size_toward n w hop time) packet hop k) (length packet) (length out)

  -- and the output
  abbrev pub output_by_first : List ℕ
  output_by_first =
      plan_output (plan_by_first (service_of n w).settings (path_size_toward n w hop time) packet hop k) (service_of n w).settings (service_of n w).identification
      (path_size_toward n w hop time) packet hop out

  -- what is written about a packet that is too big, by its chain of headers
  pub record BehindHeaders : Type 0 where
    -- where an ICMPv6 error or a redirect stands behind headers, however many or none, nothing is written about it, whatever the room
    pub error : (M : ℕ) (hs : List (List ℕ)) (at : ℕ) → Due M → Chain packet hs 58 at → ErrorOrRedirect packet at → Tells M 0 out
    -- nor is it about a chain of which ICMPv6 is the end and no byte is left
    pub empty : (M : ℕ) (hs : List (List ℕ)) (at : ℕ) → Due M → Chain packet hs 58 at → length packet ≤ at → Tells M 0 out
    -- nor about one with a later fragment
    pub later : (M : ℕ) (hs : List (List ℕ)) (upper at : ℕ) → Due M → Chain packet hs upper at → (OffsetsZero (get_or packet 6 0) hs → ⊥) → Tells M 0 out
    -- nor about one that runs past the packet
    pub past : (M : ℕ) → Due M → ((hs : List (List ℕ)) (upper at : ℕ) → Chain packet hs upper at → ⊥) → Tells M 0 out
    -- about a chain that ends otherwise the message is written, where a message can go to the source and the room takes it
    pub other : (M : ℕ) (hs : List (List ℕ)) (upper at : ℕ) → Due M → Chain packet hs upper at → OffsetsZero (get_or packet 6 0) hs
        → Harmless packet upper at → Answerable packet → message_length packet ≤ length out
        → Tells M (message_length packet) (written (too_big_bytes (service_of n w).settings.reporting M packet) out)
    -- where the first next header is none of the four, a sending is what it is by that header alone
    pub by_first : Has n w → UpperLayer (get_or packet 6 0)
        → ((send_of n w packet hop k time (length out)).answer ≡ answer_by_first)
        × ((service_of (send_of n w packet hop k time (length out)).node w).identification ≡ identification_after answer_by_first (service_of n w).identification)
        × (send_output n w packet hop k time out ≡ output_by_first)
