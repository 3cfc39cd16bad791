-- What a sending comes to (R7), before a byte is written: 8, 11, 12, 13, then 14. 23 and 15 are the writers'.
use Rattle.std.specs.Prelude.{ℕ, Bool, true, false, cond, List, [], ◌∷◌, length, nat_lt, Option, Some, None, Result, Ok, Err}
use Rattle.address.specs.Address.{last_quad}
use Rattle.header.specs.Inner.{inner_of, is_packet_malformed, may_draw_error}
use Rattle.paths.specs.Packets.{largest_packet}
use Rattle.refusals.specs.Refusals.{first_of, stop_or}
use Rattle.refusals.specs.declared.Refusal.{Refusal}
use Rattle.refusals.specs.declared.Refusal.TheVariants.{InnerMalformed, NoLocator, NextHopNotIsatap, TunnelEndForbidden}
use Rattle.settings.specs.Locators.{address_of, is_no_locator}
use Rattle.settings.specs.Settings.{locator_of, embedded_to, is_bad_end}
use Rattle.settings.specs.declared.Settings.{Settings}
use Rattle.sending.specs.declared.judging.Plan.{Plan}
use Rattle.sending.specs.declared.judging.Plan.TheVariants.{Wrap, Tell, Silent}

-- 12: the next hop is no ISATAP address
unfoldable pub is_not_isatap : Option ℕ → Bool
is_not_isatap (Some a) = false
is_not_isatap None = true

-- 8: the packet's length must equal 40 + payload length; 11; 12; 13: the tunnel end, the last 32 bits of the next hop, is
-- forbidden or our own
abbrev pub send_rows : Settings → List ℕ → List ℕ → ℕ → List (Bool × Refusal)
send_rows s packet hop k =
    (is_packet_malformed (length packet) (inner_of packet), InnerMalformed)
    ∷ (is_no_locator (locator_of s k), NoLocator)
    ∷ (is_not_isatap (embedded_to s hop), NextHopNotIsatap)
    ∷ (is_bad_end s (last_quad hop), TunnelEndForbidden)
    ∷ []

-- the first of 8, 11, 12 and 13 that a packet to that next hop gets, from locator k
unfoldable pub send_check : Settings → List ℕ → List ℕ → ℕ → Result Unit Refusal
send_check s packet hop k = first_of (send_rows s packet hop k)

-- the same, else the locator's address
unfoldable pub source_for : Settings → List ℕ → List ℕ → ℕ → Result ℕ Refusal
source_for s packet hop k = stop_or Err (send_check s packet hop k) (Ok (address_of (locator_of s k)))

-- if n > M: 14 (R7.7), with a message where the packet may draw one. Otherwise the packet is wrapped (R7.10), from the locator's address
unfoldable pub sized_plan : ℕ → List ℕ → ℕ → Plan
sized_plan P packet source =
    let size : ℕ = largest_packet P in
    cond (nat_lt size (length packet)) (cond (may_draw_error packet) (Tell size) (Silent size)) (Wrap source)

-- the plan for a packet over a path of size P to a next hop, from locator k
unfoldable pub plan_of : Settings → ℕ → List ℕ → List ℕ → ℕ → Result Plan Refusal
plan_of s P packet hop k = stop_or Err (send_check s packet hop k) (Ok (sized_plan P packet (address_of (locator_of s k))))
