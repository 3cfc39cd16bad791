-- Demand 2 of sending, said in plain facts, for every number: when 14 is given and what is then written, and when each refusal is given.
use Rattle.std.specs.Prelude.{◌≡◌, ℕ, ◌+◌, ◌<◌, ◌≤◌, min, ◌⊎◌, List, length}
use Rattle.address.specs.Address.{last_quad}
use Rattle.header.specs.Draws.{DrawsMessage}
use Rattle.lent.specs.Written.{written}
use Rattle.messages.specs.Facts.{too_big_bytes}
use Rattle.paths.specs.Packets.{LargerOfBoth}
use Rattle.refusals.specs.declared.Refusal.{Refusal}
use Rattle.refusals.specs.declared.Refusal.TheVariants.{InnerMalformed, NoLocator, NextHopNotIsatap, TunnelEndForbidden, OutputShort, WrappedTooLong}
use Rattle.settings.specs.Facts.{BadEnd, IsatapTo, LocatorAt}
use Rattle.settings.specs.declared.Settings.{Settings}
use Rattle.sending.specs.Wraps.{Whole, Passes, PathTakes, WrappedExactly}
use Rattle.sending.specs.declared.SendAnswer.{SendAnswer}
use Rattle.sending.specs.declared.SendAnswer.TheVariants.{TooBig, Refused}

-- the rules of 14, which names M: 8, 11, 12 and 13 do not hold, and the packet is longer than M
pub record Exceeds (s : Settings) (P : ℕ) (packet hop : List ℕ) (k M : ℕ) : Type 0 where
  pub passes : (a : ℕ) × Passes s packet hop k a
  pub largest : LargerOfBoth P M
  pub longer : M < length packet

-- the length of the message: 48 and the min(n, 1,232) bytes that it quotes
abbrev pub message_length : List ℕ → ℕ
message_length packet = 48 + min 1232 (length packet)

-- 14 names the length of a message that the packet draws and the room takes, or 0 where it draws none
abbrev pub Names : List ℕ → ℕ → ℕ → Type 0
Names packet room len =
    (DrawsMessage packet × (len ≡ message_length packet) × (len ≤ room)) ⊎ ((DrawsMessage packet → ⊥) × (len ≡ 0))

-- of a sending with identification i into the output `out`: its answer, the next identification, and the output afterwards
module _ (s : Settings) (i P : ℕ) (packet hop : List ℕ) (k : ℕ) (out : List ℕ) (answer : SendAnswer) (next : ℕ) (output : List ℕ) where
  -- the answer a is given, and no identification is used
  abbrev pub Gives : SendAnswer → Type 0
  Gives a = (answer ≡ a) × (next ≡ i)

  -- when 14 is given, and what it writes
  pub record TooBigExactly : Type 0 where
    -- 14 is given only when its rules hold
    pub only_if : (M len : ℕ) → answer ≡ TooBig M len → Exceeds s P packet hop k M × Names packet (length out) len
    -- whenever its rules hold and the packet draws a message: that is written, and what stood behind it stays
    pub told : (M : ℕ) → Exceeds s P packet hop k M → DrawsMessage packet → message_length packet ≤ length out
        → Gives (TooBig M (message_length packet)) × (output ≡ written (too_big_bytes s.reporting M packet) out)
    -- whenever its rules hold and the packet draws no message: nothing is written
    pub silent : (M : ℕ) → Exceeds s P packet hop k M → (DrawsMessage packet → ⊥) → Gives (TooBig M 0) × (output ≡ out)

  -- the refusal r is given, and nothing is written
  abbrev pub Refuses : Refusal → Type 0
  Refuses r = Gives (Refused r) × (output ≡ out)

  -- when each refusal is given, in the call's order: each where those before it, 14 among them, do not hold
  pub record RefusedExactly : Type 0 where
    pub malformed : (Whole packet → ⊥) → Refuses InnerMalformed
    pub no_locator : Whole packet → ((a : ℕ) → LocatorAt s k a → ⊥) → Refuses NoLocator
    pub not_isatap : (a : ℕ) → Whole packet → LocatorAt s k a → ((v : ℕ) → IsatapTo s hop v → ⊥) → Refuses NextHopNotIsatap
    pub bad_end : (a : ℕ) → Whole packet → LocatorAt s k a → IsatapTo s hop (last_quad hop) → BadEnd s (last_quad hop) → Refuses TunnelEndForbidden
    -- too little room for the message of 14
    pub message_short : (M : ℕ) → Exceeds s P packet hop k M → DrawsMessage packet → length out < message_length packet → Refuses OutputShort
    pub too_long : (a : ℕ) → Passes s packet hop k a → PathTakes P (length packet) → 65535 < 20 + length packet → Refuses WrappedTooLong
    pub short : (a : ℕ) → Passes s packet hop k a → PathTakes P (length packet) → 20 + length packet ≤ 65535
        → length out < 20 + length packet → Refuses OutputShort

  -- a sending does exactly what the rules say: a packet wrapped, 14, and each refusal
  pub record SentExactly : Type 0 where
    pub wrapped : WrappedExactly s i P packet hop k out answer next output
    pub too_big : TooBigExactly
    pub refused : RefusedExactly
