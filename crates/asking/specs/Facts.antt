-- When an asking is answered, and what it then does, in plain facts.
use Rattle.std.specs.Prelude.{ℕ, ◌+◌, ◌/◌, ◌%◌, ◌≤◌, ◌<◌, ◌≡◌, List, [], ◌∷◌, ◌++◌, length, Ok, Err}
use Rattle.checksum.specs.Sum.{ones_sum, ones_complement}
use Rattle.address.specs.Facts.{formed}
use Rattle.lent.specs.Written.{written}
use Rattle.refusals.specs.declared.Refusal.TheVariants.{NoLocator, OutputShort, NoRouterDue}
use Rattle.routers.specs.Routers.{live}
use Rattle.routers.specs.Facts.{EarliestDue, NoneIsDue, OnlyDue}
use Rattle.routers.specs.declared.RouterList.{RouterList}
use Rattle.settings.specs.Facts.{LocatorAt}
use Rattle.settings.specs.declared.Settings.{Settings}
use Rattle.asking.specs.Ask.{asked_of, asked_output}

-- the router may be asked from the numbered locator
pub record MayAsk (s : Settings) (routers : RouterList) (now number room : ℕ) (from router : ℕ) : Type 0 where
  -- the locator is there, and has this address
  pub locator : LocatorAt s number from
  -- the router has the earliest due time that is not in the future, lowest place on a tie
  pub next : EarliestDue now (live routers) router
  -- a solicitation fits
  pub long : 48 ≤ room

-- type 133, code 0, a checksum, reserved 0, no options (RFC 4861, 4.1)
abbrev pub solicitation_message : ℕ → List ℕ
solicitation_message sum = 133 ∷ (0 ∷ (sum / 256 ∷ (sum % 256 ∷ (0 ∷ (0 ∷ (0 ∷ (0 ∷ [])))))))

-- the complement of the sum over source, destination, length 8, next header 58 and the message, taken with the checksum 0
abbrev pub solicitation_sum : ℕ → ℕ → ℕ
solicitation_sum from router =
    ones_complement
    (ones_sum
    ((formed from ++ formed router) ++ (0 ∷ (0 ∷ (0 ∷ (8 ∷ (0 ∷ (0 ∷ (0 ∷ (58 ∷ solicitation_message 0))))))))))

-- the 48 bytes of a solicitation: payload length 8, next header 58, hop limit 255, our link-local address to the router's
abbrev pub solicitation_bytes : ℕ → ℕ → List ℕ
solicitation_bytes from router =
    (0x60 ∷ (0 ∷ (0 ∷ (0 ∷ (0 ∷ (8 ∷ (58 ∷ (255 ∷ []))))))))
    ++ ((formed from ++ formed router) ++ solicitation_message (solicitation_sum from router))

-- an asking is answered exactly when a router may be asked; then the output gets the solicitation, and the due time of that router, and of
-- no other, becomes now + interval
pub record AskedExactly (s : Settings) (routers : RouterList) (now number : ℕ) (out : List ℕ) : Type 0 where
  pub only_if : (router : ℕ) → (asked_of s routers now number (length out)).answer ≡ Ok router
      → (from : ℕ) × MayAsk s routers now number (length out) from router
  pub whenever : (from router : ℕ) → MayAsk s routers now number (length out) from router → (asked_of s routers now number (length out)).answer ≡ Ok router
  pub output : (from router : ℕ) → MayAsk s routers now number (length out) from router
      → asked_output s routers now number out ≡ written (solicitation_bytes from router) out
  pub due : (from router : ℕ) → MayAsk s routers now number (length out) from router
      → OnlyDue routers router (now + s.interval) (asked_of s routers now number (length out)).routers
  -- 11: no locator of that number
  pub no_locator : ((from : ℕ) → LocatorAt s number from → ⊥) → (asked_of s routers now number (length out)).answer ≡ Err NoLocator
  -- 15: no room for a solicitation
  pub short : (from router : ℕ) → LocatorAt s number from → EarliestDue now (live routers) router → length out < 48
      → (asked_of s routers now number (length out)).answer ≡ Err OutputShort
  -- 22 is given exactly when the locator is there and no router is due
  pub none_due : (asked_of s routers now number (length out)).answer ≡ Err NoRouterDue → ((from : ℕ) × LocatorAt s number from) × NoneIsDue now (live routers)
  pub when_none_due : (from : ℕ) → LocatorAt s number from → NoneIsDue now (live routers)
      → (asked_of s routers now number (length out)).answer ≡ Err NoRouterDue
