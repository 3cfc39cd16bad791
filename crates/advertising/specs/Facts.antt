-- When a packet that asks is answered with an advertisement, and what is then written (R22), in plain facts.
use Rattle.std.specs.Prelude.{ℕ, ◌≤◌, ◌<◌, ◌≡◌, List, [], ◌∷◌, length, Result, Ok, Err}
use Rattle.address.specs.Facts.{LinkLocal, Identifier, formed}
use Rattle.lent.specs.Written.{written}
use Rattle.refusals.specs.Refusals.{AnswersFirst}
use Rattle.refusals.specs.declared.Refusal.{Refusal}
use Rattle.refusals.specs.declared.Refusal.TheVariants as refusal
use Rattle.header.specs.Whole.{WholeInner}
use Rattle.settings.specs.Facts.{LocatorAt}
use Rattle.settings.specs.declared.Settings.{Settings}
use Rattle.hearing.specs.Facts.{fields_of, ValidSolicitation}
use Rattle.advertisements.specs.Facts.{BadOptions, AdvertisementOf}
use Rattle.advertisements.specs.declared.Advertisement.{Advertisement}

-- RFC 5214, 6.1: fe80::/64, then 00 or 02, then 00 5E FE, then any IPv4 address
abbrev pub LinkLocalIsatap : List ℕ → Type 0
LinkLocalIsatap a = LinkLocal a × Identifier a

-- 8, 11, 24, 25 and 26 do not hold of a packet that asks at locator k, whose address is `from`, and of the operator's advertisement
pub record MayAdvertise (s : Settings) (packet : List ℕ) (k : ℕ) (a : Advertisement) (from : ℕ) : Type 0 where
  -- RFC 2460, 3: a whole IPv6 packet; bytes may stand behind it
  pub whole : WholeInner (length packet) (fields_of packet)
  -- there is a locator of that number
  pub locator : LocatorAt s k from
  -- RFC 4861, 6.1.1: a valid router solicitation
  pub solicitation : ValidSolicitation packet
  -- the asker's address is link-local ISATAP
  pub asker : LinkLocalIsatap (fields_of packet).source
  -- not too many prefixes and routes, and none too long
  pub options : BadOptions a → ⊥

-- R4, in the order of advertising: what each number is given for, where the advertisement would have n bytes
abbrev pub advertise_facts : Settings → List ℕ → ℕ → Advertisement → ℕ → ℕ → List (Type 0 × Refusal)
advertise_facts s packet k a n room =
    (WholeInner (length packet) (fields_of packet) → ⊥, refusal.InnerMalformed)
    ∷ (((from : ℕ) → LocatorAt s k from → ⊥), refusal.NoLocator)
    ∷ (ValidSolicitation packet → ⊥, refusal.SolicitationInvalid)
    ∷ (LinkLocalIsatap (fields_of packet).source → ⊥, refusal.AskerNotIsatap)
    ∷ (BadOptions a, refusal.OptionsBad)
    ∷ (room < n, refusal.OutputShort)
    ∷ []

-- the claim, of a packet that asks at locator k and of an output `out`: the answer, and the output afterwards
pub record AdvertisedExactly (s : Settings) (packet : List ℕ) (k : ℕ) (a : Advertisement) (out : List ℕ) (answer : Result ℕ Refusal) (output : List ℕ) : Type 0 where
  -- the length of the advertisement
  pub size : ℕ
  -- the first of the numbers is given whose fact holds, and where none holds that length
  pub answers : AnswersFirst Err (advertise_facts s packet k a size (length out)) (Ok size) answer
  -- a length is answered only when the rules hold, and it is that of an advertisement that fits
  pub only_if : (n : ℕ) → answer ≡ Ok n → (n ≡ size) × (size ≤ length out) × ((from : ℕ) × MayAdvertise s packet k a from)
  -- whenever the rules hold there is an advertisement from the locator's link-local address to the asker's address as it stands, of that length;
  -- if it fits, it is written, and what stood behind it stays
  pub whenever : (from : ℕ) → MayAdvertise s packet k a from
      → (p : List ℕ)
      × AdvertisementOf (formed from) (fields_of packet).source a p
      × (length p ≡ size)
      × (size ≤ length out → (answer ≡ Ok size) × (output ≡ written p out))
  -- after a number nothing is written
  pub untouched : (r : Refusal) → answer ≡ Err r → output ≡ out
