-- Answering a solicitation (R22): the order 8, 11, 24, 25, 26, 15, and the advertisement.
use Rattle.std.specs.Prelude.{ℕ, Bool, not, ◌&&◌, List, [], ◌∷◌, length, Option, Result, Ok, Err}
use Rattle.address.specs.Address.{is_link_local, is_identifier, link_local_of}
use Rattle.refusals.specs.Refusals.{first_of, stop_or}
use Rattle.refusals.specs.declared.Refusal.{Refusal}
use Rattle.refusals.specs.declared.Refusal.TheVariants as refusal
use Rattle.header.specs.Fields.{address_at}
use Rattle.header.specs.Inner.{inner_of, is_inner_malformed}
use Rattle.settings.specs.Locators.{is_no_locator, address_of}
use Rattle.hearing.specs.Solicitation.{is_solicitation}
use Rattle.advertisements.specs.Advertisement.{advertisement_answer, advertisement_output}
use Rattle.advertisements.specs.declared.Advertisement.{Advertisement}

-- the asker: the packet's source
abbrev pub asker_of : List ℕ → List ℕ
asker_of p = address_at p 8

-- a link-local ISATAP address, whatever IPv4 address it embeds
unfoldable pub is_asker_right : List ℕ → Bool
is_asker_right a = is_link_local a && is_identifier a

-- 8 as in receiving; 11: no locator of that number; 24: no valid solicitation; 25: the asker's address is not link-local ISATAP
abbrev pub asker_rows : Option ℕ → List ℕ → List (Bool × Refusal)
asker_rows found p =
    (is_inner_malformed (length p) (inner_of p), refusal.InnerMalformed)
    ∷ ((is_no_locator found, refusal.NoLocator)
    ∷ ((not (is_solicitation p), refusal.SolicitationInvalid)
    ∷ ((not (is_asker_right (asker_of p)), refusal.AskerNotIsatap)
    ∷ [])))

-- the first of 8, 11, 24 and 25
unfoldable pub asker_check : Option ℕ → List ℕ → Result Unit Refusal
asker_check found p = first_of (asker_rows found p)

-- the same, else the locator's address
unfoldable pub source_for : Option ℕ → List ℕ → Result ℕ Refusal
source_for found p = stop_or Err (asker_check found p) (Ok (address_of found))

-- the length written, or the number; 26 and 15 are the writer's
unfoldable pub advertised_of : Option ℕ → List ℕ → Advertisement → ℕ → Result ℕ Refusal
advertised_of found p a room = stop_or Err (asker_check found p) (advertisement_answer a room)

-- what stands in the output afterwards: the advertisement from the locator's link-local address back to the asker
unfoldable pub advertised_output : Option ℕ → List ℕ → Advertisement → List ℕ → List ℕ
advertised_output found p a out =
    stop_or (λ r. out) (asker_check found p) (advertisement_output (link_local_of (address_of found)) (asker_of p) a out)
