-- Worked values of the input: one record in each section, the same cut off, with a byte more, and no input. Assumes nothing.
use Prim.Native.Nat.{ℕ}
use mathlib.Core.Path.{◌≡◌, refl}
use mathlib.Core.Bool.{true, false}
use mathlib.Core.List.{List, [], ◌∷◌, ◌++◌, flatten}
use lib.ListN.{take}
use Rattle.header.specs.Fields.{word_at, quad_at}
use Rattle.settings.specs.Settings.{defaults_for}
use Rattle.input.specs.Section.{records_of, locator_of, filled, locators_in, prefixes_in, routers_in}
use Rattle.input.specs.Recording.{datagrams_of, is_recording}
use Rattle.input.specs.Input.{prefix_section, router_section, behind_settings, are_sections_whole, settings_of, is_well_formed}

-- locator 10.0.0.1 on 7; prefix 2001:db8:0:1::/64; router 10.0.0.9; a datagram of two bytes on 7
abbrev example : List ℕ
example =
    0 ∷ 1 ∷ 10 ∷ 0 ∷ 0 ∷ 1 ∷ 7
    ∷ 0 ∷ 1 ∷ 32 ∷ 1 ∷ 13 ∷ 184 ∷ 0 ∷ 0 ∷ 0 ∷ 1
    ∷ 0 ∷ 1 ∷ 10 ∷ 0 ∷ 0 ∷ 9
    ∷ 0 ∷ 1 ∷ 7 ∷ 0 ∷ 2 ∷ 170 ∷ 187 ∷ []

pub well_formed : (is_well_formed example ≡ true)
    × (is_well_formed (take 29 example) ≡ false)
    × (is_well_formed (example ++ (0 ∷ [])) ≡ false)
    × (is_well_formed [] ≡ false)
unfolding is_well_formed are_sections_whole is_recording behind_settings router_section prefix_section word_at
well_formed = (refl, refl, refl, refl)

pub read : (take 2 (settings_of example).locators ≡ record { address = 167772161; interface = 7 } ∷ record { address = 0; interface = 0 } ∷ [])
    × (take 9 (settings_of example).prefixes ≡ 32 ∷ 1 ∷ 13 ∷ 184 ∷ 0 ∷ 0 ∷ 0 ∷ 1 ∷ 0 ∷ [])
    × (take 2 (settings_of example).routers ≡ 167772169 ∷ 0 ∷ [])
    × (datagrams_of (behind_settings example) ≡ record { interface = 7; bytes = 170 ∷ 187 ∷ [] } ∷ [])
unfolding settings_of defaults_for locators_in prefixes_in routers_in filled flatten locator_of records_of datagrams_of behind_settings router_section prefix_section quad_at word_at
read = (refl, refl, refl, refl)
