-- What the tests on settings decide, said over locators and bytes.
use Rattle.std.specs.Prelude.{ℕ, ◌<◌, ◌≡◌, ◌⊎◌, List, get_or}
use Rattle.lists.specs.Any.{Some}
use Rattle.address.specs.Prefixes.{rows_of}
use Rattle.address.specs.Facts.{Forbidden, Isatap}
use Rattle.settings.specs.Locators.{no_locator}
use Rattle.settings.specs.Settings.{locators_of}
use Rattle.settings.specs.declared.locators.Locator.{Locator}
use Rattle.settings.specs.declared.Settings.{Settings}

-- the addresses that are forbidden under these settings
unfoldable pub ForbiddenTo : Settings → ℕ → Type 0
ForbiddenTo s a = Forbidden a

-- some locator of the settings has the address
unfoldable pub Ours : Settings → ℕ → Type 0
Ours s a = Some (λ (l : Locator). l.address ≡ a) (locators_of s)

-- some locator of the settings has the address and the interface
unfoldable pub OurLocator : Settings → ℕ → ℕ → Type 0
OurLocator s a interface = Some (λ (l : Locator). (l.address ≡ a) × (l.interface ≡ interface)) (locators_of s)

-- R2.4, R7.5, R9.4: forbidden, or a locator address of our own
abbrev pub BadEnd : Settings → ℕ → Type 0
BadEnd s a = ForbiddenTo s a ⊎ Ours s a

-- an ISATAP address under the settings' prefixes, which embeds v
abbrev pub IsatapTo : Settings → List ℕ → ℕ → Type 0
IsatapTo s a v = Isatap (rows_of s.prefixes) s.prefix_count a v

-- there is a locator of that number, counted from 0 and of eight at most, and it has the address
abbrev pub LocatorAt : Settings → ℕ → ℕ → Type 0
LocatorAt s number a = (number < s.locator_count) × (number < 8) × ((get_or s.locators number no_locator).address ≡ a)
