-- Locators (R2).
use Rattle.std.specs.Prelude.{ℕ, min, Bool, cond, ◌&&◌, List, get_or, eqb, ltb, Option, Some, None, is_none, unwrap_or}
use Rattle.settings.specs.declared.locators.Locator.{Locator}

-- what stands at a place without a locator
abbrev pub no_locator : Locator
no_locator = record { address = 0; interface = 0 }

-- the locator has the address
abbrev pub is_at : ℕ → Locator → Bool
is_at a l = eqb l.address a

-- the locator has the address, on the interface
abbrev pub is_locator : ℕ → ℕ → Locator → Bool
is_locator a interface l = eqb l.address a && eqb l.interface interface

-- two locators are the same pair
abbrev pub same_locator : Locator → Locator → Bool
same_locator l = is_locator l.address l.interface

-- the address of a locator by its number, counted from 0, of the first `count` of eight
unfoldable pub locator_found : List Locator → ℕ → ℕ → Option ℕ
locator_found ls count number = cond (ltb number (min count 8)) (Some (get_or ls number no_locator).address) None

-- the address of a locator that was found; 0 where there is none, and then 11 is given
abbrev pub address_of : Option ℕ → ℕ
address_of found = unwrap_or found 0

-- 11: no locator of that number
unfoldable pub is_no_locator : Option ℕ → Bool
is_no_locator found = is_none found
