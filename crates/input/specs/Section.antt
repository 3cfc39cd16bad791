-- A section of records of one size (R17.2). A byte past the end
-- reads as 0, and a record past the end as an empty one.
use Rattle.std.specs.Prelude.{ℕ, zero, suc, ◌+◌, ◌*◌, Bool, length, get_or, take, drop, replicate, leb}
use mathlib.Core.List.{List, [], ◌∷◌, ◌++◌, map, flatten}
use Rattle.header.specs.Fields.{word_at, quad_at}
use Rattle.settings.specs.Locators.{no_locator}
use Rattle.settings.specs.declared.locators.Locator.{Locator}

-- the count
abbrev pub count_of : List ℕ → ℕ
count_of s = word_at s 0

-- the bytes of a section whose records have this size, with its count
abbrev pub section_bytes : ℕ → List ℕ → ℕ
section_bytes size s = 2 + count_of s * size

-- all bytes of the section are there
abbrev pub is_whole : ℕ → List ℕ → Bool
is_whole size s = leb (section_bytes size s) (length s)

-- what stands behind the section
abbrev pub behind_section : ℕ → List ℕ → List ℕ
behind_section size s = drop (section_bytes size s) s

-- n records of this size, one behind another
abbrev pub records : ℕ → ℕ → List ℕ → List (List ℕ)
records size zero bs = []
records size (suc n) bs = take size bs ∷ records size n (drop size bs)

-- the section's records
unfoldable pub records_of : ℕ → List ℕ → List (List ℕ)
records_of size s = records size (count_of s) (drop 2 s)

-- the record of number i, counted from 0
abbrev pub record_at : ℕ → List ℕ → ℕ → List ℕ
record_at size s i = take size (drop (2 + i * size) s)

-- the size of a locator: an address and an interface
abbrev pub locator_bytes : ℕ
locator_bytes = 5

-- the size of a prefix
abbrev pub prefix_bytes : ℕ
prefix_bytes = 8

-- the size of a router: an address
abbrev pub router_bytes : ℕ
router_bytes = 4

-- a locator: its address, then its interface
unfoldable pub locator_of : List ℕ → Locator
locator_of r = record { address = quad_at r 0; interface = get_or r 4 0 }

-- a router: its address
abbrev pub router_of : List ℕ → ℕ
router_of r = quad_at r 0

-- as many of xs as there is room for, and `none` in the places that are left
unfoldable pub filled : {A : Type 0} → ℕ → A → List A → List A
filled room none xs = take room xs ++ drop (length xs) (replicate room none)

-- the array of locators in the settings
unfoldable pub locators_in : List ℕ → List Locator
locators_in s = filled 8 no_locator (map locator_of (records_of locator_bytes s))

-- the array of prefixes in the settings, byte by byte
unfoldable pub prefixes_in : List ℕ → List ℕ
prefixes_in s = filled 64 0 (flatten (records_of prefix_bytes s))

-- the array of routers in the settings
unfoldable pub routers_in : List ℕ → List ℕ
routers_in s = filled 16 0 (map router_of (records_of router_bytes s))
