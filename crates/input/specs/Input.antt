-- The program's input (R17.2, R17.3): locators (4 + 1 bytes), prefixes (8), routers (4), datagrams, in that order, each section after its
-- two-byte count; other settings default.
use Rattle.std.specs.Prelude.{ℕ, Bool, ◌&&◌, List, length, leb}
use Rattle.settings.specs.Settings.{defaults_for}
use Rattle.settings.specs.declared.Settings.{Settings}
use Rattle.input.specs.Section.{count_of, is_whole, behind_section, locator_bytes, prefix_bytes, router_bytes, locators_in, prefixes_in, routers_in}
use Rattle.input.specs.Recording.{is_recording}

-- where the prefixes' section starts
unfoldable pub prefix_section : List ℕ → List ℕ
prefix_section s = behind_section locator_bytes s

-- where the routers' section starts
unfoldable pub router_section : List ℕ → List ℕ
router_section s = behind_section prefix_bytes (prefix_section s)

-- the datagrams' section stands behind the settings
unfoldable pub behind_settings : List ℕ → List ℕ
behind_settings s = behind_section router_bytes (router_section s)

-- the settings' sections have all their bytes
unfoldable pub are_sections_whole : List ℕ → Bool
are_sections_whole s = is_whole locator_bytes s && is_whole prefix_bytes (prefix_section s) && is_whole router_bytes (router_section s)

-- the settings: the counts as they stand in the input, so that one above the rules is refused by them
unfoldable pub settings_of : List ℕ → Settings
settings_of s =
    defaults_for (locators_in s) (count_of s) (prefixes_in (prefix_section s)) (count_of (prefix_section s)) (routers_in (router_section s)) (count_of (router_section s))

-- standard input, at most 64 KiB
abbrev pub input_limit : ℕ
input_limit = 65536

-- neither longer nor malformed, and no trailing bytes
unfoldable pub is_well_formed : List ℕ → Bool
is_well_formed s = leb (length s) input_limit && are_sections_whole s && is_recording (behind_settings s)
