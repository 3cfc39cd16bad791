-- The input as R17.2 describes it, written out.
use Rattle.std.specs.Prelude.{ℕ, ◌/◌, ◌%◌, ◌≡◌, length}
use mathlib.Core.List.{List, [], ◌∷◌, ◌++◌, map, flatten}
use Rattle.input.specs.Recording.{Datagram}
use Rattle.input.specs.Section.{locator_bytes, prefix_bytes, router_bytes}

-- two bytes: all fields are big-endian (R1.4)
abbrev pub two_bytes : ℕ → List ℕ
two_bytes n = n / 256 ∷ n % 256 ∷ []

-- each section after its two-byte count (R17.2)
unfoldable pub section : List (List ℕ) → List ℕ
section records = two_bytes (length records) ++ flatten records

-- datagrams: interface 1, length 2, bytes (R17.2)
unfoldable pub datagram_record : Datagram → List ℕ
datagram_record d = d.interface ∷ (two_bytes (length d.bytes) ++ d.bytes)

-- each record has this size
abbrev pub Sized : ℕ → List (List ℕ) → Type 0
Sized size [] = Unit
Sized size (r ∷ rs) = (length r ≡ size) × Sized size rs

-- locators (4 + 1 bytes), prefixes (8), routers (4), datagrams, in that order (R17.2)
unfoldable pub encoded : List (List ℕ) → List (List ℕ) → List (List ℕ) → List Datagram → List ℕ
encoded locators prefixes routers datagrams = section locators ++ (section prefixes ++ (section routers ++ section (map datagram_record datagrams)))

-- the input has this form
pub record IsInput (s : List ℕ) (locators prefixes routers : List (List ℕ)) (datagrams : List Datagram) : Type 0 where
  pub locator-size : Sized locator_bytes locators
  pub prefix-size : Sized prefix_bytes prefixes
  pub router-size : Sized router_bytes routers
  pub form : s ≡ encoded locators prefixes routers datagrams
