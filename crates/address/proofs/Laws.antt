-- What we form, we read; and what an ISATAP address with the link-local prefix embeds. Assumes nothing.
use Rattle.std.specs.Prelude.{Some}
use Prim.Native.Nat.{ℕ, ◌<◌}
use mathlib.Core.Path.{◌≡◌, ap}
use mathlib.Core.Bool.{true}
use mathlib.Core.List.{List}
use native.Mathlib.Omega.{arith}
use Rattle.address.specs.Address.{is_under, is_link_local, is_on_link, is_identifier, last_quad, embedded_in, link_local_of}

-- the address that we form embeds its IPv4 address
pub formed-embeds : (ps : List (List ℕ)) (count a : ℕ) → a < 4294967296 → embedded_in ps count (link_local_of a) ≡ Some a
unfolding embedded_in link_local_of is_on_link is_under is_identifier last_quad
formed-embeds ps count a h = ap Some (omega arith)

-- an ISATAP address with the link-local prefix embeds its last 32 bits, whatever prefixes are on-link
pub link_local_embeds : (ps : List (List ℕ)) (count : ℕ) (a : List ℕ) → is_link_local a ≡ true → is_identifier a ≡ true → embedded_in ps count a ≡ Some (last_quad a)
unfolding embedded_in is_on_link
link_local_embeds ps count a h k = rw (h, k)
