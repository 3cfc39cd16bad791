-- RFC 4861, 4.6, and R15.4: the options of a neighbour discovery message.
use Rattle.std.specs.Prelude.{ℕ, zero, suc, ◌*◌, ◌<◌, pred, ◌≡◌, Bool, cond, get_or, length, take, leb, eqb}
use mathlib.Core.List.{List, [], ◌∷◌, flatten}
use Rattle.lists.specs.Any.{any_of}

-- RFC 4861, 4.6: an option's length, its second byte, counts units of 8 bytes
abbrev pub unit_bytes : ℕ
unit_bytes = 8

-- RFC 4861, 4.6.1: the type of a source link-layer address option
abbrev pub source_link_layer_type : ℕ
source_link_layer_type = 1

-- RFC 4861, 4.6.2: the type of a prefix option
abbrev pub prefix_type : ℕ
prefix_type = 3

-- RFC 4861, 4.6.2: the length of a prefix option
abbrev pub prefix_units : ℕ
prefix_units = 4

-- RFC 4191, 2.3: the type of a route option
abbrev pub route_type : ℕ
route_type = 24

-- RFC 4861, 4.6: an option is as many bytes as its length says, and has no length 0
abbrev pub IsOption : List ℕ → Type 0
IsOption o = (0 < length o) × (length o ≡ get_or o 1 0 * unit_bytes)

-- a list of options
unfoldable pub AreOptions : List (List ℕ) → Type 0
AreOptions [] = Unit {0}
AreOptions (o ∷ os) = IsOption o × AreOptions os

-- the bytes that the first option takes, and 0 if it has length 0 or runs past the end
unfoldable pub option_size : List ℕ → ℕ
option_size bs = cond (leb (get_or bs 1 0 * unit_bytes) (length bs)) (get_or bs 1 0 * unit_bytes) 0

-- the options one after another, up to the end or to the first that has length 0 or runs past the end; k bytes of the option before are
-- still to be passed
unfoldable pub options_from : ℕ → List ℕ → List (List ℕ)
options_from k [] = []
options_from (suc k) (b ∷ bs) = options_from k bs
options_from zero (b ∷ bs) =
    let size = option_size (b ∷ bs) in
    cond (eqb size 0) [] (take size (b ∷ bs) ∷ options_from (pred size) bs)

-- the options of a message
abbrev pub options_of : List ℕ → List (List ℕ)
options_of bs = options_from 0 bs

-- R15.4: options walked one after another to the exact end, none of length 0
unfoldable pub are_options_whole : List ℕ → Bool
are_options_whole bs = eqb (length (flatten (options_of bs))) (length bs)

-- RFC 4861, 4.6.1: the option is a source link-layer address, of whatever length
abbrev pub is_source_link_layer : List ℕ → Bool
is_source_link_layer o = eqb (get_or o 0 0) source_link_layer_type

-- R22.5: a source link-layer address option stands among them
abbrev pub has_source_link_layer : List ℕ → Bool
has_source_link_layer bs = any_of is_source_link_layer (options_of bs)
