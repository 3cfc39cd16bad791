-- Text as bytes, and the place behind it (R17.4).
use Rattle.std.specs.Prelude.{ℕ, zero, suc, ◌+◌, ◌/◌, ◌%◌, cond, List, [], ◌∷◌, ◌++◌, length, ltb}

-- the index behind n bytes that are written from the index at on; at itself where the room is too short for them
abbrev pub end_of : ℕ → ℕ → ℕ → ℕ
end_of at n room = cond (ltb room (at + n)) at (at + n)

-- the index behind the bytes w that are written into d from the index at on
unfoldable pub behind : ℕ → List ℕ → List ℕ → ℕ
behind at w d = end_of at (length w) (length d)

-- n in decimal with no zero in front, of at most k + 1 digits
abbrev pub decimal_up_to : ℕ → ℕ → List ℕ
decimal_up_to zero n = (48 + n % 10) ∷ []
decimal_up_to (suc k) n = cond (ltb n 10) [] (decimal_up_to k (n / 10)) ++ (48 + n % 10) ∷ []

-- n in decimal with no zero in front: any number of 64 bits has at most 20 digits
unfoldable pub decimal : ℕ → List ℕ
decimal n = decimal_up_to 19 n
