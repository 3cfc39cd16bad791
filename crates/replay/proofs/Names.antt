-- The name of the file that holds the input is text.
use Rattle.std.proofs.Common.{ℕ, zero, suc, ◌/◌, ◌<◌, List, [], ◌∷◌, arith}
use Rattle.std.specs.Str.{IsUtf8, IsAscii}
use Rattle.std.proofs.lemmas.Str.{IsUtf8-from_ascii, IsAscii-append}
use Rattle.std.proofs.lemmas.Str.Ascii.{IsAscii-nil}
use Rattle.std.proofs.lemmas.Bool.Decides.{nat_tests}
use Rattle.lent.specs.Written.{written_at}
use Rattle.text.specs.Digest.{hex_digit, hexadecimal}

-- "/tmp/replay-"
abbrev front : List ℕ
front = 47 ∷ 116 ∷ 109 ∷ 112 ∷ 47 ∷ 114 ∷ 101 ∷ 112 ∷ 108 ∷ 97 ∷ 121 ∷ 45 ∷ []

-- "/tmp/replay-00000000"
abbrev pub form : List ℕ
form = 47 ∷ 116 ∷ 109 ∷ 112 ∷ 47 ∷ 114 ∷ 101 ∷ 112 ∷ 108 ∷ 97 ∷ 121 ∷ 45 ∷ 48 ∷ 48 ∷ 48 ∷ 48 ∷ 48 ∷ 48 ∷ 48 ∷ 48 ∷ []

digit-low : (n : ℕ) → hex_digit n < 128
digit-low n = grind (arith, nat_tests)

abbrev Low : List ℕ → Type 0
Low [] = Unit {0}
Low (b ∷ bs) = (b < 128) × Low bs

low-ascii : (bs : List ℕ) → Low bs → IsAscii bs
low-ascii [] h i = IsAscii-nil i
low-ascii (b ∷ bs) h zero = h.0
low-ascii (b ∷ bs) h (suc i) = low-ascii bs h.1 i

digits-low : (n : ℕ) → IsAscii (hexadecimal n)
unfolding hexadecimal
digits-low n =
    low-ascii (hexadecimal n) (
      digit-low (n / 268435456),
      (
        digit-low (n / 16777216),
        (
          digit-low (n / 1048576),
          (
            digit-low (n / 65536),
            (digit-low (n / 4096), (digit-low (n / 256), (digit-low (n / 16), (digit-low n, tt)))),
          ),
        ),
      ),
    )

front-low : IsAscii front
front-low =
    low-ascii front (
      omega arith,
      (
        omega arith,
        (
          omega arith,
          (
            omega arith,
            (
              omega arith,
              (
                omega arith,
                (omega arith, (omega arith, (omega arith, (omega arith, (omega arith, (omega arith, tt)))))),
              ),
            ),
          ),
        ),
      ),
    )

name-low : (n : ℕ) → IsAscii (written_at 12 (hexadecimal n) form)
unfolding written_at hexadecimal
name-low n = IsAscii-append front (hexadecimal n) front-low (digits-low n)

pub name-text : (n : ℕ) → IsUtf8 (written_at 12 (hexadecimal n) form)
name-text n = IsUtf8-from_ascii _ (name-low n)
