-- A number's digits, found from the last one on. Assumes nothing.
use Prim.Native.Nat.{ℕ, zero, suc, ◌+◌, ◌-◌, ◌/◌, ◌%◌, ◌^◌, ◌<◌, ◌≤◌}
use mathlib.Core.Path.{◌≡◌}
use mathlib.Core.List.{List, ◌∷◌, ◌++◌, append_assoc}
use native.Mathlib.Omega.{arith}
use native.Mathlib.Nat.{pow-suc}
use borrow.Author.Tests.{lt-ltb, le-ltb}
use lib.ListN.{length, drop, set, length-set}
use lib.Seq.{drop-cons, get_or-set_same, drop-set-lt}
use Rattle.text.specs.Text.{decimal_up_to}

from_set : (bytes : List ℕ) (i x : ℕ) → i < length bytes → drop i (set bytes i x) ≡ x ∷ drop (suc i) bytes
from_set bytes i x h =
    rw (drop-cons (set bytes i x) i 0 (rw length-set h), get_or-set_same bytes i x 0 h, drop-set-lt (suc i) bytes i x (omega arith))

-- where a digit is written from a tenth of the number on, the number below a power of ten
pub tenth : (start rest : ℕ) → 10 ≤ rest → rest < 10 ^ suc start → (1 ≤ start) × (rest / 10 < 10 ^ suc (start - 1))
tenth zero rest h g = let l : rest < 10 ^ 1 = g in absurd (omega arith)
tenth (suc k) rest h g =
    let p = pow-suc 10 (suc k) in
    let e : suc k - 1 ≡ k = omega arith in
    (omega arith, rw e (omega arith))

pub digit_turn : (bytes : List ℕ) (start rest : ℕ) → start < length bytes → 10 ≤ rest → 1 ≤ start
    → decimal_up_to start rest ++ drop (suc start) bytes
    ≡ decimal_up_to (start - 1) (rest / 10) ++ drop (suc (start - 1)) (set bytes start (48 + rest % 10))
digit_turn bytes zero rest h t p = absurd (omega arith)
digit_turn bytes (suc k) rest h t p =
    let e : suc k - 1 ≡ k = omega arith in
    rw (e, le-ltb rest 10 t, append_assoc, from_set bytes (suc k) (48 + rest % 10) h)

pub digit_last : (bytes : List ℕ) (start rest : ℕ) → start < length bytes → rest < 10
    → drop start (set bytes start (48 + rest)) ≡ decimal_up_to start rest ++ drop (suc start) bytes
digit_last bytes zero rest h t =
    let e : rest % 10 ≡ rest = omega arith in
    rw (from_set bytes zero (48 + rest) h, e)
digit_last bytes (suc k) rest h t =
    let e : rest % 10 ≡ rest = omega arith in
    rw (from_set bytes (suc k) (48 + rest) h, lt-ltb rest 10 t, e)
