-- What waits once a word is put behind it. Assumes nothing.
use Rattle.std.proofs.Common.{◌≡◌, ℕ, ◌+◌, ◌<◌, ◌≤◌, ◌⊎◌, inl, inr, refl, List, ◌++◌, length, take, drop, length-append, append_assoc, arith}
use Rattle.std.proofs.lemmas.Bool.{cases_lt, lt-ltb, le-ltb}
use Rattle.std.proofs.lemmas.List.{length-take-le, take_at}
use Rattle.lent.specs.Written.{over, written_at}
use Rattle.lent.proofs.Laws.{written_at-fits, written_at-short}
use Rattle.text.specs.Text.{behind}
use Rattle.text.proofs.Laws.{behind-fits}
use Rattle.streams.specs.Waiting.{room, with_word}

behind-short : (at : ℕ) (w d : List ℕ) → length d < at + length w → behind at w d ≡ at
unfolding behind
behind-short at w d h = simp (lt-ltb _ _ h)

-- the index behind what waits stays within the room
pub put-within : (at : ℕ) (w d : List ℕ) → length d ≡ room → at ≤ room → behind at w d ≤ room
put-within at w d e h = by_cases (cases_lt (length d) (at + length w))
  where
    by_cases : (length d < at + length w) ⊎ (at + length w ≤ length d) → behind at w d ≤ room
    by_cases (inl s) = rw (behind-short at w d s) h
    by_cases (inr f) = rw (behind-fits at w d f) (omega arith)

front_over : (at : ℕ) (w d : List ℕ) → at ≤ length d → take (at + length w) (over at w d) ≡ take at d ++ w
front_over at w d h =
    let l : length (take at d ++ w) ≡ at + length w = rw (length-append, length-take-le at d h) refl in
    rw (← append_assoc (take at d) w (drop (at + length w) d)) (take_at (take at d ++ w) (drop (at + length w) d) (at + length w) l)

pub put-word : (at : ℕ) (w d : List ℕ) → length d ≡ room → at ≤ room
    → take (behind at w d) (written_at at w d) ≡ with_word w (take at d)
unfolding with_word
put-word at w d e h = by_cases (cases_lt (length d) (at + length w))
  where
    l : length (take at d) ≡ at
    l = length-take-le at d (omega arith)

    by_cases : (length d < at + length w) ⊎ (at + length w ≤ length d) → take (behind at w d) (written_at at w d) ≡ with_word w (take at d)
    by_cases (inl s) = rw (behind-short at w d s, written_at-short at w d s, l, lt-ltb room (at + length w) (omega arith)) refl
    by_cases (inr f) = rw (behind-fits at w d f, written_at-fits at w d f, l, le-ltb room (at + length w) (omega arith)) (front_over at w d (omega arith))
