-- Which units of eight bytes of a datagram's payload are held (R23.12): a mark for each, as bits of four words.
use Rattle.std.specs.Prelude.{ℕ, zero, suc, ◌+◌, ◌-◌, ◌*◌, ◌/◌, ◌%◌, ◌^◌, min, Bool, true, cond, not, ◌&&◌, ◌||◌, List, [], ◌∷◌, ◌++◌, eqb, get_or, replicate}
use Rattle.std.specs.Int.Bits.{bit_and, bit_or}
use Rattle.lists.specs.Any.{any_of, all_of}
use Rattle.lists.specs.Parts.{part}
use Rattle.lent.specs.Written.{over}
use Rattle.units.specs.declared.Held.{Held}

-- a datagram has at most 2,048 bytes of payload, which are so many units
abbrev pub units : ℕ
units = 256

-- the lowest n bits of a word, the lowest first
abbrev pub bits_of : ℕ → ℕ → List Bool
bits_of zero w = []
bits_of (suc n) w = eqb (w % 2) 1 ∷ bits_of n (w / 2)

-- the word that has these bits
abbrev pub word_of : List Bool → ℕ
word_of [] = 0
word_of (b ∷ bs) = cond b 1 0 + 2 * word_of bs

-- the marks of the units in their order: unit u is bit u % 64 of word u / 64
unfoldable pub marks_in : Held → List Bool
marks_in h =
    bits_of 64 (get_or h.words 0 0) ++ (bits_of 64 (get_or h.words 1 0) ++ (bits_of 64 (get_or h.words 2 0) ++ bits_of 64 (get_or h.words 3 0)))

-- the words of 256 marks
unfoldable pub held_of : List Bool → Held
held_of ms =
    record { words = word_of (part 0 64 ms) ∷ word_of (part 64 64 ms) ∷ word_of (part 128 64 ms) ∷ word_of (part 192 64 ms) ∷ [] }

-- nothing is held
abbrev pub none_held : Held
none_held = record { words = replicate 4 0 }

-- some of n units from one on is held
unfoldable pub any_held : Held → ℕ → ℕ → Bool
any_held h from n = any_of (λ (m : Bool). m) (part from n (marks_in h))

-- all of them are
unfoldable pub all_held : Held → ℕ → ℕ → Bool
all_held h from n = all_of (λ (m : Bool). m) (part from n (marks_in h))

-- n units from one on are held besides, as far as there are any
unfoldable pub held_with : Held → ℕ → ℕ → Held
held_with h from n = held_of (over from (replicate (min n (units - from)) true) (marks_in h))

-- n units from one on, as far as there are any, and no others
unfoldable pub range_of : ℕ → ℕ → Held
range_of from n = held_with none_held from n

module _ (h of : Held) where
  -- the bits that are set in word i of both
  abbrev pub shared : ℕ → ℕ
  shared i = bit_and (get_or h.words i 0) (get_or of.words i 0)

  -- all bits of word i that are set in the other are set
  abbrev pub has_word : ℕ → Bool
  has_word i = eqb (shared i) (get_or of.words i 0)

  -- the bits that are set in word i of the one or the other: 64, as a word has
  abbrev pub joined : ℕ → ℕ
  joined i = bit_or (get_or h.words i 0) (get_or of.words i 0) % 2 ^ 64

  -- some of those units is held
  unfoldable pub meets : Bool
  meets = not (eqb (shared 0) 0) || not (eqb (shared 1) 0) || not (eqb (shared 2) 0) || not (eqb (shared 3) 0)

  -- all of them are
  unfoldable pub covers : Bool
  covers = has_word 0 && has_word 1 && has_word 2 && has_word 3

  -- those that are held and those
  unfoldable pub united : Held
  united = record { words = joined 0 ∷ joined 1 ∷ joined 2 ∷ joined 3 ∷ [] }
