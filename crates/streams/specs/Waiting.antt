-- Lines that wait to be written. No contract of node, boundary or program rests on this.
use Rattle.std.specs.Prelude.{ℕ, ◌+◌, cond, List, ◌++◌, length, ltb}

-- the bytes that may wait
abbrev pub room : ℕ
room = 16384

-- no line is longer, its line feed too
abbrev pub longest : ℕ
longest = 64

-- what waits once a word is put behind it, or what waited where there is no room for the word
unfoldable pub with_word : List ℕ → List ℕ → List ℕ
with_word word waiting = cond (ltb room (length waiting + length word)) waiting (waiting ++ word)
