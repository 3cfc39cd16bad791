-- The program's output (R17.4), from what it says of each datagram.
use Rattle.std.specs.Prelude.{ℕ, suc, List, [], ◌∷◌, ◌++◌, length, Result, Ok, Err}
use Rattle.text.specs.Text.{decimal}
use Rattle.refusals.specs.Refusals.{number_of}
use Rattle.refusals.specs.declared.Refusal.{Refusal}

-- "datagrams "
abbrev pub datagrams_word : List ℕ
datagrams_word = 100 ∷ 97 ∷ 116 ∷ 97 ∷ 103 ∷ 114 ∷ 97 ∷ 109 ∷ 115 ∷ 32 ∷ []

-- " deliver "
abbrev pub deliver_word : List ℕ
deliver_word = 32 ∷ 100 ∷ 101 ∷ 108 ∷ 105 ∷ 118 ∷ 101 ∷ 114 ∷ 32 ∷ []

-- " refuse "
abbrev pub refuse_word : List ℕ
refuse_word = 32 ∷ 114 ∷ 101 ∷ 102 ∷ 117 ∷ 115 ∷ 101 ∷ 32 ∷ []

-- the one line `bad input` (R17.5), with its line feed
abbrev pub bad_input : List ℕ
bad_input = 98 ∷ 97 ∷ 100 ∷ 32 ∷ 105 ∷ 110 ∷ 112 ∷ 117 ∷ 116 ∷ 10 ∷ []

-- a word, a number and a line feed
unfoldable pub entry_of : List ℕ → ℕ → List ℕ
entry_of word n = (word ++ decimal n) ++ (10 ∷ [])

-- `datagrams N`
unfoldable pub count_line : ℕ → List ℕ
count_line n = entry_of datagrams_word n

-- `K deliver LENGTH` or `K refuse NUMBER`
unfoldable pub line_of : ℕ → Result ℕ Refusal → List ℕ
line_of k (Ok n) = decimal k ++ entry_of deliver_word n
line_of k (Err refusal) = decimal k ++ entry_of refuse_word (number_of refusal)

-- no line is longer: two numbers of 20 digits, the longer word and a line feed
abbrev pub longest_line : ℕ
longest_line = 50

-- a line for each datagram, the first of number k
unfoldable pub lines_from : ℕ → List (Result ℕ Refusal) → List ℕ
lines_from k [] = []
lines_from k (l ∷ ls) = line_of k l ++ lines_from (suc k) ls

-- the whole output
unfoldable pub text_of : List (Result ℕ Refusal) → List ℕ
text_of ls = count_line (length ls) ++ lines_from 1 ls
