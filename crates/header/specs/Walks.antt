-- A walk over at most so many extension headers. Only functions of the crate's own cite this.
use Rattle.std.specs.Prelude.{ℕ, cond, not, ◌&&◌, List, get_or, length, eqb, leb, Option, Some, None}
use Rattle.lists.specs.Walks.{walked}
use Rattle.header.specs.Chain.{is_extension, extension_length, is_later_fragment}
use Rattle.header.specs.declared.chain.Walked.{Walked}

-- the bytes that the first header takes, and 0 if none is passed: it is an upper layer, a later fragment, or runs past the end
unfoldable pub passed_length : ℕ → List ℕ → ℕ
passed_length next bs =
    cond (is_extension next && not (is_later_fragment next bs) && leb (extension_length next bs) (length bs)) (extension_length next bs) 0

-- the same, where none passed is said by None
abbrev pub some_length : ℕ → Option ℕ
some_length n = cond (eqb n 0) None (Some n)

-- the number of what stands behind a header is its first byte, whatever its own number is
abbrev pub next_in : ℕ → List ℕ → ℕ
next_in next bs = get_or bs 0 0

-- what a walk comes to: the number of the header there, and the count of the bytes from it on
abbrev pub walked_to : ℕ × ℕ → Walked
walked_to w = record { next = w.0; left = w.1 }

-- what a walk over at most so many headers comes to
unfoldable pub walked_of : ℕ → ℕ → List ℕ → Walked
walked_of most next bs = walked_to (walked passed_length next_in most next bs)
