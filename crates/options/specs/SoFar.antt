-- What a walk over the options has found so far. Only functions of the crate's own cite this.
use Rattle.std.specs.Prelude.{ℕ, List, [], ◌∷◌, ◌++◌, map, ◌||◌, cond, eqb, Option, Some, None}
use Rattle.lists.specs.Walks.{walked}
use Rattle.options.specs.declared.Options.{Options}
use Rattle.options.specs.declared.Found.{Found}
use Rattle.options.specs.declared.Walked.{Walked}
use Rattle.options.specs.Options.{is_source_link_layer, option_size, options_of, are_options_whole, has_source_link_layer}
use Rattle.options.specs.Lifetimes.{lifetime_of, counted, smallest_of}

-- the size of an option, where none is said by None
abbrev pub some_size : ℕ → Option ℕ
some_size n = cond (eqb n 0) None (Some n)

-- a smallest lifetime as a list
abbrev pub so_far : Option ℕ → List ℕ
so_far (Some s) = s ∷ []
so_far None = []

-- the smallest of the lifetimes so far and one more
unfoldable pub shorter_of : Option ℕ → ℕ → Option ℕ
shorter_of smallest l = smallest_of (so_far smallest ++ counted (l ∷ []))

-- what is found so far, and then the first option
unfoldable pub found_with : Found → List ℕ → Found
found_with found bs =
    record { smallest = shorter_of found.smallest (lifetime_of bs); source_link_layer = found.source_link_layer || is_source_link_layer bs }

-- the bytes that the first option takes, whatever is found before it
abbrev pub size_after : Found → List ℕ → ℕ
size_after found bs = option_size bs

-- what a walk leaves: what is found so far and in its options, and the count of the bytes behind them
abbrev pub walked_to : Found × ℕ → Walked
walked_to w = record { left = w.1; found = w.0 }

-- what a walk over at most so many options leaves
unfoldable pub walked_of : ℕ → List ℕ → Found → Walked
walked_of most bs found = walked_to (walked size_after found_with most found bs)

-- what all options say, with what is found so far
abbrev pub read_of : List ℕ → Found → Options
read_of bs found = record {
  whole = are_options_whole bs;
  smallest = smallest_of (so_far found.smallest ++ counted (map lifetime_of (options_of bs)));
  source_link_layer = found.source_link_layer || has_source_link_layer bs;
}
