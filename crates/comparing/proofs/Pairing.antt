-- How the runs of two recordings go on, from one pair of datagrams to the next. Assumes nothing.
use Prim.Native.Nat.{ℕ, zero, suc, ◌+◌, ◌-◌, ◌≤◌, ◌<◌, min}
use mathlib.Core.Path.{◌≡◌, refl, ap, ◌∙◌}
use mathlib.Core.Bool.{Bool, true, false}
use mathlib.Core.List.{List, [], ◌++◌}
use native.Mathlib.Omega.{arith}
use native.Mathlib.Numerals.{add-one}
use borrow.Author.Tests.{lt-ltb, le-ltb, leb-true, leb-false}
use lib.Dec.{leb}
use lib.ListN.{length, get_or, length-append, length-map}
use Rattle.header.specs.Fields.{word_at}
use Rattle.input.specs.Section.{count_of}
use Rattle.input.specs.Recording.{bytes_of, behind_datagram, first_datagram, datagrams_from, datagrams_of}
use Rattle.input.proofs.Laws.{length_datagrams}
use Rattle.comparing.specs.Runs.{Run, runs, numbered, pair_runs, runs_of}
use Rattle.comparing.specs.Compared.{more_of}
use Rattle.comparing.specs.declared.More.TheVariants.{First, Second, Neither}

module _ (masked : Bool) (n m : ℕ) where
  -- the runs from the pair of number k on, where there are n and m datagrams, and these bytes are left
  abbrev pub left_pairs : ℕ → List ℕ → List ℕ → List (ℕ × Run)
  left_pairs k a b = pair_runs masked k (datagrams_from (n + 1 - k) a) (datagrams_from (m + 1 - k) b)

  pub pairs_turn : (k : ℕ) (a b : List ℕ) → k ≤ min n m
      → left_pairs k a b ≡ numbered k (runs masked (bytes_of a) (bytes_of b)) ++ left_pairs (k + 1) (behind_datagram a) (behind_datagram b)
  pairs_turn k a b h =
      let e : n + 1 - k ≡ suc (n + 1 - (k + 1)) = omega arith in
      let f : m + 1 - k ≡ suc (m + 1 - (k + 1)) = omega arith in
      let g : k + 1 ≡ suc k = add-one k in
      rw (e, f, g)

  pub pairs-count : (k : ℕ) (a b : List ℕ) → k ≤ min n m
      → length (left_pairs k a b) ≡ length (runs masked (bytes_of a) (bytes_of b)) + length (left_pairs (k + 1) (behind_datagram a) (behind_datagram b))
  pairs-count k a b h = ap length (pairs_turn k a b h) ∙ rw (length-append, length-map)

  pub pairs_end : (k : ℕ) (a b : List ℕ) → min n m < k → left_pairs k a b ≡ []
  pairs_end k a b h = ended (n + 1 - k) (m + 1 - k) (omega arith)
    where
      ended : (x y : ℕ) → min x y ≡ 0 → pair_runs masked k (datagrams_from x a) (datagrams_from y b) ≡ []
      ended zero y e = refl
      ended (suc x) zero e = refl
      ended (suc x) (suc y) e = absurd (omega arith)

  pub pairs-some : (k : ℕ) (a b : List ℕ) → 0 < length (left_pairs k a b) → k ≤ min n m
  pairs-some k a b h = go (leb k (min n m)) refl
    where
      go : (t : Bool) → leb k (min n m) ≡ t → k ≤ min n m
      go true t = leb-true k (min n m) t
      go false t = absurd (omega (arith, h, ap length (pairs_end k a b (leb-false k (min n m) t))))

-- a count has two bytes
pub count_small : (r : List ℕ) → get_or r 0 0 < 256 → get_or r 1 0 < 256 → count_of r < 65536
unfolding word_at
count_small r h k = omega arith

pub pairs-all : (masked : Bool) (first second : List ℕ)
    → left_pairs masked (count_of first) (count_of second) 1 (first_datagram first) (first_datagram second) ≡ runs_of masked first second
unfolding runs_of datagrams_of
pairs-all masked first second =
    let e : count_of first + 1 - 1 ≡ count_of first = omega arith in
    let f : count_of second + 1 - 1 ≡ count_of second = omega arith in
    rw (e, f)

-- a recording has as many datagrams as its count says
pub counted : (r : List ℕ) → length (datagrams_of r) ≡ count_of r
unfolding datagrams_of
counted r = length_datagrams (count_of r) (first_datagram r)

-- which has more, by the counts
module _ (first second : List ℕ) {n m : ℕ} (hn : n ≡ count_of first) (hm : m ≡ count_of second) where
  pub more-first : m < n → First ≡ more_of first second
  unfolding more_of
  more-first h = simp (lt-ltb (length (datagrams_of second)) (length (datagrams_of first)) (omega (arith, counted first, counted second)))

  pub more-second : n < m → Second ≡ more_of first second
  unfolding more_of
  more-second h =
      simp (
        le-ltb (length (datagrams_of second)) (length (datagrams_of first)) (omega (arith, counted first, counted second)),
        lt-ltb (length (datagrams_of first)) (length (datagrams_of second)) (omega (arith, counted first, counted second)),
      )

  pub more-neither : n ≤ m → m ≤ n → Neither ≡ more_of first second
  unfolding more_of
  more-neither h k =
      simp (
        le-ltb (length (datagrams_of second)) (length (datagrams_of first)) (omega (arith, counted first, counted second)),
        le-ltb (length (datagrams_of first)) (length (datagrams_of second)) (omega (arith, counted first, counted second)),
      )
