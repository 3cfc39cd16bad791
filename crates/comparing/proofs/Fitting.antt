-- All numbers of the report fit its two bytes, so reading it back gives the runs (R27.6). Assumes nothing.
use Prim.Native.Nat.{ℕ, zero, suc, ◌+◌, ◌-◌, ◌*◌, ◌/◌, ◌%◌, ◌<◌}
use mathlib.Core.Path.{◌≡◌, refl}
use mathlib.Core.Logic.{inl, inr}
use mathlib.Core.Bool.{Bool}
use mathlib.Core.List.{List, [], ◌∷◌, flatten}
use native.Mathlib.Omega.{arith}
use lib.ListN.{length, get_or, drop, length-take}
use Rattle.checksum.proofs.Bytes.{Bytes, bytes-at, bytes_drop}
use Rattle.header.specs.Fields.{word_at}
use Rattle.input.specs.Section.{count_of}
use Rattle.input.specs.Recording.{datagram_bytes, behind_datagram, first_datagram, datagrams_from, datagrams_of}
use Rattle.comparing.specs.Runs.{Run, runs_bytes, runs_of}
use Rattle.comparing.specs.Compared.{report_of}
use Rattle.comparing.specs.Facts.{Differs, Longest, Each, no_datagram, bytes_at, Paired, runs_in, Fits}
use Rattle.comparing.proofs.Pairing.{counted}
use Rattle.comparing.proofs.RecordingRuns.{runs-of_recordings}
use Rattle.comparing.proofs.Rows.{each_as}

word_small : (d : List ℕ) (k : ℕ) → Bytes d → word_at d k < 65536
unfolding word_at
word_small d k b = omega (arith, bytes-at d k b, bytes-at d (k + 1) b)

short_from : (n : ℕ) (d : List ℕ) → Bytes d → (j : ℕ) → length (get_or (datagrams_from n d) j no_datagram).bytes < 65536
short_from zero d b zero = omega arith
short_from zero d b (suc j) = omega arith
short_from (suc n) d b zero = omega (arith, word_small d 1 b, length-take (word_at d 1) (drop 3 d))
short_from (suc n) d b (suc j) = short_from n (behind_datagram d) (bytes_drop (datagram_bytes d) d b) j

short : (r : List ℕ) → Bytes r → (k : ℕ) → length (bytes_at (datagrams_of r) k) < 65536
unfolding datagrams_of
short r b k = short_from (count_of r) (first_datagram r) (bytes_drop 2 r b) (k - 1)

inside : (masked : Bool) (a b : List ℕ) (p : ℕ) → length a < 65536 → length b < 65536 → Differs masked a b p → p < 65535
inside masked a b p h k (inl f) = omega (arith, f.0)
inside masked a b p h k (inr (inl f)) = omega (arith, f.0)
inside masked a b p h k (inr (inr f)) = omega (arith, f.1)

module _ (masked : Bool) (first second : List ℕ) (b : Bytes first) (c : Bytes second) where
  fits : (r : ℕ × Run) → Paired (datagrams_of first) (datagrams_of second) r.0 × Longest masked (bytes_at (datagrams_of first) r.0) (bytes_at (datagrams_of second) r.0) r.1 → Fits r
  fits r f =
      let l = f.1 in
      let s = l.some in
      let last = inside masked (bytes_at (datagrams_of first) r.0) (bytes_at (datagrams_of second) r.0) (r.1.offset + r.1.length - 1) (short first b r.0) (short second c r.0) (l.all (r.1.offset + r.1.length - 1) (omega arith, omega arith)) in
      (omega (arith, f.0.1, counted first, word_small first 0 b), omega arith, omega arith)

  pub all_fit : Each Fits (runs_of masked first second)
  all_fit = each_as _ Fits fits (runs_of masked first second) (runs-of_recordings masked first second).longest

two : (x : ℕ) → x < 65536 → x % 65536 / 256 * 256 + x % 65536 % 256 ≡ x
two x h = omega arith

back : (rs : List (ℕ × Run)) → Each Fits rs → runs_in (length rs) (runs_bytes rs) ≡ rs
unfolding runs_bytes flatten word_at
back [] f = refl
back (r ∷ rs) f = rw (two r.0 f.0.0, two r.1.offset f.0.1, two r.1.length f.0.2, back rs f.1)

-- reading the report back gives the runs
pub report-read : (masked : Bool) (first second : List ℕ) → Bytes first → Bytes second → runs_in (length (runs_of masked first second)) (report_of masked first second) ≡ runs_of masked first second
unfolding report_of
report-read masked first second b c = back (runs_of masked first second) (all_fit masked first second b c)
