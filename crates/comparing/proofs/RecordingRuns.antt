-- The runs of two recordings are those of each datagram and its partner, datagram by datagram in order, and nothing else. Assumes nothing.
use Prim.Native.Nat.{ℕ, zero, suc, ◌+◌, ◌-◌, ◌<◌}
use mathlib.Core.Path.{◌≡◌, refl, sym, subst}
use mathlib.Core.Logic.{inl, inr}
use mathlib.Core.Bool.{Bool}
use mathlib.Core.List.{List, [], ◌∷◌, ◌++◌, map}
use native.Mathlib.Omega.{arith}
use lib.ListN.{length, get_or}
use Rattle.input.specs.Recording.{Datagram, datagrams_of}
use Rattle.input.specs.Format.{section, datagram_record}
use Rattle.input.proofs.ReadBack.{recording_back}
use Rattle.comparing.specs.Runs.{Run, runs, numbered, pair_runs, runs_of}
use Rattle.comparing.specs.Facts.{Differs, Lies, Longest, Each, OneOf, Chained, Behind, no_datagram, bytes_at, Paired, Later, RunsOfRecordings}
use Rattle.comparing.proofs.PairRuns.{runs-of-pair}
use Rattle.comparing.proofs.Rows.{each_append, each_as, one_left, one_right, one_as, chained_append}

-- runs with a number
each_numbered : (k : ℕ) (F : Run → Type 0) (G : ℕ × Run → Type 0) → ((r : Run) → F r → G (k, r)) → (rs : List Run) → Each F rs → Each G (numbered k rs)
each_numbered k F G to [] e = tt
each_numbered k F G to (r ∷ rs) e = (to r e.0, each_numbered k F G to rs e.1)

one-numbered : (k : ℕ) (F : Run → Type 0) (rs : List Run) → OneOf F rs → OneOf (λ r. (r.0 ≡ k) × F r.1) (numbered k rs)
one-numbered k F [] o = absurd o
one-numbered k F (r ∷ rs) (inl f) = inl (refl, f)
one-numbered k F (r ∷ rs) (inr o) = inr (one-numbered k F rs o)

number-all : (k : ℕ) (rs : List Run) → Each (λ r. r.0 ≡ k) (numbered k rs)
number-all k [] = tt
number-all k (r ∷ rs) = (refl, number-all k rs)

chained_numbered : (k : ℕ) (rs : List Run) → Chained Behind rs → Chained Later (numbered k rs)
chained_numbered k [] c = tt
chained_numbered k (r ∷ []) c = tt
chained_numbered k (r ∷ (s ∷ rs)) c = (inr (refl, c.0), chained_numbered k (s ∷ rs) c.1)

module _ (masked : Bool) where
  -- a run of the datagrams at the index j, which have the number k + j
  abbrev Of : List Datagram → List Datagram → ℕ → ℕ × Run → Type 0
  Of ds es k r = (j : ℕ) × (r.0 ≡ k + j) × (j < length ds) × (j < length es) × Longest masked (get_or ds j no_datagram).bytes (get_or es j no_datagram).bytes r.1

  pairs-longest : (k : ℕ) (ds es : List Datagram) → Each (Of ds es k) (pair_runs masked k ds es)
  pairs-longest k [] es = tt
  pairs-longest k (x ∷ ds) [] = tt
  pairs-longest k (x ∷ ds) (y ∷ es) =
      each_append (Of (x ∷ ds) (y ∷ es) k) (numbered k (runs masked x.bytes y.bytes)) (pair_runs masked (suc k) ds es)
      (each_numbered k (Longest masked x.bytes y.bytes) (Of (x ∷ ds) (y ∷ es) k) (λ r l. (0, omega arith, omega arith, omega arith, l)) (runs masked x.bytes y.bytes) (runs-of-pair masked x.bytes y.bytes).longest)
      (each_as (Of ds es (suc k)) (Of (x ∷ ds) (y ∷ es) k) (λ r f. (suc f.0, omega (arith, f.1), omega (arith, f.2), omega (arith, f.3), f.4)) (pair_runs masked (suc k) ds es) (pairs-longest (suc k) ds es))

  pairs-found : (k : ℕ) (ds es : List Datagram) (j p : ℕ) → j < length ds → j < length es → Differs masked (get_or ds j no_datagram).bytes (get_or es j no_datagram).bytes p
      → OneOf (λ r. (r.0 ≡ k + j) × Lies p r.1) (pair_runs masked k ds es)
  pairs-found k [] es j p h l f = absurd (omega arith)
  pairs-found k (x ∷ ds) [] j p h l f = absurd (omega arith)
  pairs-found k (x ∷ ds) (y ∷ es) zero p h l f =
      let rs = runs masked x.bytes y.bytes in
      one_as (λ r. (r.0 ≡ k) × Lies p r.1) (λ r. (r.0 ≡ k + 0) × Lies p r.1) (λ r g. (omega (arith, g.0), g.1)) (numbered k rs ++ pair_runs masked (suc k) ds es)
      (one_left (λ r. (r.0 ≡ k) × Lies p r.1) (numbered k rs) (pair_runs masked (suc k) ds es) (one-numbered k (Lies p) rs ((runs-of-pair masked x.bytes y.bytes).found p f)))
  pairs-found k (x ∷ ds) (y ∷ es) (suc j) p h l f =
      let rs = runs masked x.bytes y.bytes in
      one_right (λ r. (r.0 ≡ k + suc j) × Lies p r.1) (numbered k rs) (pair_runs masked (suc k) ds es)
      (one_as (λ r. (r.0 ≡ suc k + j) × Lies p r.1) (λ r. (r.0 ≡ k + suc j) × Lies p r.1) (λ r g. (omega (arith, g.0), g.1)) (pair_runs masked (suc k) ds es) (pairs-found (suc k) ds es j p (omega arith) (omega arith) f))

  pairs-order : (k : ℕ) (ds es : List Datagram) → Chained Later (pair_runs masked k ds es)
  pairs-order k [] es = tt
  pairs-order k (x ∷ ds) [] = tt
  pairs-order k (x ∷ ds) (y ∷ es) =
      let rs = runs masked x.bytes y.bytes in
      chained_append Later (λ r. r.0 ≡ k) (λ r. k < r.0) (λ r s e h. inl (omega arith)) (numbered k rs) (pair_runs masked (suc k) ds es) (number-all k rs)
      (each_as (Of ds es (suc k)) (λ r. k < r.0) (λ r f. omega (arith, f.1)) (pair_runs masked (suc k) ds es) (pairs-longest (suc k) ds es))
      (chained_numbered k rs (runs-of-pair masked x.bytes y.bytes).order) (pairs-order (suc k) ds es)

  -- each longest run of differing bytes of a datagram and its partner is among the runs of two recordings, in order, and nothing else
  pub runs-of_recordings : (first second : List ℕ) → RunsOfRecordings masked (datagrams_of first) (datagrams_of second) (runs_of masked first second)
  unfolding runs_of
  runs-of_recordings first second =
      let ds = datagrams_of first in
      let es = datagrams_of second in record {
        longest = each_as (Of ds es 1) (λ r. Paired ds es r.0 × Longest masked (bytes_at ds r.0) (bytes_at es r.0) r.1) (λ r f. at r f) (pair_runs masked 1 ds es) (pairs-longest 1 ds es);
        found = λ k p h f. let e : 1 + (k - 1) ≡ k = omega (arith, h.0) in rw e at (pairs-found 1 ds es (k - 1) p (omega (arith, h.0, h.1)) (omega (arith, h.0, h.2)) f);
        order = pairs-order 1 ds es;
      }
    where
      at : (r : ℕ × Run) → Of (datagrams_of first) (datagrams_of second) 1 r
          → Paired (datagrams_of first) (datagrams_of second) r.0 × Longest masked (bytes_at (datagrams_of first) r.0) (bytes_at (datagrams_of second) r.0) r.1
      at r f = let e : r.0 - 1 ≡ f.0 = omega (arith, f.1) in ((omega (arith, f.1), omega (arith, f.1, f.2), omega (arith, f.1, f.3)), subst (λ (i : ℕ). Longest masked (get_or (datagrams_of first) i no_datagram).bytes (get_or (datagrams_of second) i no_datagram).bytes r.1) (sym e) f.4)

  -- so they are those of the datagrams that were written out
  pub runs-of-written : (ds es : List Datagram)
      → RunsOfRecordings masked ds es (runs_of masked (section (map datagram_record ds)) (section (map datagram_record es)))
  runs-of-written ds es =
      rw ((recording_back ds).0, (recording_back es).0) at (runs-of_recordings (section (map datagram_record ds)) (section (map datagram_record es)))
