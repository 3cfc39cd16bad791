-- Exchanging the two recordings gives the same runs, and the answer mirrored (R27.9). Assumes nothing.
use Rattle.std.specs.Prelude.{Result, Ok, Err}
use Rattle.refusals.specs.declared.Refusal.{Refusal}
use Prim.Native.Nat.{ℕ, zero, suc, max}
use mathlib.Core.Path.{◌≡◌, refl, sym}
use mathlib.Core.Bool.{Bool, true, false, cond, and_comm}
use mathlib.Core.List.{List, [], ◌∷◌}
use native.Mathlib.Omega.{arith}
use native.Mathlib.Nat.{min_comm, max_comm}
use borrow.Author.Tests.{eqb-true, eqb-false, eq-eqb, ne_eqb, ltb-true}
use lib.Dec.{eqb, ltb}
use lib.ListN.{length, get_or}
use Rattle.refusals.specs.Refusals.{stop_or}
use Rattle.input.specs.Recording.{Datagram, datagrams_of, is_recording}
use Rattle.comparing.specs.Runs.{runs_from, differs_at, runs, pair_runs, runs_of}
use Rattle.comparing.specs.Compared.{more_of, report_of, compare_check, compared_of, output_of}
use Rattle.comparing.specs.Facts.{exchanged, mirrored}
use Rattle.comparing.specs.declared.More.TheVariants.{First, Second, Neither}

eqb_comm : (x y : ℕ) → eqb x y ≡ eqb y x
eqb_comm x y = go (eqb y x) refl
  where
    go : (t : Bool) → eqb y x ≡ t → eqb x y ≡ t
    go true e = eq-eqb x y (sym (eqb-true y x e))
    go false e = ne_eqb x y (λ q. eqb-false y x e (sym q))

module _ (masked : Bool) where
  differs-exchanged : (a b : List ℕ) (p : ℕ) → differs_at masked a b p ≡ differs_at masked b a p
  unfolding differs_at
  differs-exchanged a b p = rw (min_comm (length a) (length b), max_comm (length a) (length b), eqb_comm (get_or a p 0) (get_or b p 0))

  runs_same : (s t : ℕ → Bool) → ((p : ℕ) → s p ≡ t p) → (p n : ℕ) → runs_from s p n ≡ runs_from t p n
  runs_same s t e p zero = refl
  runs_same s t e p (suc n) = rw (e p, runs_same s t e (suc p) n)

  -- the runs of two datagrams
  pub runs-exchanged : (a b : List ℕ) → runs masked a b ≡ runs masked b a
  unfolding runs
  runs-exchanged a b = rw (max_comm (length a) (length b)) (runs_same (differs_at masked a b) (differs_at masked b a) (differs-exchanged a b) 0 (max (length b) (length a)))

  pairs-exchanged : (k : ℕ) (ds es : List Datagram) → pair_runs masked k ds es ≡ pair_runs masked k es ds
  pairs-exchanged k [] [] = refl
  pairs-exchanged k [] (y ∷ es) = refl
  pairs-exchanged k (x ∷ ds) [] = refl
  pairs-exchanged k (x ∷ ds) (y ∷ es) = rw (runs-exchanged x.bytes y.bytes, pairs-exchanged (suc k) ds es)

  module _ (first second : List ℕ) where
    -- the runs of two recordings
    pub all-exchanged : runs_of masked first second ≡ runs_of masked second first
    unfolding runs_of
    all-exchanged = pairs-exchanged 1 (datagrams_of first) (datagrams_of second)

    -- the report
    pub report-exchanged : report_of masked first second ≡ report_of masked second first
    unfolding report_of
    report-exchanged = rw all-exchanged

    check_exchanged : (room : ℕ) → compare_check masked first second room ≡ compare_check masked second first room
    unfolding compare_check
    check_exchanged room = rw (report-exchanged, and_comm (is_recording first) (is_recording second))

    -- the output
    pub output-exchanged : (out : List ℕ) → output_of masked first second out ≡ output_of masked second first out
    unfolding output_of
    output-exchanged out = rw (check_exchanged (length out), report-exchanged)

    more-exchanged : more_of second first ≡ exchanged (more_of first second)
    unfolding more_of
    more-exchanged = go (length (datagrams_of first)) (length (datagrams_of second)) (ltb (length (datagrams_of second)) (length (datagrams_of first))) (ltb (length (datagrams_of first)) (length (datagrams_of second))) refl refl
      where
        go : (n m : ℕ) (s t : Bool) → ltb m n ≡ s → ltb n m ≡ t → cond t First (cond s Second Neither) ≡ exchanged (cond s First (cond t Second Neither))
        go n m true true e f = absurd (omega (arith, ltb-true m n e, ltb-true n m f))
        go n m true false e f = refl
        go n m false true e f = refl
        go n m false false e f = refl

    -- the answer
    pub answer-mirrored : (room : ℕ) → compared_of masked second first room ≡ mirrored (compared_of masked first second room)
    unfolding compared_of
    answer-mirrored room = rw (← check_exchanged room, ← report-exchanged, more-exchanged) (go (compare_check masked first second room))
      where
        go : (c : Result Unit Refusal) → stop_or Err c (Ok (record { length = length (report_of masked first second); more = exchanged (more_of first second) })) ≡ mirrored (stop_or Err c (Ok (record { length = length (report_of masked first second); more = more_of first second })))
        go (Ok tt) = refl
        go (Err r) = refl
