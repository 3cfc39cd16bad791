-- What the answer says, and what it leaves in the output (R27.6 to R27.8), in facts over the bytes. Assumes nothing.
use Rattle.std.specs.Prelude.{Result, Ok, Err}
use Rattle.refusals.specs.declared.Refusal.{Refusal}
use Prim.Native.Nat.{ℕ}
use mathlib.Core.Path.{◌≡◌, refl}
use mathlib.Core.Bool.{Bool, true, false, cond}
use mathlib.Core.List.{List}
use native.Mathlib.Omega.{arith}
use borrow.Author.Tests.{ltb-true, ltb-false}
use lib.Dec.{ltb}
use lib.ListN.{length, drop}
use lib.Seq.{take-append_seam, drop-append_seam}
use Rattle.checksum.proofs.Bytes.{Bytes}
use Rattle.lent.specs.Written.{written}
use Rattle.refusals.specs.Refusals.{stop_or}
use Rattle.input.specs.Recording.{datagrams_of}
use Rattle.comparing.specs.Compared.{more_of, report_of, compare_check, compared_of, output_of}
use Rattle.comparing.specs.Facts.{HasMore, Leaves}
use Rattle.comparing.specs.declared.More.TheVariants.{First, Second, Neither}
use Rattle.comparing.proofs.Checking.{length-of-report}
use Rattle.comparing.proofs.Fitting.{report-read}

-- the answer names the recording that has more datagrams
pub more-named : (first second : List ℕ) → HasMore (datagrams_of first) (datagrams_of second) (more_of first second)
unfolding more_of
more-named first second = go (ltb m n) (ltb n m) refl refl
  where
    n : ℕ
    n = length (datagrams_of first)

    m : ℕ
    m = length (datagrams_of second)

    go : (s t : Bool) → ltb m n ≡ s → ltb n m ≡ t → HasMore (datagrams_of first) (datagrams_of second) (cond s First (cond t Second Neither))
    go true t e f = ltb-true m n e
    go false true e f = ltb-true n m f
    go false false e f = omega (arith, ltb-false m n e, ltb-false n m f)

-- the answer and the output are as it should be, whatever the bytes
pub leaves : (masked : Bool) (first second out : List ℕ) → Bytes first → Bytes second
    → Leaves masked first second out (compared_of masked first second (length out)) (output_of masked first second out)
unfolding compared_of output_of
leaves masked first second out b c = go (compare_check masked first second (length out))
  where
    report : List ℕ
    report = report_of masked first second

    go : (check : Result Unit Refusal)
        → Leaves masked first second out (stop_or Err check (Ok (record { length = length report; more = more_of first second }))) (stop_or (λ refusal. out) check (written report out))
    go (Ok tt) = (
      length-of-report masked first second,
      more-named first second,
      rw (take-append_seam report (drop (length report) out)) (report-read masked first second b c),
      drop-append_seam report (drop (length report) out),
    )
    go (Err refusal) = refl
