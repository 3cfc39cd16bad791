-- When each refusal is given (R27.8), in facts over the bytes. Assumes nothing.
use Rattle.std.specs.Prelude.{refl, Result, Ok, Err}
use Prim.Native.Nat.{ℕ}
use mathlib.Core.Bool.{Bool, ◌&&◌}
use mathlib.Core.List.{List}
use native.Mathlib.Omega.{arith}
use lib.ListN.{length}
use Rattle.checksum.proofs.Bytes.{Bytes}
use Rattle.lists.proofs.Decides.{Decides, decides_as, decides_and, decides_not, decides_lt}
use Rattle.refusals.proofs.Laws.{end, row, answers-first}
use Rattle.refusals.specs.declared.Refusal.{Refusal}
use Rattle.input.specs.Recording.{datagrams_of, is_recording}
use Rattle.input.proofs.WrittenOut.{recording_written}
use Rattle.input.proofs.ReadBack.{recording_back}
use Rattle.comparing.specs.Compared.{more_of, report_of, compare_check, compared_of}
use Rattle.comparing.specs.Facts.{Recorded, AnswersCompare, IsNumbered}
use Rattle.comparing.specs.declared.Report.{Report}
use Rattle.comparing.proofs.Checking.{length-of-report}

-- the test of a recording decides that the bytes are datagrams written out
pub decides_recorded : (r : List ℕ) → Bytes r → Decides (is_recording r) (Recorded r)
decides_recorded r b = record {
  holds = λ h. (datagrams_of r, recording_written r b h);
  passes = λ f. rw f.1 (recording_back f.0).1;
}

-- 31 exactly if one of the two is no recording; then 15 exactly if there is no room for six bytes a run
pub answers-compare : (masked : Bool) (first second : List ℕ) (room : ℕ) → Bytes first → Bytes second
    → AnswersCompare masked first second room (Ok (record { length = length (report_of masked first second); more = more_of first second })) (compared_of masked first second room)
unfolding compared_of compare_check
answers-compare masked first second room b c =
    let l = length-of-report masked first second in
    answers-first Err
    (row (decides_not (is_recording first && is_recording second) (decides_and (is_recording first) (is_recording second) (decides_recorded first b) (decides_recorded second c)))
    (row (decides_as _ (decides_lt room (length (report_of masked first second))) (λ h. omega arith) (λ h. omega arith)) end))
    (Ok (record { length = length (report_of masked first second); more = more_of first second }))

-- the number is 0 of a report, and else the refusal's
pub is-numbered : (a : Result Report Refusal) → IsNumbered a
is-numbered (Ok r) = refl
is-numbered (Err r) = refl
