-- The tests of the call, and what each way says of the answer. Assumes nothing.
use Rattle.std.specs.Prelude.{Ok, Err}
use Prim.Native.Nat.{ℕ, ◌*◌, ◌≤◌, ◌<◌}
use mathlib.Core.Path.{◌≡◌}
use mathlib.Core.Bool.{Bool, true, false, not, ◌&&◌}
use mathlib.Core.List.{List}
use borrow.Author.Tests.{lt-ltb, le-ltb}
use lib.ListN.{length}
use Rattle.refusals.specs.declared.Refusal.TheVariants.{RecordingMalformed, OutputShort}
use Rattle.input.specs.Recording.{is_recording}
use Rattle.comparing.specs.Runs.{runs_of}
use Rattle.comparing.specs.Compared.{report_of, compare_check}
use Rattle.comparing.proofs.Writing.{length-report}

module _ (masked : Bool) (first second : List ℕ) where
  -- six bytes for each run
  pub length-of-report : length (report_of masked first second) ≡ 6 * length (runs_of masked first second)
  unfolding report_of
  length-of-report = length-report (runs_of masked first second)

  module _ (room : ℕ) where
    pub malformed_stops : not (is_recording first && is_recording second) ≡ true → compare_check masked first second room ≡ Err RecordingMalformed
    unfolding compare_check
    malformed_stops h = rw h

    module _ (good : not (is_recording first && is_recording second) ≡ false) where
      pub short_stops : room < length (report_of masked first second) → compare_check masked first second room ≡ Err OutputShort
      unfolding compare_check
      short_stops h = rw good (simp (lt-ltb room (length (report_of masked first second)) h))

      pub both_pass : length (report_of masked first second) ≤ room → compare_check masked first second room ≡ Ok tt
      unfolding compare_check
      both_pass h = rw good (simp (le-ltb room (length (report_of masked first second)) h))
