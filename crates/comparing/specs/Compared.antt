-- What comparing two recordings comes to (R27): the answer, and the bytes of the output.
use Rattle.refusals.specs.declared.Refusal.{Refusal}
use Rattle.std.specs.Prelude.{ℕ, Bool, cond, not, ◌&&◌, List, [], ◌∷◌, length, ltb, Result, Ok, Err}
use Rattle.refusals.specs.Refusals.{first_of, stop_or}
use Rattle.refusals.specs.declared.Refusal.TheVariants.{RecordingMalformed, OutputShort}
use Rattle.lent.specs.Written.{written}
use Rattle.input.specs.Recording.{datagrams_of, is_recording}
use Rattle.comparing.specs.Runs.{runs_of, runs_bytes}
use Rattle.comparing.specs.declared.More.{More}
use Rattle.comparing.specs.declared.More.TheVariants.{First, Second, Neither}
use Rattle.comparing.specs.declared.Report.{Report}

-- which recording has more datagrams (R27.7)
unfoldable pub more_of : List ℕ → List ℕ → More
more_of first second =
    cond (ltb (length (datagrams_of second)) (length (datagrams_of first))) First
    (cond (ltb (length (datagrams_of first)) (length (datagrams_of second))) Second Neither)

-- the report (R27.6)
unfoldable pub report_of : Bool → List ℕ → List ℕ → List ℕ
report_of masked first second = runs_bytes (runs_of masked first second)

-- 31, then 15 (R27.8)
unfoldable pub compare_check : Bool → List ℕ → List ℕ → ℕ → Result Unit Refusal
compare_check masked first second room =
    first_of ((not (is_recording first && is_recording second), RecordingMalformed) ∷ ((ltb room (length (report_of masked first second)), OutputShort) ∷ []))

-- the report's length and which recording has more datagrams, or the refusal (R27.7, R27.8)
unfoldable pub compared_of : Bool → List ℕ → List ℕ → ℕ → Result Report Refusal
compared_of masked first second room =
    stop_or Err (compare_check masked first second room) (Ok (record { length = length (report_of masked first second); more = more_of first second }))

-- what stands in the output afterwards: the report over its front, or after a refusal what stood there (R27.7, R27.8)
unfoldable pub output_of : Bool → List ℕ → List ℕ → List ℕ → List ℕ
output_of masked first second out =
    stop_or (λ refusal. out) (compare_check masked first second (length out)) (written (report_of masked first second) out)
