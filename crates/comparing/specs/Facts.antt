-- What the report says, in facts over bytes and places (R27). No contract rests on this.
use Rattle.std.specs.Prelude.{ℕ, zero, suc, ◌+◌, ◌-◌, ◌*◌, ◌≤◌, ◌<◌, ◌≡◌, ◌⊎◌, Bool, true, List, [], ◌∷◌, map, length, get_or, take, drop, Result, Ok, Err}
use Rattle.refusals.specs.Given.{number_in}
use Rattle.refusals.specs.Refusals.{AnswersFirst}
use Rattle.refusals.specs.declared.Refusal.{Refusal}
use Rattle.refusals.specs.declared.Refusal.TheVariants.{RecordingMalformed, OutputShort}
use Rattle.header.specs.Fields.{word_at}
use Rattle.input.specs.Recording.{Datagram, datagrams_of}
use Rattle.input.specs.Format.{section, datagram_record}
use Rattle.comparing.specs.Given.{compared_given}
use Rattle.comparing.specs.Runs.{Run, runs_of}
use Rattle.comparing.specs.declared.More.{More}
use Rattle.comparing.specs.declared.More.TheVariants.{First, Second, Neither}
use Rattle.comparing.specs.declared.Report.{Report}

-- a byte of the identification, of the TTL or of the checksum (R27.4)
abbrev pub Masked : ℕ → Type 0
Masked p = ((((p ≡ 4) ⊎ (p ≡ 5)) ⊎ (p ≡ 8)) ⊎ (p ≡ 10)) ⊎ (p ≡ 11)

-- byte p of two datagrams differs (R27.3): both have it, the two are unequal and, where the mask is asked for, it is not masked; or one alone has it
abbrev pub Differs : Bool → List ℕ → List ℕ → ℕ → Type 0
Differs masked a b p =
    ((p < length a) × (p < length b) × (masked ≡ true → Masked p → ⊥) × (get_or a p 0 ≡ get_or b p 0 → ⊥))
    ⊎ (((p < length a) × (length b ≤ p)) ⊎ ((length a ≤ p) × (p < length b)))

-- byte p lies in the run
abbrev pub Lies : ℕ → Run → Type 0
Lies p r = (r.offset ≤ p) × (p < r.offset + r.length)

-- a longest run of differing bytes (R27.5): it is not empty, all of it differs, and neither the byte before it nor the one behind it does
pub record Longest (masked : Bool) (a b : List ℕ) (r : Run) : Type 0 where
  pub some : 0 < r.length
  pub all : (p : ℕ) → Lies p r → Differs masked a b p
  pub before : (p : ℕ) → suc p ≡ r.offset → Differs masked a b p → ⊥
  pub behind : Differs masked a b (r.offset + r.length) → ⊥

module _ {A : Type 0} (F : A → Type 0) where
  -- all elements
  abbrev pub Each : List A → Type 0
  Each [] = Unit {0}
  Each (x ∷ xs) = F x × Each xs

  -- one of the elements
  abbrev pub OneOf : List A → Type 0
  OneOf [] = ⊥
  OneOf (x ∷ xs) = F x ⊎ OneOf xs

-- each element and the next one
abbrev pub Chained : {A : Type 0} → (A → A → Type 0) → List A → Type 0
Chained R [] = Unit {0}
Chained R (x ∷ []) = Unit {0}
Chained R (x ∷ (y ∷ ys)) = R x y × Chained R (y ∷ ys)

-- the second run comes behind the first, and not right behind it
abbrev pub Behind : Run → Run → Type 0
Behind r s = r.offset + r.length < s.offset

-- the runs of two datagrams, and no others: each is a longest one, each byte that differs lies in one, and they ascend (R27.5)
pub record RunsOfPair (masked : Bool) (a b : List ℕ) (rs : List Run) : Type 0 where
  pub longest : Each (Longest masked a b) rs
  pub found : (p : ℕ) → Differs masked a b p → OneOf (Lies p) rs
  pub order : Chained Behind rs

-- a datagram that is not there
abbrev pub no_datagram : Datagram
no_datagram = record { interface = 0; bytes = [] }

-- the bytes of the datagram of number k, counted from 1
abbrev pub bytes_at : List Datagram → ℕ → List ℕ
bytes_at ds k = (get_or ds (k - 1) no_datagram).bytes

-- both recordings have a datagram of number k, counted from 1 (R27.2)
abbrev pub Paired : List Datagram → List Datagram → ℕ → Type 0
Paired ds es k = (0 < k) × (k ≤ length ds) × (k ≤ length es)

-- the second comes behind the first: of a later datagram, or behind it in the same
abbrev pub Later : ℕ × Run → ℕ × Run → Type 0
Later r s = (r.0 < s.0) ⊎ ((r.0 ≡ s.0) × Behind r.1 s.1)

-- the runs of two recordings, and no others (R27.2, R27.5): each is a longest one of a datagram and its partner, each byte of these that differs lies in one,
-- and they stand datagram by datagram in order
pub record RunsOfRecordings (masked : Bool) (ds es : List Datagram) (rs : List (ℕ × Run)) : Type 0 where
  pub longest : Each (λ r. Paired ds es r.0 × Longest masked (bytes_at ds r.0) (bytes_at es r.0) r.1) rs
  pub found : (k p : ℕ) → Paired ds es k → Differs masked (bytes_at ds k) (bytes_at es k) p → OneOf (λ r. (r.0 ≡ k) × Lies p r.1) rs
  pub order : Chained Later rs

-- the runs that n times six bytes tell: datagram, offset and length, two bytes each, big-endian (R27.6)
abbrev pub runs_in : ℕ → List ℕ → List (ℕ × Run)
runs_in zero bs = []
runs_in (suc n) bs = (word_at bs 0, record { offset = word_at bs 2; length = word_at bs 4 }) ∷ runs_in n (drop 6 bs)

-- number, offset and length have 16 bits (R27.6)
abbrev pub Fits : ℕ × Run → Type 0
Fits r = (r.0 < 65536) × (r.1.offset < 65536) × (r.1.length < 65536)

-- the bytes are a count and so many datagrams, and nothing else (R27.1)
abbrev pub Recorded : List ℕ → Type 0
Recorded r = (ds : List Datagram) × (r ≡ section (map datagram_record ds))

-- the answer that is given where the first fact holds, where the second does, and where neither does (R27.8): one of the two is no recording; the room is
-- less than six bytes for each run
abbrev pub AnswersCompare : Bool → List ℕ → List ℕ → ℕ → Result Report Refusal → Result Report Refusal → Type 0
AnswersCompare masked first second room follows answer =
    AnswersFirst Err
    ((((Recorded first × Recorded second) → ⊥), RecordingMalformed) ∷ (((room < 6 * length (runs_of masked first second)), OutputShort) ∷ []))
    follows
    answer

-- the list of datagrams that is longer, if one is (R27.7)
abbrev pub HasMore : List Datagram → List Datagram → More → Type 0
HasMore ds es First = length es < length ds
HasMore ds es Second = length ds < length es
HasMore ds es Neither = length ds ≡ length es

-- what an answer says and leaves in the output (R27.6 to R27.8): a length of six bytes for each run, the recording that has more datagrams, the runs in
-- so many bytes at the front, and behind these what stood there; after a refusal all that stood there
abbrev pub Leaves : Bool → List ℕ → List ℕ → List ℕ → Result Report Refusal → List ℕ → Type 0
Leaves masked first second out (Ok r) after =
    (r.length ≡ 6 * length (runs_of masked first second))
    × HasMore (datagrams_of first) (datagrams_of second) r.more
    × (runs_in (length (runs_of masked first second)) (take r.length after) ≡ runs_of masked first second)
    × (drop r.length after ≡ drop r.length out)
Leaves masked first second out (Err refusal) after = after ≡ out

-- which has more, after the two are exchanged (R27.9)
abbrev pub exchanged : More → More
exchanged First = Second
exchanged Second = First
exchanged Neither = Neither

-- the answer, after the two are exchanged (R27.9)
abbrev pub mirrored : Result Report Refusal → Result Report Refusal
mirrored (Ok r) = Ok (record { length = r.length; more = exchanged r.more })
mirrored (Err refusal) = Err refusal

-- the number of an answer (`refusals::number`) is that of what is given for it (R20.3)
abbrev pub IsNumbered : Result Report Refusal → Type 0
IsNumbered answer = number_in answer ≡ (compared_given answer).number
