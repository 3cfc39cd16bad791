-- Laws of sections: how many records and datagrams they have, and how many bytes these take. Assumes nothing.
use Prim.Native.Nat.{ℕ, zero, suc, ◌+◌, ◌-◌, ◌*◌, ◌≤◌, ◌<◌}
use mathlib.Core.Path.{◌≡◌, refl, ap}
use mathlib.Core.Bool.{Bool, true, false, ◌&&◌, and_assoc}
use mathlib.Core.List.{List, [], ◌∷◌, flatten}
use native.Mathlib.Omega.{arith}
use native.Mathlib.Nat.{zero-mul, suc-mul, add_comm}
use borrow.Author.Tests.{leb-true}
use lib.Dec.{leb}
use lib.ListN.{length, take, drop, length-take, length-drop}
use lib.Seq.{take-add}
use Rattle.header.specs.Fields.{word_at}
use Rattle.input.specs.Section.{count_of, records, records_of}
use Rattle.input.specs.Input.{prefix_section, router_section, behind_settings, are_sections_whole, input_limit, is_well_formed}
use Rattle.input.specs.Recording.{Datagram, datagram_bytes, is_there, behind_datagram, first_datagram, datagrams_from, are_there, datagrams_of, is_recording}

-- n records are n
count-records : (size n : ℕ) (bs : List ℕ) → length (records size n bs) ≡ n
count-records size zero bs = refl
count-records size (suc n) bs = ap suc (count-records size n (drop size bs))

-- a section has as many records as it says
pub length-records : (size : ℕ) (s : List ℕ) → length (records_of size s) ≡ count_of s
unfolding records_of
length-records size s = count-records size (count_of s) (drop 2 s)

-- records one behind another are the bytes that they were cut from
pub flatten_records : (size n : ℕ) (bs : List ℕ) → flatten (records size n bs) ≡ take (n * size) bs
unfolding flatten
flatten_records size zero bs = rw zero-mul
flatten_records size (suc n) bs = rw (flatten_records size n (drop size bs), suc-mul, add_comm (n * size) size, take-add)

-- a section has as many datagrams as it says
pub length_datagrams : (n : ℕ) (d : List ℕ) → length (datagrams_from n d) ≡ n
length_datagrams zero d = refl
length_datagrams (suc n) d = ap suc (length_datagrams n (behind_datagram d))

-- a turn of a loop that sees whether datagrams are there
pub there_turn : (n i : ℕ) (good : Bool) (d : List ℕ) → i < n
    → (good && is_there d && are_there (n - (i + 1)) (behind_datagram d)) ≡ (good && are_there (n - i) d)
there_turn n i good d h = let e : n - i ≡ suc (n - (i + 1)) = omega arith in rw e (and_assoc good (is_there d) (are_there (n - (i + 1)) (behind_datagram d)))

-- how many bytes datagrams take in a section: three beside its own each
abbrev pub taken_by : List Datagram → ℕ
taken_by [] = 0
taken_by (d ∷ ds) = 3 + length d.bytes + taken_by ds

-- so there are not many
pub few_datagrams : (ds : List Datagram) → 3 * length ds ≤ taken_by ds
few_datagrams [] = omega arith
few_datagrams (d ∷ ds) = omega (arith, few_datagrams ds)

pub and_both : (a b : Bool) → (a && b) ≡ true → (a ≡ true) × (b ≡ true)
and_both true true h = (refl, refl)
and_both true false h = (refl, h)
and_both false b h = (h, cc)

there-inside : (n : ℕ) (d : List ℕ) → are_there n d ≡ true → taken_by (datagrams_from n d) ≤ length d
there-inside zero d h = omega arith
there-inside (suc n) d h =
    let b = and_both (is_there d) (are_there n (behind_datagram d)) h in
    let l = leb-true (datagram_bytes d) (length d) b.0 in
    omega (arith, there-inside n (behind_datagram d) b.1, length-drop (datagram_bytes d) d, length-take (word_at d 1) (drop 3 d))

-- the datagrams of a section that is there stand in it, behind the count
pub recording_inside : (r : List ℕ) → is_recording r ≡ true → 2 + taken_by (datagrams_of r) ≤ length r
unfolding is_recording datagrams_of
recording_inside r h =
    let b = and_both (leb 2 (length r)) (are_there (count_of r) (first_datagram r)) h in
    omega (arith, there-inside (count_of r) (first_datagram r) b.1, length-drop 2 r, leb-true 2 (length r) b.0)

-- what stands behind the settings is no longer than the input
behind-settings-short : (s : List ℕ) → length (behind_settings s) ≤ length s
unfolding prefix_section router_section behind_settings
behind-settings-short s = simp length-drop (omega arith)

-- the datagrams of a well-formed input stand in it
pub well_formed-inside : (s : List ℕ) → is_well_formed s ≡ true → 2 + taken_by (datagrams_of (behind_settings s)) ≤ input_limit
unfolding is_well_formed
well_formed-inside s h =
    let g = and_both (leb (length s) input_limit && are_sections_whole s) (is_recording (behind_settings s)) h in
    let l = leb-true (length s) input_limit (and_both (leb (length s) input_limit) (are_sections_whole s) g.0).0 in
    omega (arith, recording_inside (behind_settings s) g.1, behind-settings-short s)
