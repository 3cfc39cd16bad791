-- A well-formed input is what R17.2 describes: its sections written out, and nothing else. Assumes nothing.
use Prim.Native.Nat.{ℕ, zero, suc, ◌+◌, ◌*◌, ◌/◌, ◌%◌, ◌≤◌, ◌<◌}
use mathlib.Core.Path.{◌≡◌, refl, sym, ap, ◌∙◌}
use mathlib.Core.Bool.{true, ◌&&◌}
use mathlib.Core.List.{List, [], ◌∷◌, ◌++◌, map, flatten}
use native.Mathlib.Omega.{arith}
use native.Mathlib.Nat.{suc-mul}
use borrow.Author.Tests.{leb-true, eqb-true}
use lib.Dec.{leb, eqb}
use lib.ListN.{length, take, drop, length-drop, length-map, take-append-drop}
use lib.Seq.{drop-drop, length-take-le}
use Rattle.checksum.proofs.Bytes.{Bytes, bytes_drop}
use Rattle.header.specs.Fields.{word_at}
use Rattle.input.specs.Section.{count_of, section_bytes, is_whole, behind_section, records, records_of, locator_bytes, prefix_bytes, router_bytes}
use Rattle.input.specs.Recording.{interface_of, bytes_of, datagram_bytes, is_there, behind_datagram, first_datagram, datagrams_from, are_there, datagrams_of, is_recording}
use Rattle.input.specs.Input.{prefix_section, router_section, behind_settings, are_sections_whole, input_limit, is_well_formed}
use Rattle.input.proofs.Laws.{and_both, length-records, length_datagrams, flatten_records}
use Rattle.input.specs.Format.{two_bytes, section, datagram_record, Sized, encoded, IsInput}

two : (x y : ℕ) → y < 256 → ((x * 256 + y) / 256 ≡ x) × ((x * 256 + y) % 256 ≡ y)
two x y h = (omega arith, omega arith)

count-written : (s : List ℕ) → Bytes s → 2 ≤ length s → s ≡ two_bytes (count_of s) ++ drop 2 s
unfolding word_at
count-written [] b h = absurd (omega arith)
count-written (x ∷ []) b h = absurd (omega arith)
count-written (x ∷ y ∷ t) b h = let e = two x y b.1.0 in rw (e.0, e.1)

sized_records : (size n : ℕ) (s : List ℕ) → n * size ≤ length s → Sized size (records size n s)
sized_records size zero s h = tt
sized_records size (suc n) s h =
    let g = rw suc-mul at h in
    (length-take-le size s (omega arith), sized_records size n (drop size s) (rw length-drop (omega arith)))

module _ (size : ℕ) (s : List ℕ) (b : Bytes s) (w : is_whole size s ≡ true) where
  room : 2 + count_of s * size ≤ length s
  room = leb-true (2 + count_of s * size) (length s) w

  section-written : s ≡ section (records_of size s) ++ behind_section size s
  unfolding section records_of
  section-written =
      let r = room in
      let n = count_of s in
      let c : drop 2 s ≡ flatten (records size n (drop 2 s)) ++ drop (2 + n * size) s =
      sym (take-append-drop (n * size) (drop 2 s)) ∙ rw (flatten_records size n (drop 2 s), drop-drop) in
      count-written s b (omega arith) ∙ ap (λ (l : List ℕ). two_bytes n ++ l) c ∙ rw (length-records size s)

  section_sized : Sized size (records_of size s)
  unfolding records_of
  section_sized = let r = room in sized_records size (count_of s) (drop 2 s) (rw length-drop (omega arith))

three : (d : List ℕ) → is_there d ≡ true → 3 ≤ length d
three d h = let l = leb-true (datagram_bytes d) (length d) h in omega arith

datagram-written : (d : List ℕ) → Bytes d → is_there d ≡ true
    → d ≡ datagram_record (record { interface = interface_of d; bytes = bytes_of d }) ++ behind_datagram d
unfolding datagram_record word_at
datagram-written [] b h = absurd (omega (arith, three [] h))
datagram-written (x ∷ []) b h = absurd (omega (arith, three (x ∷ []) h))
datagram-written (x ∷ y ∷ []) b h = absurd (omega (arith, three (x ∷ y ∷ []) h))
datagram-written (x ∷ y ∷ z ∷ u) b h =
    let w = y * 256 + z in
    let r = leb-true (3 + w) (suc (suc (suc (length u)))) h in
    let l : length (take w u) ≡ w = length-take-le w u (omega arith) in
    let e = two y z b.1.1.0 in
    let n : drop (3 + w) (x ∷ y ∷ z ∷ u) ≡ drop w u = sym (drop-drop w 3 (x ∷ y ∷ z ∷ u)) in
    rw (l, e.0, e.1, n) (ap (λ (t : List ℕ). x ∷ y ∷ z ∷ t) (sym (take-append-drop w u)))

nothing : (d : List ℕ) → eqb (length d) 0 ≡ true → d ≡ []
nothing [] h = refl
nothing (x ∷ d) h = absurd (omega (arith, eqb-true (suc (length d)) 0 h))

datagrams_written : (n : ℕ) (d : List ℕ) → Bytes d → are_there n d ≡ true → d ≡ flatten (map datagram_record (datagrams_from n d))
unfolding flatten
datagrams_written zero d b h = nothing d h
datagrams_written (suc n) d b h =
    let g = and_both (is_there d) (are_there n (behind_datagram d)) h in
    datagram-written d b g.0
    ∙ ap (λ (l : List ℕ). datagram_record (record { interface = interface_of d; bytes = bytes_of d }) ++ l)
    (datagrams_written n (behind_datagram d) (bytes_drop (datagram_bytes d) d b) g.1)

-- a section of datagrams that is there is its datagrams written out
pub recording_written : (r : List ℕ) → Bytes r → is_recording r ≡ true → r ≡ section (map datagram_record (datagrams_of r))
unfolding is_recording datagrams_of section
recording_written r b h =
    let g = and_both (leb 2 (length r)) (are_there (count_of r) (first_datagram r)) h in
    let n : length (map datagram_record (datagrams_from (count_of r) (first_datagram r))) ≡ count_of r =
    length-map (datagrams_from (count_of r) (first_datagram r)) datagram_record ∙ length_datagrams (count_of r) (first_datagram r) in
    count-written r b (leb-true 2 (length r) g.0)
    ∙ rw n (ap (λ (l : List ℕ). two_bytes (count_of r) ++ l) (datagrams_written (count_of r) (first_datagram r) (bytes_drop 2 r b) g.1))

-- a well-formed input has the form that R17.2 describes, with what is read from it
pub taken-form : (s : List ℕ) → Bytes s → is_well_formed s ≡ true
    → IsInput s (records_of locator_bytes s) (records_of prefix_bytes (prefix_section s)) (records_of router_bytes (router_section s)) (datagrams_of (behind_settings s))
unfolding is_well_formed are_sections_whole prefix_section router_section behind_settings encoded
taken-form s b h =
    let p = prefix_section s in
    let r = router_section s in
    let d = behind_settings s in
    let g = and_both (leb (length s) input_limit && are_sections_whole s) (is_recording d) h in
    let w = and_both (is_whole locator_bytes s && is_whole prefix_bytes p) (is_whole router_bytes r) (and_both (leb (length s) input_limit) (are_sections_whole s) g.0).1 in
    let v = and_both (is_whole locator_bytes s) (is_whole prefix_bytes p) w.0 in
    let bp = bytes_drop (section_bytes locator_bytes s) s b in
    let br = bytes_drop (section_bytes prefix_bytes p) p bp in
    let bd = bytes_drop (section_bytes router_bytes r) r br in record {
      locator-size = section_sized locator_bytes s b v.0;
      prefix-size = section_sized prefix_bytes p bp v.1;
      router-size = section_sized router_bytes r br w.1;
      form =
          section-written locator_bytes s b v.0
          ∙ ap (λ (l : List ℕ). section (records_of locator_bytes s) ++ l)
          (section-written prefix_bytes p bp v.1
          ∙ ap (λ (l : List ℕ). section (records_of prefix_bytes p) ++ l)
          (section-written router_bytes r br w.1
          ∙ ap (λ (l : List ℕ). section (records_of router_bytes r) ++ l) (recording_written d bd g.1)));
    }
