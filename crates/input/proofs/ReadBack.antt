-- What is written as R17.2 describes it is read so. Assumes nothing.
use Prim.Native.Nat.{ℕ, suc, ◌+◌, ◌*◌, ◌≤◌}
use mathlib.Core.Path.{◌≡◌, refl, ◌∙◌}
use mathlib.Core.Bool.{true}
use mathlib.Core.List.{List, [], ◌∷◌, ◌++◌, map, flatten, append_assoc, append-nil}
use native.Mathlib.Omega.{arith}
use native.Mathlib.Nat.{zero-mul, suc-mul}
use borrow.Author.Tests.{le-leb}
use lib.Dec.{leb}
use lib.ListN.{length, length-append, length-map}
use lib.Seq.{take_at, drop_at, take-append_seam}
use Rattle.header.specs.Fields.{word_at}
use Rattle.input.specs.Section.{count_of, section_bytes, is_whole, behind_section, records, records_of, locator_bytes, prefix_bytes, router_bytes}
use Rattle.input.specs.Recording.{Datagram, interface_of, bytes_of, datagram_bytes, is_there, behind_datagram, datagrams_from, are_there, datagrams_of, is_recording}
use Rattle.input.specs.Input.{prefix_section, router_section, behind_settings, are_sections_whole, input_limit, is_well_formed}
use Rattle.input.specs.Format.{section, datagram_record, Sized, encoded, IsInput}

count-back : (rs : List (List ℕ)) (t : List ℕ) → count_of (section rs ++ t) ≡ length rs
unfolding section word_at
count-back rs t = omega arith

length_flatten : (size : ℕ) (rs : List (List ℕ)) → Sized size rs → length (flatten rs) ≡ length rs * size
unfolding flatten
length_flatten size [] h = rw zero-mul
length_flatten size (r ∷ rs) h = rw (length-append, h.0, length_flatten size rs h.1, suc-mul) (omega arith)

records-back : (size : ℕ) (rs : List (List ℕ)) (t : List ℕ) → Sized size rs → records size (length rs) (flatten rs ++ t) ≡ rs
unfolding flatten
records-back size [] t h = refl
records-back size (r ∷ rs) t h =
    rw (append_assoc r (flatten rs) t, take_at r (flatten rs ++ t) size h.0, drop_at r (flatten rs ++ t) size h.0, records-back size rs t h.1)

module _ (size : ℕ) (rs : List (List ℕ)) (t : List ℕ) (h : Sized size rs) where
  length-section : length (section rs) ≡ 2 + length rs * size
  unfolding section
  length-section = rw (length-append, length_flatten size rs h)

  whole_back : is_whole size (section rs ++ t) ≡ true
  whole_back =
      le-leb (section_bytes size (section rs ++ t)) (length (section rs ++ t)) (rw (count-back rs t, length-append, length-section) (omega arith))

  behind-back : behind_section size (section rs ++ t) ≡ t
  behind-back = rw (count-back rs t) (drop_at (section rs) t (2 + length rs * size) length-section)

  section-back : records_of size (section rs ++ t) ≡ rs
  unfolding records_of section
  section-back = rw (count-back rs t) (records-back size rs t h)

module _ (d : Datagram) (t : List ℕ) where
  length_back : word_at (datagram_record d ++ t) 1 ≡ length d.bytes
  unfolding datagram_record word_at
  length_back = omega arith

  length-datagram : length (datagram_record d) ≡ 3 + length d.bytes
  unfolding datagram_record
  length-datagram = omega arith

  bytes_back : bytes_of (datagram_record d ++ t) ≡ d.bytes
  unfolding datagram_record
  bytes_back = rw length_back (take-append_seam d.bytes t)

  interface-back : interface_of (datagram_record d ++ t) ≡ d.interface
  unfolding datagram_record
  interface-back = refl

  next-back : behind_datagram (datagram_record d ++ t) ≡ t
  next-back = rw length_back (drop_at (datagram_record d) t (3 + length d.bytes) length-datagram)

  there_back : is_there (datagram_record d ++ t) ≡ true
  there_back =
      le-leb (datagram_bytes (datagram_record d ++ t)) (length (datagram_record d ++ t)) (rw (length_back, length-append, length-datagram) (omega arith))

datagrams_back : (ds : List Datagram)
    → (datagrams_from (length ds) (flatten (map datagram_record ds)) ≡ ds) × (are_there (length ds) (flatten (map datagram_record ds)) ≡ true)
unfolding flatten
datagrams_back [] = (refl, refl)
datagrams_back (d ∷ ds) =
    let t = flatten (map datagram_record ds) in
    let b = datagrams_back ds in
    (rw (interface-back d t, bytes_back d t, next-back d t, b.0), rw (there_back d t, next-back d t) b.1)

-- a section of datagrams is read back, and nothing stands behind it
pub recording_back : (ds : List Datagram)
    → (datagrams_of (section (map datagram_record ds)) ≡ ds) × (is_recording (section (map datagram_record ds)) ≡ true)
unfolding section datagrams_of is_recording
recording_back ds =
    let n : count_of (section (map datagram_record ds)) ≡ length ds =
    rw append-nil at (count-back (map datagram_record ds) []) ∙ length-map ds datagram_record in
    let b = datagrams_back ds in
    let l : leb 2 (suc (suc (length (flatten (map datagram_record ds))))) ≡ true = le-leb 2 (suc (suc (length (flatten (map datagram_record ds))))) (omega arith) in
    (rw n b.0, rw (n, l) b.1)

module _ {s : List ℕ} {ls ps rs : List (List ℕ)} {ds : List Datagram} (i : IsInput s ls ps rs ds) where
  prefixes-at : prefix_section s ≡ section ps ++ (section rs ++ section (map datagram_record ds))
  unfolding prefix_section encoded
  prefixes-at = rw i.form (behind-back locator_bytes ls (section ps ++ (section rs ++ section (map datagram_record ds))) i.locator-size)

  routers-at : router_section s ≡ section rs ++ section (map datagram_record ds)
  unfolding router_section
  routers-at = rw prefixes-at (behind-back prefix_bytes ps (section rs ++ section (map datagram_record ds)) i.prefix-size)

  datagrams_at : behind_settings s ≡ section (map datagram_record ds)
  unfolding behind_settings
  datagrams_at = rw routers-at (behind-back router_bytes rs (section (map datagram_record ds)) i.router-size)

  -- each section is read as it was written
  pub sections-read : (records_of locator_bytes s ≡ ls) × (records_of prefix_bytes (prefix_section s) ≡ ps)
      × (records_of router_bytes (router_section s) ≡ rs) × (datagrams_of (behind_settings s) ≡ ds)
  unfolding encoded
  sections-read = (
    rw i.form (section-back locator_bytes ls (section ps ++ (section rs ++ section (map datagram_record ds))) i.locator-size),
    rw prefixes-at (section-back prefix_bytes ps (section rs ++ section (map datagram_record ds)) i.prefix-size),
    rw routers-at (section-back router_bytes rs (section (map datagram_record ds)) i.router-size),
    rw datagrams_at (recording_back ds).0,
  )

  -- what has the form and is not too long is well-formed
  pub form-taken : length s ≤ input_limit → is_well_formed s ≡ true
  unfolding encoded are_sections_whole is_well_formed
  form-taken h =
      let l : is_whole locator_bytes s ≡ true =
      rw i.form (whole_back locator_bytes ls (section ps ++ (section rs ++ section (map datagram_record ds))) i.locator-size) in
      let p : is_whole prefix_bytes (prefix_section s) ≡ true =
      rw prefixes-at (whole_back prefix_bytes ps (section rs ++ section (map datagram_record ds)) i.prefix-size) in
      let r : is_whole router_bytes (router_section s) ≡ true = rw routers-at (whole_back router_bytes rs (section (map datagram_record ds)) i.router-size) in
      let d : is_recording (behind_settings s) ≡ true = rw datagrams_at (recording_back ds).1 in
      cc (le-leb (length s) input_limit h)
