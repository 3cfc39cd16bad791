-- The records of a section, read one after another into an array. Assumes nothing.
use Prim.Native.Nat.{ℕ, zero, suc, ◌+◌, ◌*◌, ◌≤◌, ◌<◌, min}
use mathlib.Core.Path.{◌≡◌, refl, sym, ap, ◌∙◌}
use mathlib.Core.Bool.{Bool, true, false}
use mathlib.Core.List.{List, [], ◌∷◌, ◌++◌, map, flatten, append_assoc}
use native.Mathlib.Omega.{arith}
use native.Mathlib.Nat.{zero-mul, suc-mul, add_comm, mul-le-mul}
use native.Mathlib.Numerals.{add-one}
use borrow.Author.Tests.{leb-true, leb-false}
use lib.Dec.{leb}
use lib.ListN.{length, get_or, take, drop, set, replicate, length-take, length-map, length-replicate, get_or-map}
use lib.Seq.{drop-cons, drop-drop, take-suc, take_all, take-take, set_at}
use Rattle.lists.proofs.Parts.{take-least, drop-least}
use Rattle.lent.specs.Written.{written, written_at}
use Rattle.lent.proofs.Laws.{written_at-first}
use Rattle.input.specs.Section.{count_of, prefix_bytes, records, records_of, record_at, filled}
use Rattle.input.proofs.Laws.{length-records, flatten_records}

-- no section is too long for a count of bytes
pub small : (n size : ℕ) → n < 65536 → size < 256 → n * size ≤ 16711425
small n size h g = mul-le-mul {n₁ = n} {m₁ = size} {n₂ = 65535} {m₂ = 255} (omega arith) (omega arith)

record_nth : (size n : ℕ) (bs : List ℕ) (i : ℕ) → i < n → get_or (records size n bs) i [] ≡ take size (drop (i * size) bs)
record_nth size zero bs i h = absurd (omega arith)
record_nth size (suc n) bs zero h = rw zero-mul
record_nth size (suc n) bs (suc i) h = record_nth size n (drop size bs) i (omega arith) ∙ rw (drop-drop, suc-mul, add_comm (i * size) size)

module _ {A : Type 0} (f : List ℕ → A) (none : A) (size room : ℕ) (s : List ℕ) where
  -- the first i records are read, and the other places are as they were
  abbrev pub filled_to : ℕ → List A
  filled_to i = take i (map f (records_of size s)) ++ drop i (replicate room none)

  nth : (i : ℕ) → i < count_of s → get_or (map f (records_of size s)) i (f []) ≡ f (record_at size s i)
  unfolding records_of
  nth i h = get_or-map f (records_of size s) i [] ∙ ap f (record_nth size (count_of s) (drop 2 s) i h ∙ rw drop-drop)

  many : length (map f (records_of size s)) ≡ count_of s
  many = length-map (records_of size s) f ∙ length-records size s

  pub fill_turn : (all : List A) (i : ℕ) (x : A) → i < count_of s → i < room → all ≡ filled_to i → x ≡ f (record_at size s i)
      → set all i x ≡ filled_to (i + 1)
  fill_turn all i x h g e v =
      let xs = map f (records_of size s) in
      let zs = replicate room none in
      let m = many in
      let l : length (take i xs) ≡ i = rw length-take (omega arith) in
      let a : set (filled_to i) i x ≡ take i xs ++ (x ∷ drop (suc i) zs) =
      rw (drop-cons zs i none (rw length-replicate g)) (set_at (take i xs) (get_or zs i none) (drop (suc i) zs) x i l) in
      rw (e, add-one, take-suc xs i (f []) (rw m h), nth i h, ← v, append_assoc) a

  pub fill_end : (all : List A) (i : ℕ) → i ≡ min (count_of s) room → all ≡ filled_to i → all ≡ filled room none (map f (records_of size s))
  unfolding filled
  fill_end all i h e =
      let xs = map f (records_of size s) in
      let zs = replicate room none in
      let m = many in
      let l = length-replicate room none in
      let a : i ≡ min room (length xs) = omega arith in
      let b : i ≡ min (length xs) (length zs) = omega arith in
      let t : take i xs ≡ take room xs = rw a (take-least room xs) in
      let d : drop i zs ≡ drop (length xs) zs = rw b (drop-least (length xs) zs) in
      e ∙ rw (t, d)

first_eight : (c n : ℕ) (bs : List ℕ) → n ≡ min c 8 * 8 → take n bs ≡ take 64 (take (c * 8) bs)
first_eight c n bs h = picked (leb c 8) refl
  where
    picked : (t : Bool) → leb c 8 ≡ t → take n bs ≡ take 64 (take (c * 8) bs)
    picked true g =
        let e : n ≡ c * 8 = omega (arith, leb-true c 8 g) in
        rw e (sym (take_all 64 (take (c * 8) bs) (rw length-take (omega (arith, leb-true c 8 g)))))
    picked false g =
        let e : n ≡ 64 = omega (arith, leb-false c 8 g) in
        rw e (sym (take-take 64 (c * 8) bs (omega (arith, leb-false c 8 g))))

-- the bytes of the first eight prefixes, and zeros behind them
pub prefixes-filled : (s bytes all : List ℕ) (n : ℕ) → n ≡ min (count_of s) 8 * 8 → bytes ≡ take n (drop 2 s)
    → all ≡ written_at 0 bytes (replicate 64 0) → all ≡ filled 64 0 (flatten (records_of prefix_bytes s))
unfolding filled records_of
prefixes-filled s bytes all n h b e =
    let xs = take (count_of s * 8) (drop 2 s) in
    let zs = replicate {A = ℕ} 64 0 in
    let t : bytes ≡ take 64 xs = b ∙ first_eight (count_of s) n (drop 2 s) h in
    let l = length-take 64 xs in
    let m : length bytes ≡ min (length xs) (length zs) = ap length t ∙ omega arith in
    let w : all ≡ written bytes zs = written_at-first bytes zs (omega arith) e in
    w ∙ rw (m, drop-least (length xs) zs, t, flatten_records 8 (count_of s) (drop 2 s))
