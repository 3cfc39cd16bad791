-- A header that is corrected as RFC 791's procedure says, and the fragment that it stands before. Assumes nothing.
use Prim.Native.Nat.{ℕ, zero, suc, ◌+◌, ◌*◌, ◌/◌, ◌%◌, ◌≤◌, ◌<◌}
use mathlib.Core.Path.{◌≡◌, refl, sym, ap, subst, ◌∙◌}
use mathlib.Core.List.{List, [], ◌∷◌, ◌++◌}
use native.Mathlib.Omega.{arith}
use lib.ListN.{get_or, length, drop, get_or-append, length-append}
use lib.Seq.{drop-cons, take_all, take-append_seam, drop-append_seam}
use Rattle.checksum.specs.Sum.{ones_sum, ones_complement}
use Rattle.checksum.proofs.Bytes as B
use Rattle.checksum.proofs.Laws.{sum-complement}
use Rattle.header.specs.Fields.{word_at, quad_at, bytes_from}
use Rattle.receiving.specs.Facts.{header_length, total_length, encapsulated}
use Rattle.demands.specs.Cuttings.{SameKey, HeaderRight}
use Rattle.demands.specs.Fragments.{header_with, corrected, Bytes, Header}

-- what a corrected header has
pub record Corrected (h : List ℕ) (T F : ℕ) (g : List ℕ) : Type 0 where
  pub size : length g ≡ length h
  pub front : get_or g 0 0 ≡ get_or h 0 0
  pub total : word_at g 2 ≡ T
  pub fragment : word_at g 6 ≡ F
  pub key : SameKey g h
  pub sum : ones_sum g ≡ 0xFFFF
  pub bytes : B.Bytes g

-- of a header that is known byte by byte
of-bytes : (a0 a1 a2 a3 a4 a5 a6 a7 a8 a9 a10 a11 a12 a13 a14 a15 a16 a17 a18 a19 : ℕ) (rest : List ℕ) (total fragment : ℕ) → total < 65536 → fragment < 65536 → B.Bytes (a0 ∷ a1 ∷ a2 ∷ a3 ∷ a4 ∷ a5 ∷ a6 ∷ a7 ∷ a8 ∷ a9 ∷ a10 ∷ a11 ∷ a12 ∷ a13 ∷ a14 ∷ a15 ∷ a16 ∷ a17 ∷ a18 ∷ a19 ∷ rest)
    → Corrected (a0 ∷ a1 ∷ a2 ∷ a3 ∷ a4 ∷ a5 ∷ a6 ∷ a7 ∷ a8 ∷ a9 ∷ a10 ∷ a11 ∷ a12 ∷ a13 ∷ a14 ∷ a15 ∷ a16 ∷ a17 ∷ a18 ∷ a19 ∷ rest) total fragment (corrected (a0 ∷ a1 ∷ a2 ∷ a3 ∷ a4 ∷ a5 ∷ a6 ∷ a7 ∷ a8 ∷ a9 ∷ a10 ∷ a11 ∷ a12 ∷ a13 ∷ a14 ∷ a15 ∷ a16 ∷ a17 ∷ a18 ∷ a19 ∷ rest) total fragment)
unfolding corrected word_at quad_at
of-bytes a0 a1 a2 a3 a4 a5 a6 a7 a8 a9 a10 a11 a12 a13 a14 a15 a16 a17 a18 a19 rest total fragment t f b =
    let all : List ℕ = a0 ∷ a1 ∷ a2 ∷ a3 ∷ a4 ∷ a5 ∷ a6 ∷ a7 ∷ a8 ∷ a9 ∷ a10 ∷ a11 ∷ a12 ∷ a13 ∷ a14 ∷ a15 ∷ a16 ∷ a17 ∷ a18 ∷ a19 ∷ rest in
    let front : List ℕ = a0 ∷ a1 ∷ total / 256 ∷ total % 256 ∷ a4 ∷ a5 ∷ fragment / 256 ∷ fragment % 256 ∷ a8 ∷ a9 ∷ [] in
    let back : List ℕ = a12 ∷ a13 ∷ a14 ∷ a15 ∷ a16 ∷ a17 ∷ a18 ∷ a19 ∷ rest in
    let bf : B.Bytes front = (B.bytes-at all 0 b, (B.bytes-at all 1 b, (omega arith, (omega arith, (B.bytes-at all 4 b, (B.bytes-at all 5 b, (omega arith, (omega arith, (B.bytes-at all 8 b, (B.bytes-at all 9 b, tt)))))))))) in
    let bb : B.Bytes back = B.bytes_drop 12 all b in
    let sum : ℕ = ones_complement (ones_sum (header_with all total fragment 0)) in
    let tail : B.Bytes (sum / 256 ∷ (sum % 256 ∷ back)) = (omega arith, (omega arith, bb)) in
    record {
      size = refl;
      front = refl;
      total = omega arith;
      fragment = omega arith;
      key = record { source = refl; destination = refl; protocol = refl; identification = refl };
      sum = sum-complement 0 front back refl (omega arith) bf bb;
      bytes = B.bytes-append front (sum / 256 ∷ (sum % 256 ∷ back)) bf tail;
    }

-- a list from i on is its next n elements, one by one, and what is behind them
one_by_one : (n i : ℕ) (h : List ℕ) → i + n ≤ length h → drop i h ≡ bytes_from n i h ++ drop (i + n) h
one_by_one zero i h l = let e : i ≡ i + 0 = omega arith in ap (λ (j : ℕ). drop j h) e
one_by_one (suc n) i h l =
    let e : suc i + n ≡ i + suc n = omega arith in
    drop-cons h i 0 (omega arith)
    ∙ ap (λ (r : List ℕ). get_or h i 0 ∷ r) (one_by_one n (suc i) h (omega arith) ∙ ap (λ (j : ℕ). bytes_from n (suc i) h ++ drop j h) e)

module _ (h : List ℕ) (head : Header h) (total fragment : ℕ) (t : total < 65536) (f : fragment < 65536) where
  -- a header that is corrected has the new fields, the old key, and a right checksum
  pub corrects : Corrected h total fragment (corrected h total fragment)
  corrects =
      let split : h ≡ bytes_from 20 0 h ++ drop 20 h = one_by_one 20 0 h (omega (arith, head.some)) in
      let bytes : B.Bytes (bytes_from 20 0 h ++ drop 20 h) = subst (λ (l : List ℕ). B.Bytes l) split (B.bytes_of h head.bytes) in
      subst (λ (l : List ℕ). Corrected l total fragment (corrected l total fragment)) (sym split)
      (of-bytes (get_or h 0 0) (get_or h 1 0) (get_or h 2 0) (get_or h 3 0) (get_or h 4 0) (get_or h 5 0) (get_or h 6 0) (get_or h 7 0) (get_or h 8 0) (get_or h 9 0) (get_or h 10 0) (get_or h 11 0) (get_or h 12 0) (get_or h 13 0) (get_or h 14 0) (get_or h 15 0) (get_or h 16 0) (get_or h 17 0) (get_or h 18 0) (get_or h 19 0) (drop 20 h) total fragment t f bytes)

-- the fields of a datagram's header are those of what it begins with
word-front : (g r : List ℕ) (k : ℕ) → k + 1 < length g → word_at (g ++ r) k ≡ word_at g k
unfolding word_at
word-front g r k l = rw (get_or-append g r 0 k (omega arith), get_or-append g r 0 (k + 1) l)

quad-front : (g r : List ℕ) (k : ℕ) → k + 3 < length g → quad_at (g ++ r) k ≡ quad_at g k
unfolding quad_at
quad-front g r k l =
    rw (get_or-append g r 0 k (omega arith), get_or-append g r 0 (k + 1) (omega arith), get_or-append g r 0 (k + 2) (omega arith), get_or-append g r 0 (k + 3) l)

-- what a datagram has that was put together of a corrected header and its payload
pub record Fragment (h : List ℕ) (F : ℕ) (payload d : List ℕ) : Type 0 where
  pub right : HeaderRight d
  pub key : SameKey d h
  pub fragment : word_at d 6 ≡ F
  pub payload-of : encapsulated d ≡ payload
  pub bytes : Bytes d

module _ (h : List ℕ) (head : Header h) (payload : List ℕ) (bs : B.Bytes payload) (fragment : ℕ) (t : length h + length payload < 65536) (f : fragment < 65536) where
  abbrev g : List ℕ
  g = corrected h (length h + length payload) fragment

  c : Corrected h (length h + length payload) fragment g
  c = corrects h head (length h + length payload) fragment t f

  long : 20 ≤ length g
  long = omega (arith, head.some, c.size)

  first : get_or (g ++ payload) 0 0 ≡ get_or h 0 0
  first = get_or-append g payload 0 0 (omega (arith, long)) ∙ c.front

  header : header_length (g ++ payload) ≡ length g
  header = ap (λ (b : ℕ). b % 16 * 4) first ∙ head.words ∙ sym c.size

  total : total_length (g ++ payload) ≡ length g + length payload
  total = word-front g payload 2 (omega (arith, long)) ∙ c.total ∙ ap (λ (n : ℕ). n + length payload) (sym c.size)

  sized : length (g ++ payload) ≡ length g + length payload
  sized = length-append g payload

  pub joins : Fragment h fragment payload (g ++ payload)
  joins = record {
    right = record {
      whole = record {
        some = omega (arith, long, sized);
        version = rw first head.version;
        words = omega (arith, header, long);
        whole = omega (arith, header, sized);
        inside = omega (arith, header, total);
        all = omega (arith, total, sized);
      };
      sum = rw (header, take-append_seam g payload) c.sum;
    };
    key = record {
      source = quad-front g payload 12 (omega (arith, long)) ∙ c.key.source;
      destination = quad-front g payload 16 (omega (arith, long)) ∙ c.key.destination;
      protocol = get_or-append g payload 0 9 (omega (arith, long)) ∙ c.key.protocol;
      identification = word-front g payload 4 (omega (arith, long)) ∙ c.key.identification;
    };
    fragment = word-front g payload 6 (omega (arith, long)) ∙ c.fragment;
    payload-of = rw (header, total) (ap (drop (length g)) (take_all (length g + length payload) (g ++ payload) (omega (arith, sized))) ∙ drop-append_seam g payload);
    bytes = λ i. B.bytes-at (g ++ payload) i (B.bytes-append g payload c.bytes bs);
  }
