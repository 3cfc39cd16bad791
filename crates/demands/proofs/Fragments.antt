-- RFC 791's own procedure is a cutting, of a whole datagram and of any piece of one. Assumes nothing.
use Prim.Native.Nat.{ℕ, zero, suc, ◌+◌, ◌-◌, ◌*◌, ◌/◌, ◌%◌, ◌≤◌, ◌<◌}
use mathlib.Core.Path.{◌≡◌, refl, sym, ap, subst, ◌∙◌}
use mathlib.Core.Logic.{◌⊎◌, ⊎_elim, inl, inr}
use mathlib.Core.Bool.{Bool, true, false, cond}
use mathlib.Core.List.{List, [], ◌∷◌, ◌++◌, Memᴰ, append_assoc, append-nil}
use native.Mathlib.Omega.{arith}
use borrow.Author.Tests.{leb-true, leb-false}
use lib.Dec.{eqb, leb}
use lib.ListN.{get_or, length, take, drop, length-drop, length-append, take-append-drop}
use lib.Seq.{get_or-take, length-take-le}
use Rattle.checksum.proofs.Bytes as B
use Rattle.header.specs.Fields.{word_at, quad_at}
use Rattle.receiving.specs.Facts.{header_length, total_length, encapsulated, Unfragmented}
use Rattle.demands.specs.Cuttings.{SameKey, HeaderRight, beginning, MoreFragments, RunOn, payloads}
use Rattle.demands.specs.Fragments.{corrected, fragment_word, blocks, first_fragment, second_fragment, fragments_of, Bytes, Header, Selects, Fragments}
use Rattle.demands.proofs.Corrected.{Fragment, joins}
use Rattle.demands.proofs.PieceOf.{own_key, key_trans}

-- what holds of the first and of each of the others holds of each
each_of : (P : List ℕ → Type 0) (p : List ℕ) (ps : List (List ℕ)) → P p → ((f : List ℕ) → Memᴰ f ps → P f) → (f : List ℕ) → Memᴰ f (p ∷ ps) → P f
each_of P p ps h hs f i = ⊎_elim (λ (e : f ≡ p). subst P (sym e) h) (λ j. hs f j) (mathlib.Core.List.Memᴰ.cases_cons i)

total-small : (d : List ℕ) → Bytes d → total_length d < 65536
unfolding word_at
total-small d bytes = omega (arith, bytes 2, bytes 3)

-- more-fragments, as a number
abbrev more_of : ℕ → ℕ
more_of w = w / 0x2000 % 2

-- pieces that begin one behind another, the last with that more-fragments
abbrev RunAs : ℕ → ℕ → List (List ℕ) → Type 0
RunAs at m [] = ⊥
RunAs at m (p ∷ []) = (beginning p ≡ at) × (more_of (word_at p 6) ≡ m)
RunAs at m (p ∷ q ∷ ps) = (beginning p ≡ at) × MoreFragments p × RunAs (at + length (encapsulated p)) m (q ∷ ps)

run-cons : (at m : ℕ) (p : List ℕ) (ps : List (List ℕ)) → beginning p ≡ at → MoreFragments p → RunAs (at + length (encapsulated p)) m ps → RunAs at m (p ∷ ps)
run-cons at m p [] b f r = absurd r
run-cons at m p (q ∷ ps) b f r = (b, f, r)

moved_run : (ps : List (List ℕ)) {at to m n : ℕ} → at ≡ to → m ≡ n → RunAs at m ps → RunAs to n ps
moved_run ps {at} {to} {m} {n} e f r = subst (λ (l : ℕ). RunAs l n ps) e (subst (λ (l : ℕ). RunAs at l ps) f r)

-- what the procedure makes of a datagram p
record Made (p : List ℕ) (mtu : ℕ) (fs : List (List ℕ)) : Type 0 where
  runs : RunAs (beginning p) (more_of (word_at p 6)) fs
  payload : payloads fs ≡ encapsulated p
  each : (f : List ℕ) → Memᴰ f fs → HeaderRight f × SameKey f p
  pieces : (f : List ℕ) → Memᴰ f fs → (f ≡ p) ⊎ (Unfragmented f → ⊥)
  cuts : mtu < total_length p → (f : List ℕ) → Memᴰ f fs → Unfragmented f → ⊥

module _ (w : ℕ) (fits : w < 65536) where
  -- the word of flags and offset, read back
  word_fits : (more : Bool) (offset : ℕ) → offset < 0x2000 → fragment_word w more offset < 65536
  word_fits true offset h = omega arith
  word_fits false offset h = omega arith

  word-offset : (more : Bool) (offset : ℕ) → offset < 0x2000 → fragment_word w more offset % 0x2000 ≡ offset
  word-offset true offset h = omega arith
  word-offset false offset h = omega arith

  word_more : (more : Bool) (offset : ℕ) → offset < 0x2000 → more_of (fragment_word w more offset) ≡ cond more 1 0
  word_more true offset h = omega arith
  word_more false offset h = omega arith

low_bits : (v : ℕ) → v % 0x4000 ≡ 0 → 8 * (v % 0x2000) ≡ 0
low_bits v h = omega arith

more_bit : (b : ℕ) → b < 2 → cond (eqb b 1) 1 0 ≡ b
more_bit zero h = refl
more_bit (suc zero) h = refl
more_bit (suc (suc b)) h = absurd (omega arith)

module _ (select : List ℕ → List ℕ) (selects : Selects select) (mtu : ℕ) (least : 68 ≤ mtu) where
  module _ (p : List ℕ) (bytes : Bytes p) (right : HeaderRight p) (bound : beginning p + length (encapsulated p) ≤ 65535) where
    w_fits : word_at p 6 < 65536
    unfolding word_at
    w_fits = omega (arith, bytes 6, bytes 7)

    total-fits : total_length p < 65536
    total-fits = total-small p bytes

    few : header_length p ≤ 60
    few = omega arith

    data_length : length (encapsulated p) ≡ total_length p - header_length p
    data_length = rw (length-drop, length-take-le (total_length p) p right.whole.all)

    h_length : length (take (header_length p) p) ≡ header_length p
    h_length = length-take-le (header_length p) p right.whole.whole

    at : (i : ℕ) → i < 20 → get_or (take (header_length p) p) i 0 ≡ get_or p i 0
    at i l = get_or-take (header_length p) p i 0 (omega (arith, right.whole.words))

    header : Header (take (header_length p) p)
    header = record {
      bytes = λ i. B.bytes-at (take (header_length p) p) i (B.bytes_take (header_length p) p (B.bytes_of p bytes));
      some = omega (arith, h_length, right.whole.words);
      words = ap (λ (b : ℕ). b % 16 * 4) (at 0 (omega arith)) ∙ sym h_length;
      version = rw (at 0 (omega arith)) right.whole.version;
    }

    header_key : SameKey (take (header_length p) p) p
    unfolding word_at quad_at
    header_key = record {
      source = rw (at 12 (omega arith), at 13 (omega arith), at 14 (omega arith), at 15 (omega arith));
      destination = rw (at 16 (omega arith), at 17 (omega arith), at 18 (omega arith), at 19 (omega arith));
      protocol = at 9 (omega arith);
      identification = rw (at 4 (omega arith), at 5 (omega arith));
    }

    -- nothing is cut
    goes : (k : ℕ) → total_length p ≤ mtu → Made p mtu (p ∷ [])
    goes k l = record {
      runs = (refl, refl);
      payload = append-nil (encapsulated p);
      each = λ f i. each_of (λ g. HeaderRight g × SameKey g p) p [] (right, own_key p) (λ g j. absurd (mathlib.Core.List.Memᴰ.not-nil j)) f i;
      pieces = each_of (λ g. (g ≡ p) ⊎ (Unfragmented g → ⊥)) p [] (inl refl) (λ g j. absurd (mathlib.Core.List.Memᴰ.not-nil j));
      cuts = λ m. absurd (omega arith);
    }

    -- the first fragment and the second
    module _ (longer : mtu < total_length p) where
      some : 1 ≤ blocks mtu p
      some = omega (arith, few)

      within : 8 * blocks mtu p < length (encapsulated p)
      within = omega (arith, data_length, right.whole.words, right.whole.inside)

      offset-fits : word_at p 6 % 0x2000 + blocks mtu p < 0x2000
      offset-fits = omega (arith, within, bound)

      data_bytes : B.Bytes (encapsulated p)
      data_bytes = B.bytes_drop (header_length p) (take (total_length p) p) (B.bytes_take (total_length p) p (B.bytes_of p bytes))

      front_length : length (take (8 * blocks mtu p) (encapsulated p)) ≡ 8 * blocks mtu p
      front_length = length-take-le (8 * blocks mtu p) (encapsulated p) (omega (arith, within))

      back-length : length (drop (8 * blocks mtu p) (encapsulated p)) ≡ length (encapsulated p) - 8 * blocks mtu p
      back-length = length-drop (8 * blocks mtu p) (encapsulated p)

      first : Fragment (take (header_length p) p) (fragment_word (word_at p 6) true (word_at p 6 % 0x2000)) (take (8 * blocks mtu p) (encapsulated p)) (first_fragment mtu p)
      first =
          let total : length (take (header_length p) p) + length (take (8 * blocks mtu p) (encapsulated p)) ≡ header_length p + 8 * blocks mtu p = omega (arith, h_length, front_length) in
          subst (λ (t : ℕ). Fragment (take (header_length p) p) (fragment_word (word_at p 6) true (word_at p 6 % 0x2000)) (take (8 * blocks mtu p) (encapsulated p))
          (corrected (take (header_length p) p) t (fragment_word (word_at p 6) true (word_at p 6 % 0x2000)) ++ take (8 * blocks mtu p) (encapsulated p))) total
          (joins (take (header_length p) p) header (take (8 * blocks mtu p) (encapsulated p)) (B.bytes_take (8 * blocks mtu p) (encapsulated p) data_bytes) (fragment_word (word_at p 6) true (word_at p 6 % 0x2000))
          (omega (arith, total, within, data_length, right.whole.inside, total-fits)) (word_fits (word_at p 6) w_fits true (word_at p 6 % 0x2000) (omega arith)))

      abbrev last_word : ℕ
      last_word = fragment_word (word_at p 6) (eqb (word_at p 6 / 0x2000 % 2) 1) (word_at p 6 % 0x2000 + blocks mtu p)

      second : Fragment (select (take (header_length p) p)) last_word (drop (8 * blocks mtu p) (encapsulated p)) (second_fragment select mtu p)
      second =
          let s = selects (take (header_length p) p) header in
          joins (select (take (header_length p) p)) s.0 (drop (8 * blocks mtu p) (encapsulated p)) (B.bytes_drop (8 * blocks mtu p) (encapsulated p) data_bytes) last_word
          (omega (arith, s.2, h_length, back-length, data_length, right.whole.inside, total-fits)) (word_fits (word_at p 6) w_fits (eqb (word_at p 6 / 0x2000 % 2) 1) (word_at p 6 % 0x2000 + blocks mtu p) offset-fits)

      first-begins : beginning (first_fragment mtu p) ≡ beginning p
      first-begins = rw first.fragment (ap (λ (o : ℕ). 8 * o) (word-offset (word_at p 6) w_fits true (word_at p 6 % 0x2000) (omega arith)))

      first_more : MoreFragments (first_fragment mtu p)
      first_more = rw first.fragment (word_more (word_at p 6) w_fits true (word_at p 6 % 0x2000) (omega arith))

      second-begins : beginning (second_fragment select mtu p) ≡ beginning p + 8 * blocks mtu p
      second-begins = rw second.fragment (ap (λ (o : ℕ). 8 * o) (word-offset (word_at p 6) w_fits (eqb (word_at p 6 / 0x2000 % 2) 1) (word_at p 6 % 0x2000 + blocks mtu p) offset-fits) ∙ omega arith)

      second_more : more_of (word_at (second_fragment select mtu p) 6) ≡ more_of (word_at p 6)
      second_more = rw second.fragment (word_more (word_at p 6) w_fits (eqb (word_at p 6 / 0x2000 % 2) 1) (word_at p 6 % 0x2000 + blocks mtu p) offset-fits ∙ more_bit (word_at p 6 / 0x2000 % 2) (omega arith))

      first_piece_lem : Unfragmented (first_fragment mtu p) → ⊥
      first_piece_lem u = omega (arith, first_more, u)

      second-piece : Unfragmented (second_fragment select mtu p) → ⊥
      second-piece u = omega (arith, second-begins, some, low_bits (word_at (second_fragment select mtu p) 6) u)

      -- the second is tried again: it ends where p does, and is shorter
      again : (beginning (second_fragment select mtu p) + length (encapsulated (second_fragment select mtu p)) ≤ 65535)
          × (length (encapsulated (second_fragment select mtu p)) < length (encapsulated p))
      again =
          let e : length (encapsulated (second_fragment select mtu p)) ≡ length (encapsulated p) - 8 * blocks mtu p = ap length second.payload-of ∙ back-length in
          (omega (arith, e, second-begins, within, bound), omega (arith, e, within, some))

      -- each is a piece
      all-pieces : (fs : List (List ℕ)) → Made (second_fragment select mtu p) mtu fs → (f : List ℕ) → Memᴰ f (first_fragment mtu p ∷ fs) → Unfragmented f → ⊥
      all-pieces fs m = each_of (λ g. Unfragmented g → ⊥) (first_fragment mtu p) fs first_piece_lem
          (λ f i. ⊎_elim (λ (e : f ≡ second_fragment select mtu p). subst (λ (g : List ℕ). Unfragmented g → ⊥) (sym e) second-piece) (λ u. u) (m.pieces f i))

      cut : (fs : List (List ℕ)) → Made (second_fragment select mtu p) mtu fs → Made p mtu (first_fragment mtu p ∷ fs)
      cut fs m = record {
        runs = run-cons (beginning p) (more_of (word_at p 6)) (first_fragment mtu p) fs first-begins first_more
            (moved_run fs (second-begins ∙ ap (λ (l : ℕ). beginning p + l) (sym (ap length first.payload-of ∙ front_length))) second_more m.runs);
        payload = rw (first.payload-of, m.payload, second.payload-of) (take-append-drop (8 * blocks mtu p) (encapsulated p));
        each = each_of (λ g. HeaderRight g × SameKey g p) (first_fragment mtu p) fs (first.right, key_trans first.key header_key)
            (λ f i. ((m.each f i).0, key_trans (m.each f i).1 (key_trans second.key (key_trans (selects (take (header_length p) p) header).1 header_key))));
        pieces = λ f i. inr (all-pieces fs m f i);
        cuts = λ l. all-pieces fs m;
      }

  -- by whether the datagram passes
  by_length : (p : List ℕ) (bytes : Bytes p) (right : HeaderRight p) (bound : beginning p + length (encapsulated p) ≤ 65535) (k : ℕ) (b : Bool)
      → leb (total_length p) mtu ≡ b
      → (mtu < total_length p → Made (second_fragment select mtu p) mtu (fragments_of k select mtu (second_fragment select mtu p)))
      → Made p mtu (cond b (p ∷ []) (first_fragment mtu p ∷ fragments_of k select mtu (second_fragment select mtu p)))
  by_length p bytes right bound k true e m = goes p bytes right bound k (leb-true _ _ e)
  by_length p bytes right bound k false e m = cut p bytes right bound (leb-false _ _ e) _ (m (leb-false _ _ e))

  -- the procedure, of any datagram
  procedure : (k : ℕ) (p : List ℕ) → Bytes p → HeaderRight p → beginning p + length (encapsulated p) ≤ 65535 → length (encapsulated p) ≤ k
      → Made p mtu (fragments_of k select mtu p)
  procedure zero p bytes right bound l =
      goes p bytes right bound 0 (omega (arith, data_length p bytes right bound, few p bytes right bound, right.whole.inside))
  procedure (suc k) p bytes right bound l =
      by_length p bytes right bound k (leb (total_length p) mtu) refl
      (λ longer. procedure k (second_fragment select mtu p) (second p bytes right bound longer).bytes (second p bytes right bound longer).right
      (again p bytes right bound longer).0 (omega (arith, (again p bytes right bound longer).1)))

-- ---- of a whole datagram

run-whole : (at : ℕ) (ps : List (List ℕ)) → RunAs at 0 ps → RunOn at ps
run-whole at [] r = r
run-whole at (p ∷ []) r = (r.0, λ m. omega (arith, r.1, m))
run-whole at (p ∷ q ∷ ps) r = (r.0, r.1, run-whole (at + length (encapsulated p)) (q ∷ ps) r.2)

-- ---- of a piece of a cutting

run-behind : (at : ℕ) (fs : List (List ℕ)) (q : List ℕ) (ps : List (List ℕ)) → RunAs at 1 fs → RunOn (at + length (payloads fs)) (q ∷ ps) → RunOn at (fs ++ q ∷ ps)
run-behind at [] q ps r s = absurd r
run-behind at (f ∷ []) q ps r s = (r.0, r.1, subst (λ (j : ℕ). RunOn (at + j) (q ∷ ps)) (ap length (append-nil (encapsulated f))) s)
run-behind at (f ∷ g ∷ fs) q ps r s =
    let e : at + length (encapsulated f ++ payloads (g ∷ fs)) ≡ at + length (encapsulated f) + length (payloads (g ∷ fs)) = omega (arith, length-append (encapsulated f) (payloads (g ∷ fs))) in
    (r.0, r.1, run-behind (at + length (encapsulated f)) (g ∷ fs) q ps r.2 (subst (λ (j : ℕ). RunOn j (q ∷ ps)) e s))

payloads-append : (ps qs : List (List ℕ)) → payloads (ps ++ qs) ≡ payloads ps ++ payloads qs
payloads-append [] qs = refl
payloads-append (p ∷ ps) qs = rw (payloads-append ps qs) (sym (append_assoc (encapsulated p) (payloads ps) (payloads qs)))

-- the first of several, and the others
uncons : (at : ℕ) (x : List ℕ) (front : List (List ℕ)) (p : List ℕ) (back : List (List ℕ)) → RunOn at (x ∷ (front ++ p ∷ back))
    → (beginning x ≡ at) × MoreFragments x × RunOn (at + length (encapsulated x)) (front ++ p ∷ back)
uncons at x [] p back r = r
uncons at x (y ∷ front) p back r = r

cons-run : (at : ℕ) (x : List ℕ) (ps : List (List ℕ)) → beginning x ≡ at → MoreFragments x → RunOn (at + length (encapsulated x)) ps → RunOn at (x ∷ ps)
cons-run at x [] b m r = absurd r
cons-run at x (p ∷ ps) b m r = (b, m, r)

-- a piece ends within the payload
lies : (at : ℕ) (front : List (List ℕ)) (p : List ℕ) (back : List (List ℕ)) → RunOn at (front ++ p ∷ back)
    → beginning p + length (encapsulated p) ≤ at + length (payloads (front ++ p ∷ back))
lies at [] p [] r = omega (arith, r.0, length-append (encapsulated p) [])
lies at [] p (q ∷ back) r = omega (arith, r.0, length-append (encapsulated p) (payloads (q ∷ back)))
lies at (x ∷ front) p back r =
    omega (arith, lies (at + length (encapsulated x)) front p back (uncons at x front p back r).2, length-append (encapsulated x) (payloads (front ++ p ∷ back)))

module _ (p : List ℕ) (mtu : ℕ) (fs : List (List ℕ)) (m : Made p mtu fs) where
  -- what is made of a piece stands in its place
  runs_again : (at : ℕ) (front back : List (List ℕ)) → RunOn at (front ++ p ∷ back) → RunOn at (front ++ (fs ++ back))
  runs_again at [] [] r =
      rw (append-nil fs) (run-whole at fs (moved_run fs r.0 (clear (more_of (word_at p 6)) (omega arith) r.1) m.runs))
    where
      clear : (b : ℕ) → b < 2 → (b ≡ 1 → ⊥) → b ≡ 0
      clear zero l n = refl
      clear (suc zero) l n = absurd (n refl)
      clear (suc (suc b)) l n = absurd (omega arith)
  runs_again at [] (q ∷ back) r =
      run-behind at fs q back (moved_run fs r.0 r.1 m.runs) (subst (λ (l : List ℕ). RunOn (at + length l) (q ∷ back)) (sym m.payload) r.2)
  runs_again at (x ∷ front) back r =
      let u = uncons at x front p back r in
      cons-run at x (front ++ (fs ++ back)) u.0 u.1 (runs_again (at + length (encapsulated x)) front back u.2)

  payload_again : (front back : List (List ℕ)) → payloads (front ++ (fs ++ back)) ≡ payloads (front ++ p ∷ back)
  payload_again front back = rw (payloads-append front (fs ++ back), payloads-append fs back, m.payload, payloads-append front (p ∷ back))

  -- each is one of those before, or one of those made
  each_again : (P : List ℕ → Type 0) (front back : List (List ℕ)) → ((f : List ℕ) → Memᴰ f (front ++ p ∷ back) → P f) → ((f : List ℕ) → Memᴰ f fs → P f)
      → (f : List ℕ) → Memᴰ f (front ++ (fs ++ back)) → P f
  each_again P front back h g f i =
      ⊎_elim (λ j. h f (mathlib.Core.List.Memᴰ.append_left (p ∷ back) j))
      (λ j. ⊎_elim (λ l. g f l) (λ l. h f (mathlib.Core.List.Memᴰ.append_right front (mathlib.Core.List.Memᴰ.tail l))) (mathlib.Core.List.Memᴰ.append_cases fs j)) (mathlib.Core.List.Memᴰ.append_cases front i)

data_bound : (d : List ℕ) → Bytes d → HeaderRight d → beginning d ≡ 0 → beginning d + length (encapsulated d) ≤ 65535
data_bound d bytes right e =
    omega (arith, e, length-drop (header_length d) (take (total_length d) d), length-take-le (total_length d) d right.whole.all, total-small d bytes)

-- RFC 791's own procedure is a cutting
pub fragments : Fragments
fragments = record {
  cuts = λ select selects mtu least d bytes right whole longer k l.
      let start : beginning d ≡ 0 = low_bits (word_at d 6) whole in
      let m = procedure select selects mtu least k d bytes right (data_bound d bytes right start) l in
      record {
        right = right;
        whole = whole;
        pieces = λ p i. ((m.each p i).0, m.cuts longer p i, (m.each p i).1);
        runs = run-whole 0 (fragments_of k select mtu d) (moved_run (fragments_of k select mtu d) start (more_clear (word_at d 6) whole) m.runs);
        payload = m.payload;
      };
  cuts_again = λ select selects mtu least d front p back cutting whole-bytes bytes k l.
      let own : Memᴰ p (front ++ p ∷ back) = mathlib.Core.List.Memᴰ.append_right front (mathlib.Core.List.Memᴰ.head refl) in
      let is = cutting.pieces p own in
      let size = ap length cutting.payload in
      let bound : beginning p + length (encapsulated p) ≤ 65535 =
      omega (arith, lies 0 front p back cutting.runs, size, data_bound d whole-bytes cutting.right (low_bits (word_at d 6) cutting.whole)) in
      let m = procedure select selects mtu least k p bytes is.0 bound l in
      record {
        right = cutting.right;
        whole = cutting.whole;
        pieces = each_again p mtu (fragments_of k select mtu p) m (λ f. HeaderRight f × (Unfragmented f → ⊥) × SameKey f d) front back cutting.pieces
            (λ f i. ((m.each f i).0, ⊎_elim (λ (e : f ≡ p). subst (λ (g : List ℕ). Unfragmented g → ⊥) (sym e) is.1) (λ u. u) (m.pieces f i), key_trans (m.each f i).1 is.2));
        runs = runs_again p mtu (fragments_of k select mtu p) m 0 front back cutting.runs;
        payload = payload_again p mtu (fragments_of k select mtu p) m front back ∙ cutting.payload;
      };
}
  where
    more_clear : (v : ℕ) → v % 0x4000 ≡ 0 → more_of v ≡ 0
    more_clear v h = omega arith
