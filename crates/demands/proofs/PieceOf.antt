-- What the call for the number reads of a piece, against what is said of it over bytes: its key, offset, more-fragments and payload. Assumes
-- nothing.
use Prim.Native.Nat.{ℕ, ◌+◌, ◌*◌, ◌/◌, ◌%◌, ◌<◌}
use mathlib.Core.Path.{◌≡◌, refl, sym, ap, ◌∙◌}
use mathlib.Core.Logic.{⊎_elim, inl, inr}
use mathlib.Core.Bool.{Bool, true, false, true≢false}
use mathlib.Core.List.Memᴰ
use mathlib.Core.List.{List, [], ◌∷◌, ◌++◌, map, Memᴰ}
use native.Mathlib.Omega.{arith}
use borrow.Author.Tests.{eq-eqb, leb-true, leb-false, le-leb}
use lib.Dec.{leb}
use lib.ListN.{get_or, length}
use Rattle.lists.specs.Any.{Some}
use Rattle.lists.proofs.Tests.{tested}
use Rattle.header.specs.Fields.{word_at, quad_at}
use Rattle.pieces.specs.Places.{Part, is_same}
use Rattle.pieces.specs.declared.Key.{Key}
use Rattle.pieces.proofs.Joining as pieces
use Rattle.pieces.proofs.Keys.{same_key}
use Rattle.receiving.specs.Facts.{encapsulated}
use Rattle.demands.specs.Collecting.{key_of, part_in}
use Rattle.demands.specs.Cuttings.{SameKey, HeaderRight, beginning, RunOn, payloads, Repeats}

-- ---- keys

pub own_key : (a : List ℕ) → SameKey a a
own_key a = record { source = refl; destination = refl; protocol = refl; identification = refl }

pub key_trans : {a b c : List ℕ} → SameKey a b → SameKey b c → SameKey a c
key_trans p q = record {
  source = p.source ∙ q.source;
  destination = p.destination ∙ q.destination;
  protocol = p.protocol ∙ q.protocol;
  identification = p.identification ∙ q.identification;
}

pub key_back : {a b : List ℕ} → SameKey a b → SameKey b a
key_back p = record {
  source = sym p.source;
  destination = sym p.destination;
  protocol = sym p.protocol;
  identification = sym p.identification;
}

pub is_same_lem : {e d : List ℕ} → SameKey e d → is_same (key_of d) (key_of e) ≡ true
unfolding is_same
is_same_lem {e} {d} k =
    rw (eq-eqb (quad_at d 12) (quad_at e 12) (sym k.source), eq-eqb (quad_at d 16) (quad_at e 16) (sym k.destination), eq-eqb (get_or d 9 0) (get_or e 9 0) (sym k.protocol), eq-eqb (word_at d 4) (word_at e 4) (sym k.identification))

pub same-is : (e d : List ℕ) → is_same (key_of d) (key_of e) ≡ true → SameKey e d
same-is e d h =
    let k : key_of d ≡ key_of e = same_key (key_of d) (key_of e) h in
    record {
      source = sym (ap (λ (x : Key). x.source) k);
      destination = sym (ap (λ (x : Key). x.destination) k);
      protocol = sym (ap (λ (x : Key). x.protocol) k);
      identification = sym (ap (λ (x : Key). x.identification) k);
    }

-- ---- pieces

-- a repeated piece is read as the piece
pub same_parts : {e p : List ℕ} → Repeats e p → part_in e ≡ part_in p
same_parts {e} {p} r = rw (r.fragment, r.payload)

more-word : (v : ℕ) → leb 0x2000 (v % 0x4000) ≡ true → v / 0x2000 % 2 ≡ 1
more-word v h = let l = leb-true 0x2000 (v % 0x4000) h in omega arith

word_more : (v : ℕ) → v / 0x2000 % 2 ≡ 1 → leb 0x2000 (v % 0x4000) ≡ true
word_more v h = le-leb 0x2000 (v % 0x4000) (omega arith)

word-last : (v : ℕ) → (v / 0x2000 % 2 ≡ 1 → ⊥) → leb 0x2000 (v % 0x4000) ≡ false
word-last v h = ⊎_elim (λ t. absurd (h (more-word v t))) (λ t. t) (tested (leb 0x2000 (v % 0x4000)))

-- what is read as the piece has its flags and offset
words_same : (v w : ℕ) → v < 0x4000 → w < 0x4000 → v % 0x2000 ≡ w % 0x2000 → leb 0x2000 v ≡ leb 0x2000 w → v ≡ w
words_same v w hv hw e f = go (leb 0x2000 v) refl (leb 0x2000 w) refl f
  where
    go : (a : Bool) → leb 0x2000 v ≡ a → (b : Bool) → leb 0x2000 w ≡ b → a ≡ b → v ≡ w
    go true p true q z = let x = leb-true 0x2000 v p in let y = leb-true 0x2000 w q in omega arith
    go true p false q z = absurd (true≢false z)
    go false p true q z = absurd (true≢false (sym z))
    go false p false q z = let x = leb-false 0x2000 v p in let y = leb-false 0x2000 w q in omega arith

pub parts_same : (e p : List ℕ) → HeaderRight e → SameKey e p → part_in e ≡ part_in p → Repeats e p
parts_same e p right key h = record {
  right = right;
  key = key;
  fragment =
      words_same (word_at e 6 % 0x4000) (word_at p 6 % 0x4000) (omega arith) (omega arith) (ap (λ (x : Part). x.offset) h) (ap (λ (x : Part). x.more) h);
  payload = ap (λ (x : Part). x.payload) h;
}

-- ---- cuttings

pub begins : (p : List ℕ) → 8 * (part_in p).offset ≡ beginning p
begins p = omega arith

pub runs_on : (at : ℕ) (ps : List (List ℕ)) → RunOn at ps → pieces.RunsOn at (map part_in ps)
runs_on at [] r = r
runs_on at (p ∷ []) r = (begins p ∙ r.0, word-last (word_at p 6) r.1)
runs_on at (p ∷ q ∷ ps) r = (begins p ∙ r.0, word_more (word_at p 6) r.1, runs_on (at + length (encapsulated p)) (q ∷ ps) r.2)

pub same-payloads : (ps : List (List ℕ)) → pieces.payloads (map part_in ps) ≡ payloads ps
same-payloads [] = refl
same-payloads (p ∷ ps) = ap (λ (r : List ℕ). encapsulated p ++ r) (same-payloads ps)

pub in_parts : (p : List ℕ) (ps : List (List ℕ)) → Memᴰ p ps → pieces.In (part_in p) (map part_in ps)
in_parts p [] i = absurd (Memᴰ.not-nil i)
in_parts p (q ∷ ps) i = ⊎_elim (λ (e : p ≡ q). inl (ap part_in e)) (λ j. inr (in_parts p ps j)) (Memᴰ.cases_cons i)

pub parts_in : (x : Part) (ps : List (List ℕ)) → pieces.In x (map part_in ps) → Some (λ (p : List ℕ). x ≡ part_in p) ps
parts_in x [] i = absurd i
parts_in x (q ∷ ps) i = ⊎_elim (λ e. (q, Memᴰ.head refl, e)) (λ j. let t = parts_in x ps j in (t.0, Memᴰ.tail t.1, t.2)) i
