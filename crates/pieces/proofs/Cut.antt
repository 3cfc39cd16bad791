-- A cutting: its pieces lie apart, and one behind another they are the whole. Assumes nothing.
use Prim.Native.Nat.{ℕ, ◌+◌, ◌*◌, ◌≤◌, ◌<◌}
use mathlib.Core.Path.{◌≡◌, refl, sym, ap, ◌∙◌}
use mathlib.Core.Logic.{◌⊎◌, ⊎_elim, inl, inr}
use mathlib.Core.Bool.{Bool, true, false, ◌&&◌, true≢false, and-true, and-false}
use mathlib.Core.List.{List, [], ◌∷◌, ◌++◌, append-nil}
use native.Mathlib.Omega.{arith}
use borrow.Author.Tests.{eqb-false, ltb-false}
use lib.Dec.{eqb, ltb}
use lib.ListN.{length, length-append}
use Rattle.lists.specs.Any.{any_of}
use Rattle.lists.specs.Parts.{part}
use Rattle.lists.proofs.Tests.{tested, or_three}
use Rattle.lists.proofs.Parts.{part-add}
use Rattle.lists.proofs.AnyLaws.{all_append}
use Rattle.units.specs.Held.{marks_in, all_held}
use Rattle.units.specs.declared.Held.{Held}
use Rattle.pieces.specs.Places.{Part, unfit, room, units_of, end_of, count_of, is_unfit}
use Rattle.pieces.proofs.Joining.{payloads, RunsOn, In}

-- a piece of a cutting has come: where all fit, a cutting has one of each offset
abbrev pub has_come : List Part → Part → Bool
has_come come p = any_of (λ q. eqb q.offset p.offset) come

abbrev pub have_come : List Part → List Part → Bool
have_come come [] = true
have_come come (p ∷ ps) = has_come come p && have_come come ps

-- a cutting of a payload, none of whose pieces 30 refuses
pub record Fitted (ps : List Part) (payload : List ℕ) : Type 0 where
  pub runs : RunsOn 0 ps
  pub whole : payloads ps ≡ payload
  pub fits : (p : Part) → In p ps → is_unfit p ≡ false

-- what 30 lets through
pub record Fit (p : Part) : Type 0 where
  pub some : 0 < length p.payload
  pub inside : end_of p ≤ room

pub fit : (p : Part) → is_unfit p ≡ false → Fit p
unfolding unfit
fit p h =
    let t = or_three (eqb (length p.payload) 0) (ltb room (end_of p)) _ h in
    record { some = omega (arith, eqb-false (length p.payload) 0 t.0); inside = omega (arith, ltb-false room (end_of p) t.1) }

abbrev pub AllFit : List Part → Type 0
AllFit ps = (p : Part) → In p ps → Fit p

-- where a piece of a cutting lies
pub record Lies (at total : ℕ) (p : Part) : Type 0 where
  pub from : at ≤ 8 * p.offset
  pub to : end_of p ≤ total
  pub inner : p.more ≡ true → end_of p < total
  pub last : p.more ≡ false → end_of p ≡ total

-- something is left for the pieces behind one
left : (at : ℕ) (ps : List Part) → RunsOn at ps → AllFit ps → 0 < length (payloads ps)
left at [] r f = absurd r
left at (p ∷ ps) r f = omega (arith, length-append p.payload (payloads ps), (f p (inl refl)).some)

pub lies : (at : ℕ) (ps : List Part) → RunsOn at ps → AllFit ps → (p : Part) → In p ps → Lies at (at + length (payloads ps)) p
lies at [] r f p i = absurd i
lies at (q ∷ []) r f p i =
    ⊎_elim (λ (e : p ≡ q). rw e (record {
      from = omega arith;
      to = omega (arith, length-append q.payload []);
      inner = λ m. absurd (true≢false (sym m ∙ r.1));
      last = λ m. omega (arith, length-append q.payload []);
    })) (λ n. absurd n) i
lies at (q ∷ q₂ ∷ ps) r f p i =
    let g : AllFit (q₂ ∷ ps) = λ p j. f p (inr j) in
    let more = left (at + length q.payload) (q₂ ∷ ps) r.2 g in
    let total = length-append q.payload (payloads (q₂ ∷ ps)) in
    ⊎_elim (λ (e : p ≡ q). rw e (record {
      from = omega arith;
      to = omega arith;
      inner = λ m. omega arith;
      last = λ m. absurd (true≢false (sym r.1 ∙ m));
    })) (λ j. let l = lies (at + length q.payload) (q₂ ∷ ps) r.2 g p j in record {
      from = omega arith;
      to = omega arith;
      inner = λ m. omega (arith, l.inner m);
      last = λ m. omega (arith, l.last m);
    }) i

-- two pieces of a cutting are the same, or one ends before the other begins
pub apart : (at : ℕ) (ps : List Part) → RunsOn at ps → AllFit ps → (p q : Part) → In p ps → In q ps
    → (p ≡ q) ⊎ ((end_of p ≤ 8 * q.offset) ⊎ (end_of q ≤ 8 * p.offset))
apart at [] r f p q i j = absurd i
apart at (c ∷ []) r f p q i j = ⊎_elim (λ e. ⊎_elim (λ g. inl (e ∙ sym g)) (λ n. absurd n) j) (λ n. absurd n) i
apart at (c ∷ d ∷ ps) r f p q i j =
    let g : AllFit (d ∷ ps) = λ p m. f p (inr m) in
    let behind : (b : Part) → In b (d ∷ ps) → end_of c ≤ 8 * b.offset = λ b m. omega (arith, (lies (at + length c.payload) (d ∷ ps) r.2 g b m).from) in
    ⊎_elim
    (λ (e : p ≡ c). ⊎_elim (λ (k : q ≡ c). inl (e ∙ sym k)) (λ m. inr (inl (rw e (behind q m)))) j)
    (λ m. ⊎_elim (λ (k : q ≡ c). inr (inr (rw k (behind p m)))) (λ n. apart (at + length c.payload) (d ∷ ps) r.2 g p q m n) j) i

-- the last piece
pub final : (at : ℕ) (ps : List Part) → RunsOn at ps → (p : Part) × In p ps × (p.more ≡ false)
final at [] r = absurd r
final at (p ∷ []) r = (p, inl refl, r.1)
final at (p ∷ q ∷ ps) r = let l = final (at + length p.payload) (q ∷ ps) r.2 in (l.0, inr l.1, l.2)

module _ (h : Held) (come : List Part) where
  -- the units of each piece are held if it has come: so are those of the whole if all have
  pub all_held_lem : (u : ℕ) (ps : List Part) → RunsOn (8 * u) ps → ((p : Part) → In p ps → all_held h p.offset (count_of p) ≡ has_come come p)
      → all_held h u (units_of (length (payloads ps))) ≡ have_come come ps
  unfolding all_held
  all_held_lem u [] r g = absurd r
  all_held_lem u (p ∷ []) r g =
      let o : p.offset ≡ u = omega arith in
      rw (append-nil p.payload, ← o) (g p (inl refl) ∙ sym (and-true (has_come come p)))
  all_held_lem u (p ∷ q ∷ ps) r g =
      let n : ℕ = length p.payload in
      let v : ℕ = count_of p in
      let o : p.offset ≡ u = omega arith in
      let at : 8 * u + n ≡ 8 * (u + v) = next u ps (8 * u + n) r.2 refl in
      let rest : ℕ = length (payloads (q ∷ ps)) in
      let count : units_of (length (payloads (p ∷ q ∷ ps))) ≡ v + units_of rest = omega (arith, length-append p.payload (payloads (q ∷ ps))) in
      let held : Bool → Bool = λ (m : Bool). m in
      let here : all_held h u v ≡ has_come come p = rw (← o) (g p (inl refl)) in
      rw (
        count,
        part-add u v (units_of rest) (marks_in h),
        all_append held (part u v (marks_in h)) (part (u + v) (units_of rest) (marks_in h)),
        all_held_lem (u + v) (q ∷ ps) (rw at at r.2) (λ c i. g c (inr i)),
      ) (ap (λ (b : Bool). b && have_come come (q ∷ ps)) here)
    where
      next : (u : ℕ) (ps : List Part) (b : ℕ) → RunsOn b (q ∷ ps) → b ≡ 8 * u + length p.payload → 8 * u + length p.payload ≡ 8 * (u + count_of p)
      next u [] b r e = omega arith
      next u (d ∷ ps) b r e = omega arith

-- the bytes of each piece stand where they belong: so do those of the whole
pub all_stand : (b : ℕ) (memory : List ℕ) (at : ℕ) (ps : List Part) → RunsOn at ps
    → ((p : Part) → In p ps → part (b + 8 * p.offset) (length p.payload) memory ≡ p.payload) → part (b + at) (length (payloads ps)) memory ≡ payloads ps
all_stand b memory at [] r h = absurd r
all_stand b memory at (p ∷ []) r h = rw (append-nil p.payload, ← r.0) (h p (inl refl))
all_stand b memory at (p ∷ q ∷ ps) r h =
    let n : ℕ = length p.payload in
    let place : b + at + n ≡ b + (at + n) = omega arith in
    let here : part (b + at) n memory ≡ p.payload = rw (← r.0) (h p (inl refl)) in
    rw (
      length-append p.payload (payloads (q ∷ ps)),
      part-add (b + at) n (length (payloads (q ∷ ps))) memory,
      place,
      all_stand b memory (at + n) (q ∷ ps) r.2 (λ c i. h c (inr i)),
    ) (ap (λ (l : List ℕ). l ++ payloads (q ∷ ps)) here)

-- one is missing
pub one-missing : (come ps : List Part) (p : Part) → In p ps → has_come come p ≡ false → have_come come ps ≡ false
one-missing come [] p i h = absurd i
one-missing come (q ∷ ps) p i h =
    ⊎_elim (λ (e : p ≡ q). let z : has_come come q ≡ false = rw e at h in rw z)
    (λ j. rw (one-missing come ps p j h) (and-false (has_come come q))) i

-- none is missing
pub each_come : (come ps : List Part) → have_come come ps ≡ true → (p : Part) → In p ps → has_come come p ≡ true
each_come come ps h p i = ⊎_elim (λ e. e) (λ e. absurd (true≢false (sym h ∙ one-missing come ps p i e))) (tested (has_come come p))
