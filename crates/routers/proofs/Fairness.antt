-- A due router is served within as many answered askings as there are routers. Those ahead of it, due earlier, or at the same time and at a
-- lower place, are fewer than the routers; an asking that does not serve it serves one of those, which is then due after it; nothing else
-- puts a router ahead of it.
-- Assumes nothing.
use mathlib.Core.Path.{◌≡◌, refl, sym, ap, ◌∙◌}
use mathlib.Core.Logic.{inl, inr}
use mathlib.Core.List.{List, [], ◌∷◌, ◌++◌, map-append, Memᴰ}
use mathlib.Core.Bool.{Bool, true, false, cond}
use Prim.Native.Nat.{ℕ, zero, suc, ◌+◌, ◌<◌, ◌≤◌, max}
use native.Mathlib.Nat.{le_of_suc-le-suc, not-suc-le-zero}
use native.Mathlib.Decide.{ℕ_discrete}
use native.Mathlib.Omega.{arith}
use lib.ListN.{length, take, length-append}
use lib.Dec.{leb, ltb, eqb}
use borrow.Author.Tests.{eq-eqb, ne_eqb, lt-ltb, le-ltb, le-leb, lt-leb}
use Rattle.routers.specs.declared.Router.{Router}
use Rattle.routers.specs.Routers.{due_if, rescheduled}
use Rattle.routers.proofs.FairCalls.{RouterCall, asked, heard, other, served, Unheard, Fair}
use Rattle.routers.proofs.Earliest.{Ahead, next_ahead}

one : Bool → ℕ
one true = 1
one false = 0

-- how many of the routers have a due time of that kind
count : (ℕ → Bool) → List Router → ℕ
count q [] = 0
count q (r ∷ rs) = one (q r.due) + count q rs

count_most : (q : ℕ → Bool) (rs : List Router) → count q rs ≤ length rs
unfolding count one
count_most q [] = omega arith
count_most q (r ∷ rs) = omega (arith, one-most (q r.due), count_most q rs)
  where
    one-most : (b : Bool) → one b ≤ 1
    one-most true = omega arith
    one-most false = omega arith

-- a due time that is not of the kind makes none of it
module _ (q : ℕ → Bool) (a d : ℕ) (out : q d ≡ false) where
  not_made : (r : Router) → one (q (due_if a d r).due) ≤ one (q r.due)
  unfolding one due_if
  not_made r = go (eqb r.address a)
    where
      go : (t : Bool) → one (q (cond t d r.due)) ≤ one (q r.due)
      go true = rw out (omega arith)
      go false = omega arith

  no_more : (rs : List Router) → count q (rescheduled a d rs) ≤ count q rs
  unfolding count
  no_more [] = omega arith
  no_more (r ∷ rs) = omega (arith, not_made r, no_more rs)

  -- a new due time takes one away from the count if a router of the address was of the kind
  one_fewer : (e : Router) {rs : List Router} → e.address ≡ a → q e.due ≡ true → Memᴰ e rs → count q (rescheduled a d rs) < count q rs
  unfolding count one due_if
  one_fewer e is was (Memᴰ.head {x} {xs} h) =
      let here : x.address ≡ a = rw h at is in
      let before : q x.due ≡ true = rw h at was in
      rw (eq-eqb _ _ here, out, before) (omega (arith, no_more xs))
  one_fewer e is was (Memᴰ.tail {x} {xs} m) = omega (arith, not_made x, one_fewer e is was m)

-- how many are ahead of t, which stands between front and back
abbrev no_later : Router → ℕ → Bool
no_later t x = leb x t.due

abbrev sooner : Router → ℕ → Bool
sooner t x = ltb x t.due

waits : Router → List Router → List Router → ℕ
waits t front back = count (no_later t) front + count (sooner t) back

module _ (t : Router) (front back : List Router) where
  waits_most : waits t front back < length (front ++ t ∷ back)
  unfolding waits
  waits_most = rw length-append (omega (arith, count_most (no_later t) front, count_most (sooner t) back))

  module _ (a d : ℕ) (later : t.due < d) where
    out : no_later t d ≡ false
    out = lt-leb d t.due later

    out_behind : sooner t d ≡ false
    out_behind = le-ltb d t.due (omega arith)

    waits_no_more : waits t (rescheduled a d front) (rescheduled a d back) ≤ waits t front back
    unfolding waits
    waits_no_more = omega (arith, no_more (no_later t) a d out front, no_more (sooner t) a d out_behind back)

    waits_fewer : (e : Router) → e.address ≡ a → (a ≡ t.address → ⊥) → Ahead t front back e
        → waits t (rescheduled a d front) (rescheduled a d back) < waits t front back
    unfolding waits
    waits_fewer e is not (inl h) = absurd (not (sym is ∙ ap (λ (r : Router). r.address) h))
    waits_fewer e is not (inr (inl m)) =
        omega (arith, one_fewer (no_later t) a d out e is (le-leb _ _ m.1) m.0, no_more (sooner t) a d out_behind back)
    waits_fewer e is not (inr (inr m)) =
        omega (arith, no_more (no_later t) a d out front, one_fewer (sooner t) a d out_behind e is (lt-ltb _ _ m.1) m.0)

  -- a due time that is not t's leaves t where it stands
  around : (a d : ℕ) → (a ≡ t.address → ⊥) → rescheduled a d (front ++ t ∷ back) ≡ rescheduled a d front ++ t ∷ rescheduled a d back
  unfolding due_if
  around a d not = rw (map-append, ne_eqb t.address a (λ e. not (sym e)))

-- t is served within m of those turns if fewer than m routers are ahead of it
abbrev Soon : Router → List Router → List Router → List ℕ → Type 0
Soon t front back ps = (m : ℕ) → waits t front back < m → m ≤ length ps → Memᴰ t.address (take m ps)

-- one turn serves t itself, or one that was ahead of it
turn : (t : Router) (front back : List Router) (a : ℕ) (ps : List ℕ) (front' back' : List Router)
    → ((a ≡ t.address → ⊥) → (waits t front' back' < waits t front back) × Soon t front' back' ps)
    → Soon t front back (a ∷ ps)
turn t front back a ps front' back' next zero h l = absurd (not-suc-le-zero h)
turn t front back a ps front' back' next (suc m) h l = go (ℕ_discrete a t.address)
  where
    go : Dec (a ≡ t.address) → Memᴰ t.address (a ∷ take m ps)
    go (yes e) = Memᴰ.head (sym e)
    go (no ne) = let k = (next ne).0 in Memᴰ.tail ((next ne).1 m (omega arith) (le_of_suc-le-suc l))

soon : (v : ℕ) (t : Router) → 1 ≤ v → (cs : List RouterCall) → Unheard v t.address cs → (latest : ℕ) (front back : List Router) → t.due ≤ latest
    → Soon t front back (served v latest (front ++ t ∷ back) cs)
unfolding served Unheard
soon v t pos [] un latest front back due = λ m h l. absurd (omega arith)
soon v t pos (other u ∷ cs) un latest front back due = soon v t pos cs un (max latest u) front back (omega arith)
soon v t pos (heard u b x ∷ cs) un latest front back due =
    let now = max latest u in
    let d = now + x in
    let put-off = un.1 in
    rw (around t front back b d un.0)
    (λ m h. soon v t pos cs un.2 now (rescheduled b d front) (rescheduled b d back) (omega arith) m
    (omega (arith, waits_no_more t front back b d (omega arith))))
soon v t pos (asked u ∷ cs) un latest front back due =
    let now = max latest u in
    let d = now + v in
    let n = next_ahead now t front back (omega arith) in
    let a = n.0.address in
    rw n.1
    (turn t front back a _ (rescheduled a d front) (rescheduled a d back)
    (λ not. (
      waits_fewer t front back a d (omega arith) n.0 refl not n.2,
      rw (around t front back a d not) (soon v t pos cs un now (rescheduled a d front) (rescheduled a d back) (omega arith)),
    )))

-- where a router stands in the list
split : {t : Router} {rs : List Router} → Memᴰ t rs → (front : List Router) × (back : List Router) × (rs ≡ front ++ t ∷ back)
split (Memᴰ.head {x} {xs} h) = ([], xs, ap (λ (r : Router). r ∷ xs) (sym h))
split (Memᴰ.tail {x} {xs} m) = let s = split m in (x ∷ s.0, s.1, ap (λ (rs : List Router). x ∷ rs) s.2)

pub fair : Fair
fair v latest t rs cs pos in_List due un long =
    let s = split in_List in
    rw s.2 (soon v t pos cs un latest s.0 s.1 due (length (s.0 ++ t ∷ s.1)) (waits_most t s.0 s.1) (rw s.2 at long))
