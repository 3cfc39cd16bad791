-- The runs among bytes are what there is to report: they and the gaps between them tell of every byte whether it differs. Assumes nothing.
use Prim.Native.Nat.{ℕ, zero, suc, ◌+◌, ◌≤◌, ◌<◌}
use mathlib.Core.Path.{◌≡◌, refl}
use mathlib.Core.Logic.{⊎_elim}
use mathlib.Core.Bool.{Bool, true, false, cond}
use mathlib.Core.List.{List, [], ◌∷◌}
use native.Mathlib.Omega.{arith}
use borrow.Author.Tests.{eqb-true, eqb-false, ltb-true, ltb-false}
use lib.Dec.{eqb, ltb}
use Rattle.lists.proofs.Tests.{tested}
use Rattle.comparing.specs.Runs.{Run, joined, runs_from}
use Rattle.comparing.specs.Facts.{Lies}

module _ (differs : ℕ → Bool) where
  -- no byte from p to r differs
  abbrev pub NoneFrom : ℕ → ℕ → Type 0
  NoneFrom p r = (q : ℕ) → p ≤ q → q < r → differs q ≡ false

  -- a run that begins at p or behind it: no byte before it differs, all of it does, and the byte behind it does not or is not there
  pub record Tile (p end : ℕ) (r : Run) : Type 0 where
    pub from : p ≤ r.offset
    pub gap : NoneFrom p r.offset
    pub some : 0 < r.length
    pub all : (q : ℕ) → Lies q r → differs q ≡ true
    pub inside : r.offset + r.length ≤ end
    pub behind : r.offset + r.length < end → differs (r.offset + r.length) ≡ false

  -- runs that tell of every byte from p to the end
  abbrev pub Tiles : ℕ → ℕ → List Run → Type 0
  Tiles p end [] = NoneFrom p end
  Tiles p end (r ∷ rs) = Tile p end r × Tiles (r.offset + r.length) end rs

  none_before : (p r : ℕ) → differs p ≡ false → NoneFrom (suc p) r → NoneFrom p r
  none_before p r d n q h k = ⊎_elim (λ t. let e : q ≡ p = omega (arith, ltb-true q (suc p) t) in rw e d) (λ t. n q (ltb-false q (suc p) t) k) (tested (ltb q (suc p)))

  -- a byte that does not differ, in front
  tiles_gap : (p end : ℕ) (rs : List Run) → differs p ≡ false → Tiles (suc p) end rs → Tiles p end rs
  tiles_gap p end [] d t = none_before p end d t
  tiles_gap p end (r ∷ rs) d t =
      let h = t.0 in (
        record {
          from = omega (arith, h.from);
          gap = none_before p r.offset d h.gap;
          some = h.some;
          all = h.all;
          inside = h.inside;
          behind = h.behind;
        },
        t.1,
      )

  -- a run of one byte, and the byte behind it does not differ or is not there
  one : (p end : ℕ) → differs p ≡ true → p < end → (suc p < end → differs (suc p) ≡ false) → Tile p end (record { offset = p; length = 1 })
  one p end d h b =
      let e : p + 1 ≡ suc p = omega arith in record {
        from = omega arith;
        gap = λ q k l. absurd (omega arith);
        some = omega arith;
        all = λ q l. let f : q ≡ p = omega (arith, l.0, l.1) in rw f d;
        inside = omega arith;
        behind = λ l. rw e (b (omega arith));
      }

  -- a byte that differs, in front
  tiles_joined : (p end : ℕ) (rs : List Run) → differs p ≡ true → p < end → Tiles (suc p) end rs → Tiles p end (joined p rs)
  tiles_joined p end [] d h t = (one p end d h (λ l. t (suc p) (omega arith) l), λ q k l. t q (omega arith) l)
  tiles_joined p end (r ∷ rs) d h t = go (eqb r.offset (suc p)) refl
    where
      go : (b : Bool) → eqb r.offset (suc p) ≡ b
          → Tiles p end (cond b (record { offset = p; length = suc r.length } ∷ rs) (record { offset = p; length = 1 } ∷ (r ∷ rs)))
      go true b =
          let e : r.offset ≡ suc p = eqb-true r.offset (suc p) b in
          let f : r.offset + r.length ≡ p + suc r.length = omega arith in
          let g = t.0 in (
            record {
              from = omega arith;
              gap = λ q k l. absurd (omega arith);
              some = omega arith;
              all = λ q l. ⊎_elim (λ w. let w1 : q ≡ p = omega (arith, ltb-true q (suc p) w, l.0) in rw w1 d) (λ w. g.all q (omega (arith, ltb-false q (suc p) w), omega (arith, l.1))) (tested (ltb q (suc p)));
              inside = omega (arith, g.inside);
              behind = rw f at g.behind;
            },
            rw f at t.1,
          )
      go false b =
          let e : p + 1 ≡ suc p = omega arith in
          let n = eqb-false r.offset (suc p) b in
          let g = t.0 in
          let apart : suc p < r.offset = omega (arith, n, g.from) in
          (one p end d h (λ l. g.gap (suc p) (omega arith) apart), rw (← e) at t)

  pub tiles : (p n : ℕ) → Tiles p (p + n) (runs_from differs p n)
  tiles p zero = λ q h k. absurd (omega arith)
  tiles p (suc n) =
      let e : suc p + n ≡ p + suc n = omega arith in
      go (differs p) refl (rw e at (tiles (suc p) n))
    where
      go : (t : Bool) → differs p ≡ t → Tiles (suc p) (p + suc n) (runs_from differs (suc p) n)
          → Tiles p (p + suc n) (cond t (joined p (runs_from differs (suc p) n)) (runs_from differs (suc p) n))
      go true d h = tiles_joined p (p + suc n) (runs_from differs (suc p) n) d (omega arith) h
      go false d h = tiles_gap p (p + suc n) (runs_from differs (suc p) n) d h
