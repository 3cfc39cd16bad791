-- The tests on addresses pass exactly if the facts hold. Assumes nothing.
use Rattle.std.specs.Prelude.{Some, None}
use Prim.Native.Nat.{ℕ, zero, suc, ◌<◌}
use mathlib.Core.Path.{◌≡◌, refl, sym}
use mathlib.Core.Logic.{◌⊎◌, inl, inr}
use mathlib.Core.Bool.{Bool, true, false, cond, ◌&&◌}
use mathlib.Core.List.{List, ◌∷◌}
use native.Mathlib.Omega.{arith}
use lib.ListN.{get_or, take}
use lib.Dec.{eqb, leb}
use borrow.Author.Tests.{eqb-true, eqb-false}
use Rattle.lists.proofs.Decides.{Decides, decides_eq, decides_le, decides_or, decides_and, decides_any, decides_as, refutes}
use Rattle.address.specs.Address.{is_forbidden, quad_of, last_quad, agree, is_under, link_local_prefix, is_link_local, is_on_link, is_identifier, embedded_in, are_zero, is_multicast, is_unspecified, is_multicast_or_unspecified, is_bad_source_with}
use Rattle.address.specs.Facts.{Within, Forbidden, Under, LinkLocal, OnLink, Identifier, EndsWith, Isatap, ZeroBefore, Multicast, Unspecified, Loopback, ZeroThen, BadSource}

within : (low high a : ℕ) → Decides (leb low a && leb a high) (Within low high a)
within low high a = decides_and _ _ (decides_le low a) (decides_le a high)

pub decides_forbidden : (a : ℕ) → Decides (is_forbidden a) (Forbidden a)
unfolding is_forbidden Forbidden
decides_forbidden a =
    let none = decides_eq a (quad_of 0 0 0 0) in
    let loop = within (quad_of 127 0 0 0) (quad_of 127 255 255 255) a in
    let group = within (quad_of 224 0 0 0) (quad_of 239 255 255 255) a in
    let all = decides_eq a (quad_of 255 255 255 255) in
    decides_or _ _ none (decides_or _ _ loop (decides_or _ _ group all))

-- one more byte has the property
up_to : (P : ℕ → Type 0) (n : ℕ) → ((i : ℕ) → i < n → P i) → P n → (i : ℕ) → i < suc n → P i
up_to P n below here i h = go (eqb i n) refl
  where
    go : (t : Bool) → eqb i n ≡ t → P i
    go true e = rw (eqb-true i n e) here
    go false e = let other : i ≡ n → ⊥ = eqb-false i n e in below i (omega arith)

one_more : (P : ℕ → Type 0) (n : ℕ) (s t : Bool) → Decides s ((i : ℕ) → i < n → P i) → Decides t (P n) → Decides (s && t) ((i : ℕ) → i < suc n → P i)
one_more P n s t d e =
    decides_as (s && t) (decides_and s t d e) (λ f. up_to P n f.0 f.1) (λ f. (λ i h. f i (omega arith), f n (omega arith)))

none_before : (P : ℕ → Type 0) → Decides true ((i : ℕ) → i < 0 → P i)
none_before P = record { holds = λ h i l. absurd (omega arith); passes = λ f. refl }

-- the first n bytes of the two are the same
decides_agree : (n : ℕ) (p a : List ℕ) → Decides (agree n p a) ((i : ℕ) → i < n → get_or p i 0 ≡ get_or a i 0)
decides_agree zero p a = none_before (λ i. get_or p i 0 ≡ get_or a i 0)
decides_agree (suc n) p a = one_more (λ i. get_or p i 0 ≡ get_or a i 0) n _ _ (decides_agree n p a) (decides_eq (get_or p n 0) (get_or a n 0))

decides_zero : (n : ℕ) (a : List ℕ) → Decides (are_zero n a) (ZeroBefore n a)
decides_zero zero a = none_before (λ i. get_or a i 0 ≡ 0)
decides_zero (suc n) a = one_more (λ i. get_or a i 0 ≡ 0) n _ _ (decides_zero n a) (decides_eq (get_or a n 0) 0)

module _ (a : List ℕ) where
  pub decides_under : (p : List ℕ) → Decides (is_under a p) (Under a p)
  unfolding is_under Under
  decides_under p = decides_as _ (decides_agree 8 p a) (λ f i h. sym (f i h)) (λ f i h. sym (f i h))

  pub decides_link_local : Decides (is_link_local a) (LinkLocal a)
  decides_link_local = decides_under link_local_prefix

  pub decides_on_link : (prefixes : List (List ℕ)) (count : ℕ) → Decides (is_on_link prefixes count a) (OnLink prefixes count a)
  unfolding is_on_link
  decides_on_link prefixes count = decides_any (is_under a) (Under a) decides_under (link_local_prefix ∷ take count prefixes)

  pub decides_identifier : Decides (is_identifier a) (Identifier a)
  unfolding is_identifier Identifier
  decides_identifier =
      let first = decides_or _ _ (decides_eq (get_or a 8 0) 0x00) (decides_eq (get_or a 8 0) 0x02) in
      let second = decides_eq (get_or a 9 0) 0x00 in
      let third = decides_eq (get_or a 10 0) 0x5E in
      let fourth = decides_eq (get_or a 11 0) 0xFE in
      decides_as _ (decides_and _ _ (decides_and _ _ (decides_and _ _ first second) third) fourth) (λ f. (f.0.0.0, f.0.0.1, f.0.1, f.1)) (λ f. (((f.0, f.1), f.2), f.3))

  pub decides_ends : (v : ℕ) → Decides (eqb (last_quad a) v) (EndsWith a v)
  unfolding last_quad EndsWith
  decides_ends v = decides_eq _ v

  pub decides_multicast : Decides (is_multicast a) (Multicast a)
  decides_multicast = decides_eq (get_or a 0 0) 0xFF

  pub decides_unspecified : Decides (is_unspecified a) (Unspecified a)
  unfolding EndsWith
  decides_unspecified = decides_as _ (decides_and _ _ (decides_zero 12 a) (decides_ends 0)) to from
    where
      Zero : ℕ → Type 0
      Zero i = get_or a i 0 ≡ 0

      to : ZeroBefore 12 a × EndsWith a 0 → Unspecified a
      to f =
          let e = f.1 in
          up_to Zero 15 (up_to Zero 14 (up_to Zero 13 (up_to Zero 12 f.0 (omega arith)) (omega arith)) (omega arith)) (omega arith)

      from : Unspecified a → ZeroBefore 12 a × EndsWith a 0
      from z = (λ i h. z i (omega arith), omega (arith, z 12 (omega arith), z 13 (omega arith), z 14 (omega arith), z 15 (omega arith)))

  decides_loopback : Decides (are_zero 12 a && eqb (last_quad a) 1) (Loopback a)
  unfolding EndsWith
  decides_loopback = decides_as _ (decides_and _ _ (decides_zero 12 a) (decides_ends 1)) to from
    where
      Zero : ℕ → Type 0
      Zero i = get_or a i 0 ≡ 0

      to : ZeroBefore 12 a × EndsWith a 1 → Loopback a
      to f =
          let e = f.1 in
          (up_to Zero 14 (up_to Zero 13 (up_to Zero 12 f.0 (omega arith)) (omega arith)) (omega arith), omega arith)

      from : Loopback a → ZeroBefore 12 a × EndsWith a 1
      from f =
          let z = f.0 in
          (λ i h. z i (omega arith), omega (arith, f.1, z 12 (omega arith), z 13 (omega arith), z 14 (omega arith)))

  pub decides_multicast_or-unspecified : Decides (is_multicast_or_unspecified a) (Multicast a ⊎ Unspecified a)
  unfolding is_multicast_or_unspecified
  decides_multicast_or-unspecified = decides_or _ _ decides_multicast decides_unspecified

  -- where `forbidden` decides whether the last 32 bits are a forbidden address
  module _ (F : ℕ → Type 0) (forbidden : Bool) (d : Decides forbidden (F (last_quad a))) where
    decides_zero_then : Decides (are_zero 12 a && forbidden) (ZeroThen F a)
    unfolding last_quad EndsWith
    decides_zero_then =
        decides_as _ (decides_and _ _ (decides_zero 12 a) d) (λ f. (f.0, (last_quad a, refl, f.1))) (λ f. (f.0, rw f.1.1 f.1.2))

    pub decides_bad_source : Decides (is_bad_source_with forbidden a) (BadSource F a)
    unfolding is_bad_source_with BadSource
    decides_bad_source = decides_as _ (decides_or _ _ (decides_or _ _ decides_multicast_or-unspecified decides_loopback) decides_zero_then) to from
      where
        to : ((Multicast a ⊎ Unspecified a) ⊎ Loopback a) ⊎ ZeroThen F a → Multicast a ⊎ (Unspecified a ⊎ (Loopback a ⊎ ZeroThen F a))
        to (inl (inl (inl f))) = inl f
        to (inl (inl (inr f))) = inr (inl f)
        to (inl (inr f)) = inr (inr (inl f))
        to (inr f) = inr (inr (inr f))

        from : Multicast a ⊎ (Unspecified a ⊎ (Loopback a ⊎ ZeroThen F a)) → ((Multicast a ⊎ Unspecified a) ⊎ Loopback a) ⊎ ZeroThen F a
        from (inl f) = inl (inl (inl f))
        from (inr (inl f)) = inl (inl (inr f))
        from (inr (inr (inl f))) = inl (inr f)
        from (inr (inr (inr f))) = inr f

  module _ (prefixes : List (List ℕ)) (count : ℕ) where
    both : Decides (is_on_link prefixes count a && is_identifier a) (OnLink prefixes count a × Identifier a)
    both = decides_and _ _ (decides_on_link prefixes count) decides_identifier

    -- the address that is found is embedded
    pub embedded-isatap : (v : ℕ) → embedded_in prefixes count a ≡ Some v → Isatap prefixes count a v
    unfolding embedded_in last_quad EndsWith
    embedded-isatap v h = go (is_on_link prefixes count a && is_identifier a) both h
      where
        go : (t : Bool) → Decides t (OnLink prefixes count a × Identifier a) → cond t (Some (last_quad a)) None ≡ Some v → Isatap prefixes count a v
        go true d h = let f = d.holds refl in record { on_link = f.0; identifier = f.1; embedded = cc }
        go false d h = let z : ◌≡◌ {A = ℕ} 0 1 = cc in absurd (omega arith)

    -- the IPv4 address that an ISATAP address embeds is found
    pub isatap-embedded : (v : ℕ) → Isatap prefixes count a v → embedded_in prefixes count a ≡ Some v
    unfolding embedded_in last_quad EndsWith
    isatap-embedded v f = rw (both.passes (f.on_link, f.identifier), f.embedded)

    -- where none is embedded, none is found
    pub none_found : ((v : ℕ) → Isatap prefixes count a v → ⊥) → embedded_in prefixes count a ≡ None
    unfolding embedded_in EndsWith
    none_found n =
        rw (refutes _ both (λ f. n (quad_of (get_or a 12 0) (get_or a 13 0) (get_or a 14 0) (get_or a 15 0)) (record { on_link = f.0; identifier = f.1; embedded = refl })))
