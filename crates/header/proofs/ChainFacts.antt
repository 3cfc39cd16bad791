-- Extension headers as lists of bytes, and what the chain's tests say of them. Assumes nothing.
use Prim.Native.Nat.{ℕ, ◌/◌, ◌≤◌, ◌<◌}
use mathlib.Core.Path.{◌≡◌, refl, sym, ◌∙◌}
use mathlib.Core.Logic.{◌⊎◌, ⊎_elim, inl, inr}
use mathlib.Core.Bool.{Bool, true, false, not}
use mathlib.Core.List.{List, [], ◌∷◌, ◌++◌, flatten, append_assoc}
use native.Mathlib.Decide.{ℕ_discrete}
use native.Mathlib.Omega.{arith}
use lib.ListN.{get_or, length, length-append, get_or-append}
use lib.Seq.{drop-append_seam}
use lib.Dec.{eqb}
use borrow.Author.Tests.{eq-eqb, ne_eqb, not-true}
use Rattle.lists.proofs.Decides.{Decides, fails, refutes, decides_eq, decides_or, decides_as}
use Rattle.header.specs.Fields.{word_at}
use Rattle.header.specs.Chain.{hop_by_hop, routing, fragment, destination_options, is_extension, extension_length, is_later_fragment, chain_may_draw}
use Rattle.header.specs.Draws.{TellsLength, Extension, Extensions, UpperLayer, OffsetZero, OffsetsZero}
use Rattle.header.proofs.ChainLaws.{chain-later, chain-on}

-- the numbers of the headers
pub decides_extension : (next : ℕ) → Decides (is_extension next) (TellsLength next ⊎ (next ≡ 44))
decides_extension next =
    let hop = decides_eq next hop_by_hop in
    let route = decides_eq next routing in
    let fragments = decides_eq next fragment in
    let options = decides_eq next destination_options in
    decides_as _ (decides_or _ _ (decides_or _ _ (decides_or _ _ hop route) fragments) options)
    (⊎_elim (⊎_elim (⊎_elim (λ h. inl (inl h)) (λ r. inl (inr (inl r)))) (λ f. inr f)) (λ o. inl (inr (inr o))))
    (⊎_elim (⊎_elim (λ h. inl (inl (inl h))) (⊎_elim (λ r. inl (inl (inr r))) (λ o. inr o))) (λ f. inl (inr f)))

pub upper_layer : (next : ℕ) → UpperLayer next → is_extension next ≡ false
upper_layer next u = refutes (is_extension next) (decides_extension next) (⊎_elim u.0 u.1)

pub is-upper : (next : ℕ) → is_extension next ≡ false → UpperLayer next
is-upper next e = let n = fails (is_extension next) (decides_extension next) e in (λ t. n (inl t), λ f. n (inr f))

-- the offset is 0 exactly if only the low three bits of the two bytes may be set
decides_zero : (h : List ℕ) → Decides (eqb (word_at h 2 / 8) 0) (OffsetZero h)
unfolding word_at
decides_zero h = decides_as _ (decides_eq (word_at h 2 / 8) 0) to from
  where
    to : word_at h 2 / 8 ≡ 0 → OffsetZero h
    to e = (omega arith, omega arith)

    from : OffsetZero h → word_at h 2 / 8 ≡ 0
    from f = omega (arith, f.0, f.1)

twice : (t : Bool) {F : Type 0} → Decides t F → Decides (not (not t)) F
twice true d = d
twice false d = d

-- no later fragment
pub decides_not-later : (next : ℕ) (h : List ℕ) → Decides (not (is_later_fragment next h)) (next ≡ 44 → OffsetZero h)
decides_not-later next h = go (ℕ_discrete next fragment)
  where
    go : Dec (next ≡ 44) → Decides (not (is_later_fragment next h)) (next ≡ 44 → OffsetZero h)
    go (yes e) = rw (eq-eqb next fragment e) (decides_as _ (twice _ (decides_zero h)) (λ z f. z) (λ f. f e))
    go (no n) = rw (ne_eqb next fragment n) (record { holds = λ t f. absurd (n f); passes = λ f. refl })

-- a whole header in front of other bytes
module _ (next : ℕ) (h bs : List ℕ) (x : Extension next h) where
  extension-long : 8 ≤ length h
  extension-long = ⊎_elim (λ o. omega (arith, o.1)) (λ f. omega (arith, f.1)) x

  number : is_extension next ≡ true
  number = (decides_extension next).passes (⊎_elim (λ o. inl o.0) (λ f. inr f.0) x)

  byte_of : (k : ℕ) → k < 8 → get_or (h ++ bs) k 0 ≡ get_or h k 0
  byte_of k few = let long = extension-long in get_or-append h bs 0 k (omega arith)

  -- its length is its own
  length-of : extension_length next (h ++ bs) ≡ length h
  length-of = go (ℕ_discrete next fragment) x
    where
      go : Dec (next ≡ 44) → Extension next h → extension_length next (h ++ bs) ≡ length h
      go (yes e) (inl o) = absurd (⊎_elim (λ z. omega (arith, z)) (⊎_elim (λ z. omega (arith, z)) (λ z. omega (arith, z))) o.0)
      go (yes e) (inr f) = rw (eq-eqb next fragment e) (sym f.1)
      go (no n) (inl o) = rw (ne_eqb next fragment n, byte_of 1 (omega arith)) (sym o.1)
      go (no n) (inr f) = absurd (n f.0)

  later_of : is_later_fragment next (h ++ bs) ≡ is_later_fragment next h
  unfolding word_at
  later_of = rw (byte_of 2 (omega arith), byte_of 3 (omega arith))

  -- the chain goes on behind it, unless it is a later fragment
  header_on : is_later_fragment next h ≡ false → chain_may_draw next (h ++ bs) ≡ chain_may_draw (get_or h 0 0) bs
  header_on l =
      chain-on next (h ++ bs) number (later_of ∙ l) (omega (arith, length-of, length-append h bs))
      ∙ rw (byte_of 0 (omega arith), length-of, drop-append_seam h bs)

  header_later : is_later_fragment next h ≡ true → chain_may_draw next (h ++ bs) ≡ false
  header_later l = chain-later next (h ++ bs) number (later_of ∙ l)

-- extension headers one behind another, and then what stands behind them
module _ (rest : List ℕ) where
  -- without a later fragment, the chain draws what its upper layer draws
  pub headers-on : (next : ℕ) (hs : List (List ℕ)) (upper : ℕ) → Extensions next hs upper → OffsetsZero next hs
      → chain_may_draw next (flatten hs ++ rest) ≡ chain_may_draw upper rest
  unfolding Extensions OffsetsZero flatten
  headers-on next [] upper x z = rw x
  headers-on next (h ∷ hs) upper x z =
      rw (append_assoc h (flatten hs) rest)
      (header_on next h (flatten hs ++ rest) x.0 (not-true (is_later_fragment next h) ((decides_not-later next h).passes z.0))
      ∙ headers-on (get_or h 0 0) hs upper x.1 z.1)

  -- the chain draws none where its upper layer draws none, or where a later fragment is among the headers
  pub headers-silent : (next : ℕ) (hs : List (List ℕ)) (upper : ℕ) → Extensions next hs upper → (OffsetsZero next hs → chain_may_draw upper rest ≡ false)
      → chain_may_draw next (flatten hs ++ rest) ≡ false
  unfolding Extensions OffsetsZero flatten
  headers-silent next [] upper x none = rw x (none tt)
  headers-silent next (h ∷ hs) upper x none =
      rw (append_assoc h (flatten hs) rest) (go (is_later_fragment next h) refl (headers-silent (get_or h 0 0) hs upper x.1))
    where
      go : (l : Bool) → is_later_fragment next h ≡ l
          → ((OffsetsZero (get_or h 0 0) hs → chain_may_draw upper rest ≡ false) → chain_may_draw (get_or h 0 0) (flatten hs ++ rest) ≡ false)
          → chain_may_draw next (h ++ (flatten hs ++ rest)) ≡ false
      go true e others = header_later next h (flatten hs ++ rest) x.0 e
      go false e others =
          header_on next h (flatten hs ++ rest) x.0 e ∙ others (λ z. none ((decides_not-later next h).holds (rw e), z))
