-- The test passes exactly for the packets that draw a message. Assumes nothing.
use Prim.Native.Nat.{ℕ, suc, ◌+◌, ◌<◌}
use mathlib.Core.Path.{◌≡◌, refl, sym, ◌∙◌}
use mathlib.Core.Logic.{◌⊎◌, ⊎_elim, inl, inr}
use mathlib.Core.Bool.{true, not, ◌&&◌}
use mathlib.Core.List.{List, flatten}
use native.Mathlib.Decide.{ℕ_discrete}
use native.Mathlib.Nat.{add-zero}
use native.Mathlib.Omega.{arith}
use lib.ListN.{get_or, length, drop, length-drop}
use lib.Seq.{get_or-drop, drop-drop, drop-append_seam}
use borrow.Author.Tests.{eq-eqb, ne_eqb}
use Rattle.address.specs.Address.{is_multicast_or_unspecified}
use Rattle.address.proofs.Facts.{decides_multicast_or-unspecified}
use Rattle.lists.proofs.Decides.{Decides, decides_eq, decides_lt, decides_or, decides_not, decides_as}
use Rattle.lists.proofs.Tests.{and_left, and_right}
use Rattle.header.specs.Numbers.{inner_header, icmpv6}
use Rattle.header.specs.Fields.{address_at}
use Rattle.header.specs.Chain.{is_error_or_redirect, is_quiet, chain_may_draw}
use Rattle.header.specs.Inner.{may_draw_error}
use Rattle.header.specs.Draws.{Chain, OffsetsZero, Harmless, Answerable, DrawsMessage}
use Rattle.header.proofs.ChainLaws.{chain-upper}
use Rattle.header.proofs.ChainFacts.{upper_layer, headers-on}
use Rattle.header.proofs.ChainTaken.{Behind, behind}

-- an upper layer at an offset of the packet
module _ (p : List ℕ) (upper at : ℕ) where
  decides_kind : Decides (is_error_or_redirect (get_or (drop at p) 0 0)) ((get_or p at 0 < 128) ⊎ (get_or p at 0 ≡ 137))
  decides_kind = rw (get_or-drop at p 0 0, add-zero at) (decides_or _ _ (decides_lt (get_or p at 0) 128) (decides_eq (get_or p at 0) 137))

  pub decides_harmless : Decides (not (is_quiet upper (drop at p))) (Harmless p upper at)
  decides_harmless = go (ℕ_discrete upper icmpv6)
    where
      go : Dec (upper ≡ 58) → Decides (not (is_quiet upper (drop at p))) (Harmless p upper at)
      go (yes e) = rw (eq-eqb upper icmpv6 e)
          (decides_as _ (decides_not _ (decides_or _ _ (decides_eq (length (drop at p)) 0) decides_kind))
          (λ n f. (more (λ z. n (inl z)), λ k. n (inr k.1)))
          (λ h. ⊎_elim (λ z. omega (arith, z, (h e).0, length-drop at p)) (λ k. (h e).1 ((h e).0, k))))
        where
          more : (length (drop at p) ≡ 0 → ⊥) → at < length p
          more n = omega (arith, n, length-drop at p)
      go (no n) = rw (ne_eqb upper icmpv6 n) (record { holds = λ t f. absurd (n f); passes = λ h. refl })

module _ (p : List ℕ) where
  -- without a later fragment, a chain draws what its upper layer draws
  chain_draws : (hs : List (List ℕ)) (upper at : ℕ) → Chain p hs upper at → OffsetsZero (get_or p 6 0) hs
      → chain_may_draw (get_or p 6 0) (drop inner_header p) ≡ not (is_quiet upper (drop at p))
  chain_draws hs upper at c z =
      rw c.bytes
      (headers-on (drop at p) (get_or p 6 0) hs upper c.headers z
      ∙ chain-upper upper (drop at p) (upper_layer upper c.ends))

  module _ (b : Behind (get_or p 6 0) (drop inner_header p)) where
    abbrev at : ℕ
    at = 40 + length (flatten b.hs)

    rest_at : drop at p ≡ b.rest
    rest_at = sym (drop-drop (length (flatten b.hs)) 40 p) ∙ rw b.bytes (drop-append_seam (flatten b.hs) b.rest)

    chain-at : Chain p b.hs b.upper at
    chain-at = record { headers = b.headers; ends = b.ends; offset = refl; bytes = b.bytes ∙ rw rest_at }

    harmless-at : Harmless p b.upper at
    harmless-at = (decides_harmless p b.upper at).holds (rw (rest_at, b.drawn))

  decides_answerable : Decides (not (is_multicast_or_unspecified (address_at p 8))) (Answerable p)
  decides_answerable =
      decides_as _ (decides_not _ (decides_multicast_or-unspecified (address_at p 8))) (λ n. (λ f. n (inl f), λ f. n (inr f))) (λ f. ⊎_elim f.0 f.1)

  pub decides_draws : Decides (may_draw_error p) (DrawsMessage p)
  unfolding may_draw_error
  decides_draws = record { holds = holds; passes = passes }
    where
      holds : (not (is_multicast_or_unspecified (address_at p 8)) && chain_may_draw (get_or p 6 0) (drop inner_header p)) ≡ true → DrawsMessage p
      holds t =
          let b = behind (suc (length (drop inner_header p))) (get_or p 6 0) (drop inner_header p) (omega arith) (and_right (not (is_multicast_or_unspecified (address_at p 8))) _ t) in
          record {
            source = decides_answerable.holds (and_left _ _ t);
            headers = b.hs;
            upper = b.upper;
            at = 40 + length (flatten b.hs);
            chain = chain-at b;
            offsets = b.offsets;
            harmless = harmless-at b;
          }

      passes : DrawsMessage p → (not (is_multicast_or_unspecified (address_at p 8)) && chain_may_draw (get_or p 6 0) (drop inner_header p)) ≡ true
      passes d =
          rw (decides_answerable.passes d.source)
          (chain_draws d.headers d.upper d.at d.chain d.offsets ∙ (decides_harmless p d.upper d.at).passes d.harmless)
