-- Which chains of headers draw no message, whatever the packet's source; and what is drawn where there is no extension header.
-- Assumes nothing.
use Prim.Native.Nat.{ℕ, ◌≤◌, ◌<◌}
use mathlib.Core.Path.{◌≡◌, refl, ◌∙◌}
use mathlib.Core.Bool.{Bool, true, false, not, ◌&&◌, ◌||◌, and-false}
use mathlib.Core.List.{List}
use native.Mathlib.Omega.{arith}
use lib.ListN.{get_or, length, drop, length-drop}
use lib.Seq.{get_or-drop}
use lib.Dec.{eqb, ltb}
use borrow.Author.Tests.{lt-ltb, ne_eqb}
use Rattle.address.specs.Address.{is_multicast_or_unspecified}
use Rattle.lists.proofs.Decides.{refutes}
use Rattle.header.specs.Numbers.{inner_header, icmpv6}
use Rattle.header.specs.Fields.{address_at}
use Rattle.header.specs.Chain.{is_error_or_redirect, is_quiet, chain_may_draw}
use Rattle.header.specs.Inner.{may_draw_error}
use Rattle.header.specs.Draws.{UpperLayer, Chain, OffsetsZero, ErrorOrRedirect}
use Rattle.header.proofs.ChainLaws.{chain-upper}
use Rattle.header.proofs.ChainFacts.{upper_layer, headers-silent}
use Rattle.header.proofs.DrawsLaws.{decides_harmless, decides_draws}

-- the tests of a packet with payload, joined in two ways
joined : (a next kind : Bool) → (not a && not (next && (false || kind))) ≡ not (a || (next && true && kind))
joined true next kind = refl
joined false true kind = refl
joined false false kind = refl

module _ (p : List ℕ) where
  -- a chain that draws none
  silent : chain_may_draw (get_or p 6 0) (drop inner_header p) ≡ false → may_draw_error p ≡ false
  unfolding may_draw_error
  silent e = rw e (and-false (not (is_multicast_or_unspecified (address_at p 8))))

  -- an upper layer that draws none
  quiet-end : (hs : List (List ℕ)) (upper at : ℕ) → Chain p hs upper at → not (is_quiet upper (drop at p)) ≡ false → may_draw_error p ≡ false
  quiet-end hs upper at c e =
      silent
      (rw c.bytes (headers-silent (drop at p) (get_or p 6 0) hs upper c.headers (λ z. chain-upper upper (drop at p) (upper_layer upper c.ends) ∙ e)))

  -- ICMPv6 behind the headers, an error or a redirect
  pub error-silent : (hs : List (List ℕ)) (at : ℕ) → Chain p hs 58 at → ErrorOrRedirect p at → may_draw_error p ≡ false
  error-silent hs at c e = quiet-end hs 58 at c (refutes _ (decides_harmless p 58 at) (λ h. (h refl).1 e))

  -- ICMPv6 with no byte left
  pub empty-silent : (hs : List (List ℕ)) (at : ℕ) → Chain p hs 58 at → length p ≤ at → may_draw_error p ≡ false
  empty-silent hs at c short = quiet-end hs 58 at c (refutes _ (decides_harmless p 58 at) (λ h. omega (arith, short, (h refl).0)))

  -- a later fragment among the headers
  pub later-silent : (hs : List (List ℕ)) (upper at : ℕ) → Chain p hs upper at → (OffsetsZero (get_or p 6 0) hs → ⊥) → may_draw_error p ≡ false
  later-silent hs upper at c later = silent (rw c.bytes (headers-silent (drop at p) (get_or p 6 0) hs upper c.headers (λ z. absurd (later z))))

  -- no chain, since it runs past the packet
  pub past-silent : ((hs : List (List ℕ)) (upper at : ℕ) → Chain p hs upper at → ⊥) → may_draw_error p ≡ false
  past-silent none = refutes _ (decides_draws p) (λ d. none d.headers d.upper d.at d.chain)

  -- no extension header, and some payload
  pub draws_by_first : UpperLayer (get_or p 6 0) → 40 < length p
      → may_draw_error p
      ≡ not (is_multicast_or_unspecified (address_at p 8) || (eqb (get_or p 6 0) 58 && ltb 40 (length p) && (ltb (get_or p 40 0) 128 || eqb (get_or p 40 0) 137)))
  unfolding may_draw_error
  draws_by_first u long =
      rw (
        chain-upper (get_or p 6 0) (drop inner_header p) (upper_layer (get_or p 6 0) u),
        ne_eqb (length (drop inner_header p)) 0 (λ z. omega (arith, z, long, length-drop inner_header p)),
        lt-ltb 40 (length p) long,
        get_or-drop inner_header p 0 0,
      )
      (joined (is_multicast_or_unspecified (address_at p 8)) (eqb (get_or p 6 0) icmpv6) (is_error_or_redirect (get_or p 40 0)))
