-- A chain that draws a message, taken apart into its headers and its upper layer. Assumes nothing.
use Prim.Native.Nat.{ℕ, zero, suc, ◌<◌}
use mathlib.Core.Path.{◌≡◌, refl, sym, ◌∙◌}
use mathlib.Core.Logic.{◌⊎◌, inl, inr}
use mathlib.Core.Bool.{true, false, not, ◌||◌}
use mathlib.Core.List.{List, [], ◌∷◌, ◌++◌, flatten, append_assoc}
use native.Mathlib.Decide.{ℕ_discrete}
use native.Mathlib.Omega.{arith}
use lib.ListN.{get_or, length, take, drop, length-take, length-drop, take-append-drop}
use lib.Seq.{get_or-take}
use borrow.Author.Tests.{eq-eqb, ne_eqb, not-true}
use Rattle.lists.proofs.Tests.{or_left, or_right}
use Rattle.header.specs.Fields.{word_at}
use Rattle.header.specs.Chain.{fragment, is_extension, extension_length, is_quiet, chain_may_draw}
use Rattle.header.specs.Walks.{passed_length}
use Rattle.header.specs.Draws.{TellsLength, Extension, Extensions, UpperLayer, OffsetZero, OffsetsZero}
use Rattle.header.proofs.ChainLaws.{extension-least, chain-on, is-passed, passed_none}
use Rattle.header.proofs.ChainFacts.{decides_extension, is-upper, decides_not-later}

-- what stands behind a packet's IPv6 header where its chain draws a message
pub record Behind (next : ℕ) (bs : List ℕ) : Type 0 where
  pub hs : List (List ℕ)
  pub upper : ℕ
  pub rest : List ℕ
  pub headers : Extensions next hs upper
  pub ends : UpperLayer upper
  pub offsets : OffsetsZero next hs
  pub drawn : is_quiet upper rest ≡ false
  pub bytes : bs ≡ flatten hs ++ rest

-- the first header, where it is passed
module _ (next : ℕ) (bs : List ℕ) (good : passed_length next bs ≡ 0 → ⊥) where
  abbrev size : ℕ
  size = extension_length next bs

  long : length (take size bs) ≡ size
  long = omega (arith, length-take size bs, (is-passed next bs good).there)

  byte_in : (k : ℕ) → k < 8 → get_or (take size bs) k 0 ≡ get_or bs k 0
  byte_in k few = get_or-take size bs k 0 (omega (arith, extension-least next bs))

  is_header : Extension next (take size bs)
  is_header = go (ℕ_discrete next fragment) ((decides_extension next).holds (is-passed next bs good).extension)
    where
      go : Dec (next ≡ 44) → TellsLength next ⊎ (next ≡ 44) → Extension next (take size bs)
      go (yes e) x = inr (e, long ∙ rw (eq-eqb next fragment e))
      go (no n) (inl t) = inl (t, long ∙ rw (byte_in 1 (omega arith), ne_eqb next fragment n))
      go (no n) (inr e) = absurd (n e)

  offset-zero : next ≡ 44 → OffsetZero (take size bs)
  unfolding word_at
  offset-zero = (decides_not-later next (take size bs)).holds (rw (byte_in 2 (omega arith), byte_in 3 (omega arith), (is-passed next bs good).not_later))

  -- it, and then the others
  with_first : Behind (get_or bs 0 0) (drop size bs) → Behind next bs
  unfolding Extensions OffsetsZero flatten
  with_first b = record {
    hs = take size bs ∷ b.hs;
    upper = b.upper;
    rest = b.rest;
    headers = (is_header, rw (byte_in 0 (omega arith)) b.headers);
    ends = b.ends;
    offsets = (offset-zero, rw (byte_in 0 (omega arith)) b.offsets);
    drawn = b.drawn;
    bytes = sym (take-append-drop size bs) ∙ rw (b.bytes, append_assoc (take size bs) (flatten b.hs) b.rest);
  }

-- no header, and an upper layer that draws a message
only_upper : (next : ℕ) (bs : List ℕ) → not (is_extension next || is_quiet next bs) ≡ true → Behind next bs
unfolding Extensions OffsetsZero flatten
only_upper next bs e = record {
  hs = [];
  upper = next;
  rest = bs;
  headers = refl;
  ends = is-upper next (or_left _ _ (not-true _ e));
  offsets = tt;
  drawn = or_right (is_extension next) _ (not-true _ e);
  bytes = refl;
}

-- a chain that draws a message stands there, in fewer bytes than so many
pub behind : (most next : ℕ) (bs : List ℕ) → length bs < most → chain_may_draw next bs ≡ true → Behind next bs
behind zero next bs few draws = absurd (omega (arith, few))
behind (suc most) next bs few draws =
    go (ℕ_discrete (passed_length next bs) 0) (behind most (get_or bs 0 0) (drop (extension_length next bs) bs))
  where
    go : Dec (passed_length next bs ≡ 0)
        → (length (drop (extension_length next bs) bs) < most → chain_may_draw (get_or bs 0 0) (drop (extension_length next bs) bs) ≡ true
        → Behind (get_or bs 0 0) (drop (extension_length next bs) bs))
        → Behind next bs
    go (yes none) others = only_upper next bs (sym (passed_none next bs none) ∙ draws)
    go (no good) others =
        let p = is-passed next bs good in
        with_first next bs good
        (others (omega (arith, few, extension-least next bs, p.there, length-drop (extension_length next bs) bs))
        (sym (chain-on next bs p.extension p.not_later p.there) ∙ draws))
