-- Hearing in stages: what the tests before the walk over the options leave to it. Assumes nothing.
use Rattle.std.specs.Prelude.{Ok, Err}
use Prim.Native.Nat.{ℕ, ◌≤◌}
use mathlib.Core.Path.{◌≡◌, refl, subst}
use mathlib.Core.Bool.{Bool, true, false, cond, not, ◌&&◌}
use mathlib.Core.List.{List}
use native.Mathlib.Omega.{arith}
use lib.ListN.{length, take, drop, length-take}
use Rattle.checksum.proofs.Bytes.{Bytes, bytes-at}
use Rattle.address.specs.Address.{is_link_local}
use Rattle.refusals.specs.Refusals.{stop_or}
use Rattle.refusals.specs.declared.Refusal.TheVariants.{AdvertisementInvalid}
use Rattle.header.specs.Fields.{word_at}
use Rattle.header.specs.Inner.{inner_of, is_inner_malformed}
use Rattle.header.specs.declared.inner.Inner.{Inner}
use Rattle.header.proofs.InnerLaws.{inner-whole}
use Rattle.options.specs.Options.{are_options_whole}
use Rattle.options.specs.declared.Options.{Options}
use Rattle.routers.specs.declared.RouterList.{RouterList}
use Rattle.settings.specs.declared.Settings.{Settings}
use Rattle.messages.specs.Icmp.{advertisement_type}
use Rattle.hearing.specs.Message.{message_of, is_sum_right, has_fields, is_valid_message}
use Rattle.hearing.specs.Heard.{options_start, is_advertisement, options_in, is_valid_advertisement, refused_by, heard_from, heard_message, heard_of}
use Rattle.hearing.specs.declared.Heard.{Heard}

-- a packet of bytes has at least 40 bytes by its header, and at most 40 + 65,535
length_bounds : (p : List ℕ) → Bytes p → {i : Inner} → i ≡ inner_of p → (40 ≤ i.length) × (i.length ≤ 65575)
unfolding inner_of word_at
length_bounds p b e = rw e (omega arith, omega (arith, bytes-at p 4 b, bytes-at p 5 b))

-- the part of a whole packet that its header tells is as long as the header says
pub taken-length : (p : List ℕ) (i : Inner) → is_inner_malformed (length p) i ≡ false → i.length ≡ length (take i.length p)
taken-length p i right = let fits = inner-whole (length p) i right in rw length-take (omega arith)

pub taken_bounds : (p : List ℕ) → Bytes p → {i : Inner} → i ≡ inner_of p → is_inner_malformed (length p) i ≡ false
    → (40 ≤ length (take i.length p)) × (length (take i.length p) ≤ 65575)
taken_bounds p b {i} e right = rw (← taken-length p i right) (length_bounds p b e)

-- a valid advertisement is one whose options are whole
whole-last : (i : Inner) (p : List ℕ) → is_valid_advertisement i p ≡ (is_advertisement i p && (options_in p).whole)
unfolding is_valid_message is_advertisement
whole-last i p = go (is_link_local i.source) (has_fields advertisement_type options_start i p) (is_sum_right p) (are_options_whole (drop options_start (message_of p)))
  where
    go : (l f s o : Bool) → (l && (f && s && o)) ≡ (l && f && s && o)
    go true f s o = refl
    go false f s o = refl

stage : (routers : RouterList) (x : Heard) (o : Bool)
    → cond o x (refused_by AdvertisementInvalid routers) ≡ stop_or (λ r. refused_by r routers) (cond (not o) (Err AdvertisementInvalid) (Ok tt)) x
stage routers x true = refl
stage routers x false = refl

-- by what the options say
module _ (s : Settings) (routers : RouterList) (now : ℕ) (source p : List ℕ) (o : Options) (is : o ≡ options_in p) where
  pub heard-whole : o.whole ≡ true → heard_from s routers now source o.smallest ≡ heard_message s routers now source p
  unfolding heard_message
  heard-whole e = subst (λ (x : Options). heard_from s routers now source o.smallest ≡ cond x.whole (heard_from s routers now source x.smallest) (refused_by AdvertisementInvalid routers)) is (rw e)

  pub refused-part : o.whole ≡ false → refused_by AdvertisementInvalid routers ≡ heard_message s routers now source p
  unfolding heard_message
  refused-part e = subst (λ (x : Options). refused_by AdvertisementInvalid routers ≡ cond x.whole (heard_from s routers now source x.smallest) (refused_by AdvertisementInvalid routers)) is (rw e)

module _ (s : Settings) (routers : RouterList) (now : ℕ) (p : List ℕ) (right : is_inner_malformed (length p) (inner_of p) ≡ false) where
  -- an advertisement, its options aside, is heard by what its options say
  pub message_stage : is_advertisement (inner_of p) (take (inner_of p).length p) ≡ true
      → heard_message s routers now (inner_of p).source (take (inner_of p).length p) ≡ heard_of s routers now p
  unfolding heard_of heard_message
  message_stage a =
      let o = options_in (take (inner_of p).length p) in
      rw (right, whole-last, a) (stage routers (heard_from s routers now (inner_of p).source o.smallest) o.whole)

  -- a packet that is no advertisement is refused
  pub no_message : is_advertisement (inner_of p) (take (inner_of p).length p) ≡ false → refused_by AdvertisementInvalid routers ≡ heard_of s routers now p
  unfolding heard_of
  no_message a = rw (right, whole-last, a)
