-- `hearing::advertisement` meets its contract: by the test that goes before the checksum's.
use Prim.Native.Nat.{ℕ}
use mathlib.Core.Path.{◌≡◌, refl, sym, ◌∙◌}
use mathlib.Core.Bool.{Bool, true, false, ◌&&◌}
use mathlib.Core.List.{List}
use borrow.Author.Tests.{ne_eqb}
use Rattle.address.specs.Address.{is_link_local}
use Rattle.header.specs.Numbers.{icmpv6}
use Rattle.header.specs.declared.inner.Inner.{Inner}
use Rattle.messages.specs.Icmp.{advertisement_type}
use Rattle.hearing.specs.Message.{is_sum_right, has_fields}
use Rattle.hearing.specs.Heard.{options_start, is_advertisement}
use Rattle.hearing.proofs.advertisement.Goals as goal

-- a packet of another next header
other : (i : Inner) (p : List ℕ) → (i.next ≡ icmpv6 → ⊥) → false ≡ is_advertisement i p
unfolding is_advertisement has_fields
other i p n = rw (ne_eqb i.next icmpv6 n) (go (is_link_local i.source) (is_sum_right p))
  where
    go : (l s : Bool) → false ≡ (l && false && s)
    go true s = refl
    go false s = refl

pub returns-then-p-ne-ICMPV6 : goal.returns-then-p-ne-ICMPV6
returns-then-p-ne-ICMPV6 c = let a = c.args in other a.p.header a.p.bytes.now c.if-p-ne-ICMPV6.true

pub returns-then-link_local_prefixed-fields_right : goal.returns-then-link_local_prefixed-fields_right
unfolding is_advertisement
returns-then-link_local_prefixed-fields_right c = let tested : (let a = c.args in
    (c.link_local_prefixed.result && c.fields_right.result) ≡ (is_link_local a.p.header.source && has_fields advertisement_type options_start a.p.header a.p.bytes.now)) = (rw (c.fields_right.ensures, c.link_local_prefixed.ensures)) in
    rw (sym tested ∙ c.if-link_local_prefixed-fields_right.true) c.sum_right.ensures

pub returns-else-link_local_prefixed-fields_right : goal.returns-else-link_local_prefixed-fields_right
unfolding is_advertisement
returns-else-link_local_prefixed-fields_right c = let tested : (let a = c.args in
    (c.link_local_prefixed.result && c.fields_right.result) ≡ (is_link_local a.p.header.source && has_fields advertisement_type options_start a.p.header a.p.bytes.now)) = (rw (c.fields_right.ensures, c.link_local_prefixed.ensures)) in
    rw (sym tested ∙ c.if-link_local_prefixed-fields_right.false)
