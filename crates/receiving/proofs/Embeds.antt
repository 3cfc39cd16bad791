-- That an address embeds an IPv4 address, as three tests; and what is read of a payload says all that is asked. Assumes nothing.
use Rattle.std.specs.Bool.{then_some}
use Rattle.std.specs.Prelude.{Some, None, Ok}
use Prim.Native.Nat.{ℕ, zero, suc, ◌+◌, ◌/◌, ◌<◌}
use mathlib.Core.Path.{◌≡◌, refl, sym, ◌∙◌}
use mathlib.Core.Bool.{Bool, true, false, cond, not, ◌&&◌}
use mathlib.Core.List.{List}
use borrow.Author.Tests.{eqb-true}
use lib.Dec.{eqb}
use lib.ListN.{get_or, length}
use Rattle.lists.proofs.Tests.{and_left, and_right}
use Rattle.header.specs.Numbers.{inner_header}
use Rattle.header.specs.Fields.{word_at, address_at}
use Rattle.header.specs.Inner.{inner_of, is_inner_malformed}
use Rattle.address.specs.Address.{last_quad, agree, is_under, link_local_prefix, is_link_local, is_on_link, is_identifier, embedded_in, is_multicast_or_unspecified, is_bad_source_with}
use Rattle.address.specs.Prefixes.{rows_of}
use Rattle.address.specs.Quads.{bytes_in}
use Rattle.address.proofs.Bytes.{last-number}
use Rattle.address.specs.declared.quads.Quads.{Quads}
use Rattle.settings.specs.Settings.{embedded_to, forbidden_to}
use Rattle.settings.specs.declared.Settings.{Settings}
use Rattle.receiving.specs.Receive.{is_embedded, embeds}
use Rattle.routers.specs.Routers.{listed}
use Rattle.routers.specs.declared.Router.{Router}
use Rattle.receiving.specs.Stages.{inner_in, inner_check, passes_anyhow, open_check, packet_check}
use Rattle.receiving.proofs.Stages.{same_check}
use Rattle.receiving.specs.declared.judging.Opening.{Opening}

by_tests : (on_link identifier : Bool) (last v : ℕ) → is_embedded (cond (on_link && identifier) (Some last) None) v ≡ cond (identifier && eqb last v) on_link false
by_tests true true last v = go (eqb last v)
  where
    go : (t : Bool) → t ≡ cond t true false
    go true = refl
    go false = refl
by_tests true false last v = refl
by_tests false true last v = go (eqb last v)
  where
    go : (t : Bool) → false ≡ cond t false false
    go true = refl
    go false = refl
by_tests false false last v = refl

-- an address embeds v if it has the identifier and then v, and is on-link
pub embeds-quads : (s : Settings) (q : Quads) (v : ℕ) → q.last < 4294967296
    → embeds s (bytes_in q) v
    ≡ cond (is_identifier (bytes_in q) && eqb q.last v) (is_on_link (rows_of s.prefixes) s.prefix_count (bytes_in q)) false
unfolding embeds embedded_to embedded_in
embeds-quads s q v h =
    let a : List ℕ = bytes_in q in
    rw (last-number q h) (by_tests (is_on_link (rows_of s.prefixes) s.prefix_count a) (is_identifier a) q.last v)

-- a link-local address begins with fe, so it is no bad source, whatever is forbidden
link_local_good : (forbidden : Bool) (a : List ℕ) → is_link_local a ≡ true → is_bad_source_with forbidden a ≡ false
unfolding is_under is_bad_source_with is_multicast_or_unspecified
link_local_good forbidden a h = rw (first 7 h)
  where
    -- the first byte, where so many more agree
    first : (n : ℕ) → agree (suc n) link_local_prefix a ≡ true → get_or a 0 0 ≡ 0xFE
    first zero e = sym (eqb-true 0xFE (get_or a 0 0) e)
    first (suc n) e = first n (and_left (agree (suc n) link_local_prefix a) _ e)

-- what passes anyhow passes 8 to 10
pub passes : (x : Opening) → x.address.last < 4294967296 → passes_anyhow x ≡ true
    → (s : Settings) (isListed : Bool) → inner_check s isListed x.source x.length (inner_in x) ≡ Ok tt
unfolding passes_anyhow inner_check is_on_link
passes x h t s isListed =
    let a : List ℕ = bytes_in x.address in
    let it : Bool = eqb x.address.last x.source in
    let right : Bool = not (is_inner_malformed x.length (inner_in x)) in
    let sender = and_left (it && is_link_local a && is_identifier a) right t in
    let whole = and_right (it && is_link_local a && is_identifier a) right t in
    let identified = and_right (it && is_link_local a) (is_identifier a) sender in
    let prefixed = and_right it (is_link_local a) (and_left (it && is_link_local a) (is_identifier a) sender) in
    let embedded = and_left it (is_link_local a) (and_left (it && is_link_local a) (is_identifier a) sender) in
    rw (not_true (is_inner_malformed x.length (inner_in x)) whole, link_local_good (forbidden_to s (last_quad a)) a prefixed, embeds-quads s x.address x.source h, identified, embedded, prefixed)
  where
    not_true : (b : Bool) → not b ≡ true → b ≡ false
    not_true true e = cc
    not_true false e = refl

-- what is read of a payload p from an outer source
module _ (source : ℕ) (p : List ℕ) (q : Quads) (same : bytes_in q ≡ address_at p 8) where
  abbrev pub opening : Opening
  opening = record { source = source; length = length p; version = get_or p 0 0 / 16; packet = inner_header + word_at p 4; address = q }

  module _ (s : Settings) (routers : List Router) where
    checked : inner_check s (listed source routers) source (length p) (inner_in opening) ≡ packet_check s routers source p
    unfolding inner_of
    checked = same_check s (listed source routers) source (length p) (inner_of p) q same

    -- it is to be judged, unless it passes anyhow
    pub still_open : q.last < 4294967296 → open_check s routers (then_some (not (passes_anyhow opening)) opening) ≡ packet_check s routers source p
    still_open h = go (passes_anyhow opening) refl
      where
        go : (t : Bool) → passes_anyhow opening ≡ t → open_check s routers (then_some (not t) opening) ≡ packet_check s routers source p
        go true e = sym (sym checked ∙ passes opening h e s (listed source routers))
        go false e = checked
