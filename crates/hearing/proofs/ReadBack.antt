-- A neighbour discovery message that we write is valid where it is read. Assumes nothing.
use Rattle.std.specs.Prelude.{Some, Ok}
use Prim.Native.Nat.{ℕ, ◌+◌, ◌*◌, ◌≤◌, ◌<◌}
use mathlib.Core.Path.{◌≡◌, refl, sym, ap, subst, ◌∙◌}
use mathlib.Core.List.{List, ◌∷◌, ◌++◌, append_assoc}
use native.Mathlib.Omega.{arith}
use lib.ListN.{length, take, drop, get_or, length-append}
use lib.Seq.{take_at, drop_at, take-length}
use Rattle.checksum.specs.Sum.{ones_sum}
use Rattle.header.specs.Wrap.{be32}
use Rattle.checksum.proofs.Bytes.{Bytes, bytes-append}
use Rattle.header.specs.Fields.{word_at, address_at}
use Rattle.header.specs.declared.inner.Inner.{Inner}
use Rattle.messages.specs.Icmp.{ipv6_header, icmp_sum, icmp_message, icmp_packet}
use Rattle.messages.proofs.WriterLaws.{length-ipv6_header, address-taken}
use Rattle.messages.proofs.Right.{message-right}
use Rattle.options.specs.Facts.{WholeOptions, DueBy}
use Rattle.address.specs.Address.{link_local_of, is_under}
use Rattle.address.specs.Facts.{LinkLocal}
use Rattle.address.proofs.Laws.{formed-embeds}
use Rattle.address.proofs.Facts.{decides_link_local}
use Rattle.address.specs.Prefixes.{rows_of}
use Rattle.settings.specs.Settings.{embedded_to}
use Rattle.settings.specs.declared.Settings.{Settings}
use Rattle.settings.proofs.Facts.{embedded_to_lem}
use Rattle.routers.specs.Routers.{live}
use Rattle.routers.specs.Facts.{Listed, OnlyDue}
use Rattle.routers.specs.declared.RouterList.{RouterList}
use Rattle.settings.specs.Facts.{IsatapTo}
use Rattle.header.specs.Whole.{WholeInner}
use Rattle.hearing.specs.Heard.{heard_of}
use Rattle.hearing.specs.Facts.{fields_of, both_addresses, message_behind, ValidMessage, IsAdvertisement, ValidAdvertisement, router_lifetime}
use Rattle.hearing.proofs.Laws.{heard-exactly}

module _ (from to body : List ℕ) (kind : ℕ) (lf : length from ≡ 16) (lt : length to ≡ 16) where
  abbrev packet : List ℕ
  packet = icmp_packet 255 from to kind 0 body

  abbrev message : List ℕ
  message = icmp_message (from ++ to) kind 0 body

  length-message : length message ≡ 4 + length body
  unfolding icmp_message
  length-message = omega arith

  pub behind : message_behind packet ≡ message
  unfolding icmp_packet
  behind = drop_at (ipv6_header (4 + length body) 255 from to) message 40 (length-ipv6_header (4 + length body) 255 from to lf lt)

  pub length_back : length packet ≡ 44 + length body
  unfolding icmp_packet
  length_back =
      length-append (ipv6_header (4 + length body) 255 from to) message
      ∙ omega (arith, length-ipv6_header (4 + length body) 255 from to lf lt, length-message)

  addresses : both_addresses packet ≡ from ++ to
  unfolding icmp_packet
  addresses = take_at (from ++ to) message 32 (length-append from to ∙ omega arith)

  first : take 16 (drop 8 packet) ≡ from
  unfolding icmp_packet
  first = rw (append_assoc from to message) (take_at from (to ++ message) 16 lf)

  source : address_at packet 8 ≡ from
  source = address-taken 8 packet (omega (arith, length_back)) ∙ first

  -- the fields of its header as they were put in
  abbrev pub put_in : Inner
  put_in = record { version = 6; length = 44 + length body; next = 58; hop = 255; source = from }

  number : 4 + length body ≤ 65535 → 40 + word_at packet 4 ≡ 44 + length body
  unfolding icmp_packet word_at
  number most = omega arith

  heads : fields_of packet ≡ record { version = 6; length = 40 + word_at packet 4; next = 58; hop = 255; source = address_at packet 8 }
  unfolding icmp_packet
  heads = refl

  pub fields : 4 + length body ≤ 65535 → fields_of packet ≡ put_in
  fields most = heads ∙ rw (number most, source)

  summed : icmp_sum (from ++ to) message ≡ 65535 → ones_sum ((from ++ to) ++ be32 (length message) (0 ∷ (0 ∷ (0 ∷ (58 ∷ message))))) ≡ 0xFFFF
  unfolding icmp_sum
  summed h = h

  head : get_or message 0 0 ≡ kind
  unfolding icmp_message
  head = refl

  second : get_or message 1 0 ≡ 0
  unfolding icmp_message
  second = refl

  -- valid, whatever the options are that its body ends with
  pub valid : (least : ℕ) (os : List (List ℕ)) → 4 + length body ≤ 65535 → least ≤ 4 + length body → kind < 256 → Bytes from → Bytes to → Bytes body
      → WholeOptions (drop least message) os → ValidMessage kind least put_in packet os
  valid least os most long small bf bt bb options =
      let right = message-right (from ++ to) kind 0 body (rw (length-append from to) (omega arith)) small (omega arith) (omega arith) (bytes-append from to bf bt) bb in
      record {
        next_header = refl;
        hop_limit = refl;
        checksum = rw (behind, addresses) (summed right);
        type = rw behind head;
        code = rw behind second;
        long = rw (behind, length-message) long;
        options = rw behind options;
      }

-- an advertisement from the address that we form of v, which stands in the router list
module _ (s : Settings) (routers : RouterList) (v : ℕ) (to body : List ℕ) (os : List (List ℕ)) (small : v < 4294967296) (lt : length to ≡ 16)
    (most : 4 + length body ≤ 65535) (long : 16 ≤ 4 + length body) (bt : Bytes to) (bb : Bytes body)
    (options : WholeOptions (drop 16 (icmp_message (link_local_of v ++ to) 134 0 body)) os) (listed : Listed v (live routers)) where
  abbrev advertisement : List ℕ
  advertisement = icmp_packet 255 (link_local_of v) to 134 0 body

  length-formed : length (link_local_of v) ≡ 16
  unfolding link_local_of
  length-formed = refl

  bytes-formed : Bytes (link_local_of v)
  unfolding link_local_of
  bytes-formed = omega arith

  link_local_lem : LinkLocal (link_local_of v)
  unfolding link_local_of is_under
  link_local_lem = (decides_link_local (link_local_of v)).holds refl

  embeds : embedded_to s (link_local_of v) ≡ Some v
  unfolding embedded_to
  embeds = formed-embeds (rows_of s.prefixes) s.prefix_count v small

  long_as_named : length advertisement ≡ 44 + length body
  long_as_named = length_back (link_local_of v) to body 134 length-formed lt

  abbrev named : Inner
  named = put_in (link_local_of v) to body 134 length-formed lt

  taken : take (44 + length body) advertisement ≡ advertisement
  taken = ap (λ (n : ℕ). take n advertisement) (sym long_as_named) ∙ take-length advertisement

  as_named : named ≡ fields_of advertisement
  as_named = sym (fields (link_local_of v) to body 134 length-formed lt most)

  cut : advertisement ≡ take (fields_of advertisement).length advertisement
  cut = sym taken ∙ ap (λ (i : Inner). take i.length advertisement) as_named

  valid-named : IsAdvertisement named advertisement os
  valid-named = record {
    message = valid (link_local_of v) to body 134 length-formed lt 16 os most long (omega arith) bytes-formed bt bb options;
    link_local = link_local_lem;
  }

  pub valid-advertisement : ValidAdvertisement s routers advertisement v
  valid-advertisement = record {
    whole = subst (WholeInner (length advertisement)) as_named (record { some = omega (arith, long_as_named); version = refl; whole = omega (arith, long_as_named) });
    options = os;
    valid =
        subst (λ (i : Inner). IsAdvertisement i (take (fields_of advertisement).length advertisement) os) as_named
        (subst (λ (q : List ℕ). IsAdvertisement named q os) cut valid-named);
    embeds = subst (λ (i : Inner). IsatapTo s i.source v) as_named (embedded_to_lem s (link_local_of v) v embeds);
    in_list = listed;
  }

  -- the router's lifetime stands in the body's bytes 2 and 3
  lifetime : router_lifetime advertisement ≡ get_or body 2 0 * 256 + get_or body 3 0
  unfolding icmp_message
  lifetime = rw (behind (link_local_of v) to body 134 length-formed lt)

  -- it is accepted at any time, and its router is due when its lifetimes say
  pub heard-back : (now : ℕ)
      → ((heard_of s routers now advertisement).answer ≡ Ok v)
      × ((due : ℕ)
      × DueBy now s.interval (get_or body 2 0 * 256 + get_or body 3 0) os due
      × OnlyDue routers v due (heard_of s routers now advertisement).routers)
  unfolding valid-advertisement
  heard-back now =
      let exactly = heard-exactly s routers now advertisement in
      let d = exactly.due v valid-advertisement in
      let same : router_lifetime (take (fields_of advertisement).length advertisement) ≡ get_or body 2 0 * 256 + get_or body 3 0 =
      ap router_lifetime (sym cut) ∙ lifetime in
      (exactly.whenever v valid-advertisement, (d.0, subst (λ (l : ℕ). DueBy now s.interval l os d.0) same d.1, d.2))
