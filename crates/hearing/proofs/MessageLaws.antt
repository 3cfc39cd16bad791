-- A message is valid exactly if the rules hold of it. Assumes nothing.
use Prim.Native.Nat.{ℕ, ◌≤◌}
use mathlib.Core.Path.{◌≡◌}
use mathlib.Core.Bool.{true, ◌&&◌}
use mathlib.Core.List.{List, ◌++◌}
use lib.ListN.{length, drop, get_or}
use Rattle.lists.proofs.Tests.{and_left, and_right}
use Rattle.lists.proofs.Decides.{Decides, decides_eq, decides_le, decides_and}
use Rattle.checksum.specs.Sum.{ones_sum}
use Rattle.header.specs.declared.inner.Inner.{Inner}
use Rattle.messages.specs.Icmp.{pseudo_tail, icmp_sum}
use Rattle.options.specs.Options.{options_of, are_options_whole}
use Rattle.options.proofs.Facts.{whole-options, options-whole}
use Rattle.hearing.specs.Message.{addresses_of, message_of, is_sum_right, has_fields, is_valid_message}
use Rattle.hearing.specs.Facts.{ValidMessage}

decides_sum : (p : List ℕ) → Decides (is_sum_right p) (ones_sum (addresses_of p ++ (pseudo_tail (length (message_of p)) ++ message_of p)) ≡ 0xFFFF)
unfolding is_sum_right icmp_sum
decides_sum p = decides_eq (ones_sum (addresses_of p ++ (pseudo_tail (length (message_of p)) ++ message_of p))) 0xFFFF

module _ (kind least : ℕ) (i : Inner) (p : List ℕ) where
  decides_fields : Decides (has_fields kind least i p)
      (((((i.next ≡ 58) × (i.hop ≡ 255)) × (get_or (message_of p) 0 0 ≡ kind)) × (get_or (message_of p) 1 0 ≡ 0)) × (least ≤ length (message_of p)))
  unfolding has_fields
  decides_fields =
      let m = message_of p in
      let header = decides_and _ _ (decides_eq i.next 58) (decides_eq i.hop 255) in
      let kinds = decides_and _ _ (decides_and _ _ header (decides_eq (get_or m 0 0) kind)) (decides_eq (get_or m 1 0) 0) in
      decides_and _ _ kinds (decides_le least (length m))

  pub message_rules : is_valid_message kind least i p ≡ true → ValidMessage kind least i p (options_of (drop least (message_of p)))
  unfolding is_valid_message
  message_rules h =
      let whole = are_options_whole (drop least (message_of p)) in
      let ahead = and_left (has_fields kind least i p && is_sum_right p) whole h in
      let f = decides_fields.holds (and_left (has_fields kind least i p) (is_sum_right p) ahead) in
      record {
        next_header = f.0.0.0.0;
        hop_limit = f.0.0.0.1;
        checksum = (decides_sum p).holds (and_right (has_fields kind least i p) (is_sum_right p) ahead);
        type = f.0.0.1;
        code = f.0.1;
        long = f.1;
        options = whole-options (drop least (message_of p)) (and_right (has_fields kind least i p && is_sum_right p) whole h);
      }

  pub rules_message : (os : List (List ℕ)) → ValidMessage kind least i p os → is_valid_message kind least i p ≡ true
  unfolding is_valid_message
  rules_message os v =
      let fields = decides_fields.passes ((((v.next_header, v.hop_limit), v.type), v.code), v.long) in
      rw (fields, (decides_sum p).passes v.checksum, options-whole (drop least (message_of p)) os v.options)
