-- A solicitation is valid exactly if the rules hold of it. Assumes nothing.
use Prim.Native.Nat.{ℕ}
use mathlib.Core.Path.{◌≡◌}
use mathlib.Core.Bool.{true, not}
use mathlib.Core.List.{List}
use borrow.Author.Tests.{not-true}
use lib.ListN.{length, take, drop}
use Rattle.lists.specs.Any.{Some}
use Rattle.lists.proofs.Tests.{and_left, and_right}
use Rattle.lists.proofs.Decides.{Decides, decides_not, decides_and, decides_as}
use Rattle.address.specs.Facts.{Unspecified}
use Rattle.address.proofs.Facts.{decides_unspecified}
use Rattle.header.specs.Inner.{inner_of, is_inner_malformed}
use Rattle.header.specs.declared.inner.Inner.{Inner}
use Rattle.header.proofs.InnerLaws.{inner-whole, whole-inner}
use Rattle.messages.specs.Icmp.{solicitation_type}
use Rattle.options.specs.Options.{options_of}
use Rattle.options.specs.Facts.{WholeOptions, SourceLinkLayerOption}
use Rattle.options.proofs.Facts.{decides_source_link_layer}
use Rattle.hearing.specs.Message.{message_of, is_valid_message}
use Rattle.hearing.specs.Solicitation.{solicitation_options, is_source_allowed, is_valid_solicitation, is_solicitation}
use Rattle.hearing.specs.Facts.{IsSolicitation, ValidSolicitation}
use Rattle.hearing.proofs.MessageLaws.{message_rules, rules_message}

module _ (i : Inner) (q : List ℕ) where
  decides_allowed : (os : List (List ℕ)) → WholeOptions (drop solicitation_options (message_of q)) os
      → Decides (is_source_allowed i.source q) (Unspecified i.source → Some SourceLinkLayerOption os → ⊥)
  decides_allowed os w =
      let both = decides_and _ _ (decides_unspecified i.source) (decides_source_link_layer (drop solicitation_options (message_of q)) os w) in
      decides_as _ (decides_not _ both) (λ n u s. n (u, s)) (λ n f. n f.0 f.1)

  solicitation_facts : is_valid_solicitation i q ≡ true → IsSolicitation i q (options_of (drop solicitation_options (message_of q)))
  unfolding is_valid_solicitation
  solicitation_facts v =
      let valid = is_valid_message solicitation_type solicitation_options i q in
      let rules = message_rules solicitation_type solicitation_options i q (and_left valid (is_source_allowed i.source q) v) in
      record { message = rules; no_link_layer = (decides_allowed _ rules.options).holds (and_right valid (is_source_allowed i.source q) v) }

  facts_solicitation : (os : List (List ℕ)) → IsSolicitation i q os → is_valid_solicitation i q ≡ true
  unfolding is_valid_solicitation
  facts_solicitation os s =
      rw (rules_message solicitation_type solicitation_options i q os s.message, (decides_allowed os s.message.options).passes s.no_link_layer)

-- a packet is a solicitation exactly if it is one of the facts
pub decides_solicitation : (p : List ℕ) → Decides (is_solicitation p) (ValidSolicitation p)
unfolding is_solicitation inner_of
decides_solicitation p =
    let i = inner_of p in
    let q = take i.length p in
    let whole = not (is_inner_malformed (length p) i) in
    record {
      holds = λ h. record {
        whole = inner-whole (length p) i (not-true _ (and_left whole (is_valid_solicitation i q) h));
        options = options_of (drop solicitation_options (message_of q));
        valid = solicitation_facts i q (and_right whole (is_valid_solicitation i q) h);
      };
      passes = λ v. rw (whole-inner (length p) i v.whole, facts_solicitation i q v.options v.valid);
    }
