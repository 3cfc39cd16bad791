-- When a message is written, and how long its header is. Assumes nothing.
use Rattle.std.specs.Prelude.{Ok, Err}
use Prim.Native.Nat.{ℕ, ◌+◌, ◌%◌, ◌≤◌, ◌<◌}
use mathlib.Core.Path.{◌≡◌, ap, ◌∙◌}
use mathlib.Core.Bool.{cond}
use mathlib.Core.List.{List, [], ◌∷◌, ◌++◌}
use native.Mathlib.Omega.{arith}
use borrow.Author.Tests.{lt-ltb, le-ltb}
use lib.ListN.{length, get_or, take, drop, length-append, length-drop}
use lib.Dec.{ltb}
use Rattle.checksum.specs.Sum.{ones_sum_from}
use Rattle.checksum.specs.Folding.{word_sum}
use Rattle.checksum.proofs.Bytes.{bytes_of, bytes-append}
use Rattle.checksum.proofs.Laws.{sum-exact, word_sum-append}
use Rattle.header.specs.Numbers.{inner_header}
use Rattle.header.specs.Fields.{address_at}
use Rattle.header.proofs.Words.{bytes-taken}
use Rattle.refusals.specs.declared.Refusal.TheVariants.{InnerMalformed, OutputShort}
use Rattle.messages.specs.Icmp.{solicitation_type, ipv6_header, icmp_sum, icmp_with, too_big_length, too_big_check, solicitation_length, solicitation_check}

module _ (n room : ℕ) where
  pub too_big_headless : n < 40 → too_big_check n room ≡ Err InnerMalformed
  unfolding too_big_check
  too_big_headless h = simp (lt-ltb _ _ h)

  pub too_big_short : 40 ≤ n → room < too_big_length n → too_big_check n room ≡ Err OutputShort
  unfolding too_big_check
  too_big_short h k = simp (le-ltb _ _ h, lt-ltb _ _ k)

  pub too_big_pass : 40 ≤ n → too_big_length n ≤ room → too_big_check n room ≡ Ok tt
  unfolding too_big_check
  too_big_pass h k = simp (le-ltb _ _ h, le-ltb _ _ k)

-- of a packet that has its header 15 alone is asked
pub too_big_room : (n room : ℕ) → inner_header ≤ n → too_big_check n room ≡ cond (ltb room (too_big_length n)) (Err OutputShort) (Ok tt)
unfolding too_big_check
too_big_room n room h = simp (le-ltb _ _ h)

pub solicitation-short : (room : ℕ) → room < solicitation_length → solicitation_check room ≡ Err OutputShort
unfolding solicitation_check
solicitation-short room h = simp (lt-ltb _ _ h)

pub solicitation_pass : (room : ℕ) → solicitation_length ≤ room → solicitation_check room ≡ Ok tt
unfolding solicitation_check
solicitation_pass room h = simp (le-ltb _ _ h)

-- the sum of a solicitation, its words added up exactly: those of the addresses, the message's length, the next header and the type
pub solicitation-sum : (from to : List ℕ) → length from ≡ 16 → length to ≡ 16 → ((i : ℕ) → get_or from i 0 < 256) → ((i : ℕ) → get_or to i 0 < 256)
    → word_sum from ≤ 524280 → word_sum to ≤ 524280
    → ones_sum_from (34114 + word_sum from + word_sum to) [] ≡ icmp_sum (from ++ to) (icmp_with solicitation_type 0 0 (0 ∷ 0 ∷ 0 ∷ 0 ∷ []))
unfolding icmp_sum word_sum
solicitation-sum from to lf lt bf bt hf ht =
    let rest : List ℕ = 0 ∷ 0 ∷ 0 ∷ 8 ∷ 0 ∷ 0 ∷ 0 ∷ 58 ∷ 133 ∷ 0 ∷ 0 ∷ 0 ∷ 0 ∷ 0 ∷ 0 ∷ 0 ∷ [] in
    let both : length (from ++ to) % 2 ≡ 0 = rw length-append (omega arith) in
    let words : word_sum ((from ++ to) ++ rest) ≡ word_sum from + word_sum to + 34114 =
    word_sum-append (from ++ to) rest both ∙ ap (λ (n : ℕ). n + 34114) (word_sum-append from to (omega arith)) in
    sum-exact (34114 + word_sum from + word_sum to) ((from ++ to) ++ rest) (omega arith) (omega arith)
    (bytes-append (from ++ to) rest (bytes-append from to (bytes_of from bf) (bytes_of to bt)) (omega arith))

pub length-ipv6_header : (n hop : ℕ) (from to : List ℕ) → length from ≡ 16 → length to ≡ 16 → length (ipv6_header n hop from to) ≡ 40
length-ipv6_header n hop from to lf lt = rw length-append (omega arith)

-- an address that is all there is a part of its packet
pub address-taken : (k : ℕ) (d : List ℕ) → k + 16 ≤ length d → address_at d k ≡ take 16 (drop k d)
unfolding address_at
address-taken k d h = bytes-taken 16 0 (drop k d) (rw (length-drop k d) (omega arith))
