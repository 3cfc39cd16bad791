-- Laws of how the code makes an ICMPv6 packet. Assumes nothing.
use Prim.Native.Nat.{ℕ, ◌+◌, ◌-◌, ◌/◌, ◌%◌, ◌≤◌}
use mathlib.Core.Path.{◌≡◌, refl, sym, ap, ◌∙◌}
use mathlib.Core.List.{List, [], ◌∷◌, ◌++◌, append_assoc}
use native.Mathlib.Omega.{arith}
use native.Mathlib.Nat.{zero-add}
use lib.ListN.{length, take, drop, length-append, length-drop, take-append-drop}
use lib.Seq.{take_at, drop_at, drop-drop, length-take-le, take-append-add, drop-append-add}
use Rattle.checksum.specs.Sum.{ones_sum_from, ones_complement}
use Rattle.checksum.proofs.Bytes.{Bytes, bytes_take, bytes_drop}
use Rattle.checksum.proofs.Laws.{sum_moved}
use Rattle.checksum.specs.Folding.{word_sum}
use Rattle.lists.proofs.Parts.{drop-take}
use Rattle.lent.specs.Written.{written}
use Rattle.lent.proofs.Laws.{length_over, written_again}
use Rattle.header.specs.Wrap.{be16, be32}
use Rattle.messages.specs.Sealed.{sealed}
use Rattle.messages.specs.Icmp.{ipv6_header, pseudo_tail, icmp_sum, icmp_with, icmp_message, icmp_packet}

tail-sum : (k : ℕ) → k ≤ 65535 → word_sum (pseudo_tail k) ≡ k + 58
unfolding word_sum
tail-sum k h = omega arith

-- one pass over an ICMPv6 packet of n bytes, from the source address on, gives the sum with its pseudo header, where it is
-- started with the message's length and the next header
module _ (n : ℕ) (d : List ℕ) (least : 40 ≤ n) (most : n ≤ 65575) (fits : n ≤ length d) (bytes : Bytes d) where
  pub one_pass : (start : ℕ) → start ≡ n - 40 + 58 → ones_sum_from start (take (n - 8) (drop 8 d)) ≡ icmp_sum (take 32 (drop 8 (take n d))) (drop 40 (take n d))
  unfolding icmp_sum
  one_pass start begun =
      let p = take n d in
      let whole : length p ≡ n = length-take-le n d fits in
      let a = take 32 (drop 8 p) in
      let m = drop 40 p in
      let lm : length m ≡ n - 40 = length-drop 40 p ∙ omega arith in
      let la : length a ≡ 32 = length-take-le 32 (drop 8 p) (rw length-drop (omega arith)) in
      let split : drop 8 p ≡ a ++ m = sym (ap (λ (l : List ℕ). a ++ l) (sym (drop-drop 32 8 p)) ∙ take-append-drop 32 (drop 8 p)) in
      let t : 0 + word_sum (pseudo_tail (n - 40)) ≡ n - 40 + 58 = zero-add _ ∙ tail-sum (n - 40) (omega arith) in
      let parts : Bytes p = bytes_take n d bytes in
      ap (λ (k : ℕ). ones_sum_from k (take (n - 8) (drop 8 d))) begun
      ∙ ap (λ (l : List ℕ). ones_sum_from (n - 40 + 58) l) (sym (drop-take 8 n d (omega arith) (omega arith)) ∙ split)
      ∙ sym
      (ap (λ (k : ℕ). ones_sum_from 0 (a ++ (pseudo_tail k ++ m))) lm
      ∙ sum_moved 0 a (pseudo_tail (n - 40)) m (omega arith) refl (omega arith) (bytes_take 32 (drop 8 p) (bytes_drop 8 p parts)) (omega arith) (bytes_drop 40 p parts)
      ∙ ap (λ (k : ℕ). ones_sum_from k (a ++ m)) t)

length-sealed : (p : List ℕ) → 44 ≤ length p → length (sealed p) ≡ length p
unfolding sealed
length-sealed p h = length_over 42 (be16 _ []) p h

-- a packet that was written over d, and sealed there
pub sealed-written : (n : ℕ) (w d : List ℕ) {d₁ d₂ : List ℕ} → length w ≡ n → 44 ≤ n → d₁ ≡ written w d → d₂ ≡ written (sealed (take n d₁)) d₁
    → d₂ ≡ written (sealed w) d
sealed-written n w d l h e f = f ∙ rw (e, take_at w (drop (length w) d) n l) (written_again (sealed w) w d (length-sealed w (omega arith)))

sealed_parts : (p h m a body : List ℕ) (kind code : ℕ) → take 32 (drop 8 p) ≡ a → drop 40 p ≡ m → take 42 p ≡ h ++ (kind ∷ (code ∷ []))
    → drop 44 p ≡ body → sealed p ≡ h ++ icmp_with kind code (ones_complement (icmp_sum a m)) body
unfolding sealed
sealed_parts p h m a body kind code ea em ef eg = rw (ea, em, ef, eg) (append_assoc h (kind ∷ (code ∷ [])) _)

-- sealing a message gives the packet that the specification asks for
pub sealed-packet : (hop : ℕ) (from to : List ℕ) (kind code : ℕ) (body : List ℕ) → length from ≡ 16 → length to ≡ 16
    → sealed (ipv6_header (4 + length body) hop from to ++ icmp_with kind code 0 body) ≡ icmp_packet hop from to kind code body
unfolding icmp_packet icmp_message
sealed-packet hop from to kind code body lf lt =
    let h = ipv6_header (4 + length body) hop from to in
    let m = icmp_with kind code 0 body in
    let l : length h ≡ 40 = rw length-append (omega arith) in
    sealed_parts (h ++ m) h m (from ++ to) body kind code (take_at (from ++ to) m 32 (rw length-append (omega arith))) (drop_at h m 40 l)
    (rw l at (take-append-add h m 2))
    (rw l at (drop-append-add h m 4))

-- the 32-bit number of a 16-bit one
pub be32-small : (x : ℕ) (s : List ℕ) → x ≤ 65535 → 0 ∷ (0 ∷ be16 x s) ≡ be32 x s
be32-small x s h =
    let e₁ : x / 16777216 ≡ 0 = omega arith in
    let e₂ : x / 65536 % 256 ≡ 0 = omega arith in
    let e₃ : x / 256 % 256 ≡ x / 256 = omega arith in
    rw (e₁, e₂, e₃)
