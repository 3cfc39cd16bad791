-- Laws of headers that are put before what already stands in the output. Assumes nothing.
use Prim.Native.Nat.{ℕ, ◌+◌, ◌-◌, ◌≤◌}
use mathlib.Core.Path.{◌≡◌, sym, ap, ◌∙◌}
use mathlib.Core.Bool.{Bool, true, false, ◌&&◌}
use mathlib.Core.List.{List, [], ◌∷◌, ◌++◌, append_assoc}
use native.Mathlib.Omega.{arith}
use borrow.Author.Tests.{leb-true, le-leb}
use lib.ListN.{length, take, drop, get_or, length-append, length-drop, take-append-drop}
use lib.Dec.{leb}
use lib.Seq.{drop-drop, take_at, drop_at, take_all, length-take-le}
use Rattle.lists.proofs.Tests.{and_left, and_right}
use Rattle.lists.proofs.Parts.{drop-take}
use Rattle.lent.specs.Written.{written, over, written_at}
use Rattle.lent.proofs.Laws.{length_over, written_at-more}
use Rattle.messages.specs.Sealed.{sealed}
use Rattle.messages.specs.Icmp.{ipv6_header, icmp_with, icmp_message, icmp_packet, message_headers, longest_packet, enclosed}
use Rattle.messages.proofs.SealedLaws.{sealed-written, sealed-packet}
use Rattle.header.proofs.Words.{bytes-taken}
use Rattle.messages.proofs.WriterLaws.{length-ipv6_header}

-- what the test of a packet's length says
pub fits : (n room : ℕ) {t : Bool} → t ≡ (leb message_headers n && leb n longest_packet && leb n room) → t ≡ true
    → (message_headers ≤ n) × (n ≤ longest_packet) × (n ≤ room)
fits n room e h =
    let both = leb message_headers n && leb n longest_packet in
    let all = sym e ∙ h in
    let lengths = and_left both (leb n room) all in
    (leb-true _ _ (and_left (leb message_headers n) (leb n longest_packet) lengths), leb-true _ _ (and_right (leb message_headers n) (leb n longest_packet) lengths), leb-true _ _ (and_right both (leb n room) all))

-- four bytes, read one by one
four_bytes : (l : List ℕ) → length l ≡ 4 → get_or l 0 0 ∷ (get_or l 1 0 ∷ (get_or l 2 0 ∷ (get_or l 3 0 ∷ []))) ≡ l
four_bytes l h = bytes-taken 4 0 l (omega arith) ∙ take_all 4 l (omega arith)

-- what stands behind a write up to n, counted to it
written_up_to : (n : ℕ) (v d : List ℕ) → length v ≤ n → n ≤ length d → written v d ≡ written (v ++ drop (length v) (take n d)) d
written_up_to n v d h k =
    let rest = drop (length v) (take n d) in
    let r : rest ≡ take (n - length v) (drop (length v) d) = drop-take (length v) n d h (omega arith) in
    let lr : length rest ≡ n - length v = rw (length-drop, length-take-le n d k) in
    let all : length (v ++ rest) ≡ length v + (n - length v) = length-append v rest ∙ ap (λ (j : ℕ). length v + j) lr in
    let back : rest ++ drop (length v + (n - length v)) d ≡ drop (length v) d =
    rw r (ap (λ (l : List ℕ). take (n - length v) (drop (length v) d) ++ l) (sym (drop-drop (n - length v) (length v) d)) ∙ take-append-drop (n - length v) (drop (length v) d))
    in
    sym (rw all (append_assoc v rest _ ∙ ap (λ (l : List ℕ). v ++ l) back))

-- a packet that cannot be or does not fit is not written
pub enclosed-not : (hop : ℕ) (from to : List ℕ) (kind : ℕ) (four : List ℕ) (n : ℕ) (out : List ℕ)
    → (leb message_headers n && leb n longest_packet && leb n (length out)) ≡ false → enclosed hop from to kind four n out ≡ out
unfolding enclosed
enclosed-not hop from to kind four n out h = rw h

-- a packet that can be and that fits is what is put together
pub enclosed-fits : (hop : ℕ) (from to : List ℕ) (kind : ℕ) (four : List ℕ) (n : ℕ) (out : List ℕ) → message_headers ≤ n → n ≤ longest_packet → n ≤ length out
    → enclosed hop from to kind four n out ≡ written (icmp_packet hop from to kind 0 (four ++ drop message_headers (take n out))) out
unfolding enclosed
enclosed-fits hop from to kind four n out h k l = rw (le-leb _ _ h, le-leb _ _ k, le-leb _ _ l)

-- the IPv6 header, the front of the message and the checksum, written one after another
pub enclosed_by : (hop : ℕ) (from to : List ℕ) (kind : ℕ) (four : List ℕ) (n : ℕ) (out : List ℕ) {d₁ d₂ d₃ : List ℕ}
    → length from ≡ 16 → length to ≡ 16 → length four ≡ 4 → (message_headers ≤ n) × (n ≤ longest_packet) × (n ≤ length out)
    → d₁ ≡ written (ipv6_header (n - 40) hop from to) out → d₂ ≡ written_at 40 (kind ∷ (0 ∷ (0 ∷ (0 ∷ (get_or four 0 0 ∷ (get_or four 1 0 ∷ (get_or four 2 0 ∷ (get_or four 3 0 ∷ [])))))))) d₁ → d₃ ≡ written (sealed (take n d₂)) d₂
    → d₃ ≡ enclosed hop from to kind four n out
enclosed_by hop from to kind four n out {d₁} lf lt l4 (h, k, l) e f g =
    let header = ipv6_header (n - 40) hop from to in
    let front : List ℕ = kind ∷ (0 ∷ (0 ∷ (0 ∷ four))) in
    let rest = drop 48 (take n out) in
    let lh : length header ≡ 40 = length-ipv6_header (n - 40) hop from to lf lt in
    let lb : length (header ++ front) ≡ 48 = rw length-append (omega arith) in
    let lr : length rest ≡ n - 48 = rw (length-drop, length-take-le n out l) in
    let body : n - 40 ≡ 4 + length (four ++ rest) = rw length-append (omega arith) in
    let all : length (header ++ (front ++ rest)) ≡ n = rw length-append (omega arith) in
    let up = written_up_to n (header ++ front) out (omega arith) l in
    let f₁ = f ∙ ap (λ (w : List ℕ). written_at 40 (kind ∷ (0 ∷ (0 ∷ (0 ∷ w)))) d₁) (four_bytes four l4) in
    let e₂ = written_at-more 40 header front out lh (omega arith) e f₁ ∙ up ∙ ap (λ (j : ℕ). written ((header ++ front) ++ drop j (take n out)) out) lb ∙ ap (λ (w : List ℕ). written w out) (append_assoc header front rest) in
    let done = sealed-written n (header ++ (front ++ rest)) out all (omega arith) e₂ g in
    let same : header ++ (front ++ rest) ≡ ipv6_header (4 + length (four ++ rest)) hop from to ++ icmp_with kind 0 0 (four ++ rest) =
    ap (λ (j : ℕ). ipv6_header j hop from to ++ (front ++ rest)) body
    in
    done
    ∙ ap (λ (w : List ℕ). written w out) (ap sealed same ∙ sealed-packet hop from to kind 0 (four ++ rest) lf lt)
    ∙ sym (enclosed-fits hop from to kind four n out h k l)

-- a packet is 44 bytes longer than what stands behind its checksum
pub length-icmp_packet : (hop : ℕ) (from to : List ℕ) (kind code : ℕ) (body : List ℕ) → length from ≡ 16 → length to ≡ 16
    → length (icmp_packet hop from to kind code body) ≡ 44 + length body
unfolding icmp_packet icmp_message
length-icmp_packet hop from to kind code body lf lt =
    let header = ipv6_header (4 + length body) hop from to in
    let lh : length header ≡ 40 = length-ipv6_header (4 + length body) hop from to lf lt in
    length-append header _ ∙ omega arith

-- headers before `rest`, which was written at its place
pub enclosed-over : (hop : ℕ) (from to : List ℕ) (kind : ℕ) (four rest : List ℕ) (n : ℕ) (out : List ℕ) {d₁ d₂ : List ℕ}
    → length from ≡ 16 → length to ≡ 16 → length four ≡ 4 → n ≡ message_headers + length rest → n ≤ longest_packet → n ≤ length out
    → d₁ ≡ over message_headers rest out → d₂ ≡ enclosed hop from to kind four n d₁
    → d₂ ≡ written (icmp_packet hop from to kind 0 (four ++ rest)) out
enclosed-over hop from to kind four rest n out {d₁} lf lt l4 en k l e f =
    let room : length d₁ ≡ length out = ap length e ∙ length_over 48 rest out (omega arith) in
    let front : length (take 48 out) ≡ 48 = length-take-le 48 out (omega arith) in
    let lb : length (take 48 out ++ rest) ≡ n = rw length-append (omega arith) in
    let parts : d₁ ≡ (take 48 out ++ rest) ++ drop n out =
    e ∙ ap (λ (j : ℕ). take 48 out ++ (rest ++ drop j out)) (sym en) ∙ sym (append_assoc (take 48 out) rest (drop n out))
    in
    let taken : drop 48 (take n d₁) ≡ rest =
    ap (λ (w : List ℕ). drop 48 (take n w)) parts ∙ ap (drop 48) (take_at (take 48 out ++ rest) (drop n out) n lb) ∙ drop_at (take 48 out) rest 48 front
    in
    let behind : drop n d₁ ≡ drop n out = ap (drop n) parts ∙ drop_at (take 48 out ++ rest) (drop n out) n lb in
    let packet = icmp_packet hop from to kind 0 (four ++ rest) in
    let lp : length packet ≡ n = length-icmp_packet hop from to kind 0 (four ++ rest) lf lt ∙ rw length-append (omega arith) in
    f ∙ enclosed-fits hop from to kind four n d₁ (omega arith) k (omega arith)
    ∙ ap (λ (w : List ℕ). written (icmp_packet hop from to kind 0 (four ++ w)) d₁) taken
    ∙ ap (λ (j : ℕ). packet ++ drop j d₁) lp
    ∙ ap (λ (w : List ℕ). packet ++ w) behind
    ∙ ap (λ (j : ℕ). packet ++ drop j out) (sym lp)
