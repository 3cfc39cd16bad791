-- The outer header that we write (R7.10), and a packet wrapped in it.
use Rattle.refusals.specs.declared.Refusal.{Refusal}
use Rattle.std.specs.Prelude.{ℕ, ◌+◌, ◌/◌, ◌%◌, cond, List, [], ◌∷◌, ◌++◌, length, ltb, Result, Ok, Err}
use Rattle.checksum.specs.Sum.{ones_sum, ones_complement}
use Rattle.lent.specs.Written.{written}
use Rattle.refusals.specs.Refusals.{first_of, stop_or}
use Rattle.refusals.specs.Given.{Given, answered, refused}
use Rattle.refusals.specs.declared.Refusal.TheVariants.{WrappedTooLong, OutputShort}
use Rattle.header.specs.Numbers.{outer_header}
use Rattle.header.specs.declared.wrap.OuterFields.{OuterFields}

-- the two bytes of a 16-bit number, and then a list
abbrev pub be16 : ℕ → List ℕ → List ℕ
be16 x s = x / 256 ∷ (x % 256 ∷ s)

-- the four bytes of a 32-bit number, and then a list
abbrev pub be32 : ℕ → List ℕ → List ℕ
be32 x s = x / 16777216 ∷ (x / 65536 % 256 ∷ (x / 256 % 256 ∷ (x % 256 ∷ s)))

-- the header before its checksum: version 4 and five words, type of service 0, total length, identification, don't-fragment,
-- offset 0, TTL, protocol
abbrev pub outer_front : ℕ → OuterFields → List ℕ
outer_front total h =
    0x45 ∷ (0 ∷ be16 total (be16 h.identification (cond h.dont_fragment 0x40 0 ∷ (0 ∷ (h.ttl ∷ (h.protocol ∷ []))))))

-- the header behind its checksum: source and destination
abbrev pub outer_back : OuterFields → List ℕ
outer_back h = be32 h.source (be32 h.destination [])

-- the header with a number for its checksum
abbrev pub outer_with : ℕ → OuterFields → ℕ → List ℕ
outer_with total h sum = outer_front total h ++ be16 sum (outer_back h)

-- we write the complement of the sum taken with that field 0 (R1.6)
unfoldable pub outer_bytes : ℕ → OuterFields → List ℕ
outer_bytes total h = outer_with total h (ones_complement (ones_sum (outer_with total h 0)))

-- the packet behind its outer header
unfoldable pub wrapped : OuterFields → List ℕ → List ℕ
wrapped h packet = outer_bytes (outer_header + length packet) h ++ packet

-- an IPv4 total length has 16 bits
abbrev pub longest_total : ℕ
longest_total = 65535

-- 23, then 15, for a packet of n bytes
unfoldable pub wrap_check : ℕ → ℕ → Result Unit Refusal
wrap_check n room = first_of ((ltb longest_total (outer_header + n), WrappedTooLong) ∷ ((ltb room (outer_header + n), OutputShort) ∷ []))

-- number and values (R1.17): the length written
abbrev pub written_given : Result ℕ Refusal → Given
written_given (Ok n) = answered (n ∷ [])
written_given (Err refusal) = refused refusal

-- what a writer answers that would write n bytes
abbrev pub writer_answer : Result Unit Refusal → ℕ → Result ℕ Refusal
writer_answer check n = stop_or Err check (Ok n)

-- what a writer leaves in the output that would write w: the lent output is untouched (R1.15) after a refusal
abbrev pub writer_output : Result Unit Refusal → List ℕ → List ℕ → List ℕ
writer_output check w out = stop_or (λ refusal. out) check (written w out)

-- the length written, or the refusal
unfoldable pub wrap_answer : ℕ → ℕ → Result ℕ Refusal
wrap_answer n room = writer_answer (wrap_check n room) (outer_header + n)

-- what stands in the output afterwards
unfoldable pub wrap_output : OuterFields → List ℕ → List ℕ → List ℕ
wrap_output h packet out = writer_output (wrap_check (length packet) (length out)) (wrapped h packet) out
