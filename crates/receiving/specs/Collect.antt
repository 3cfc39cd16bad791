-- Receiving's call for the number (R23): a whole datagram is judged as it is, a piece is collected, and what it completes is judged.
use Rattle.std.specs.Prelude.{ℕ, ◌*◌, ◌%◌, Bool, cond, not, List, [], ◌∷◌, ◌++◌, length, eqb, leb, ltb, Result, Ok, Err}
use Rattle.lists.specs.Parts.{part}
use Rattle.refusals.specs.Refusals.{first_of, stop_or}
use Rattle.refusals.specs.declared.Refusal.{Refusal}
use Rattle.refusals.specs.declared.Refusal.TheVariants.{OutputShort, OuterMalformed, OuterChecksum, OtherProtocol, NotForUs, OuterSourceForbidden}
use Rattle.header.specs.Numbers.{ipv6}
use Rattle.header.specs.Fields.{word_at}
use Rattle.header.specs.Outer.{outer_of, is_outer_malformed, is_sum_wrong, payload_of}
use Rattle.header.specs.Inner.{inner_of}
use Rattle.header.specs.declared.outer.Outer.{Outer}
use Rattle.header.specs.declared.inner.Inner.{Inner}
use Rattle.settings.specs.Settings.{forbidden_to, is_our_locator}
use Rattle.settings.specs.declared.Settings.{Settings}
use Rattle.routers.specs.Routers.{listed}
use Rattle.routers.specs.declared.Router.{Router}
use Rattle.pieces.specs.Places.{Part, room, memory_room, part_of}
use Rattle.pieces.specs.Take.{Taken, taken_of, memory_of}
use Rattle.pieces.specs.declared.Joined as taken
use Rattle.pieces.specs.declared.Collection.{Collection}
use Rattle.pieces.specs.declared.Piece.{Piece}
use Rattle.receiving.specs.Receive.{inner_rows}
use Rattle.receiving.specs.declared.Received.{Received}
use Rattle.receiving.specs.declared.Received.TheVariants.{Delivered, Joined}

-- what comes of a datagram: the answer, and what is collected afterwards
pub record Collected : Type 0 where
  pub answer : Result Received Refusal
  pub pieces : Collection

-- R23.1: 15, 2, 3, 4, 6, 7, of a datagram d with the outer fields o, where so many bytes of memory are lent
abbrev pub arrival_rows : Settings → ℕ → ℕ → List ℕ → Outer → List (Bool × Refusal)
arrival_rows s interface lent d o =
    (ltb lent memory_room, OutputShort)
    ∷ (is_outer_malformed (length d) o, OuterMalformed)
    ∷ (is_sum_wrong d o, OuterChecksum)
    ∷ (not (eqb o.protocol ipv6), OtherProtocol)
    ∷ (not (is_our_locator s o.destination interface), NotForUs)
    ∷ (forbidden_to s o.source, OuterSourceForbidden)
    ∷ []

-- of a whole datagram: 15, 2, 3, 4, 6 to 10; then the place of the 40 + payload length inner bytes, behind the outer header
unfoldable pub whole_of : Settings → List Router → ℕ → List ℕ → ℕ → Result Received Refusal
whole_of s routers lent d interface =
    let o : Outer = outer_of d in
    let p : List ℕ = payload_of d o in
    let i : Inner = inner_of p in
    stop_or Err
    (first_of (arrival_rows s interface lent d o ++ inner_rows s (listed o.source routers) o.source (length p) i))
    (Ok (Delivered o.header i.length))

-- R5.6: more-fragments set or offset not 0
abbrev pub is_piece : Outer → Bool
is_piece o = not (eqb o.fragment 0)

-- R23.3, R23.5: the key, the offset in units of 8 bytes, and more-fragments, the bit above the 13 of the offset
unfoldable pub piece_of : List ℕ → Outer → Piece
piece_of d o = record {
  key = record { source = o.source; destination = o.destination; identification = word_at d 4; protocol = o.protocol };
  offset = o.fragment % 0x2000;
  more = leb 0x2000 o.fragment;
}

-- R23.14: what a piece completes is judged by 8 to 10 on the payload that stands in the memory, from the key's source
abbrev pub joined_by : Settings → List Router → ℕ → Result taken.Joined Refusal → List ℕ → Result Received Refusal
joined_by s routers source (Ok d) memory =
    let p : List ℕ = part (room * d.place) d.length memory in
    stop_or Err (first_of (inner_rows s (listed source routers) source (length p) (inner_of p))) (Ok (Joined (room * d.place) (inner_of p).length))
joined_by s routers source (Err r) memory = Err r

-- what comes of a piece with the outer fields o that passes 15, 2, 3, 4, 6, 7: 30, 29, 28, 27, then 8 to 10
unfoldable pub taken_piece : Settings → List Router → Collection → ℕ → List ℕ → Outer → List ℕ → Collected
taken_piece s routers c now d o memory =
    let x : Piece = piece_of d o in
    let p : Part = part_of x (payload_of d o) in
    let t : Taken = taken_of now x.key p c memory in
    record { answer = joined_by s routers o.source t.answer (memory_of now x.key p c memory); pieces = t.collection }

-- what then stands in the memory
unfoldable pub taken_memory : Collection → ℕ → List ℕ → Outer → List ℕ → List ℕ
taken_memory c now d o memory =
    let x : Piece = piece_of d o in
    memory_of now x.key (part_of x (payload_of d o)) c memory

-- of a piece: 15, 2, 3, 4, 6, 7, then what comes of it
unfoldable pub fragment_of : Settings → List Router → Collection → ℕ → List ℕ → ℕ → List ℕ → Collected
fragment_of s routers c now d interface memory =
    let o : Outer = outer_of d in
    stop_or (λ (r : Refusal). record { answer = Err r; pieces = c }) (first_of (arrival_rows s interface (length memory) d o))
    (taken_piece s routers c now d o memory)

-- what then stands in the memory
unfoldable pub fragment_memory : Settings → Collection → ℕ → List ℕ → ℕ → List ℕ → List ℕ
fragment_memory s c now d interface memory =
    let o : Outer = outer_of d in
    stop_or (λ (r : Refusal). memory) (first_of (arrival_rows s interface (length memory) d o)) (taken_memory c now d o memory)

-- of any datagram: the answer, and what is collected afterwards; a whole datagram leaves that (R23.17)
unfoldable pub collected_of : Settings → List Router → Collection → ℕ → List ℕ → ℕ → List ℕ → Collected
collected_of s routers c now d interface memory =
    cond (is_piece (outer_of d))
    (fragment_of s routers c now d interface memory)
    (record { answer = whole_of s routers (length memory) d interface; pieces = c })

-- what then stands in the memory
unfoldable pub collected_memory : Settings → Collection → ℕ → List ℕ → ℕ → List ℕ → List ℕ
collected_memory s c now d interface memory = cond (is_piece (outer_of d)) (fragment_memory s c now d interface memory) memory
