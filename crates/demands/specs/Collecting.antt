-- What is collected on a node is what comes of the pieces that its calls handed in (R23): of those `pieces/specs/ByHistory` speaks.
use Rattle.std.specs.Prelude.{ℕ, ◌%◌, max, ◌≡◌, Bool, true, cond, not, ◌&&◌, ◌||◌, List, [], ◌∷◌, ◌++◌, eqb, leb, get_or}
use Rattle.header.specs.Fields.{word_at, quad_at}
use Rattle.pieces.specs.Places.{Part}
use Rattle.pieces.specs.History.{Handed, nothing, grown}
use Rattle.pieces.specs.declared.Key.{Key}
use Rattle.receiving.specs.Facts.{encapsulated}
use Rattle.node.specs.Node.{service_of}
use Rattle.node.specs.declared.Node.{Node}
use Rattle.node.specs.declared.ServiceName.{ServiceName}
use Rattle.demands.specs.Starts.{Start, is_right, start_of}
use Rattle.demands.specs.Calls.{NodeCall, outcome_of, OfPieces, a_datagram, no_datagram, pieces_of, is_piece, node_after}

-- R23.5: the key that a datagram's bytes say
abbrev pub key_of : List ℕ → Key
key_of e = record { source = quad_at e 12; destination = quad_at e 16; identification = word_at e 4; protocol = get_or e 9 0 }

-- R23.3: the piece that they say; of the lower 14 bits at byte 6 the highest is more-fragments, the others are the offset
abbrev pub part_in : List ℕ → Part
part_in e = record { offset = word_at e 6 % 0x4000 % 0x2000; more = leb 0x2000 (word_at e 6 % 0x4000); payload = encapsulated e }

-- R23.1, R26.4: a piece with one of 11, 15, 2, 3, 4, 6, 7 does not come to be collected
abbrev pub is_turned_away : ℕ → Bool
is_turned_away number = eqb number 11 || eqb number 15 || eqb number 2 || eqb number 3 || eqb number 4 || eqb number 6 || eqb number 7

-- the piece that a call hands in, on the node n: by what it is to a collection, and by the number that it gets
abbrev pub handed_with : Node → ℕ → OfPieces → List Handed
handed_with n number (a_datagram e interface time memory) =
    cond (is_piece e && not (is_turned_away number))
    (record { key = key_of e; piece = part_in e; time = max n.latest time; memory = memory } ∷ []) []
handed_with n number no_datagram = []

-- the piece that a call hands in to the service w
abbrev pub handed_by : ServiceName → Node → NodeCall → List Handed
handed_by w n x = handed_with n (outcome_of n x).given.number (pieces_of w x)

-- the pieces that a list of calls hands in to it
abbrev pub handed_in : ServiceName → Node → List NodeCall → List Handed
handed_in w n [] = []
handed_in w n (x ∷ xs) = handed_by w n x ++ handed_in w (outcome_of n x).node xs

-- for all accepted settings, both services and all lists of calls
unfoldable pub CollectedByHistory : Type 0
CollectedByHistory =
    (s : Start) → is_right s ≡ true
    → (w : ServiceName) (calls : List NodeCall) → (service_of (node_after (start_of s) calls) w).pieces ≡ (grown nothing (handed_in w (start_of s) calls)).collection
