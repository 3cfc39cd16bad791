-- The places of a collection, and what a piece is to one of them (R23).
use Rattle.std.specs.Prelude.{ℕ, ◌+◌, ◌*◌, ◌/◌, ◌%◌, max, Bool, true, false, cond, not, ◌&&◌, ◌||◌, List, [], ◌∷◌, ltb, leb, eqb, length}
use Rattle.lists.specs.Parts.{part}
use Rattle.units.specs.Held.{units, none_held, all_held, held_with}
use Rattle.pieces.specs.declared.Key.{Key}
use Rattle.pieces.specs.declared.Place.{Place}
use Rattle.pieces.specs.declared.Piece.{Piece}

-- R23.5: so many datagrams are collected at once
abbrev pub places : ℕ
places = 8

-- R23.4: the bytes of payload that each has room for
abbrev pub room : ℕ
room = 8 * units

-- R23.2: the memory that the caller lends
abbrev pub memory_room : ℕ
memory_room = places * room

-- R23.6: seconds from the first piece on
abbrev pub lifetime : ℕ
lifetime = 30

-- R23.3: a piece, its key aside: offset in units of 8 bytes, more-fragments, payload
pub record Part : Type 0 where
  pub offset : ℕ
  pub more : Bool
  pub payload : List ℕ

-- a piece's fields with its payload
abbrev pub part_of : Piece → List ℕ → Part
part_of p payload = record { offset = p.offset; more = p.more; payload = payload }

-- the byte of the datagram's payload behind the piece
abbrev pub end_of : Part → ℕ
end_of p = 8 * p.offset + length p.payload

-- how many units n bytes fill, the last perhaps in part
abbrev pub units_of : ℕ → ℕ
units_of n = (n + 7) / 8

-- how many units the piece fills
abbrev pub count_of : Part → ℕ
count_of p = units_of (length p.payload)

-- R23.4, of n bytes of payload: empty, ending past the room, or with more-fragments set and no multiple of 8
unfoldable pub unfit : ℕ → Bool → ℕ → Bool
unfit offset more n = eqb n 0 || ltb room (8 * offset + n) || (more && not (eqb (n % 8) 0))

-- R23.4, of a piece
abbrev pub is_unfit : Part → Bool
is_unfit p = unfit p.offset p.more (length p.payload)

-- R23.5: the key is source, destination, protocol and identification
unfoldable pub is_same : Key → Key → Bool
is_same a b =
    eqb a.source b.source
    && eqb a.destination b.destination
    && eqb a.protocol b.protocol
    && eqb a.identification b.identification

-- R23.6: a place that is in use has a live datagram until 30 s from its first piece
unfoldable pub is_live : ℕ → Place → Bool
is_live now d = not (eqb d.used 0) && ltb now (d.first + lifetime)

-- a place whose datagram is not live is free
unfoldable pub is_free : ℕ → Place → Bool
is_free now d = not (is_live now d)

-- the place of the live datagram of a key
unfoldable pub is_of : Key → ℕ → Place → Bool
is_of key now d = is_live now d && is_same key d.key

-- R23.7, of a piece that ends at `end`: two pieces with more-fragments clear end apart, or one with it set ends at or past such an end
unfoldable pub ends_apart : Bool → ℕ → Place → Bool
ends_apart more end d =
    cond more
    (not (eqb d.end 0) && leb d.end end)
    ((not (eqb d.end 0) && not (eqb d.end end)) || leb end d.reach)

-- R23.7, of a piece
abbrev pub is_apart : Part → Place → Bool
is_apart p d = ends_apart p.more (end_of p) d

-- two lists of bytes are the same
abbrev pub is_equal : List ℕ → List ℕ → Bool
is_equal [] [] = true
is_equal [] (y ∷ ys) = false
is_equal (x ∷ xs) [] = false
is_equal (x ∷ xs) (y ∷ ys) = eqb x y && is_equal xs ys

-- R23.12: where the bytes of place k from a unit on stand in the memory
abbrev pub byte_at : ℕ → ℕ → ℕ
byte_at k unit = room * k + 8 * unit

-- what stands in the memory where place k has a piece's bytes
abbrev pub bytes_of : ℕ → Part → List ℕ → List ℕ
bytes_of k p memory = part (byte_at k p.offset) (length p.payload) memory

-- a place without a datagram
abbrev pub no_place : Place
no_place = record {
  used = 0;
  key = record { source = 0; destination = 0; protocol = 0; identification = 0 };
  first = 0;
  end = 0;
  reach = 0;
  held = none_held;
}

-- a datagram of which nothing has come yet
abbrev pub begun : Key → ℕ → Place
begun key now = record { used = 1; key = key; first = now; end = 0; reach = 0; held = none_held }

-- a datagram of which one more piece has come, of n bytes: its end is known by a piece with more-fragments clear; how far those with it
-- set reach is kept beside
unfoldable pub extended_to : ℕ → Bool → ℕ → Place → Place
extended_to offset more n d = record {
  used = 1;
  key = d.key;
  first = d.first;
  end = cond more d.end (8 * offset + n);
  reach = cond more (max d.reach (8 * offset + n)) d.reach;
  held = held_with d.held offset (units_of n);
}

-- a datagram of which one more piece has come
abbrev pub extended : Part → Place → Place
extended p d = extended_to p.offset p.more (length p.payload) d

-- a place whose datagram is gone
abbrev pub freed : Place → Place
freed d = record { used = 0; key = d.key; first = d.first; end = d.end; reach = d.reach; held = d.held }

-- R23.13: an end is known, and every byte before it is held
unfoldable pub is_whole : Place → Bool
is_whole d = not (eqb d.end 0) && all_held d.held 0 (units_of d.end)
