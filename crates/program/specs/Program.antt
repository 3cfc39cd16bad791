-- The program (R17): the output for any input.
use Rattle.refusals.specs.declared.Refusal.{Refusal}
use Rattle.std.specs.Prelude.{ℕ, ◌+◌, ◌*◌, ◌≤◌, ◌≡◌, cond, List, [], ◌∷◌, ltb, length, take, replicate, Result, Ok, Err}
use Rattle.lent.specs.Written.{written}
use Rattle.pieces.specs.Places.{memory_room}
use Rattle.receiving.specs.declared.Received.{Received}
use Rattle.receiving.specs.declared.Received.TheVariants.{Delivered, Joined}
use Rattle.node.specs.Node.{setup_of}
use Rattle.node.specs.Receive.{receive_of, receive_memory}
use Rattle.node.specs.declared.Node.{Node}
use Rattle.node.specs.declared.ServiceName.TheVariants.{First}
use Rattle.node.specs.declared.receive.Receipt.{Receipt}
use Rattle.input.specs.Input.{behind_settings, settings_of, input_limit, is_well_formed}
use Rattle.input.specs.Recording.{Datagram, datagrams_of}
use Rattle.program.specs.Lines.{bad_input, text_of}

-- R17.4: `deliver` with the length of the inner packet, be it in the datagram or in the memory, or `refuse` with the number
abbrev pub line_with : Result Received Refusal → Result ℕ Refusal
line_with (Ok (Delivered offset size)) = Ok size
line_with (Ok (Joined offset size)) = Ok size
line_with (Err refusal) = Err refusal

-- R17.3, R26.10: a datagram comes at time 0, to the one service of this node and with this memory
unfoldable pub receipt_of : Node → List ℕ → Datagram → Receipt
receipt_of node memory d = receive_of node First d.bytes d.interface 0 memory

-- what then stands in the memory
unfoldable pub memory_after : Node → List ℕ → Datagram → List ℕ
memory_after node memory d = receive_memory node First d.bytes d.interface 0 memory

-- R17.4: a line for each datagram in its order; the node and the memory that one leaves are handed on to the next
abbrev pub lines_for : Node → List ℕ → List Datagram → List (Result ℕ Refusal)
lines_for node memory [] = []
lines_for node memory (d ∷ ds) =
    line_with (receipt_of node memory d).answer ∷ lines_for (receipt_of node memory d).node (memory_after node memory d) ds

-- a line for each datagram of a section
unfoldable pub lines_of : Node → List ℕ → List ℕ → List (Result ℕ Refusal)
lines_of node memory r = lines_for node memory (datagrams_of r)

-- R17.3: the program's own memory, before the first datagram
unfoldable pub own_memory : List ℕ
own_memory = replicate memory_room 0

-- on a node that the settings make, `datagrams N` and the lines; `bad input` where they are refused
abbrev pub setup_text : Result Unit Refusal → Node → List ℕ → List ℕ
setup_text (Ok tt) node r = text_of (lines_of node own_memory r)
setup_text (Err refusal) node r = bad_input

-- the output for a well-formed input
unfoldable pub taken_text : List ℕ → List ℕ
taken_text s = setup_text (setup_of (settings_of s)).answer (setup_of (settings_of s)).node (behind_settings s)

-- longer or malformed input, trailing bytes or refused settings: the one line `bad input` (R17.5)
unfoldable pub text_for : List ℕ → List ℕ
text_for s = cond (is_well_formed s) (taken_text s) bad_input

-- room for any input and one byte more
abbrev pub input_room : ℕ
input_room = input_limit + 1

-- room for any output: a first line of 16 bytes, and 16 for each three bytes of the input
abbrev pub output_room : ℕ
output_room = 16 + 16 * 21845

-- what is given back: the text's length, or 0 with less room than for any output
unfoldable pub count_given : List ℕ → List ℕ → ℕ
count_given s d = cond (ltb (length d) output_room) 0 (length (text_for s))

-- what stands in the lent bytes: the text over their front, or nothing new with less room than for any output
unfoldable pub bytes_left : List ℕ → List ℕ → List ℕ
bytes_left s d = cond (ltb (length d) output_room) d (written (text_for s) d)

-- n bytes stand at the front of d: this follows from the two above, and lets a caller take them
abbrev pub IsFront : ℕ → List ℕ → Type 0
IsFront n d = (n ≤ length d) × (n ≡ length (take n d))
