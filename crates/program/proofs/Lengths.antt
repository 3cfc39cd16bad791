-- How long the program's output is: never longer than its room. Assumes nothing.
use Rattle.std.specs.Prelude.{Result, Ok, Err}
use Prim.Native.Nat.{ℕ, suc, ◌+◌, ◌*◌, ◌≤◌, ◌<◌, max}
use mathlib.Core.Path.{◌≡◌, refl, ap, ◌∙◌}
use mathlib.Core.Bool.{Bool, true, false, cond}
use mathlib.Core.List.{List, [], ◌∷◌}
use native.Mathlib.Omega.{arith}
use lib.Dec.{ltb}
use lib.ListN.{length, length-append}
use Rattle.refusals.specs.Refusals.{number_of, stop_or}
use Rattle.refusals.specs.declared.Refusal.{Refusal}
use Rattle.refusals.specs.declared.Refusal.TheVariants as refusal
use Rattle.header.specs.Outer.{outer_of, is_outer_malformed}
use Rattle.header.proofs.OuterLaws.{outer_whole_lem}
use Rattle.pieces.specs.Places.{memory_room}
use Rattle.pieces.specs.declared.Collection.{Collection}
use Rattle.routers.specs.Routers.{live}
use Rattle.routers.specs.declared.Router.{Router}
use Rattle.settings.specs.declared.Settings.{Settings}
use Rattle.receiving.specs.Collect.{Collected, whole_of, is_piece, fragment_of, collected_of}
use Rattle.receiving.specs.declared.Received.{Received}
use Rattle.node.specs.Receive.{collected_by, receive_of}
use Rattle.node.specs.declared.Node.{Node}
use Rattle.node.specs.Node.{setup_of}
use Rattle.input.specs.Section.{count_of}
use Rattle.input.specs.Input.{behind_settings, settings_of, is_well_formed}
use Rattle.input.specs.Recording.{Datagram, first_datagram, datagrams_of}
use Rattle.input.proofs.Laws.{length_datagrams, taken_by, few_datagrams, well_formed-inside}
use Rattle.program.specs.Lines.{line_of, lines_from, text_of, bad_input}
use Rattle.program.proofs.LineLaws.{length-count, length_line, length-refusal}
use Rattle.program.specs.Program.{line_with, receipt_of, memory_after, lines_for, lines_of, own_memory, setup_text, taken_text, text_for, output_room}

-- a line for each datagram
for_each : (node : Node) (memory : List ℕ) (ds : List Datagram) → length (lines_for node memory ds) ≡ length ds
for_each node memory [] = refl
for_each node memory (d ∷ ds) = ap suc (for_each (receipt_of node memory d).node (memory_after node memory d) ds)

pub many_lines : (node : Node) (memory r : List ℕ) → length (lines_of node memory r) ≡ count_of r
unfolding lines_of datagrams_of
many_lines node memory r = for_each node memory (datagrams_of r) ∙ length_datagrams (count_of r) (first_datagram r)

-- each number of the table has at most two digits
number_short : (r : Refusal) → number_of r < 100
number_short refusal.Settings = omega arith
number_short refusal.OuterMalformed = omega arith
number_short refusal.OuterChecksum = omega arith
number_short refusal.OtherProtocol = omega arith
number_short refusal.Piece = omega arith
number_short refusal.NotForUs = omega arith
number_short refusal.OuterSourceForbidden = omega arith
number_short refusal.InnerMalformed = omega arith
number_short refusal.InnerSourceBad = omega arith
number_short refusal.OuterSourceWrong = omega arith
number_short refusal.NoLocator = omega arith
number_short refusal.NextHopNotIsatap = omega arith
number_short refusal.TunnelEndForbidden = omega arith
number_short refusal.OutputShort = omega arith
number_short refusal.ReportMalformed = omega arith
number_short refusal.QuoteNotOurs = omega arith
number_short refusal.SizeUnusable = omega arith
number_short refusal.SizeNotBelow = omega arith
number_short refusal.AdvertisementInvalid = omega arith
number_short refusal.AdvertiserNotListed = omega arith
number_short refusal.NoRouterDue = omega arith
number_short refusal.WrappedTooLong = omega arith
number_short refusal.SolicitationInvalid = omega arith
number_short refusal.AskerNotIsatap = omega arith
number_short refusal.OptionsBad = omega arith
number_short refusal.PieceWaits = omega arith
number_short refusal.NoPlace = omega arith
number_short refusal.PiecesDisagree = omega arith
number_short refusal.PieceUnfit = omega arith
number_short refusal.RecordingMalformed = omega arith

-- the line of number k fits: 16 bytes for each three of the n + 3 that a datagram of n bytes takes
abbrev Fits : ℕ → Result Received Refusal → ℕ → Type 0
Fits k r n = 3 * length (line_of k (line_with r)) ≤ 16 * (3 + n)

module _ (k : ℕ) (h : k < 100000) (n : ℕ) where
  refused-fits : (r : Refusal) → Fits k (Err r) n
  refused-fits r = omega (arith, length-refusal k r h (number_short r))

  long-fits : 20 ≤ n → (r : Result Received Refusal) → Fits k r n
  long-fits g r = omega (arith, length_line k (line_with r) h)

  -- what is not refused by 15 or 2 has the bytes of an outer header
  rows_fit : {A : Type 0} (refuse : Refusal → A) (answer : A → Result Received Refusal) → ((r : Refusal) → Fits k (answer (refuse r)) n)
      → (t u : Bool) (a b : Refusal) (rest : Result Unit Refusal) (follows : A) → (u ≡ false → 20 ≤ n)
      → Fits k (answer (stop_or refuse (cond t (Err a) (cond u (Err b) rest)) follows)) n
  rows_fit refuse answer refuses true u a b rest follows g = refuses a
  rows_fit refuse answer refuses false true a b rest follows g = refuses b
  rows_fit refuse answer refuses false false a b rest follows g = long-fits (g refl) (answer (stop_or refuse rest follows))

  picked_fits : (t : Bool) (c e : Collected) → Fits k c.answer n → Fits k e.answer n → Fits k (cond t c e).answer n
  picked_fits true c e f g = f
  picked_fits false c e f g = g

module _ (k : ℕ) (h : k < 100000) (s : Settings) (routers : List Router) (d : List ℕ) (interface : ℕ) where
  abbrev long : is_outer_malformed (length d) (outer_of d) ≡ false → 20 ≤ length d
  long f = (outer_whole_lem (length d) (outer_of d) f).some

  whole-fits : (lent : ℕ) → Fits k (whole_of s routers lent d interface) (length d)
  unfolding whole_of
  whole-fits lent =
      rows_fit k h (length d) Err (λ (r : Result Received Refusal). r) (refused-fits k h (length d)) (ltb lent memory_room) (is_outer_malformed (length d) (outer_of d)) refusal.OutputShort refusal.OuterMalformed _ _ long

  fragment-fits : (c : Collection) (now : ℕ) (memory : List ℕ) → Fits k (fragment_of s routers c now d interface memory).answer (length d)
  unfolding fragment_of
  fragment-fits c now memory =
      rows_fit k h (length d) (λ (r : Refusal). record { answer = Err r; pieces = c }) (λ (x : Collected). x.answer) (refused-fits k h (length d)) (ltb (length memory) memory_room) (is_outer_malformed (length d) (outer_of d)) refusal.OutputShort refusal.OuterMalformed _ _ long

  collected-fits : (c : Collection) (now : ℕ) (memory : List ℕ) → Fits k (collected_of s routers c now d interface memory).answer (length d)
  unfolding collected_of
  collected-fits c now memory =
      picked_fits k h (length d) (is_piece (outer_of d)) (fragment_of s routers c now d interface memory)
      (record { answer = whole_of s routers (length memory) d interface; pieces = c })
      (fragment-fits c now memory) (whole-fits (length memory))

-- the lines fit where the datagrams stood
lines_fit : (k : ℕ) (node : Node) (memory : List ℕ) (ds : List Datagram) → k + length ds ≤ 100000
    → 3 * length (lines_from k (lines_for node memory ds)) ≤ 16 * taken_by ds
unfolding lines_from receipt_of receive_of collected_by
lines_fit k node memory [] h = omega arith
lines_fit k node memory (d ∷ ds) h =
    let service = node.first in
    let f = collected-fits k (omega arith) service.settings (live service.routers) d.bytes d.interface service.pieces (max node.latest 0) memory in
    simp length-append (omega (arith, f, lines_fit (suc k) (receipt_of node memory d).node (memory_after node memory d) ds (omega arith)))

-- the output for a section of a well-formed input has room
section-short : (node : Node) (memory s : List ℕ) → is_well_formed s ≡ true → length (text_of (lines_of node memory (behind_settings s))) ≤ output_room
unfolding text_of lines_of
section-short node memory s h =
    let ds = datagrams_of (behind_settings s) in
    let w = well_formed-inside s h in
    let few = few_datagrams ds in
    let n = for_each node memory ds in
    let l = lines_fit 1 node memory ds (omega arith) in
    let first = length-count (length (lines_for node memory ds)) 4 (omega arith) in
    simp length-append (omega arith)

pub taken-short : (s : List ℕ) → is_well_formed s ≡ true → length (taken_text s) ≤ output_room
unfolding taken_text
taken-short s h = answered (setup_of (settings_of s)).answer
  where
    answered : (a : Result Unit Refusal) → length (setup_text a (setup_of (settings_of s)).node (behind_settings s)) ≤ output_room
    answered (Ok tt) = section-short (setup_of (settings_of s)).node own_memory s h
    answered (Err r) = omega arith

-- so has the output for any input
pub text_short : (s : List ℕ) → length (text_for s) ≤ output_room
unfolding text_for
text_short s = tested (is_well_formed s) refl
  where
    tested : (t : Bool) → is_well_formed s ≡ t → length (cond t (taken_text s) bad_input) ≤ output_room
    tested true h = taken-short s h
    tested false h = omega arith
