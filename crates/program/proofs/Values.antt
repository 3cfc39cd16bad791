-- Worked values: the worked input (R17.6), a datagram in pieces, and inputs at the edge. Assumes nothing.
use Rattle.std.specs.Prelude.{Ok, Err}
use Prim.Native.Nat.{ℕ}
use mathlib.Core.Path.{◌≡◌, refl}
use mathlib.Core.List.{List, [], ◌∷◌, ◌++◌}
use lib.ListN.{take, replicate}
use Rattle.checksum.specs.Sum.{ones_sum_from, is_right_from}
use Rattle.address.specs.Address.{is_forbidden, last_quad, is_under, is_on_link, is_identifier, embedded_in, link_local_of, is_multicast_or_unspecified, is_bad_source_with}
use Rattle.lent.specs.Written.{written_at}
use Rattle.header.specs.Fields.{word_at, quad_at, address_at}
use Rattle.header.specs.Outer.{outer_of, is_outer_malformed, is_sum_wrong, payload_of}
use Rattle.header.specs.Inner.{inner_of, is_inner_malformed}
use Rattle.routers.specs.Routers.{are_distinct}
use Rattle.settings.specs.Settings.{defaults_for, forbidden_to, is_our_locator, is_bad_end, embedded_to, are_locators_right, are_routers_right, are_numbers_right, is_accepted}
use Rattle.receiving.specs.Receive.{embeds}
use Rattle.units.specs.Held.{marks_in, held_of, any_held, all_held, held_with}
use Rattle.pieces.specs.Places.{unfit, is_same, is_live, is_free, is_of, ends_apart, extended_to, is_whole}
use Rattle.pieces.specs.Take.{plan_held, plan_in, plan_new, plan_of, settled, taken_of, memory_of}
use Rattle.receiving.specs.Collect.{whole_of, piece_of, taken_piece, taken_memory, fragment_of, fragment_memory, collected_of, collected_memory}
use Rattle.node.specs.Node.{service_from, node_of, setup_of}
use Rattle.node.specs.Receive.{collected_by, collected_through, receive_of, receive_memory}
use Rattle.input.specs.Section.{records_of, locator_of, filled, locators_in, prefixes_in, routers_in}
use Rattle.input.specs.Recording.{datagrams_of, is_recording}
use Rattle.input.specs.Input.{prefix_section, router_section, behind_settings, are_sections_whole, settings_of, is_well_formed}
use Rattle.refusals.specs.declared.Refusal.TheVariants.{OuterSourceWrong, PieceWaits}
use Rattle.text.specs.Text.{decimal}
use Rattle.program.specs.Lines.{datagrams_word, deliver_word, refuse_word, bad_input, entry_of, count_line, line_of, lines_from, text_of}
use Rattle.program.specs.Program.{receipt_of, memory_after, lines_of, own_memory, taken_text, text_for}

-- the worked input (R17.6) up to its datagrams: one locator 10.0.0.1 on 0, no prefix, no router, two datagrams
abbrev settings : List ℕ
settings = 0 ∷ 1 ∷ 10 ∷ 0 ∷ 0 ∷ 1 ∷ 0 ∷ 0 ∷ 0 ∷ 0 ∷ 0 ∷ 0 ∷ 2 ∷ []

-- a datagram of it: 60 bytes that arrive on 0, from 10.0.0.2, whose inner source embeds 10.0.0.`last`; no payload
abbrev datagram_from : ℕ → List ℕ
datagram_from last =
    0 ∷ 0 ∷ 60
    ∷ 69 ∷ 0 ∷ 0 ∷ 60 ∷ 0 ∷ 1 ∷ 0 ∷ 0 ∷ 64 ∷ 41 ∷ 102 ∷ 150 ∷ 10 ∷ 0 ∷ 0 ∷ 2 ∷ 10 ∷ 0 ∷ 0 ∷ 1
    ∷ 96 ∷ 0 ∷ 0 ∷ 0 ∷ 0 ∷ 0 ∷ 59 ∷ 64
    ∷ 254 ∷ 128 ∷ 0 ∷ 0 ∷ 0 ∷ 0 ∷ 0 ∷ 0 ∷ 0 ∷ 0 ∷ 94 ∷ 254 ∷ 10 ∷ 0 ∷ 0 ∷ last
    ∷ 254 ∷ 128 ∷ 0 ∷ 0 ∷ 0 ∷ 0 ∷ 0 ∷ 0 ∷ 0 ∷ 0 ∷ 94 ∷ 254 ∷ 10 ∷ 0 ∷ 0 ∷ 1 ∷ []

-- the worked input: inner sources fe80::5efe:10.0.0.2 and fe80::5efe:10.0.0.3 (R17.6)
abbrev example : List ℕ
example = settings ++ (datagram_from 2 ++ datagram_from 3)

-- the first datagram in two pieces, of 24 and 16 bytes of its 40
abbrev first_piece : List ℕ
first_piece =
    0 ∷ 0 ∷ 44
    ∷ 69 ∷ 0 ∷ 0 ∷ 44 ∷ 0 ∷ 1 ∷ 32 ∷ 0 ∷ 64 ∷ 41 ∷ 70 ∷ 166 ∷ 10 ∷ 0 ∷ 0 ∷ 2 ∷ 10 ∷ 0 ∷ 0 ∷ 1
    ∷ 96 ∷ 0 ∷ 0 ∷ 0 ∷ 0 ∷ 0 ∷ 59 ∷ 64 ∷ 254 ∷ 128 ∷ 0 ∷ 0 ∷ 0 ∷ 0 ∷ 0 ∷ 0 ∷ 0 ∷ 0 ∷ 94 ∷ 254 ∷ 10 ∷ 0 ∷ 0 ∷ 2 ∷ []

abbrev last_piece : List ℕ
last_piece =
    0 ∷ 0 ∷ 36
    ∷ 69 ∷ 0 ∷ 0 ∷ 36 ∷ 0 ∷ 1 ∷ 0 ∷ 3 ∷ 64 ∷ 41 ∷ 102 ∷ 171 ∷ 10 ∷ 0 ∷ 0 ∷ 2 ∷ 10 ∷ 0 ∷ 0 ∷ 1
    ∷ 254 ∷ 128 ∷ 0 ∷ 0 ∷ 0 ∷ 0 ∷ 0 ∷ 0 ∷ 0 ∷ 0 ∷ 94 ∷ 254 ∷ 10 ∷ 0 ∷ 0 ∷ 1 ∷ []

-- no datagram; the pieces in either order; no input, a byte too many, one too few, and no locator
pub program_worked : (text_for example ≡ text_of (Ok 40 ∷ Err OuterSourceWrong ∷ []))
    × (text_for (take 11 settings ++ (0 ∷ 0 ∷ [])) ≡ text_of [])
    × (text_for (settings ++ (first_piece ++ last_piece)) ≡ text_of (Err PieceWaits ∷ Ok 40 ∷ []))
    × (text_for (settings ++ (last_piece ++ first_piece)) ≡ text_of (Err PieceWaits ∷ Ok 40 ∷ []))
    × (text_for [] ≡ bad_input)
    × (text_for (example ++ (0 ∷ [])) ≡ bad_input)
    × (text_for (take 138 example) ≡ bad_input)
    × (text_for (replicate 8 0) ≡ bad_input)
unfolding text_for taken_text lines_of receipt_of memory_after own_memory ones_sum_from is_right_from is_forbidden last_quad is_under is_on_link is_identifier embedded_in link_local_of is_multicast_or_unspecified is_bad_source_with word_at quad_at address_at outer_of is_outer_malformed is_sum_wrong payload_of inner_of is_inner_malformed are_distinct defaults_for forbidden_to is_our_locator is_bad_end embedded_to are_locators_right are_routers_right are_numbers_right is_accepted embeds marks_in held_of any_held all_held held_with unfit is_same is_live is_free is_of ends_apart extended_to is_whole plan_held plan_in plan_new plan_of settled taken_of memory_of written_at whole_of piece_of taken_piece taken_memory fragment_of fragment_memory collected_of collected_memory node_of setup_of collected_by collected_through service_from receive_of receive_memory records_of locator_of filled locators_in prefixes_in routers_in datagrams_of is_recording prefix_section router_section behind_settings are_sections_whole settings_of is_well_formed
program_worked = (refl, refl, refl, refl, refl, refl, refl, refl)

-- "datagrams 2", "1 deliver 40", "2 refuse 10"; "datagrams 0"
pub lines_worked : (text_of (Ok 40 ∷ Err OuterSourceWrong ∷ [])
    ≡ datagrams_word ++ (50 ∷ 10 ∷ 49 ∷ []) ++ deliver_word ++ (52 ∷ 48 ∷ 10 ∷ 50 ∷ []) ++ refuse_word ++ (49 ∷ 48 ∷ 10 ∷ []))
    × (text_of [] ≡ datagrams_word ++ (48 ∷ 10 ∷ []))
unfolding decimal entry_of count_line line_of lines_from text_of
lines_worked = (refl, refl)

-- "0", "1500"
pub decimal_worked : (decimal 0 ≡ 48 ∷ []) × (decimal 1500 ≡ 49 ∷ 53 ∷ 48 ∷ 48 ∷ [])
unfolding decimal
decimal_worked = (refl, refl)
