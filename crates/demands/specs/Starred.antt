-- The starred values (R18.1 to R18.9) in one statement: a node of the program's example, L 1,500, with one
-- neighbour 10.0.0.2.
use Rattle.std.specs.Prelude.{ℕ, ◌-◌, ◌≡◌, true, false, List, [], ◌∷◌, ◌++◌, get_or, replicate, Ok}
use Rattle.checksum.specs.Sum.{ones_sum, ones_complement}
use Rattle.address.specs.Address.{quad_of, link_local_of}
use Rattle.refusals.specs.Given.{Given, answered, refused}
use Rattle.refusals.specs.declared.Refusal.TheVariants.{SizeUnusable, SizeNotBelow, OuterSourceWrong}
use Rattle.header.specs.Wrap.{be16, be32, outer_bytes}
use Rattle.settings.specs.Locators.{no_locator}
use Rattle.settings.specs.Settings.{defaults_for, is_accepted}
use Rattle.settings.specs.declared.Settings.{Settings}
use Rattle.node.specs.Node.{setup_of}
use Rattle.node.specs.Size.{path_size_of}
use Rattle.node.specs.declared.Node.{Node}
use Rattle.node.specs.declared.ServiceName.TheVariants.{First}
use Rattle.demands.specs.Calls.{NodeCall, receiving, sending, reporting, asking, outcome_of, node_after}

-- our locator
abbrev pub us : ℕ
us = quad_of 10 0 0 1

-- the neighbour
abbrev pub neighbour : ℕ
neighbour = quad_of 10 0 0 2

-- the settings of the program's example
abbrev pub settings : Settings
settings =
    defaults_for (record { address = us; interface = 0 } ∷ replicate 7 no_locator) 1 (replicate 64 0) 0 (replicate 16 0) 0

-- an ICMPv4 report of a size, that quotes a datagram of ours of a total length to the neighbour
abbrev report_with : ℕ → ℕ → ℕ → List ℕ
report_with sum size total =
    3 ∷ 4 ∷ be16 sum (be16 0 (be16 size (0x45 ∷ 0 ∷ be16 total (0 ∷ 1 ∷ 0 ∷ 0 ∷ 64 ∷ 41 ∷ be16 0 (be32 us (be32 neighbour []))))))

-- the call with that report, its checksum right
abbrev size_report : ℕ → ℕ → NodeCall
size_report size total = reporting (report_with (ones_complement (ones_sum (report_with 0 size total))) size total) 0

-- a packet of n bytes to the neighbour
abbrev packet : ℕ → List ℕ
packet n = 0x60 ∷ 0 ∷ 0 ∷ 0 ∷ be16 (n - 40) (59 ∷ 64 ∷ link_local_of us ++ (link_local_of neighbour ++ replicate (n - 40) 0))

-- the sending of such a packet, into an output of 2,000 bytes
abbrev offered : ℕ → NodeCall
offered n = sending First (packet n) (link_local_of neighbour) 0 0 (replicate 2000 0)

-- an inner packet from the neighbour, whose source's identifier begins with a byte b
abbrev pub inner : ℕ → List ℕ
inner b =
    0x60 ∷ 0 ∷ 0 ∷ 0 ∷ 0 ∷ 0 ∷ 59 ∷ 64 ∷ 0xFE ∷ 0x80 ∷ 0 ∷ 0 ∷ 0 ∷ 0 ∷ 0 ∷ 0 ∷ b ∷ 0 ∷ 0x5E ∷ 0xFE ∷ be32 neighbour (link_local_of us)

-- the datagram of 60 bytes that wraps it
abbrev pub datagram : ℕ → List ℕ
datagram b = 0x45 ∷ 0x00 ∷ 0x00 ∷ 0x3C ∷ 0x00 ∷ 0x01 ∷ 0x00 ∷ 0x00 ∷ 0x40 ∷ 0x29 ∷ 0x66 ∷ 0x96 ∷ be32 neighbour (be32 us (inner b))

-- the memory that receiving is lent
abbrev pub memory : List ℕ
memory = replicate 16384 0

-- what is given back to the call after some others
abbrev pub given_last : Node → List NodeCall → NodeCall → Given
given_last n calls x = (outcome_of (node_after n calls) x).given

-- the byte of the flags that it writes into the outer header
abbrev pub flags_last : Node → List NodeCall → NodeCall → ℕ
flags_last n calls x = get_or (outcome_of (node_after n calls) x).output 6 0

-- the node that these settings make
abbrev pub node : Node
node = (setup_of settings).node

-- 14, with the size it names; the message is of 1,280 bytes
abbrev too_big : ℕ → Given
too_big size = record { number = 14; values = size ∷ 1280 ∷ [] }

-- a report of the neighbour, with the size that is accepted
abbrev reported : ℕ → Given
reported size = answered (neighbour ∷ size ∷ [])

-- the starred values, on that node
pub record Starred : Type 0 where
  -- the settings keep the rules, so this is a node of them
  pub accepted : is_accepted settings ≡ true
  -- P 1,300: n 1,280 wrapped, flag clear; 1,281 gives M 1,280
  pub path1300 : (given_last node (size_report 1300 1500 ∷ []) (offered 1280) ≡ answered (1300 ∷ []))
      × (flags_last node (size_report 1300 1500 ∷ []) (offered 1280) ≡ 0)
      × (given_last node (size_report 1300 1500 ∷ []) (offered 1281) ≡ too_big 1280)
  -- P 1,301: 1,281 wrapped, flag set; 1,282 gives 1,281
  pub path1301 : (given_last node (size_report 1301 1500 ∷ []) (offered 1281) ≡ answered (1301 ∷ []))
      × (flags_last node (size_report 1301 1500 ∷ []) (offered 1281) ≡ 64)
      × (given_last node (size_report 1301 1500 ∷ []) (offered 1282) ≡ too_big 1281)
  -- P 1,500: 1,480 passes; 1,481 gives 1,480
  pub path1500 : (given_last node [] (offered 1480) ≡ answered (1500 ∷ [])) × (given_last node [] (offered 1481) ≡ too_big 1480)
  -- P 600: 1,280 passes, flag clear
  pub path600 : (given_last node (size_report 600 1500 ∷ []) (offered 1280) ≡ answered (1300 ∷ []))
      × (flags_last node (size_report 600 1500 ∷ []) (offered 1280) ≡ 0)
  -- candidate 0: quoted 1,500 gives 1,492; 1,492 gives 1,006; 69 gives 68; 68 is 18
  pub plateaus : (given_last node [] (size_report 0 1500) ≡ reported 1492)
      × (given_last node [] (size_report 0 1492) ≡ reported 1006)
      × (given_last node [] (size_report 0 69) ≡ reported 68)
      × (given_last node [] (size_report 0 68) ≡ refused SizeUnusable)
  -- size 68 accepted, 67 is 18, 1,500 is 19
  pub sizes : (given_last node [] (size_report 68 1500) ≡ reported 68)
      × (given_last node [] (size_report 67 1500) ≡ refused SizeUnusable)
      × (given_last node [] (size_report 1500 1500) ≡ refused SizeNotBelow)
  -- accepted at 1,000: in force at 1,599, gone at 1,600
  pub ages : (path_size_of (node_after node (asking First 0 1000 [] ∷ size_report 1300 1500 ∷ asking First 0 1599 [] ∷ [])) First neighbour ≡ Ok 1300)
      × (path_size_of (node_after node (asking First 0 1000 [] ∷ size_report 1300 1500 ∷ asking First 0 1600 [] ∷ [])) First neighbour ≡ Ok 1500)
  -- the header of the program's example gets checksum 6696
  pub checksum : outer_bytes 60 (record { identification = 1; dont_fragment = false; ttl = 64; protocol = 41; source = neighbour; destination = us })
      ≡ 0x45 ∷ 0x00 ∷ 0x00 ∷ 0x3C ∷ 0x00 ∷ 0x01 ∷ 0x00 ∷ 0x00 ∷ 0x40 ∷ 0x29 ∷ 0x66 ∷ 0x96 ∷ be32 neighbour (be32 us [])
  -- first identifier byte 02 admitted, 01 and 03 not
  pub identifiers : (given_last node [] (receiving First (datagram 2) 0 0 memory) ≡ answered (0 ∷ 20 ∷ 40 ∷ []))
      × (given_last node [] (receiving First (datagram 1) 0 0 memory) ≡ refused OuterSourceWrong)
      × (given_last node [] (receiving First (datagram 3) 0 0 memory) ≡ refused OuterSourceWrong)
