-- `messages::enclose` meets its contract: the IPv6 header, the front of the message and the checksum are written one after another.
use native.Mathlib.Omega.{arith}
use Rattle.messages.proofs.EnclosedLaws.{fits, enclosed-not, enclosed_by}
use mathlib.Core.Path.{◌∙◌, sym}
use lib.ListN.{length}
use Rattle.messages.proofs.enclose.Goals as goal

pub returns-then-not-packet_fits : goal.returns-then-not-packet_fits
returns-then-not-packet_fits c = let a = c.args in
    let m = a.m in
    sym (enclosed-not m.hop m.from m.to m.kind m.four a.n a.out.now (sym c.packet_fits.ensures ∙ c.if-not-packet_fits.true))

pub returns : goal.returns
returns c = let a = c.args in
    let m = a.m in
    let out = a.out.now in
    let f = fits a.n (length out) c.packet_fits.ensures c.if-not-packet_fits.false in
    enclosed_by m.hop m.from m.to m.kind m.four a.n out (omega arith) (omega arith) (omega arith) f
    c.write_ipv6_header.ensures c.write_at.ensures c.seal.ensures
