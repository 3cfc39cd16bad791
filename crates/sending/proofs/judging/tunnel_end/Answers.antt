-- `sending::judging::tunnel_end` meets its contract: a link-local ISATAP address embeds its last 32 bits.
use Rattle.std.proofs.Common.{◌≡◌, true, ◌&&◌}
use Rattle.lists.proofs.Tests.{and_left, and_right}
use Rattle.address.specs.Address.{is_link_local, is_identifier}
use Rattle.address.proofs.Laws.{link_local_embeds}
use Rattle.settings.specs.Settings.{embedded_to}
use Rattle.sending.proofs.judging.tunnel_end.Goals as goal

pub returns-then-link_local_prefixed-identifier : goal.returns-then-link_local_prefixed-identifier
unfolding embedded_to
returns-then-link_local_prefixed-identifier c = let hop = c.args.next_hop in
    let both : is_link_local hop && is_identifier hop ≡ true = rw (← c.link_local_prefixed.ensures, ← c.identifier.ensures) c.if-link_local_prefixed-identifier.true in
    let local = and_left (is_link_local hop) (is_identifier hop) both in
    let identified = and_right (is_link_local hop) (is_identifier hop) both in
    rw (link_local_embeds _ _ hop local identified, c.last_quad.ensures)

pub returns : goal.returns
unfolding embedded_to
returns c = rw (c.isatap.ensures, c.rows.ensures)
