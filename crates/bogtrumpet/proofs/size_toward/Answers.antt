-- The rows of the path table are those of the node, and the link that of the service.
use Rattle.std.proofs.Common.{max, ap, ◌∙◌}
use Rattle.address.specs.Address.{last_quad}
use Rattle.paths.specs.Kept.{in_force}
use Rattle.paths.specs.Table.{kept_among}
use Rattle.node.specs.declared.Service.{Service}
use Rattle.bogtrumpet.specs.Numbered.{name_of}
use Rattle.bogtrumpet.specs.Plain.{bytes_of}
use Rattle.bogtrumpet.proofs.Same.{size_is}
use Rattle.bogtrumpet.proofs.size_toward.Goals as goal

pub returns : goal.returns
returns c =
    let h = c.args.node.now in
    let k = c.args.service in
    let v = last_quad (bytes_of c.args.next_hop) in
    let now = max h.latest c.args.time in
    let e = c.service_at-named.ensures in
    let p = c.path_rows.ensures in
    rw (p.0, p.1, p.2, p.3) at c.size_toward.ensures
    ∙ ap (λ (s : Service). in_force s.settings.link_size (kept_among h.paths.neighbours h.paths.sizes h.paths.times h.paths.count v now)) e
    ∙ size_is h (name_of k) v now
