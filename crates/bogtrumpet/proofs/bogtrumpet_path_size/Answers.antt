-- The rows of the path table are those of the node, and the link that of the service.
use Rattle.std.proofs.Common.{ap, ◌∙◌}
use Rattle.paths.specs.Kept.{in_force}
use Rattle.paths.specs.Table.{kept_among, kept_in}
use Rattle.node.specs.Node.{path_size_at}
use Rattle.node.specs.declared.Service.{Service}
use Rattle.bogtrumpet.specs.Steps.{sized_step}
use Rattle.bogtrumpet.proofs.Same.{size_now}
use Rattle.bogtrumpet.proofs.bogtrumpet_path_size.Goals as goal

pub returns : goal.returns
unfolding path_size_at kept_in
returns c =
    let h = c.args.node.now in
    let k = c.args.service in
    let kept = kept_among h.paths.neighbours h.paths.sizes h.paths.times h.paths.count c.args.neighbour h.latest in
    let e = ap (λ (s : Service). sized_step h.both k (in_force s.settings.link_size kept)) c.service_at-named.ensures in
    let p = c.path_rows.ensures in
    rw (p.0, p.1, p.2, p.3) at c.size_in_force.ensures ∙ e ∙ size_now h k c.args.neighbour
