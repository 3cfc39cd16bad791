-- `node::Node::put_back` meets its contract: by cases on the name; and what the type of a reporting address, the eleventh of the settings,
-- says of its length.
use mathlib.Core.Path.{◌≡◌}
use lib.ListN.{length}
use Rattle.node.proofs.Node.put_back.Goals as goal

pub returns-in-First : goal.returns-in-First
returns-in-First c = let full : (let self = c.args.self in (length self.first.settings.reporting ≡ 16) × (length self.second.settings.reporting ≡ 16)) = (let services = c.well_formed.0.1.1 in
    let first = services.0.1.1.0.1.1.1.1.1.1.1.1.1.1.1.1.0 in
    let second = services.1.0.1.1.0.1.1.1.1.1.1.1.1.1.1.1.1.0 in
    (first.1.0.1, second.1.0.1)) in
    record {
      value = rw (c.max.ensures, c.in-First.is);
      reporting_len = full;
    }

pub returns-in-Second : goal.returns-in-Second
returns-in-Second c = let full : (let self = c.args.self in (length self.first.settings.reporting ≡ 16) × (length self.second.settings.reporting ≡ 16)) = (let services = c.well_formed.0.1.1 in
    let first = services.0.1.1.0.1.1.1.1.1.1.1.1.1.1.1.1.0 in
    let second = services.1.0.1.1.0.1.1.1.1.1.1.1.1.1.1.1.1.0 in
    (first.1.0.1, second.1.0.1)) in
    record {
      value = rw (c.max.ensures, c.in-Second.is);
      reporting_len = full;
    }
