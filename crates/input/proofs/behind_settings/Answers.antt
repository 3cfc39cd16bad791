-- `input::behind_settings` meets its contract.
use Rattle.input.specs.Input.{prefix_section, router_section, behind_settings}
use Rattle.input.proofs.behind_settings.Goals as goal

pub returns : goal.returns
unfolding prefix_section router_section behind_settings
returns c = rw (c.behind.ensures, c.behind-routers.ensures, c.behind-prefixes.ensures)
