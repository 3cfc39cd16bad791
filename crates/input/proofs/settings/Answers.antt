-- `input::settings` meets its contract.
use Rattle.input.specs.Input.{prefix_section, router_section, settings_of}
use Rattle.input.proofs.settings.Goals as goal

pub returns : goal.returns
unfolding prefix_section router_section settings_of
returns c = rw (
  c.new.ensures,
  c.count-3.ensures,
  c.routers.ensures,
  c.count-2.ensures,
  c.prefixes.ensures,
  c.count.ensures,
  c.locators.ensures,
  c.behind-routers.ensures,
  c.behind-prefixes.ensures,
)
