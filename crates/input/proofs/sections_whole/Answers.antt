-- `input::sections_whole` meets its contract.
use Rattle.input.specs.Input.{prefix_section, router_section, are_sections_whole}
use Rattle.input.proofs.sections_whole.Goals as goal

pub returns : goal.returns
unfolding prefix_section router_section are_sections_whole
returns c = rw (
  c.whole-3.ensures,
  c.whole-2.ensures,
  c.whole.ensures,
  c.behind-routers.ensures,
  c.behind-prefixes.ensures,
)
