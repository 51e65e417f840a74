use Rattle.std.proofs.Common.{refl, ◌∙◌}
use Rattle.adhost_run.proofs.DemoPage.{click_units}
use Rattle.adhost_run.proofs.demos.click.Goals as goal

pub returns : goal.returns
returns c = (c.in_ok-from_str.ensures ∙ click_units, c.in_ok-vec.ensures.items, refl)
