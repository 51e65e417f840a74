-- How far a text has come.
use Rattle.std.specs.Prelude.{List, ℕ}
use Rattle.widget_meaning.specs.JsonTexts.{Written, Wrote, NoJson, TooLong}
use Rattle.json_text.specs.declared.steps.Step.{Step}
use Rattle.json_text.specs.declared.steps.Step.TheVariants as step

-- a step that ends with a text so far
abbrev pub meant_step : Step → List ℕ → Written
meant_step step.Wrote t = Wrote t
meant_step step.NoJson t = NoJson
meant_step step.TooLong t = TooLong
