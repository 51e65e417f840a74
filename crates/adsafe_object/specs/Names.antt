-- What names a property for the natives of `ADSAFE`, what is logged, and why texts are not made.
use Rattle.std.specs.Prelude.{List, ℕ, Option, None, Some, if◌then◌else◌}
use Rattle.std.specs.List.{list_any}
use Rattle.widget_meaning.specs.OwnState.{State}
use Rattle.widget_meaning.specs.Plan.{Plan}
use Rattle.widget_meaning.specs.Costs.{throw}
use Rattle.widget_meaning.specs.Values.{E4}
use Rattle.widget_meaning.specs.NativeForms.{is_too_long}
use Rattle.js_image.specs.declared.outcome.StopCause.{StopCause}
use Rattle.js_image.specs.declared.outcome.StopCause.TheVariants as cause
use Rattle.js_image.specs.Plans.{meant_fault}
use Rattle.adsafe_object.specs.declared.names.Named.{Named}
use Rattle.adsafe_object.specs.declared.names.Named.TheVariants as named

-- what is done with a name, or what is thrown
abbrev pub named_plan : Named → State → (List ℕ → Plan) → Plan
named_plan (named.Name t) s k = k t
named_plan (named.Refused f) s k = throw (meant_fault f) s

-- what is done with the text of a primitive; an object throws
abbrev pub text_plan : Option (List ℕ) → State → (List ℕ → Plan) → Plan
text_plan None s k = throw E4 s
text_plan (Some t) s k = k t

-- the stop of texts that have more units together than a widget may have
abbrev pub too_many : List (List ℕ) → StopCause
too_many ts = if list_any is_too_long ts then cause.LongText else cause.Units
