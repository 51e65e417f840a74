-- What a method asks of each node.
use Rattle.std.specs.Prelude.{ℕ, Bool, List, codes, ◌||◌}
use Rattle.std.specs.Str.{bytes_eq}
use Rattle.widget_meaning.specs.OwnState.{State}
use Rattle.widget_meaning.specs.PageForms.{is_element, is_field, is_input}
use Rattle.bunch_attributes.specs.declared.judging.Test.{Test}
use Rattle.bunch_attributes.specs.declared.judging.Test.TheVariants as test

-- whether elements of a tag can be disabled
abbrev pub is_field_tag : List ℕ → Bool
is_field_tag tag =
    bytes_eq tag (codes "input") || bytes_eq tag (codes "button") || bytes_eq tag (codes "textarea")
    || bytes_eq tag (codes "select") || bytes_eq tag (codes "option")

-- whether a node passes
abbrev pub passes : Test → State → ℕ → Bool
passes test.Element s n = is_element s n
passes test.Input s n = is_input s n
passes test.Field s n = is_field s n
