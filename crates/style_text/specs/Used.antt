-- Which properties stand in pairs.
use Rattle.std.specs.Prelude.{List, Bool, map}
use Rattle.style_text.specs.Styles.{Pair, properties, is_used}

-- for each listed property in order, whether some pair has it
unfoldable pub marks_of : List Pair → List Bool
marks_of pairs = map (is_used pairs) properties
