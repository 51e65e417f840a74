-- The words of filters on classes.
use Rattle.std.specs.Prelude.{ℕ, List, [], ◌∷◌}
use Rattle.std.specs.List.{flat_map}
use Rattle.query_grammar.specs.declared.query.Filter.TheVariants as on_node
use Rattle.query_grammar.specs.declared.query.StepFilter.{StepFilter}
use Rattle.query_grammar.specs.declared.query.StepFilter.TheVariants as kind

-- the word of a filter, if it is on a class
abbrev pub class_word : StepFilter → List (List ℕ)
class_word (kind.Node (on_node.Class w)) = w ∷ []
class_word _ = []

-- the words of those on classes, in order
abbrev pub class_words : List StepFilter → List (List ℕ)
class_words fs = flat_map class_word fs
