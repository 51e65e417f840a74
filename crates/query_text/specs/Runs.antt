-- The runs of the reader.
use Rattle.std.specs.Prelude.{ℕ, Bool, ◌==◌}
use Rattle.query_text.specs.declared.parts.Run.{Run as Class}
use Rattle.query_text.specs.declared.parts.Run.TheVariants as run
use Rattle.query_grammar.specs.Queries.{in_name, in_word, in_value}

abbrev pub is_space : ℕ → Bool
is_space u = u == 32

abbrev pub passes : Class → ℕ → Bool
passes run.Name u = in_name u
passes run.Word u = in_word u
passes run.Value u = in_value u
passes run.Space u = is_space u
