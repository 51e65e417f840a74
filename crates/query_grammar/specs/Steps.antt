-- The steps of a query.
use Rattle.std.specs.Prelude.{List}
use Rattle.query_grammar.specs.declared.query.Hunter.{Hunter}
use Rattle.query_grammar.specs.declared.query.StepFilter.{StepFilter}

-- what it finds, and the filters, in order
pub record Step : Type 0 where
  pub hunter : Hunter
  pub filters : List StepFilter
