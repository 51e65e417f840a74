use Rattle.widget_meaning.proofs.laws.compositional.Goals as goal
use Rattle.widget_meaning.proofs.Parts.{expression_laws, statement_laws, call_laws}

-- src/laws.rt
pub returns-clause-expressions : goal.returns-clause-expressions
returns-clause-expressions c = expression_laws

-- src/laws.rt
pub returns-clause-statements : goal.returns-clause-statements
returns-clause-statements c = statement_laws

-- src/laws.rt
pub returns-clause-calls : goal.returns-clause-calls
returns-clause-calls c = call_laws
