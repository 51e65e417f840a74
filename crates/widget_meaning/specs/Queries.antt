-- Queries as a widget makes them. Which texts are queries, and what a query finds, is said by `query_grammar`.
use Rattle.std.specs.Prelude.{◌≡◌, ℕ, List, Option, Some}
use Rattle.query_grammar.specs.Finds as query
use Rattle.query_grammar.specs.Finds.{Links, Sight}
use Rattle.tree_ops.specs.Trees.{numbers}
use Rattle.query_grammar.specs.Machine.{judged}
use Rattle.query_grammar.specs.Queries.{QuerySpells}
use Rattle.query_grammar.specs.Steps.{Step}
use Rattle.widget_meaning.specs.Outcomes.{what_is_read}
use Rattle.widget_meaning.specs.Trees.{children, parent, tops}
use Rattle.widget_meaning.specs.OwnState.{State}
use Rattle.widget_meaning.specs.PageForms.{look}

-- the steps of a query; a text that is none has none
abbrev pub read_query : List ℕ → Option (List Step)
read_query us = what_is_read (judged us)

-- the nodes and how they hang together
abbrev pub links : State → Links
links s = record {
  look = look s;
  children = λ n. tops (children n s.own.forest);
  below = λ n. numbers (children n s.own.forest);
  parent = λ n. parent n s.own.forest;
}

-- what a query sees of the widget's page: the root's tree comes first, then detached trees by the age of their tops
abbrev pub sight : State → Sight
sight s = record { links = links s; document = numbers s.own.forest; focus = s.own.focus }

-- what a query finds from nodes
abbrev pub finds : State → List ℕ → List Step → List ℕ
finds s ns q = query.finds (sight s) ns q

-- the steps are those that the text spells as a query, and no others
pub record QueryLaws (us : List ℕ) (steps : List Step) : Type 0 where
  pub found : QuerySpells us steps → read_query us ≡ Some steps
  pub spelled : read_query us ≡ Some steps → QuerySpells us steps
