-- When a query is refused.
use Rattle.std.specs.Prelude.{ℕ, List}
use Rattle.query_grammar.specs.Queries.{BadQueryPlace}
use Rattle.query_text.specs.declared.QueryFault.{QueryFault}
use Rattle.query_text.specs.declared.QueryFault.TheVariants as fault

-- the units are no query, with the place of the refusal, or there was no memory
abbrev pub IsQueryFault : List ℕ → QueryFault → Type 0
IsQueryFault us (fault.BadQuery at) = BadQueryPlace us at
IsQueryFault us fault.Memory = Unit {0}
