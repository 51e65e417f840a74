use Rattle.std.proofs.Common.{◌≡◌, ◌++◌, drop}
use Rattle.query_grammar.specs.Finds.{at_places}
use Rattle.query_walks.proofs.Siblings.{placed}
use Rattle.query_lang.proofs.finder.at_places.Given as goal

-- what is kept, and what is still to come
abbrev pub invariant-each : goal.invariant-each
invariant-each l = l.kept.items ++ placed l.rest l.i (drop l.i l.list) ≡ at_places l.rest l.list
