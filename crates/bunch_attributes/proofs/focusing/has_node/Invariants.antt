use Rattle.std.proofs.Common.{◌≡◌, drop}
use Rattle.query_grammar.specs.Finds.{has_number}
use Rattle.bunch_attributes.proofs.focusing.has_node.Given as goal

-- it is not among those that were passed over
abbrev pub invariant-each : goal.invariant-each
invariant-each l = has_number l.list l.node ≡ has_number (drop l.other-index l.list) l.node
