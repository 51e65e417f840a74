use Rattle.std.proofs.Common.{◌+◌, ◌||◌, drop, get_or, sym, ap, ◌∙◌, eq-eqb, ne_eqb}
use Rattle.std.proofs.lemmas.List.{at_drop_more}
use Rattle.query_grammar.specs.Finds.{has_number}
use Rattle.bunch_attributes.proofs.focusing.has_node.Goals as goal

pub each-preserved : goal.each-preserved
each-preserved c =
    c.each.invariant
    ∙ at_drop_more (λ ns. has_number ns c.args.node) c.args.list.now c.each.other-index 0 c.each-test.true
    ∙ ap (λ b. b || has_number (drop (c.each.other-index + 1) c.args.list.now) c.args.node) (ne_eqb c.args.node (get_or c.args.list.now c.each.other-index 0) c.if-node-other.false)

pub returns-then-node-other : goal.returns-then-node-other
returns-then-node-other c =
    sym (c.each.invariant
    ∙ at_drop_more (λ ns. has_number ns c.args.node) c.args.list.now c.each.other-index 0 c.each-test.true
    ∙ ap (λ b. b || has_number (drop (c.each.other-index + 1) c.args.list.now) c.args.node) (eq-eqb c.args.node (get_or c.args.list.now c.each.other-index 0) c.if-node-other.true))
