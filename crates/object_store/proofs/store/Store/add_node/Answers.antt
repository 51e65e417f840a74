use Rattle.std.proofs.Common.{sym, ◌∙◌, ap, List, ℕ, eqb}
use Rattle.indexmap.specs.IndexMap.{insert_entry}
use Rattle.store_cells.proofs.Makes.{node_old, node_new, node_shape}
use Rattle.object_store.proofs.store.Store.add_node.Goals as goal

pub returns-in-Some-clause-ok : goal.returns-in-Some-clause-ok
returns-in-Some-clause-ok c =
    let s = c.self in
    node_old c.args.self.now s.inside.names s.inside.cells.items s.inside.kept.items s.view_is s.invariant c.args.node c.in-Some.id (sym c.node_cell.ensures ∙ c.in-Some.is)

pub returns-clause-ok : goal.returns-clause-ok
returns-clause-ok c =
    let s = c.self in
    node_new c.args.self.now s.inside.names s.inside.cells.items s.inside.kept.items s.view_is s.invariant c.add.new.cells.items c.of_node.result c.args.node c.in_ok-id.id (sym c.node_cell.ensures ∙ c.in_default.is) c.of_node.ensures c.in_ok-id.ensures.ok

pub invariant_of-self-2 : goal.invariant_of-self-2
invariant_of-self-2 c =
    let s = c.self in
    node_shape c.args.self.now s.inside.names s.inside.cells.items s.inside.kept.items s.view_is s.invariant c.add.new.cells.items c.of_node.result c.index_node.new.raws.entries c.args.node c.in_ok-id.id c.of_node.ensures (sym c.node_cell.ensures ∙ c.in_default.is) c.in_ok-id.ensures.ok (c.index_node.ensures ∙ ap (λ (es : List (ℕ × ℕ)). insert_entry eqb es c.args.node c.in_ok-id.id) c.in_ok-reserve.ensures.entries)
