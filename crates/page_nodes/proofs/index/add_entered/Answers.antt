use Rattle.plain_tree.specs.Plains.{unplaced}
use Rattle.page_nodes.specs.Arenas.{nodes_in}
use Rattle.page_nodes.proofs.Indexing.{owners_added, index_older, index_back, when_refused}
use Rattle.page_nodes.proofs.index.add_entered.Goals as goal

pub enter_from-requires-clause-owners : goal.enter_from-requires-clause-owners
enter_from-requires-clause-owners c = owners_added (nodes_in c.args.arena.now) (nodes_in c.add.new.self) c.in_ok-id.id c.args.owner (unplaced c.args.plain.now) c.requires.owners c.requires.owner c.in_ok-id.ensures

pub enter_from-requires-clause-before : goal.enter_from-requires-clause-before
enter_from-requires-clause-before c = index_older (nodes_in c.args.arena.now) (nodes_in c.add.new.self) c.args.ids.now c.in_ok-id.id c.in_ok-id.ensures.number c.in_ok-id.ensures.older c.requires.index

pub returns-in_err-enter_from-clause-index : goal.returns-in_err-enter_from-clause-index
returns-in_err-enter_from-clause-index c = when_refused _ _ _ c.from_residual-in_err-enter_from.ensures.0 (index_back (nodes_in c.args.arena.now) (nodes_in c.add.new.self) c.enter_from.new.ids c.in_ok-id.id c.in_ok-id.ensures.number c.in_ok-id.ensures.older c.in_err-enter_from.ensures)
