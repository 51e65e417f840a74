use Rattle.store_cells.specs.First.{first_values}
use Rattle.store_cells.specs.Born.{scope_cell}
use Rattle.std.proofs.Common.{[], ◌∷◌, length, ◌+◌}
use Rattle.object_store.proofs.OwnMade.{scope_own_seen}
use Rattle.object_store.proofs.Others.{scope_others}
use Rattle.object_store.proofs.Growth.{adds_grow}
use Rattle.object_store.proofs.store.Store.make_call_scope.Goals as goal

pub returns-clause-own : goal.returns-clause-own
returns-clause-own c =
    scope_own_seen c.args.self.now c.links_are_older.ensures c.bunches_have_nodes.ensures c.args.w c.args.outer (first_values c.args.first.now) c.requires.outer c.requires.pairs.refs c.call_scope_in.result c.call_scope_in.new.self c.call_scope_in.ensures.ok

pub returns-clause-others : goal.returns-clause-others
returns-clause-others c = λ v apart.
    scope_others c.args.self.now c.links_are_older.ensures c.bunches_have_nodes.ensures c.args.w v apart c.args.outer (first_values c.args.first.now) (length (first_values c.args.first.now) + 1) c.call_scope_in.result c.call_scope_in.new.self c.call_scope_in.ensures.ok c.call_scope_in.ensures.same

pub returns-clause-grows : goal.returns-clause-grows
returns-clause-grows c = λ v.
    adds_grow c.args.self.now v c.args.w (scope_cell c.args.w c.args.outer (first_values c.args.first.now) ∷ []) 0 (length (first_values c.args.first.now) + 1) c.call_scope_in.result c.call_scope_in.new.self c.call_scope_in.ensures.ok c.call_scope_in.ensures.same
