use Rattle.std.proofs.Common.{◌∙◌}
use Rattle.object_store.proofs.Fills.{unset_adds, unset_first, unset_refuses}
use Rattle.object_store.proofs.store.Store.make_unset.Goals as goal

pub make_scope-requires-clause-pairs : goal.make_scope-requires-clause-pairs
make_scope-requires-clause-pairs c = unset_first c.args.self.now.cells c.args.names.now c.deref.result.now (c.deref.ensures.value ∙ c.in_ok-pairs.ensures) c.requires.distinct

pub returns-clause-ok : goal.returns-clause-ok
returns-clause-ok c = unset_adds c.make_scope.result c.args.self.now c.make_scope.new.self c.args.w c.args.outer c.args.names.now c.deref.result.now (c.deref.ensures.value ∙ c.in_ok-pairs.ensures) c.make_scope.ensures.ok

pub returns-clause-err : goal.returns-clause-err
returns-clause-err c = unset_refuses c.make_scope.result c.args.self.now.kept c.args.w c.args.names.now c.deref.result.now (c.deref.ensures.value ∙ c.in_ok-pairs.ensures) c.make_scope.ensures.err
