use Rattle.std.proofs.Common.{◌∙◌}
use Rattle.object_store.proofs.Chains.{along_first}
use Rattle.object_store.proofs.store.Store.var_get.Goals as goal

pub returns : goal.returns
returns c = c.get_along.ensures ∙ along_first c.args.self.now.cells c.args.scope c.args.name.now
