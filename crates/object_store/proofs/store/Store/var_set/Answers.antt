use Rattle.object_store.proofs.Own.{var_own}
use Rattle.object_store.proofs.Others.{var_seen}
use Rattle.object_store.proofs.Growth.{var_grows}
use Rattle.object_store.proofs.store.Store.var_set.Goals as goal

pub returns-clause-others : goal.returns-clause-others
returns-clause-others c = λ w other. var_seen c.args.self.now c.links_are_older.ensures c.bunches_have_nodes.ensures c.args.scope c.args.name.now c.args.value c.requires.scope c.set_in.new.self w c.set_in.ensures.done other

pub returns-clause-own : goal.returns-clause-own
returns-clause-own c = λ w. var_own c.args.self.now c.links_are_older.ensures c.bunches_have_nodes.ensures c.args.scope c.args.name.now c.args.value c.requires.scope c.requires.value c.set_in.new.self c.set_in.ensures.done w

pub returns-clause-grows : goal.returns-clause-grows
returns-clause-grows c = λ w. var_grows c.args.self.now w c.args.scope c.args.name.now c.args.value c.set_in.new.self c.set_in.ensures.done
