use Rattle.std.specs.Fmt.{decimal}
use Rattle.object_store.proofs.Own.{put_own_seen}
use Rattle.object_store.proofs.Others.{put_seen}
use Rattle.object_store.proofs.Growth.{put_grows}
use Rattle.object_store.proofs.store.Store.put_index.Goals as goal

pub returns-clause-others : goal.returns-clause-others
returns-clause-others c = λ w other. put_seen c.args.self.now c.links_are_older.ensures c.bunches_have_nodes.ensures c.args.cell (decimal c.args.i) c.args.value w other c.put_index_in.result c.put_index_in.new.self c.put_index_in.ensures.ok c.put_index_in.ensures.same

pub returns-clause-own : goal.returns-clause-own
returns-clause-own c = put_own_seen c.args.self.now c.links_are_older.ensures c.bunches_have_nodes.ensures c.args.cell (decimal c.args.i) c.args.value c.requires.value c.put_index_in.result c.put_index_in.new.self c.put_index_in.ensures.ok

pub returns-clause-grows : goal.returns-clause-grows
returns-clause-grows c = λ w. put_grows c.args.self.now w c.args.cell (decimal c.args.i) c.args.value c.put_index_in.result c.put_index_in.new.self c.put_index_in.ensures.ok c.put_index_in.ensures.same
