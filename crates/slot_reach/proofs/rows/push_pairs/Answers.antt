use Rattle.std.proofs.Common.{◌∙◌}
use Rattle.std.proofs.lemmas.Result.{on_ok_weaker}
use Rattle.slot_reach.proofs.Named.{keys_tell}
use Rattle.slot_reach.proofs.rows.push_pairs.Goals as goal

pub returns : goal.returns
returns c =
    on_ok_weaker c.push_all_named.result
    (keys_tell c.args.names.now c.args.store.now.cells c.args.cell c.deref.result.now c.args.out.now.items c.push_all_named.new.out.items c.names_differ.ensures c.arrays_have_length.ensures c.bunches_have_nodes.ensures (c.deref.ensures.value ∙ c.in_ok-keys.ensures))
    c.push_all_named.ensures
