use Rattle.store_table.proofs.Firsts.{first_shape}
use Rattle.object_store.proofs.store.Store.new.Goals as goal

pub invariant_of-result : goal.invariant_of-result
invariant_of-result c = first_shape _ _ _ _ c.in_ok-table.ensures c.in_ok-raws.ensures c.in_ok-kept.ensures

pub returns : goal.returns
returns c = λ j. record { cells = c.in_ok-table.ensures.done j; kept = c.in_ok-kept.ensures j }
