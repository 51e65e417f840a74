use Rattle.first_breach.specs.Breaches.{Nothing, Each}
use Rattle.first_breach.specs.Narrowing.{Narrows}
use Rattle.first_breach.proofs.Narrowing.{each_none}
use Rattle.node_rules.specs.Names.{placed}
use Rattle.node_rules.specs.Sets.{BinderRow}
use Rattle.node_rules.proofs.Placing.{placed_step, all_taken}
use Rattle.node_rules.proofs.rows.bound_names.Goals as goal

pub names-init : goal.names-init
names-init c = each_none BinderRow c.args.best

pub names-preserved : goal.names-preserved
names-preserved c = placed_step BinderRow _ _ _ c.args.at c.args.places.now c.args.list.now c.names.i _ c.index-list-i.result c.names-test.true c.index-list-i.is c.place_at.ensures c.names.invariant c.bound-least.ensures

pub returns : goal.returns
returns c = all_taken (λ l. Narrows (Each BinderRow (placed c.args.at c.args.places.now l)) c.args.best Nothing c.names.least) c.args.list.now c.names.i c.names-test.false c.names.invariant
