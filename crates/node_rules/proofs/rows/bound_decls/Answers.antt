use Rattle.std.specs.Prelude.{map}
use Rattle.first_breach.specs.Breaches.{Nothing, Each}
use Rattle.first_breach.specs.Narrowing.{Narrows}
use Rattle.first_breach.proofs.Narrowing.{each_none}
use Rattle.node_rules.specs.Names.{decl_name}
use Rattle.node_rules.specs.Sets.{BinderRow}
use Rattle.node_rules.proofs.Placing.{map_step, all_taken}
use Rattle.node_rules.proofs.rows.bound_decls.Goals as goal

pub decls-init : goal.decls-init
decls-init c = each_none BinderRow c.args.best

pub decls-preserved : goal.decls-preserved
decls-preserved c = map_step BinderRow _ _ _ decl_name c.args.list.now c.decls.decl-index c.decl-item.result c.decls-test.true c.decl-item.is c.decls.invariant c.bound-least.ensures

pub returns : goal.returns
returns c = all_taken (λ l. Narrows (Each BinderRow (map decl_name l)) c.args.best Nothing c.decls.least) c.args.list.now c.decls.decl-index c.decls-test.false c.decls.invariant
