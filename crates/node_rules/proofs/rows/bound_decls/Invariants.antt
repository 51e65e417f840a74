use Rattle.std.proofs.Common.{take}
use Rattle.std.specs.Prelude.{map}
use Rattle.first_breach.specs.Breaches.{Nothing, Each}
use Rattle.first_breach.specs.Narrowing.{Narrows}
use Rattle.node_rules.specs.Names.{decl_name}
use Rattle.node_rules.specs.Sets.{BinderRow}
use Rattle.node_rules.proofs.rows.bound_decls.Given as goal

abbrev pub invariant-decls : goal.invariant-decls
invariant-decls l = Narrows (Each BinderRow (map decl_name (take l.decl-index l.list))) l.fn.best Nothing l.least
