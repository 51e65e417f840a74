use Rattle.std.proofs.Common.{sym, subst}
use Rattle.js_tree.specs.Trees.{trees}
use Rattle.js_names.specs.Found.{AreFound}
use Rattle.js_names.proofs.Placed.{found_none}
use Rattle.js_names.proofs.code.all_names.Goals as goal

pub returns-in-None-clause-found : goal.returns-in-None-clause-found
returns-in-None-clause-found c = let f = trees c.args.tree.now in subst (AreFound f) (sym c.new.ensures.items) (found_none f)
