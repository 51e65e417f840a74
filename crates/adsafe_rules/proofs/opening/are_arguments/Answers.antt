use Rattle.js_tree.specs.Trees.{trees}
use Rattle.adsafe_rules.proofs.Openings.{no_arguments, more_arguments}
use Rattle.adsafe_rules.proofs.opening.are_arguments.Goals as goal

pub returns-in-None : goal.returns-in-None
returns-in-None c = no_arguments (trees c.args.tree.now) c.args.scope.now c.args.args.now c.in-None.ensures

pub returns-in-More : goal.returns-in-More
returns-in-More c = more_arguments (trees c.args.tree.now) _ _ _ _ c.args.args.now c.in-More.ensures c.args.scope.now
