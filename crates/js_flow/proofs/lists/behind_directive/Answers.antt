use Rattle.js_tree.specs.Trees.{trees}
use Rattle.js_tree.specs.Lists.{stmt_list}
use Rattle.js_tree.specs.Forest.{fun_at}
use Rattle.js_flow.specs.Parts.{body_of}
use Rattle.js_flow.proofs.Listing.{past_one}
use Rattle.js_flow.proofs.lists.behind_directive.Goals as goal

pub returns-in-None : goal.returns-in-None
returns-in-None c = past_one c.args.n (stmt_list (body_of (fun_at (trees c.args.tree.now) c.args.id))) c.in-None.ensures
