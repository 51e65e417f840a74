use Rattle.js_tree.proofs.PartLaws.{spot_size-parts}
use Rattle.js_tree.proofs.laws.sizes_fall.Goals as goal

pub returns : goal.returns
returns c = spot_size-parts
