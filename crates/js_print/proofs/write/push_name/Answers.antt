use Rattle.js_pieces.specs.Spelling.{name_bytes}
use Rattle.js_print.proofs.Fronts.{goes_start}
use Rattle.js_print.proofs.write.push_name.Goals as goal

pub units-init : goal.units-init
unfolding name_bytes
units-init c = goes_start _ _
