use Rattle.std.proofs.Common.{map, take}
use Rattle.serde_json.specs.View.{view}
use Rattle.json_shapes.specs.Each.{Each}
use Rattle.trace_reader.specs.Items.{IsStep}
use Rattle.trace_reader.proofs.item.read_path.Given as goal

abbrev pub invariant-steps : goal.invariant-steps
invariant-steps l = Each IsStep (map view (take l.step-index l.steps)) l.path.items
