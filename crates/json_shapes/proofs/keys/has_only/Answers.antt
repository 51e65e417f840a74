use Rattle.serde_json.specs.View.{view}
use Rattle.json_shapes.proofs.KeyLemmas.{object_only}
use Rattle.json_shapes.proofs.keys.has_only.Goals as goal

pub returns-in-Some : goal.returns-in-Some
returns-in-Some c = object_only c.args.keys.now (view c.args.value.now) c.in-Some.members.now.entries c.are_keys.result c.in-Some.ensures c.are_keys.ensures
