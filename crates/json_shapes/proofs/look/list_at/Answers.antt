use Rattle.std.proofs.Common.{List, Some, map, ap, ◌∙◌}
use Rattle.serde_json.specs.View.{view}
use Rattle.serde_json.specs.declared.value.Value.{Value}
use Rattle.json_shapes.proofs.KeyLemmas.{list_found}
use Rattle.json_shapes.proofs.look.list_at.Goals as goal

pub returns : goal.returns
returns c =
    ap (λ (vs : List Value). Some (map view vs)) c.as_slice.ensures.value
    ∙ list_found c.args.key.now (view c.args.value.now) (view c.in-Some.found.now) c.in-Some-as_array.list.now.items c.in-Some.ensures c.in-Some-as_array.ensures
