use Rattle.std.proofs.Common.{List, Some, map, ap, ◌∙◌}
use Rattle.serde_json.specs.View.{view}
use Rattle.serde_json.specs.declared.value.Value.{Value}
use Rattle.json_shapes.proofs.KeyLemmas.{listed_found}
use Rattle.json_shapes.proofs.look.list_in.Goals as goal

pub returns : goal.returns
returns c =
    ap (λ (vs : List Value). Some (map view vs)) c.as_slice.ensures.value
    ∙ listed_found (view c.args.value.now) c.in-Some.list.now.items c.in-Some.ensures
