use Rattle.std.proofs.Common.{ℕ, List, subst}
use Rattle.std.specs.Prelude.{OnOk}
use Rattle.store_cells.specs.declared.value.Value.TheVariants as value
use Rattle.widget_meaning.specs.Costs.{give}
use Rattle.widget_meaning.specs.Properties.{put}
use Rattle.js_image.specs.Image.{seen}
use Rattle.js_names.specs.Code.{trees_of}
use Rattle.js_flow.specs.Frames.{Plans}
use Rattle.js_expressions.proofs.reading.write_element.Goals as goal

pub returns-clause-plan : goal.returns-clause-plan
returns-clause-plan c =
    let fs = trees_of c.args.codes.now.items in
    let w = c.args.w in
    let old = c.args.store.now in
    let new = c.write_property.new.store in
    subst (λ (x : List ℕ). OnOk c.write_property.result (Plans fs w old new (λ s. put (seen w old.cells (value.Ref c.args.cell)) x (seen w old.cells c.args.values.0) s (give (seen w old.cells c.args.values.1))) c.write_property.new.flow)) c.in_ok-name.ensures c.write_property.ensures.plan
