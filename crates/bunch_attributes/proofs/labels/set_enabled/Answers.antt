use Rattle.std.proofs.Common.{◌∷◌, [], map, length, ap, sym, ◌∙◌, codes}
use Rattle.std.specs.Prelude.{not}
use Rattle.std.specs.List.{fold}
use Rattle.store_cells.specs.declared.value.Value.TheVariants as value
use Rattle.widget_meaning.specs.BunchWrites as means
use Rattle.widget_meaning.specs.BunchWrites.{relabel, write_method}
use Rattle.widget_meaning.specs.Costs.{give}
use Rattle.permitted_table.specs.declared.native.WriteNative.TheVariants.{SetEnabled}
use Rattle.widget_meaning.specs.PageForms.{is_field, want_all}
use Rattle.widget_meaning.specs.Plan.{charge}
use Rattle.js_image.specs.Image.{seen}
use Rattle.page_image.specs.Image.{number}
use Rattle.native_image.specs.Charges.{Free}
use Rattle.native_image.specs.Handed.{parts}
use Rattle.native_image.specs.Image.{image}
use Rattle.native_image.proofs.Reading.{writes_memory, writes_same}
use Rattle.bunch_attributes.specs.Labels.{relabel_plan}
use Rattle.bunch_attributes.specs.declared.judging.Test.TheVariants as test
use Rattle.bunch_attributes.proofs.labels.set_enabled.Goals as goal

pub returns-in_err-flag : goal.returns-in_err-flag
returns-in_err-flag c = writes_memory c.args.shared.now c.args.widget.now c.requires.sound c.args.meter.now c.args.meter.now _ c.from_residual.result c.from_residual.ensures.0

pub returns : goal.returns
returns c =
    let w = c.args.widget.now.id.index in
    let p = c.args.shared.now.page in
    let s = c.args.shared.now.store in
    let h = parts c.args.shared.now c.args.widget.now in
    let ns = map (number p w) c.args.bunch.now.nodes.now in
    let v = seen w s.cells (value.Ref c.args.bunch.now.cell) in
    let t = seen w s.cells c.args.value.now in
    writes_same c.args.shared.now c.relabel.new.shared c.args.widget.now c.args.widget.now c.args.meter.now c.relabel.new.meter (λ d u. write_method SetEnabled ns v (t ∷ []) d u) (λ d u. relabel_plan test.Field c.in_ok-flag.field-0 Free ns v u) c.relabel.result
    (λ fs x d.
    let u = image fs x w h in
    ap (λ k. means.set_flag (is_field u) ns (codes "disabled") (not k) v u) (sym (c.is_true.ensures w s.cells))
    ∙ (λ j. want_all (is_field u) ns u (charge (length ns) u (give v (fold (relabel (λ y. sym (c.in_ok-flag.ensures y) j)) u ns)))))
    (c.relabel.ensures Free tt)
