use Rattle.std.proofs.Common.{◌*◌, length, map, ap, sym, ◌∙◌}
use Rattle.std.proofs.lemmas.List.{length-map}
use Rattle.store_cells.specs.declared.value.Value.TheVariants as value
use Rattle.widget_meaning.specs.BunchWrites as means
use Rattle.js_image.specs.Image.{seen}
use Rattle.native_common.specs.Numbers.{counted}
use Rattle.page_image.specs.Image.{number}
use Rattle.native_image.specs.Charges.{OfUnits}
use Rattle.native_image.specs.Image.{image}
use Rattle.bunch_attributes.specs.Labels.{relabel_plan}
use Rattle.bunch_attributes.specs.declared.judging.Test.TheVariants as test
use Rattle.bunch_attributes.specs.declared.relabelling.Label.TheVariants as label
use Rattle.native_image.specs.Handed.{parts}
use Rattle.native_image.proofs.Reading.{writes_memory, writes_same}
use Rattle.bunch_attributes.proofs.labels.set_attribute.Goals as goal

pub returns-in_err-name : goal.returns-in_err-name
returns-in_err-name c = writes_memory c.args.shared.now c.args.widget.now c.requires.sound c.args.meter.now c.args.meter.now _ c.from_residual.result c.from_residual.ensures.0

pub returns : goal.returns
returns c =
    let w = c.args.widget.now.id.index in
    let p = c.args.shared.now.page in
    let s = c.args.shared.now.store in
    let h = parts c.args.shared.now c.args.widget.now in
    let ns = map (number p w) c.args.bunch.now.nodes.now in
    let v = seen w s.cells (value.Ref c.args.bunch.now.cell) in
    writes_same c.args.shared.now c.relabel.new.shared c.args.widget.now c.args.widget.now c.args.meter.now c.relabel.new.meter (λ d u. means.set_attribute ns c.args.name.now c.args.text v u) (λ d u. relabel_plan test.Element (label.Set c.in_ok-name.name c.args.text) (OfUnits (length ns * length c.args.text)) ns v u) c.relabel.result
    (λ fs x d. let u = image fs x w h in ap (λ k. relabel_plan test.Element (label.Set k c.args.text) (OfUnits (length ns * length c.args.text)) ns v u) (sym c.in_ok-name.ensures))
    (c.relabel.ensures (OfUnits (length ns * length c.args.text)) (c.units_for.ensures ∙ ap (λ k. counted (k * length c.args.text)) (sym (length-map c.args.bunch.now.nodes.now (number p w)))))
