use Rattle.std.proofs.Common.{◌∷◌, [], map, ap, sym, ◌∙◌, codes}
use Rattle.store_cells.specs.declared.value.Value.TheVariants as value
use Rattle.widget_meaning.specs.BunchWrites as means
use Rattle.widget_meaning.specs.BunchWrites.{write_method}
use Rattle.permitted_table.specs.declared.native.WriteNative.TheVariants.{SetTitle}
use Rattle.widget_meaning.specs.Values.{to_text}
use Rattle.js_image.specs.declared.outcome.Fault.TheVariants as fault
use Rattle.js_image.specs.Image.{seen}
use Rattle.page_image.specs.Image.{number}
use Rattle.native_image.specs.Image.{image}
use Rattle.native_image.proofs.Wants.{object_of, primitive_of}
use Rattle.native_image.specs.Handed.{parts}
use Rattle.native_image.proofs.Reading.{writes_memory, writes_same, writes_thrown}
use Rattle.bunch_attributes.proofs.labels.set_title.Goals as goal

pub returns-then-is_object : goal.returns-then-is_object
returns-then-is_object c =
    let w = c.args.widget.now.id.index in
    let p = c.args.shared.now.page in
    let s = c.args.shared.now.store in
    let h = parts c.args.shared.now c.args.widget.now in
    let ns = map (number p w) c.args.bunch.now.nodes.now in
    let v = seen w s.cells (value.Ref c.args.bunch.now.cell) in
    let t = seen w s.cells c.args.value.now in
    writes_thrown c.args.shared.now c.args.widget.now c.requires.sound (λ d u. write_method SetTitle ns v (t ∷ []) d u) fault.E4 c.args.meter.now
    (λ fs x d. let u = image fs x w h in object_of t u (means.set_attribute ns (codes "title") (to_text t) v u) (sym (c.is_object.ensures.object w s.cells) ∙ c.if-is_object.true))

pub returns-in_err-text : goal.returns-in_err-text
returns-in_err-text c = writes_memory c.args.shared.now c.args.widget.now c.requires.sound c.args.meter.now c.args.meter.now _ c.from_residual.result c.from_residual.ensures.0

pub returns : goal.returns
returns c =
    let w = c.args.widget.now.id.index in
    let p = c.args.shared.now.page in
    let s = c.args.shared.now.store in
    let h = parts c.args.shared.now c.args.widget.now in
    let ns = map (number p w) c.args.bunch.now.nodes.now in
    let v = seen w s.cells (value.Ref c.args.bunch.now.cell) in
    let t = seen w s.cells c.args.value.now in
    writes_same c.args.shared.now c.set_attribute.new.shared c.args.widget.now c.args.widget.now c.args.meter.now c.set_attribute.new.meter (λ d u. write_method SetTitle ns v (t ∷ []) d u) (λ d u. means.set_attribute ns (codes "title") c.in_ok-text.text v u) c.set_attribute.result
    (λ fs x d. let u = image fs x w h in primitive_of t u (means.set_attribute ns (codes "title") (to_text t) v u) (sym (c.is_object.ensures.object w s.cells) ∙ c.if-is_object.false) ∙ ap (λ k. means.set_attribute ns (codes "title") k v u) (sym (c.in_ok-text.ensures w s.cells)))
    c.set_attribute.ensures
