use Rattle.std.proofs.Common.{◌∷◌, [], map, sym, ◌∙◌}
use Rattle.store_cells.specs.Cells.{own_count}
use Rattle.store_cells.specs.declared.value.Value.TheVariants as value
use Rattle.widget_meaning.specs.BunchWrites.{alter_each, change_kept, write_method}
use Rattle.permitted_table.specs.declared.native.WriteNative.TheVariants.{SetMark}
use Rattle.page_image.specs.Around.{marked}
use Rattle.js_image.specs.declared.outcome.Fault.TheVariants as fault
use Rattle.js_image.specs.Image.{seen}
use Rattle.page_image.specs.Image.{number}
use Rattle.native_image.specs.Charges.{Free}
use Rattle.native_image.specs.Image.{image}
use Rattle.bunch_attributes.specs.declared.keeping.Change.TheVariants as change
use Rattle.bunch_attributes.specs.Kept.{keep_plan, meant}
use Rattle.bunch_attributes.proofs.Heard.{mark_object, mark_text}
use Rattle.native_image.specs.Handed.{parts}
use Rattle.native_image.proofs.Reading.{writes_memory, writes_same, writes_thrown}
use Rattle.bunch_attributes.proofs.listening.set_mark.Goals as goal

pub returns-then-is_object : goal.returns-then-is_object
returns-then-is_object c =
    let w = c.args.widget.now.id.index in
    let p = c.args.shared.now.page in
    let s = c.args.shared.now.store in
    let l = c.args.widget.now.around in
    let h = parts c.args.shared.now c.args.widget.now in
    let ns = map (number p w) c.args.bunch.now.nodes.now in
    let v = seen w s.cells (value.Ref c.args.bunch.now.cell) in
    writes_thrown c.args.shared.now c.args.widget.now c.requires.sound (λ d u. write_method SetMark ns v (seen w s.cells c.args.value.now ∷ []) d u) fault.E4 c.args.meter.now
    (λ fs x d. let u = image fs x w h in mark_object ns v (seen w s.cells c.args.value.now) d u (sym (c.is_object.ensures.object w s.cells) ∙ c.if-is_object.true))

pub returns-in_err-text : goal.returns-in_err-text
returns-in_err-text c = writes_memory c.args.shared.now c.args.widget.now c.requires.sound c.args.meter.now c.args.meter.now _ c.from_residual.result c.from_residual.ensures.0

pub returns : goal.returns
returns c =
    let w = c.args.widget.now.id.index in
    let p = c.args.shared.now.page in
    let s = c.args.shared.now.store in
    let l = c.args.widget.now.around in
    let h = parts c.args.shared.now c.args.widget.now in
    let ns = map (number p w) c.args.bunch.now.nodes.now in
    let v = seen w s.cells (value.Ref c.args.bunch.now.cell) in
    writes_same c.args.shared.now c.keep.new.shared c.args.widget.now c.keep.new.widget c.args.meter.now c.keep.new.meter (λ d u. write_method SetMark ns v (seen w s.cells c.args.value.now ∷ []) d u) (λ d u. keep_plan (meant (own_count w s.cells) (change.Mark c.in_ok-text.text)) Free ns v u) c.keep.result
    (λ fs x d. let u = image fs x w h in mark_text ns v (seen w s.cells c.args.value.now) d u (sym (c.is_object.ensures.object w s.cells) ∙ c.if-is_object.false) ∙ (λ j. alter_each (change_kept (marked (sym (c.in_ok-text.ensures w s.cells) j))) ns v u))
    (c.keep.ensures Free tt)
