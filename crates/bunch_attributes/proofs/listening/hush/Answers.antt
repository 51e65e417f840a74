use Rattle.std.proofs.Common.{map, ap, sym, ◌∙◌, None, Some}
use Rattle.plain_tree.specs.Words.{is_event_type}
use Rattle.store_cells.specs.Cells.{own_count}
use Rattle.store_cells.specs.declared.value.Value.TheVariants as value
use Rattle.widget_meaning.specs.BunchWrites.{alter_each, change_kept}
use Rattle.page_image.specs.Around.{hushed}
use Rattle.js_image.specs.declared.outcome.Fault.TheVariants as fault
use Rattle.js_image.specs.Image.{seen}
use Rattle.page_image.specs.Image.{number}
use Rattle.native_image.specs.Charges.{Free}
use Rattle.native_image.specs.Image.{image}
use Rattle.bunch_attributes.specs.declared.keeping.Change.TheVariants as change
use Rattle.bunch_attributes.specs.Kept.{keep_plan, meant}
use Rattle.bunch_attributes.proofs.Heard.{off_all, off_bad, off_object, off_plan, off_type, undefined_is}
use Rattle.native_image.specs.Handed.{parts}
use Rattle.native_image.proofs.Reading.{writes_memory, writes_same, writes_thrown}
use Rattle.bunch_attributes.proofs.listening.hush.Goals as goal

pub returns-then-is_undefined : goal.returns-then-is_undefined
returns-then-is_undefined c =
    let w = c.args.widget.now.id.index in
    let p = c.args.shared.now.page in
    let s = c.args.shared.now.store in
    let l = c.args.widget.now.around in
    let h = parts c.args.shared.now c.args.widget.now in
    let ns = map (number p w) c.args.bunch.now.nodes.now in
    let v = seen w s.cells (value.Ref c.args.bunch.now.cell) in
    writes_same c.args.shared.now c.keep.new.shared c.args.widget.now c.keep.new.widget c.args.meter.now c.keep.new.meter (λ d u. off_plan ns v d u w s.cells c.args.kind.now) (λ d u. keep_plan (meant (own_count w s.cells) (change.Hush None)) Free ns v u) c.keep.result
    (λ fs x d. let u = image fs x w h in off_all ns v d u w s.cells c.args.kind.now (undefined_is c.args.kind.now (sym c.is_undefined.ensures ∙ c.if-is_undefined.true)))
    (c.keep.ensures Free tt)

pub returns-then-is_object : goal.returns-then-is_object
returns-then-is_object c =
    let w = c.args.widget.now.id.index in
    let p = c.args.shared.now.page in
    let s = c.args.shared.now.store in
    let l = c.args.widget.now.around in
    let h = parts c.args.shared.now c.args.widget.now in
    let ns = map (number p w) c.args.bunch.now.nodes.now in
    let v = seen w s.cells (value.Ref c.args.bunch.now.cell) in
    writes_thrown c.args.shared.now c.args.widget.now c.requires.sound (λ d u. off_plan ns v d u w s.cells c.args.kind.now) fault.E4 c.args.meter.now
    (λ fs x d. let u = image fs x w h in off_object ns v d u w s.cells c.args.kind.now (sym c.is_undefined.ensures ∙ c.if-is_undefined.false) (sym (c.is_object.ensures.object w s.cells) ∙ c.if-is_object.true))

pub returns-in_err-kind : goal.returns-in_err-kind
returns-in_err-kind c = writes_memory c.args.shared.now c.args.widget.now c.requires.sound c.args.meter.now c.args.meter.now _ c.from_residual.result c.from_residual.ensures.0

pub returns-then-not-is_event_type : goal.returns-then-not-is_event_type
returns-then-not-is_event_type c =
    let w = c.args.widget.now.id.index in
    let p = c.args.shared.now.page in
    let s = c.args.shared.now.store in
    let l = c.args.widget.now.around in
    let h = parts c.args.shared.now c.args.widget.now in
    let ns = map (number p w) c.args.bunch.now.nodes.now in
    let v = seen w s.cells (value.Ref c.args.bunch.now.cell) in
    writes_thrown c.args.shared.now c.args.widget.now c.requires.sound (λ d u. off_plan ns v d u w s.cells c.args.kind.now) fault.E4 c.args.meter.now
    (λ fs x d. let u = image fs x w h in off_bad ns v d u w s.cells c.args.kind.now (sym c.is_undefined.ensures ∙ c.if-is_undefined.false) (sym (c.is_object.ensures.object w s.cells) ∙ c.if-is_object.false) (ap is_event_type (sym (c.in_ok-kind.ensures w s.cells)) ∙ sym c.is_event_type.ensures ∙ c.if-not-is_event_type.true))

pub returns : goal.returns
returns c =
    let w = c.args.widget.now.id.index in
    let p = c.args.shared.now.page in
    let s = c.args.shared.now.store in
    let l = c.args.widget.now.around in
    let h = parts c.args.shared.now c.args.widget.now in
    let ns = map (number p w) c.args.bunch.now.nodes.now in
    let v = seen w s.cells (value.Ref c.args.bunch.now.cell) in
    writes_same c.args.shared.now c.keep-2.new.shared c.args.widget.now c.keep-2.new.widget c.args.meter.now c.keep-2.new.meter (λ d u. off_plan ns v d u w s.cells c.args.kind.now) (λ d u. keep_plan (meant (own_count w s.cells) (change.Hush (Some c.in_ok-kind.kind))) Free ns v u) c.keep-2.result
    (λ fs x d. let u = image fs x w h in off_type ns v d u w s.cells c.args.kind.now (sym c.is_undefined.ensures ∙ c.if-is_undefined.false) (sym (c.is_object.ensures.object w s.cells) ∙ c.if-is_object.false) (ap is_event_type (sym (c.in_ok-kind.ensures w s.cells)) ∙ sym c.is_event_type.ensures ∙ c.if-not-is_event_type.false) ∙ (λ j. alter_each (change_kept (hushed (Some (sym (c.in_ok-kind.ensures w s.cells) j)))) ns v u))
    (c.keep-2.ensures Free tt)
