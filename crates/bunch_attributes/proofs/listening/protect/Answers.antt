use Rattle.std.proofs.Common.{[], map, refl}
use Rattle.store_cells.specs.Cells.{own_count}
use Rattle.store_cells.specs.declared.value.Value.TheVariants as value
use Rattle.widget_meaning.specs.BunchWrites.{write_method}
use Rattle.permitted_table.specs.declared.native.WriteNative.TheVariants.{Protect}
use Rattle.js_image.specs.Image.{seen}
use Rattle.page_image.specs.Image.{number}
use Rattle.native_image.specs.Charges.{Free}
use Rattle.native_image.specs.Image.{image}
use Rattle.bunch_attributes.specs.declared.keeping.Change.TheVariants as change
use Rattle.bunch_attributes.specs.Kept.{keep_plan, meant}
use Rattle.native_image.specs.Handed.{parts}
use Rattle.native_image.proofs.Reading.{writes_same}
use Rattle.bunch_attributes.proofs.listening.protect.Goals as goal

pub returns : goal.returns
returns c =
    let w = c.args.widget.now.id.index in
    let p = c.args.shared.now.page in
    let s = c.args.shared.now.store in
    let l = c.args.widget.now.around in
    let h = parts c.args.shared.now c.args.widget.now in
    let ns = map (number p w) c.args.bunch.now.nodes.now in
    let v = seen w s.cells (value.Ref c.args.bunch.now.cell) in
    writes_same c.args.shared.now c.keep.new.shared c.args.widget.now c.keep.new.widget c.args.meter.now c.keep.new.meter (λ d u. write_method Protect ns v [] d u) (λ d u. keep_plan (meant (own_count w s.cells) (change.Protect)) Free ns v u) c.keep.result
    (λ fs x d. let u = image fs x w h in refl)
    (c.keep.ensures Free tt)
