use Rattle.std.proofs.Common.{◌∷◌, [], map, ap, sym, ◌∙◌, arith, get_or, Some}
use Rattle.std.specs.Option.{option_map}
use Rattle.store_cells.specs.declared.value.Value.TheVariants as value
use Rattle.widget_meaning.specs.BunchWrites.{write_method}
use Rattle.permitted_table.specs.declared.native.WriteNative.TheVariants.{Replace}
use Rattle.js_image.specs.declared.outcome.Fault.TheVariants as fault
use Rattle.js_image.specs.Image.{seen}
use Rattle.page_image.specs.Image.{number}
use Rattle.native_image.specs.Image.{beside, image}
use Rattle.native_image.proofs.Lists.{element_in}
use Rattle.bunch_write.specs.Trees.{replace_plan}
use Rattle.bunch_write.proofs.Replaced.{replace_none, replace_other, replace_some}
use Rattle.bunch_write.proofs.Receivers.{some_own}
use Rattle.native_image.specs.Handed.{parts}
use Rattle.native_image.proofs.Reading.{writes_memory, writes_same, writes_thrown}
use Rattle.bunch_write.proofs.moving.replace.Goals as goal

pub bunch_of-requires-clause-held : goal.bunch_of-requires-clause-held
bunch_of-requires-clause-held c = c.requires.sound.holds.bunches

pub returns-then-list-ne1 : goal.returns-then-list-ne1
returns-then-list-ne1 c =
    let w = c.args.widget.now.id.index in
    let p = c.args.shared.now.page in
    let s = c.args.shared.now.store in
    let ns = map (number p w) c.args.bunch.now.nodes.now in
    let v = seen w s.cells (value.Ref c.args.bunch.now.cell) in
    let t = seen w s.cells c.args.other.now in
    writes_thrown c.args.shared.now c.args.widget.now c.requires.sound (λ d u. write_method Replace ns v (t ∷ []) d u) fault.E4 c.args.meter.now
    (λ fs x d. replace_other (number p w) c.args.bunch.now.nodes.now t v (image fs x w (parts c.args.shared.now c.args.widget.now)) c.if-list-ne1.true)

pub returns-in-None : goal.returns-in-None
returns-in-None c =
    let w = c.args.widget.now.id.index in
    let p = c.args.shared.now.page in
    let s = c.args.shared.now.store in
    let ns = map (number p w) c.args.bunch.now.nodes.now in
    let v = seen w s.cells (value.Ref c.args.bunch.now.cell) in
    let t = seen w s.cells c.args.other.now in
    writes_thrown c.args.shared.now c.args.widget.now c.requires.sound (λ d u. write_method Replace ns v (t ∷ []) d u) fault.E4 c.args.meter.now
    (λ fs x d. replace_none (number p w) c.args.bunch.now.nodes.now t v (image fs x w (parts c.args.shared.now c.args.widget.now)) (omega arith) (c.in_ok-news.ensures.read fs x c.args.widget.now.around c.args.widget.now.bubbled ∙ ap (option_map (λ ns. map (number p w) ns.items)) c.in-None.is))

pub replace_by-requires-clause-own : goal.replace_by-requires-clause-own
replace_by-requires-clause-own c = c.requires.bunch.nodes.own _ (element_in c.args.bunch.now.nodes.now 0 (omega arith))

pub replace_by-requires-clause-news : goal.replace_by-requires-clause-news
replace_by-requires-clause-news c = some_own c.args.shared.now.page c.args.widget.now.id.index c.in_ok-news.field-0 c.in-Some.news c.deref.result.now c.in-Some.is c.deref.ensures.value c.in_ok-news.ensures.nodes

pub returns-in-Some : goal.returns-in-Some
returns-in-Some c =
    let w = c.args.widget.now.id.index in
    let p = c.args.shared.now.page in
    let s = c.args.shared.now.store in
    let l = c.args.widget.now.around in
    let b = c.args.widget.now.bubbled in
    let ns = map (number p w) c.args.bunch.now.nodes.now in
    let v = seen w s.cells (value.Ref c.args.bunch.now.cell) in
    let t = seen w s.cells c.args.other.now in
    let ms = map (number p w) c.deref.result.now in
    writes_same c.args.shared.now c.replace_by.new.shared c.args.widget.now c.args.widget.now c.args.meter.now c.replace_by.new.meter (λ d u. write_method Replace ns v (t ∷ []) d u) (λ d u. replace_plan (number p w (get_or c.args.bunch.now.nodes.now 0 0)) ms v u) c.replace_by.result
    (λ fs x d.
    replace_some (number p w) c.args.bunch.now.nodes.now t v (image fs x w (beside s p l b)) (omega arith) ms
    (c.in_ok-news.ensures.read fs x l b ∙ ap (option_map (λ ns. map (number p w) ns.items)) c.in-Some.is ∙ ap (λ k. Some (map (number p w) k)) (sym c.deref.ensures.value)))
    c.replace_by.ensures

pub returns-in_err-news : goal.returns-in_err-news
returns-in_err-news c = writes_memory c.args.shared.now c.args.widget.now c.requires.sound c.args.meter.now c.args.meter.now _ c.from_residual.result c.from_residual.ensures.0
