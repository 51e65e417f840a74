use Rattle.std.proofs.Common.{[], map, get_or, Some, arith, refl}
use Rattle.store_cells.specs.Cells.{own_count}
use Rattle.store_cells.specs.declared.value.Value.TheVariants as value
use Rattle.widget_meaning.specs.BunchWrites.{with_focus, write_method}
use Rattle.widget_meaning.specs.Costs.{give}
use Rattle.permitted_table.specs.declared.native.WriteNative.TheVariants.{Focus}
use Rattle.js_image.specs.declared.outcome.Fault.TheVariants as fault
use Rattle.js_image.specs.Image.{seen}
use Rattle.js_image.proofs.Grown.{held_stays, seen_stays}
use Rattle.page_image.specs.Image.{number}
use Rattle.native_image.specs.Charges.{Free}
use Rattle.native_image.specs.Image.{beside, image}
use Rattle.native_image.proofs.Joint.{image_shows, sound_stays}
use Rattle.native_image.proofs.Keeping.{keeps_store}
use Rattle.native_image.proofs.Lists.{element_in}
use Rattle.native_image.proofs.Working.{at_ended, at_refused, gives_back}
use Rattle.page_image.proofs.States.{focus_shows}
use Rattle.bunch_attributes.proofs.Changes.{sound_around}
use Rattle.bunch_attributes.proofs.Focused.{focus_lift, focus_one, focus_other, holds_focus}
use Rattle.native_image.specs.Handed.{parts}
use Rattle.native_image.proofs.Reading.{writes_thrown}
use Rattle.bunch_attributes.proofs.focusing.focus.Goals as goal

pub returns-then-list-ne1 : goal.returns-then-list-ne1
returns-then-list-ne1 c =
    let w = c.args.widget.now.id.index in
    let p = c.args.shared.now.page in
    let s = c.args.shared.now.store in
    let l = c.args.widget.now.around in
    let ns = map (number p w) c.args.bunch.now.nodes.now in
    let v = seen w s.cells (value.Ref c.args.bunch.now.cell) in
    writes_thrown c.args.shared.now c.args.widget.now c.requires.sound (λ d u. write_method Focus ns v [] d u) fault.E4 c.args.meter.now
    (λ fs x d. focus_other (number p w) c.args.bunch.now.nodes.now v (image fs x w (parts c.args.shared.now c.args.widget.now)) c.if-list-ne1.true)

pub returns-in-Ok : goal.returns-in-Ok
returns-in-Ok c = record {
  refines =
      let b = c.args.widget.now.bubbled in let w = c.args.widget.now.id.index in
      let p = c.args.shared.now.page in
      let s = c.args.shared.now.store in
      let l = c.args.widget.now.around in
      let ns = map (number p w) c.args.bunch.now.nodes.now in
      let v = seen w s.cells (value.Ref c.args.bunch.now.cell) in
      let sound = c.requires.sound in
      let t = c.begin.new.store in
      let k = c.set_focus.new.self in
      let begun = c.in-Ok.ensures.begun 1 Free (omega arith) tt in
      let grows = (begun.kept []).grows in
      let there = sound_stays w s t p l sound (begun.kept []) in
      at_ended w c.args.widget.now.id.small s t p l b sound c.args.meter.now c.begin.new.meter 1 Free (λ d u. write_method Focus ns v [] d u) (λ d y. give v (with_focus (Some (number p w (get_or c.args.bunch.now.nodes.now 0 0))) y))
      (λ fs x d. let u = image fs x w (beside s p l b) in focus_one (number p w) c.args.bunch.now.nodes.now v u (omega arith))
      begun (beside t p k b) _
      (gives_back w s c.args.bunch.now.cell c.requires.bunch.held (beside t p l b) (beside t p k b) (seen_stays w s.cells t.cells grows (value.Ref c.args.bunch.now.cell) c.requires.bunch.held) (held_stays w s.cells t.cells grows c.args.bunch.now.cell c.requires.bunch.held)
      (sound_around w t p l k there (holds_focus w t p l k (Some (get_or c.args.bunch.now.nodes.now 0 0)) (c.requires.bunch.nodes.own _ (element_in c.args.bunch.now.nodes.now 0 (omega arith))) c.set_focus.ensures.done c.set_focus.ensures.kept c.set_focus.ensures.timers there.holds))
      (λ y. with_focus (Some (number p w (get_or c.args.bunch.now.nodes.now 0 0))) y)
      (λ fs x. focus_lift w fs x t p l k b (Some (number p w (get_or c.args.bunch.now.nodes.now 0 0))) (focus_shows p w (own_count w t.cells) l k (image fs x w (beside t p l b)).own (Some (get_or c.args.bunch.now.nodes.now 0 0)) (c.requires.bunch.nodes.own _ (element_in c.args.bunch.now.nodes.now 0 (omega arith))) c.set_focus.ensures.done c.set_focus.ensures.kept c.set_focus.ensures.timers c.set_focus.ensures.clock (image_shows w fs x t p l b there.holds))));
  kept =
      let w = c.args.widget.now.id.index in
      let p = c.args.shared.now.page in
      let s = c.args.shared.now.store in
      let l = c.args.widget.now.around in
      let ns = map (number p w) c.args.bunch.now.nodes.now in
      let v = seen w s.cells (value.Ref c.args.bunch.now.cell) in
      let sound = c.requires.sound in
      let t = c.begin.new.store in
      let k = c.set_focus.new.self in
      let there = keeps_store w s t p l sound.holds c.begin.ensures.kept in
      record { store = there.store; page = there.page; host = there.host; holds = holds_focus w t p l k (Some (get_or c.args.bunch.now.nodes.now 0 0)) (c.requires.bunch.nodes.own _ (element_in c.args.bunch.now.nodes.now 0 (omega arith))) c.set_focus.ensures.done c.set_focus.ensures.kept c.set_focus.ensures.timers there.holds };
  codes = refl;
  rest = refl;
}

pub returns-in-Err : goal.returns-in-Err
returns-in-Err c = record {
  refines =
      let b = c.args.widget.now.bubbled in let w = c.args.widget.now.id.index in
      let p = c.args.shared.now.page in
      let s = c.args.shared.now.store in
      let l = c.args.widget.now.around in
      let ns = map (number p w) c.args.bunch.now.nodes.now in
      let v = seen w s.cells (value.Ref c.args.bunch.now.cell) in
      let sound = c.requires.sound in
      at_refused w c.args.widget.now.id.small s c.begin.new.store p l b sound c.args.meter.now c.begin.new.meter 1 Free (λ d u. write_method Focus ns v [] d u) (λ d y. give v (with_focus (Some (number p w (get_or c.args.bunch.now.nodes.now 0 0))) y))
      (λ fs x d. let u = image fs x w (beside s p l b) in focus_one (number p w) c.args.bunch.now.nodes.now v u (omega arith))
      c.in-Err.out c.in-Err.ensures.fires
      (c.in-Err.ensures.refused 1 Free (λ d y. give v (with_focus (Some (number p w (get_or c.args.bunch.now.nodes.now 0 0))) y)) (omega arith) tt);
  kept =
      keeps_store c.args.widget.now.id.index c.args.shared.now.store c.begin.new.store c.args.shared.now.page c.args.widget.now.around c.requires.sound.holds c.begin.ensures.kept;
  codes = refl;
  rest = refl;
}
