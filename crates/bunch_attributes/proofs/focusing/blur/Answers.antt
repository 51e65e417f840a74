use Rattle.std.proofs.Common.{[], length, map, refl}
use Rattle.store_cells.specs.Cells.{own_count}
use Rattle.store_cells.specs.declared.value.Value.TheVariants as value
use Rattle.widget_meaning.specs.BunchWrites.{left_focus, with_focus, write_method}
use Rattle.widget_meaning.specs.Costs.{give}
use Rattle.permitted_table.specs.declared.native.WriteNative.TheVariants.{Blur}
use Rattle.js_image.specs.Image.{seen}
use Rattle.js_image.proofs.Grown.{held_stays, seen_stays}
use Rattle.page_image.specs.Image.{number}
use Rattle.native_image.specs.Charges.{Free}
use Rattle.native_image.specs.Image.{beside, image}
use Rattle.native_image.proofs.Joint.{image_shows, sound_stays}
use Rattle.native_image.proofs.Keeping.{keeps_store}
use Rattle.native_image.proofs.Working.{at_ended, at_refused, few_counted, gives_back}
use Rattle.bunch_attributes.proofs.Changes.{sound_around}
use Rattle.bunch_attributes.proofs.Focused.{focus_lift}
use Rattle.bunch_attributes.proofs.focusing.blur.Goals as goal

pub leave-requires : goal.leave-requires
leave-requires c = c.requires.bunch.nodes.own

pub returns-in-Ok : goal.returns-in-Ok
returns-in-Ok c = record {
  refines =
      let b = c.args.widget.now.bubbled in let w = c.args.widget.now.id.index in
      let p = c.args.shared.now.page in
      let s = c.args.shared.now.store in
      let l = c.args.widget.now.around in
      let ns = map (number p w) c.args.bunch.now.nodes.now in
      let v = seen w s.cells (value.Ref c.args.bunch.now.cell) in
      let sound = c.requires.sound in
      let t = c.begin.new.store in
      let k = c.leave.new.around in
      let begun = c.in-Ok.ensures.begun (length ns) Free (few_counted (number p w) c.args.bunch.now.nodes.now c.requires.bunch.nodes.few) tt in
      let grows = (begun.kept []).grows in
      let there = sound_stays w s t p l sound (begun.kept []) in
      at_ended w c.args.widget.now.id.small s t p l b sound c.args.meter.now c.begin.new.meter (length ns) Free (λ d u. write_method Blur ns v [] d u) (λ d y. give v (with_focus (left_focus y.own.focus ns) y))
      (λ fs x d. let u = image fs x w (beside s p l b) in refl)
      begun (beside t p k b) _
      (gives_back w s c.args.bunch.now.cell c.requires.bunch.held (beside t p l b) (beside t p k b) (seen_stays w s.cells t.cells grows (value.Ref c.args.bunch.now.cell) c.requires.bunch.held) (held_stays w s.cells t.cells grows c.args.bunch.now.cell c.requires.bunch.held)
      (sound_around w t p l k there (c.leave.ensures.holds t there.holds))
      (λ y. with_focus (left_focus y.own.focus ns) y)
      (λ fs x. focus_lift w fs x t p l k b (left_focus (image fs x w (beside t p l b)).own.focus ns) (c.leave.ensures.shown (own_count w t.cells) (image fs x w (beside t p l b)) (image_shows w fs x t p l b there.holds))));
  kept =
      let w = c.args.widget.now.id.index in
      let p = c.args.shared.now.page in
      let s = c.args.shared.now.store in
      let l = c.args.widget.now.around in
      let ns = map (number p w) c.args.bunch.now.nodes.now in
      let v = seen w s.cells (value.Ref c.args.bunch.now.cell) in
      let sound = c.requires.sound in
      let t = c.begin.new.store in
      let k = c.leave.new.around in
      let there = keeps_store w s t p l sound.holds c.begin.ensures.kept in
      record { store = there.store; page = there.page; host = there.host; holds = c.leave.ensures.holds t there.holds };
  codes = refl;
  rest = refl;
}

pub returns-in-Err : goal.returns-in-Err
returns-in-Err c = record {
  refines =
      let b = c.args.widget.now.bubbled in let w = c.args.widget.now.id.index in
      let p = c.args.shared.now.page in
      let s = c.args.shared.now.store in
      let l = c.args.widget.now.around in
      let ns = map (number p w) c.args.bunch.now.nodes.now in
      let v = seen w s.cells (value.Ref c.args.bunch.now.cell) in
      let sound = c.requires.sound in
      at_refused w c.args.widget.now.id.small s c.begin.new.store p l b sound c.args.meter.now c.begin.new.meter (length ns) Free (λ d u. write_method Blur ns v [] d u) (λ d y. give v (with_focus (left_focus y.own.focus ns) y))
      (λ fs x d. let u = image fs x w (beside s p l b) in refl)
      c.in-Err.out c.in-Err.ensures.fires
      (c.in-Err.ensures.refused (length ns) Free (λ d y. give v (with_focus (left_focus y.own.focus ns) y)) (few_counted (number p w) c.args.bunch.now.nodes.now c.requires.bunch.nodes.few) tt);
  kept =
      keeps_store c.args.widget.now.id.index c.args.shared.now.store c.begin.new.store c.args.shared.now.page c.args.widget.now.around c.requires.sound.holds c.begin.ensures.kept;
  codes = refl;
  rest = refl;
}
