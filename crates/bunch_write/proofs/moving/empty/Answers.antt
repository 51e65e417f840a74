use Rattle.std.proofs.Common.{[], length, map, ap, sym, refl, ◌∙◌}
use Rattle.std.specs.List.{fold}
use Rattle.store_cells.specs.declared.value.Value.TheVariants as value
use Rattle.widget_meaning.specs.BunchWrites.{emptied, write_method}
use Rattle.widget_meaning.specs.Costs.{give}
use Rattle.permitted_table.specs.declared.native.WriteNative.TheVariants.{Empty}
use Rattle.widget_meaning.specs.OwnState.{with_forest}
use Rattle.js_image.specs.Image.{seen}
use Rattle.js_image.proofs.Grown.{held_stays, seen_stays}
use Rattle.page_image.specs.Image.{number}
use Rattle.native_image.specs.Charges.{Free}
use Rattle.native_image.specs.Image.{beside, image}
use Rattle.native_image.proofs.Joint.{page_lift, sound_stays}
use Rattle.native_image.proofs.Keeping.{keeps_paged, keeps_store, sound_page}
use Rattle.native_image.proofs.Working.{at_ended, at_refused, few_counted, forest_folded, gives_back}
use Rattle.bunch_write.specs.Trees.{emptied_in}
use Rattle.bunch_write.proofs.moving.empty.Goals as goal

pub empty_all-requires-clause-own : goal.empty_all-requires-clause-own
empty_all-requires-clause-own c = c.requires.bunch.nodes.own

pub returns-in-Ok : goal.returns-in-Ok
returns-in-Ok c = record {
  refines =
      let l = c.args.widget.now.around in let b = c.args.widget.now.bubbled in let sound = c.requires.sound in let w = c.args.widget.now.id.index in
      let p = c.args.shared.now.page in
      let s = c.args.shared.now.store in
      let ns = map (number p w) c.args.bunch.now.nodes.now in
      let v = seen w s.cells (value.Ref c.args.bunch.now.cell) in
      let t = c.begin.new.store in
      let r = c.empty_all.new.page in
      let begun = c.in-Ok.ensures.begun (length ns) Free (few_counted (number p w) c.args.bunch.now.nodes.now c.requires.bunch.nodes.few) tt in
      let grows = (begun.kept []).grows in
      at_ended w c.args.widget.now.id.small s t p l b sound c.args.meter.now c.begin.new.meter (length ns) Free (λ d u. write_method Empty ns v [] d u) (λ d y. give v (fold emptied y ns))
      (λ fs x d. let u = image fs x w (beside s p l b) in refl)
      begun (beside t r l b) _
      (gives_back w s c.args.bunch.now.cell c.requires.bunch.held (beside t p l b) (beside t r l b) (seen_stays w s.cells t.cells grows (value.Ref c.args.bunch.now.cell) c.requires.bunch.held) (held_stays w s.cells t.cells grows c.args.bunch.now.cell c.requires.bunch.held)
      (sound_page w c.args.widget.now.id.small p r c.empty_all.ensures.kept c.empty_all.ensures.others t l (sound_stays w s t p l sound (begun.kept [])))
      (λ y. fold emptied y ns)
      (λ fs x.
      page_lift w fs x t p r l b c.empty_all.ensures.kept
      ∙ ap (with_forest (image fs x w (beside t p l b))) c.empty_all.ensures.image
      ∙ sym (forest_folded emptied emptied_in (λ z n. refl) ns (image fs x w (beside t p l b)))));
  kept =
      let l = c.args.widget.now.around in let sound = c.requires.sound in keeps_paged c.args.widget.now.id.index c.args.widget.now.id.small c.args.shared.now.store c.begin.new.store c.args.shared.now.page c.empty_all.new.page l sound.holds c.begin.ensures.kept c.empty_all.ensures.kept c.empty_all.ensures.others c.empty_all.ensures.host;
  codes = refl;
  rest = refl;
}

pub returns-in-Err : goal.returns-in-Err
returns-in-Err c = record {
  refines =
      let l = c.args.widget.now.around in let b = c.args.widget.now.bubbled in let sound = c.requires.sound in let w = c.args.widget.now.id.index in
      let p = c.args.shared.now.page in
      let s = c.args.shared.now.store in
      let ns = map (number p w) c.args.bunch.now.nodes.now in
      let v = seen w s.cells (value.Ref c.args.bunch.now.cell) in
      at_refused w c.args.widget.now.id.small s c.begin.new.store p l b sound c.args.meter.now c.begin.new.meter (length ns) Free (λ d u. write_method Empty ns v [] d u) (λ d y. give v (fold emptied y ns))
      (λ fs x d. let u = image fs x w (beside s p l b) in refl)
      c.in-Err.out c.in-Err.ensures.fires
      (c.in-Err.ensures.refused (length ns) Free (λ d y. give v (fold emptied y ns)) (few_counted (number p w) c.args.bunch.now.nodes.now c.requires.bunch.nodes.few) tt);
  kept =
      let l = c.args.widget.now.around in let sound = c.requires.sound in keeps_store c.args.widget.now.id.index c.args.shared.now.store c.begin.new.store c.args.shared.now.page l sound.holds c.begin.ensures.kept;
  codes = refl;
  rest = refl;
}
