use Rattle.std.proofs.Common.{[], length, map, refl, ◌∙◌}
use Rattle.std.proofs.lemmas.Result.{IfOk-from_err}
use Rattle.std.specs.List.{fold}
use Rattle.store_cells.specs.Cells.{own_count}
use Rattle.store_cells.specs.declared.value.Value.TheVariants as value
use Rattle.widget_meaning.specs.BunchWrites.{change_kept}
use Rattle.widget_meaning.specs.Costs.{give}
use Rattle.js_image.specs.Image.{seen}
use Rattle.js_image.proofs.Grown.{held_stays, seen_stays}
use Rattle.page_image.specs.Image.{number}
use Rattle.native_image.specs.Image.{beside, image}
use Rattle.native_image.proofs.Joint.{image_shows, sound_stays}
use Rattle.native_image.proofs.Keeping.{keeps_store}
use Rattle.native_image.proofs.Working.{at_ended, at_refused, few_counted, gives_back}
use Rattle.bunch_attributes.specs.Kept.{keep_plan, meant}
use Rattle.bunch_attributes.proofs.Changes.{fine_change, kept_lift, meant_stays, sound_around}
use Rattle.bunch_attributes.proofs.keeping.keep.Goals as goal

pub change_all-requires : goal.change_all-requires
change_all-requires c = c.requires.bunch.nodes.own

pub returns-in_ok-change_all-in-Ok : goal.returns-in_ok-change_all-in-Ok
returns-in_ok-change_all-in-Ok c = λ q is. record {
  refines =
      let b = c.args.widget.now.bubbled in let sound = c.requires.sound in
      let w = c.args.widget.now.id.index in
      let p = c.args.shared.now.page in
      let s = c.args.shared.now.store in
      let t = c.begin.new.store in
      let l = c.args.widget.now.around in
      let k = c.change_all.new.around in
      let ns = map (number p w) c.args.bunch.now.nodes.now in
      let v = seen w s.cells (value.Ref c.args.bunch.now.cell) in
      let f = meant (own_count w s.cells) c.args.change.now in
      let begun = c.in-Ok.ensures.begun (length ns) q (few_counted (number p w) c.args.bunch.now.nodes.now c.requires.bunch.nodes.few) is in
      let grows = (begun.kept []).grows in
      let there = sound_stays w s t p l sound (begun.kept []) in
      at_ended w c.args.widget.now.id.small s t p l b sound c.args.meter.now c.begin.new.meter (length ns) q (λ d u. keep_plan f q ns v u) (λ d y. give v (fold (change_kept f) y ns))
      (λ fs x d. refl)
      begun (beside t p k b) _
      (gives_back w s c.args.bunch.now.cell c.requires.bunch.held (beside t p l b) (beside t p k b) (seen_stays w s.cells t.cells grows (value.Ref c.args.bunch.now.cell) c.requires.bunch.held) (held_stays w s.cells t.cells grows c.args.bunch.now.cell c.requires.bunch.held)
      (sound_around w t p l k there (c.change_all.ensures.holds t (fine_change w s.cells t.cells c.args.change.now grows c.requires.change) there.holds))
      (λ y. fold (change_kept f) y ns)
      (λ fs x.
      kept_lift w fs x t p l k b (meant (own_count w t.cells) c.args.change.now) ns (c.in_ok-change_all-in-Ok.ensures.shown (own_count w t.cells) (image fs x w (beside t p l b)) (image_shows w fs x t p l b there.holds))
      ∙ (λ j. fold (change_kept (λ m. meant_stays w s.cells t.cells c.args.change.now grows c.requires.change m j)) (image fs x w (beside t p l b)) ns)));
  kept =
      let sound = c.requires.sound in
      let first = keeps_store c.args.widget.now.id.index c.args.shared.now.store c.begin.new.store c.args.shared.now.page c.args.widget.now.around sound.holds c.begin.ensures.kept in
      record {
        store = first.store;
        page = first.page;
        host = first.host;
        holds = c.change_all.ensures.holds c.begin.new.store (fine_change c.args.widget.now.id.index c.args.shared.now.store.cells c.begin.new.store.cells c.args.change.now (c.begin.ensures.kept []).grows c.requires.change) first.holds;
      };
  codes = refl;
  rest = refl;
}

pub returns-in_err-change_all-in-Ok : goal.returns-in_err-change_all-in-Ok
returns-in_err-change_all-in-Ok c = λ q is. record {
  refines = IfOk-from_err c.from_residual.result _ c.from_residual.ensures.0;
  kept =
      let sound = c.requires.sound in
      let first = keeps_store c.args.widget.now.id.index c.args.shared.now.store c.begin.new.store c.args.shared.now.page c.args.widget.now.around sound.holds c.begin.ensures.kept in
      record {
        store = first.store;
        page = first.page;
        host = first.host;
        holds = c.change_all.ensures.holds c.begin.new.store (fine_change c.args.widget.now.id.index c.args.shared.now.store.cells c.begin.new.store.cells c.args.change.now (c.begin.ensures.kept []).grows c.requires.change) first.holds;
      };
  codes = refl;
  rest = refl;
}

pub returns-in-Err : goal.returns-in-Err
returns-in-Err c = λ q is. record {
  refines =
      let b = c.args.widget.now.bubbled in let sound = c.requires.sound in
      let w = c.args.widget.now.id.index in
      let p = c.args.shared.now.page in
      let s = c.args.shared.now.store in
      let l = c.args.widget.now.around in
      let ns = map (number p w) c.args.bunch.now.nodes.now in
      let v = seen w s.cells (value.Ref c.args.bunch.now.cell) in
      let f = meant (own_count w s.cells) c.args.change.now in
      at_refused w c.args.widget.now.id.small s c.begin.new.store p l b sound c.args.meter.now c.begin.new.meter (length ns) q (λ d u. keep_plan f q ns v u) (λ d y. give v (fold (change_kept f) y ns))
      (λ fs x d. refl)
      c.in-Err.out c.in-Err.ensures.fires
      (c.in-Err.ensures.refused (length ns) q (λ d y. give v (fold (change_kept f) y ns)) (few_counted (number p w) c.args.bunch.now.nodes.now c.requires.bunch.nodes.few) is);
  kept =
      let sound = c.requires.sound in keeps_store c.args.widget.now.id.index c.args.shared.now.store c.begin.new.store c.args.shared.now.page c.args.widget.now.around sound.holds c.begin.ensures.kept;
  codes = refl;
  rest = refl;
}
