use Rattle.std.proofs.Common.{[], map, ap, sym, ◌∙◌, arith, refl}
use Rattle.std.proofs.lemmas.Result.{IfOk-from_err}
use Rattle.store_cells.specs.declared.value.Value.TheVariants as value
use Rattle.widget_meaning.specs.Costs.{give}
use Rattle.widget_meaning.specs.OwnState.{with_forest}
use Rattle.js_image.specs.declared.outcome.Fault.TheVariants as fault
use Rattle.js_image.specs.Image.{seen}
use Rattle.js_image.proofs.Grown.{held_stays, seen_stays}
use Rattle.page_image.specs.Image.{forest, number}
use Rattle.native_image.specs.Charges.{Free}
use Rattle.native_image.specs.Image.{beside, image}
use Rattle.native_image.proofs.Joint.{page_lift, sound_stays}
use Rattle.native_image.proofs.Keeping.{keeps_paged, keeps_store, sound_page}
use Rattle.native_image.proofs.Reading.{writes_thrown}
use Rattle.native_image.proofs.Working.{at_ended, at_refused, gives_back}
use Rattle.bunch_write.specs.Trees.{replace_plan}
use Rattle.bunch_write.proofs.Replaced.{has_parent, is_replaced, not_replaced, replaced}
use Rattle.bunch_write.proofs.moving.replace_by.Goals as goal

pub may_replace-requires-clause-home : goal.may_replace-requires-clause-home
may_replace-requires-clause-home c = c.requires.sound.holds.home

pub put_in_place-requires-clause-home : goal.put_in_place-requires-clause-home
put_in_place-requires-clause-home c = c.requires.sound.holds.home

pub returns-then-not-may_replace : goal.returns-then-not-may_replace
returns-then-not-may_replace c =
    let w = c.args.widget.now.id.index in
    let p = c.args.shared.now.page in
    let s = c.args.shared.now.store in
    let n = number p w c.args.node in
    let ms = map (number p w) c.args.news.now in
    let v = seen w s.cells (value.Ref c.args.this) in
    writes_thrown c.args.shared.now c.args.widget.now c.requires.sound (λ d u. replace_plan n ms v u) fault.E10 c.args.meter.now
    (λ fs x d. not_replaced n ms v (image fs x w (beside s p c.args.widget.now.around c.args.widget.now.bubbled)) (sym c.may_replace.ensures ∙ c.if-not-may_replace.true))

pub returns-in_ok-put_in_place-in-Ok : goal.returns-in_ok-put_in_place-in-Ok
returns-in_ok-put_in_place-in-Ok c =
    let w = c.args.widget.now.id.index in
    let lt = c.args.widget.now.id.small in
    let p = c.args.shared.now.page in
    let s = c.args.shared.now.store in
    let l = c.args.widget.now.around in
    let b = c.args.widget.now.bubbled in
    let sound = c.requires.sound in
    let t = c.begin.new.store in
    let r = c.put_in_place.new.page in
    let n = number p w c.args.node in
    let ms = map (number p w) c.args.news.now in
    let v = seen w s.cells (value.Ref c.args.this) in
    let may = sym c.may_replace.ensures ∙ c.if-not-may_replace.false in
    let above = has_parent n ms (forest p w) may in
    let q = above.0 in
    let begun = c.in-Ok.ensures.begun 1 Free (omega arith) tt in
    let grows = (begun.kept []).grows in
    record {
      refines =
          at_ended w lt s t p l b sound c.args.meter.now c.begin.new.meter 1 Free (λ d u. replace_plan n ms v u) (λ d y. give v (replaced n ms v y q y))
          (λ fs x d. is_replaced n ms v (image fs x w (beside s p l b)) q above.1 may)
          begun (beside t r l b) _
          (gives_back w s c.args.this c.requires.held (beside t p l b) (beside t r l b) (seen_stays w s.cells t.cells grows (value.Ref c.args.this) c.requires.held) (held_stays w s.cells t.cells grows c.args.this c.requires.held)
          (sound_page w lt p r c.put_in_place.ensures.kept c.put_in_place.ensures.others t l (sound_stays w s t p l sound (begun.kept [])))
          (λ y. replaced n ms v y q y)
          (λ fs x. page_lift w fs x t p r l b c.put_in_place.ensures.kept ∙ ap (with_forest (image fs x w (beside t p l b))) (c.in_ok-put_in_place-in-Ok.ensures.image q above.1)));
      kept = keeps_paged w lt s t p r l sound.holds c.begin.ensures.kept c.put_in_place.ensures.kept c.put_in_place.ensures.others c.put_in_place.ensures.host;
      codes = refl;
      rest = refl;
    }

pub returns-in_err-put_in_place-in-Ok : goal.returns-in_err-put_in_place-in-Ok
returns-in_err-put_in_place-in-Ok c = record {
  refines = IfOk-from_err c.from_residual.result _ c.from_residual.ensures.0;
  kept = keeps_paged c.args.widget.now.id.index c.args.widget.now.id.small c.args.shared.now.store c.begin.new.store c.args.shared.now.page c.put_in_place.new.page c.args.widget.now.around c.requires.sound.holds c.begin.ensures.kept c.put_in_place.ensures.kept c.put_in_place.ensures.others c.put_in_place.ensures.host;
  codes = refl;
  rest = refl;
}

pub returns-in-Err : goal.returns-in-Err
returns-in-Err c =
    let w = c.args.widget.now.id.index in
    let p = c.args.shared.now.page in
    let s = c.args.shared.now.store in
    let l = c.args.widget.now.around in
    let b = c.args.widget.now.bubbled in
    let n = number p w c.args.node in
    let ms = map (number p w) c.args.news.now in
    let v = seen w s.cells (value.Ref c.args.this) in
    let may = sym c.may_replace.ensures ∙ c.if-not-may_replace.false in
    let above = has_parent n ms (forest p w) may in
    let q = above.0 in
    record {
      refines =
          at_refused w c.args.widget.now.id.small s c.begin.new.store p l b c.requires.sound c.args.meter.now c.begin.new.meter 1 Free (λ d u. replace_plan n ms v u) (λ d y. give v (replaced n ms v y q y))
          (λ fs x d. is_replaced n ms v (image fs x w (beside s p l b)) q above.1 may)
          c.in-Err.out c.in-Err.ensures.fires
          (c.in-Err.ensures.refused 1 Free (λ d y. give v (replaced n ms v y q y)) (omega arith) tt);
      kept = keeps_store w s c.begin.new.store p l c.requires.sound.holds c.begin.ensures.kept;
      codes = refl;
      rest = refl;
    }
