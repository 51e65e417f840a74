use Rattle.std.proofs.Common.{[], length, map, ap, sym, refl, ◌∙◌}
use Rattle.std.proofs.lemmas.Result.{IfOk-from_err}
use Rattle.std.specs.List.{fold}
use Rattle.store_cells.specs.declared.value.Value.TheVariants as value
use Rattle.widget_meaning.specs.BunchWrites.{relabel}
use Rattle.widget_meaning.specs.Costs.{give, want}
use Rattle.widget_meaning.specs.OwnState.{with_forest}
use Rattle.widget_meaning.specs.Plan.{charge}
use Rattle.widget_meaning.specs.Values.{E10}
use Rattle.js_image.specs.declared.outcome.Fault.TheVariants as fault
use Rattle.js_image.specs.Image.{no_rest, seen}
use Rattle.js_image.proofs.Grown.{held_stays, seen_stays}
use Rattle.page_image.specs.Image.{forest, number, relabel_in}
use Rattle.native_image.specs.Charges.{pay_for}
use Rattle.native_image.specs.Image.{beside, image}
use Rattle.native_image.proofs.Joint.{page_lift, sound_stays}
use Rattle.native_image.proofs.Keeping.{keeps_paged, keeps_store, sound_page}
use Rattle.native_image.proofs.Working.{at_ended, at_refused, few_counted, forest_folded, gives_back}
use Rattle.bunch_attributes.specs.Labels.{meant, relabel_plan}
use Rattle.bunch_attributes.proofs.Relabelled.{passed_elements, relabel_is}
use Rattle.native_image.specs.Handed.{parts}
use Rattle.native_image.proofs.Reading.{writes_thrown}
use Rattle.bunch_attributes.proofs.relabelling.relabel.Goals as goal

pub all_pass-requires : goal.all_pass-requires
all_pass-requires c = c.requires.bunch.nodes.own

pub returns-then-not-all_pass : goal.returns-then-not-all_pass
returns-then-not-all_pass c = λ q is.
    let w = c.args.widget.now.id.index in
    let p = c.args.shared.now.page in
    let s = c.args.shared.now.store in
    let ns = map (number p w) c.args.bunch.now.nodes.now in
    let v = seen w s.cells (value.Ref c.args.bunch.now.cell) in
    let how = c.args.how.now in
    writes_thrown c.args.shared.now c.args.widget.now c.requires.sound (λ d u. relabel_plan how.test how.change q ns v u) fault.E10 c.args.meter.now
    (λ fs x d.
    let u = image fs x w (parts c.args.shared.now c.args.widget.now) in
    ap (λ t. want E10 t u (charge (length ns) u (pay_for q u (λ y. give v (fold (relabel (meant how.change)) y ns))))) (sym (c.all_pass.ensures u refl) ∙ c.if-not-all_pass.true))

pub change_all-requires-clause-home : goal.change_all-requires-clause-home
change_all-requires-clause-home c = c.requires.sound.holds.home

pub change_all-requires-clause-own : goal.change_all-requires-clause-own
change_all-requires-clause-own c = c.requires.bunch.nodes.own

pub change_all-requires-clause-elements : goal.change_all-requires-clause-elements
change_all-requires-clause-elements c =
    let u = record no_rest.state { own = record no_rest.state.own { forest = forest c.args.shared.now.page c.args.widget.now.id.index } } in
    passed_elements c.args.how.now.test u c.args.shared.now.page c.args.widget.now.id.index refl c.args.bunch.now.nodes.now (sym (c.all_pass.ensures u refl) ∙ c.if-not-all_pass.false)

pub returns-in_ok-change_all-in-Ok : goal.returns-in_ok-change_all-in-Ok
returns-in_ok-change_all-in-Ok c = λ q is. record {
  refines =
      let l = c.args.widget.now.around in let b = c.args.widget.now.bubbled in let sound = c.requires.sound in let w = c.args.widget.now.id.index in
      let p = c.args.shared.now.page in
      let s = c.args.shared.now.store in
      let t = c.begin.new.store in
      let r = c.change_all.new.page in
      let ns = map (number p w) c.args.bunch.now.nodes.now in
      let v = seen w s.cells (value.Ref c.args.bunch.now.cell) in
      let how = c.args.how.now in
      let begun = c.in-Ok.ensures.begun (length ns) q (few_counted (number p w) c.args.bunch.now.nodes.now c.requires.bunch.nodes.few) is in
      let grows = (begun.kept []).grows in
      at_ended w c.args.widget.now.id.small s t p l b sound c.args.meter.now c.begin.new.meter (length ns) q (λ d u. relabel_plan how.test how.change q ns v u) (λ d y. give v (fold (relabel (meant how.change)) y ns))
      (λ fs x d.
      let u = image fs x w (beside s p l b) in
      ap (λ t. want E10 t u (charge (length ns) u (pay_for q u (λ y. give v (fold (relabel (meant how.change)) y ns))))) (sym (c.all_pass.ensures u refl) ∙ c.if-not-all_pass.false))
      begun (beside t r l b) _
      (gives_back w s c.args.bunch.now.cell c.requires.bunch.held (beside t p l b) (beside t r l b) (seen_stays w s.cells t.cells grows (value.Ref c.args.bunch.now.cell) c.requires.bunch.held) (held_stays w s.cells t.cells grows c.args.bunch.now.cell c.requires.bunch.held)
      (sound_page w c.args.widget.now.id.small p r c.change_all.ensures.kept c.change_all.ensures.others t l (sound_stays w s t p l sound (begun.kept [])))
      (λ y. fold (relabel (meant how.change)) y ns)
      (λ fs x.
      page_lift w fs x t p r l b c.change_all.ensures.kept
      ∙ ap (with_forest (image fs x w (beside t p l b))) c.in_ok-change_all-in-Ok.ensures.image
      ∙ sym (forest_folded (relabel (meant how.change)) (relabel_in (meant how.change)) (relabel_is (meant how.change)) ns (image fs x w (beside t p l b)))));
  kept =
      let l = c.args.widget.now.around in let sound = c.requires.sound in keeps_paged c.args.widget.now.id.index c.args.widget.now.id.small c.args.shared.now.store c.begin.new.store c.args.shared.now.page c.change_all.new.page l sound.holds c.begin.ensures.kept c.change_all.ensures.kept c.change_all.ensures.others c.change_all.ensures.host;
  codes = refl;
  rest = refl;
}

pub returns-in_err-change_all-in-Ok : goal.returns-in_err-change_all-in-Ok
returns-in_err-change_all-in-Ok c = λ q is. record {
  refines = IfOk-from_err c.from_residual.result _ c.from_residual.ensures.0;
  kept =
      let l = c.args.widget.now.around in let sound = c.requires.sound in keeps_paged c.args.widget.now.id.index c.args.widget.now.id.small c.args.shared.now.store c.begin.new.store c.args.shared.now.page c.change_all.new.page l sound.holds c.begin.ensures.kept c.change_all.ensures.kept c.change_all.ensures.others c.change_all.ensures.host;
  codes = refl;
  rest = refl;
}

pub returns-in-Err : goal.returns-in-Err
returns-in-Err c = λ q is. record {
  refines =
      let l = c.args.widget.now.around in let b = c.args.widget.now.bubbled in let sound = c.requires.sound in let w = c.args.widget.now.id.index in
      let p = c.args.shared.now.page in
      let s = c.args.shared.now.store in
      let ns = map (number p w) c.args.bunch.now.nodes.now in
      let v = seen w s.cells (value.Ref c.args.bunch.now.cell) in
      let how = c.args.how.now in
      at_refused w c.args.widget.now.id.small s c.begin.new.store p l b sound c.args.meter.now c.begin.new.meter (length ns) q (λ d u. relabel_plan how.test how.change q ns v u) (λ d y. give v (fold (relabel (meant how.change)) y ns))
      (λ fs x d.
      let u = image fs x w (beside s p l b) in
      ap (λ t. want E10 t u (charge (length ns) u (pay_for q u (λ y. give v (fold (relabel (meant how.change)) y ns))))) (sym (c.all_pass.ensures u refl) ∙ c.if-not-all_pass.false))
      c.in-Err.out c.in-Err.ensures.fires
      (c.in-Err.ensures.refused (length ns) q (λ d y. give v (fold (relabel (meant how.change)) y ns)) (few_counted (number p w) c.args.bunch.now.nodes.now c.requires.bunch.nodes.few) is);
  kept =
      let l = c.args.widget.now.around in let sound = c.requires.sound in keeps_store c.args.widget.now.id.index c.args.shared.now.store c.begin.new.store c.args.shared.now.page l sound.holds c.begin.ensures.kept;
  codes = refl;
  rest = refl;
}
