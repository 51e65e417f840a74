use Rattle.std.proofs.Common.{map, length, refl, sym, subst, ◌∙◌}
use Rattle.std.specs.List.{list_all}
use Rattle.std.proofs.lemmas.Result.{IfOk-weaker}
use Rattle.store_cells.specs.declared.value.Value.TheVariants as value
use Rattle.widget_meaning.specs.BunchWrites.{is_value_target, set_value}
use Rattle.widget_meaning.specs.Plan.{charge}
use Rattle.widget_meaning.specs.Values.{E10}
use Rattle.js_image.specs.declared.outcome.Fault.TheVariants as fault
use Rattle.js_image.specs.Image.{seen}
use Rattle.js_values.specs.Fuel.{Fuel}
use Rattle.js_values.specs.declared.outcome.NativeOut.TheVariants as native
use Rattle.page_image.specs.Image.{number}
use Rattle.native_image.specs.Image.{beside, image}
use Rattle.native_image.specs.Refines.{RefinesAt}
use Rattle.native_image.proofs.Keeping.{keeps_here}
use Rattle.native_image.proofs.Meeting.{at_charged, at_lacking, at_same}
use Rattle.native_image.proofs.Wants.{unwanted, wanted}
use Rattle.native_image.proofs.Working.{few_counted}
use Rattle.bunch_trees.specs.Values.{value_paid}
use Rattle.native_image.specs.Handed.{parts}
use Rattle.native_image.proofs.Reading.{writes_thrown}
use Rattle.bunch_trees.proofs.valuing.give_value.Goals as goal

pub all_take-requires : goal.all_take-requires
all_take-requires c = c.requires.bunch.nodes.own

pub returns-then-not-all_take : goal.returns-then-not-all_take
returns-then-not-all_take c =
    let w = c.args.widget.now.id.index in
    let p = c.args.shared.now.page in
    let s = c.args.shared.now.store in
    let h = parts c.args.shared.now c.args.widget.now in
    let ns = map (number p w) c.args.bunch.now.nodes.now in
    let v = seen w s.cells (value.Ref c.args.bunch.now.cell) in
    let t = c.args.text in
    writes_thrown c.args.shared.now c.args.widget.now c.requires.sound (λ d u. set_value ns t v u) fault.E10 c.args.meter.now
    (λ fs x d. let u = image fs x w h in unwanted E10 (list_all (is_value_target u t) ns) u (charge (length ns) u (value_paid ns t v u)) (sym (c.all_take.ensures u refl) ∙ c.if-not-all_take.true))

pub returns-in-Ok : goal.returns-in-Ok
returns-in-Ok c = record {
  refines =
      let l = c.args.widget.now.around in let b = c.args.widget.now.bubbled in let sound = c.requires.sound in let w = c.args.widget.now.id.index in
      let p = c.args.shared.now.page in
      let s = c.args.shared.now.store in
      let h = beside s p l b in
      let new = beside c.value_weighed.new.store c.value_weighed.new.page l b in
      let ns = map (number p w) c.args.bunch.now.nodes.now in
      let v = seen w s.cells (value.Ref c.args.bunch.now.cell) in
      let t = c.args.text in
      let taken = c.in-Ok.ensures.ok (length ns) (few_counted (number p w) c.args.bunch.now.nodes.now c.requires.bunch.nodes.few) in
      IfOk-weaker c.value_weighed.result _ _
      (λ o ends.
      at_same w h new (λ d u. set_value ns t v u) (λ d u. charge (length ns) u (value_paid ns t v u)) o c.args.meter.now c.take.new.meter
      (λ fs x d. let u = image fs x w h in wanted E10 (list_all (is_value_target u t) ns) u (charge (length ns) u (value_paid ns t v u)) (sym (c.all_take.ensures u refl) ∙ c.if-not-all_take.false))
      (at_charged w h new (length ns) (λ d u. value_paid ns t v u) o c.args.meter.now c.take.new.meter taken.0 taken.1 ends))
      (c.value_weighed.ensures.ends l b sound);
  kept =
      c.value_weighed.ensures.kept c.args.widget.now.around c.requires.sound;
  codes = refl;
  rest = refl;
}

pub returns-in-Err : goal.returns-in-Err
returns-in-Err c = record {
  refines =
      let l = c.args.widget.now.around in let b = c.args.widget.now.bubbled in let sound = c.requires.sound in let w = c.args.widget.now.id.index in
      let p = c.args.shared.now.page in
      let s = c.args.shared.now.store in
      let h = beside s p l b in
      let ns = map (number p w) c.args.bunch.now.nodes.now in
      let v = seen w s.cells (value.Ref c.args.bunch.now.cell) in
      let t = c.args.text in
      at_same w h h (λ d u. set_value ns t v u) (λ d u. charge (length ns) u (value_paid ns t v u)) native.OutOfFuel c.args.meter.now c.take.new.meter
      (λ fs x d. let u = image fs x w h in wanted E10 (list_all (is_value_target u t) ns) u (charge (length ns) u (value_paid ns t v u)) (sym (c.all_take.ensures u refl) ∙ c.if-not-all_take.false))
      (subst (λ (k : Fuel). RefinesAt w h h c.args.meter.now k (λ d u. charge (length ns) u (value_paid ns t v u)) native.OutOfFuel) (sym c.in-Err.ensures.same)
      (at_lacking w h (length ns) (λ d u. value_paid ns t v u) c.args.meter.now sound (c.in-Err.ensures.err (length ns) (few_counted (number p w) c.args.bunch.now.nodes.now c.requires.bunch.nodes.few))));
  kept =
      let l = c.args.widget.now.around in let sound = c.requires.sound in keeps_here c.args.widget.now.id.index c.args.shared.now.store c.args.shared.now.page l sound.holds;
  codes = refl;
  rest = refl;
}

pub value_weighed-requires-clause-sound : goal.value_weighed-requires-clause-sound
value_weighed-requires-clause-sound c = (c.args.widget.now.around, c.requires.sound)
