use Rattle.std.proofs.Common.{[], ◌∷◌, length, map, ap, sym, subst, ◌∙◌, refl}
use Rattle.std.specs.Prelude.{is_some}
use Rattle.std.proofs.lemmas.Result.{IfOk-weaker}
use Rattle.store_cells.specs.declared.value.Value.TheVariants as value
use Rattle.widget_meaning.specs.BunchWrites.{write_method}
use Rattle.permitted_table.specs.declared.native.WriteNative.TheVariants.{Each}
use Rattle.widget_meaning.specs.Plan.{charge}
use Rattle.widget_meaning.specs.Properties.{is_own_function}
use Rattle.widget_meaning.specs.Values.{E4}
use Rattle.js_image.specs.declared.outcome.Fault.TheVariants as fault
use Rattle.js_image.specs.Held.{IsFine}
use Rattle.js_image.specs.Image.{seen}
use Rattle.js_image.proofs.Makes.{within_of}
use Rattle.js_values.specs.Fuel.{Fuel}
use Rattle.js_values.specs.declared.outcome.NativeOut.TheVariants as native
use Rattle.page_image.specs.Image.{number}
use Rattle.native_image.specs.Image.{beside, image}
use Rattle.native_image.specs.Refines.{RefinesAt}
use Rattle.native_image.proofs.Joint.{rest}
use Rattle.native_image.proofs.Keeping.{keeps_here}
use Rattle.native_image.proofs.Meeting.{at_charged, at_lacking, at_same}
use Rattle.native_image.proofs.Wants.{unwanted, wanted}
use Rattle.native_image.proofs.Working.{few_counted}
use Rattle.bunch_write.specs.Calls.{each_paid}
use Rattle.native_image.specs.Handed.{parts}
use Rattle.native_image.proofs.Reading.{writes_thrown}
use Rattle.bunch_write.proofs.each.each.Goals as goal

pub function_of-requires : goal.function_of-requires
function_of-requires c = within_of c.args.widget.now.id.index c.args.shared.now.store.cells c.args.func.now c.requires.func

pub calls-requires-clause-func : goal.calls-requires-clause-func
calls-requires-clause-func c = subst (IsFine c.args.widget.now.id.index c.args.shared.now.store.cells) c.in-Some.ensures.cell c.requires.func

pub returns-in-None : goal.returns-in-None
returns-in-None c =
    let w = c.args.widget.now.id.index in
    let s = c.args.shared.now.store in
    let h = parts c.args.shared.now c.args.widget.now in
    let ns = map (number c.args.shared.now.page w) c.args.bunch.now.nodes.now in
    let v = seen w s.cells (value.Ref c.args.bunch.now.cell) in
    let f = seen w s.cells c.args.func.now in
    writes_thrown c.args.shared.now c.args.widget.now c.requires.sound (λ d u. write_method Each ns v (f ∷ []) d u) fault.E4 c.args.meter.now
    (λ fs x d.
    let u = image fs x w h in
    unwanted E4 (is_own_function u f) u (charge (length ns) u (each_paid ns f v d u)) (c.function_of.ensures.own fs (rest w c.args.widget.now.id.small x h) w c.requires.func ∙ ap is_some c.in-None.is))

pub returns-in-Ok : goal.returns-in-Ok
returns-in-Ok c = record {
  refines =
      let b = c.args.widget.now.bubbled in let w = c.args.widget.now.id.index in
      let p = c.args.shared.now.page in
      let s = c.args.shared.now.store in
      let h = beside s p c.args.widget.now.around b in
      let new = beside c.calls.new.store p c.args.widget.now.around b in
      let ns = map (number p w) c.args.bunch.now.nodes.now in
      let v = seen w s.cells (value.Ref c.args.bunch.now.cell) in
      let f = seen w s.cells c.args.func.now in
      let g = seen w s.cells (value.Ref c.in-Some.func) in
      let taken = c.in-Ok.ensures.ok (length ns) (few_counted (number p w) c.args.bunch.now.nodes.now c.requires.bunch.nodes.few) in
      IfOk-weaker c.calls.result _ _
      (λ o ends.
      at_same w h new (λ d u. write_method Each ns v (f ∷ []) d u) (λ d u. charge (length ns) u (each_paid ns g v d u)) o c.args.meter.now c.take.new.meter
      (λ fs x d.
      let u = image fs x w h in
      wanted E4 (is_own_function u f) u (charge (length ns) u (each_paid ns f v d u)) (c.function_of.ensures.own fs (rest w c.args.widget.now.id.small x h) w c.requires.func ∙ ap is_some c.in-Some.is)
      ∙ ap (λ k. charge (length ns) u (each_paid ns (seen w s.cells k) v d u)) c.in-Some.ensures.cell)
      (at_charged w h new (length ns) (each_paid ns g v) o c.args.meter.now c.take.new.meter taken.0 taken.1 ends))
      (c.calls.ensures.ends b);
  kept = c.calls.ensures.kept;
  codes = refl;
  rest = refl;
}

pub returns-in-Err : goal.returns-in-Err
returns-in-Err c = record {
  refines =
      let b = c.args.widget.now.bubbled in let w = c.args.widget.now.id.index in
      let p = c.args.shared.now.page in
      let s = c.args.shared.now.store in
      let h = beside s p c.args.widget.now.around b in
      let ns = map (number p w) c.args.bunch.now.nodes.now in
      let v = seen w s.cells (value.Ref c.args.bunch.now.cell) in
      let f = seen w s.cells c.args.func.now in
      at_same w h h (λ d u. write_method Each ns v (f ∷ []) d u) (λ d u. charge (length ns) u (each_paid ns f v d u)) native.OutOfFuel c.args.meter.now c.take.new.meter
      (λ fs x d.
      let u = image fs x w h in
      wanted E4 (is_own_function u f) u (charge (length ns) u (each_paid ns f v d u)) (c.function_of.ensures.own fs (rest w c.args.widget.now.id.small x h) w c.requires.func ∙ ap is_some c.in-Some.is))
      (subst (λ (k : Fuel). RefinesAt w h h c.args.meter.now k (λ d u. charge (length ns) u (each_paid ns f v d u)) native.OutOfFuel) (sym c.in-Err.ensures.same)
      (at_lacking w h (length ns) (each_paid ns f v) c.args.meter.now c.requires.sound (c.in-Err.ensures.err (length ns) (few_counted (number p w) c.args.bunch.now.nodes.now c.requires.bunch.nodes.few))));
  kept =
      keeps_here c.args.widget.now.id.index c.args.shared.now.store c.args.shared.now.page c.args.widget.now.around c.requires.sound.holds;
  codes = refl;
  rest = refl;
}
