use Rattle.std.proofs.Common.{◌*◌, map, length, sym, subst, ◌∙◌, refl}
use Rattle.std.specs.List.{list_all}
use Rattle.std.proofs.lemmas.List.{length-map}
use Rattle.std.proofs.lemmas.Result.{IfOk-weaker}
use Rattle.plain_tree.specs.Trees.{size}
use Rattle.store_cells.specs.declared.value.Value.TheVariants as value
use Rattle.widget_meaning.specs.BunchWrites.{is_no_root, is_target}
use Rattle.widget_meaning.specs.PageForms.{want_all}
use Rattle.widget_meaning.specs.Plan.{charge}
use Rattle.widget_meaning.specs.Values.{E10}
use Rattle.js_image.specs.declared.outcome.Fault.TheVariants as fault
use Rattle.js_image.specs.Image.{seen}
use Rattle.js_values.specs.Fuel.{Fuel}
use Rattle.js_values.specs.declared.outcome.NativeOut.TheVariants as native
use Rattle.page_image.specs.Copies.{trees_at}
use Rattle.page_image.specs.Image.{number}
use Rattle.native_image.specs.Image.{beside, image}
use Rattle.native_image.specs.Refines.{RefinesAt}
use Rattle.native_image.proofs.Keeping.{keeps_here}
use Rattle.native_image.proofs.Meeting.{at_charged, at_lacking, at_same}
use Rattle.native_image.proofs.Wants.{unwanted, wanted}
use Rattle.bunch_trees.specs.Appends.{append_nodes, append_paid}
use Rattle.bunch_trees.proofs.Counting.{times}
use Rattle.native_image.specs.Handed.{parts}
use Rattle.native_image.proofs.Reading.{writes_memory, writes_thrown}
use Rattle.bunch_trees.proofs.appending.append_nodes.Goals as goal

pub all_take-requires-clause-home : goal.all_take-requires-clause-home
all_take-requires-clause-home c = c.requires.sound.holds.home

pub all_take-requires-clause-targets : goal.all_take-requires-clause-targets
all_take-requires-clause-targets c = c.requires.bunch.nodes.own

pub none_root-requires-clause-home : goal.none_root-requires-clause-home
none_root-requires-clause-home c = c.requires.sound.holds.home

pub returns-then-not-takes : goal.returns-then-not-takes
returns-then-not-takes c =
    let w = c.args.widget.now.id.index in
    let p = c.args.shared.now.page in
    let s = c.args.shared.now.store in
    let h = parts c.args.shared.now c.args.widget.now in
    let ns = map (number p w) c.args.bunch.now.nodes.now in
    let ms = map (number p w) c.args.news.now in
    let v = seen w s.cells (value.Ref c.args.bunch.now.cell) in
    writes_thrown c.args.shared.now c.args.widget.now c.requires.sound (λ d u. append_nodes ns ms v u) fault.E10 c.args.meter.now
    (λ fs x d. let u = image fs x w h in unwanted E10 (list_all (is_target u ms) ns) u (want_all is_no_root ms u (charge (length ns * size (trees_at p w c.args.news.now)) u (append_paid ns ms v u))) (sym c.in_ok-takes.ensures ∙ c.if-not-takes.true))

pub returns-then-not-none_root : goal.returns-then-not-none_root
returns-then-not-none_root c =
    let w = c.args.widget.now.id.index in
    let p = c.args.shared.now.page in
    let s = c.args.shared.now.store in
    let h = parts c.args.shared.now c.args.widget.now in
    let ns = map (number p w) c.args.bunch.now.nodes.now in
    let ms = map (number p w) c.args.news.now in
    let v = seen w s.cells (value.Ref c.args.bunch.now.cell) in
    writes_thrown c.args.shared.now c.args.widget.now c.requires.sound (λ d u. append_nodes ns ms v u) fault.E10 c.args.meter.now
    (λ fs x d.
    let u = image fs x w h in
    let paid = charge (length ns * size (trees_at p w c.args.news.now)) u (append_paid ns ms v u) in
    wanted E10 (list_all (is_target u ms) ns) u (want_all is_no_root ms u paid) (sym c.in_ok-takes.ensures ∙ c.if-not-takes.false)
    ∙ unwanted E10 (list_all is_no_root ms) u paid (sym c.none_root.ensures ∙ c.if-not-none_root.true))

pub returns-in-Ok : goal.returns-in-Ok
returns-in-Ok c = record {
  refines =
      let l = c.args.widget.now.around in let b = c.args.widget.now.bubbled in let sound = c.requires.sound in let w = c.args.widget.now.id.index in
      let p = c.args.shared.now.page in
      let s = c.args.shared.now.store in
      let h = beside s p l b in
      let new = beside c.append_weighed.new.store c.append_weighed.new.page l b in
      let ns = map (number p w) c.args.bunch.now.nodes.now in
      let ms = map (number p w) c.args.news.now in
      let v = seen w s.cells (value.Ref c.args.bunch.now.cell) in
      let n = length ns * size (trees_at p w c.args.news.now) in
      let taken = c.in-Ok.ensures.ok n (times (length ns) (length c.args.bunch.now.nodes.now) c.measure_all-extent.result.nodes (size (trees_at p w c.args.news.now)) c.saturating_mul.result (sym (length-map c.args.bunch.now.nodes.now (number p w))) c.measure_all-extent.ensures.nodes c.saturating_mul.ensures) in
      IfOk-weaker c.append_weighed.result _ _
      (λ o ends.
      at_same w h new (λ d u. append_nodes ns ms v u) (λ d u. charge n u (append_paid ns ms v u)) o c.args.meter.now c.take.new.meter
      (λ fs x d.
      let u = image fs x w h in
      let paid = charge n u (append_paid ns ms v u) in
      wanted E10 (list_all (is_target u ms) ns) u (want_all is_no_root ms u paid) (sym c.in_ok-takes.ensures ∙ c.if-not-takes.false)
      ∙ wanted E10 (list_all is_no_root ms) u paid (sym c.none_root.ensures ∙ c.if-not-none_root.false))
      (at_charged w h new n (λ d u. append_paid ns ms v u) o c.args.meter.now c.take.new.meter taken.0 taken.1 ends))
      (c.append_weighed.ensures.ends l b sound);
  kept =
      c.append_weighed.ensures.kept c.args.widget.now.around c.requires.sound;
  codes = refl;
  rest = refl;
}

pub returns-in-Err : goal.returns-in-Err
returns-in-Err c = record {
  refines =
      let l = c.args.widget.now.around in let b = c.args.widget.now.bubbled in let sound = c.requires.sound in let w = c.args.widget.now.id.index in
      let p = c.args.shared.now.page in
      let s = c.args.shared.now.store in
      let h = beside s p l b in
      let ns = map (number p w) c.args.bunch.now.nodes.now in
      let ms = map (number p w) c.args.news.now in
      let v = seen w s.cells (value.Ref c.args.bunch.now.cell) in
      let n = length ns * size (trees_at p w c.args.news.now) in
      at_same w h h (λ d u. append_nodes ns ms v u) (λ d u. charge n u (append_paid ns ms v u)) native.OutOfFuel c.args.meter.now c.take.new.meter
      (λ fs x d.
      let u = image fs x w h in
      let paid = charge n u (append_paid ns ms v u) in
      wanted E10 (list_all (is_target u ms) ns) u (want_all is_no_root ms u paid) (sym c.in_ok-takes.ensures ∙ c.if-not-takes.false)
      ∙ wanted E10 (list_all is_no_root ms) u paid (sym c.none_root.ensures ∙ c.if-not-none_root.false))
      (subst (λ (k : Fuel). RefinesAt w h h c.args.meter.now k (λ d u. charge n u (append_paid ns ms v u)) native.OutOfFuel) (sym c.in-Err.ensures.same)
      (at_lacking w h n (λ d u. append_paid ns ms v u) c.args.meter.now sound
      (c.in-Err.ensures.err n (times (length ns) (length c.args.bunch.now.nodes.now) c.measure_all-extent.result.nodes (size (trees_at p w c.args.news.now)) c.saturating_mul.result (sym (length-map c.args.bunch.now.nodes.now (number p w))) c.measure_all-extent.ensures.nodes c.saturating_mul.ensures))));
  kept =
      let l = c.args.widget.now.around in let sound = c.requires.sound in keeps_here c.args.widget.now.id.index c.args.shared.now.store c.args.shared.now.page l sound.holds;
  codes = refl;
  rest = refl;
}

pub returns-in_err-takes : goal.returns-in_err-takes
returns-in_err-takes c = writes_memory c.args.shared.now c.args.widget.now c.requires.sound c.args.meter.now c.args.meter.now _ c.from_residual.result c.from_residual.ensures.0

pub append_weighed-requires-clause-sound : goal.append_weighed-requires-clause-sound
append_weighed-requires-clause-sound c = (c.args.widget.now.around, c.requires.sound)
