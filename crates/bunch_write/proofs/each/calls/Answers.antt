use Rattle.std.proofs.Common.{◌*◌, length, map, ap, sym, refl, ◌∙◌}
use Rattle.std.specs.List.{fold}
use Rattle.std.proofs.lemmas.List.{length-map}
use Rattle.store_cells.specs.declared.value.Value.TheVariants as value
use Rattle.widget_meaning.specs.BunchReads.{bunches_from, with_bunch}
use Rattle.widget_meaning.specs.BunchWrites.{each_called}
use Rattle.widget_meaning.specs.Costs.{cost, pay, with_counts}
use Rattle.widget_meaning.specs.OwnState.{State}
use Rattle.js_image.specs.Image.{seen}
use Rattle.js_image.proofs.Grown.{held_stays, seen_stays}
use Rattle.page_image.specs.Image.{number}
use Rattle.native_image.specs.Image.{beside, image}
use Rattle.native_image.specs.Weights.{amounts}
use Rattle.native_image.proofs.Keeping.{keeps_here, page_same, host_here}
use Rattle.bunch_write.proofs.each.calls.Goals as goal

pub make_bunches-requires-clause-sound : goal.make_bunches-requires-clause-sound
make_bunches-requires-clause-sound c = (c.args.around.now, c.requires.sound)

pub make_bunches-requires-clause-own : goal.make_bunches-requires-clause-own
make_bunches-requires-clause-own c = c.requires.nodes.own

pub returns-in_ok-settle-in-Ok-clause-ends : goal.returns-in_ok-settle-in-Ok-clause-ends
returns-in_ok-settle-in-Ok-clause-ends c = λ b.
    let w = c.args.w.index in
    let p = c.args.page.now in
    let l = c.args.around.now in
    let s = c.args.store.now in
    let t = c.make_bunches.new.store in
    let ns = map (number p w) c.args.list.now in
    let g = seen w s.cells (value.Ref c.args.func) in
    let v = seen w s.cells (value.Ref c.args.this) in
    let made = c.in_ok-items-in-Ok.ensures.made l c.requires.sound.holds in
    let grows = c.make_bunches.ensures.kept.grows in
    let same_g = seen_stays w s.cells t.cells grows (value.Ref c.args.func) c.requires.func in
    let same_v = seen_stays w s.cells t.cells grows (value.Ref c.args.this) c.requires.held in
    record {
      leaves = λ fs x d.
          let u = image fs x w (beside s p l b) in
          let go = λ (y : State). each_called g (bunches_from (length y.own.heap) ns) v d (fold with_bunch y ns) in
          (λ j. pay (cost 0 (length-map c.args.list.now (number p w) j) (2 * length-map c.args.list.now (number p w) j) 0) u go)
          ∙ c.in-Ok.ensures.due 0 0 refl refl fs x l b go
          ∙ (λ j. each_called (sym same_g j) (sym (made.values fs x b) j) (sym same_v j) d
          ((sym (made.state fs x b (amounts c.in-Ok.due)) ∙ ap (with_counts (image fs x w (beside t p l b))) (sym (c.in_ok-settle-in-Ok.ensures fs x l b))) j));
      fine = (held_stays w s.cells t.cells grows c.args.func c.requires.func, made.fine, held_stays w s.cells t.cells grows c.args.this c.requires.held);
      fires = tt;
      sound = c.make_bunches.ensures.sound l c.requires.sound;
    }

pub returns-in_ok-settle-in-Ok-clause-kept : goal.returns-in_ok-settle-in-Ok-clause-kept
returns-in_ok-settle-in-Ok-clause-kept c = record {
  store = c.make_bunches.ensures.kept;
  page = page_same c.args.w.index c.args.page.now;
  host = host_here c.args.page.now;
  holds = (c.make_bunches.ensures.sound c.args.around.now c.requires.sound).holds;
}

pub returns-in_err-items-in-Ok-clause-kept : goal.returns-in_err-items-in-Ok-clause-kept
returns-in_err-items-in-Ok-clause-kept c = record {
  store = c.make_bunches.ensures.kept;
  page = page_same c.args.w.index c.args.page.now;
  host = host_here c.args.page.now;
  holds = (c.make_bunches.ensures.sound c.args.around.now c.requires.sound).holds;
}

pub returns-in_err-settle-in-Ok-clause-kept : goal.returns-in_err-settle-in-Ok-clause-kept
returns-in_err-settle-in-Ok-clause-kept c = record {
  store = c.make_bunches.ensures.kept;
  page = page_same c.args.w.index c.args.page.now;
  host = host_here c.args.page.now;
  holds = (c.make_bunches.ensures.sound c.args.around.now c.requires.sound).holds;
}

pub returns-in-Err-clause-ends : goal.returns-in-Err-clause-ends
returns-in-Err-clause-ends c = λ b.
    let w = c.args.w.index in
    let p = c.args.page.now in
    let l = c.args.around.now in
    let s = c.args.store.now in
    let ns = map (number p w) c.args.list.now in
    let g = seen w s.cells (value.Ref c.args.func) in
    let v = seen w s.cells (value.Ref c.args.this) in
    record {
      leaves = λ fs x d.
          let u = image fs x w (beside s p l b) in
          let go = λ (y : State). each_called g (bunches_from (length y.own.heap) ns) v d (fold with_bunch y ns) in
          (λ j. pay (cost 0 (length-map c.args.list.now (number p w) j) (2 * length-map c.args.list.now (number p w) j) 0) u go)
          ∙ c.in-Err.ensures.stop 0 0 refl refl fs x l b go;
      fine = tt;
      fires = tt;
      sound = c.requires.sound;
    }

pub returns-in-Err-clause-kept : goal.returns-in-Err-clause-kept
returns-in-Err-clause-kept c = keeps_here c.args.w.index c.args.store.now c.args.page.now c.args.around.now c.requires.sound.holds
