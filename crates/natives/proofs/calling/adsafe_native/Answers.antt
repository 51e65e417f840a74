use Rattle.std.proofs.Common.{refl}
use Rattle.std.proofs.lemmas.Result.{IfOk-from_err}
use Rattle.widget_meaning.specs.Natives.{run_native}
use Rattle.js_image.specs.Image.{all_seen}
use Rattle.native_common.specs.Receivers.{receiver}
use Rattle.natives.proofs.Started.{noted_kept, noted_whole, tried_keeps}
use Rattle.natives.proofs.Whole.{store_keeps}
use Rattle.natives.proofs.calling.adsafe_native.Goals as goal

pub returns-in_err-out : goal.returns-in_err-out
returns-in_err-out c =
    let h = c.args.shared.now in
    let v = c.args.widget.now in
    let n = c.call.new in
    record {
      refines = IfOk-from_err c.from_residual.result _ c.from_residual.ensures.0;
      kept = store_keeps v.id.index h.store n.store h.page v.around c.requires.sound
          (noted_kept v.id.index c.waiting-waiting.result h.store n.store c.args.meter.now n.meter _ _ _ c.call.result c.call.ensures.native c.call.ensures.memory);
      codes = refl;
      id = refl;
    }

pub returns-in_err-start : goal.returns-in_err-start
returns-in_err-start c =
    let h = c.args.shared.now in
    let v = c.args.widget.now in
    let n = c.call.new in
    record {
      refines = IfOk-from_err c.from_residual-in_err-start.result _ c.from_residual-in_err-start.ensures.0;
      kept = tried_keeps v.id.index v.id.small h.store n.store h.page v.around c.start.new.around c.start.ensures.others c.requires.sound n.asked c.call.ensures.own c.start.result c.start.ensures.started c.start.ensures.refused
          (noted_kept v.id.index c.waiting-waiting.result h.store n.store c.args.meter.now n.meter _ _ _ c.call.result c.call.ensures.native c.call.ensures.memory);
      codes = refl;
      id = refl;
    }

pub returns : goal.returns
returns c =
    let h = c.args.shared.now in
    let v = c.args.widget.now in
    let n = c.call.new in
    record {
      refines = noted_whole v.id.index v.id.small h.store n.store h.page v.around c.start.new.around c.start.ensures.others c.requires.sound n.asked c.call.ensures.own
          v.bubbled c.waiting-waiting.result v.log.items n.log.items v.posts.items n.posts.items c.args.meter.now n.meter
          (run_native c.args.which (receiver v.id.index h.store.cells c.args.this.now) (all_seen v.id.index h.store.cells c.args.args.now)) c.in_ok-out.out
          c.requires.confined c.waiting-waiting.ensures.exact c.in_ok-start.ensures.started c.start.ensures.unasked c.in_ok-out.ensures.native;
      kept = tried_keeps v.id.index v.id.small h.store n.store h.page v.around c.start.new.around c.start.ensures.others c.requires.sound n.asked c.call.ensures.own c.start.result c.start.ensures.started c.start.ensures.refused
          (noted_kept v.id.index c.waiting-waiting.result h.store n.store c.args.meter.now n.meter _ _ _ c.call.result c.call.ensures.native c.call.ensures.memory);
      codes = refl;
      id = refl;
    }
