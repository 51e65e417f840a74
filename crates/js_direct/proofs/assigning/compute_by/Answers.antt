use Rattle.std.proofs.Common.{arith}
use Rattle.std.proofs.lemmas.Result.{IfOk-weaker}
use Rattle.js_names.specs.Code.{trees_of}
use Rattle.widget_meaning.specs.Expressions.{operate}
use Rattle.js_image.specs.Image.{seen}
use Rattle.js_image.proofs.Units.{kept_then}
use Rattle.js_flow.specs.declared.frame.Frame.TheVariants as frame
use Rattle.js_flow.specs.declared.frame.FormFrame.TheVariants as form
use Rattle.js_flow.proofs.Stays.{place_fine, reference_fine}
use Rattle.js_direct.specs.Comes.{ended_as}
use Rattle.js_direct.proofs.FormFrames.{frame_waits, value_fine, value_passes, value_ready, value_then}
use Rattle.js_direct.proofs.assigning.compute_by.Goals as goal

pub write_value-requires-clause-ready : goal.write_value-requires-clause-ready
write_value-requires-clause-ready c =
    let fs = trees_of c.args.here.now.site.now.codes.now.items in
    let w = c.args.here.now.site.now.widget in
    let s = c.args.store.now in
    value_ready fs w s c.operate_on.new.store 8 (operate c.args.op (seen w s.cells c.args.has.now) (seen w s.cells c.args.out.now) c.args.here.now.at.depth) c.args.run.now c.operate_on.new.run c.in_ok-other.other _ c.in_ok-other.ensures.comes c.in-Is.is c.operate_on.ensures.kept c.requires.ready

pub write_value-requires-clause-to : goal.write_value-requires-clause-to
write_value-requires-clause-to c =
    let fs = trees_of c.args.here.now.site.now.codes.now.items in
    let w = c.args.here.now.site.now.widget in
    let s = c.args.store.now in (
      reference_fine w s.cells c.operate_on.new.store.cells c.operate_on.ensures.kept.grows c.args.of.now c.requires.held.0,
      place_fine fs w s.cells c.operate_on.new.store.cells c.operate_on.ensures.kept.grows c.args.here.now.at c.requires.place,
    )

pub write_value-requires-clause-value : goal.write_value-requires-clause-value
write_value-requires-clause-value c =
    let fs = trees_of c.args.here.now.site.now.codes.now.items in
    let w = c.args.here.now.site.now.widget in
    let s = c.args.store.now in
    value_fine fs w s c.operate_on.new.store 8 (operate c.args.op (seen w s.cells c.args.has.now) (seen w s.cells c.args.out.now) c.args.here.now.at.depth) c.args.run.now c.operate_on.new.run c.in_ok-other.other c.operate_on.new.out c.in_ok-other.ensures.comes c.in-Is.is

pub returns-in-Is-clause-comes : goal.returns-in-Is-clause-comes
returns-in-Is-clause-comes c =
    let fs = trees_of c.args.here.now.site.now.codes.now.items in
    let w = c.args.here.now.site.now.widget in
    let s = c.args.store.now in
    IfOk-weaker c.write_value.result _ _
    (λ how h. value_then fs w s c.operate_on.new.store c.write_value.new.store 8 1 12 (operate c.args.op (seen w s.cells c.args.has.now) (seen w s.cells c.args.out.now) c.args.here.now.at.depth) (form.Write c.args.of.now c.args.here.now.at) c.args.run.now c.operate_on.new.run c.write_value.new.run c.in_ok-other.other how c.operate_on.new.out (ended_as how c.write_value.new.out)
    c.in_ok-other.ensures.comes c.in-Is.is c.operate_on.ensures.kept (c.requires.held.0, c.requires.place) h (omega arith))
    c.write_value.ensures.comes

pub returns-in-Is-clause-kept : goal.returns-in-Is-clause-kept
returns-in-Is-clause-kept c =
    let fs = trees_of c.args.here.now.site.now.codes.now.items in
    let w = c.args.here.now.site.now.widget in
    let s = c.args.store.now in
    kept_then fs w s c.operate_on.new.store c.write_value.new.store c.operate_on.ensures.kept c.write_value.ensures.kept

pub returns-in-Left-clause-comes : goal.returns-in-Left-clause-comes
returns-in-Left-clause-comes c =
    let fs = trees_of c.args.here.now.site.now.codes.now.items in
    let w = c.args.here.now.site.now.widget in
    let s = c.args.store.now in
    frame_waits fs w c.wait_written.result s c.operate_on.new.store 8 12 (operate c.args.op (seen w s.cells c.args.has.now) (seen w s.cells c.args.out.now) c.args.here.now.at.depth) (frame.Form (form.Write c.args.of.now c.args.here.now.at)) c.args.run.now c.operate_on.new.run c.wait_written.new.run c.in_ok-other.other (ended_as c.in_ok-other.other c.operate_on.new.out) (λ h. ended_as h c.operate_on.new.out)
    c.in_ok-other.ensures.comes c.in-Left.is c.operate_on.ensures.kept (c.requires.held.0, c.requires.place) (omega arith) c.wait_written.ensures.left c.wait_written.ensures.waits c.wait_written.ensures.next c.wait_written.ensures.units

pub returns-in_default : goal.returns-in_default
returns-in_default c =
    let fs = trees_of c.args.here.now.site.now.codes.now.items in
    let w = c.args.here.now.site.now.widget in
    let s = c.args.store.now in
    record {
      comes = value_passes fs w s c.operate_on.new.store 8 12 (operate c.args.op (seen w s.cells c.args.has.now) (seen w s.cells c.args.out.now) c.args.here.now.at.depth) (form.Write c.args.of.now c.args.here.now.at) c.args.run.now c.operate_on.new.run c.in_ok-other.other c.operate_on.new.out c.in_ok-other.ensures.comes c.in_default.not-Is c.in_default.not-Left c.operate_on.ensures.kept (c.requires.held.0, c.requires.place) (omega arith);
      kept = c.operate_on.ensures.kept;
    }
