use Rattle.std.proofs.Common.{arith}
use Rattle.std.proofs.lemmas.Result.{IfOk-weaker}
use Rattle.js_names.specs.Code.{trees_of}
use Rattle.widget_meaning.specs.Expressions.{operate}
use Rattle.js_image.specs.Image.{seen}
use Rattle.js_image.proofs.Units.{kept_then}
use Rattle.js_flow.specs.declared.frame.FormFrame.TheVariants as form
use Rattle.js_flow.specs.declared.job.Reference.TheVariants as reference
use Rattle.js_flow.proofs.Stays.{place_fine}
use Rattle.js_direct.specs.Comes.{ended_as}
use Rattle.js_direct.proofs.FormFrames.{value_fine, value_ready, value_then}
use Rattle.js_direct.proofs.Handing.{hand_form}
use Rattle.js_direct.proofs.assigning.computed_by.Goals as goal

pub write_name-requires-clause-ready : goal.write_name-requires-clause-ready
write_name-requires-clause-ready c =
    let fs = trees_of c.args.here.now.site.now.codes.now.items in
    let w = c.args.here.now.site.now.widget in
    let s = c.args.store.now in
    value_ready fs w s c.operate_on.new.store 8 (operate c.args.op (seen w s.cells c.args.has.now) (seen w s.cells c.args.out.now) c.args.here.now.at.depth) c.args.run.now c.operate_on.new.run c.in_ok-other.other _ c.in_ok-other.ensures.comes c.in-Is.is c.operate_on.ensures.kept c.requires.ready

pub write_name-requires-clause-to : goal.write_name-requires-clause-to
write_name-requires-clause-to c =
    let fs = trees_of c.args.here.now.site.now.codes.now.items in
    let w = c.args.here.now.site.now.widget in
    let s = c.args.store.now in
    place_fine fs w s.cells c.operate_on.new.store.cells c.operate_on.ensures.kept.grows c.args.here.now.at c.requires.place

pub write_name-requires-clause-value : goal.write_name-requires-clause-value
write_name-requires-clause-value c =
    let fs = trees_of c.args.here.now.site.now.codes.now.items in
    let w = c.args.here.now.site.now.widget in
    let s = c.args.store.now in
    value_fine fs w s c.operate_on.new.store 8 (operate c.args.op (seen w s.cells c.args.has.now) (seen w s.cells c.args.out.now) c.args.here.now.at.depth) c.args.run.now c.operate_on.new.run c.in_ok-other.other c.operate_on.new.out c.in_ok-other.ensures.comes c.in-Is.is

pub returns-in-Is-clause-comes : goal.returns-in-Is-clause-comes
returns-in-Is-clause-comes c =
    let fs = trees_of c.args.here.now.site.now.codes.now.items in
    let w = c.args.here.now.site.now.widget in
    let s = c.args.store.now in
    IfOk-weaker c.write_name.result _ _
    (λ how h. value_then fs w s c.operate_on.new.store c.write_name.new.store 8 1 12 (operate c.args.op (seen w s.cells c.args.has.now) (seen w s.cells c.args.out.now) c.args.here.now.at.depth) (form.Write (reference.Variable c.args.name.now) c.args.here.now.at) c.args.run.now c.operate_on.new.run c.operate_on.new.run c.in_ok-other.other how c.operate_on.new.out (ended_as how c.operate_on.new.out)
    c.in_ok-other.ensures.comes c.in-Is.is c.operate_on.ensures.kept (tt, c.requires.place) h (omega arith))
    c.write_name.ensures.comes

pub returns-in-Is-clause-kept : goal.returns-in-Is-clause-kept
returns-in-Is-clause-kept c =
    let fs = trees_of c.args.here.now.site.now.codes.now.items in
    let w = c.args.here.now.site.now.widget in
    let s = c.args.store.now in
    kept_then fs w s c.operate_on.new.store c.write_name.new.store c.operate_on.ensures.kept c.write_name.ensures.kept

pub returns-in_default-clause-comes : goal.returns-in_default-clause-comes
returns-in_default-clause-comes c =
    let fs = trees_of c.args.here.now.site.now.codes.now.items in
    let w = c.args.here.now.site.now.widget in
    let s = c.args.store.now in
    hand_form fs w c.hand_write.result s c.operate_on.new.store 8 12 (operate c.args.op (seen w s.cells c.args.has.now) (seen w s.cells c.args.out.now) c.args.here.now.at.depth) (form.Write (reference.Variable c.args.name.now) c.args.here.now.at) c.args.run.now c.operate_on.new.run c.hand_write.new.run c.in_ok-other.other c.operate_on.new.out
    c.in_ok-other.ensures.comes c.in_default.not-Is c.operate_on.ensures.kept (tt, c.requires.place) (omega arith) c.hand_write.ensures
