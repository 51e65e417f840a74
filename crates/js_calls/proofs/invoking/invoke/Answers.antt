use Rattle.std.proofs.Common.{sym, ◌∙◌}
use Rattle.std.specs.Option.{option_map}
use Rattle.std.proofs.lemmas.Result.{IfOk-weaker}
use Rattle.js_image.specs.Image.{all_seen, image, seen}
use Rattle.js_names.specs.Code.{trees_of}
use Rattle.js_calls.proofs.Invoked.{fine_within, function_called, native_called, nothing_called}
use Rattle.js_calls.proofs.invoking.invoke.Goals as goal

pub callee-requires : goal.callee-requires
callee-requires c = fine_within c.args.w c.args.store.now.cells c.args.call.func c.requires.held.0

pub returns-in-Function-clause-plan : goal.returns-in-Function-clause-plan
returns-in-Function-clause-plan c =
    let fs = trees_of c.args.codes.now.items in
    let s = c.args.store.now in
    let call = c.args.call in
    IfOk-weaker c.enter.result _ _
    (λ n h r. h r ∙ sym (function_called (image fs r c.args.w s) (option_map (seen c.args.w s.cells) call.this) (all_seen c.args.w s.cells call.args.items) call.depth (seen c.args.w s.cells call.func) _ (c.in-Function.ensures.called fs r c.args.w c.requires.held.0)))
    c.enter.ensures.plan

pub returns-in-Native-clause-plan : goal.returns-in-Native-clause-plan
returns-in-Native-clause-plan c =
    let fs = trees_of c.args.codes.now.items in
    let s = c.args.store.now in
    let call = c.args.call in
    IfOk-weaker c.native.result _ _
    (λ n h r. h fs c.args.w s.cells (image fs r c.args.w s) ∙ sym (native_called (image fs r c.args.w s) (option_map (seen c.args.w s.cells) call.this) (all_seen c.args.w s.cells call.args.items) call.depth (seen c.args.w s.cells call.func) c.in-Native.which (c.in-Native.ensures.called fs r c.args.w c.requires.held.0)))
    c.native.ensures.plan

pub returns-in-Native-clause-fine : goal.returns-in-Native-clause-fine
returns-in-Native-clause-fine c = IfOk-weaker c.native.result _ _ (λ n h. h (trees_of c.args.codes.now.items) c.args.w c.args.store.now.cells c.requires.held) c.native.ensures.fine

pub returns-in-Nothing-clause-plan : goal.returns-in-Nothing-clause-plan
returns-in-Nothing-clause-plan c =
    let fs = trees_of c.args.codes.now.items in
    let s = c.args.store.now in
    let call = c.args.call in
    IfOk-weaker c.throw.result _ _
    (λ n h r. h r ∙ sym (nothing_called (image fs r c.args.w s) (option_map (seen c.args.w s.cells) call.this) (all_seen c.args.w s.cells call.args.items) call.depth (seen c.args.w s.cells call.func) (c.in-Nothing.ensures.called fs r c.args.w c.requires.held.0)))
    c.throw.ensures.plan
