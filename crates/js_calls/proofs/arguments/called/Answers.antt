use Rattle.std.proofs.Common.{◌∙◌}
use Rattle.std.proofs.lemmas.Result.{IfOk-weaker}
use Rattle.widget_meaning.specs.Calls.{invoke}
use Rattle.js_image.specs.Image.{all_seen, image}
use Rattle.js_names.specs.Code.{trees_of}
use Rattle.js_calls.proofs.arguments.called.Goals as goal

pub returns-clause-plan : goal.returns-clause-plan
returns-clause-plan c =
    let fs = trees_of c.args.codes.now.items in
    let w = c.args.w in
    let s = c.args.store.now in
    let a = c.args.a in
    IfOk-weaker c.invoke.result _ _
    (λ n h r. h r ∙ (λ i. invoke (c.in_ok-func.ensures.found r i) (c.base_of.ensures.base w s.cells i) (all_seen w s.cells a.args.items) a.place.depth (image fs r w s)))
    c.invoke.ensures.plan

pub invoke-requires-clause-held : goal.invoke-requires-clause-held
invoke-requires-clause-held c = (c.in_ok-func.ensures.fine, c.base_of.ensures.fine c.args.w c.args.store.now.cells c.requires.held.0, c.requires.held.1)
