use Rattle.std.proofs.Common.{◌∙◌, sym, ap}
use Rattle.std.proofs.lemmas.Result.{IfOk-weaker}
use Rattle.widget_meaning.specs.Costs.{give}
use Rattle.widget_meaning.specs.NativeForms.{make_array}
use Rattle.js_image.specs.Image.{all_seen, image}
use Rattle.js_names.specs.Code.{trees_of}
use Rattle.js_flow.specs.Calls.{gathered}
use Rattle.js_calls.proofs.repeating.keep.Goals as goal

pub new_array-requires-in-Passing-clause-held : goal.new_array-requires-in-Passing-clause-held
new_array-requires-in-Passing-clause-held c = c.in_ok-passing-in-Passing.ensures.fine c.args.w c.args.store.now.cells c.requires.held.1

pub returns-in-Results-clause-plan : goal.returns-in-Results-clause-plan
returns-in-Results-clause-plan c =
    let fs = trees_of c.args.codes.now.items in
    let w = c.args.w in
    let s = c.args.store.now in
    let g = c.args.g in
    IfOk-weaker c.new_array.result _ _
    (λ n h r. h r ∙ sym (ap (λ k. gathered k (all_seen w s.cells g.items.items) (all_seen w s.cells g.results.items) (image fs r w s)) c.in-Results.is))
    c.new_array.ensures.plan

pub returns-clause-plan : goal.returns-clause-plan
returns-clause-plan c =
    let fs = trees_of c.args.codes.now.items in
    let w = c.args.w in
    let s = c.args.store.now in
    let g = c.args.g in
    IfOk-weaker c.new_array-in-Passing.result _ _
    (λ n h r. h r ∙ ap (λ vs. make_array vs 0 (image fs r w s) give) (c.in_ok-passing-in-Passing.ensures.seen w s.cells)
    ∙ sym (ap (λ k. gathered k (all_seen w s.cells g.items.items) (all_seen w s.cells g.results.items) (image fs r w s)) c.in-Passing.is))
    c.new_array-in-Passing.ensures.plan
