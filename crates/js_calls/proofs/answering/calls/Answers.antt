use Rattle.std.proofs.Common.{◌∙◌, sym, ap}
use Rattle.std.proofs.lemmas.Result.{IfOk-weaker}
use Rattle.js_image.specs.Image.{image, seen}
use Rattle.js_names.specs.Code.{trees_of}
use Rattle.js_values.specs.Answers.{called}
use Rattle.js_calls.proofs.Repeated.{gather_start}
use Rattle.js_calls.proofs.answering.calls.Goals as goal

pub returns-in_ok-new-in-Gather-clause-plan : goal.returns-in_ok-new-in-Gather-clause-plan
returns-in_ok-new-in-Gather-clause-plan c =
    let fs = trees_of c.args.codes.now.items in
    let w = c.args.w in
    let s = c.args.store.now in
    let ok = c.in_ok-new-in-Gather.ensures.ok in
    IfOk-weaker c.gather.result _ _
    (λ n h node r. h r ∙ gather_start w s.cells (image fs r w s) c.in_ok-new-in-Gather.field-0.value c.in-Gather.func c.in-Gather.items.items c.in-Gather.keep c.args.depth
    (ap (λ g. g.func) ok) (ap (λ g. g.items.items) ok) (ap (λ g. g.results.items) ok ∙ c.new-in-Gather.ensures.items) (ap (λ g. g.keep) ok ∙ c.kept.ensures) (ap (λ g. g.depth) ok)
    ∙ sym (ap (λ p. called (seen w s.cells) node c.args.depth p (image fs r w s)) c.in-Gather.is))
    c.gather.ensures.plan
