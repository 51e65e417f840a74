use Rattle.std.proofs.Common.{sym, ◌∙◌, arith}
use Rattle.js_names.specs.Code.{trees_of}
use Rattle.widget_meaning.specs.Values as meaning
use Rattle.widget_meaning.specs.Plan.{Ret}
use Rattle.widget_meaning.specs.Scopes.{assign}
use Rattle.js_image.specs.Image.{image, seen}
use Rattle.js_image.proofs.Grown.{fine_stays, seen_stays}
use Rattle.js_flow.specs.declared.frame.FormFrame.TheVariants as form
use Rattle.js_flow.specs.declared.job.Reference.TheVariants as reference
use Rattle.js_flow.specs.Forms.{form_taken}
use Rattle.js_flow.specs.Views.{place_of}
use Rattle.js_direct.proofs.FormFrames.{gives_value}
use Rattle.js_direct.proofs.assigning.write_name.Goals as goal

pub returns-clause-comes : goal.returns-clause-comes
returns-clause-comes c =
    let fs = trees_of c.args.here.now.site.now.codes.now.items in
    let w = c.args.here.now.site.now.widget in
    let s = c.args.store.now in
    let t = c.assign.new.store in
    let v = c.args.out.now in
    let kept = c.assign.ensures.kept fs c.requires.ready.1 in
    let same = seen_stays w s.cells t.cells kept.grows v c.requires.value in
    let pl = place_of w s.cells c.args.here.now.at in
    gives_value fs w s t 1 (form_taken fs w s.cells (form.Write (reference.Variable c.args.name.now) c.args.here.now.at) (meaning.Is (seen w s.cells v))) c.args.run.now v c.requires.ready.2
    (λ r. (λ i. Ret (meaning.Is (seen w s.cells v)) (assign (image fs r w s) pl c.args.name.now (seen w s.cells (sym c.in_ok-share_to.ensures i))))
    ∙ sym (λ i. Ret (meaning.Is (same i)) (c.assign.ensures.plan fs r c.args.here.now.at.depth c.requires.ready.1 i)))
    (fine_stays w s.cells t.cells kept.grows v c.requires.value) (omega arith)

pub returns-clause-kept : goal.returns-clause-kept
returns-clause-kept c =
    let fs = trees_of c.args.here.now.site.now.codes.now.items in
    let w = c.args.here.now.site.now.widget in
    let s = c.args.store.now in
    c.assign.ensures.kept fs c.requires.ready.1
