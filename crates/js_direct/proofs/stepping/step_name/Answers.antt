use Rattle.std.proofs.Common.{◌≡◌, ℤ, rules, sym, ap, subst, ◌∙◌, arith}
use mir.Val.{of_z, to_z}
use mir.Syntax.{w64}
use Rattle.std.specs.Prelude.{◌+ℤ◌, if◌then◌else◌, nat_lt, unsigned_abs}
use Rattle.std.proofs.lemmas.Result.{IfOk-weaker}
use Rattle.store_cells.specs.declared.value.Value.{Value}
use Rattle.store_cells.specs.Cells.{Cells}
use Rattle.widget_meaning.specs.Values as meaning
use Rattle.widget_meaning.specs.Limits.{past_numbers}
use Rattle.widget_meaning.specs.Operators.{number}
use Rattle.widget_meaning.specs.Plan.{Ret}
use Rattle.widget_meaning.specs.Expressions.{is_post, step_target}
use Rattle.js_image.specs.Image.{image, seen}
use Rattle.js_image.specs.Held.{IsFine}
use Rattle.js_image.proofs.Units.{kept_then}
use Rattle.js_names.specs.Code.{trees_of}
use Rattle.js_flow.specs.Forms.{form_taken}
use Rattle.js_flow.specs.declared.frame.FormFrame.TheVariants as form
use Rattle.js_flow.specs.Views.{place_of}
use Rattle.js_flow.proofs.Stays.{place_fine}
use Rattle.js_direct.specs.Comes.{Comes}
use Rattle.js_direct.proofs.Adding.{added}
use Rattle.js_direct.proofs.FormFrames.{gives_value}
use Rattle.js_direct.proofs.stepping.step_name.Goals as goal

pub returns-in-Some-clause-comes : goal.returns-in-Some-clause-comes
returns-in-Some-clause-comes c =
    let fs = trees_of c.args.here.now.site.now.codes.now.items in
    let w = c.args.here.now.site.now.widget in
    let s = c.args.store.now in
    let t = c.add_to.new.store in
    let pl = place_of w s.cells c.args.here.now.at in
    let z = c.in-Some.z in
    let by = to_z w64 (of_z w64 c.by_one-by.result) in
    let by_same : by ≡ c.by_one-by.result = search rules in
    let z_same : to_z w64 (of_z w64 z) ≡ z = search rules in
    let y = z +ℤ by in
    let v = c.set_value.new.out in
    let is = ap (seen w t.cells) c.set_value.ensures ∙ c.given_sum.ensures.value w t.cells ∙ ap (λ (k : ℤ). if is_post c.args.op then meaning.Num k else meaning.Num (k +ℤ by)) z_same in
    gives_value fs w s t 4 (step_target c.args.op pl (meaning.Refers (meaning.Variable c.args.name.now))) c.args.run.now v c.requires.ready.2
    (λ r. added c.args.op z y c.args.name.now pl (image fs r w s) (c.in-Some.ensures.had fs r c.args.here.now.at.depth c.requires.ready.1) (c.by_one-by.ensures z ∙ ap (λ (k : ℤ). number (z +ℤ k)) (sym by_same)) c.in-Some.ensures.within
    ∙ (λ i. Ret (meaning.Is (sym is i)) (sym (c.in-Some.ensures.plan fs r c.args.here.now.at.depth c.requires.ready.1) i)))
    (subst (λ (u : Value). IsFine w t.cells u) (sym c.set_value.ensures) (c.given_sum.ensures.fine w t.cells)) (omega arith)

pub returns-in-Some-clause-kept : goal.returns-in-Some-clause-kept
returns-in-Some-clause-kept c = c.add_to.ensures.kept (trees_of c.args.here.now.site.now.codes.now.items) c.requires.ready.1

pub given_sum-requires : goal.given_sum-requires
given_sum-requires c =
    let z = c.in-Some.z in
    let by = to_z w64 (of_z w64 c.by_one-by.result) in
    let z_same : to_z w64 (of_z w64 z) ≡ z = search rules in
    record { within = ap (λ (k : ℤ). nat_lt (unsigned_abs (k +ℤ by)) past_numbers) z_same ∙ c.in-Some.ensures.within }

pub step_other-requires-clause-ready : goal.step_other-requires-clause-ready
step_other-requires-clause-ready c =
    (c.requires.ready.0, (c.add_to.ensures.kept (trees_of c.args.here.now.site.now.codes.now.items) c.requires.ready.1).confined c.requires.ready.1, c.requires.ready.2)

pub step_other-requires-clause-held : goal.step_other-requires-clause-held
step_other-requires-clause-held c =
    let fs = trees_of c.args.here.now.site.now.codes.now.items in
    place_fine fs c.args.here.now.site.now.widget c.args.store.now.cells c.add_to.new.store.cells (c.add_to.ensures.kept fs c.requires.ready.1).grows c.args.here.now.at c.requires.held

pub returns-in-None-clause-comes : goal.returns-in-None-clause-comes
returns-in-None-clause-comes c =
    let fs = trees_of c.args.here.now.site.now.codes.now.items in
    let w = c.args.here.now.site.now.widget in
    IfOk-weaker c.step_other.result _ _
    (λ how x. subst (λ (s : Cells). Comes fs w s c.step_other.new.store 4 (form_taken fs w s.cells (form.StepTarget c.args.op c.args.here.now.at) (meaning.Refers (meaning.Variable c.args.name.now))) c.args.run.now c.step_other.new.run how c.step_other.new.out) c.in-None.ensures.none x)
    c.step_other.ensures.comes

pub returns-in-None-clause-kept : goal.returns-in-None-clause-kept
returns-in-None-clause-kept c =
    let fs = trees_of c.args.here.now.site.now.codes.now.items in
    kept_then fs c.args.here.now.site.now.widget c.args.store.now c.add_to.new.store c.step_other.new.store (c.add_to.ensures.kept fs c.requires.ready.1) c.step_other.ensures.kept
