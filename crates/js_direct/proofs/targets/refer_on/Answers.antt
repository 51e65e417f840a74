use Rattle.std.proofs.Common.{Bool, not, sym, ap, ◌∙◌, arith}
use Rattle.std.proofs.lemmas.Result.{IfOk-weaker}
use Rattle.js_names.specs.Code.{trees_of}
use Rattle.store_cells.specs.declared.value.Value.{Value}
use Rattle.widget_meaning.specs.Values as meaning
use Rattle.widget_meaning.specs.Costs.{throw, want}
use Rattle.widget_meaning.specs.Plan.{Ret}
use Rattle.widget_meaning.specs.Expressions.{refer}
use Rattle.js_image.specs.Image.{image, seen}
use Rattle.js_flow.specs.declared.job.Reference.TheVariants as reference
use Rattle.js_direct.specs.Comes.{ended_as}
use Rattle.js_direct.proofs.FormFrames.{both_ok, ends_target, gives_at, instead}
use Rattle.js_direct.proofs.targets.refer_on.Goals as goal

pub returns-then-is_nothing-clause-comes : goal.returns-then-is_nothing-clause-comes
returns-then-is_nothing-clause-comes c =
    let fs = trees_of c.args.site.now.codes.now.items in
    let w = c.args.site.now.widget in
    let s = c.args.store.now in
    let b = seen w s.cells c.args.out.now in
    let yes = sym (c.is_nothing.ensures w s.cells) ∙ c.if-is_nothing.true in
    IfOk-weaker c.throw.result _ _
    (λ how h. ends_target fs w s c.throw.new.store 1 (refer b c.args.name) c.args.run.now c.throw.new.run how c.args.of.now c.throw.new.out
    (instead fs w s c.throw.new.store 1 1 (throw meaning.E1) (refer b c.args.name) c.args.run.now c.throw.new.run how (ended_as how c.throw.new.out) h.0
    (λ r. ap (λ (t : Bool). want meaning.E1 (not t) (image fs r w s) (Ret (meaning.Refers (meaning.Property b c.args.name)) (image fs r w s))) yes) (omega arith)) h.1)
    (both_ok c.throw.result _ _ c.throw.ensures.comes c.throw.ensures.thrown)

pub returns-clause-comes : goal.returns-clause-comes
returns-clause-comes c =
    let fs = trees_of c.args.site.now.codes.now.items in
    let w = c.args.site.now.widget in
    let s = c.args.store.now in
    let v = c.args.out.now in
    let no = sym (c.is_nothing.ensures w s.cells) ∙ c.if-is_nothing.false in
    let same = c.set_reference.ensures ∙ ap (λ (u : Value). reference.Property u c.args.name) c.take_value-base.ensures.taken in
    gives_at fs w s 1 (refer (seen w s.cells v) c.args.name) c.args.run.now (reference.Property v c.args.name) c.set_reference.new.of c.take_value-base.new.out same c.requires.ready.2
    (λ r. ap (λ (t : Bool). want meaning.E1 (not t) (image fs r w s) (Ret (meaning.Refers (meaning.Property (seen w s.cells v) c.args.name)) (image fs r w s))) no) c.requires.held (omega arith)
