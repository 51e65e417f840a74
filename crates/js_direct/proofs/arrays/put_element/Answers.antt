use Rattle.std.proofs.Common.{◌≡◌, sym, ap, ◌∙◌, refl, rules, arith}
use Rattle.std.proofs.lemmas.Result.{IfOk-weaker}
use Rattle.std.specs.Fmt.{decimal}
use Rattle.store_cells.specs.declared.value.Value.TheVariants as value
use Rattle.widget_meaning.specs.Costs.{throw}
use Rattle.widget_meaning.specs.Plan.{Halt}
use Rattle.widget_meaning.specs.Properties.{index_name, put}
use Rattle.js_image.specs.Image.{image, seen}
use Rattle.js_image.specs.Plans.{meant_cause, meant_fault, put_plan}
use Rattle.js_image.proofs.Units.{kept_then}
use Rattle.js_names.specs.Code.{trees_of}
use Rattle.js_direct.proofs.Lists.{before_then, left_no_value}
use Rattle.js_direct.proofs.Parts.{before_it}
use Rattle.js_direct.proofs.arrays.put_element.Goals as goal

pub returns-in-Done-clause-done : goal.returns-in-Done-clause-done
returns-in-Done-clause-done c = λ t.
    let fs = trees_of c.args.site.now.codes.now.items in
    let w = c.args.site.now.widget in
    let old = c.args.store.now in
    let new = c.put_at.new.store in
    let a = seen w old.cells (value.Ref c.args.array) in
    let named : index_name c.args.n ≡ decimal c.in-Ok.index = search rules in (
      refl,
      λ r k. (λ i. put a (named i) (seen w old.cells (sym c.take_value-value.ensures.taken i)) (image fs r w old) k)
          ∙ (c.in_ok-put_at.ensures.plan fs r k ∙ ap (λ q. put_plan q k (image fs r w new)) c.in-Done.is),
    )

pub returns-in-Done-clause-comes : goal.returns-in-Done-clause-comes
returns-in-Done-clause-comes c = λ no. absurd (no refl)

pub returns-in-Throw-clause-done : goal.returns-in-Throw-clause-done
returns-in-Throw-clause-done c = IfOk-weaker c.throw.result _ _ (λ h x t. absurd (x t)) c.throw.ensures.thrown

pub returns-in-Throw-clause-comes : goal.returns-in-Throw-clause-comes
returns-in-Throw-clause-comes c =
    let fs = trees_of c.args.site.now.codes.now.items in
    let w = c.args.site.now.widget in
    let old = c.args.store.now in
    let mid = c.put_at.new.store in
    let a = seen w old.cells (value.Ref c.args.array) in
    let named : index_name c.args.n ≡ decimal c.in-Ok.index = search rules in
    IfOk-weaker c.throw.result _ _
    (λ h x no k. before_then fs w old mid c.throw.new.store 1 1 (λ s. put a (index_name c.args.n) (seen w old.cells c.args.out.now) s k) (throw (meant_fault c.in-Throw.fault)) c.args.run.now c.throw.new.run h _
    (λ r. (λ i. put a (named i) (seen w old.cells (sym c.take_value-value.ensures.taken i)) (image fs r w old) k)
    ∙ (c.in_ok-put_at.ensures.plan fs r k ∙ ap (λ q. put_plan q k (image fs r w mid)) c.in-Throw.is))
    x (omega arith))
    c.throw.ensures.comes

pub returns-in-Stop-clause-done : goal.returns-in-Stop-clause-done
returns-in-Stop-clause-done c = IfOk-weaker c.stop.result _ _ (λ h x t. absurd (left_no_value h x t)) c.stop.ensures.left

pub returns-in-Stop-clause-comes : goal.returns-in-Stop-clause-comes
returns-in-Stop-clause-comes c =
    let fs = trees_of c.args.site.now.codes.now.items in
    let w = c.args.site.now.widget in
    let old = c.args.store.now in
    let new = c.put_at.new.store in
    let a = seen w old.cells (value.Ref c.args.array) in
    let named : index_name c.args.n ≡ decimal c.in-Ok.index = search rules in
    IfOk-weaker c.stop.result _ _
    (λ h x no k. before_it fs w old new 0 1 (λ s. put a (index_name c.args.n) (seen w old.cells c.args.out.now) s k) (λ t. Halt (meant_cause c.in-Stop.cause) t) c.args.run.now c.stop.new.run h _
    (λ r. (λ i. put a (named i) (seen w old.cells (sym c.take_value-value.ensures.taken i)) (image fs r w old) k)
    ∙ (c.in_ok-put_at.ensures.plan fs r k ∙ ap (λ q. put_plan q k (image fs r w new)) c.in-Stop.is))
    (x fs w new c.take_value-value.new.out) (omega arith))
    c.stop.ensures.comes

pub returns-in-Throw-clause-kept : goal.returns-in-Throw-clause-kept
returns-in-Throw-clause-kept c =
    let fs = trees_of c.args.site.now.codes.now.items in
    kept_then fs c.args.site.now.widget c.args.store.now c.put_at.new.store c.throw.new.store (c.put_at.ensures.kept fs) c.throw.ensures.kept
