use Rattle.std.proofs.Common.{sym, ap, subst, ◌∙◌, [], pos, ◌+ℤ◌, ◌-ℤ◌, rules}
use Rattle.std.specs.Int.{w64}
use Rattle.std.proofs.lemmas.Int.{to_z-of_z}
use mir.Val.{SFits}
use Rattle.std.proofs.lemmas.Result.{IfOk-weaker}
use Rattle.js_tree.specs.declared.nodes.BinOp.TheVariants as bin
use Rattle.store_cells.specs.declared.value.Value.{Value}
use Rattle.widget_meaning.specs.Operators as operators
use Rattle.widget_meaning.specs.Expressions as expressions
use Rattle.js_image.specs.Held.{IsFine}
use Rattle.js_image.specs.Image.{seen}
use Rattle.js_expressions.proofs.assigning.stepped.Goals as goal

pub returns-in-PreInc-clause-value : goal.returns-in-PreInc-clause-value
returns-in-PreInc-clause-value c =
    let one = c.whole-one in
    let number = c.whole-number in
    let fits : SFits w64 c.args.z = search rules in
    IfOk-weaker c.binary.result _ _
    (λ o h. h 0 [] (subst (λ (v : Value). IsFine 0 [] v) (sym number.ensures) tt) (subst (λ (v : Value). IsFine 0 [] v) (sym one.ensures) tt)
    ∙ (λ i. operators.binary bin.Add (seen 0 [] (number.ensures i)) (seen 0 [] (one.ensures i)))
    ∙ ap (λ z. operators.number (z +ℤ pos 1)) (to_z-of_z w64 c.args.z fits)
    ∙ sym (ap (λ q. expressions.stepped q c.args.z) c.in-PreInc.is))
    c.binary.ensures.value

pub returns-in-PostInc-clause-value : goal.returns-in-PostInc-clause-value
returns-in-PostInc-clause-value c =
    let one = c.whole-one in
    let number = c.whole-number in
    let fits : SFits w64 c.args.z = search rules in
    IfOk-weaker c.binary-in-PostInc.result _ _
    (λ o h. h 0 [] (subst (λ (v : Value). IsFine 0 [] v) (sym number.ensures) tt) (subst (λ (v : Value). IsFine 0 [] v) (sym one.ensures) tt)
    ∙ (λ i. operators.binary bin.Add (seen 0 [] (number.ensures i)) (seen 0 [] (one.ensures i)))
    ∙ ap (λ z. operators.number (z +ℤ pos 1)) (to_z-of_z w64 c.args.z fits)
    ∙ sym (ap (λ q. expressions.stepped q c.args.z) c.in-PostInc.is))
    c.binary-in-PostInc.ensures.value

pub returns-in-PreDec-clause-value : goal.returns-in-PreDec-clause-value
returns-in-PreDec-clause-value c =
    let one = c.whole-one in
    let number = c.whole-number in
    let fits : SFits w64 c.args.z = search rules in
    IfOk-weaker c.binary-in-PreDec.result _ _
    (λ o h. h 0 [] (subst (λ (v : Value). IsFine 0 [] v) (sym number.ensures) tt) (subst (λ (v : Value). IsFine 0 [] v) (sym one.ensures) tt)
    ∙ (λ i. operators.binary bin.Sub (seen 0 [] (number.ensures i)) (seen 0 [] (one.ensures i)))
    ∙ ap (λ z. operators.number (z -ℤ pos 1)) (to_z-of_z w64 c.args.z fits)
    ∙ sym (ap (λ q. expressions.stepped q c.args.z) c.in-PreDec.is))
    c.binary-in-PreDec.ensures.value

pub returns-clause-value : goal.returns-clause-value
returns-clause-value c =
    let one = c.whole-one in
    let number = c.whole-number in
    let fits : SFits w64 c.args.z = search rules in
    IfOk-weaker c.binary-in-PostDec.result _ _
    (λ o h. h 0 [] (subst (λ (v : Value). IsFine 0 [] v) (sym number.ensures) tt) (subst (λ (v : Value). IsFine 0 [] v) (sym one.ensures) tt)
    ∙ (λ i. operators.binary bin.Sub (seen 0 [] (number.ensures i)) (seen 0 [] (one.ensures i)))
    ∙ ap (λ z. operators.number (z -ℤ pos 1)) (to_z-of_z w64 c.args.z fits)
    ∙ sym (ap (λ q. expressions.stepped q c.args.z) c.in-PostDec.is))
    c.binary-in-PostDec.ensures.value
