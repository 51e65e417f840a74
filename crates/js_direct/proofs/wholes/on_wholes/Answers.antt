use Rattle.std.proofs.Common.{◌≡◌, ◌+ℤ◌, ◌-ℤ◌, ◌*ℤ◌, sym, ap, ◌∙◌, rules}
use mir.Val.{of_z, to_z}
use mir.Syntax.{w64}
use Rattle.std.proofs.lemmas.Option.{IfSome_then}
use Rattle.widget_meaning.specs.Expressions.{result}
use Rattle.widget_meaning.specs.Operators.{number, remainder}
use Rattle.widget_meaning.specs.Plan.{Ret}
use Rattle.widget_meaning.specs.Values as meaning
use Rattle.js_image.specs.Image.{seen}
use Rattle.js_direct.proofs.wholes.on_wholes.Goals as goal

pub returns-in-Add-clause-gives : goal.returns-in-Add-clause-gives
returns-in-Add-clause-gives c =
    rw c.in-Add.is (let x : to_z w64 (of_z w64 c.args.x) ≡ c.args.x = search rules in
    let y : to_z w64 (of_z w64 c.args.y) ≡ c.args.y = search rules in
    IfSome_then c.sum.result c.sum.ensures (λ v h w cells d s. (λ i. result (number (sym x i +ℤ sym y i)) s) ∙ ap (λ o. result o s) h.1 ∙ sym (ap (λ u. Ret (meaning.Is (seen w cells u)) s) h.0)))

pub returns-in-Sub-clause-gives : goal.returns-in-Sub-clause-gives
returns-in-Sub-clause-gives c =
    rw c.in-Sub.is (let x : to_z w64 (of_z w64 c.args.x) ≡ c.args.x = search rules in
    let y : to_z w64 (of_z w64 c.args.y) ≡ c.args.y = search rules in
    IfSome_then c.difference.result c.difference.ensures (λ v h w cells d s. (λ i. result (number (sym x i -ℤ sym y i)) s) ∙ ap (λ o. result o s) h.1 ∙ sym (ap (λ u. Ret (meaning.Is (seen w cells u)) s) h.0)))

pub returns-in-Add-clause-fine : goal.returns-in-Add-clause-fine
returns-in-Add-clause-fine c = IfSome_then c.sum.result c.sum.ensures (λ v h w cells. rw h.0 tt)

pub returns-in-Sub-clause-fine : goal.returns-in-Sub-clause-fine
returns-in-Sub-clause-fine c = IfSome_then c.difference.result c.difference.ensures (λ v h w cells. rw h.0 tt)

pub returns-in-Mul-clause-gives : goal.returns-in-Mul-clause-gives
returns-in-Mul-clause-gives c =
    rw c.in-Mul.is (let x : to_z w64 (of_z w64 c.args.x) ≡ c.args.x = search rules in
    let y : to_z w64 (of_z w64 c.args.y) ≡ c.args.y = search rules in
    IfSome_then c.product.result c.product.ensures (λ v h w cells d s. (λ i. result (number (sym x i *ℤ sym y i)) s) ∙ ap (λ o. result o s) h.1 ∙ sym (ap (λ u. Ret (meaning.Is (seen w cells u)) s) h.0)))

pub returns-in-Rem-clause-gives : goal.returns-in-Rem-clause-gives
returns-in-Rem-clause-gives c =
    rw c.in-Rem.is (let x : to_z w64 (of_z w64 c.args.x) ≡ c.args.x = search rules in
    let y : to_z w64 (of_z w64 c.args.y) ≡ c.args.y = search rules in
    IfSome_then c.remainder.result c.remainder.ensures (λ v h w cells d s. (λ i. result (remainder (sym x i) (sym y i)) s) ∙ ap (λ o. result o s) h.1 ∙ sym (ap (λ u. Ret (meaning.Is (seen w cells u)) s) h.0)))

pub returns-in-Mul-clause-fine : goal.returns-in-Mul-clause-fine
returns-in-Mul-clause-fine c = IfSome_then c.product.result c.product.ensures (λ v h w cells. rw h.0 tt)

pub returns-in-Rem-clause-fine : goal.returns-in-Rem-clause-fine
returns-in-Rem-clause-fine c = IfSome_then c.remainder.result c.remainder.ensures (λ v h w cells. rw h.0 tt)
