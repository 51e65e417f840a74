use Rattle.std.proofs.Common.{◌≡◌, ◌-ℤ◌, ℤ, pos, FitsSigned, rules, sym, ap, subst, ◌∙◌}
use mir.Val.{of_z, to_z}
use mir.Syntax.{w64}
use Rattle.std.specs.Prelude.{◌+ℤ◌, IfSome}
use Rattle.std.specs.Option.{SomeIff}
use Rattle.js_tree.specs.declared.nodes.AssignOp.{AssignOp}
use Rattle.widget_meaning.specs.Values.{Num}
use Rattle.widget_meaning.specs.Operators.{number}
use Rattle.widget_meaning.specs.Expressions.{compound, result}
use Rattle.js_direct.specs.Adds.{Adds}
use Rattle.js_direct.proofs.Adding.{taken_off}
use Rattle.js_direct.proofs.summing.signed.Goals as goal

pub returns-in-Add : goal.returns-in-Add
returns-in-Add c =
    let y_same : to_z w64 (of_z w64 c.args.y) ≡ c.args.y = search rules in
    λ z d s. ap (λ (op : AssignOp). compound op (Num z) (Num c.args.y) d s) c.in-Add.is ∙ ap (λ (k : ℤ). result (number (z +ℤ k)) s) (sym y_same)

pub returns-in-Sub : goal.returns-in-Sub
returns-in-Sub c =
    let y_same : to_z w64 (of_z w64 c.args.y) ≡ c.args.y = search rules in
    let rest = subst (λ (k : ℤ). SomeIff c.checked_sub.result (FitsSigned w64 (pos 0 -ℤ k)) (pos 0 -ℤ k)) y_same c.checked_sub.ensures in
    subst (λ (op : AssignOp). IfSome c.checked_sub.result (λ by. Adds op c.args.y by)) (sym c.in-Sub.is) (taken_off c.checked_sub.result c.args.y rest)
