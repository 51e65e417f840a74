use Rattle.std.proofs.Common.{◌≡◌, sym, ◌∙◌, rules}
use mir.Val.{of_z, to_z}
use mir.Syntax.{w64}
use Rattle.widget_meaning.specs.Values as meaning
use Rattle.std.proofs.lemmas.Option.{IfSome_then}
use Rattle.widget_meaning.specs.Expressions.{operate}
use Rattle.js_image.specs.Image.{seen}
use Rattle.js_direct.proofs.wholes.of_wholes.Goals as goal

pub returns-clause-gives : goal.returns-clause-gives
returns-clause-gives c =
    let x : to_z w64 (of_z w64 c.in_ok-x.x) ≡ c.in_ok-x.x = search rules in
    let y : to_z w64 (of_z w64 c.in_ok-y.y) ≡ c.in_ok-y.y = search rules in
    IfSome_then c.on_wholes.result c.on_wholes.ensures.gives
    (λ v h w cells d s. (λ i. operate c.args.op (seen w cells (c.in_ok-x.ensures i)) (seen w cells (c.in_ok-y.ensures i)) d s) ∙ (λ i. operate c.args.op (meaning.Num (sym x i)) (meaning.Num (sym y i)) d s) ∙ h w cells d s)
