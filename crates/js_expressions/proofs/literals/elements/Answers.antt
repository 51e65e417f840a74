use Rattle.std.proofs.Common.{◌≡◌, ◌+◌, ◌∷◌, drop, sym, ap, subst}
use Rattle.std.proofs.lemmas.Result.{IfOk-weaker}
use Rattle.js_tree.specs.Forest.{Forest, expr_at}
use Rattle.store_cells.specs.declared.value.Value.TheVariants as value
use Rattle.widget_meaning.specs.Expressions as expressions
use Rattle.js_image.specs.Image.{seen}
use Rattle.js_flow.specs.Parts.{elements_of}
use Rattle.js_flow.specs.Views.{place_of}
use Rattle.js_expressions.proofs.literals.elements.Goals as goal

pub returns-in-Some-clause-plan : goal.returns-in-Some-clause-plan
returns-in-Some-clause-plan c =
    let w = c.args.w in
    let cells = c.args.store.now.cells in
    let id = c.args.from.0 in
    let n = c.args.from.1 in
    let there = subst (λ (f : Forest). drop n (elements_of (expr_at f id)) ≡ expr_at f c.in-Some.e ∷ drop (n + 1) (elements_of (expr_at f id))) c.tree_at.ensures c.in-Some.ensures.2 in
    IfOk-weaker c.push.result _ _
    (λ k e. rw e (λ s. sym (ap (λ l. expressions.array_parts (seen w cells (value.Ref c.args.array)) n l (place_of w cells c.args.place) s) there)))
    c.push.ensures
