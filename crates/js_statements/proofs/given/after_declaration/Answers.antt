use Rattle.std.proofs.Common.{◌≡◌, ◌∷◌, ◌+◌, drop, subst, sym, ap, ◌∙◌}
use Rattle.std.proofs.lemmas.Result.{IfOk-weaker}
use Rattle.js_tree.specs.Forest.{Forest, optional_at, stmt_at}
use Rattle.widget_meaning.specs.Statements.{declarations}
use Rattle.js_image.specs.Image.{image, seen}
use Rattle.js_image.proofs.Grown.{place_stays, scope_stays}
use Rattle.js_names.specs.Code.{trees_of}
use Rattle.js_flow.specs.Parts.{decls_of, forest_at}
use Rattle.js_flow.specs.Statements.{declared}
use Rattle.js_flow.specs.Views.{place_of}
use Rattle.js_statements.proofs.given.after_declaration.Goals as goal

pub returns-in-Some-clause-plan : goal.returns-in-Some-clause-plan
returns-in-Some-clause-plan c =
    let fs = trees_of c.args.codes.now.items in
    let w = c.args.w in
    let old = c.args.store.now in
    let new = c.assign.new.store in
    let id = c.args.at.0 in
    let n = c.args.at.1 in
    let ds = decls_of (stmt_at (forest_at fs c.args.at.2.code) id) in
    let d = c.in-Some.decl.now in
    let e = subst (λ (f : Forest). drop n (decls_of (stmt_at f id)) ≡ (d.name, optional_at f d.init) ∷ drop (n + 1) (decls_of (stmt_at f id))) c.tree_at.ensures c.in-Some.ensures.2 in
    let grows = (c.assign.ensures.kept fs c.requires.confined).grows in
    IfOk-weaker c.declarations.result _ _
    (λ k h r. h w new.cells (image fs r w new)
    ∙ ((λ i. declarations (drop (n + 1) ds) (record { scope = scope_stays w old.cells new.cells grows c.args.at.2.scope c.requires.place.0.1 i; depth = c.args.at.2.depth }) (c.assign.ensures.plan fs r c.args.at.2.depth c.requires.confined i))
    ∙ sym (ap (λ l. declared l (place_of w old.cells c.args.at.2) (seen w old.cells c.args.value) (image fs r w old)) e)))
    c.declarations.ensures.plan

pub returns-in-Some-clause-fine : goal.returns-in-Some-clause-fine
returns-in-Some-clause-fine c =
    let grows = (c.assign.ensures.kept (trees_of c.args.codes.now.items) c.requires.confined).grows in
    IfOk-weaker c.declarations.result _ _ (λ k h. h c.args.w c.assign.new.store.cells (place_stays c.args.w c.args.store.now.cells c.assign.new.store.cells grows c.args.at.2.scope c.requires.place.0.1)) c.declarations.ensures.fine
