use Rattle.std.proofs.Common.{◌≡◌, ◌∷◌, ◌+◌, [], drop, sym, ap, ◌∙◌, subst}
use Rattle.js_tree.specs.Forest.{Forest, optional_at, stmt_at}
use Rattle.widget_meaning.specs.Statements as statements
use Rattle.js_image.specs.Image.{image, seen}
use Rattle.js_image.proofs.Grown.{scope_stays}
use Rattle.js_names.specs.Code.{trees_of}
use Rattle.js_flow.specs.Parts.{decls_of, forest_at}
use Rattle.js_flow.specs.Statements.{declared}
use Rattle.js_flow.specs.Views.{place_of}
use Rattle.js_direct.proofs.Loops.{drop_more}
use Rattle.js_direct.proofs.statements.declare.Goals as goal

pub returns-in_default-clause-plan : goal.returns-in_default-clause-plan
returns-in_default-clause-plan c =
    let fs = trees_of c.args.here.now.site.now.codes.now.items in
    let w = c.args.here.now.site.now.widget in
    let ds = decls_of (stmt_at (forest_at fs c.args.here.now.at.code) c.args.id) in
    let none : drop c.args.at ds ≡ [] = subst (λ (g : Forest). drop c.args.at (decls_of (stmt_at g c.args.id)) ≡ []) c.requires.tree c.in_default.ensures in
    λ r. ap (λ l. declared l (place_of w c.args.store.now.cells c.args.here.now.at) (seen w c.args.store.now.cells c.args.value) (image fs r w c.args.store.now)) none
    ∙ sym (ap (λ l. statements.declarations l (place_of w c.args.store.now.cells c.args.here.now.at) (image fs r w c.args.store.now)) (drop_more ds c.args.at none))

pub returns-in-Some-clause-plan : goal.returns-in-Some-clause-plan
returns-in-Some-clause-plan c =
    let fs = trees_of c.args.here.now.site.now.codes.now.items in
    let w = c.args.here.now.site.now.widget in
    let old = c.args.store.now in
    let new = c.assign.new.store in
    let ds = decls_of (stmt_at (forest_at fs c.args.here.now.at.code) c.args.id) in
    let d = c.in-Some.decl.now in
    let e = subst (λ (g : Forest). drop c.args.at (decls_of (stmt_at g c.args.id)) ≡ (d.name, optional_at g d.init) ∷ drop (c.args.at + 1) (decls_of (stmt_at g c.args.id))) c.requires.tree c.in-Some.ensures.2 in
    let grows = (c.assign.ensures.kept fs c.requires.confined).grows in
    λ r. ap (λ l. declared l (place_of w old.cells c.args.here.now.at) (seen w old.cells c.args.value) (image fs r w old)) e
    ∙ sym (λ k. statements.declarations (drop (c.args.at + 1) ds) (record { scope = scope_stays w old.cells new.cells grows c.args.here.now.at.scope c.requires.held.0.0.1 k; depth = c.args.here.now.at.depth }) (c.assign.ensures.plan fs r c.args.here.now.at.depth c.requires.confined k))
