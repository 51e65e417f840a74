use Rattle.std.specs.Prelude.{IfOk}
use Rattle.std.proofs.Common.{ap, arith, refl, subst, sym, true}
use Rattle.widget_meaning.specs.Expressions.{delete_at}
use Rattle.store_cells.specs.declared.value.Value.TheVariants as value
use Rattle.js_image.specs.Image.{image}
use Rattle.js_names.specs.Code.{trees_of}
use Rattle.js_flow.specs.declared.job.Completion.TheVariants as completion
use Rattle.js_flow.specs.Views.{reference_of}
use Rattle.js_direct.specs.declared.run.Ended.TheVariants as ended
use Rattle.js_direct.specs.Comes.{Comes}
use Rattle.js_direct.proofs.Parts.{gives}
use Rattle.js_direct.proofs.targets.remove_on.Goals as goal

pub returns-in-Variable-clause-comes : goal.returns-in-Variable-clause-comes
returns-in-Variable-clause-comes c =
    let fs = trees_of c.args.site.now.codes.now.items in
    let w = c.args.site.now.widget in
    let old = c.args.store.now in
    gives fs w old old 1 (delete_at (reference_of w old.cells c.args.of.now)) c.args.run.now c.args.run.now ended.Is (completion.Is (value.Bool true)) tt refl c.requires.ready.2
    (λ r. ap (λ q. delete_at (reference_of w old.cells q) (image fs r w old)) c.in-Variable.is) tt (omega arith)

pub returns-in-Found-clause-comes : goal.returns-in-Found-clause-comes
returns-in-Found-clause-comes c =
    let fs = trees_of c.args.site.now.codes.now.items in
    let w = c.args.site.now.widget in
    let old = c.args.store.now in
    gives fs w old old 1 (delete_at (reference_of w old.cells c.args.of.now)) c.args.run.now c.args.run.now ended.Is (completion.Is (value.Bool true)) tt refl c.requires.ready.2
    (λ r. ap (λ q. delete_at (reference_of w old.cells q) (image fs r w old)) c.in-Found.is) tt (omega arith)

pub returns-in-Property-clause-comes : goal.returns-in-Property-clause-comes
returns-in-Property-clause-comes c =
    let fs = trees_of c.args.site.now.codes.now.items in
    let w = c.args.site.now.widget in
    let old = c.args.store.now in
    subst (λ q. IfOk c.remove_named.result (λ h. Comes fs w old c.remove_named.new.store 1 (delete_at (reference_of w old.cells q)) c.args.run.now c.remove_named.new.run h c.remove_named.new.out))
    (sym c.in-Property.is) c.remove_named.ensures.comes
