use Rattle.std.proofs.Common.{subst, ◌∙◌, arith}
use Rattle.std.specs.Fmt.{decimal}
use Rattle.js_names.specs.Code.{trees_of}
use Rattle.store_cells.specs.declared.value.Value.{Value}
use Rattle.widget_meaning.specs.Values.{to_text}
use Rattle.widget_meaning.specs.Expressions.{refer}
use Rattle.js_image.specs.Image.{image, seen}
use Rattle.js_image.specs.Held.{IsFine}
use Rattle.js_flow.specs.declared.job.Reference.TheVariants as reference
use Rattle.js_direct.proofs.FormFrames.{gives_at}
use Rattle.js_expressions.proofs.Values.{refer_cell}
use Rattle.js_direct.proofs.targets.refer_by.Goals as goal

pub returns-in-Some-clause-comes : goal.returns-in-Some-clause-comes
returns-in-Some-clause-comes c =
    let fs = trees_of c.args.site.now.codes.now.items in
    let w = c.args.site.now.widget in
    let s = c.args.store.now in
    let b = c.args.base.now in
    let o = c.args.out.now in
    let at = c.in-Some.at in
    let is = c.in-Some.ensures in
    gives_at fs w s 1 (refer (seen w s.cells b) (to_text (seen w s.cells o))) c.args.run.now (reference.Element at.cell at.index) c.set_reference.new.of o c.set_reference.ensures c.requires.ready.2
    (λ r. (λ i. refer (seen w s.cells (is.0 i)) (to_text (seen w s.cells (is.1 i))) (image fs r w s)) ∙ refer_cell w s.cells at.cell (decimal at.index) (image fs r w s))
    (subst (λ (v : Value). IsFine w s.cells v) is.0 c.requires.held, is.2) (omega arith)
