use Rattle.std.proofs.Common.{sym, subst, arith}
use Rattle.std.proofs.lemmas.Result.{IfOk-weaker}
use Rattle.js_names.specs.Code.{trees_of}
use Rattle.store_cells.specs.declared.value.Value.{Value}
use Rattle.widget_meaning.specs.Values.{to_text}
use Rattle.widget_meaning.specs.Expressions.{refer}
use Rattle.js_image.specs.Image.{image, seen}
use Rattle.js_image.specs.Held.{IsFine}
use Rattle.js_direct.specs.Comes.{target_as}
use Rattle.js_direct.proofs.FormFrames.{instead}
use Rattle.js_direct.proofs.targets.refer_named.Goals as goal

pub refer_on-requires-clause-held : goal.refer_on-requires-clause-held
refer_on-requires-clause-held c =
    let fs = trees_of c.args.site.now.codes.now.items in
    let w = c.args.site.now.widget in
    let s = c.args.store.now in
    subst (λ (v : Value). IsFine w s.cells v) (sym c.take_value.ensures.taken) c.requires.held

pub returns-clause-comes : goal.returns-clause-comes
returns-clause-comes c =
    let fs = trees_of c.args.site.now.codes.now.items in
    let w = c.args.site.now.widget in
    let s = c.args.store.now in
    let base = seen w s.cells c.args.base.now in
    let name = to_text (seen w s.cells c.args.out.now) in
    IfOk-weaker c.refer_on.result _ _
    (λ how h. instead fs w s c.refer_on.new.store 1 1 (refer (seen w s.cells c.take_value.result) c.in_ok-name.name) (refer base name) c.args.run.now c.refer_on.new.run how (target_as how c.refer_on.new.of c.refer_on.new.out) h
    (λ r. (λ i. refer (seen w s.cells (sym c.take_value.ensures.taken i)) (sym (c.in_ok-name.ensures w s.cells) i) (image fs r w s))) (omega arith))
    c.refer_on.ensures.comes
