use Rattle.std.proofs.Common.{map, sym, subst, ap, ◌∙◌}
use Rattle.widget_meaning.specs.NativeForms.{make_bunch}
use Rattle.js_image.specs.Plans.{IsFineMade, made_plan}
use Rattle.page_image.specs.Image.{number}
use Rattle.native_image.specs.Image.{beside, image}
use Rattle.native_image.proofs.Bundles.{single}
use Rattle.native_image.proofs.Nodes.{one_apart, one_owned}
use Rattle.native_image.proofs.bunches.bunch_of_node.Goals as goal

pub make_bunch-requires-clause-own : goal.make_bunch-requires-clause-own
make_bunch-requires-clause-own c = one_owned c.args.page.now c.args.w.index c.args.node c.in_ok-nodes.nodes.items c.in_ok-nodes.ensures c.requires.own

pub make_bunch-requires-clause-apart : goal.make_bunch-requires-clause-apart
make_bunch-requires-clause-apart c = one_apart c.args.node c.in_ok-nodes.nodes.items c.in_ok-nodes.ensures

pub returns-in-Cell-clause-made : goal.returns-in-Cell-clause-made
returns-in-Cell-clause-made c = λ l holds.
    let w = c.args.w.index in
    let p = c.args.page.now in
    let old = c.args.store.now in
    let new = c.make_bunch.new.store in
    single w old new p l (number p w c.args.node) _
    (λ fs x b k.
    ap (λ ns. make_bunch (map (number p w) ns) (image fs x w (beside old p l b)) k) (sym c.in_ok-nodes.ensures)
    ∙ c.in_ok-id.ensures.plan fs x l b k holds
    ∙ ap (λ m. made_plan w new.cells m k (image fs x w (beside new p l b))) c.in-Cell.is)
    (subst (IsFineMade w new.cells) c.in-Cell.is c.in_ok-id.ensures.fine)
