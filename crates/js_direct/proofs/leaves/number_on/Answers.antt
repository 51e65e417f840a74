use Rattle.std.proofs.Common.{sym, ap, arith}
use Rattle.js_tree.specs.Plain as node
use Rattle.widget_meaning.specs.Expressions.{expression}
use Rattle.widget_meaning.specs.Plan.{Ret}
use Rattle.widget_meaning.specs.Values as meaning
use Rattle.js_image.specs.Image.{image}
use Rattle.js_names.specs.Code.{trees_of}
use Rattle.js_flow.specs.Views.{place_of}
use Rattle.js_direct.proofs.Handing.{is_shared}
use Rattle.js_direct.proofs.leaves.number_on.Goals as goal

pub returns : goal.returns
returns c =
    let fs = trees_of c.args.here.now.site.now.codes.now.items in
    let w = c.args.here.now.site.now.widget in
    let s = c.args.store.now in
    let p = place_of w s.cells c.args.here.now.at in
    record {
      comes = λ run none. is_shared fs w s 30 (expression (node.Num c.args.numeral.now) p) run c.number.result c.set_value.new.out c.set_value.ensures none
          (λ r. sym (ap (λ u. Ret (meaning.Is u) (image fs r w s)) (c.number.ensures.value w s.cells))) (c.number.ensures.fine w s.cells) (omega arith);
    }
