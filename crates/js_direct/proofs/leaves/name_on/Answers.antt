use Rattle.std.proofs.Common.{sym, ap, arith}
use Rattle.std.specs.Prelude.{option_copied, unwrap_or}
use Rattle.store_cells.specs.declared.value.Value.TheVariants as value
use Rattle.js_tree.specs.Plain as node
use Rattle.widget_meaning.specs.Expressions.{expression}
use Rattle.widget_meaning.specs.Plan.{Ret}
use Rattle.widget_meaning.specs.Values as meaning
use Rattle.js_image.specs.Image.{image}
use Rattle.js_names.specs.Code.{trees_of}
use Rattle.js_flow.specs.Views.{place_of}
use Rattle.js_direct.proofs.Handing.{is_shared}
use Rattle.js_direct.proofs.leaves.name_on.Goals as goal

pub returns : goal.returns
returns c =
    let fs = trees_of c.args.here.now.site.now.codes.now.items in
    let w = c.args.here.now.site.now.widget in
    let s = c.args.store.now in
    let p = place_of w s.cells c.args.here.now.at in
    let v = unwrap_or (option_copied c.variable_at.result) value.Undefined in
    record {
      comes = λ run none. is_shared fs w s 30 (expression (node.Name c.args.name.now) p) run v c.share_to.new.out c.in_ok-share_to.ensures none
          (λ r. sym (ap (λ u. Ret (meaning.Is u) (image fs r w s)) (c.variable_at.ensures.found fs r w c.args.here.now.at.depth c.requires.confined c.requires.place.1))) (c.variable_at.ensures.fine fs w c.requires.confined c.requires.place.1) (omega arith);
    }
