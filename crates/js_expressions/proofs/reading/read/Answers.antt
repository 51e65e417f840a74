use Rattle.std.proofs.Common.{sym, ap, ◌∙◌, refl, arith}
use Rattle.widget_meaning.specs.Plan.{Ret}
use Rattle.widget_meaning.specs.Values as meaning
use Rattle.js_image.specs.Image.{image}
use Rattle.js_image.proofs.Grown.{kept_same}
use Rattle.js_names.specs.Code.{trees_of}
use Rattle.js_expressions.proofs.Values.{read_other}
use Rattle.js_expressions.proofs.reading.read.Goals as goal

pub returns-in_ok-get-in_default : goal.returns-in_ok-get-in_default
returns-in_ok-get-in_default c =
    let fs = trees_of c.args.codes.now.items in
    let w = c.args.w in
    let s = c.args.store.now in
    record {
      plan = rw c.give.ensures (λ r. ap (λ u. Ret (meaning.Is u) (image fs r w s)) (c.in_ok-get-in_default.ensures.found fs r w c.requires.confined c.requires.held)
          ∙ sym (read_other w s.cells c.args.base.now c.args.name.now (image fs r w s) c.in_default.not-Undefined c.in_default.not-Null));
      fine = rw c.give.ensures (tt, c.in_ok-get-in_default.ensures.fine fs w c.requires.confined c.requires.held);
      near = rw c.give.ensures (omega arith);
      kept = kept_same fs w s s refl;
      below = ap (λ l. l.below) c.give.ensures;
    }
