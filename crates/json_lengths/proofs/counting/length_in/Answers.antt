use Rattle.std.proofs.Common.{Some, sym, ap, ◌∙◌, subst}
use Rattle.json.specs.Find.{BeginsWith}
use Rattle.json_lengths.proofs.counting.length_in.Goals as goal

pub returns : goal.returns
returns c j begins =
    let root = subst (λ ts. BeginsWith ts j) (sym c.root.ensures.same) begins in
    let under = c.in_ok-list.ensures j root in
    let list = c.in_ok-items.ensures under.0 under.2 in
    (list.0, under.1 ∙ ap Some list.1, c.in_ok-length.ensures list.0 list.2)
