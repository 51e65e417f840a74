use Rattle.std.proofs.Common.{ap}
use Rattle.widget_meaning.specs.Plan.{Ret}
use Rattle.widget_meaning.specs.Values as meaning
use Rattle.js_image.specs.Image.{image}
use Rattle.js_names.specs.Code.{trees_of}
use Rattle.js_expressions.proofs.evaluating.name_value.Goals as goal

pub returns-clause-plan : goal.returns-clause-plan
returns-clause-plan c =
    let fs = trees_of c.args.codes.now.items in
    rw c.give.ensures (λ r. ap (λ u. Ret (meaning.Is u) (image fs r c.args.w c.args.store.now)) (c.in_ok-variable.ensures.found fs r c.args.w c.args.place.depth c.requires.confined c.requires.place.1))
