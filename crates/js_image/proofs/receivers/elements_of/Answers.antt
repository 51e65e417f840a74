use Rattle.std.proofs.Common.{◌≡◌, ◌+◌, ◌++◌, [], ◌∷◌, ◌∙◌, arith, sym}
use Rattle.std.proofs.lemmas.List.FromFn.{map-range_with_len_more}
use Rattle.js_image.specs.Elements.{stored_element}
use Rattle.js_image.proofs.receivers.elements_of.Goals as goal

pub loop-at-preserved : goal.loop-at-preserved
loop-at-preserved c =
    let same : 0 + c.loop-at.at ≡ c.loop-at.at = omega arith in
    c.in_ok-push.ensures.items
    ∙ (λ j. c.loop-at.invariant j ++ c.in_ok-element_of.ensures j ∷ [])
    ∙ sym (map-range_with_len_more (stored_element c.args.store.now.cells c.args.base.now) 0 c.loop-at.at c.loop-at.at same)
