use Rattle.std.proofs.Common.{◌∙◌, ◌++◌, ◌∷◌, [], ap, arith}
use Rattle.page_nodes.proofs.Values.{value_here, value_added}
use Rattle.page_nodes.proofs.content.put_value.Goals as goal

pub returns-then-place-len : goal.returns-then-place-len
returns-then-place-len c = value_here c.args.name.now c.args.value _ _ _ _ c.deref.ensures.value (omega (arith, c.if-place-len.true, c.args.attributes.now.ok.0)) c.index_mut.ensures.value c.place_of-place.ensures.first c.place_of-place.ensures.found

pub returns : goal.returns
returns c = c.in_ok-push.ensures.items ∙ ap (λ y. c.args.attributes.now.items ++ (y, c.args.value) ∷ []) c.in_ok-share.ensures ∙ value_added c.args.name.now c.args.value _ _ _ c.deref.ensures.value (omega (arith, c.if-place-len.false, c.args.attributes.now.ok.0)) c.place_of-place.ensures.first
