use Rattle.std.proofs.Common.{[], ◌∷◌, ◌++◌, refl, ap, ◌∙◌, map}
use Rattle.plain_tree.specs.declared.plain.Attr.{Attr}
use Rattle.plain_tree.specs.Trees.{ElementOf, End, Node}
use Rattle.plain_tree.specs.Plains.{attribute_of, unplaced_all}
use Rattle.page_nodes.proofs.Plains.{unplaced_element}
use Rattle.page_build.proofs.slots.empty_div.Goals as goal

pub returns : goal.returns
returns c =
    let id : Attr = record { name = c.in_ok-id.id; value = c.in_ok-value.value; at = 0; value_at = 0 } in
    let attrs = ap (map attribute_of) (c.in_ok-push.ensures.items ∙ ap (λ l. l ++ id ∷ []) c.new-attrs.ensures.items) ∙ (λ j. (c.in_ok-id.ensures j, c.in_ok-value.ensures j) ∷ []) in
    unplaced_element _ c.in_ok-tag.tag c.push.new.self c.new.result 0 refl ∙ (λ j. Node tt (ElementOf (c.in_ok-tag.ensures j) (attrs j)) (unplaced_all (c.new.ensures.items j)) End)
