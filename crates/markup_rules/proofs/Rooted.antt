-- The root among trees, tree by tree.
use Rattle.std.proofs.Common.{◌≡◌, ℕ, ◌+◌, ◌<◌, Bool, true, false, List, [], ◌∷◌, ◌++◌, sym, ap, ◌∙◌, subst, Option, cond, length, get_or, drop, map}
use Rattle.std.proofs.lemmas.List.{at_drop_more}
use Rattle.plain_tree.specs.declared.plain.Plain.{Plain}
use Rattle.plain_tree.specs.Trees.{Trees, beside}
use Rattle.plain_tree.specs.Plains.{Places, placed, placed_all, attribute_of, places_of}
use Rattle.markup_rules.specs.declared.part.Part.{Part}
use Rattle.markup_rules.specs.declared.items.Seen.{Seen}
use Rattle.markup_rules.specs.Elements.{Element, element, elements, others, roots, is_div, Item, items}
use Rattle.markup_rules.specs.Parts.{element_of, IsElement, IsSeen}
use Rattle.markup_rules.specs.Rows.{first_place, misrooted}
use Rattle.markup_rules.proofs.Nodes.{items_first, element_here}

-- the elements other than the root, of trees before it and behind it
abbrev pub others_from : Bool → Trees Places → List Element
others_from true ts = elements ts
others_from false ts = others ts

roots_here : (p : Part) (t ts : Trees Places) (b : Bool) → IsElement p t → is_div p.tag.now ≡ b → roots (beside t ts) ≡ cond b (element_of p ∷ []) (roots ts)
roots_here p t ts b e holds = subst (λ x. roots (beside x ts) ≡ cond b (element_of p ∷ []) (roots ts)) (sym e)
    (ap (λ c. cond c (element (record { at = p.at; attrs = map places_of p.attrs.now }) p.tag.now (map attribute_of p.attrs.now) (placed_all p.children.now) ∷ []) (roots ts)) holds
    ∙ ap (λ y. cond b (y ∷ []) (roots ts)) (element_here p))

pub roots_pass : (p : Part) (b : Bool) (xs : List Plain) (i : ℕ) (x : Plain) → i < length xs → x ≡ get_or xs i x → IsElement p (placed x) → is_div p.tag.now ≡ b → roots (placed_all (drop i xs)) ≡ cond b (element_of p ∷ []) (roots (placed_all (drop (i + 1) xs)))
roots_pass p b xs i x lt ex e holds =
    let rest = placed_all (drop (i + 1) xs) in
    ap roots (at_drop_more placed_all xs i x lt ∙ ap (λ y. beside (placed y) rest) (sym ex)) ∙ roots_here p (placed x) rest b e holds

-- ## Items

-- where the items are not one `div`, before it and behind it
abbrev pub misrooted_from : Bool → List Item → Option ℕ
misrooted_from true is = first_place is
misrooted_from false is = misrooted is

items_at : (xs : List Plain) (i : ℕ) (x : Plain) → i < length xs → x ≡ get_or xs i x → items (placed_all (drop i xs)) ≡ items (placed x) ++ items (placed_all (drop (i + 1) xs))
items_at xs i x lt ex = ap items (at_drop_more placed_all xs i x lt ∙ ap (λ y. beside (placed y) (placed_all (drop (i + 1) xs))) (sym ex)) ∙ items_first x (drop (i + 1) xs)

-- a blank text is passed over
pub items_pass : (xs : List Plain) (i : ℕ) (x : Plain) → i < length xs → x ≡ get_or xs i x → items (placed x) ≡ [] → items (placed_all (drop i xs)) ≡ items (placed_all (drop (i + 1) xs))
items_pass xs i x lt ex none = items_at xs i x lt ex ∙ ap (λ l. l ++ items (placed_all (drop (i + 1) xs))) none

-- any other node is an item
pub items_take : (xs : List Plain) (i : ℕ) (x : Plain) (s : Seen) (h : IsSeen s (items (placed x))) → i < length xs → x ≡ get_or xs i x → items (placed_all (drop i xs)) ≡ h.item ∷ items (placed_all (drop (i + 1) xs))
items_take xs i x s h lt ex = items_at xs i x lt ex ∙ ap (λ l. l ++ items (placed_all (drop (i + 1) xs))) h.same
