-- Trees, node by node.
use Rattle.std.proofs.Common.{◌≡◌, ℕ, ◌+◌, ◌≤◌, List, [], ◌∷◌, ◌++◌, map, refl, sym, ap, ◌∙◌, subst, arith, length, drop, append_assoc, Bool, true, false, cond, ◌&&◌, not, is_some}
use Rattle.std.specs.Prelude.{codes, filter}
use Rattle.first_breach.proofs.Members.{map_append}
use Rattle.markup_rules.specs.declared.items.Seen.{Seen}
use Rattle.markup_rules.proofs.Steps.{piece_done}
use Rattle.std.specs.Global.{Vec}
use Rattle.std.proofs.lemmas.List.{append-nil}
use Rattle.plain_tree.specs.declared.plain.Plain.{Plain}
use Rattle.plain_tree.specs.declared.plain.Attr.{Attr}
use Rattle.plain_tree.specs.declared.plain.Plain.TheVariants as plain
use Rattle.plain_tree.specs.Trees.{TextOf, ElementOf, Trees, End, Node, beside, size}
use Rattle.plain_tree.specs.Plains.{Places, attribute_of, places_of, placed, placed_all, element_node}
use Rattle.plain_tree.proofs.Lists.{placed_element}
use Rattle.markup_rules.specs.declared.part.Part.{Part}
use Rattle.markup_rules.specs.Elements.{element, spots, elements, tops, items, is_blank, Item, AText, AnElement, is_div, is_script, is_script_element, first_named}
use Rattle.markup_rules.specs.Parts.{element_of, IsElement, IsSeen}

-- the attributes of an element are its attributes with their places
pub spots_of : (attrs : List Attr) → spots (map attribute_of attrs) (map places_of attrs) ≡ attrs
spots_of [] = refl
spots_of (a ∷ rest) = ap (λ l. a ∷ l) (spots_of rest)

pub elements_beside : (a b : Trees Places) → elements (beside a b) ≡ elements a ++ elements b
elements_beside End b = refl
elements_beside (Node m (TextOf us) ks ts) b = elements_beside ts b
elements_beside (Node m (ElementOf tag attrs) ks ts) b =
    ap (λ l. element m tag attrs ks ∷ (elements ks ++ l)) (elements_beside ts b) ∙ ap (λ l. element m tag attrs ks ∷ l) (sym (append_assoc (elements ks) (elements ts) (elements b)))

pub tops_beside : (a b : Trees Places) → tops (beside a b) ≡ tops a ++ tops b
tops_beside End b = refl
tops_beside (Node m (TextOf us) ks ts) b = tops_beside ts b
tops_beside (Node m (ElementOf tag attrs) ks ts) b = ap (λ l. element m tag attrs ks ∷ l) (tops_beside ts b)

text_case : (t : Bool) (at : ℕ) (x y z : List Item) → x ≡ y ++ z → cond t x (AText at ∷ x) ≡ cond t y (AText at ∷ y) ++ z
text_case true at x y z e = e
text_case false at x y z e = ap (λ l. AText at ∷ l) e

pub items_beside : (a b : Trees Places) → items (beside a b) ≡ items a ++ items b
items_beside End b = refl
items_beside (Node m (TextOf us) ks ts) b = text_case (is_blank us) m.at (items (beside ts b)) (items ts) (items b) (items_beside ts b)
items_beside (Node m (ElementOf tag attrs) ks ts) b = ap (λ l. AnElement (element m tag attrs ks) ∷ l) (items_beside ts b)

pub size_beside : (a b : Trees Places) → size (beside a b) ≡ size a + size b
size_beside End b = omega arith
size_beside (Node m l ks ts) b = omega (arith, size_beside ts b)

-- a node that is an element
pub element_here : (p : Part) → element (record { at = p.at; attrs = map places_of p.attrs.now }) p.tag.now (map attribute_of p.attrs.now) (placed_all p.children.now) ≡ element_of p
element_here p = ap (λ l. record { at = p.at; tag = p.tag.now; attrs = l; kids = placed_all p.children.now }) (spots_of p.attrs.now)

pub elements_here : (p : Part) (t : Trees Places) → IsElement p t → elements t ≡ element_of p ∷ elements (placed_all p.children.now)
elements_here p t e = ap elements e ∙ ap (λ x. x ∷ (elements (placed_all p.children.now) ++ [])) (element_here p) ∙ ap (λ l. element_of p ∷ l) (append-nil (elements (placed_all p.children.now)))

pub tops_here : (p : Part) (t : Trees Places) → IsElement p t → tops t ≡ element_of p ∷ []
tops_here p t e = ap tops e ∙ ap (λ x. x ∷ []) (element_here p)

pub items_first : (p : Plain) (ps : List Plain) → items (placed_all (p ∷ ps)) ≡ items (placed p) ++ items (placed_all ps)
items_first p ps = items_beside (placed p) (placed_all ps)

-- ## Nodes as the code meets them

-- an element with its attributes and their places
pub element_same : (tag : List ℕ) (attrs : List Attr) (kids : Trees Places) (at : ℕ) → element (record { at = at; attrs = map places_of attrs }) tag (map attribute_of attrs) kids ≡ record { at = at; tag = tag; attrs = attrs; kids = kids }
element_same tag attrs kids at = ap (λ l. record { at = at; tag = tag; attrs = l; kids = kids }) (spots_of attrs)

-- what is seen of an element
pub seen_element : (s : Seen) (tag : List ℕ) (attrs : List Attr) (kids : Trees Places) (at : ℕ) → s.at ≡ at → s.is_div ≡ is_div tag → s.is_script ≡ is_script tag → s.is_own_script ≡ (is_script tag && not (is_some (first_named (codes "src") attrs))) → IsSeen s (items (element_node tag attrs kids at))
seen_element s tag attrs kids at ea ed es eo = record {
  item = AnElement (record { at = at; tag = tag; attrs = attrs; kids = kids });
  same = ap (λ x. AnElement x ∷ []) (element_same tag attrs kids at);
  at = ea;
  is_div = ed;
  is_script = es;
  is_own_script = eo;
}

pub seen_plain : (s : Seen) (p : Plain) (tag : List ℕ) (attrs : Vec Attr) (children : Vec Plain) (at : ℕ) → p ≡ plain.Element tag attrs children at → ((kids : Trees Places) → IsSeen s (items (element_node tag attrs.items kids at))) → IsSeen s (items (placed p))
seen_plain s p tag attrs children at e h = subst (λ t. IsSeen s (items t)) (sym (ap placed e ∙ placed_element tag attrs children at)) (h (placed_all children.items))

-- an element is listed before those below it
pub element_done : (p : Plain) (tag : List ℕ) (attrs : Vec Attr) (children : Vec Plain) (at : ℕ) (part : Part) (old f1 f2 : List Part) (list : List Plain) (i : ℕ) → p ≡ plain.Element tag attrs children at → part.at ≡ at → part.tag.now ≡ tag → part.attrs.now ≡ attrs.items → part.children.now ≡ children.items → list ≡ children.items → f1 ≡ old ++ part ∷ [] → length list ≤ i → map element_of f2 ++ elements (placed_all (drop i list)) ≡ map element_of f1 ++ elements (placed_all list) → map element_of f2 ≡ map element_of old ++ elements (placed p)
element_done p tag attrs children at part old f1 f2 list i ep ea et eas ec el e1 le inv =
    let all : map element_of f2 ≡ map element_of f1 ++ elements (placed_all list) = piece_done (λ l. elements (placed_all l)) list i (map element_of f2) (map element_of f1 ++ elements (placed_all list)) refl le inv in
    let here : IsElement part (placed p) = ap placed ep ∙ placed_element tag attrs children at ∙ sym (λ j. element_node (et j) (eas j) (placed_all (ec j)) (ea j)) in
    all
    ∙ ap (λ l. l ++ elements (placed_all list)) (ap (map element_of) e1 ∙ map_append element_of old (part ∷ []))
    ∙ append_assoc (map element_of old) (element_of part ∷ []) (elements (placed_all list))
    ∙ ap (λ l. map element_of old ++ (element_of part ∷ elements (placed_all l))) (el ∙ sym ec)
    ∙ ap (λ l. map element_of old ++ l) (sym (elements_here part (placed p) here))

-- a script is listed
pub script_listed : (p : Part) (t : Trees Places) (old new : List Part) → IsElement p t → is_script p.tag.now ≡ true → new ≡ old ++ p ∷ [] → map element_of new ≡ map element_of old ++ filter is_script_element (tops t)
script_listed p t old new h is e =
    ap (map element_of) e ∙ map_append element_of old (p ∷ [])
    ∙ ap (λ l. map element_of old ++ l) (sym (ap (filter is_script_element) (tops_here p t h) ∙ ap (λ b. cond b (element_of p ∷ []) []) is))
