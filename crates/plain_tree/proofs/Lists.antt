-- Lists of trees, and plain trees node by node.
use Rattle.std.proofs.Common.{◌≡◌, ℕ, List, [], ◌∷◌, ◌++◌, refl, sym, ap, ◌∙◌}
use Rattle.plain_tree.specs.declared.plain.Plain.{Plain}
use Rattle.plain_tree.specs.declared.plain.Attr.{Attr}
use Rattle.std.specs.Global.{Vec}
use Rattle.plain_tree.specs.declared.plain.Plain.TheOpen as open_plain
use Rattle.plain_tree.specs.declared.plain.Plain.TheVariants as plain
use Rattle.plain_tree.specs.declared.plain.Plain.TheVariants.{rolls-Text, rolls-Element}
use Rattle.plain_tree.specs.declared.plain.Plain.TheFolds.{fold-roll-Plain}
use Rattle.plain_tree.specs.Trees.{Trees, End, Node, beside}
use Rattle.plain_tree.specs.Plains.{Places, placed, placed_step, placed_all, text_node, element_node}

pub beside_assoc : {M : Type 0} (a b c : Trees M) → beside (beside a b) c ≡ beside a (beside b c)
beside_assoc End b c = refl
beside_assoc (Node m l ks ts) b c = ap (Node m l ks) (beside_assoc ts b c)

pub beside_end : {M : Type 0} (a : Trees M) → beside a End ≡ a
beside_end End = refl
beside_end (Node m l ks ts) = ap (Node m l ks) (beside_end ts)

-- a plain tree by its layer
pub placed_text : (text : List ℕ) (at : ℕ) → placed (plain.Text text at) ≡ text_node text at
placed_text text at = ap placed (sym (rolls-Text text at)) ∙ fold-roll-Plain (Trees Places) placed_step (open_plain.Text text at)

pub placed_element : (tag : List ℕ) (attrs : Vec Attr) (children : Vec Plain) (at : ℕ) → placed (plain.Element tag attrs children at) ≡ element_node tag attrs.items (placed_all children.items) at
placed_element tag attrs children at = ap placed (sym (rolls-Element tag attrs children at)) ∙ fold-roll-Plain (Trees Places) placed_step (open_plain.Element tag attrs children at)

-- one more tree at the end
pub placed_more : (ps : List Plain) (p : Plain) → placed_all (ps ++ p ∷ []) ≡ beside (placed_all ps) (placed p)
placed_more [] p = beside_end (placed p)
placed_more (q ∷ ps) p = ap (beside (placed q)) (placed_more ps p) ∙ sym (beside_assoc (placed q) (placed_all ps) (placed p))
