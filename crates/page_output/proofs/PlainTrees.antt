-- Plain trees are printed.
use Rattle.std.proofs.Common.{◌≡◌, ℕ, ◌+◌, ◌<◌, ◌≤◌, List, ◌++◌, map, refl, sym, ap, ◌∙◌, length, get_or, false, Result}
use Rattle.std.specs.Prelude.{OnErr, OnOk}
use Rattle.std.specs.Global.{Vec}
use Rattle.code_units.specs.declared.memory.Memory.{Memory}
use Rattle.plain_tree.specs.declared.plain.Attr.{Attr}
use Rattle.plain_tree.specs.declared.plain.Plain.{Plain}
use Rattle.plain_tree.specs.declared.plain.Plain.TheVariants as plain
use Rattle.plain_tree.specs.Names.{is_void}
use Rattle.plain_tree.specs.Trees.{ElementOf, End, Node}
use Rattle.plain_tree.specs.Plains.{unplaced, unplaced_all, attribute_of}
use Rattle.plain_tree.specs.Print.{opening, closing}
use Rattle.page_nodes.proofs.Plains.{unplaced_element}
use Rattle.page_output.specs.Printing.{IsStyleForm, Prints, PrintsPart}
use Rattle.page_output.proofs.Texts.{PrintsItems, printed_first, items_start, items_step, items_cut, items_done, items_unclosed, on_err, on_trees, on_part}

-- what is printed of the children
abbrev pub PrintsChildren : List Plain → ℕ → List ℕ → List ℕ → Type 0
PrintsChildren = PrintsItems unplaced unplaced_all refl printed_first

pub children_start : (items : List Plain) (old new : List ℕ) → new ≡ old → PrintsChildren items 0 old new
children_start = items_start unplaced unplaced_all refl printed_first

pub children_step : (items : List Plain) (i : ℕ) (child : Plain) (old mid new : List ℕ) → i < length items → child ≡ get_or items i child → PrintsChildren items i old mid → Prints (unplaced child) mid new → PrintsChildren items (i + 1) old new
children_step = items_step unplaced unplaced_all refl printed_first

-- an element as its parts, where its children are in the slice of its list
element_is : (p : Plain) (tag : List ℕ) (attrs : Vec Attr) (children : Vec Plain) (at : ℕ) (items : List Plain) → p ≡ plain.Element tag attrs children at → items ≡ children.items → Node tt (ElementOf tag (map attribute_of attrs.items)) (unplaced_all items) End ≡ unplaced p
element_is p tag attrs children at items ep ei = ap (λ l. Node tt (ElementOf tag (map attribute_of attrs.items)) (unplaced_all l) End) ei ∙ sym (unplaced_element p tag attrs children at ep)

-- the call of an element ends within its children
pub element_cut : {T : Type 0} (r : Result T Memory) (p : Plain) (tag : List ℕ) (attrs : Vec Attr) (children : Vec Plain) (at : ℕ) (old o1 mid new : List ℕ) (items : List Plain) (i : ℕ) (child : Plain) → p ≡ plain.Element tag attrs children at → items ≡ children.items → is_void tag ≡ false → ((style : List ℕ → List ℕ) → IsStyleForm style → o1 ≡ old ++ opening style tag (map attribute_of attrs.items)) → i < length items → child ≡ get_or items i child → PrintsChildren items i o1 mid → PrintsPart (unplaced child) mid new → OnErr r (PrintsPart (unplaced p) old new)
element_cut r p tag attrs children at old o1 mid new items i child ep ei void front lt e h g =
    on_part r _ _ old new (element_is p tag attrs children at items ep ei) (on_err r _ (items_cut unplaced unplaced_all refl printed_first tag (map attribute_of attrs.items) old o1 mid new items i child void front lt e h g))

-- the whole call of an element
pub element_done : (r : Result (Unit {0}) Memory) (p : Plain) (tag : List ℕ) (attrs : Vec Attr) (children : Vec Plain) (at : ℕ) (old o1 o2 new : List ℕ) (items : List Plain) (i : ℕ) → p ≡ plain.Element tag attrs children at → items ≡ children.items → is_void tag ≡ false → ((style : List ℕ → List ℕ) → IsStyleForm style → o1 ≡ old ++ opening style tag (map attribute_of attrs.items)) → length items ≤ i → PrintsChildren items i o1 o2 → OnOk r (new ≡ o2 ++ closing tag) → OnOk r (Prints (unplaced p) old new)
element_done r p tag attrs children at old o1 o2 new items i ep ei void front le inv h =
    on_trees r _ _ old new (element_is p tag attrs children at items ep ei) (items_done unplaced unplaced_all refl printed_first r tag (map attribute_of attrs.items) old o1 o2 new items i void front le inv h)

pub element_unclosed : (r : Result (Unit {0}) Memory) (p : Plain) (tag : List ℕ) (attrs : Vec Attr) (children : Vec Plain) (at : ℕ) (old o1 o2 new : List ℕ) (items : List Plain) (i : ℕ) → p ≡ plain.Element tag attrs children at → items ≡ children.items → is_void tag ≡ false → ((style : List ℕ → List ℕ) → IsStyleForm style → o1 ≡ old ++ opening style tag (map attribute_of attrs.items)) → length items ≤ i → PrintsChildren items i o1 o2 → OnErr r (new ≡ o2) → OnErr r (PrintsPart (unplaced p) old new)
element_unclosed r p tag attrs children at old o1 o2 new items i ep ei void front le inv h =
    on_part r _ _ old new (element_is p tag attrs children at items ep ei) (items_unclosed unplaced unplaced_all refl printed_first r tag (map attribute_of attrs.items) old o1 o2 new items i void front le inv h)
