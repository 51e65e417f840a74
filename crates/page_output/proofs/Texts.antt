-- Texts, piece by piece.
use Rattle.std.proofs.Common.{◌≡◌, ℕ, ◌+◌, ◌<◌, ◌≤◌, List, [], ◌∷◌, ◌++◌, refl, sym, ap, subst, ◌∙◌, length, get_or, drop, append_assoc, false, cond, Result, Ok, Err}
use Rattle.std.proofs.lemmas.List.{at_drop_more, at_drop_all, append-nil}
use Rattle.std.specs.Prelude.{OnErr, OnOk}
use Rattle.code_units.specs.declared.memory.Memory.{Memory}
use Rattle.plain_tree.specs.declared.plain.Plain.TheVariants as plain
use Rattle.page_output.specs.Printing.{IsStyleForm, Prints, AppendsBut, AppendsPart, PrintsPart}
use Rattle.plain_tree.specs.Names.{is_void}
use Rattle.plain_tree.specs.declared.plain.Plain.{Plain}
use Rattle.plain_tree.specs.Trees.{TextOf, ElementOf, End, Node, PlainTrees, beside}
use Rattle.plain_tree.specs.Plains.{unplaced, unplaced_all}
use Rattle.plain_tree.specs.Print.{printed, printed_text, opening, closing}
use Rattle.page_nodes.proofs.Plains.{unplaced_first}

pub printed_beside : (style : List ℕ → List ℕ) (a b : PlainTrees) → printed style (beside a b) ≡ printed style a ++ printed style b
printed_beside style End b = refl
printed_beside style (Node m (TextOf us) ks ts) b = ap (λ l. printed_text us ++ l) (printed_beside style ts b) ∙ sym (append_assoc (printed_text us) (printed style ts) (printed style b))
printed_beside style (Node m (ElementOf tag attrs) ks ts) b =
    ap (λ l. opening style tag attrs ++ cond (is_void tag) [] (printed style ks ++ closing tag) ++ l) (printed_beside style ts b) ∙ sym (append_assoc (opening style tag attrs ++ cond (is_void tag) [] (printed style ks ++ closing tag)) (printed style ts) (printed style b))

pub printed_first : (style : List ℕ → List ℕ) (p : Plain) (ps : List Plain) → printed style (unplaced_all (p ∷ ps)) ≡ printed style (unplaced p) ++ printed style (unplaced_all ps)
printed_first style p ps = ap (printed style) (unplaced_first p ps) ∙ printed_beside style (unplaced p) (unplaced_all ps)

-- an element is its start tag, its children and its end tag
element_printed : (style : List ℕ → List ℕ) (old o1 o2 new tag : List ℕ) (attributes : List (List ℕ × List ℕ)) (ks : PlainTrees) → is_void tag ≡ false → o1 ≡ old ++ opening style tag attributes → o2 ≡ o1 ++ printed style ks → new ≡ o2 ++ closing tag → new ≡ old ++ printed style (Node tt (ElementOf tag attributes) ks End)
element_printed style old o1 o2 new tag attributes ks void e1 e2 en =
    en ∙ ap (λ l. l ++ closing tag) (e2 ∙ ap (λ l. l ++ printed style ks) e1)
    ∙ append_assoc (old ++ opening style tag attributes) (printed style ks) (closing tag)
    ∙ append_assoc old (opening style tag attributes) (printed style ks ++ closing tag)
    ∙ ap (λ l. old ++ l) (ap (λ b. opening style tag attributes ++ cond b [] (printed style ks ++ closing tag)) (sym void) ∙ sym (append-nil (opening style tag attributes ++ cond (is_void tag) [] (printed style ks ++ closing tag))))

-- a beginning of a text
pub part_none : (t old new : List ℕ) → new ≡ old → AppendsPart t old new
part_none t old new e = (t, record { part = []; whole = refl; appended = e ∙ sym (append-nil old) })

pub part_all : (t old new : List ℕ) → new ≡ old ++ t → AppendsPart t old new
part_all t old new e = ([], record { part = t; whole = sym (append-nil t); appended = e })

pub but_start : (t old new : List ℕ) → new ≡ old → AppendsBut t t old new
but_start t old new e = record { part = []; whole = refl; appended = e ∙ sym (append-nil old) }

pub prints_none : (ts : PlainTrees) (old new : List ℕ) → new ≡ old → PrintsPart ts old new
prints_none ts old new e style f = part_none (printed style ts) old new e

pub on_err : {T E : Type 0} (r : Result T E) (P : Type 0) → P → OnErr r P
on_err (Ok x) P p = tt
on_err (Err e) P p = p

-- children, one more
pub but_more : (t u rest rest2 old mid new : List ℕ) → AppendsBut t rest old mid → rest ≡ u ++ rest2 → new ≡ mid ++ u → AppendsBut t rest2 old new
but_more t u rest rest2 old mid new b e en = record {
  part = b.part ++ u;
  whole = b.whole ∙ ap (λ l. b.part ++ l) e ∙ sym (append_assoc b.part u rest2);
  appended = en ∙ ap (λ l. l ++ u) b.appended ∙ append_assoc old b.part u;
}

-- a beginning of the next
pub but_part : (t u rest rest2 old mid new : List ℕ) → AppendsBut t rest old mid → rest ≡ u ++ rest2 → AppendsPart u mid new → AppendsPart t old new
but_part t u rest rest2 old mid new b e p = (
  p.0 ++ rest2,
  record {
    part = b.part ++ p.1.part;
    whole = b.whole ∙ ap (λ l. b.part ++ l) (e ∙ ap (λ l. l ++ rest2) p.1.whole ∙ append_assoc p.1.part (p.0) rest2) ∙ sym (append_assoc b.part p.1.part (p.0 ++ rest2));
    appended = p.1.appended ∙ ap (λ l. l ++ p.1.part) b.appended ∙ append_assoc old b.part p.1.part;
  },
)

-- a beginning of an element's children is one of the element behind its start tag
element_part : (style : List ℕ → List ℕ) (old o1 new tag : List ℕ) (attributes : List (List ℕ × List ℕ)) (ks : PlainTrees) → is_void tag ≡ false → o1 ≡ old ++ opening style tag attributes → AppendsPart (printed style ks) o1 new → AppendsPart (printed style (Node tt (ElementOf tag attributes) ks End)) old new
element_part style old o1 new tag attributes ks void e1 p =
    let start = opening style tag attributes in
    let rest = p.0 in
    let part = p.1.part in
    let all : printed style (Node tt (ElementOf tag attributes) ks End) ≡ start ++ (printed style ks ++ closing tag) = append-nil (start ++ cond (is_void tag) [] (printed style ks ++ closing tag)) ∙ ap (λ b. start ++ cond b [] (printed style ks ++ closing tag)) void in (
      rest ++ closing tag,
      record {
        part = start ++ part;
        whole = all ∙ ap (λ l. start ++ l) (ap (λ l. l ++ closing tag) p.1.whole ∙ append_assoc part rest (closing tag)) ∙ sym (append_assoc start part (rest ++ closing tag));
        appended = p.1.appended ∙ ap (λ l. l ++ part) e1 ∙ append_assoc old start part;
      },
    )

-- ## Several items, one after the other

module _ {X : Type 0} (one : X → PlainTrees) (all : List X → PlainTrees) (nothing : all [] ≡ End) (first : (style : List ℕ → List ℕ) (x : X) (xs : List X) → printed style (all (x ∷ xs)) ≡ printed style (one x) ++ printed style (all xs)) where
  -- what is printed of the items
  abbrev pub PrintsItems : List X → ℕ → List ℕ → List ℕ → Type 0
  PrintsItems items i old new = (style : List ℕ → List ℕ) → IsStyleForm style → AppendsBut (printed style (all items)) (printed style (all (drop i items))) old new

  next_printed : (style : List ℕ → List ℕ) (items : List X) (i : ℕ) (x : X) → i < length items → x ≡ get_or items i x → printed style (all (drop i items)) ≡ printed style (one x) ++ printed style (all (drop (i + 1) items))
  next_printed style items i x lt e = at_drop_more (λ l. printed style (all l)) items i x lt ∙ first style (get_or items i x) (drop (i + 1) items) ∙ ap (λ q. printed style (one q) ++ printed style (all (drop (i + 1) items))) (sym e)

  pub items_start : (items : List X) (old new : List ℕ) → new ≡ old → PrintsItems items 0 old new
  items_start items old new e style f = but_start (printed style (all items)) old new e

  pub items_step : (items : List X) (i : ℕ) (x : X) (old mid new : List ℕ) → i < length items → x ≡ get_or items i x → PrintsItems items i old mid → Prints (one x) mid new → PrintsItems items (i + 1) old new
  items_step items i x old mid new lt e h p style f = but_more _ (printed style (one x)) _ (printed style (all (drop (i + 1) items))) old mid new (h style f) (next_printed style items i x lt e) (p style f)

  -- the printing of an element ends within its items
  pub items_cut : (tag : List ℕ) (attributes : List (List ℕ × List ℕ)) (old o1 mid new : List ℕ) (items : List X) (i : ℕ) (x : X) → is_void tag ≡ false → ((style : List ℕ → List ℕ) → IsStyleForm style → o1 ≡ old ++ opening style tag attributes) → i < length items → x ≡ get_or items i x → PrintsItems items i o1 mid → PrintsPart (one x) mid new → PrintsPart (Node tt (ElementOf tag attributes) (all items) End) old new
  items_cut tag attributes old o1 mid new items i x void front lt e h g = λ style f.
      element_part style old o1 new tag attributes (all items) void (front style f)
      (but_part _ (printed style (one x)) _ (printed style (all (drop (i + 1) items))) o1 mid new (h style f) (next_printed style items i x lt e) (g style f))

  -- all items are printed
  all_printed : (style : List ℕ → List ℕ) (items : List X) (i : ℕ) (o1 o2 : List ℕ) → IsStyleForm style → length items ≤ i → PrintsItems items i o1 o2 → o2 ≡ o1 ++ printed style (all items)
  all_printed style items i o1 o2 f le h =
      let rest : printed style (all (drop i items)) ≡ [] = at_drop_all (λ l. printed style (all l)) items i le ∙ ap (printed style) nothing in
      let b = h style f in
      b.appended ∙ ap (λ l. o1 ++ l) (sym (append-nil b.part) ∙ ap (λ l. b.part ++ l) (sym rest) ∙ sym b.whole)

  -- the whole element
  pub items_done : (r : Result (Unit {0}) Memory) (tag : List ℕ) (attributes : List (List ℕ × List ℕ)) (old o1 o2 new : List ℕ) (items : List X) (i : ℕ) → is_void tag ≡ false → ((style : List ℕ → List ℕ) → IsStyleForm style → o1 ≡ old ++ opening style tag attributes) → length items ≤ i → PrintsItems items i o1 o2 → OnOk r (new ≡ o2 ++ closing tag) → OnOk r (Prints (Node tt (ElementOf tag attributes) (all items) End) old new)
  items_done (Err e) tag attributes old o1 o2 new items i void front le inv h = tt
  items_done (Ok x) tag attributes old o1 o2 new items i void front le inv h = λ style f. element_printed style old o1 o2 new tag attributes (all items) void (front style f) (all_printed style items i o1 o2 f le inv) h

  pub items_unclosed : (r : Result (Unit {0}) Memory) (tag : List ℕ) (attributes : List (List ℕ × List ℕ)) (old o1 o2 new : List ℕ) (items : List X) (i : ℕ) → is_void tag ≡ false → ((style : List ℕ → List ℕ) → IsStyleForm style → o1 ≡ old ++ opening style tag attributes) → length items ≤ i → PrintsItems items i o1 o2 → OnErr r (new ≡ o2) → OnErr r (PrintsPart (Node tt (ElementOf tag attributes) (all items) End) old new)
  items_unclosed (Ok x) tag attributes old o1 o2 new items i void front le inv h = tt
  items_unclosed (Err e) tag attributes old o1 o2 new items i void front le inv h = λ style f.
      element_part style old o1 new tag attributes (all items) void (front style f)
      (part_all (printed style (all items)) o1 new (h ∙ all_printed style items i o1 o2 f le inv))

pub on_trees : {T : Type 0} (r : Result T Memory) (ts us : PlainTrees) (old new : List ℕ) → ts ≡ us → OnOk r (Prints ts old new) → OnOk r (Prints us old new)
on_trees r ts us old new e h = subst (λ y. OnOk r (Prints y old new)) e h

pub on_part : {T : Type 0} (r : Result T Memory) (ts us : PlainTrees) (old new : List ℕ) → ts ≡ us → OnErr r (PrintsPart ts old new) → OnErr r (PrintsPart us old new)
on_part r ts us old new e h = subst (λ y. OnErr r (PrintsPart y old new)) e h
