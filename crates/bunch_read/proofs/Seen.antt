-- A query sees the same of the page and of a widget's own page, but for the numbers.
use Rattle.std.proofs.Common.{◌≡◌, ℕ, List, [], ◌∷◌, Bool, true, false, refl, sym, ap, ◌∙◌, map, cond, eqb, eqb-true, eq-eqb, ◌||◌, not, Option, Some, None, ⊎_elim}
use Rattle.std.specs.Prelude.{option_and_then, unwrap_or}
use Rattle.std.specs.Option.{option_map_or}
use Rattle.std.proofs.lemmas.Bool.{or_cases}
use Rattle.code_units.specs.declared.owner.Owner.TheVariants as owner
use Rattle.plain_tree.specs.Trees.{Label, TextOf, ElementOf, Trees}
use Rattle.tree_ops.specs.Labels as labels
use Rattle.tree_ops.specs.Trees.{numbers, has}
use Rattle.page_nodes.specs.Entries.{Entry, at, listed, tree, IsSound}
use Rattle.page_nodes.specs.Owners.{is_owner, root_in}
use Rattle.page_nodes.proofs.Owners.{same_is}
use Rattle.page_nodes.proofs.Shows.{Shows, none, one_more, shows_tree}
use Rattle.page_tree.specs.declared.page.Page.{Page}
use Rattle.page_tree.specs.Documents as page
use Rattle.page_tree.specs.Documents.{below}
use Rattle.page_tree.specs.Pages.{nodes, root}
use Rattle.page_tree.specs.Roots.{IsRooted}
use Rattle.query_grammar.specs.declared.query.Filter.{Filter}
use Rattle.query_grammar.specs.Filters.{keeps}
use Rattle.query_grammar.specs.Finds as query
use Rattle.query_grammar.specs.Finds.{Sight, has_number, has_focus}
use Rattle.query_grammar.specs.Renumbering.{renumbered, AreAlike, IsWhole, Renumbers}
use Rattle.query_grammar.specs.Steps.{Step}
use Rattle.query_grammar.proofs.Kept.{all_filtered_is}
use Rattle.query_grammar.proofs.Numbers.{kept_is}
use Rattle.query_grammar.proofs.Renumbered.{finds_mapped}
use Rattle.query_lang.specs.Finds as found
use Rattle.query_lang.specs.Finds.{links, sight, AreOwned}
use Rattle.query_lang.specs.Nodes as node
use Rattle.widget_meaning.specs.OwnState.{State}
use Rattle.widget_meaning.specs.PageForms as form
use Rattle.widget_meaning.specs.Queries as meaning
use Rattle.widget_meaning.specs.Trees.{tops, parent, children, first_children, label_of}
use Rattle.page_image.specs.Held.{OptionIn}
use Rattle.page_image.specs.Image.{owns, number, forest}
use Rattle.page_image.specs.Own.{is_own, own_number, page_forest, own_forest}
use Rattle.page_image.proofs.Lists.{has_listed, has_numbers}
use Rattle.page_image.proofs.Looking.{label_own, tops_own, parent_own, owned_parent}
use Rattle.page_image.proofs.Marked.{numbers_marked, children_marked}
use Rattle.page_image.proofs.Numbers.{tell}
use Rattle.page_image.proofs.Pages.{owner_is}
use Rattle.page_image.proofs.Shown.{all_own, has_of_all, forest_shown, forest_own, numbers_shown, within_is, stands, owned_there, own_tree, own_child}

no_true : false ≡ true → ⊥
no_true e = cc

-- a tag as queries see it
tag_seen : (l : Label) → cond (not (labels.is_text l)) (Some (unwrap_or (labels.tag_of l) [])) None ≡ labels.tag_of l
tag_seen (TextOf t) = refl
tag_seen (ElementOf tag attributes) = refl

module _ (k : List Entry) (s : IsSound k) (roots : List (Option ℕ)) (rooted : IsRooted k roots) (w : ℕ) (r : Option ℕ) (is : is_owner (owner.Widget w) ≡ true) (root : root_in roots (owner.Widget w) ≡ r) where
  own_tell : (n m : ℕ) → is_own k w n ≡ true → is_own k w m ≡ true → eqb (own_number k w m) (own_number k w n) ≡ eqb m n
  own_tell n m hn hm = tell k w n m hn hm

  numbers_children : (n : ℕ) → numbers (first_children (tree k n)) ≡ below k n
  numbers_children n = of (tree k n) (shows_tree k s n)
    where
      of : (ts : Trees ℕ) → Shows k (n ∷ []) ts → numbers (first_children ts) ≡ below k n
      of _ (one_more {ks = ks} hk none) = numbers_shown k s (at k n).children ks hk

  abbrev page_sight : Option ℕ → Sight
  page_sight focus = record { links = links k r; document = page.document k r (owner.Widget w); focus = focus }

  document_is : numbers (page_forest k r w) ≡ page.document k r (owner.Widget w)
  document_is = numbers_shown k s _ _ (forest_shown k s roots rooted w r is root)

  in_document : (n : ℕ) → has_number (page.document k r (owner.Widget w)) n ≡ has n (page_forest k r w)
  in_document n = ap (λ l. has_number l n) (sym document_is) ∙ has_numbers (page_forest k r w) n

  document_own : (n : ℕ) → has_number (page.document k r (owner.Widget w)) n ≡ true → is_own k w n ≡ true
  document_own n h = owned_there k s roots rooted w r is root n (sym (in_document n) ∙ h)

  own_document : (n : ℕ) → is_own k w n ≡ true → has_number (page.document k r (owner.Widget w)) n ≡ true
  own_document n h = in_document n ∙ stands k s roots rooted w r is root n h

  below_own : (n x : ℕ) → is_own k w n ≡ true → has_number (below k n) x ≡ true → is_own k w x ≡ true
  below_own n x h g = has_of_all (is_own k w) x (tree k n) (all_own k s w (n ∷ []) (tree k n) (shows_tree k s n) top) (sym (has_numbers (tree k n) x) ∙ ap (λ l. has_number l x) (within_is k s n) ∙ second (eqb x n) (has_number (below k n) x) g)
    where
      top : (c : ℕ) → listed c (n ∷ []) ≡ true → is_own k w c ≡ true
      top c l = ⊎_elim (λ e. ap (λ y. is_own k w y) (sym (eqb-true n c e)) ∙ h) (λ e. absurd (no_true e)) (or_cases (eqb n c) false l)

      second : (a b : Bool) → b ≡ true → (a || b) ≡ true
      second true b e = refl
      second false b e = e

  whole : (focus : Option ℕ) → IsWhole (page_sight focus)
  whole focus = record {
    children = λ n h x g. own_document x (own_child k s w n x (document_own n h) (sym (has_listed x (at k n).children) ∙ g));
    below = λ n h x g. own_document x (below_own n x (document_own n h) g);
    parent = λ n m h e. own_document m (owned_parent k s roots rooted w r is root n m (document_own n h) e);
  }

  -- what is found stands in the document
  pub found_own : (focus : Option ℕ) (q : List Step) (ns : List ℕ) → ((n : ℕ) → has_number ns n ≡ true → is_own k w n ≡ true) → (n : ℕ) → has_number (query.finds (page_sight focus) ns q) n ≡ true → is_own k w n ≡ true
  found_own focus [] ns own n h = own n h
  found_own focus (x ∷ q) ns own n h = found_own focus q _ (λ m e. document_own m (kept_is _ (page.document k r (owner.Widget w)) m (all_filtered_is (node.look k) focus x.filters _ m e))) n h

  -- a state of the meaning whose page is the image
  module _ (st : State) (focus : Option ℕ) (there : st.own.forest ≡ own_forest k r w) (seen : st.own.focus ≡ renumbered (own_number k w) focus) (focus_own : OptionIn (is_own k w) focus) where
    below_is : (n : ℕ) → is_own k w n ≡ true → numbers (children (own_number k w n) st.own.forest) ≡ map (own_number k w) (below k n)
    below_is n h =
        ap (λ t. numbers (children (own_number k w n) t)) there
        ∙ ap numbers (children_marked (own_number k w) (is_own k w) own_tell n h (page_forest k r w) (forest_own k s roots rooted w r is root))
        ∙ numbers_marked (own_number k w) (children n (page_forest k r w))
        ∙ ap (λ t. map (own_number k w) (numbers (first_children t))) (own_tree k s roots rooted w r is root n h)
        ∙ ap (map (own_number k w)) (numbers_children n)

    focus_same : (u : Option ℕ) → OptionIn (is_own k w) u → (n : ℕ) → is_own k w n ≡ true → has_focus (renumbered (own_number k w) u) (own_number k w n) ≡ has_focus u n
    focus_same None hu n h = refl
    focus_same (Some x) hu n h = ap (λ b. b || false) (tell k w x n hu h)

    focus_is : (n : ℕ) → is_own k w n ≡ true → has_focus st.own.focus (own_number k w n) ≡ has_focus focus n
    focus_is n h = ap (λ o. has_focus o (own_number k w n)) seen ∙ focus_same focus focus_own n h

    tag_is : (n : ℕ) → is_own k w n ≡ true → (form.look st (own_number k w n)).tag ≡ (node.look k n).tag
    tag_is n h = ap (λ t. cond (not (option_map_or labels.is_text (label_of (own_number k w n) t) false)) (Some (unwrap_or (option_and_then labels.tag_of (label_of (own_number k w n) t)) [])) None) there
        ∙ ap (λ o. cond (not (option_map_or labels.is_text o false)) (Some (unwrap_or (option_and_then labels.tag_of o) [])) None) (label_own k s roots rooted w r is root n h)
        ∙ tag_seen (at k n).label

    attribute_is : (n : ℕ) (name : List ℕ) → is_own k w n ≡ true → (form.look st (own_number k w n)).attribute name ≡ (node.look k n).attribute name
    attribute_is n name h = ap (λ t. option_and_then (labels.attribute_of name) (label_of (own_number k w n) t)) there ∙ ap (option_and_then (labels.attribute_of name)) (label_own k s roots rooted w r is root n h)

    -- a node looks the same
    look_is : (n : ℕ) → is_own k w n ≡ true → form.look st (own_number k w n) ≡ node.look k n
    look_is n h = λ i. record { tag = tag_is n h i; attribute = λ name. attribute_is n name h i }

    alike : (n : ℕ) → has_number (page.document k r (owner.Widget w)) n ≡ true → AreAlike (page_sight focus) (meaning.sight st) (own_number k w) n
    alike n d = let h = document_own n d in record {
      tag = tag_is n h;
      attributes = λ name. attribute_is n name h;
      children = ap (λ t. tops (children (own_number k w n) t)) there ∙ tops_own k s roots rooted w r is root n h;
      below = below_is n h;
      parent = ap (parent (own_number k w n)) there ∙ parent_own k s roots rooted w r is root n h;
      focus = focus_is n h;
    }

    renumbers : Renumbers (page_sight focus) (meaning.sight st) (own_number k w)
    renumbers = record {
      document = ap numbers there ∙ numbers_marked (own_number k w) (page_forest k r w) ∙ ap (map (own_number k w)) document_is;
      distinct = λ n m hn hm e. sym (eqb-true m n (sym (tell k w n m (document_own n hn) (document_own m hm)) ∙ eq-eqb _ _ (sym e)));
      alike = alike;
    }

    pub finds_own : (starts : List ℕ) (q : List Step) → ((n : ℕ) → has_number starts n ≡ true → is_own k w n ≡ true) → meaning.finds st (map (own_number k w) starts) q ≡ map (own_number k w) (query.finds (page_sight focus) starts q)
    finds_own starts q own = finds_mapped (page_sight focus) (meaning.sight st) (own_number k w) (whole focus) renumbers starts q (λ n h. own_document n (own n h))

    pub passes_own : (f : Filter) (n : ℕ) → is_own k w n ≡ true → query.passes (form.look st) st.own.focus f (own_number k w n) ≡ node.passes k focus f n
    passes_own f n h = ap (λ l. keeps f l (has_focus st.own.focus (own_number k w n))) (look_is n h) ∙ ap (keeps f (node.look k n)) (focus_is n h)

-- ## The page

module _ (p : Page) (w : ℕ) where
  pub are_owned : (ns : List ℕ) → ((n : ℕ) → has_number ns n ≡ true → owns p w n ≡ true) → AreOwned p (owner.Widget w) ns
  unfolding owns
  are_owned ns own n h = same_is (at (nodes p) n).owner (owner.Widget w) (own n h)

  pub finds_image : (st : State) (focus : Option ℕ) (starts : List ℕ) (q : List Step) → is_owner (owner.Widget w) ≡ true → ((n : ℕ) → has_number starts n ≡ true → owns p w n ≡ true) → OptionIn (owns p w) focus → st.own.forest ≡ forest p w → st.own.focus ≡ renumbered (number p w) focus → meaning.finds st (map (number p w) starts) q ≡ map (number p w) (found.finds p (owner.Widget w) focus starts q)
  unfolding owns number forest
  finds_image st focus starts q is own focus_own there seen = finds_own (nodes p) p.arena.sound p.roots p.rooted w (root p (owner.Widget w)) is refl st focus there seen focus_own starts q own

  pub passes_image : (st : State) (focus : Option ℕ) (f : Filter) (n : ℕ) → owns p w n ≡ true → OptionIn (owns p w) focus → st.own.forest ≡ forest p w → st.own.focus ≡ renumbered (number p w) focus → query.passes (form.look st) st.own.focus f (number p w n) ≡ node.passes (nodes p) focus f n
  unfolding owns number forest
  passes_image st focus f n h focus_own there seen = passes_own (nodes p) p.arena.sound p.roots p.rooted w (root p (owner.Widget w)) (owner_is p w n h) refl st focus there seen focus_own f n h

  pub found_image : (focus : Option ℕ) (starts : List ℕ) (q : List Step) → is_owner (owner.Widget w) ≡ true → ((n : ℕ) → has_number starts n ≡ true → owns p w n ≡ true) → (n : ℕ) → has_number (found.finds p (owner.Widget w) focus starts q) n ≡ true → owns p w n ≡ true
  unfolding owns
  found_image focus starts q is own n h = found_own (nodes p) p.arena.sound p.roots p.rooted w (root p (owner.Widget w)) is refl focus q starts own n h
