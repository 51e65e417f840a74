-- A node gets a value, case by case.
use Rattle.std.proofs.Common.{◌≡◌, ℕ, ◌<◌, List, [], ◌∷◌, Bool, true, false, refl, sym, ap, ◌∙◌, map, length, Option, None, Some, codes, arith, if◌then◌else◌}
use Rattle.std.specs.List.{fold}
use Rattle.std.proofs.lemmas.List.{length-map}
use Rattle.js_tree.specs.Forest.{Forest}
use Rattle.plain_tree.specs.Trees.{End, Node, TextOf, Trees}
use Rattle.tree_ops.specs.Labels.{with_attribute}
use Rattle.tree_ops.specs.Trees.{grafted, relabelled}
use Rattle.store_cells.specs.Cells.{Cells}
use Rattle.object_store.specs.Owned.{owned}
use Rattle.widget_meaning.specs.BunchWrites.{emptied, relabel, valued, with_text_node}
use Rattle.widget_meaning.specs.Costs.{with_counts}
use Rattle.widget_meaning.specs.OwnState.{Amounts, State, with_forest}
use Rattle.widget_meaning.specs.PageForms.{is_input, is_text_node, next_node, with_label, with_room}
use Rattle.widget_meaning.specs.Trees.{moved}
use Rattle.page_tree.specs.declared.page.Page.{Page}
use Rattle.page_image.specs.Image.{forest, number, own, owns, relabel_in}
use Rattle.page_image.specs.Stays.{KeepsNodes}
use Rattle.page_image.proofs.Copies.{all_low}
use Rattle.page_image.proofs.Grafts.{all_moved}
use Rattle.page_image.proofs.Looks.{number_low}
use Rattle.page_image.proofs.Pages.{owner_is}
use Rattle.event_loop.specs.declared.around.Loop.{Loop}
use Rattle.js_image.specs.Held.{Kept}
use Rattle.native_image.specs.Grown.{IsGrown}
use Rattle.native_image.specs.Image.{Outside, beside, image}
use Rattle.native_image.specs.Sound.{HoldsOwn}
use Rattle.native_image.proofs.Joint.{page_lift}
use Rattle.native_image.proofs.Lifted.{tree_lift}
use Rattle.bunch_attributes.proofs.Relabelled.{relabel_is}

-- a new text node comes under a node
pub text_comes : (w : ℕ) (lt : w < 32) (s t : Cells) (p r q : Page) (n id : ℕ) (text : List ℕ) → 0 < length text → owns p w n ≡ true → IsGrown w p r id 1 (Node (length (own p w)) (TextOf text) End End) → Kept [] w s t → owned w t ≡ owned w s → KeepsNodes r q → forest q w ≡ fold (moved (number r w n) None) (forest r w) (map (number r w) (id ∷ []))
    → (l : Loop) → HoldsOwn w s p l → (fs : List Forest) (x : Outside) (b : Option Bool) (c : Amounts) → with_counts (image fs x w (beside t q l b)) c ≡ with_text_node (number p w n) text (with_counts (image fs x w (beside s p l b)) c)
text_comes w lt s t p r q n id text some mine g kept same keeps put l h fs x b c =
    ap (λ v. with_counts v c) (page_lift w fs x t r q l b keeps)
    ∙ (λ j. with_forest (tree_lift w lt s t p r l h kept same id 1 tree g fs x b c j) (there j))
    ∙ (λ j. with_room 1 (with_forest u (grafted m None (Node (sym many j) (TextOf text) End End) (forest p w))))
    ∙ by text some
  where
    m : ℕ
    m = number p w n

    tree : Trees ℕ
    tree = Node (length (own p w)) (TextOf text) End End

    u : State
    u = with_counts (image fs x w (beside s p l b)) c

    many : next_node u ≡ length (own p w)
    many = length-map (own p w) _

    there : forest q w ≡ grafted m None tree (forest p w)
    there =
        put
        ∙ (λ j. fold (moved (g.grows.2.numbers w n mine j) None) (g.trees j) (g.first j ∷ []))
        ∙ all_moved m (length (own p w)) (Node 0 (TextOf text) End End) (forest p w) (number_low p w n mine) (all_low p w (owner_is p w n mine))

    by : (t : List ℕ) → 0 < length t → with_room 1 (with_forest u (grafted m None (Node (next_node u) (TextOf t) End End) (forest p w))) ≡ with_text_node m t u
    by [] f = absurd (omega (arith, f))
    by (y ∷ ys) f = refl

-- no node comes for the empty text
pub no_text : (n : ℕ) (t : List ℕ) (s : State) → length t ≡ 0 → s ≡ with_text_node n t s
no_text n [] s e = refl
no_text n (y ∷ ys) s e = absurd (omega (arith, e))

-- the three cases
module _ (t : List ℕ) (s : State) (n : ℕ) where
  abbrev chosen : Bool → Bool → State
  chosen a b = if a then relabel (with_attribute (codes "value") (Some t)) s n else if b then with_label s n (TextOf t) else with_text_node n t (emptied s n)

  pub value_of_input : is_input s n ≡ true → with_forest s (relabel_in (with_attribute (codes "value") (Some t)) s.own.forest n) ≡ valued t s n
  value_of_input e = sym (relabel_is (with_attribute (codes "value") (Some t)) s n) ∙ sym (ap (λ a. chosen a (is_text_node s n)) e)

  pub value_of_text : is_input s n ≡ false → is_text_node s n ≡ true → with_forest s (relabelled n (TextOf t) s.own.forest) ≡ valued t s n
  value_of_text e f = sym (λ j. chosen (e j) (f j))

  pub value_of_element : is_input s n ≡ false → is_text_node s n ≡ false → with_text_node n t (emptied s n) ≡ valued t s n
  value_of_element e f = sym (λ j. chosen (e j) (f j))
