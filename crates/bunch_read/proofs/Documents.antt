-- In a widget's document each node stands once.
use Rattle.std.proofs.Common.{◌≡◌, ℕ, ◌+◌, ◌<◌, ◌≤◌, List, [], ◌∷◌, Bool, true, false, refl, sym, ap, ◌∙◌, subst, map, eqb, eqb-true, not, ◌&&◌, arith}
use Rattle.std.specs.Prelude.{nat_eq}
use Rattle.std.specs.List.{IsDistinct}
use Rattle.code_units.specs.declared.owner.Owner.TheVariants as owner
use Rattle.tree_ops.specs.Trees.{numbers}
use Rattle.page_nodes.specs.Entries.{distinct, listed}
use Rattle.page_tree.specs.declared.page.Page.{Page}
use Rattle.page_tree.specs.Documents.{document}
use Rattle.page_tree.specs.Pages.{nodes, root}
use Rattle.query_grammar.specs.Finds.{has_number}
use Rattle.query_grammar.specs.Steps.{Step}
use Rattle.widget_meaning.specs.OwnState.{State}
use Rattle.widget_meaning.specs.Queries as meaning
use Rattle.page_image.specs.Image.{forest, number, owns}
use Rattle.page_image.specs.Own.{own_number, page_forest}
use Rattle.page_image.proofs.Lists.{has_listed, has_numbers}
use Rattle.page_image.proofs.Marked.{numbers_marked}
use Rattle.page_image.proofs.Pages.{is_widget}
use Rattle.page_image.proofs.Shown.{forest_shown, numbers_shown, owned_there}
use Rattle.native_image.proofs.Nodes.{own_distinct}
use Rattle.bunch_read.proofs.Once.{Once, distinct_once, finds_once, mapped_distinct, none_has, often, once_distinct, tally}

no_true : false ≡ true → ⊥
no_true e = cc

first_not : (a b : Bool) → (not a && b) ≡ true → (a ≡ false) × (b ≡ true)
first_not true b h = absurd (no_true h)
first_not false b h = (refl, h)

-- a list without repeats has each number once
listed_once : (xs : List ℕ) → distinct xs ≡ true → Once xs
listed_once [] h n = omega arith
listed_once (x ∷ xs) h n = let f = first_not (listed x xs) (distinct xs) h in by f (listed_once xs f.1 n) (eqb n x) refl
  where
    by : (listed x xs ≡ false) × (distinct xs ≡ true) → often n xs ≤ 1 → (b : Bool) → eqb n x ≡ b → tally b + often n xs ≤ 1
    by f rest true e =
        let same : often n xs ≡ often x xs = ap (λ m. often m xs) (eqb-true n x e) in
        omega (arith, same, none_has x xs (has_listed x xs ∙ f.0))
    by f rest false e = omega (arith, rest)

module _ (p : Page) (w : ℕ) (lt : w < 32) (once : distinct (document (nodes p) (root p (owner.Widget w)) (owner.Widget w)) ≡ true) where
  abbrev doc : List ℕ
  doc = document (nodes p) (root p (owner.Widget w)) (owner.Widget w)

  doc_is : numbers (page_forest (nodes p) (root p (owner.Widget w)) w) ≡ doc
  doc_is = numbers_shown (nodes p) p.arena.sound _ _ (forest_shown (nodes p) p.arena.sound p.roots p.rooted w (root p (owner.Widget w)) (is_widget w lt) refl)

  doc_own : (n : ℕ) → has_number doc n ≡ true → owns p w n ≡ true
  unfolding owns
  doc_own n h = owned_there (nodes p) p.arena.sound p.roots p.rooted w (root p (owner.Widget w)) (is_widget w lt) refl n (sym (has_numbers (page_forest (nodes p) (root p (owner.Widget w)) w) n) ∙ ap (λ l. has_number l n) doc_is ∙ h)

  numbers_are : numbers (forest p w) ≡ map (number p w) doc
  unfolding forest number
  numbers_are = numbers_marked (own_number (nodes p) w) (page_forest (nodes p) (root p (owner.Widget w)) w) ∙ ap (map (own_number (nodes p) w)) doc_is

  numbers_once : Once (numbers (forest p w))
  numbers_once = subst Once (sym numbers_are) (once_distinct (map (number p w) doc) (own_distinct p w doc doc_own (distinct_once doc (listed_once doc once))))

  -- what a query finds from nodes that differ
  pub found_apart : (s : State) → s.own.forest ≡ forest p w → (starts items : List ℕ) (qs : List Step) → IsDistinct nat_eq (map (number p w) starts) → map (number p w) items ≡ meaning.finds s (map (number p w) starts) qs → IsDistinct nat_eq items
  found_apart s there starts items qs apart e =
      mapped_distinct (number p w) items
      (subst (IsDistinct eqb) (sym e)
      (distinct_once (meaning.finds s (map (number p w) starts) qs)
      (finds_once (meaning.sight s) (subst (λ t. Once (numbers t)) (sym there) numbers_once) qs (map (number p w) starts) (once_distinct (map (number p w) starts) apart))))
