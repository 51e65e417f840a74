-- Labels that change.
use Rattle.std.proofs.Common.{◌≡◌, ℕ, List, [], ◌∷◌, Bool, true, false, refl, sym, ap, ◌∙◌, map, eqb, eqb-true, cond, Option, None, Some, codes, ⊎_elim}
use Rattle.std.specs.List.{list_all}
use Rattle.std.specs.Option.{option_map, option_map_or, option_or, unwrap_or}
use Rattle.std.specs.Prelude.{◌&&◌}
use Rattle.std.proofs.lemmas.Bool.{or_cases}
use Rattle.plain_tree.specs.Trees as plain
use Rattle.plain_tree.specs.Trees.{ElementOf, End, Node, TextOf, Trees}
use Rattle.tree_ops.specs.Labels.{attribute_of, is_text}
use Rattle.tree_ops.specs.Trees.{relabelled, tree_of}
use Rattle.query_grammar.specs.Finds.{has_number}
use Rattle.widget_meaning.specs.BunchWrites.{relabel, with_style}
use Rattle.widget_meaning.specs.OwnState.{State, with_forest}
use Rattle.widget_meaning.specs.Trees.{first_label, label_of}
use Rattle.page_tree.specs.declared.page.Page.{Page}
use Rattle.page_image.specs.Image.{forest, number, relabel_in}
use Rattle.page_image.specs.Targets.{is_text_at}
use Rattle.bunch_attributes.specs.declared.judging.Test.{Test}
use Rattle.bunch_attributes.specs.declared.relabelling.Label.{Label}
use Rattle.bunch_attributes.specs.declared.relabelling.Label.TheVariants as label
use Rattle.bunch_attributes.specs.Labels.{meant}
use Rattle.bunch_attributes.specs.Tests.{passes}
use Rattle.native_image.specs.Handed.{state}
use Rattle.bunch_attributes.proofs.Tags.{passes_element}

no_true : false ≡ true → ⊥
no_true e = cc

-- ## Text nodes stay text nodes

first_relabelled : (m : ℕ) (l : plain.Label) (n : ℕ) (ts : Trees ℕ) → tree_of n (relabelled m l ts) ≡ option_map (relabelled m l) (tree_of n ts)
first_relabelled m l n End = refl
first_relabelled m l n (Node k x ks ts) = by (eqb k n) (first_relabelled m l n ks) (first_relabelled m l n ts)
  where
    or_map : (a b : Option (Trees ℕ)) → option_or (option_map (relabelled m l) a) (option_map (relabelled m l) b) ≡ option_map (relabelled m l) (option_or a b)
    or_map None b = refl
    or_map (Some a) b = refl

    by : (c : Bool) → tree_of n (relabelled m l ks) ≡ option_map (relabelled m l) (tree_of n ks) → tree_of n (relabelled m l ts) ≡ option_map (relabelled m l) (tree_of n ts) → cond c (Some (Node k (cond (eqb k m) l x) (relabelled m l ks) End)) (option_or (tree_of n (relabelled m l ks)) (tree_of n (relabelled m l ts))) ≡ option_map (relabelled m l) (cond c (Some (Node k x ks End)) (option_or (tree_of n ks) (tree_of n ts)))
    by true e f = refl
    by false e f = (λ j. option_or (e j) (f j)) ∙ or_map (tree_of n ks) (tree_of n ts)

some_of : {A : Type 0} {a b : A} → Some a ≡ Some b → a ≡ b
some_of e = cc

none_some : {A : Type 0} {a : A} → None ≡ Some a → ⊥
none_some e = cc

head_number : {k n : ℕ} {x y : plain.Label} {ks us ts vs : Trees ℕ} → Node k x ks ts ≡ Node n y us vs → k ≡ n
head_number e = cc

-- what is found has the number
found_number : (n : ℕ) (ts : Trees ℕ) (k : ℕ) (x : plain.Label) (ks more : Trees ℕ) → tree_of n ts ≡ Some (Node k x ks more) → k ≡ n
found_number n End k x ks more e = absurd (none_some e)
found_number n (Node m l us ts) k x ks more e = by (eqb m n) refl (λ g. found_number n us k x ks more g) (λ g. found_number n ts k x ks more g) e
  where
    either : (a : Option (Trees ℕ)) → (a ≡ Some (Node k x ks more) → k ≡ n) → (tree_of n ts ≡ Some (Node k x ks more) → k ≡ n) → option_or a (tree_of n ts) ≡ Some (Node k x ks more) → k ≡ n
    either None f g h = g h
    either (Some a) f g h = f h

    by : (c : Bool) → eqb m n ≡ c → (tree_of n us ≡ Some (Node k x ks more) → k ≡ n) → (tree_of n ts ≡ Some (Node k x ks more) → k ≡ n) → cond c (Some (Node m l us End)) (option_or (tree_of n us) (tree_of n ts)) ≡ Some (Node k x ks more) → k ≡ n
    by true q f g h = sym (head_number (some_of h)) ∙ eqb-true m n q
    by false q f g h = either (tree_of n us) f g h

-- another label at a node, which is a text alike, leaves what are text nodes
text_stays : (m n : ℕ) (l : plain.Label) (ts : Trees ℕ) → ((x : plain.Label) → label_of m ts ≡ Some x → is_text l ≡ is_text x) → is_text_at (relabelled m l ts) n ≡ is_text_at ts n
text_stays m n l ts h = ap (λ o. option_map_or is_text (first_label (unwrap_or o End)) false) (first_relabelled m l n ts) ∙ by (tree_of n ts) refl
  where
    at_node : (k : ℕ) (x : plain.Label) (c : Bool) → eqb k m ≡ c → k ≡ n → label_of n ts ≡ Some x → is_text (cond c l x) ≡ is_text x
    at_node k x true e f g = h x (ap (λ j. label_of j ts) (sym (eqb-true k m e) ∙ f) ∙ g)
    at_node k x false e f g = refl

    by : (o : Option (Trees ℕ)) → tree_of n ts ≡ o → option_map_or is_text (first_label (unwrap_or (option_map (relabelled m l) o) End)) false ≡ option_map_or is_text (first_label (unwrap_or o End)) false
    by None e = refl
    by (Some End) e = refl
    by (Some (Node k x ks more)) e = at_node k x (eqb k m) refl (found_number n ts k x ks more e) (ap (λ o. first_label (unwrap_or o End)) e)

-- each change leaves a text node a text node, and an element an element
same_kind : (c : Label) (x : plain.Label) → is_text (meant c x) ≡ is_text x
same_kind (label.Set name v) (TextOf t) = refl
same_kind (label.Set name v) (ElementOf tag attributes) = refl
same_kind (label.Unset name) (TextOf t) = refl
same_kind (label.Unset name) (ElementOf tag attributes) = refl
same_kind (label.Style how) (TextOf t) = styled_text how.property how.value
  where
    styled_text : (p v : List ℕ) → is_text (with_style None p v (TextOf t)) ≡ true
    styled_text p [] = refl
    styled_text p (u ∷ us) = refl
same_kind (label.Style how) (ElementOf tag attributes) = styled_element (attribute_of (codes "style") (ElementOf tag attributes)) how.property how.value
  where
    styled_element : (o : Option (List ℕ)) (p v : List ℕ) → is_text (with_style o p v (ElementOf tag attributes)) ≡ false
    styled_element None p [] = refl
    styled_element None p (u ∷ us) = refl
    styled_element (Some s) p v = refl

pub kind_stays : (c : Label) (m n : ℕ) (ts : Trees ℕ) → is_text_at (relabel_in (meant c) ts m) n ≡ is_text_at ts n
kind_stays c m n ts = by (label_of m ts) refl
  where
    some_is : (x y : plain.Label) → Some x ≡ Some y → x ≡ y
    some_is x y e = cc

    by : (o : Option plain.Label) → label_of m ts ≡ o → is_text_at (option_map_or (λ l. relabelled m (meant c l) ts) o ts) n ≡ is_text_at ts n
    by None e = refl
    by (Some x) e = text_stays m n (meant c x) ts (λ y f. same_kind c x ∙ ap is_text (some_is x y (sym e ∙ f)))

-- ## Several nodes

pub passed_elements : (t : Test) (s : State) (p : Page) (w : ℕ) → s.own.forest ≡ forest p w → (ns : List ℕ) → list_all (passes t s) (map (number p w) ns) ≡ true → (n : ℕ) → has_number ns n ≡ true → is_text_at (forest p w) (number p w n) ≡ false
passed_elements t s p w there [] h n e = absurd (no_true e)
passed_elements t s p w there (m ∷ ns) h n e =
    let q = both (passes t s (number p w m)) (list_all (passes t s) (map (number p w) ns)) h in
    ⊎_elim
    (λ f. ap (λ k. is_text_at (forest p w) (number p w k)) (eqb-true n m f) ∙ sym (ap (λ ts. is_text_at ts (number p w m)) there) ∙ passes_element t s (number p w m) q.0)
    (λ f. passed_elements t s p w there ns q.1 n f)
    (or_cases (eqb n m) (has_number ns n) e)
  where
    both : (a b : Bool) → (a && b) ≡ true → (a ≡ true) × (b ≡ true)
    both true b e = (refl, e)
    both false b e = absurd (no_true e)

-- on the state as on its trees
pub relabel_is : (f : plain.Label → plain.Label) (s : State) (n : ℕ) → relabel f s n ≡ with_forest s (relabel_in f s.own.forest n)
relabel_is f s n = by (label_of n s.own.forest)
  where
    by : (o : Option plain.Label) → option_map_or (λ l. with_forest s (relabelled n (f l) s.own.forest)) o s ≡ with_forest s (option_map_or (λ l. relabelled n (f l) s.own.forest) o s.own.forest)
    by None = refl
    by (Some l) = refl
