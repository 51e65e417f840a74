-- Pairs of a style that change.
use Rattle.std.proofs.Common.{◌≡◌, ℕ, suc, ◌+◌, ◌<◌, List, [], ◌∷◌, ◌++◌, Bool, true, false, refl, sym, ap, ◌∙◌, map, length, take, get_or, Option, None, Some, codes, eqb-true, if◌then◌else◌, arith}
use Rattle.std.specs.Prelude.{filter, nat_eq, not, ◌||◌}
use Rattle.std.specs.List.{list_any}
use Rattle.std.specs.Option.{option_map_or}
use Rattle.std.specs.Str.{bytes_eq}
use Rattle.plain_tree.specs.Trees as plain
use Rattle.plain_tree.specs.Trees.{Attribute, ElementOf, TextOf}
use Rattle.tree_ops.specs.Labels.{attribute_of, with_attribute, without_value}
use Rattle.tree_ops.specs.Trees.{relabelled}
use Rattle.style_text.specs.Styles.{Pair, is_used, print_style}
use Rattle.widget_meaning.specs.BunchWrites.{styled, with_style}
use Rattle.widget_meaning.specs.Styles.{style_pairs, with_property, without_property}
use Rattle.widget_meaning.specs.Trees.{label_of}
use Rattle.plain_tree.specs.Trees.{Trees}
use Rattle.page_image.specs.Image.{relabel_in}
use Rattle.native_image.proofs.Lists.{take_next}
use Rattle.bunch_attributes.specs.Restyled.{restyled, sets_nothing}

no_true : false ≡ true → ⊥
no_true e = cc

-- with another value for a property that is there
abbrev pub swapped : List ℕ → List ℕ → Pair → Pair
swapped p v q = if bytes_eq q.0 p then (p, v) else q

-- a property that is not there is not swapped
not_swapped : (p v : List ℕ) (qs : List Pair) → list_any (λ (q : Pair). bytes_eq q.0 p) qs ≡ false → map (swapped p v) qs ≡ qs
not_swapped p v [] h = refl
not_swapped p v (q ∷ qs) h = by (bytes_eq q.0 p) refl h (not_swapped p v qs)
  where
    by : (b : Bool) → bytes_eq q.0 p ≡ b → (b || list_any (λ (r : Pair). bytes_eq r.0 p) qs) ≡ false → (list_any (λ (r : Pair). bytes_eq r.0 p) qs ≡ false → map (swapped p v) qs ≡ qs) → swapped p v q ∷ map (swapped p v) qs ≡ q ∷ qs
    by true e f g = cc
    by false e f g = (λ j. (if e j then (p, v) else q) ∷ g f j)

-- a property is set where it is among the pairs
pub set_used : (p v : List ℕ) (qs : List Pair) → nat_eq (length v) 0 ≡ false → is_used qs p ≡ true → map (swapped p v) qs ≡ with_property qs p v
set_used p v qs e h = sym ((λ j. if e j then without_property qs p else if is_used qs p then map (swapped p v) qs else qs ++ (p, v) ∷ []) ∙ (λ j. if h j then map (swapped p v) qs else qs ++ (p, v) ∷ []))

pub set_new : (p v : List ℕ) (qs : List Pair) → nat_eq (length v) 0 ≡ false → is_used qs p ≡ false → map (swapped p v) qs ++ (p, v) ∷ [] ≡ with_property qs p v
unfolding is_used
set_new p v qs e h =
    ap (λ l. l ++ (p, v) ∷ []) (not_swapped p v qs h)
    ∙ sym ((λ j. if e j then without_property qs p else if list_any (λ (q : Pair). bytes_eq q.0 p) qs then map (swapped p v) qs else qs ++ (p, v) ∷ []) ∙ (λ j. if h j then map (swapped p v) qs else qs ++ (p, v) ∷ []))

pub set_empty : (p v : List ℕ) (qs : List Pair) → nat_eq (length v) 0 ≡ true → without_property qs p ≡ with_property qs p v
set_empty p v qs e = sym (λ j. if e j then without_property qs p else if is_used qs p then map (swapped p v) qs else qs ++ (p, v) ∷ [])

-- ## Loops

filter_push : (f : Pair → Bool) (qs : List Pair) (q : Pair) → filter f (qs ++ q ∷ []) ≡ filter f qs ++ (if f q then q ∷ [] else [])
filter_push f [] q = refl
filter_push f (r ∷ qs) q = by (f r) (filter_push f qs q)
  where
    by : (b : Bool) → filter f (qs ++ q ∷ []) ≡ filter f qs ++ (if f q then q ∷ [] else []) → (if b then r ∷ filter f (qs ++ q ∷ []) else filter f (qs ++ q ∷ [])) ≡ (if b then r ∷ filter f qs else filter f qs) ++ (if f q then q ∷ [] else [])
    by true h = ap (λ l. r ∷ l) h
    by false h = h

pub left_more : (p : List ℕ) (qs : List Pair) (i : ℕ) (d q : Pair) → i < length qs → get_or qs i d ≡ q → without_property (take (i + 1) qs) p ≡ without_property (take i qs) p ++ (if not (bytes_eq q.0 p) then q ∷ [] else [])
left_more p qs i d q lt e =
    let n : i + 1 ≡ suc i = omega arith in
    ap (λ k. without_property (take k qs) p) n
    ∙ ap (λ l. without_property l p) (take_next qs d i lt)
    ∙ filter_push (λ r. not (bytes_eq r.0 p)) (take i qs) (get_or qs i d)
    ∙ ap (λ r. without_property (take i qs) p ++ (if not (bytes_eq r.0 p) then r ∷ [] else [])) e

-- ## The attribute

absent : (name : List ℕ) (attrs : List Attribute) → plain.value_of name attrs ≡ None → without_value name attrs ≡ attrs
absent name [] h = refl
absent name (a ∷ attrs) h = by (bytes_eq a.0 name) refl h (absent name attrs)
  where
    by : (b : Bool) → bytes_eq a.0 name ≡ b → (if b then Some a.1 else plain.value_of name attrs) ≡ None → (plain.value_of name attrs ≡ None → without_value name attrs ≡ attrs) → (if not b then a ∷ without_value name attrs else without_value name attrs) ≡ a ∷ attrs
    by true e f g = cc
    by false e f g = ap (λ l. a ∷ l) (g f)

-- where there is no style, an empty value makes none
none_styled : (p v : List ℕ) (o : Option (List ℕ)) (x : plain.Label) → sets_nothing o v ≡ true → o ≡ attribute_of (codes "style") x → with_attribute (codes "style") None x ≡ styled p v x
none_styled p [] None (TextOf t) e h = refl
none_styled p [] None (ElementOf tag attrs) e h = ap (ElementOf tag) (absent (codes "style") attrs (sym h)) ∙ ap (λ o. with_style o p [] (ElementOf tag attrs)) h
none_styled p (u ∷ us) None x e h = absurd (omega (arith, eqb-true (suc (length us)) 0 e))
none_styled p v (Some s) x e h = absurd (no_true e)

-- else the style has the property set
some_styled : (p v : List ℕ) (o : Option (List ℕ)) (x : plain.Label) → sets_nothing o v ≡ false → o ≡ attribute_of (codes "style") x → with_attribute (codes "style") (Some (print_style (with_property (option_map_or style_pairs o []) p v))) x ≡ styled p v x
some_styled p [] None x h e = absurd (no_true (sym h))
some_styled p (u ∷ us) None x h e = ap (λ s. with_style s p (u ∷ us) x) e
some_styled p v (Some t) x h e = ap (λ s. with_style s p v x) e

pub restyled_is : (p v : List ℕ) (o : Option (List ℕ)) (x : plain.Label) → o ≡ attribute_of (codes "style") x → with_attribute (codes "style") (restyled p v o) x ≡ styled p v x
restyled_is p v o x h = by (sets_nothing o v) refl
  where
    by : (b : Bool) → sets_nothing o v ≡ b → with_attribute (codes "style") (if b then None else Some (print_style (with_property (option_map_or style_pairs o []) p v))) x ≡ styled p v x
    by true e = none_styled p v o x e h
    by false e = some_styled p v o x e h

-- a change by what it makes of the label that is there
pub relabel_same : (f g : plain.Label → plain.Label) (ts : Trees ℕ) (n : ℕ) (x : plain.Label) → label_of n ts ≡ Some x → f x ≡ g x → relabel_in f ts n ≡ relabel_in g ts n
relabel_same f g ts n x e h =
    ap (λ o. option_map_or (λ l. relabelled n (f l) ts) o ts) e
    ∙ ap (λ y. relabelled n y ts) h
    ∙ sym (ap (λ o. option_map_or (λ l. relabelled n (g l) ts) o ts) e)
