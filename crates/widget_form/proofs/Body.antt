-- The parts of a file that breaks no rule.
use Rattle.std.proofs.Common.{◌≡◌, ℕ, ◌+◌, ◌<◌, ◌≤◌, Bool, true, false, ◌&&◌, not, List, [], ◌∷◌, ◌++◌, refl, sym, ap, ◌∙◌, subst, inl, inr, Option, Some, None, cond, length, get_or, drop, take, map, arith}
use Rattle.std.specs.Prelude.{fold, filter}
use Rattle.std.specs.List.{flat_map}
use Rattle.std.specs.Prelude.{option_map, slice_get, unwrap_or, Result, Ok, Err, IfOk}
use Rattle.std.specs.Global.{Vec}
use Rattle.code_units.specs.Utf8.{utf8_of}
use Rattle.plain_tree.specs.declared.plain.Plain.TheVariants as plain
use Rattle.widget_form.specs.declared.form.Span.{Span}
use Rattle.std.proofs.lemmas.List.{append-nil, at_drop_all, take_more, take_all}
use Rattle.first_breach.specs.Lists.{In, here}
use Rattle.plain_tree.specs.declared.plain.Plain.{Plain}
use Rattle.plain_tree.specs.declared.plain.Attr.{Attr}
use Rattle.plain_tree.specs.Trees.{Trees, TextOf, ElementOf, End, Node, beside}
use Rattle.plain_tree.specs.Plains.{Places, placed, placed_all, element_node}
use Rattle.plain_tree.proofs.Lists.{placed_more, placed_text, placed_element, beside_assoc, beside_end}
use Rattle.markup_rules.specs.Elements.{Element, element, roots, scripts, tops, is_div, is_script, is_script_element, is_sourced, before_scripts, Item, items, is_blank, AText}
use Rattle.markup_rules.specs.Parts.{StaysInBody, EndsBody, with_body}
use Rattle.markup_rules.specs.Rows.{misrooted, first_place, ending, unended, Perhaps, IsGood}
use Rattle.widget_form.specs.Forms.{root_scripts, span_in, span_of, first_of_several}
use Rattle.markup_rules.proofs.Bodies.{before_at}

some≢none : {A : Type 0} {x : A} → Some x ≡ None → ⊥
some≢none e = let no : ⊥ = cc in no

cons≢nil : {A : Type 0} {x : A} {xs : List A} → x ∷ xs ≡ [] → ⊥
cons≢nil e = let no : ⊥ = cc in no

-- a place that is no breach is none
no_place : (rule : ℕ) (o : Option ℕ) → ((r p : ℕ) → Perhaps rule o r p → ⊥) → o ≡ None
no_place rule None h = refl
no_place rule (Some p) h = absurd (h rule p (record { same_rule = refl; same_place = refl }))

-- the file has a root
pub record HasRoot (file : Trees Places) : Type 0 where
  pub root : Element
  pub same : roots file ≡ root ∷ []

root_if : (b : Bool) (e : Element) (rest : List Item) (others : List Element) → cond b (first_place rest) (Some e.at) ≡ None → cond b (e ∷ []) others ≡ e ∷ []
root_if true e rest others h = refl
root_if false e rest others h = absurd (some≢none h)

blank_if : (b : Bool) (at : ℕ) (rest : List Item) → misrooted (cond b rest (AText at ∷ rest)) ≡ None → misrooted rest ≡ None
blank_if true at rest h = h
blank_if false at rest h = absurd (some≢none h)

pub has_root : (file : Trees Places) → misrooted (items file) ≡ None → HasRoot file
has_root End h = absurd (some≢none h)
has_root (Node m (TextOf us) ks ts) h = let r = has_root ts (blank_if (is_blank us) m.at (items ts) h) in record { root = r.root; same = r.same }
has_root (Node m (ElementOf tag attrs) ks ts) h = record { root = element m tag attrs ks; same = root_if (is_div tag) (element m tag attrs ks) (items ts) (roots ts) h }

-- without a script nothing ends the root
text_if : (b : Bool) (p : Option ℕ) (at : ℕ) (rest : List Item) → ((q : Option ℕ) → fold ending q rest ≡ None → q ≡ None) → fold ending p (cond b rest (AText at ∷ rest)) ≡ None → p ≡ None
text_if true p at rest go h = go p h
text_if false p at rest go h = absurd (some≢none (go (Some at) h))

script_if : (b sourced : Bool) (e : Element) (p : Option ℕ) (rest : List Item) (others : List Element) → ((q : Option ℕ) → others ≡ [] → fold ending q rest ≡ None → q ≡ None) → cond b (e ∷ others) others ≡ [] → fold ending (cond (b && not sourced) None (Some e.at)) rest ≡ None → p ≡ None
script_if true sourced e p rest others go none h = absurd (cons≢nil none)
script_if false sourced e p rest others go none h = absurd (some≢none (go (Some e.at) none h))

not_ended : (ks : Trees Places) (p : Option ℕ) → filter is_script_element (tops ks) ≡ [] → fold ending p (items ks) ≡ None → p ≡ None
not_ended End p none h = h
not_ended (Node m (TextOf us) ks ts) p none h = text_if (is_blank us) p m.at (items ts) (λ q. not_ended ts q none) h
not_ended (Node m (ElementOf tag attrs) ks ts) p none h = script_if (is_script tag) (is_sourced (element m tag attrs ks)) (element m tag attrs ks) p (items ts) (filter is_script_element (tops ts)) (not_ended ts) none h

-- the root of a good file has scripts
pub good_scripts : (name : List ℕ) (libs : List (List ℕ)) (file : Trees Places) → IsGood name libs file → root_scripts file ≡ [] → ⊥
good_scripts name libs file good none =
    let r = has_root file (no_place 2 (misrooted (items file)) (λ r p h. good r p (inl (inl h)))) in
    let of_root : scripts r.root ≡ [] = sym (append-nil (scripts r.root)) ∙ ap (λ l. flat_map scripts l) (sym r.same) ∙ none in
    let ended : unended r.root.at (items r.root.kids) ≡ None = no_place 4 (unended r.root.at (items r.root.kids)) (λ q p h. good q p (inr (inl (record { item = r.root; is_in = subst (λ l. In r.root l) (sym r.same) here; broken = inr (inl h) })))) in
    some≢none (not_ended r.root.kids (Some r.root.at) of_root ended)

-- ## What stands before the scripts

-- one tree more in the body
pub body_more : (xs : List Plain) (i : ℕ) (x : Plain) → i < length xs → x ≡ get_or xs i x → StaysInBody (placed x) → before_scripts (placed_all xs) ≡ beside (placed_all (take i xs)) (before_scripts (placed_all (drop i xs))) → before_scripts (placed_all xs) ≡ beside (placed_all (take (i + 1) xs)) (before_scripts (placed_all (drop (i + 1) xs)))
body_more xs i x lt ex stays inv =
    let rest = before_scripts (placed_all (drop (i + 1) xs)) in
    let t : placed_all (take (i + 1) xs) ≡ beside (placed_all (take i xs)) (placed x) = ap placed_all (take_more xs i x lt ∙ ap (λ y. take i xs ++ y ∷ []) (sym ex)) ∙ placed_more (take i xs) x in
    inv ∙ ap (beside (placed_all (take i xs))) (before_at xs i x lt ex ∙ stays (placed_all (drop (i + 1) xs)))
    ∙ sym (beside_assoc (placed_all (take i xs)) (placed x) rest) ∙ ap (λ u. beside u rest) (sym t)

-- the body ends at a script
pub body_ends : (xs : List Plain) (i : ℕ) (x : Plain) → i < length xs → x ≡ get_or xs i x → EndsBody (placed x) → before_scripts (placed_all xs) ≡ beside (placed_all (take i xs)) (before_scripts (placed_all (drop i xs))) → before_scripts (placed_all xs) ≡ placed_all (take i xs)
body_ends xs i x lt ex ends inv = inv ∙ ap (beside (placed_all (take i xs))) (before_at xs i x lt ex ∙ ends (placed_all (drop (i + 1) xs))) ∙ beside_end (placed_all (take i xs))

-- or at the end
pub body_all : (xs : List Plain) (i : ℕ) → length xs ≤ i → before_scripts (placed_all xs) ≡ beside (placed_all (take i xs)) (before_scripts (placed_all (drop i xs))) → before_scripts (placed_all xs) ≡ placed_all (take i xs)
body_all xs i le inv = inv ∙ ap (beside (placed_all (take i xs))) (at_drop_all (λ l. before_scripts (placed_all l)) xs i le) ∙ beside_end (placed_all (take i xs))

-- ## The parts of scripts

-- the whole list is before the first script
pub body_whole : (xs : List Plain) (i n : ℕ) → length xs ≤ i → n ≡ length xs → before_scripts (placed_all xs) ≡ placed_all (take i xs) → before_scripts (placed_all xs) ≡ placed_all (take n xs)
body_whole xs i n le e h = h ∙ ap placed_all (take_all i xs le ∙ sym (take_all n xs (omega (arith, e))))

pub trimmed_element : (root : Plain) (tag : List ℕ) (attrs : Vec Attr) (children rest : Vec Plain) (at n : ℕ) → root ≡ plain.Element tag attrs children at → rest.items ≡ take n children.items → before_scripts (placed_all children.items) ≡ placed_all (take n children.items) → placed (plain.Element tag attrs rest at) ≡ with_body (placed root)
trimmed_element root tag attrs children rest at n e cut body =
    placed_element tag attrs rest at
    ∙ ap (λ t. element_node tag attrs.items t at) (ap placed_all cut ∙ sym body)
    ∙ sym (ap with_body (ap placed e ∙ placed_element tag attrs children at))

pub trimmed_text : (root : Plain) (text : List ℕ) (at : ℕ) → root ≡ plain.Text text at → placed (plain.Text text at) ≡ with_body (placed root)
trimmed_text root text at e = placed_text text at ∙ sym (ap with_body (ap placed e ∙ placed_text text at))

-- where the first child stands
pub text_child : (p : Plain) (text : List ℕ) (at place : ℕ) (s : Span) (rest : Trees Places) → p ≡ plain.Text text place → s ≡ record { from = place; to = place + length (utf8_of text) } → s ≡ span_in at (beside (placed p) rest)
text_child p text at place s rest e es = es ∙ sym (ap (λ t. span_in at (beside t rest)) (ap placed e ∙ placed_text text place))

pub element_child : (p : Plain) (tag : List ℕ) (attrs : Vec Attr) (children : Vec Plain) (at place : ℕ) (rest : Trees Places) → p ≡ plain.Element tag attrs children place → record { from = at; to = at } ≡ span_in at (beside (placed p) rest)
element_child p tag attrs children at place rest e = sym (ap (λ t. span_in at (beside t rest)) (ap placed e ∙ placed_element tag attrs children place))

pub no_child : (at : ℕ) (xs : List Plain) → None ≡ slice_get xs 0 → record { from = at; to = at } ≡ span_in at (placed_all xs)
no_child at [] h = refl
no_child at (x ∷ xs) h = let never : ⊥ = cc in absurd never

pub first_child : (at : ℕ) (xs : List Plain) (x : Plain) (s : Span) → Some x ≡ slice_get xs 0 → ((rest : Trees Places) → s ≡ span_in at (beside (placed x) rest)) → s ≡ span_in at (placed_all xs)
first_child at [] x s e h = let never : ⊥ = cc in absurd never
first_child at (y ∷ xs) x s e h = h (placed_all xs) ∙ ap (λ z. span_in at (beside (placed z) (placed_all xs))) (ap (λ o. unwrap_or o x) e)

pub ok_child : {E : Type 0} (r : Result Span E) (at : ℕ) (xs : List Plain) (x : Plain) → Some x ≡ slice_get xs 0 → ((rest : Trees Places) → IfOk r (λ s. s ≡ span_in at (beside (placed x) rest))) → IfOk r (λ s. s ≡ span_in at (placed_all xs))
ok_child (Ok s) at xs x e h = first_child at xs x s e h
ok_child (Err e) at xs x is h = h End

-- the first of several
pub too_few : {A : Type 0} (f : A → Element) (xs : List A) → length xs < 2 → None ≡ option_map span_of (first_of_several (map f xs))
too_few f [] lt = refl
too_few f (x ∷ []) lt = refl
too_few f (x ∷ y ∷ rest) lt = absurd (omega (arith, lt))

pub several : {A : Type 0} (f : A → Element) (xs : List A) (x : A) (s : Span) → 2 ≤ length xs → x ≡ get_or xs 0 x → s ≡ span_of (f x) → Some s ≡ option_map span_of (first_of_several (map f xs))
several f [] x s le e es = absurd (omega (arith, le))
several f (y ∷ []) x s le e es = absurd (omega (arith, le))
several f (y ∷ z ∷ rest) x s le e es = ap Some (es ∙ ap (λ w. span_of (f w)) e)
