-- A file that breaks no rule, said plainly.
use Rattle.std.proofs.Common.{◌≡◌, ℕ, ◌+◌, ◌<◌, ◌≤◌, ◌⊎◌, inl, inr, Bool, true, false, ◌&&◌, ◌||◌, not, List, [], ◌∷◌, ◌++◌, codes, Option, Some, None, cond, refl, sym, ap, ◌∙◌, subst}
use Rattle.std.specs.Prelude.{fold, nat_lt}
use Rattle.std.specs.List.{list_any}
use Rattle.std.specs.Str.{bytes_eq}
use Rattle.std.proofs.lemmas.Bool.{cases_lt}
use Rattle.std.proofs.lemmas.Bool.Decides.{Decides-ltb}
use Rattle.std.proofs.lemmas.Slice.Eq.{bytes_eq-Decides}
use Rattle.first_breach.specs.Lists.{In, here, later}
use Rattle.first_breach.specs.Breaches.{One, If, Each, IsClean}
use Rattle.plain_tree.specs.declared.plain.Attr.{Attr}
use Rattle.plain_tree.specs.Trees.{Trees, TextOf, ElementOf, End, Node, size}
use Rattle.plain_tree.specs.Plains.{Places}
use Rattle.plain_tree.specs.Tags.{is_listed_tag, is_phrase, is_block, is_list, is_form, is_table}
use Rattle.plain_tree.specs.Words.{is_plain_words}
use Rattle.markup_rules.specs.Words.{is_wordy, is_address, has_word, is_own_id}
use Rattle.markup_rules.specs.Elements.{Element, element, elements, roots, others, scripts, is_div, is_script, is_sourced, is_named, first_named, before_scripts, Item, items, AText, AnElement, is_blank}
use Rattle.markup_rules.specs.Rows.{Perhaps, misrooted, first_place, misnamed, ending, unended, node_limit, is_allowed, is_unsafe, is_foreign, MarkupRows, AttributeRows, OtherRows, SlotRows, SlotAttributeRows, RootRows, IsGood, InsideRow, IdRow}
use Rattle.widget_form.specs.Good.{EndsInScript, IsRoot, IsListedElement, IsSafe, IsInner, IsWidgetFile}

-- ## Clean sets

no_place : (rule : ℕ) (o : Option ℕ) → IsClean (Perhaps rule o) → o ≡ None
no_place rule None clean = refl
no_place rule (Some p) clean = absurd (clean rule p (record { same_rule = refl; same_place = refl }))

no_if : (test : Bool) (rule place : ℕ) → IsClean (If test (One rule place)) → test ≡ false
no_if false rule place clean = refl
no_if true rule place clean = absurd (clean rule place (record { passed = refl; broken = record { same_rule = refl; same_place = refl } }))

clean_one : {A : Type 0} (Row : A → ℕ → ℕ → Type 0) (xs : List A) (x : A) → IsClean (Each Row xs) → In x xs → IsClean (Row x)
clean_one Row xs x clean is_in = λ r p h. clean r p (record { item = x; is_in = is_in; broken = h })

-- ## Tests

neither : (a b : Bool) → (not a && not b) ≡ false → (a ≡ true) ⊎ (b ≡ true)
neither true b h = inl refl
neither false true h = inr refl
neither false false h = let no : ⊥ = cc in absurd no

allowed : (b : Bool) → not b ≡ false → b ≡ true
allowed true h = refl
allowed false h = let no : ⊥ = cc in absurd no

second : (a b : Bool) → (a && not b) ≡ false → a ≡ true → b ≡ true
second true true h e = refl
second true false h e = let no : ⊥ = cc in absurd no
second false b h e = let no : ⊥ = cc in absurd no

third : (a b c : Bool) → (a && b && not c) ≡ false → a ≡ true → b ≡ true → c ≡ true
third true true c h e f = allowed c h
third true false c h e f = let no : ⊥ = cc in absurd no
third false b c h e f = let no : ⊥ = cc in absurd no

words_so : (a b r : Bool) → ((a && not b) || r) ≡ false → a ≡ true → b ≡ true
words_so true true r h e = refl
words_so true false r h e = let no : ⊥ = cc in absurd no
words_so false b r h e = let no : ⊥ = cc in absurd no

address_so : (l c d : Bool) → (l || (c && d)) ≡ false → c ≡ true → d ≡ false
address_so false true d h e = h
address_so false false d h e = let no : ⊥ = cc in absurd no
address_so true c d h e = let no : ⊥ = cc in absurd no

same_text : (xs ys : List ℕ) → bytes_eq xs ys ≡ true → xs ≡ ys
same_text xs ys h = (bytes_eq-Decides xs ys).0 h

text_same : (xs ys : List ℕ) → xs ≡ ys → bytes_eq xs ys ≡ true
text_same xs ys h = (bytes_eq-Decides xs ys).1 h

in_of_any : (x : List ℕ) (ys : List (List ℕ)) → list_any (bytes_eq x) ys ≡ true → In x ys
in_of_any x [] h = let no : ⊥ = cc in absurd no
in_of_any x (y ∷ ys) h = by (bytes_eq x y) refl (in_of_any x ys)
  where
    by : (b : Bool) → bytes_eq x y ≡ b → (list_any (bytes_eq x) ys ≡ true → In x ys) → In x (y ∷ ys)
    by true e go = subst (λ z. In x (z ∷ ys)) (same_text x y e) here
    by false e go = later (go (sym (ap (λ b. b || list_any (bytes_eq x) ys) e) ∙ h))

-- ## The root

-- one item that is a `div`
pub record OneRoot (list : List Item) : Type 0 where
  pub root : Element
  pub same : list ≡ AnElement root ∷ []
  pub div : is_div root.tag ≡ true

no_more : (list : List Item) → first_place list ≡ None → list ≡ []
no_more [] h = refl
no_more (i ∷ rest) h = let no : ⊥ = cc in absurd no

one_root : (list : List Item) → misrooted list ≡ None → OneRoot list
one_root [] h = let no : ⊥ = cc in absurd no
one_root (AText at ∷ rest) h = let no : ⊥ = cc in absurd no
one_root (AnElement e ∷ rest) h = by (is_div e.tag) refl
  where
    by : (b : Bool) → is_div e.tag ≡ b → OneRoot (AnElement e ∷ rest)
    by true is = record { root = e; same = ap (λ l. AnElement e ∷ l) (no_more rest (sym (ap (λ b. cond b (first_place rest) (Some e.at)) is) ∙ h)); div = is }
    by false is = let no : Some e.at ≡ None = sym (ap (λ b. cond b (first_place rest) (Some e.at)) is) ∙ h in let never : ⊥ = cc in absurd never

-- trees without items have no elements
no_elements : (ts : Trees Places) → items ts ≡ [] → elements ts ≡ []
no_elements End h = refl
no_elements (Node m (TextOf us) ks ts) h = by (is_blank us) refl (no_elements ts)
  where
    by : (b : Bool) → is_blank us ≡ b → (items ts ≡ [] → elements ts ≡ []) → elements ts ≡ []
    by true e go = go (sym (ap (λ b. cond b (items ts) (AText m.at ∷ items ts)) e) ∙ h)
    by false e go = let no : AText m.at ∷ items ts ≡ [] = sym (ap (λ b. cond b (items ts) (AText m.at ∷ items ts)) e) ∙ h in let never : ⊥ = cc in absurd never
no_elements (Node m (ElementOf tag attrs) ks ts) h = let no : ⊥ = cc in absurd no

-- the lists of a file that is one root
pub record Lists (root : Element) (file : Trees Places) : Type 0 where
  pub root_is : roots file ≡ root ∷ []
  pub all_are : elements file ≡ root ∷ elements root.kids
  pub others_are : others file ≡ elements root.kids

append_none : (xs : List Element) → xs ++ [] ≡ xs
append_none [] = refl
append_none (x ∷ xs) = ap (λ l. x ∷ l) (append_none xs)

lists_here : (m : Places) (tag : List ℕ) (attrs : List (List ℕ × List ℕ)) (ks ts : Trees Places) → elements ts ≡ [] → is_div tag ≡ true → Lists (element m tag attrs ks) (Node m (ElementOf tag attrs) ks ts)
lists_here m tag attrs ks ts none div =
    let e = element m tag attrs ks in
    let kids : elements ks ++ elements ts ≡ elements ks = ap (λ l. elements ks ++ l) none ∙ append_none (elements ks) in
    record {
      root_is = ap (λ b. cond b (e ∷ []) (roots ts)) div;
      all_are = ap (λ l. e ∷ l) kids;
      others_are = ap (λ b. cond b (elements ks ++ elements ts) (e ∷ (elements ks ++ others ts))) div ∙ kids;
    }

lists_of : (root : Element) (file : Trees Places) → items file ≡ AnElement root ∷ [] → is_div root.tag ≡ true → Lists root file
lists_of root End h div = let no : ⊥ = cc in absurd no
lists_of root (Node m (TextOf us) ks ts) h div = by (is_blank us) refl (λ is. lists_of root ts is div)
  where
    by : (b : Bool) → is_blank us ≡ b → (items ts ≡ AnElement root ∷ [] → Lists root ts) → Lists root (Node m (TextOf us) ks ts)
    by true e go = let rest = go (sym (ap (λ b. cond b (items ts) (AText m.at ∷ items ts)) e) ∙ h) in record { root_is = rest.root_is; all_are = rest.all_are; others_are = rest.others_are }
    by false e go = let no : AText m.at ∷ items ts ≡ AnElement root ∷ [] = sym (ap (λ b. cond b (items ts) (AText m.at ∷ items ts)) e) ∙ h in let never : ⊥ = cc in absurd never
lists_of root (Node m (ElementOf tag attrs) ks ts) h div =
    let same : element m tag attrs ks ≡ root = cc in
    let none : items ts ≡ [] = cc in
    subst (λ e. Lists e (Node m (ElementOf tag attrs) ks ts)) same (lists_here m tag attrs ks ts (no_elements ts none) (subst (λ e. is_div e.tag ≡ true) (sym same) div))

-- the last item is a script of its own, or there is none and what was before has ended
ends_in : (list : List Item) (p : Option ℕ) → fold ending p list ≡ None → ((list ≡ []) × (p ≡ None)) ⊎ EndsInScript list
ends_in [] p h = inl (refl, h)
ends_in (i ∷ list) p h = by (ends_in list (ending p i) h)
  where
    own : (i : Item) → ending p i ≡ None → EndsInScript (i ∷ [])
    own (AText at) h = let no : ⊥ = cc in absurd no
    own (AnElement e) h = script (is_script e.tag) (is_sourced e) refl refl
      where
        script : (b c : Bool) → is_script e.tag ≡ b → is_sourced e ≡ c → EndsInScript (AnElement e ∷ [])
        script true false s o = record { before = []; script = e; same = refl; tag = same_text e.tag (codes "script") s; own = o }
        script true true s o = let no : Some e.at ≡ None = sym (ap (λ b. cond (b && not (is_sourced e)) None (Some e.at)) s ∙ ap (λ b. cond (not b) None (Some e.at)) o) ∙ h in let never : ⊥ = cc in absurd never
        script false c s o = let no : Some e.at ≡ None = sym (ap (λ b. cond (b && not (is_sourced e)) None (Some e.at)) s) ∙ h in let never : ⊥ = cc in absurd never

    by : ((list ≡ []) × (ending p i ≡ None)) ⊎ EndsInScript list → ((i ∷ list ≡ []) × (p ≡ None)) ⊎ EndsInScript (i ∷ list)
    by (inl none) = inr (subst (λ l. EndsInScript (i ∷ l)) (sym none.0) (own i none.1))
    by (inr ends) = inr (record { before = i ∷ ends.before; script = ends.script; same = ap (λ l. i ∷ l) ends.same; tag = ends.tag; own = ends.own })

ended : (at : ℕ) (list : List Item) → unended at list ≡ None → EndsInScript list
ended at list h = by (ends_in list (Some at) h)
  where
    by : ((list ≡ []) × (Some at ≡ None)) ⊎ EndsInScript list → EndsInScript list
    by (inl none) = let no = none.1 in let never : ⊥ = cc in absurd never
    by (inr ends) = ends

-- the `id` of the root
pub record IsNamed (name : List ℕ) (o : Option Attr) : Type 0 where
  pub id : Attr
  pub is : o ≡ Some id
  pub named : id.value ≡ name

is_named_so : (name : List ℕ) (at : ℕ) (o : Option Attr) → misnamed name at o ≡ None → IsNamed name o
is_named_so name at None h = let no : ⊥ = cc in absurd no
is_named_so name at (Some a) h = by (bytes_eq a.value name) refl
  where
    by : (b : Bool) → bytes_eq a.value name ≡ b → IsNamed name (Some a)
    by true e = record { id = a; is = refl; named = same_text a.value name e }
    by false e = let no : Some a.value_at ≡ None = sym (ap (λ b. cond b None (Some a.value_at)) e) ∙ h in let never : ⊥ = cc in absurd never

within : (n : ℕ) → nat_lt node_limit n ≡ false → n ≤ node_limit
within n h = by (cases_lt node_limit n)
  where
    by : (node_limit < n) ⊎ (n ≤ node_limit) → n ≤ node_limit
    by (inl lt) = let yes = (Decides-ltb node_limit n).1 lt in let no : ⊥ = cc in absurd no
    by (inr le) = le

root_of : (name : List ℕ) (root : Element) → is_div root.tag ≡ true → IsClean (RootRows name root) → IsRoot name root
root_of name root div clean =
    let id = is_named_so name root.at (first_named (codes "id") root.attrs) (no_place 3 (misnamed name root.at (first_named (codes "id") root.attrs)) (λ r p h. clean r p (inl h))) in
    record {
      tag = same_text root.tag (codes "div") div;
      id = id.id;
      first = id.is;
      named = id.named;
      ends = ended root.at (items root.kids) (no_place 4 (unended root.at (items root.kids)) (λ r p h. clean r p (inr (inl h))));
      few = within (size (before_scripts root.kids) + 1) (no_if (nat_lt node_limit (size (before_scripts root.kids) + 1)) 12 root.at (λ r p h. clean r p (inr (inr (inr h)))));
    }

-- ## The elements

attribute_of : (of_script : Bool) (a : Attr) → IsClean (AttributeRows of_script a) → is_allowed of_script a.name ≡ true
attribute_of of_script a clean = allowed (is_allowed of_script a.name) (no_if (not (is_allowed of_script a.name)) 7 a.at (λ r p h. clean r p (inl h)))

source_of : (name : List ℕ) (libs : List (List ℕ)) (of_script : Bool) (a : Attr) → IsClean (SlotAttributeRows name libs of_script a) → of_script ≡ true → a.name ≡ codes "src" → In a.value libs
source_of name libs of_script a clean script src =
    in_of_any a.value libs (third of_script (is_named (codes "src") a) (list_any (bytes_eq a.value) libs) (no_if (of_script && is_named (codes "src") a && not (list_any (bytes_eq a.value) libs)) 11 a.value_at (λ r p h. clean r p (inr h))) script (text_same a.name (codes "src") src))

script_unlisted : is_listed_tag (codes "script") ≡ false
unfolding is_phrase is_block is_list is_form is_table
script_unlisted = refl

listed_no_script : (b : Bool) (tag : List ℕ) → is_script tag ≡ b → is_listed_tag tag ≡ true → b ≡ false
listed_no_script false tag s l = refl
listed_no_script true tag s l =
    let e : tag ≡ codes "script" = same_text tag (codes "script") s in
    let no : is_listed_tag (codes "script") ≡ true = sym (ap is_listed_tag e) ∙ l in
    let unlisted = script_unlisted in
    let never : ⊥ = cc in absurd never

listed_of : (name : List ℕ) (libs : List (List ℕ)) (e : Element) → IsClean (MarkupRows e) → IsClean (SlotRows name libs e) → IsListedElement libs e
listed_of name libs e markup slot =
    let P : Bool → Type 0 = λ b. (a : Attr) → In a e.attrs → is_allowed b a.name ≡ true in
    let all : P (is_script e.tag) = λ a is_in. attribute_of (is_script e.tag) a (clean_one (AttributeRows (is_script e.tag)) e.attrs a (λ r p h. markup r p (inr (inr h))) is_in) in
    record {
      tag = by (neither (is_script e.tag) (is_listed_tag e.tag) (no_if (is_foreign e.tag) 6 e.at (λ r p h. markup r p (inl h))));
      of_script = λ is. subst P (text_same e.tag (codes "script") is) all;
      of_other = λ is. subst P (listed_no_script (is_script e.tag) e.tag refl is) all;
      source = λ is a is_in src. source_of name libs (is_script e.tag) a (clean_one (SlotAttributeRows name libs (is_script e.tag)) e.attrs a (λ r p h. slot r p (inr h)) is_in) (text_same e.tag (codes "script") is) src;
    }
  where
    by : (is_script e.tag ≡ true) ⊎ (is_listed_tag e.tag ≡ true) → (e.tag ≡ codes "script") ⊎ (is_listed_tag e.tag ≡ true)
    by (inl s) = inl (same_text e.tag (codes "script") s)
    by (inr l) = inr l

safe_of : (name : List ℕ) (libs : List (List ℕ)) (of_script : Bool) (a : Attr) → IsClean (AttributeRows of_script a) → IsClean (SlotAttributeRows name libs of_script a) → IsSafe name a
safe_of name libs of_script a markup slot =
    let harmless = no_if (is_unsafe a) 9 a.value_at (λ r p h. markup r p (inr (inl h))) in
    let wordy = is_wordy a.name && not (is_plain_words a.value) in
    record {
      words = words_so (is_wordy a.name) (is_plain_words a.value) (is_address a.name && has_word (codes "javascript:") a.value) harmless;
      address = address_so wordy (is_address a.name) (has_word (codes "javascript:") a.value) harmless;
      label = λ is. second (is_named (codes "for") a) (is_own_id name a.value) (no_if (is_named (codes "for") a && not (is_own_id name a.value)) 8 a.value_at (λ r p h. slot r p (inl h))) (text_same a.name (codes "for") is);
    }

no_scripts : (list : List Element) → IsClean (Each InsideRow list) → list ≡ []
no_scripts [] clean = refl
no_scripts (s ∷ rest) clean = absurd (clean 5 s.at (record { item = s; is_in = here; broken = record { same_rule = refl; same_place = refl } }))

inner_of : (name : List ℕ) (e : Element) → IsClean (OtherRows name e) → IsInner name e
inner_of name e clean =
    record {
      scriptless = no_scripts (scripts e) (λ r p h. clean r p (inl h));
      own = λ a is_in id. second (is_named (codes "id") a) (is_own_id name a.value) (no_if (is_named (codes "id") a && not (is_own_id name a.value)) 8 a.value_at (clean_one (IdRow name) e.attrs a (λ r p h. clean r p (inr h)) is_in)) (text_same a.name (codes "id") id);
    }

pub good_file : (name : List ℕ) (libs : List (List ℕ)) (file : Trees Places) → IsGood name libs file → IsWidgetFile name libs file
good_file name libs file good =
    let one = one_root (items file) (no_place 2 (misrooted (items file)) (λ r p h. good r p (inl (inl h)))) in
    let root = one.root in
    let lists = lists_of root file one.same one.div in
    let markup : IsClean (Each MarkupRows (elements file)) = λ r p h. good r p (inr (inr (inr (inl h)))) in
    let slot : IsClean (Each (SlotRows name libs) (elements file)) = λ r p h. good r p (inr (inr (inr (inr h)))) in
    let other : IsClean (Each (OtherRows name) (others file)) = λ r p h. good r p (inr (inr (inl h))) in
    let rooted : IsClean (Each (RootRows name) (roots file)) = λ r p h. good r p (inr (inl h)) in
    record {
      root = root;
      alone = one.same;
      is_root = root_of name root one.div (clean_one (RootRows name) (root ∷ []) root (subst (λ l. IsClean (Each (RootRows name) l)) lists.root_is rooted) here);
      listed = λ e is_in. listed_of name libs e
          (clean_one MarkupRows (root ∷ elements root.kids) e (subst (λ l. IsClean (Each MarkupRows l)) lists.all_are markup) is_in)
          (clean_one (SlotRows name libs) (root ∷ elements root.kids) e (subst (λ l. IsClean (Each (SlotRows name libs) l)) lists.all_are slot) is_in);
      safe = λ e a is_in in_e. safe_of name libs (is_script e.tag) a
          (clean_one (AttributeRows (is_script e.tag)) e.attrs a (λ r p h. clean_one MarkupRows (root ∷ elements root.kids) e (subst (λ l. IsClean (Each MarkupRows l)) lists.all_are markup) is_in r p (inr (inr h))) in_e)
          (clean_one (SlotAttributeRows name libs (is_script e.tag)) e.attrs a (λ r p h. clean_one (SlotRows name libs) (root ∷ elements root.kids) e (subst (λ l. IsClean (Each (SlotRows name libs) l)) lists.all_are slot) is_in r p (inr h)) in_e);
      inner = λ e is_in. inner_of name e (clean_one (OtherRows name) (elements root.kids) e (subst (λ l. IsClean (Each (OtherRows name) l)) lists.others_are other) is_in);
    }
