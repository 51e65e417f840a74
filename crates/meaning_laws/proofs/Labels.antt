-- What is changed in a page leaves its tags, values and texts texts; and what is read of it is one.
use Rattle.std.proofs.Common.{ℕ, ◌+◌, List, [], ◌∷◌, Bool, true, false, cond, eqb}
use Rattle.std.specs.Prelude.{Option, Some, None, if◌then◌else◌, codes, nat_lt, unwrap_or, option_and_then, not, ⊤}
use Rattle.std.specs.List.{AllByRecursion, fold}
use Rattle.std.specs.Option.{option_or, option_map_or}
use Rattle.std.specs.Str.{bytes_eq}
use Rattle.plain_tree.specs.Trees.{Attribute, Label, TextOf, ElementOf, End, Node, beside, size, value_of}
use Rattle.tree_ops.specs.Labels.{tag_of, attribute_of, with_value, with_attribute}
use Rattle.tree_ops.specs.Trees.{tree_of, subtree, without, is_number, put_before, grafted, relabelled, numbered, copied}
use Rattle.style_text.specs.Styles.{print_style}
use Rattle.widget_meaning.specs.Styles.{style_pairs, with_property}
use Rattle.widget_meaning.specs.Trees.{Trees, among, with_detached, detached, moved, first_label, label_of, subtrees}
use Rattle.widget_meaning.specs.PageForms.{texts_of}
use Rattle.widget_meaning.specs.BunchWrites.{with_style, styled}
use Rattle.meaning_laws.specs.Texts.{AreUnits, MaybeUnits, LabelHasTexts, PageHasTexts}
use Rattle.meaning_laws.proofs.Each.{each_filtered}
use Rattle.meaning_laws.proofs.Units.{both_units}
use Rattle.meaning_laws.proofs.Styles.{PairHasTexts, style_pairs_are, property_set, print_is}

-- the values of attributes
abbrev pub ValuesAreTexts : List Attribute → Type 0
ValuesAreTexts attrs = AllByRecursion (λ a. AreUnits a.1) attrs

-- a label, if there is one
abbrev pub MaybeLabel : Option Label → Type 0
MaybeLabel None = ⊤
MaybeLabel (Some l) = LabelHasTexts l

-- ## Labels

value_put : (x v : List ℕ) (attrs : List Attribute) → AreUnits v → ValuesAreTexts attrs → ValuesAreTexts (with_value x v attrs)
value_put x v [] h k = (h, tt)
value_put x v (a ∷ attrs) h k = by (bytes_eq a.0 x) (value_put x v attrs h k.1)
  where
    by : (b : Bool) → ValuesAreTexts (with_value x v attrs) → ValuesAreTexts (if b then (a.0, v) ∷ attrs else a ∷ with_value x v attrs)
    by true i = (h, k.1)
    by false i = (k.0, i)

pub attribute_set : (x : List ℕ) (v : Option (List ℕ)) (l : Label) → MaybeUnits v → LabelHasTexts l → LabelHasTexts (with_attribute x v l)
attribute_set x v (TextOf t) h k = k
attribute_set x None (ElementOf tag attrs) h k = (k.0, each_filtered {A = Attribute} (λ a. AreUnits a.1) (λ a. not (bytes_eq a.0 x)) attrs k.1)
attribute_set x (Some v) (ElementOf tag attrs) h k = (k.0, value_put x v attrs h k.1)

value_found : (x : List ℕ) (attrs : List Attribute) → ValuesAreTexts attrs → MaybeUnits (value_of x attrs)
value_found x [] h = tt
value_found x (a ∷ attrs) h = by (bytes_eq a.0 x) (value_found x attrs h.1)
  where
    by : (b : Bool) → MaybeUnits (value_of x attrs) → MaybeUnits (if b then Some a.1 else value_of x attrs)
    by true i = h.0
    by false i = i

pub attribute_found : (x : List ℕ) (o : Option Label) → MaybeLabel o → MaybeUnits (option_and_then (attribute_of x) o)
attribute_found x None h = tt
attribute_found x (Some (TextOf t)) h = tt
attribute_found x (Some (ElementOf tag attrs)) h = value_found x attrs h.1

pub tag_found : (o : Option Label) → MaybeLabel o → MaybeUnits (option_and_then tag_of o)
tag_found None h = tt
tag_found (Some (TextOf t)) h = tt
tag_found (Some (ElementOf tag attrs)) h = h.0

pub or_empty : (o : Option (List ℕ)) → MaybeUnits o → AreUnits (unwrap_or o [])
or_empty None h = tt
or_empty (Some t) h = h

old_pairs : (o : Option (List ℕ)) → AllByRecursion PairHasTexts (option_map_or style_pairs o [])
old_pairs None = tt
old_pairs (Some t) = style_pairs_are t

style_set : (o : Option (List ℕ)) (p v : List ℕ) (l : Label) → AreUnits p → AreUnits v → LabelHasTexts l
    → LabelHasTexts (with_attribute (codes "style") (Some (print_style (with_property (option_map_or style_pairs o []) p v))) l)
style_set o p v l hp hv h = attribute_set (codes "style") (Some _) l (print_is _ (property_set (option_map_or style_pairs o []) p v (old_pairs o) hp hv)) h

styled_by : (o : Option (List ℕ)) (p v : List ℕ) (l : Label) → AreUnits p → AreUnits v → LabelHasTexts l → LabelHasTexts (with_style o p v l)
styled_by None p [] l hp hv h = h
styled_by None p (u ∷ us) l hp hv h = style_set None p (u ∷ us) l hp hv h
styled_by (Some t) p [] l hp hv h = style_set (Some t) p [] l hp hv h
styled_by (Some t) p (u ∷ us) l hp hv h = style_set (Some t) p (u ∷ us) l hp hv h

pub styled_is : (p v : List ℕ) (l : Label) → AreUnits p → AreUnits v → LabelHasTexts l → LabelHasTexts (styled p v l)
styled_is p v l hp hv h = styled_by (attribute_of (codes "style") l) p v l hp hv h

-- ## Trees

page_beside : (us ts : Trees) → PageHasTexts us → PageHasTexts ts → PageHasTexts (beside us ts)
page_beside End ts h i = i
page_beside (Node m l ks us) ts h i = (h.0, (h.1.0, page_beside us ts h.1.1 i))

page_before : (s : Option ℕ) (us ts : Trees) → PageHasTexts us → PageHasTexts ts → PageHasTexts (put_before s us ts)
page_before s us End h i = h
page_before s us (Node m l ks ts) h i = by (is_number m s) (page_before s us ts h i.1.1)
  where
    by : (c : Bool) → PageHasTexts (put_before s us ts) → PageHasTexts (cond c (beside us (Node m l ks ts)) (Node m l ks (put_before s us ts)))
    by true e = page_beside us (Node m l ks ts) h i
    by false e = (i.0, (i.1.0, e))

pub page_grafted : (q : ℕ) (s : Option ℕ) (us ts : Trees) → PageHasTexts us → PageHasTexts ts → PageHasTexts (grafted q s us ts)
page_grafted q s us End h i = tt
page_grafted q s us (Node m l ks ts) h i = (i.0, (by (eqb m q) (page_grafted q s us ks h i.1.0), page_grafted q s us ts h i.1.1))
  where
    by : (c : Bool) → PageHasTexts (grafted q s us ks) → PageHasTexts (cond c (put_before s us (grafted q s us ks)) (grafted q s us ks))
    by true e = page_before s us (grafted q s us ks) h e
    by false e = e

page_without : (q : ℕ) (ts : Trees) → PageHasTexts ts → PageHasTexts (without q ts)
page_without q End h = tt
page_without q (Node m l ks ts) h = by (eqb m q) (page_without q ks h.1.0) (page_without q ts h.1.1)
  where
    by : (c : Bool) → PageHasTexts (without q ks) → PageHasTexts (without q ts) → PageHasTexts (cond c (without q ts) (Node m l (without q ks) (without q ts)))
    by true e f = f
    by false e f = (h.0, (e, f))

pub page_subtree : (q : ℕ) (ts : Trees) → PageHasTexts ts → PageHasTexts (subtree q ts)
page_subtree q End h = tt
page_subtree q (Node m l ks ts) h = by (eqb m q) (tree_of q ks) (page_subtree q ks h.1.0) (page_subtree q ts h.1.1)
  where
    by : (c : Bool) (o : Option Trees) → PageHasTexts (unwrap_or o End) → PageHasTexts (subtree q ts)
        → PageHasTexts (unwrap_or (cond c (Some (Node m l ks End)) (option_or o (tree_of q ts))) End)
    by true o e f = (h.0, (h.1.0, tt))
    by false (Some t) e f = e
    by false None e f = f

page_among : (q : ℕ) (l : Label) (ks ts : Trees) → PageHasTexts (Node q l ks End) → PageHasTexts ts → PageHasTexts (among q l ks ts)
page_among q l ks End h i = h
page_among q l ks (Node m v us ts) h i = by (nat_lt q m) (page_among q l ks ts h i.1.1)
  where
    by : (c : Bool) → PageHasTexts (among q l ks ts) → PageHasTexts (cond c (Node q l ks (Node m v us ts)) (Node m v us (among q l ks ts)))
    by true e = (h.0, (h.1.0, i))
    by false e = (i.0, (i.1.0, e))

pub page_behind : (ts us : Trees) → PageHasTexts ts → PageHasTexts us → PageHasTexts (with_detached ts us)
page_behind End us h i = i
page_behind (Node q l ks ts) End h i = h
page_behind (Node q l ks ts) (Node r v us xs) h i =
    page_behind ts (Node r v us (among q l ks xs)) h.1.1 (i.0, (i.1.0, page_among q l ks xs (h.0, (h.1.0, tt)) i.1.1))

pub page_freed : (q : ℕ) (ts : Trees) → PageHasTexts ts → PageHasTexts (detached ts q)
page_freed q ts h = page_behind (subtree q ts) (without q ts) (page_subtree q ts h) (page_without q ts h)

pub page_all_freed : (ns : List ℕ) (ts : Trees) → PageHasTexts ts → PageHasTexts (fold detached ts ns)
page_all_freed [] ts h = h
page_all_freed (n ∷ ns) ts h = page_all_freed ns (detached ts n) (page_freed n ts h)

pub page_all_moved : (p : ℕ) (next : Option ℕ) (ns : List ℕ) (ts : Trees) → PageHasTexts ts → PageHasTexts (fold (moved p next) ts ns)
page_all_moved p next [] ts h = h
page_all_moved p next (n ∷ ns) ts h = page_all_moved p next ns (moved p next ts n) (page_grafted p next (subtree n ts) (without n ts) (page_subtree n ts h) (page_without n ts h))

pub page_relabelled : (q : ℕ) (v : Label) (ts : Trees) → LabelHasTexts v → PageHasTexts ts → PageHasTexts (relabelled q v ts)
page_relabelled q v End o h = tt
page_relabelled q v (Node m l ks ts) o h = (by (eqb m q), (page_relabelled q v ks o h.1.0, page_relabelled q v ts o h.1.1))
  where
    by : (c : Bool) → LabelHasTexts (cond c v l)
    by true = o
    by false = h.0

pub page_numbered : (n : ℕ) (ts : Trees) → PageHasTexts ts → PageHasTexts (numbered n ts)
page_numbered n End h = tt
page_numbered n (Node m l ks ts) h = (h.0, (page_numbered (n + 1) ks h.1.0, page_numbered (n + 1 + size ks) ts h.1.1))

pub page_copied : (ts : Trees) → PageHasTexts ts → PageHasTexts (copied ts)
page_copied End h = tt
page_copied (Node m l ks ts) h = (attribute_set (codes "id") None l tt h.0, (page_copied ks h.1.0, page_copied ts h.1.1))

pub page_subtrees : (ns : List ℕ) (ts : Trees) → PageHasTexts ts → PageHasTexts (subtrees ns ts)
page_subtrees [] ts h = tt
page_subtrees (n ∷ ns) ts h = page_beside (subtree n ts) (subtrees ns ts) (page_subtree n ts h) (page_subtrees ns ts h)

-- ## What is read

first_is : (ts : Trees) → PageHasTexts ts → MaybeLabel (first_label ts)
first_is End h = tt
first_is (Node m l ks ts) h = h.0

pub label_is : (n : ℕ) (ts : Trees) → PageHasTexts ts → MaybeLabel (label_of n ts)
label_is n ts h = first_is (subtree n ts) (page_subtree n ts h)

pub texts_are : (ts : Trees) → PageHasTexts ts → AreUnits (texts_of ts)
texts_are End h = tt
texts_are (Node m (TextOf t) ks ts) h = both_units t _ h.0 (both_units (texts_of ks) (texts_of ts) (texts_are ks h.1.0) (texts_are ts h.1.1))
texts_are (Node m (ElementOf tag attrs) ks ts) h = both_units (texts_of ks) (texts_of ts) (texts_are ks h.1.0) (texts_are ts h.1.1)
