-- The values of nodes.
use Rattle.std.proofs.Common.{◌≡◌, ℕ, zero, suc, ◌+◌, ◌<◌, List, [], ◌∷◌, ◌++◌, Bool, true, false, refl, sym, ap, ◌∙◌, map, length, take, get_or, arith, Option, None, Some, if◌then◌else◌, ◌||◌, slice_get, unwrap_or, codes, sum_by}
use Rattle.std.specs.Prelude.{option_and_then, not, Result, Ok, Err, IfOk}
use Rattle.std.specs.List.{list_any}
use Rattle.std.specs.Option.{option_map_or}
use Rattle.std.specs.Str.{bytes_eq}
use Rattle.store_cells.specs.declared.value.Value.TheVariants as value
use Rattle.store_cells.specs.Cells.{PlainCell}
use Rattle.plain_tree.specs.Trees.{ElementOf, Label, TextOf}
use Rattle.tree_ops.specs.Labels.{attribute_of, is_text, tag_of}
use Rattle.tree_ops.specs.Trees.{subtree}
use Rattle.query_grammar.specs.Filters as node
use Rattle.permitted_table.specs.declared.native.ReadNative.TheVariants.{GetValue}
use Rattle.widget_meaning.specs.BunchReads as means
use Rattle.widget_meaning.specs.NativeForms.{give_texts, is_too_long}
use Rattle.widget_meaning.specs.OwnState.{State}
use Rattle.widget_meaning.specs.PageForms as forms
use Rattle.widget_meaning.specs.PageForms.{texts_of}
use Rattle.widget_meaning.specs.Trees.{label_of}
use Rattle.widget_meaning.specs.Costs.{give, make_text}
use Rattle.widget_meaning.specs.Plan.{charge}
use Rattle.widget_meaning.specs.Values.{Text, Undefined}
use Rattle.query_walks.proofs.Members.{no_first}
use Rattle.std.proofs.lemmas.List.{length-map}
use Rattle.std.proofs.lemmas.List.Sums.{sum_by-cons}
use Rattle.bunch_read.proofs.Lists.{mapped_one}
use Rattle.js_image.specs.Image.{all_seen, no_rest}
use Rattle.js_image.specs.Held.{AreFine}
use Rattle.page_nodes.specs.Entries.{at}
use Rattle.page_tree.specs.declared.page.Page.{Page}
use Rattle.page_tree.specs.Pages.{nodes}
use Rattle.page_image.specs.Image.{forest, label_at, number, owns}
use Rattle.page_image.proofs.Looks as looks
use Rattle.bunch_read.specs.Values.{all_units, is_long}
use Rattle.bunch_read.proofs.Reading.{attribute_is, first_node}

some_of : {A : Type 0} (a b : A) → Some a ≡ Some b → a ≡ b
some_of a b e = cc

module _ (p : Page) (w : ℕ) (s : State) (there : s.own.forest ≡ forest p w) where
  -- whether the tag of a node is `input`, by what was read of it
  abbrev pub is_named : Option (List ℕ) → Bool
  is_named None = false
  is_named (Some t) = bytes_eq t (codes "input")

  named : (l : Label) → is_named (tag_of l) ≡ node.is_equal (if not (is_text l) then Some (unwrap_or (tag_of l) []) else None) (codes "input")
  named (TextOf t) = refl
  named (ElementOf tag attributes) = refl

  abbrev by_label : Option Label → Bool
  by_label o = node.is_equal (if not (option_map_or is_text o false) then Some (unwrap_or (option_and_then tag_of o) []) else None) (codes "input")

  pub input_is : (n : ℕ) → owns p w n ≡ true → (o : Option (List ℕ)) → o ≡ option_and_then tag_of (label_at p w n) → is_named o ≡ forms.is_input s (number p w n)
  input_is n h o e =
      ap is_named (e ∙ ap (option_and_then tag_of) (looks.label_at p w n h))
      ∙ named (at (nodes p) n).label
      ∙ sym (ap by_label (looks.label_at p w n h))
      ∙ sym (ap (λ t. by_label (label_of (number p w n) t)) there)

  -- the value of an `input`
  pub input_value : (n : ℕ) → forms.is_input s (number p w n) ≡ true → (o : Option (List ℕ)) → o ≡ option_and_then (attribute_of (codes "value")) (label_at p w n) → unwrap_or o [] ≡ means.value_of s (number p w n)
  input_value n b o e =
      ap (λ u. unwrap_or u []) (sym (attribute_is p w s there n (codes "value") o e))
      ∙ sym (ap (λ c. if c then unwrap_or (forms.attribute s (number p w n) (codes "value")) [] else texts_of (subtree (number p w n) s.own.forest)) b)

  -- the value of another node
  pub content_value : (n : ℕ) → forms.is_input s (number p w n) ≡ false → texts_of (subtree (number p w n) (forest p w)) ≡ means.value_of s (number p w n)
  content_value n b =
      ap (λ t. texts_of (subtree (number p w n) t)) (sym there)
      ∙ sym (ap (λ c. if c then unwrap_or (forms.attribute s (number p w n) (codes "value")) [] else texts_of (subtree (number p w n) s.own.forest)) b)

-- ## Several values

-- one text more
sum_push : (ts : List (List ℕ)) (t : List ℕ) → sum_by length (ts ++ t ∷ []) ≡ sum_by length ts + length t
sum_push [] t = let none : sum_by (length {A = ℕ}) [] ≡ 0 = refl in omega (arith, none, sum_by-cons length t [])
sum_push (x ∷ ts) t = omega (arith, sum_by-cons length x (ts ++ t ∷ []), sum_by-cons length x ts, sum_push ts t)

map_push_texts : (g : ℕ → List ℕ) (xs : List ℕ) (y : ℕ) → map g (xs ++ y ∷ []) ≡ map g xs ++ g y ∷ []
map_push_texts g [] y = refl
map_push_texts g (x ∷ xs) y = ap (λ l. g x ∷ l) (map_push_texts g xs y)

pub units_more : (s : State) (f : ℕ → ℕ) (xs : List ℕ) (i : ℕ) → i < length xs → all_units s (map f (take (i + 1) xs)) ≡ all_units s (map f (take i xs)) + length (means.value_of s (f (get_or xs i 0)))
units_more s f xs i lt =
    ap (all_units s) (mapped_one f xs i lt)
    ∙ ap (sum_by length) (map_push_texts (means.value_of s) (map f (take i xs)) (f (get_or xs i 0)))
    ∙ sum_push (map (means.value_of s) (map f (take i xs))) (means.value_of s (f (get_or xs i 0)))

pub values_more : (s : State) (f : ℕ → ℕ) (xs : List ℕ) (i : ℕ) → i < length xs → map value.Text (map (means.value_of s) (map f (take (i + 1) xs))) ≡ map value.Text (map (means.value_of s) (map f (take i xs))) ++ value.Text (means.value_of s (f (get_or xs i 0))) ∷ []
values_more s f xs i lt = let e : i + 1 ≡ suc i = omega arith in ap (λ k. map value.Text (map (means.value_of s) (map f (take k xs)))) e ∙ next xs i lt
  where
    next : (xs : List ℕ) (i : ℕ) → i < length xs → map value.Text (map (means.value_of s) (map f (take (suc i) xs))) ≡ map value.Text (map (means.value_of s) (map f (take i xs))) ++ value.Text (means.value_of s (f (get_or xs i 0))) ∷ []
    next [] i lt = absurd (omega (arith, lt))
    next (x ∷ xs) zero lt = refl
    next (x ∷ xs) (suc i) lt = ap (λ l. value.Text (means.value_of s (f x)) ∷ l) (next xs i (omega (arith, lt)))

-- texts as a widget sees them
pub texts_seen : (w : ℕ) (cells : List PlainCell) (ts : List (List ℕ)) → all_seen w cells (map value.Text ts) ≡ map Text ts
texts_seen w cells [] = refl
texts_seen w cells (t ∷ ts) = ap (λ l. Text t ∷ l) (texts_seen w cells ts)

pub texts_fine : (w : ℕ) (cells : List PlainCell) (ts : List (List ℕ)) → AreFine w cells (map value.Text ts)
texts_fine w cells [] = tt
texts_fine w cells (t ∷ ts) = (tt, texts_fine w cells ts)

pub long_texts : (ts : List (List ℕ)) → list_any is_long (map value.Text ts) ≡ list_any is_too_long ts
long_texts [] = refl
long_texts (t ∷ ts) = ap (λ b. is_too_long t || b) (long_texts ts)

-- `getValue()` of nodes of which this is the first
pub get_value_is : (p : Page) (w : ℕ) (s : State) (list : List ℕ) (n : ℕ) → slice_get list 0 ≡ Some n → means.show GetValue (map (number p w) list) s ≡ charge (length list + length (means.value_of s (number p w n))) s (make_text (means.value_of s (number p w n)) s (give (Text (means.value_of s (number p w n)))))
get_value_is p w s list n e =
    let f = first_node list n e in
    let v = means.value_of s (number p w n) in
    ap (λ l. means.show GetValue (map (number p w) l) s) f.1
    ∙ ap (λ m. charge (m + length v) s (make_text v s (give (Text v)))) (length-map (n ∷ f.0) (number p w) ∙ sym (ap length f.1))

pub no_value : (p : Page) (w : ℕ) (s : State) (list : List ℕ) → slice_get list 0 ≡ None → means.show GetValue (map (number p w) list) s ≡ give Undefined s
no_value p w s list e = ap (λ l. means.show GetValue (map (number p w) l) s) (no_first list e)

-- a state with this page
abbrev pub page_state : Page → ℕ → State
page_state p w = record no_rest.state { own = record no_rest.state.own { forest = forest p w } }

-- `getValues()` by how many nodes there are
pub get_values_is : (s : State) (f : ℕ → ℕ) (list : List ℕ) → means.get_values (map f list) s ≡ charge (length list + all_units s (map f list)) s (give_texts (map (means.value_of s) (map f list)) s)
get_values_is s f list = ap (λ m. charge (m + all_units s (map f list)) s (give_texts (map (means.value_of s) (map f list)) s)) (length-map list f)

-- two facts of what is given
pub if_both : {T E : Type 0} (r : Result T E) (P Q R : T → Type 0) → ((x : T) → P x → Q x → R x) → IfOk r P → IfOk r Q → IfOk r R
if_both (Ok x) P Q R f p q = f x p q
if_both (Err e) P Q R f p q = q
