-- What is read of the first node is what the meaning reads there.
use Rattle.std.proofs.Common.{◌≡◌, ℕ, ◌+◌, ◌≤◌, ◌<◌, arith, List, [], ◌∷◌, true, false, refl, sym, ap, ◌∙◌, map, length, Option, None, Some, unwrap_or, slice_get, codes, if◌then◌else◌}
use Rattle.std.specs.Prelude.{option_and_then, is_some, min, ◌-◌, ◌^◌}
use Rattle.native_common.specs.Numbers.{counted}
use Rattle.std.specs.Option.{option_map, option_map_or}
use Rattle.plain_tree.specs.Trees.{Label, ElementOf, TextOf}
use Rattle.tree_ops.specs.Labels.{attribute_of, is_text, tag_of}
use Rattle.permitted_table.specs.declared.native.ReadNative.{ReadNative}
use Rattle.permitted_table.specs.declared.native.ReadNative.TheVariants as method
use Rattle.widget_meaning.specs.BunchReads as means
use Rattle.widget_meaning.specs.Values.{Value}
use Rattle.widget_meaning.specs.OwnState.{State, kept_at}
use Rattle.widget_meaning.specs.PageForms as forms
use Rattle.widget_meaning.specs.Trees.{label_of}
use Rattle.page_nodes.specs.Entries.{at}
use Rattle.page_tree.specs.declared.page.Page.{Page}
use Rattle.page_tree.specs.Pages.{nodes}
use Rattle.query_walks.proofs.Members.{no_first}
use Rattle.page_image.specs.Image.{forest, label_at, number, owns}
use Rattle.page_image.proofs.Looks as looks

none_some : {A : Type 0} {a : A} → None ≡ Some a → ⊥
none_some e = cc

some_of : {A : Type 0} (a b : A) → Some a ≡ Some b → a ≡ b
some_of a b e = cc

pub some_mapped : {A B : Type 0} (f : A → B) (o : Option A) → is_some o ≡ is_some (option_map f o)
some_mapped f None = refl
some_mapped f (Some a) = refl

pub first_node : (list : List ℕ) (n : ℕ) → slice_get list 0 ≡ Some n → (others : List ℕ) × (list ≡ n ∷ others)
first_node [] n e = absurd (none_some e)
first_node (m ∷ ms) n e = (ms, λ j. some_of m n e j ∷ ms)

module _ (p : Page) (w : ℕ) (s : State) (there : s.own.forest ≡ forest p w) where
  abbrev own : List ℕ → List ℕ
  own list = map (number p w) list

  pub attribute_is : (n : ℕ) (x : List ℕ) (o : Option (List ℕ)) → o ≡ option_and_then (attribute_of x) (label_at p w n) → forms.attribute s (number p w n) x ≡ o
  attribute_is n x o e = ap (λ t. option_and_then (attribute_of x) (label_of (number p w n) t)) there ∙ sym e

  -- an attribute of the first node
  pub first_is : (list : List ℕ) (n : ℕ) (x : List ℕ) (o : Option (List ℕ)) → slice_get list 0 ≡ Some n → o ≡ option_and_then (attribute_of x) (label_at p w n) → o ≡ means.first_found s (own list) x
  first_is list n x o e h =
      let f = first_node list n e in
      sym (attribute_is n x o h) ∙ ap (λ l. means.first_found s (own l) x) (sym f.1)

  pub no_first_is : (list x : List ℕ) → slice_get list 0 ≡ None → None ≡ means.first_found s (own list) x
  no_first_is list x e = ap (λ l. means.first_found s (own l) x) (sym (no_first list e))

  -- the tag of a node
  abbrev name_of : Option Label → List ℕ
  name_of o = if option_map_or is_text o false then codes "#text" else unwrap_or (option_and_then tag_of o) []

  named : (l : Label) → name_of (Some l) ≡ unwrap_or (tag_of l) (codes "#text")
  named (TextOf t) = refl
  named (ElementOf tag attributes) = refl

  pub tag_is : (n : ℕ) → owns p w n ≡ true → (o : Option (List ℕ)) → o ≡ option_and_then tag_of (label_at p w n) → unwrap_or o (codes "#text") ≡ (if forms.is_text_node s (number p w n) then codes "#text" else forms.tag_of s (number p w n))
  tag_is n h o e =
      ap (λ u. unwrap_or u (codes "#text")) (e ∙ ap (option_and_then tag_of) (looks.label_at p w n h))
      ∙ sym (named (at (nodes p) n).label)
      ∙ sym (ap name_of (looks.label_at p w n h))
      ∙ sym (ap (λ t. name_of (label_of (number p w n) t)) there)

  pub first_tag_is : (list : List ℕ) (n : ℕ) (t : List ℕ) → slice_get list 0 ≡ Some n → t ≡ (if forms.is_text_node s (number p w n) then codes "#text" else forms.tag_of s (number p w n)) → Some t ≡ means.first_tag s (own list)
  first_tag_is list n t e h =
      let f = first_node list n e in
      ap Some h ∙ ap (λ l. means.first_tag s (own l)) (sym f.1)

  pub no_tag : (list : List ℕ) → slice_get list 0 ≡ None → None ≡ means.first_tag s (own list)
  no_tag list e = ap (λ l. means.first_tag s (own l)) (sym (no_first list e))

-- the mark of the first node
module _ (p : Page) (w : ℕ) (s : State) where
  pub mark_is : (list : List ℕ) (n : ℕ) (m : List ℕ) → slice_get list 0 ≡ Some n → m ≡ (kept_at s (number p w n)).mark → m ≡ means.first_mark s (map (number p w) list)
  mark_is list n m e h =
      let f = first_node list n e in
      h ∙ ap (λ l. means.first_mark s (map (number p w) l)) (sym f.1)

  pub no_mark : (list : List ℕ) → slice_get list 0 ≡ None → [] ≡ means.first_mark s (map (number p w) list)
  no_mark list e = ap (λ l. means.first_mark s (map (number p w) l)) (sym (no_first list e))

-- what is counted of few nodes is how many there are
pub small : (a n : ℕ) → a ≡ n → n ≤ 16384 → a ≡ counted n
small a n e h = omega (arith, e, h)

pub both_counted : (a b c n m : ℕ) → a ≡ counted n → b ≡ counted m → c ≡ min (a + b) (2 ^ 64 - 1) → c ≡ counted (n + m)
both_counted a b c n m e f g = omega (arith, e, f, g)

pub first_counted : (a n : ℕ) → a ≡ counted n → a ≡ counted (a + 0)
first_counted a n e = omega (arith, e)

pub more_counted : (a b c n m k : ℕ) → a ≡ counted n → b ≡ counted m → c ≡ min (a + b) (2 ^ 64 - 1) → k ≡ n + m → c ≡ counted k
more_counted a b c n m k e f g h = omega (arith, e, f, g, h)

pub add_counted : (a b n m k : ℕ) → a ≡ counted (b + m) → b ≡ counted n → n + m ≡ k → a ≡ counted k
add_counted a b n m k e f g = omega (arith, e, f, g)

-- what was taken of the fuel is no more than there was
pub units_fit : (a all l left has spent : ℕ) → a ≡ counted all → left ≡ l + all + has → left + spent < 2 ^ 64 → a ≡ all
units_fit a all l left has spent e f g = omega (arith, e, f, g)

-- ## A text that is shown

extra_is : (m : ReadNative) → (m ≡ method.GetValue → ⊥) → (s : State) (ns : List ℕ) → means.shown_extra m s ns ≡ length ns
extra_is method.GetValue other s ns = absurd (other refl)
extra_is _ other s ns = refl

pub shown_gives : (m : ReadNative) → (m ≡ method.GetValue → ⊥) → (s : State) (ns : List ℕ) (n : ℕ) → length ns ≡ n → (o : Option (List ℕ)) → o ≡ means.shown m s ns → means.show m ns s ≡ means.give_found n o s
shown_gives m other s ns n e o h = λ j. means.give_found ((extra_is m other s ns ∙ e) j) (sym h j) s

-- the methods that are not named show a text
pub others_show : (m : ReadNative) → (m ≡ method.Explode → ⊥) → (m ≡ method.Query → ⊥) → (m ≡ method.GetValues → ⊥) → (m ≡ method.GetStyle → ⊥) → (m ≡ method.GetCheck → ⊥) → (m ≡ method.Count → ⊥) → (m ≡ method.GetParent → ⊥) → (ns : List ℕ) (vs : List Value) (s : State) → means.read_method m ns vs s ≡ means.show m ns s
others_show method.Explode a b c d e f g ns vs s = absurd (a refl)
others_show method.Query a b c d e f g ns vs s = absurd (b refl)
others_show method.GetValues a b c d e f g ns vs s = absurd (c refl)
others_show method.GetStyle a b c d e f g ns vs s = absurd (d refl)
others_show method.GetCheck a b c d e f g ns vs s = absurd (e refl)
others_show method.Count a b c d e f g ns vs s = absurd (f refl)
others_show method.GetParent a b c d e f g ns vs s = absurd (g refl)
others_show _ a b c d e f g ns vs s = refl
