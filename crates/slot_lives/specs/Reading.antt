-- Trees whose printed text can be read, and what reading it says.
use Rattle.std.specs.Prelude.{◌≡◌, ℕ, ◌≤◌, List, Bool, true, nat_lt, ◌&&◌, ◌||◌, not, codes}
use Rattle.std.specs.List.{list_all}
use Rattle.std.specs.Str.{bytes_eq}
use Rattle.std.specs.Char.Utf16.{has_unpaired_surrogate}
use Rattle.plain_tree.specs.Names.{is_script}
use Rattle.plain_tree.specs.Normal.{is_normal, is_empty}
use Rattle.plain_tree.specs.Plains.{Places}
use Rattle.plain_tree.specs.Trees.{Attribute, Label, TextOf, ElementOf, Trees, End, Node, PlainTrees, nesting, unmarked}
use Rattle.markup_grammar.specs.Markup.{MarkupSpells}

-- 16-bit units without a lone surrogate
abbrev pub is_text : List ℕ → Bool
is_text us = list_all (λ u. nat_lt u 65536) us && not (has_unpaired_surrogate us)

-- `style` gives the printed form of styles: the value is a text, and that of a `style` is not empty and is its own printed form
abbrev pub is_readable_value : (List ℕ → List ℕ) → Attribute → Bool
is_readable_value style a = is_text (a.1) && (not (bytes_eq (a.0) (codes "style")) || not (is_empty (a.1)) && bytes_eq (style (a.1)) (a.1))

-- a text; or an element that is no script, with values as above
abbrev pub is_readable_label : (List ℕ → List ℕ) → Label → Bool
is_readable_label style (TextOf us) = is_text us
is_readable_label style (ElementOf tag attrs) = not (is_script tag) && list_all (is_readable_value style) attrs

abbrev pub all_labels : {M : Type 0} → (Label → Bool) → Trees M → Bool
all_labels test End = true
all_labels test (Node m l ks ts) = test l && all_labels test ks && all_labels test ts

-- Normal trees, without scripts and lone surrogates, with styles in their printed form, and with at most 200 elements one above the other.
pub record IsReadable (style : List ℕ → List ℕ) (trees : PlainTrees) : Type 0 where
  pub normal : is_normal trees ≡ true
  pub labels : all_labels (is_readable_label style) trees ≡ true
  pub nested : nesting trees ≤ 200

-- The bytes are markup, and whatever trees they spell are these, places left out.
pub record ReadsAs (bytes : List ℕ) (trees : PlainTrees) : Type 0 where
  pub read : (ts : Trees Places) × MarkupSpells bytes ts
  pub same : (ts : Trees Places) → MarkupSpells bytes ts → unmarked ts ≡ trees
