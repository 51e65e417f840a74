-- What is read of a node's tag.
use Rattle.std.proofs.Common.{◌≡◌, ℕ, List, [], Bool, true, false, refl, sym, ap, ◌∙◌, Option, None, Some, codes, if◌then◌else◌, ◌||◌}
use Rattle.std.specs.Prelude.{is_none, not, option_and_then, unwrap_or}
use Rattle.std.specs.Option.{option_map_or}
use Rattle.plain_tree.specs.Trees.{ElementOf, Label, TextOf}
use Rattle.tree_ops.specs.Labels.{is_text, tag_of}
use Rattle.query_grammar.specs.Filters as filters
use Rattle.widget_meaning.specs.OwnState.{State}
use Rattle.widget_meaning.specs.PageForms as forms
use Rattle.widget_meaning.specs.Trees.{label_of}
use Rattle.page_nodes.specs.Entries.{at}
use Rattle.page_tree.specs.declared.page.Page.{Page}
use Rattle.page_tree.specs.Pages.{nodes}
use Rattle.page_image.specs.Image.{forest, label_at, number, owns}
use Rattle.page_image.proofs.Looks as looks
use Rattle.bunch_attributes.specs.declared.judging.Test.{Test}
use Rattle.bunch_attributes.specs.declared.judging.Test.TheVariants as test
use Rattle.bunch_attributes.specs.Tests.{passes}

no_true : false ≡ true → ⊥
no_true e = cc

not_true : (b : Bool) → not b ≡ true → b ≡ false
not_true true e = cc
not_true false e = refl

-- the tag as queries see it, by the label
abbrev look_tag : Option Label → Option (List ℕ)
look_tag o = if not (option_map_or is_text o false) then Some (unwrap_or (option_and_then tag_of o) []) else None

tag_there : (l : Label) → look_tag (Some l) ≡ tag_of l
tag_there (TextOf t) = refl
tag_there (ElementOf tag attributes) = refl

text_there : (l : Label) → is_none (tag_of l) ≡ is_text l
text_there (TextOf t) = refl
text_there (ElementOf tag attributes) = refl

module _ (p : Page) (w : ℕ) (s : State) (there : s.own.forest ≡ forest p w) (n : ℕ) (own : owns p w n ≡ true) (o : Option (List ℕ)) (e : o ≡ option_and_then tag_of (label_at p w n)) where
  label_here : label_of (number p w n) s.own.forest ≡ Some (at (nodes p) n).label
  label_here = ap (label_of (number p w n)) there ∙ looks.label_at p w n own

  read_tag : o ≡ tag_of (at (nodes p) n).label
  read_tag = e ∙ ap (option_and_then tag_of) (looks.label_at p w n own)

  -- queries see the tag that is read
  pub tag_seen : (forms.look s (number p w n)).tag ≡ o
  tag_seen = ap look_tag label_here ∙ tag_there (at (nodes p) n).label ∙ sym read_tag

  pub text_is : is_none o ≡ forms.is_text_node s (number p w n)
  text_is = ap is_none read_tag ∙ text_there (at (nodes p) n).label ∙ sym (ap (λ u. option_map_or is_text u false) label_here)

-- ## What passes is an element

none_tag : (look : filters.Look) → look.tag ≡ None → filters.is_input look ≡ false
none_tag look e = ap (λ o. filters.is_equal o (codes "input")) e

none_field : (look : filters.Look) → look.tag ≡ None → filters.is_field look ≡ false
none_field look e = ap (λ o. filters.is_equal o (codes "input") || filters.is_equal o (codes "button") || filters.is_equal o (codes "textarea") || filters.is_equal o (codes "select") || filters.is_equal o (codes "option")) e

pub passes_element : (t : Test) (s : State) (n : ℕ) → passes t s n ≡ true → forms.is_text_node s n ≡ false
passes_element test.Element s n h = not_true (forms.is_text_node s n) h
passes_element test.Input s n h = by (forms.is_text_node s n) refl
  where
    by : (b : Bool) → forms.is_text_node s n ≡ b → b ≡ false
    by true e = absurd (no_true (sym (none_tag (forms.look s n) (ap (λ c. if not c then Some (forms.tag_of s n) else None) e)) ∙ h))
    by false e = refl
passes_element test.Field s n h = by (forms.is_text_node s n) refl
  where
    by : (b : Bool) → forms.is_text_node s n ≡ b → b ≡ false
    by true e = absurd (no_true (sym (none_field (forms.look s n) (ap (λ c. if not c then Some (forms.tag_of s n) else None) e)) ∙ h))
    by false e = refl
