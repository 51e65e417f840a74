-- Normal trees: reading what is printed of them gives them back.
use Rattle.std.specs.Prelude.{ℕ, List, [], ◌∷◌, Bool, true, false, nat_eq, ◌&&◌, not}
use Rattle.std.specs.List.{list_all}
use Rattle.plain_tree.specs.Names.{is_tag_name, is_attribute_name, is_void}
use Rattle.plain_tree.specs.Trees.{Attribute, TextOf, ElementOf, Trees, End, Node}

-- no unit is U+0000
abbrev pub is_without_null : List ℕ → Bool
is_without_null us = list_all (λ u. not (nat_eq u 0)) us

-- there is no unit
abbrev pub is_empty : List ℕ → Bool
is_empty [] = true
is_empty (u ∷ us) = false

-- the name is of the form of markup, and the value has no U+0000
abbrev pub is_normal_attribute : Attribute → Bool
is_normal_attribute a = is_attribute_name (a.0) && is_without_null (a.1)

-- there is no tree
abbrev pub is_end : {M : Type 0} → Trees M → Bool
is_end End = true
is_end (Node m l ks ts) = false

-- the first tree is no text
abbrev pub begins_no_text : {M : Type 0} → Trees M → Bool
begins_no_text End = true
begins_no_text (Node m (TextOf us) ks ts) = false
begins_no_text (Node m (ElementOf tag attrs) ks ts) = true

-- names and attributes are normal, no text is empty or stands beside another, and a void element has no children
abbrev pub is_normal : {M : Type 0} → Trees M → Bool
is_normal End = true
is_normal (Node m (TextOf us) ks ts) =
    not (is_empty us) && is_without_null us && is_end ks && begins_no_text ts && is_normal ts
is_normal (Node m (ElementOf tag attrs) ks ts) =
    is_tag_name tag && list_all is_normal_attribute attrs && not (is_void tag && not (is_end ks))
    && is_normal ks && is_normal ts
