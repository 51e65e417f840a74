-- Attributes by their names.
use Rattle.std.proofs.Common.{◌≡◌, ℕ, List, [], ◌∷◌, ◌++◌, Bool, true, false, refl, sym, ap, ◌∙◌, cond, not, map, Option, Some, None}
use Rattle.std.specs.Prelude.{is_some}
use Rattle.std.specs.Str.{bytes_eq}
use Rattle.std.proofs.lemmas.Slice.Eq.{bytes_eq-Decides}
use Rattle.plain_tree.specs.Trees.{Attribute, Label, TextOf, ElementOf, value_of}
use Rattle.tree_ops.specs.Labels.{is_text, attribute_of, with_attribute, with_value, without_value}
use Rattle.tree_ops.proofs.Tests.{cases}

same_name : (a b : List ℕ) → bytes_eq a b ≡ true → a ≡ b
same_name a b h = (bytes_eq-Decides a b).0 h

itself : (a : List ℕ) → bytes_eq a a ≡ true
itself a = (bytes_eq-Decides a a).1 refl

-- another name is set, or taken out
value_other : (w n v : List ℕ) (ats : List Attribute) → bytes_eq n w ≡ false → value_of w (with_value n v ats) ≡ value_of w ats
value_other w n v [] h = ap (λ b. cond b (Some v) None) h
value_other w n v (x ∷ ats) h =
    cases (λ b. value_of w (cond b ((x.0, v) ∷ ats) (x ∷ with_value n v ats)) ≡ cond (bytes_eq (x.0) w) (Some (x.1)) (value_of w ats)) (bytes_eq (x.0) n)
    (λ e. let no : bytes_eq (x.0) w ≡ false = ap (λ y. bytes_eq y w) (same_name (x.0) n e) ∙ h in ap (λ b. cond b (Some v) (value_of w ats)) no ∙ sym (ap (λ b. cond b (Some (x.1)) (value_of w ats)) no))
    (λ _. ap (λ y. cond (bytes_eq (x.0) w) (Some (x.1)) y) (value_other w n v ats h))

value_left : (w n : List ℕ) (ats : List Attribute) → bytes_eq n w ≡ false → value_of w (without_value n ats) ≡ value_of w ats
value_left w n [] h = refl
value_left w n (x ∷ ats) h =
    cases (λ b. value_of w (cond (not b) (x ∷ without_value n ats) (without_value n ats)) ≡ cond (bytes_eq (x.0) w) (Some (x.1)) (value_of w ats)) (bytes_eq (x.0) n)
    (λ e. value_left w n ats h ∙ sym (ap (λ b. cond b (Some (x.1)) (value_of w ats)) (ap (λ y. bytes_eq y w) (same_name (x.0) n e) ∙ h)))
    (λ _. ap (λ y. cond (bytes_eq (x.0) w) (Some (x.1)) y) (value_left w n ats h))

-- the name itself
value_set : (n v : List ℕ) (ats : List Attribute) → value_of n (with_value n v ats) ≡ Some v
value_set n v [] = ap (λ b. cond b (Some v) None) (itself n)
value_set n v (x ∷ ats) =
    cases (λ b. bytes_eq (x.0) n ≡ b → value_of n (cond b ((x.0, v) ∷ ats) (x ∷ with_value n v ats)) ≡ Some v) (bytes_eq (x.0) n)
    (λ _ e. ap (λ b. cond b (Some v) (value_of n ats)) e)
    (λ _ e. ap (λ b. cond b (Some (x.1)) (value_of n (with_value n v ats))) e ∙ value_set n v ats) refl

value_gone : (n : List ℕ) (ats : List Attribute) → value_of n (without_value n ats) ≡ None
value_gone n [] = refl
value_gone n (x ∷ ats) =
    cases (λ b. bytes_eq (x.0) n ≡ b → value_of n (cond (not b) (x ∷ without_value n ats) (without_value n ats)) ≡ None) (bytes_eq (x.0) n)
    (λ _ e. value_gone n ats)
    (λ _ e. ap (λ b. cond b (Some (x.1)) (value_of n (without_value n ats))) e ∙ value_gone n ats) refl

pub attribute_other : (w n : List ℕ) (v : Option (List ℕ)) (l : Label) → bytes_eq n w ≡ false → attribute_of w (with_attribute n v l) ≡ attribute_of w l
attribute_other w n v (TextOf text) h = refl
attribute_other w n None (ElementOf tag ats) h = value_left w n ats h
attribute_other w n (Some v) (ElementOf tag ats) h = value_other w n v ats h

pub attribute_set : (w n : List ℕ) (v : Option (List ℕ)) (l : Label) → bytes_eq n w ≡ true → is_text l ≡ false → attribute_of w (with_attribute n v l) ≡ v
attribute_set w n v (TextOf text) h e = cc
attribute_set w n None (ElementOf tag ats) h e = ap (λ y. value_of y (without_value n ats)) (sym (same_name n w h)) ∙ value_gone n ats
attribute_set w n (Some v) (ElementOf tag ats) h e = ap (λ y. value_of y (with_value n v ats)) (sym (same_name n w h)) ∙ value_set n v ats

pub attribute_after : (name other : List ℕ) (value : Option (List ℕ)) (l : Label) → is_text l ≡ false → attribute_of other (with_attribute name value l) ≡ cond (bytes_eq name other) value (attribute_of other l)
attribute_after name other value l h =
    cases (λ b. bytes_eq name other ≡ b → attribute_of other (with_attribute name value l) ≡ cond b value (attribute_of other l)) (bytes_eq name other)
    (λ _ e. attribute_set other name value l e h)
    (λ _ e. attribute_other other name value l e) refl

-- the names in their order
abbrev names : List Attribute → List (List ℕ)
names ats = map (λ a. a.0) ats

pub names_after : (n v : List ℕ) (ats : List Attribute) → names (with_value n v ats) ≡ cond (is_some (value_of n ats)) (names ats) (names ats ++ n ∷ [])
names_after n v [] = refl
names_after n v (x ∷ ats) =
    cases (λ b. names (cond b ((x.0, v) ∷ ats) (x ∷ with_value n v ats)) ≡ cond (is_some (cond b (Some (x.1)) (value_of n ats))) (x.0 ∷ names ats) (x.0 ∷ (names ats ++ n ∷ []))) (bytes_eq (x.0) n)
    (λ _. refl)
    (λ _. ap (λ l. x.0 ∷ l) (names_after n v ats) ∙ more (is_some (value_of n ats)))
  where
    more : (b : Bool) → x.0 ∷ cond b (names ats) (names ats ++ n ∷ []) ≡ cond b (x.0 ∷ names ats) (x.0 ∷ (names ats ++ n ∷ []))
    more true = refl
    more false = refl
