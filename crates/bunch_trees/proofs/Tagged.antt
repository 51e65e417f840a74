-- Which nodes take a value.
use Rattle.std.proofs.Common.{◌≡◌, ℕ, ◌<◌, List, [], ◌∷◌, Bool, true, false, refl, sym, ap, ◌∙◌, length, Option, codes, arith, ◌||◌}
use Rattle.std.specs.Prelude.{◌&&◌, nat_eq, nat_lt, not, option_and_then, unwrap_or}
use Rattle.std.specs.List.{list_any}
use Rattle.std.specs.Str.{bytes_eq}
use Rattle.std.proofs.lemmas.Bool.Decides.{nat_tests}
use Rattle.tree_ops.specs.Labels.{tag_of}
use Rattle.widget_meaning.specs.BunchWrites.{has_new_text, is_value_target}
use Rattle.widget_meaning.specs.OwnState.{State}
use Rattle.widget_meaning.specs.PageForms.{is_input, is_tag, is_text_node}
use Rattle.widget_meaning.specs.Trees.{depth_of, label_of}
use Rattle.page_tree.specs.declared.page.Page.{Page}
use Rattle.page_image.specs.Image.{forest, label_at, number}
use Rattle.native_common.proofs.Loops.{over_no, over_yes}
use Rattle.bunch_trees.specs.Values.{is_closed_tag}

-- the tags that take no value
abbrev pub closed : List (List ℕ)
closed = codes "br" ∷ codes "hr" ∷ codes "img" ∷ []

any_of : (a b c : Bool) → (a || (b || (c || false))) ≡ ((a || b) || c)
any_of true b c = refl
any_of false true c = refl
any_of false false true = refl
any_of false false false = refl

pub closed_is : (p : Page) (w : ℕ) (s : State) → s.own.forest ≡ forest p w → (n : ℕ) (o : Option (List ℕ)) → o ≡ option_and_then tag_of (label_at p w n) → is_closed_tag (unwrap_or o []) ≡ is_tag closed s (number p w n)
closed_is p w s there n o e =
    sym
    (ap (λ f. list_any (bytes_eq (unwrap_or (option_and_then tag_of (label_of (number p w n) f)) [])) closed) there
    ∙ ap (λ u. list_any (bytes_eq (unwrap_or u [])) closed) (sym e)
    ∙ any_of (bytes_eq (unwrap_or o []) (codes "br")) (bytes_eq (unwrap_or o []) (codes "hr")) (bytes_eq (unwrap_or o []) (codes "img")))

-- a text of some units
pub is_some_text : (t : List ℕ) → nat_eq (length t) 0 ≡ false → 0 < length t
is_some_text t e = grind (arith, nat_tests, e)

pub is_no_text : (t : List ℕ) → nat_eq (length t) 0 ≡ true → length t ≡ 0
is_no_text t e = grind (arith, nat_tests, e)

module _ (s : State) (t : List ℕ) (n : ℕ) where
  pub none_new : length t ≡ 0 → false ≡ has_new_text s t n
  none_new e = sym (ap (λ b. b && not (is_text_node s n) && not (is_input s n)) (over_no 0 (length t) (omega (arith, e))))

  pub some_new : 0 < length t → (a b : Bool) → a ≡ is_text_node s n → b ≡ is_input s n → (not a && not b) ≡ has_new_text s t n
  some_new h a b e f = (λ j. not (e j) && not (f j)) ∙ sym (ap (λ c. c && not (is_text_node s n) && not (is_input s n)) (over_yes 0 (length t) h))

  abbrev takes : Bool → Bool → Bool
  takes a b = not a && (not b || nat_lt (depth_of n s.own.forest) 200)

  -- it is closed
  pub not_taken : is_tag closed s n ≡ true → false ≡ is_value_target s t n
  not_taken e = sym (ap (λ a. takes a (has_new_text s t n)) e)

  -- it gets no new node
  pub is_taken : is_tag closed s n ≡ false → has_new_text s t n ≡ false → true ≡ is_value_target s t n
  is_taken e f = sym (λ j. takes (e j) (f j))

  -- it gets one
  pub taken_above : (d : ℕ) → is_tag closed s n ≡ false → has_new_text s t n ≡ true → d ≡ depth_of n s.own.forest → nat_lt d 200 ≡ is_value_target s t n
  taken_above d e f g = ap (λ k. nat_lt k 200) g ∙ sym (λ j. takes (e j) (f j))

-- what is no element is not closed
pub none_closed : is_closed_tag [] ≡ false
none_closed = refl
