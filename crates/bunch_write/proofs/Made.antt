-- Elements that are made.
use Rattle.std.proofs.Common.{◌≡◌, ℕ, List, [], ◌∷◌, Bool, Option, refl, true, false, if◌then◌else◌, ◌∙◌, map, length, codes}
use Rattle.std.specs.Prelude.{◌&&◌, option_to_list, sum_by}
use Rattle.std.specs.List.{list_all}
use Rattle.plain_tree.specs.Tags.{is_listed_tag}
use Rattle.plain_tree.specs.Trees.{ElementOf}
use Rattle.plain_tree.specs.Words.{is_plain_words}
use Rattle.widget_meaning.specs.Costs.{throw}
use Rattle.widget_meaning.specs.DomNatives.{dom_tag, give_node, given_text}
use Rattle.widget_meaning.specs.OwnState.{State}
use Rattle.widget_meaning.specs.Values.{E4, to_text}
use Rattle.native_image.proofs.Wants.{unwanted, wanted}
use Rattle.store_cells.specs.declared.value.Value.{Value as StoreValue}
use Rattle.store_cells.specs.declared.value.Value.TheVariants as value
use Rattle.store_cells.specs.declared.value.Number.TheVariants as number
use Rattle.store_cells.specs.Cells.{PlainCell, own_count}
use Rattle.object_store.specs.Owned as store
use Rattle.object_store.specs.Owned.{visible_at}
use Rattle.js_image.specs.Image.{meant, seen}
use Rattle.bunch_attributes.specs.Values.{is_undefined}
use Rattle.bunch_write.specs.Tags.{may_make}

module _ (a : List ℕ) (ts : List (List ℕ)) (s : State) (tag : List ℕ) (o : Option (List ℕ)) (is : a ≡ tag) (given : ts ≡ option_to_list o) where
  same : dom_tag a ts s ≡ dom_tag tag (option_to_list o) s
  same = λ j. dom_tag (is j) (given j) s

  pub bad_tag : may_make tag o ≡ false → dom_tag a ts s ≡ throw E4 s
  bad_tag e = same ∙ unwanted E4 (is_listed_tag tag && list_all is_plain_words (option_to_list o)) s (give_node (ElementOf tag (map (λ t. (codes "type", t)) (option_to_list o))) (sum_by length (option_to_list o)) s) e

  pub good_tag : may_make tag o ≡ true → dom_tag a ts s ≡ give_node (ElementOf tag (map (λ t. (codes "type", t)) (option_to_list o))) (sum_by length (option_to_list o)) s
  good_tag e = same ∙ wanted E4 (is_listed_tag tag && list_all is_plain_words (option_to_list o)) s (give_node (ElementOf tag (map (λ t. (codes "type", t)) (option_to_list o))) (sum_by length (option_to_list o)) s) e

-- an argument that may be absent
pub given_none : (w : ℕ) (cells : List PlainCell) (t : StoreValue) → is_undefined t ≡ true → given_text (seen w cells t) ≡ []
given_none w cells value.Undefined h = refl
given_none w cells value.Null h = cc
given_none w cells (value.Bool b) h = cc
given_none w cells (value.Num n) h = cc
given_none w cells (value.Text t) h = cc
given_none w cells (value.Ref i) h = cc

pub given_some : (w : ℕ) (cells : List PlainCell) (t : StoreValue) → is_undefined t ≡ false → given_text (seen w cells t) ≡ to_text (seen w cells t) ∷ []
given_some w cells value.Undefined h = cc
given_some w cells value.Null h = refl
given_some w cells (value.Bool b) h = refl
given_some w cells (value.Num number.NaN) h = refl
given_some w cells (value.Num (number.Whole z)) h = refl
given_some w cells (value.Text t) h = refl
given_some w cells (value.Ref i) h = by (visible_at w cells i)
  where
    by : (b : Bool) → (let t = meant (if b then store.Own (own_count w cells i) else store.Other i) in given_text t ≡ to_text t ∷ [])
    by true = refl
    by false = refl
