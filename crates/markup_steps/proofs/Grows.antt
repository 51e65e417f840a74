-- Lists of trees and of open elements grow at their end.
use Rattle.std.proofs.Common.{◌≡◌, ℕ, zero, suc, ◌+◌, ◌-◌, ◌<◌, Some, slice_get, List, [], ◌∷◌, ◌++◌, length, refl, sym, ap, ◌∙◌, arith}
use Rattle.std.specs.Global.{Vec}
use Rattle.markup_grammar.specs.Machine as machine
use Rattle.markup_steps.specs.declared.reader.Open.{Open}
use Rattle.std.proofs.lemmas.Bool.{lt-ltb}
use Rattle.std.proofs.lemmas.Option.{slice_get_within}
use Rattle.std.specs.Prelude.{Bool, true, Option, None, nat_lt, if◌then◌else◌}
use Rattle.markup_grammar.specs.Signs.{Spot}
use Rattle.markup_grammar.specs.Grammar.{limit}
use Rattle.markup_steps.specs.States.{open_of, stack_on, top_tag}
use Rattle.plain_tree.specs.declared.plain.Attr.{Attr}
use Rattle.plain_tree.specs.declared.plain.Plain.{Plain}
use Rattle.plain_tree.specs.declared.plain.Plain.TheVariants as plain
use Rattle.plain_tree.specs.Trees.{Trees, beside}
use Rattle.plain_tree.specs.Plains.{Places, placed_all, text_node, element_node}
use Rattle.plain_tree.proofs.Lists.{placed_more, placed_text, placed_element}

-- one text more
pub one_text : (ps : List Plain) (text : List ℕ) (at : ℕ) → placed_all (ps ++ plain.Text text at ∷ []) ≡ beside (placed_all ps) (text_node text at)
one_text ps text at = placed_more ps (plain.Text text at) ∙ ap (beside (placed_all ps)) (placed_text text at)

-- one element more
pub one_element : (ps : List Plain) (tag : List ℕ) (attrs : Vec Attr) (children : Vec Plain) (at : ℕ) → placed_all (ps ++ plain.Element tag attrs children at ∷ []) ≡ beside (placed_all ps) (element_node tag attrs.items (placed_all children.items) at)
one_element ps tag attrs children at = placed_more ps (plain.Element tag attrs children at) ∙ ap (beside (placed_all ps)) (placed_element tag attrs children at)

-- one open element more
pub one_open : (k : List machine.Open) (xs : List Open) (x : Open) → stack_on k (xs ++ x ∷ []) ≡ open_of x ∷ stack_on k xs
one_open k [] x = refl
one_open k (y ∷ ys) x = one_open (open_of y ∷ k) ys x

-- so many are open
pub length_stack : (k : List machine.Open) (xs : List Open) → length (stack_on k xs) ≡ length k + length xs
length_stack k [] = omega arith
length_stack k (y ∷ ys) = length_stack (open_of y ∷ k) ys ∙ omega arith

-- one or more are open
pub end_goes : (ts : Trees Places) (k : List machine.Open) → 0 < length k → machine.end_begun ts k ≡ Some (machine.State_at (machine.Ending (top_tag k)) ts k)
end_goes ts [] lt = absurd (omega (arith, lt))
end_goes ts (o ∷ k) lt = refl

top_at : (k : List machine.Open) (xs : List Open) (n : ℕ) (o : Open) → suc n ≡ length xs → slice_get xs n ≡ Some o → top_tag (stack_on k xs) ≡ (o.head).tag
top_at k [] n o e g = absurd (omega (arith, e))
top_at k (x ∷ []) zero o e g = ap (λ y. y.head.tag) (some_is x o g)
  where
    some_is : (a b : Open) → Some a ≡ Some b → a ≡ b
    some_is a b h = cc
top_at k (x ∷ []) (suc n) o e g = absurd (omega (arith, e))
top_at k (x ∷ y ∷ ys) zero o e g = absurd (omega (arith, e))
top_at k (x ∷ y ∷ ys) (suc n) o e g = top_at (open_of x ∷ k) (y ∷ ys) n o (omega (arith, e)) g

-- the innermost element is the last
pub top_last : (xs : List Open) (o : Open) → slice_get xs (length xs - 1) ≡ Some o → top_tag (stack_on [] xs) ≡ (o.head).tag
top_last xs o g = top_at [] xs (length xs - 1) o (let lt = slice_get_within xs (length xs - 1) o g in omega (arith, lt)) g

-- none is open
pub no_top : (xs : List Open) → length xs ≡ 0 → top_tag (stack_on [] xs) ≡ []
no_top [] e = refl
no_top (x ∷ xs) e = absurd (omega (arith, e))

-- the tag is not nested too deep
pub tag_goes : (at : ℕ) (ts : Trees Places) (k : List machine.Open) (x : Spot) (us : List ℕ) → length k < 200 → us ≡ x.code ∷ [] → machine.tag_begun at ts k x ≡ Some (machine.State_at (machine.TagName at us) ts k)
unfolding limit
tag_goes at ts k x us lt e = if_true (nat_lt (length k) 200) _ _ (lt-ltb (length k) 200 lt) ∙ ap (λ l. Some (machine.State_at (machine.TagName at l) ts k)) (sym e)
  where
    if_true : (b : Bool) (p q : Option machine.State) → b ≡ true → (if b then p else q) ≡ p
    if_true b p q h = ap (λ c. if c then p else q) h

-- a text does not end where an element is open
pub unfinished : (m : machine.Mode) (ts : Trees Places) (k : List machine.Open) → 0 < length k → machine.finished (Some (machine.State_at m ts k)) ≡ None
unfinished m ts [] lt = absurd (omega (arith, lt))
unfinished machine.Between ts (o ∷ k) lt = refl
unfinished (machine.In (machine.InText at us)) ts (o ∷ k) lt = refl
unfinished (machine.In (machine.InValue h name at value_at double us)) ts (o ∷ k) lt = refl
unfinished m ts (o ∷ k) lt = refl
