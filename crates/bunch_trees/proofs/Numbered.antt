-- The numbers of nodes as a page grows.
use Rattle.std.proofs.Common.{◌≡◌, ℕ, zero, suc, ◌+◌, ◌≤◌, List, [], ◌∷◌, ◌++◌, Bool, true, false, refl, sym, ap, ◌∙◌, map, length, take, get_or, eqb, eqb-true, arith, ◌||◌}
use Rattle.std.specs.Prelude.{◌-◌, nat_eq}
use Rattle.std.proofs.lemmas.Bool.Decides.{nat_tests}
use Rattle.query_grammar.specs.Finds.{has_number}
use Rattle.query_grammar.proofs.Numbers.{has_first}
use Rattle.page_tree.specs.declared.page.Page.{Page}
use Rattle.page_image.specs.Image.{number, owns}
use Rattle.native_image.specs.Sound.{KeepsPage}
use Rattle.native_image.specs.Handed.{numbers}
use Rattle.native_image.proofs.Lists.{element_in, mapped_one, mapped_whole}

later : (a b : Bool) → b ≡ true → (a || b) ≡ true
later true b e = refl
later false b e = e

module _ (w : ℕ) (p q : Page) (k : KeepsPage w p q) where
  -- nodes are still the widget's
  pub still_own : (ns : List ℕ) → ((n : ℕ) → has_number ns n ≡ true → owns p w n ≡ true) → (n : ℕ) → has_number ns n ≡ true → owns q w n ≡ true
  still_own ns own n h = k.owners w n (own n h)

  -- and have their numbers
  pub same_numbers : (ns : List ℕ) → ((n : ℕ) → has_number ns n ≡ true → owns p w n ≡ true) → map (number q w) ns ≡ map (number p w) ns
  same_numbers [] own = refl
  same_numbers (n ∷ ns) own = λ j. k.numbers w n (own n (has_first n ns)) j ∷ same_numbers ns (λ m h. own m (later (eqb m n) (has_number ns m) h)) j

-- ## The last of some nodes

pub no_nodes : (xs : List ℕ) → nat_eq (length xs) 0 ≡ true → xs ≡ []
no_nodes [] e = refl
no_nodes (x ∷ xs) e = absurd (some (grind (arith, nat_tests, e)))
  where
    some : suc (length xs) ≡ 0 → ⊥
    some h = omega (arith, h)

has_front : (xs : List ℕ) (i n : ℕ) → has_number (take i xs) n ≡ true → has_number xs n ≡ true
has_front xs zero n h = absurd (no_true h)
  where
    no_true : false ≡ true → ⊥
    no_true e = cc
has_front [] (suc i) n h = h
has_front (x ∷ xs) (suc i) n h = by (eqb n x) (has_front xs i n) h
  where
    by : (b : Bool) → (has_number (take i xs) n ≡ true → has_number xs n ≡ true) → (b || has_number (take i xs) n) ≡ true → (b || has_number xs n) ≡ true
    by true f e = refl
    by false f e = f e

pub front_own : (p : Page) (w : ℕ) (xs ys : List ℕ) (i : ℕ) → ys ≡ take i xs → ((n : ℕ) → has_number xs n ≡ true → owns p w n ≡ true) → (n : ℕ) → has_number ys n ≡ true → owns p w n ≡ true
front_own p w xs ys i e own n h = own n (has_front xs i n (sym (ap (λ l. has_number l n) e) ∙ h))

pub last_in : (xs : List ℕ) (n : ℕ) → 1 ≤ length xs → n ≡ get_or xs (length xs - 1) 0 → has_number xs n ≡ true
last_in xs n some e = ap (has_number xs) e ∙ element_in xs (length xs - 1) (omega (arith, some))

pub last_split : (f : ℕ → ℕ) (xs ys : List ℕ) (n : ℕ) → 1 ≤ length xs → ys ≡ take (length xs - 1) xs → n ≡ get_or xs (length xs - 1) 0 → map f xs ≡ map f ys ++ f n ∷ []
last_split f xs ys n some e g =
    sym (mapped_whole f xs (length xs - 1 + 1) (omega (arith, some)))
    ∙ mapped_one f xs (length xs - 1) (omega (arith, some))
    ∙ (λ j. map f (sym e j) ++ f (sym g j) ∷ [])

-- ## One node

pub one_own : (p : Page) (w m : ℕ) → owns p w m ≡ true → (n : ℕ) → has_number (m ∷ []) n ≡ true → owns p w n ≡ true
one_own p w m own n h = by (eqb n m) refl h
  where
    no_true : false ≡ true → ⊥
    no_true e = cc

    by : (b : Bool) → eqb n m ≡ b → (b || false) ≡ true → owns p w n ≡ true
    by true e f = ap (owns p w) (eqb-true n m e) ∙ own
    by false e f = absurd (no_true f)
