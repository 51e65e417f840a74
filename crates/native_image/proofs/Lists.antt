-- Lists of nodes that a loop goes over.
use Rattle.std.proofs.Common.{◌≡◌, ℕ, zero, suc, ◌+◌, ◌<◌, ◌≤◌, List, [], ◌∷◌, ◌++◌, Bool, true, false, refl, sym, ap, ◌∙◌, map, length, take, get_or, eqb, arith, ◌||◌}
use Rattle.std.specs.Prelude.{◌&&◌}
use Rattle.std.specs.List.{fold, list_all}
use Rattle.std.proofs.lemmas.List.Sums.{fold-append}
use Rattle.query_grammar.specs.Finds.{has_number}
use Rattle.query_grammar.proofs.Numbers.{has_first}
use Rattle.page_tree.specs.declared.page.Page.{Page}
use Rattle.page_image.specs.Image.{number, owns}
use Rattle.page_image.proofs.Looks.{told_apart}

second : (a b : Bool) → b ≡ true → (a || b) ≡ true
second true b e = refl
second false b e = e

-- one element more
pub take_next : {A : Type 0} (xs : List A) (d : A) (i : ℕ) → i < length xs → take (suc i) xs ≡ take i xs ++ get_or xs i d ∷ []
take_next [] d i lt = absurd (omega (arith, lt))
take_next (x ∷ xs) d zero lt = refl
take_next (x ∷ xs) d (suc i) lt = ap (λ l. x ∷ l) (take_next xs d i (omega (arith, lt)))

pub take_one : (xs : List ℕ) (i : ℕ) → i < length xs → take (i + 1) xs ≡ take i xs ++ get_or xs i 0 ∷ []
take_one xs i lt = let e : i + 1 ≡ suc i = omega arith in ap (λ k. take k xs) e ∙ take_next xs 0 i lt

pub take_whole : {A : Type 0} (xs : List A) (i : ℕ) → length xs ≤ i → take i xs ≡ xs
take_whole [] zero lt = refl
take_whole [] (suc i) lt = refl
take_whole (x ∷ xs) zero lt = absurd (omega (arith, lt))
take_whole (x ∷ xs) (suc i) lt = ap (λ l. x ∷ l) (take_whole xs i (omega (arith, lt)))

pub element_in : (xs : List ℕ) (i : ℕ) → i < length xs → has_number xs (get_or xs i 0) ≡ true
element_in [] i lt = absurd (omega (arith, lt))
element_in (x ∷ xs) zero lt = has_first x xs
element_in (x ∷ xs) (suc i) lt = second (eqb (get_or xs i 0) x) (has_number xs (get_or xs i 0)) (element_in xs i (omega (arith, lt)))

module _ (f : ℕ → ℕ) where
  map_one : (xs : List ℕ) (y : ℕ) → map f (xs ++ y ∷ []) ≡ map f xs ++ f y ∷ []
  map_one [] y = refl
  map_one (x ∷ xs) y = ap (λ l. f x ∷ l) (map_one xs y)

  pub mapped_one : (xs : List ℕ) (i : ℕ) → i < length xs → map f (take (i + 1) xs) ≡ map f (take i xs) ++ f (get_or xs i 0) ∷ []
  mapped_one xs i lt = ap (map f) (take_one xs i lt) ∙ map_one (take i xs) (get_or xs i 0)

  pub mapped_whole : (xs : List ℕ) (i : ℕ) → length xs ≤ i → map f (take i xs) ≡ map f xs
  mapped_whole xs i lt = ap (map f) (take_whole xs i lt)

pub map_push : (f : ℕ → ℕ) (xs : List ℕ) (y : ℕ) → map f (xs ++ y ∷ []) ≡ map f xs ++ f y ∷ []
map_push f xs y = map_one f xs y

-- one element more is folded in
pub folded_more : {A : Type 0} (f : A → ℕ → A) (a : A) (g : ℕ → ℕ) (b c : A) (xs : List ℕ) (i m : ℕ) → i < length xs → m ≡ g (get_or xs i 0) → b ≡ fold f a (map g (take i xs)) → c ≡ f b m → c ≡ fold f a (map g (take (i + 1) xs))
folded_more f a g b c xs i m lt is h e =
    e ∙ (λ j. f (h j) (is j))
    ∙ sym (ap (fold f a) (mapped_one g xs i lt) ∙ fold-append f a (map g (take i xs)) (g (get_or xs i 0) ∷ []))

-- ## What holds of all, what passes, what is there

pub all_push : (p : ℕ → Bool) (xs : List ℕ) (y : ℕ) → list_all p (xs ++ y ∷ []) ≡ (list_all p xs && p y)
all_push p [] y = and_true (p y)
  where
    and_true : (b : Bool) → (b && true) ≡ (true && b)
    and_true true = refl
    and_true false = refl
all_push p (x ∷ xs) y = by (p x) (all_push p xs y)
  where
    by : (b : Bool) → list_all p (xs ++ y ∷ []) ≡ (list_all p xs && p y) → (b && list_all p (xs ++ y ∷ [])) ≡ ((b && list_all p xs) && p y)
    by true h = h
    by false h = refl

pub open_more : (p : ℕ → Bool) (f : ℕ → ℕ) (xs : List ℕ) (i : ℕ) → i < length xs → list_all p (map f (take i xs)) ≡ true → p (f (get_or xs i 0)) ≡ true → list_all p (map f (take (i + 1) xs)) ≡ true
open_more p f xs i lt h e = ap (list_all p) (mapped_one f xs i lt) ∙ all_push p (map f (take i xs)) (f (get_or xs i 0)) ∙ (λ j. h j && e j)

pub all_not : (p : ℕ → Bool) (f : ℕ → ℕ) (xs : List ℕ) (i : ℕ) → i < length xs → p (f (get_or xs i 0)) ≡ false → list_all p (map f xs) ≡ false
all_not p f [] i lt h = absurd (omega (arith, lt))
all_not p f (x ∷ xs) zero lt h = ap (λ b. b && list_all p (map f xs)) h
all_not p f (x ∷ xs) (suc i) lt h = ap (λ b. p (f x) && b) (all_not p f xs i (omega (arith, lt)) h) ∙ none (p (f x))
  where
    none : (b : Bool) → (b && false) ≡ false
    none true = refl
    none false = refl

-- own numbers tell whether a node is among others
pub has_own : (p : Page) (w : ℕ) (xs : List ℕ) (n : ℕ) → ((m : ℕ) → has_number xs m ≡ true → owns p w m ≡ true) → owns p w n ≡ true → has_number (map (number p w) xs) (number p w n) ≡ has_number xs n
has_own p w [] n h o = refl
has_own p w (x ∷ xs) n h o =
    λ j. told_apart p w x n (h x (has_first x xs)) o j || has_own p w xs n (λ m e. h m (second (eqb m x) (has_number xs m) e)) o j
