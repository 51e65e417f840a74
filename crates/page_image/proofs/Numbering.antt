-- Laws on own numbers, of pages.
use Rattle.std.proofs.Common.{◌≡◌, ◌≢◌, ℕ, ◌+◌, ◌<◌, List, [], ◌∷◌, Bool, true, false, refl, sym, ap, ◌∙◌, map, eqb, eqb-true, eq-eqb, ◌||◌, arith, set, get_or}
use Rattle.page_tree.specs.declared.page.Page.{Page}
use Rattle.page_tree.specs.Pages.{nodes}
use Rattle.query_grammar.specs.Finds.{has_number}
use Rattle.query_grammar.proofs.Numbers.{has_first}
use Rattle.page_image.specs.Image.{owns, number, own}
use Rattle.page_image.specs.Stays.{Grows}
use Rattle.page_image.proofs.Kept.{at_own, set_own}
use Rattle.page_image.proofs.Looks.{told_apart}
use Rattle.page_image.proofs.Numbers.{lesser}

pub apart : (p : Page) (w n m : ℕ) → owns p w n ≡ true → owns p w m ≡ true → number p w n ≡ number p w m → n ≡ m
apart p w n m hn hm e = eqb-true n m (sym (told_apart p w m n hm hn) ∙ eq-eqb (number p w n) (number p w m) e)

pub ordered : (p : Page) (w n m : ℕ) → owns p w n ≡ true → n < m → number p w n < number p w m
unfolding owns number
ordered p w n m h lt = lesser (nodes p) w n m h lt

module _ {A : Type 0} where
  pub kept_there : (p : Page) (h : ℕ → A) (d : A) (w n : ℕ) → owns p w n ≡ true → get_or (map h (own p w)) (number p w n) d ≡ h n
  unfolding owns number own
  kept_there p h d w n e = let z : 0 + n ≡ n = omega arith in at_own h d (nodes p) w 0 n e ∙ ap h z

  pub kept_set : (p : Page) (h g : ℕ → A) (w n : ℕ) → owns p w n ≡ true → ((x : ℕ) → x ≢ n → g x ≡ h x) → map g (own p w) ≡ set (map h (own p w)) (number p w n) (g n)
  unfolding owns number own
  kept_set p h g w n e same = let z : 0 + n ≡ n = omega arith in set_own h g (nodes p) w 0 n e (λ x ne. same x (λ q. ne (q ∙ sym z))) ∙ ap (λ x. set (map h (own p w)) (number p w n) (g x)) z

pub stay : (old new : Page) (w : ℕ) (news held : List ℕ) → Grows old new w news → ((n : ℕ) → has_number held n ≡ true → owns old w n ≡ true) → map (number new w) held ≡ map (number old w) held
stay old new w news [] g own = refl
stay old new w news (n ∷ held) g own =
    ap (λ x. x ∷ map (number new w) held) (g.numbers w n (own n (has_first n held)))
    ∙ ap (λ l. number old w n ∷ l) (stay old new w news held g (λ m l. own m (last (eqb m n) l)))
  where
    last : (a : Bool) {b : Bool} → b ≡ true → (a || b) ≡ true
    last true e = refl
    last false e = e
