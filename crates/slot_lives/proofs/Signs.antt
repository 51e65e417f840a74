-- Tests, and the signs of the characters that pass them.
use Rattle.std.proofs.Common.{◌≡◌, ℕ, Bool, true, false, cond, ◌&&◌, nat_lt, nat_eq, refl, sym, ap, ◌∙◌, subst, arith, eqb-true}
use Rattle.std.specs.Prelude.{◌||◌}
use Rattle.std.proofs.lemmas.Bool.{true≢false, cond-true}
use Rattle.std.proofs.lemmas.Bool.Decides.{nat_tests}
use Rattle.markup_grammar.specs.declared.Sign.{Sign}
use Rattle.markup_grammar.specs.declared.Sign.TheVariants as sign
use Rattle.markup_grammar.specs.Signs.{sign_of, in_tag, in_attribute, in_text, in_value, is_blank}
use Rattle.plain_tree.specs.Names.{is_letter, is_digit, is_in_tag, is_in_attribute}

pub both : {a b : Bool} → a ≡ true → b ≡ true → (a && b) ≡ true
both {a} {b} e f = ap (λ c. c && b) e ∙ f

-- ## Letters and digits

pub letter_sign : (c : ℕ) → is_letter c ≡ true → sign_of c ≡ sign.Letter
letter_sign c e = cond-true (is_letter c) sign.Letter _ e

tag_pick : (a b : Bool) (y : Sign) → (a || b) ≡ true → in_tag (cond a sign.Letter (cond b sign.Digit y)) ≡ true
tag_pick true b y e = refl
tag_pick false true y e = refl
tag_pick false false y e = cc

pub tag_sign : (c : ℕ) → is_in_tag c ≡ true → in_tag (sign_of c) ≡ true
tag_sign c e = tag_pick (is_letter c) (is_digit c) _ e

pub attribute_sign : (c : ℕ) → is_in_attribute c ≡ true → in_attribute (sign_of c) ≡ true
attribute_sign c e = by (is_letter c) refl e
  where
    by : (b : Bool) → is_letter c ≡ b → (b || nat_eq c 45) ≡ true → in_attribute (sign_of c) ≡ true
    by true h t = ap in_attribute (letter_sign c h)
    by false h t = subst (λ n. in_attribute (sign_of n) ≡ true) (sym (eqb-true c 45 t)) refl

pub letter_in_tag : (c : ℕ) → is_letter c ≡ true → is_in_tag c ≡ true
letter_in_tag c e = ap (λ b. b || is_digit c) e

pub letter_in_attribute : (c : ℕ) → is_letter c ≡ true → is_in_attribute c ≡ true
letter_in_attribute c e = ap (λ b. b || nat_eq c 45) e

pub tag_ascii : (c : ℕ) → is_in_tag c ≡ true → nat_lt c 128 ≡ true
tag_ascii c e = grind (arith, nat_tests)

pub attribute_ascii : (c : ℕ) → is_in_attribute c ≡ true → nat_lt c 128 ≡ true
attribute_ascii c e = grind (arith, nat_tests)

-- ## What stands for itself

pick : (f : Sign → Bool) (b : Bool) (x y : Sign) → (b ≡ true → f x ≡ true) → f y ≡ true → f (cond b x y) ≡ true
pick f true x y h k = h refl
pick f false x y h k = k

clash : {b : Bool} {A : Type 0} → b ≡ false → b ≡ true → A
clash e t = absurd (true≢false (sym t ∙ e))

pub value_sign : (c : ℕ) → nat_eq c 60 ≡ false → nat_eq c 38 ≡ false → nat_eq c 34 ≡ false → in_value true (sign_of c) ≡ true
value_sign c less ampersand quote =
    pick (in_value true) (is_letter c) sign.Letter _ (λ _. refl)
    (pick (in_value true) (is_digit c) sign.Digit _ (λ _. refl)
    (pick (in_value true) (is_blank c) sign.Blank _ (λ _. refl)
    (pick (in_value true) (nat_eq c 60) sign.Less _ (clash less)
    (pick (in_value true) (nat_eq c 62) sign.Greater _ (λ _. refl)
    (pick (in_value true) (nat_eq c 47) sign.Slash _ (λ _. refl)
    (pick (in_value true) (nat_eq c 61) sign.Equals _ (λ _. refl)
    (pick (in_value true) (nat_eq c 34) sign.DoubleQuote _ (clash quote)
    (pick (in_value true) (nat_eq c 39) sign.SingleQuote _ (λ _. refl)
    (pick (in_value true) (nat_eq c 38) sign.Ampersand _ (clash ampersand)
    (pick (in_value true) (nat_eq c 35) sign.Hash _ (λ _. refl)
    (pick (in_value true) (nat_eq c 59) sign.Semicolon _ (λ _. refl)
    (pick (in_value true) (nat_eq c 45) sign.Hyphen sign.Other (λ _. refl) refl))))))))))))

in_text_too : (s : Sign) → in_value true s ≡ true → in_text s ≡ true
in_text_too sign.Less e = cc
in_text_too sign.Ampersand e = cc
in_text_too _ e = refl

pub text_sign : (c : ℕ) → nat_eq c 60 ≡ false → nat_eq c 38 ≡ false → in_text (sign_of c) ≡ true
text_sign c less ampersand = by (nat_eq c 34) refl
  where
    by : (b : Bool) → nat_eq c 34 ≡ b → in_text (sign_of c) ≡ true
    by true t = subst (λ n. in_text (sign_of n) ≡ true) (sym (eqb-true c 34 t)) refl
    by false t = in_text_too (sign_of c) (value_sign c less ampersand t)
