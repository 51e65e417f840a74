-- The machine over what stands in names, references, texts and values.
use Rattle.std.proofs.Common.{◌≡◌, ℕ, suc, ◌+◌, ◌-◌, ◌*◌, ◌<◌, ◌≤◌, List, [], ◌∷◌, ◌++◌, Bool, true, false, Option, Some, None, length, refl, ap, ◌∙◌, arith, cond, nat_lt, nat_eq, eq-eqb}
use Rattle.std.specs.Prelude.{◌&&◌, ◌||◌, codes, nat_le}
use Rattle.std.specs.Char.Escape.{encode_utf16}
use Rattle.std.proofs.lemmas.Bool.{lt-ltb, ltb-true}
use Rattle.std.proofs.lemmas.Bool.Decides.{nat_tests}
use Rattle.markup_grammar.specs.declared.Sign.{Sign}
use Rattle.markup_grammar.specs.declared.Sign.TheVariants as sign
use Rattle.markup_grammar.specs.Signs.{Spot, Char, in_tag, in_attribute, in_text, in_value, is_less, is_slash}
use Rattle.markup_grammar.specs.Grammar.{limit, Blanks, Name, Word, Digits, is_referable, Reference, Text, Value, Raw}
use Rattle.markup_grammar.specs.Grammar.Blanks.{no_blank, and_blank}
use Rattle.markup_grammar.specs.Grammar.Name.{first, next}
use Rattle.markup_grammar.specs.Grammar.Word.{done, letter}
use Rattle.markup_grammar.specs.Grammar.Digits.{no_digit, and_digit}
use Rattle.markup_grammar.specs.Grammar.Reference.{amp, lt, gt, quot, nbsp, number}
use Rattle.markup_grammar.specs.Grammar.Piece.{itself, reference}
use Rattle.markup_grammar.specs.Grammar.Text.{one_piece, more_text}
use Rattle.markup_grammar.specs.Grammar.Value.{empty, more_value}
use Rattle.markup_grammar.specs.Grammar.Raw.{no_raw, raw_character, raw_less}
use Rattle.markup_grammar.specs.Machine as machine
use Rattle.markup_grammar.specs.Machine.{Opening, Open, Run, InText, InValue, State, State_at, In, Between, Begun, TagName, Spaced, AttributeName, Refers, Ampersand, Named, Number, InRaw, grown, step, run}
use Rattle.plain_tree.specs.Trees.{Trees}
use Rattle.plain_tree.specs.Plains.{Places}

pub if_true : {A : Type 0} {b : Bool} (x y : A) → b ≡ true → cond b x y ≡ x
if_true x y e = ap (λ c. cond c x y) e

pub if_false : {A : Type 0} {b : Bool} (x y : A) → b ≡ false → cond b x y ≡ y
if_false x y e = ap (λ c. cond c x y) e

pub both : {a b : Bool} → a ≡ true → b ≡ true → (a && b) ≡ true
both {a} {b} e f = ap (λ c. c && b) e ∙ f

pub going : {o p : Option State} → o ≡ p → (cs : List Char) → run o cs ≡ run p cs
going e cs = ap (λ o. run o cs) e

pub blanks_run : {cs rest : List Char} (h : Opening) (ts : Trees Places) (k : List Open) → Blanks cs rest → run (Some (State_at (Spaced h) ts k)) cs ≡ run (Some (State_at (Spaced h) ts k)) rest
blanks_run h ts k no_blank = refl
blanks_run h ts k (and_blank b) = blanks_run h ts k b

pub tag_run : {name : List ℕ} {at : ℕ} {cs rest : List Char} (place : ℕ) (ts : Trees Places) (k : List Open) → nat_lt (length k) limit ≡ true → Name in_tag name at cs rest → run (Some (State_at (Begun place) ts k)) cs ≡ run (Some (State_at (TagName place name) ts k)) rest
tag_run place ts k e (first {rest = rest}) = going (if_true _ _ e) rest
tag_run place ts k e (next {rest = rest} n p) = tag_run place ts k e n ∙ going (if_true _ _ p) rest

attribute_step : (h : Opening) (at : ℕ) (us : List ℕ) (ts : Trees Places) (k : List Open) (s : Sign) (x : Spot) → in_attribute s ≡ true → machine.attribute_name h at us ts k s x ≡ Some (State_at (AttributeName h at (us ++ x.code ∷ [])) ts k)
attribute_step h at us ts k sign.Letter x e = refl
attribute_step h at us ts k sign.Hyphen x e = refl
attribute_step h at us ts k _ x e = cc

pub attribute_name_run : {name : List ℕ} {at : ℕ} {cs rest : List Char} (h : Opening) (ts : Trees Places) (k : List Open) → Name in_attribute name at cs rest → run (Some (State_at (Spaced h) ts k)) cs ≡ run (Some (State_at (AttributeName h at name) ts k)) rest
attribute_name_run h ts k first = refl
attribute_name_run h ts k (next {s = s} {x = x} {name = name} {at = at} {rest = rest} n p) = attribute_name_run h ts k n ∙ going (attribute_step h at name ts k s x p) rest

-- a known word, in a state that knows what is left of it
pub word_run : {word : List ℕ} {cs rest : List Char} (f : List ℕ → State) → ((u : ℕ) (us : List ℕ) (s : Sign) (x : Spot) → step (f (u ∷ us)) s x ≡ cond (in_tag s && nat_eq x.code u) (Some (f us)) None) → Word word cs rest → run (Some (f word)) cs ≡ run (Some (f [])) rest
word_run f g done = refl
word_run f g (letter {s = s} {c = c} {at = at} {word = word} {cs = cs} e w) = going (g c word s (record { code = c; at = at }) ∙ if_true _ _ (both e (eq-eqb c c refl))) cs ∙ word_run f g w

pub seven : (m v : ℕ) → m ≤ 7 → (m ≡ 7 → is_referable v ≡ true) → (nat_lt m 7 || (nat_eq m 7 && is_referable v)) ≡ true
seven m v le e = pick (nat_lt m 7) refl
  where
    pick : (b : Bool) → nat_lt m 7 ≡ b → (nat_lt m 7 || (nat_eq m 7 && is_referable v)) ≡ true
    pick true h = ap (λ b. b || (nat_eq m 7 && is_referable v)) h
    pick false h =
        let q : m ≡ 7 = grind (arith, nat_tests, h) in
        ap (λ b. b || (nat_eq m 7 && is_referable v)) h ∙ both (eq-eqb m 7 q) (e q)

referable_small : (c : ℕ) → is_referable c ≡ true → c < 0x11_0000
referable_small c e = pick (nat_lt c 0xD800) (nat_lt 0 c) (nat_le 0xE000 c) (nat_lt c 0x11_0000) refl refl e
  where
    pick : (a b d f : Bool) → nat_lt c 0xD800 ≡ a → nat_lt c 0x11_0000 ≡ f → (b && (a || (d && f))) ≡ true → c < 0x11_0000
    pick true b d f h g t = let l = ltb-true c 0xD800 h in omega (arith, l)
    pick false b d true h g t = ltb-true c 0x11_0000 g
    pick false true true false h g t = cc
    pick false true false false h g t = cc
    pick false false d false h g t = cc

pub digits_run : {n v : ℕ} {cs rest : List Char} (r : Run) (ts : Trees Places) (k : List Open) → Digits n v cs rest → n ≤ 7 → v < 0x11_0000 → (n ≡ 7 → is_referable v ≡ true) → run (Some (State_at (Refers r (Number 0 0)) ts k)) cs ≡ run (Some (State_at (Refers r (Number n v)) ts k)) rest
digits_run r ts k no_digit le small e = refl
digits_run r ts k (and_digit {x = x} {n = n} {v = v} {rest = rest} d) le small e =
    digits_run r ts k d (omega (arith, le)) (omega (arith, small)) (λ q. absurd (omega (arith, le, q)))
    ∙ going (if_true _ _ (lt-ltb v 1000000 (omega (arith, small))) ∙ if_true _ _ (seven (suc n) (v * 10 + (x.code - 48)) le e)) rest

tag_first : (r : Run) (ts : Trees Places) (k : List Open) (s : Sign) (x : Spot) → in_tag s ≡ true → machine.in_reference r Ampersand ts k s x ≡ machine.refers r ts k (machine.name_of x.code)
tag_first r ts k sign.Letter x e = refl
tag_first r ts k sign.Digit x e = refl
tag_first r ts k _ x e = cc

-- a name behind its first letter
named_run : {word : List ℕ} {cs rest : List Char} {x : Spot} (r : Run) (ts : Trees Places) (k : List Open) (c : ℕ) → Word word cs ((sign.Semicolon, x) ∷ rest) → run (Some (State_at (Refers r (Named word c)) ts k)) cs ≡ run (Some (State_at (In (grown r (encode_utf16 c))) ts k)) rest
named_run r ts k c w = word_run (λ us. State_at (Refers r (Named us c)) ts k) (λ u us s x. refl) w

pub reference_run : {c : ℕ} {cs rest : List Char} (r : Run) (ts : Trees Places) (k : List Open) → Reference c cs rest → run (Some (State_at (Refers r Ampersand) ts k)) cs ≡ run (Some (State_at (In (grown r (encode_utf16 c))) ts k)) rest
reference_run r ts k (amp (letter {s = s} {at = at} {cs = cs} e w)) = going (tag_first r ts k s (record { code = 97; at = at }) e) cs ∙ named_run r ts k 38 w
reference_run r ts k (lt (letter {s = s} {at = at} {cs = cs} e w)) = going (tag_first r ts k s (record { code = 108; at = at }) e) cs ∙ named_run r ts k 60 w
reference_run r ts k (gt (letter {s = s} {at = at} {cs = cs} e w)) = going (tag_first r ts k s (record { code = 103; at = at }) e) cs ∙ named_run r ts k 62 w
reference_run r ts k (quot (letter {s = s} {at = at} {cs = cs} e w)) = going (tag_first r ts k s (record { code = 113; at = at }) e) cs ∙ named_run r ts k 34 w
reference_run r ts k (nbsp (letter {s = s} {at = at} {cs = cs} e w)) = going (tag_first r ts k s (record { code = 110; at = at }) e) cs ∙ named_run r ts k 160 w
reference_run r ts k (number {n = n} {c = c} {rest = rest} d some le ok) =
    digits_run r ts k d le (referable_small c ok) (λ _. ok) ∙ going (if_true _ _ (both (lt-ltb 0 n some) ok)) rest

text_step : (a : ℕ) (us : List ℕ) (ts : Trees Places) (k : List Open) (s : Sign) (x : Spot) → in_text s ≡ true → machine.in_run (InText a us) ts k s x ≡ Some (State_at (In (InText a (us ++ encode_utf16 x.code))) ts k)
text_step a us ts k sign.Less x e = cc
text_step a us ts k sign.Ampersand x e = cc
text_step a us ts k s x e = refl

first_step : (ts : Trees Places) (k : List Open) (s : Sign) (x : Spot) → in_text s ≡ true → machine.between ts k s x ≡ Some (State_at (In (InText x.at (encode_utf16 x.code))) ts k)
first_step ts k sign.Less x e = cc
first_step ts k sign.Ampersand x e = cc
first_step ts k s x e = refl

pub text_run : {us : List ℕ} {at : ℕ} {cs rest : List Char} (ts : Trees Places) (k : List Open) → Text us at cs rest → run (Some (State_at Between ts k)) cs ≡ run (Some (State_at (In (InText at us)) ts k)) rest
text_run ts k (one_piece (itself {s = s} {x = x} {rest = rest} e)) = going (first_step ts k s x e) rest
text_run ts k (one_piece (reference {x = x} r)) = reference_run (InText x.at []) ts k r
text_run ts k (more_text {us = us} {at = at} t (itself {s = s} {x = x} {rest = rest} e)) = text_run ts k t ∙ going (text_step at us ts k s x e) rest
text_run ts k (more_text {us = us} {at = at} t (reference r)) = text_run ts k t ∙ reference_run (InText at us) ts k r

value_step : (h : Opening) (name : List ℕ) (at value_at : ℕ) (double : Bool) (us : List ℕ) (ts : Trees Places) (k : List Open) (s : Sign) (x : Spot) → in_value double s ≡ true → machine.in_run (InValue h name at value_at double us) ts k s x ≡ Some (State_at (In (InValue h name at value_at double (us ++ encode_utf16 x.code))) ts k)
value_step h name at value_at double us ts k sign.Less x e = cc
value_step h name at value_at double us ts k sign.Ampersand x e = cc
value_step h name at value_at true us ts k sign.DoubleQuote x e = cc
value_step h name at value_at false us ts k sign.SingleQuote x e = cc
value_step h name at value_at true us ts k s x e = refl
value_step h name at value_at false us ts k s x e = refl

pub value_run : {double : Bool} {us : List ℕ} {cs rest : List Char} (h : Opening) (name : List ℕ) (at value_at : ℕ) (ts : Trees Places) (k : List Open) → Value double us cs rest → run (Some (State_at (In (InValue h name at value_at double [])) ts k)) cs ≡ run (Some (State_at (In (InValue h name at value_at double us)) ts k)) rest
value_run h name at value_at ts k empty = refl
value_run {double = double} h name at value_at ts k (more_value {us = us} v (itself {s = s} {x = x} {rest = rest} e)) = value_run h name at value_at ts k v ∙ going (value_step h name at value_at double us ts k s x e) rest
value_run {double = double} h name at value_at ts k (more_value {us = us} v (reference r)) = value_run h name at value_at ts k v ∙ reference_run (InValue h name at value_at double us) ts k r

raw_step : (h : Opening) (at : ℕ) (us : List ℕ) (ts : Trees Places) (k : List Open) (s : Sign) (x : Spot) → is_less s ≡ false → machine.in_raw h at us ts k s x ≡ Some (State_at (InRaw h at (us ++ encode_utf16 x.code)) ts k)
raw_step h at us ts k sign.Less x e = cc
raw_step h at us ts k s x e = refl

less_step : (h : Opening) (at : ℕ) (us : List ℕ) (ts : Trees Places) (k : List Open) (s : Sign) (x : Spot) → is_slash s ≡ false → machine.raw_begun h at us ts k s x ≡ machine.in_raw h at (us ++ codes "<") ts k s x
less_step h at us ts k sign.Slash x e = cc
less_step h at us ts k s x e = refl

pub raw_run : {us : List ℕ} {cs rest : List Char} (h : Opening) (at : ℕ) (ts : Trees Places) (k : List Open) → Raw us cs rest → run (Some (State_at (InRaw h at []) ts k)) cs ≡ run (Some (State_at (InRaw h at us) ts k)) rest
raw_run h at ts k no_raw = refl
raw_run h at ts k (raw_character {s = s} {x = x} {us = us} {rest = rest} r e) = raw_run h at ts k r ∙ going (raw_step h at us ts k s x e) rest
raw_run h at ts k (raw_less {s = s} {y = y} {us = us} {rest = rest} r e) = raw_run h at ts k r ∙ going (less_step h at us ts k s y e) rest
