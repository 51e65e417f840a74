-- Each state that arises can be led to an end.
use Rattle.std.proofs.Common.{◌≡◌, ℕ, zero, suc, ◌+◌, ◌-◌, ◌*◌, ◌<◌, ◌≤◌, List, [], ◌∷◌, ◌++◌, Bool, true, false, Option, Some, None, length, refl, ap, ◌∙◌, arith, cond, nat_lt, nat_eq}
use Rattle.std.specs.Prelude.{◌&&◌, ◌||◌, codes}
use Rattle.std.specs.Char.Escape.{encode_utf16}
use Rattle.std.proofs.lemmas.Bool.{ltb-true, eqb-true}
use Rattle.std.proofs.lemmas.Bool.Decides.{nat_tests}
use Rattle.markup_grammar.specs.declared.Sign.{Sign}
use Rattle.markup_grammar.specs.declared.Sign.TheVariants as sign
use Rattle.markup_grammar.specs.Signs.{Spot, sign_of, in_tag}
use Rattle.markup_grammar.specs.Grammar.{limit, is_referable}
use Rattle.markup_grammar.specs.Machine as machine
use Rattle.markup_grammar.specs.Machine.{Opening, Open, Run, InText, InValue, Referring, Ampersand, Named, Number, Mode, State, State_at, Between, In, Refers, Begun, TagName, Valued, Spaced, AttributeName, Assigned, Slashed, Ending, Ended, InRaw, RawBegun, RawEnding, grown, step}
use Rattle.markup_grammar.proofs.Runs.{both}
use Rattle.plain_tree.specs.Names.{is_void, is_script, is_bare}
use Rattle.plain_tree.specs.Trees.{Trees}
use Rattle.plain_tree.specs.Plains.{Places}

-- letters and digits of ASCII
abbrev pub is_tag : List ℕ → Bool
is_tag [] = true
is_tag (u ∷ us) = (in_tag (sign_of u) && nat_lt u 128) && is_tag us

abbrev pub is_ascii : List ℕ → Bool
is_ascii [] = true
is_ascii (u ∷ us) = nat_lt u 128 && is_ascii us

-- so many digits give less
abbrev pub bound : ℕ → ℕ
bound zero = 1
bound (suc n) = bound n * 10

abbrev pub GoodOpen : List Open → Type 0
GoodOpen [] = Unit {0}
GoodOpen (o ∷ k) = (is_tag (o.head).tag ≡ true) × GoodOpen k

abbrev pub GoodRun : Run → Type 0
GoodRun (InText at us) = Unit {0}
GoodRun (InValue h name at value_at double us) = is_tag h.tag ≡ true

abbrev pub GoodReferring : Referring → Type 0
GoodReferring Ampersand = Unit {0}
GoodReferring (Named us c) = is_tag us ≡ true
GoodReferring (Number n v) = (n ≤ 7) × (n ≡ 7 → is_referable v ≡ true) × (n < 7 → v < bound n)

abbrev pub GoodMode : Mode → List Open → Type 0
GoodMode Between k = Unit {0}
GoodMode (In r) k = GoodRun r
GoodMode (Refers r f) k = GoodRun r × GoodReferring f
GoodMode (Begun at) k = Unit {0}
GoodMode (TagName at us) k = is_tag us ≡ true
GoodMode (Valued h) k = is_tag h.tag ≡ true
GoodMode (Spaced h) k = is_tag h.tag ≡ true
GoodMode (AttributeName h at us) k = is_tag h.tag ≡ true
GoodMode (Assigned h at us) k = is_tag h.tag ≡ true
GoodMode (Slashed h) k = is_tag h.tag ≡ true
GoodMode (Ending us) [] = ⊥
GoodMode (Ending us) (o ∷ k) = is_tag us ≡ true
GoodMode Ended [] = ⊥
GoodMode Ended (o ∷ k) = Unit {0}
GoodMode (InRaw h at us) k = is_tag h.tag ≡ true
GoodMode (RawBegun h at us) k = is_tag h.tag ≡ true
GoodMode (RawEnding h at us word) k = (is_tag h.tag ≡ true) × (is_tag word ≡ true)

abbrev pub Good : State → Type 0
Good (State_at m ts k) = GoodOpen k × GoodMode m k

abbrev pub GoodO : Option State → Type 0
GoodO None = Unit {0}
GoodO (Some st) = Good st

-- ## A good state stays good

pub parts : (a b : Bool) → (a && b) ≡ true → (a ≡ true) × (b ≡ true)
parts true b e = (refl, e)
parts false b e = cc

if_good : (b : Bool) (o p : Option State) → (b ≡ true → GoodO o) → (b ≡ false → GoodO p) → GoodO (cond b o p)
if_good true o p f g = f refl
if_good false o p f g = g refl

if_state_good : (b : Bool) (st other : State) → (b ≡ true → Good st) → (b ≡ false → Good other) → Good (cond b st other)
if_state_good true st other f g = f refl
if_state_good false st other f g = g refl

tag_small : (c : ℕ) → in_tag (sign_of c) ≡ true → nat_lt c 128 ≡ true
tag_small c e = grind (arith, nat_tests)

digit_bounds : (c : ℕ) → sign_of c ≡ sign.Digit → c ≤ 57
digit_bounds c e = grind (arith, nat_tests)

is_tag_more : (us : List ℕ) (u : ℕ) → is_tag us ≡ true → in_tag (sign_of u) ≡ true → is_tag (us ++ u ∷ []) ≡ true
is_tag_more [] u g e = both (both e (tag_small u e)) refl
is_tag_more (v ∷ us) u g e = let p = parts (in_tag (sign_of v) && nat_lt v 128) (is_tag us) g in both p.0 (is_tag_more us u p.1 e)

in_head_good : (h : Opening) (ts : Trees Places) (k : List Open) (s : Sign) (x : Spot) → is_tag h.tag ≡ true → GoodOpen k → GoodO (machine.in_head h ts k s x)
in_head_good h ts k sign.Blank x t g = (g, t)
in_head_good h ts k sign.Greater x t g = if_state_good (is_void h.tag) _ _ (λ _. (g, tt)) (λ _. if_state_good (is_script h.tag) _ _ (λ _. (g, t)) (λ _. ((t, g), tt)))
in_head_good h ts k sign.Slash x t g = if_good (is_void h.tag) _ None (λ _. (g, t)) (λ _. tt)
in_head_good h ts k s x t g = tt

first_good : (r : Run) (ts : Trees Places) (k : List Open) (c : ℕ) → GoodRun r → GoodOpen k → GoodO (machine.refers r ts k (machine.name_of c))
first_good r ts k c q g =
    pick (nat_eq c 97) _ _ (g, (q, refl)) (pick (nat_eq c 108) _ _ (g, (q, refl)) (pick (nat_eq c 103) _ _ (g, (q, refl)) (pick (nat_eq c 113) _ _ (g, (q, refl)) (pick (nat_eq c 110) _ None (g, (q, refl)) tt))))
  where
    pick : (b : Bool) (o p : Option Referring) → GoodO (machine.refers r ts k o) → GoodO (machine.refers r ts k p) → GoodO (machine.refers r ts k (cond b o p))
    pick true o p f h = f
    pick false o p f h = h

grown_good : (r : Run) (us : List ℕ) → GoodRun r → GoodRun (grown r us)
grown_good (InText at vs) us q = tt
grown_good (InValue h name at value_at double vs) us q = q

digits_good : (r : Run) (n v c : ℕ) (ts : Trees Places) (k : List Open) → c ≤ 57 → GoodRun r → GoodOpen k → GoodReferring (Number n v) → GoodO (machine.digit r n v c ts k)
digits_good r n v c ts k le q g h = if_good (nat_lt v 1000000) _ None
    (λ _. if_good (nat_lt (suc n) 7 || (nat_eq (suc n) 7 && is_referable (v * 10 + (c - 48)))) _ None
    (λ e. let t = tests n (v * 10 + (c - 48)) e in (g, (q, (t.0, t.1, λ lt. more lt)))) (λ _. tt))
    (λ _. tt)
  where
    more : suc n < 7 → v * 10 + (c - 48) < bound n * 10
    more lt = let b = h.2 (omega (arith, lt)) in omega (arith, b, le)

    tests : (m w : ℕ) → (nat_lt (suc m) 7 || (nat_eq (suc m) 7 && is_referable w)) ≡ true → (suc m ≤ 7) × (suc m ≡ 7 → is_referable w ≡ true)
    tests m w e = pick (nat_lt (suc m) 7) (nat_eq (suc m) 7) refl refl e
      where
        pick : (a b : Bool) → nat_lt (suc m) 7 ≡ a → nat_eq (suc m) 7 ≡ b → (a || (b && is_referable w)) ≡ true → (suc m ≤ 7) × (suc m ≡ 7 → is_referable w ≡ true)
        pick true b p q t = let l = ltb-true (suc m) 7 p in (omega (arith, l), λ z. absurd (omega (arith, l, z)))
        pick false true p q t = let l = eqb-true (suc m) 7 q in (omega (arith, l), λ z. t)
        pick false false p q t = cc

in_reference_good : (r : Run) (f : Referring) (ts : Trees Places) (k : List Open) (s : Sign) (x : Spot) → sign_of x.code ≡ s → GoodRun r → GoodReferring f → GoodOpen k → GoodO (machine.in_reference r f ts k s x)
in_reference_good r Ampersand ts k sign.Hash x e q h g = (g, (q, (omega arith, (λ z. absurd (omega (arith, z))), λ z. omega arith)))
in_reference_good r Ampersand ts k s x e q h g = if_good (in_tag s) _ None (λ _. first_good r ts k x.code q g) (λ _. tt)
in_reference_good r (Named [] c) ts k sign.Semicolon x e q h g = (g, grown_good r (encode_utf16 c) q)
in_reference_good r (Named [] c) ts k s x e q h g = tt
in_reference_good r (Named (u ∷ us) c) ts k s x e q h g = if_good (in_tag s && nat_eq x.code u) _ None (λ _. (g, (q, (parts (in_tag (sign_of u) && nat_lt u 128) (is_tag us) h).1))) (λ _. tt)
in_reference_good r (Number n v) ts k sign.Digit x e q h g = digits_good r n v x.code ts k (digit_bounds x.code e) q g h
in_reference_good r (Number n v) ts k sign.Semicolon x e q h g = if_good (nat_lt 0 n && is_referable v) _ None (λ _. (g, grown_good r (encode_utf16 v) q)) (λ _. tt)
in_reference_good r (Number n v) ts k s x e q h g = tt

in_run_good : (r : Run) (ts : Trees Places) (k : List Open) (s : Sign) (x : Spot) → GoodRun r → GoodOpen k → GoodO (machine.in_run r ts k s x)
in_run_good (InText at us) ts k sign.Less x q g = (g, tt)
in_run_good (InText at us) ts k sign.Ampersand x q g = (g, (tt, tt))
in_run_good (InText at us) ts k s x q g = (g, tt)
in_run_good (InValue h name at value_at double us) ts k sign.Less x q g = tt
in_run_good (InValue h name at value_at double us) ts k sign.Ampersand x q g = (g, (q, tt))
in_run_good (InValue h name at value_at true us) ts k sign.DoubleQuote x q g = (g, q)
in_run_good (InValue h name at value_at false us) ts k sign.SingleQuote x q g = (g, q)
in_run_good (InValue h name at value_at true us) ts k s x q g = (g, q)
in_run_good (InValue h name at value_at false us) ts k s x q g = (g, q)

between_good : (ts : Trees Places) (k : List Open) (s : Sign) (x : Spot) → GoodOpen k → GoodO (machine.between ts k s x)
between_good ts k sign.Less x g = (g, tt)
between_good ts k sign.Ampersand x g = (g, (tt, tt))
between_good ts k s x g = (g, tt)

end_begun_good : (ts : Trees Places) (k : List Open) → GoodOpen k → GoodO (machine.end_begun ts k)
end_begun_good ts [] g = tt
end_begun_good ts (o ∷ k) g = (g, g.0)

begun_good : (at : ℕ) (ts : Trees Places) (k : List Open) (s : Sign) (x : Spot) → sign_of x.code ≡ s → GoodOpen k → GoodO (machine.begun at ts k s x)
begun_good at ts k sign.Letter x e g = if_good (nat_lt (length k) limit) _ None (λ _. (g, let t = ap in_tag e in both (both t (tag_small x.code t)) refl)) (λ _. tt)
begun_good at ts k sign.Slash x e g = end_begun_good ts k g
begun_good at ts k s x e g = tt

tag_name_good : (at : ℕ) (us : List ℕ) (ts : Trees Places) (k : List Open) (s : Sign) (x : Spot) → sign_of x.code ≡ s → is_tag us ≡ true → GoodOpen k → GoodO (machine.tag_name at us ts k s x)
tag_name_good at us ts k s x e t g = if_good (in_tag s) _ _ (λ q. (g, is_tag_more us x.code t (ap in_tag e ∙ q))) (λ _. in_head_good (record { tag = us; attrs = []; at = at }) ts k s x t g)

spaced_good : (h : Opening) (ts : Trees Places) (k : List Open) (s : Sign) (x : Spot) → is_tag h.tag ≡ true → GoodOpen k → GoodO (machine.spaced h ts k s x)
spaced_good h ts k sign.Letter x t g = (g, t)
spaced_good h ts k s x t g = in_head_good h ts k s x t g

bared_good : (h : Opening) (at : ℕ) (us : List ℕ) (ts : Trees Places) (k : List Open) (s : Sign) (x : Spot) → is_tag h.tag ≡ true → GoodOpen k → GoodO (machine.bared h at us ts k s x)
bared_good h at us ts k s x t g = if_good (is_bare us) _ None (λ _. in_head_good (record h { attrs = h.attrs ++ record { name = us; value = us; at = at; value_at = at } ∷ [] }) ts k s x t g) (λ _. tt)

attribute_name_good : (h : Opening) (at : ℕ) (us : List ℕ) (ts : Trees Places) (k : List Open) (s : Sign) (x : Spot) → is_tag h.tag ≡ true → GoodOpen k → GoodO (machine.attribute_name h at us ts k s x)
attribute_name_good h at us ts k sign.Letter x t g = (g, t)
attribute_name_good h at us ts k sign.Hyphen x t g = (g, t)
attribute_name_good h at us ts k sign.Equals x t g = (g, t)
attribute_name_good h at us ts k s x t g = bared_good h at us ts k s x t g

assigned_good : (h : Opening) (at : ℕ) (us : List ℕ) (ts : Trees Places) (k : List Open) (s : Sign) (x : Spot) → is_tag h.tag ≡ true → GoodOpen k → GoodO (machine.assigned h at us ts k s x)
assigned_good h at us ts k sign.DoubleQuote x t g = (g, t)
assigned_good h at us ts k sign.SingleQuote x t g = (g, t)
assigned_good h at us ts k s x t g = tt

slashed_good : (h : Opening) (ts : Trees Places) (k : List Open) (s : Sign) (x : Spot) → GoodOpen k → GoodO (machine.slashed h ts k s x)
slashed_good h ts k sign.Greater x g = (g, tt)
slashed_good h ts k s x g = tt

ended_good : (ts : Trees Places) (o : Open) (k : List Open) (s : Sign) (x : Spot) → GoodOpen (o ∷ k) → GoodO (machine.ended ts (o ∷ k) s x)
ended_good ts o k sign.Blank x g = (g, tt)
ended_good ts o k sign.Greater x g = (g.1, tt)
ended_good ts o k s x g = tt

ending_good : (word : List ℕ) (ts : Trees Places) (o : Open) (k : List Open) (s : Sign) (x : Spot) → is_tag word ≡ true → GoodOpen (o ∷ k) → GoodO (machine.ending word ts (o ∷ k) s x)
ending_good [] ts o k s x t g = ended_good ts o k s x g
ending_good (u ∷ us) ts o k s x t g = if_good (in_tag s && nat_eq x.code u) _ None (λ _. (g, (parts (in_tag (sign_of u) && nat_lt u 128) (is_tag us) t).1)) (λ _. tt)

in_raw_good : (h : Opening) (at : ℕ) (us : List ℕ) (ts : Trees Places) (k : List Open) (s : Sign) (x : Spot) → is_tag h.tag ≡ true → GoodOpen k → GoodO (machine.in_raw h at us ts k s x)
in_raw_good h at us ts k sign.Less x t g = (g, t)
in_raw_good h at us ts k s x t g = (g, t)

raw_begun_good : (h : Opening) (at : ℕ) (us : List ℕ) (ts : Trees Places) (k : List Open) (s : Sign) (x : Spot) → is_tag h.tag ≡ true → GoodOpen k → GoodO (machine.raw_begun h at us ts k s x)
raw_begun_good h at us ts k sign.Slash x t g = (g, (t, refl))
raw_begun_good h at us ts k s x t g = in_raw_good h at (us ++ codes "<") ts k s x t g

raw_ending_good : (h : Opening) (at : ℕ) (us word : List ℕ) (ts : Trees Places) (k : List Open) (s : Sign) (x : Spot) → is_tag h.tag ≡ true → is_tag word ≡ true → GoodOpen k → GoodO (machine.raw_ending h at us word ts k s x)
raw_ending_good h at us [] ts k sign.Greater x t v g = (g, tt)
raw_ending_good h at us [] ts k s x t v g = tt
raw_ending_good h at us (u ∷ word) ts k s x t v g = if_good (in_tag s && nat_eq x.code u) _ None (λ _. (g, (t, (parts (in_tag (sign_of u) && nat_lt u 128) (is_tag word) v).1))) (λ _. tt)

pub step_good : (st : State) (s : Sign) (x : Spot) → sign_of x.code ≡ s → Good st → GoodO (step st s x)
step_good (State_at Between ts k) s x e g = between_good ts k s x g.0
step_good (State_at (In r) ts k) s x e g = in_run_good r ts k s x g.1 g.0
step_good (State_at (Refers r f) ts k) s x e g = in_reference_good r f ts k s x e g.1.0 g.1.1 g.0
step_good (State_at (Begun at) ts k) s x e g = begun_good at ts k s x e g.0
step_good (State_at (TagName at us) ts k) s x e g = tag_name_good at us ts k s x e g.1 g.0
step_good (State_at (Valued h) ts k) s x e g = in_head_good h ts k s x g.1 g.0
step_good (State_at (Spaced h) ts k) s x e g = spaced_good h ts k s x g.1 g.0
step_good (State_at (AttributeName h at us) ts k) s x e g = attribute_name_good h at us ts k s x g.1 g.0
step_good (State_at (Assigned h at us) ts k) s x e g = assigned_good h at us ts k s x g.1 g.0
step_good (State_at (Slashed h) ts k) s x e g = slashed_good h ts k s x g.0
step_good (State_at (Ending us) ts []) s x e g = absurd g.1
step_good (State_at (Ending us) ts (o ∷ k)) s x e g = ending_good us ts o k s x g.1 g.0
step_good (State_at Ended ts []) s x e g = absurd g.1
step_good (State_at Ended ts (o ∷ k)) s x e g = ended_good ts o k s x g.0
step_good (State_at (InRaw h at us) ts k) s x e g = in_raw_good h at us ts k s x g.1 g.0
step_good (State_at (RawBegun h at us) ts k) s x e g = raw_begun_good h at us ts k s x g.1 g.0
step_good (State_at (RawEnding h at us word) ts k) s x e g = raw_ending_good h at us word ts k s x g.1.0 g.1.1 g.0
