-- How the tidied tokens of the parts of a tree spell it; and expressions where a looser one is asked for.
use Rattle.std.proofs.Common.{◌≡◌, ℕ, zero, suc, ◌+◌, ◌-◌, ◌≤◌, ◌<◌, List, [], ◌∷◌, ◌++◌, Some, Bool, true, false, refl, ap, sym, subst, ◌∙◌, arith}
use Rattle.std.specs.Prelude.{codes, if◌then◌else◌, nat_lt, nat_le, ◌&&◌, ◌||◌}
use Rattle.std.proofs.lemmas.Bool.Decides.{nat_tests}
use Rattle.js_grammar.specs.declared.Sign.{Sign}
use Rattle.js_grammar.specs.declared.Sign.TheVariants as sign
use Rattle.js_grammar.specs.Grammar.{Deep, Level, Primary, Operand, LeftHand, Unary, Operators, Assignment, Whole, Thing, An, Spells}
use Rattle.js_grammar.specs.Grammar.Spells.{operand, left_hand, unary, operators, looser, assignment, whole, paren}
use Rattle.js_grammar.specs.Tables.{is_key, opens_other}
use Rattle.js_grammar.specs.Unplaced.{unplaced_expr}
use Rattle.js_print.specs.Tidy.{Tokens, enclosed, level_of, is_opening, expr_tokens, form_tokens}
use Rattle.js_tree.specs.Plain.{Expr, ExprAt, ExprForm}
use Rattle.tidy_laws.specs.Told.{as_fixed, fixed_of, Written, end, next}

-- What may be asked of texts: reserved words and marks are fit, and a key is fit as a string.
pub record IsFitness (Fit : Sign → List ℕ → Type 0) : Type 0 where
  pub fixed : (s : Sign) (bytes : List ℕ) → fixed_of s ≡ Some bytes → Fit s bytes
  pub keys : (s : Sign) (text : List ℕ) → is_key s text ≡ true → Fit s text → Fit sign.Str text

-- What is allowed: depths of tokens, depths that stand for others, and what is asked of texts. Where it is loose, any depth stands for any other.
pub record Bound : Type 1 where
  pub Allowed : ℕ → Type 0
  pub Stands : ℕ → ℕ → Type 0
  pub Loose : Type 0
  pub Fit : Sign → List ℕ → Type 0
  pub laws : IsFitness Fit
  pub start : Stands 0 0
  pub down : (n d : ℕ) → Stands n d → Stands (suc n) (suc d)
  pub wide : (n d : ℕ) → Stands n d → Stands n (suc d)
  pub less : (n d : ℕ) → Stands (suc n) d → Stands n d
  pub allowed : (n d : ℕ) → Stands n d → Allowed d → Allowed n
  pub flat : (d : ℕ) → Allowed (suc d) → Allowed d
  pub total : Loose → (n d : ℕ) → Stands n d
  pub free : Loose → (n : ℕ) → Allowed n

-- a token without a place
abbrev pub tok : Sign → List ℕ → ℕ → Deep
tok s text d = ((s, record { text = text; at = 0 }), d)

pub append : {Allowed : ℕ → Type 0} {Fit : Sign → List ℕ → Type 0} {a b : Tokens} {ts us rest : List Deep} → Written Allowed Fit a ts us → Written Allowed Fit b us rest → Written Allowed Fit (a ++ b) ts rest
append end w = w
append (next t fit le v) w = next t fit le (append v w)

pub fixed_next : (limit : Bound) {s : Sign} {w : List ℕ} {n : ℕ} {words : Tokens} {ts rest : List Deep} → fixed_of s ≡ Some w → limit.Allowed n → Written limit.Allowed limit.Fit words ts rest → Written limit.Allowed limit.Fit (w ∷ words) (tok s w n ∷ ts) rest
fixed_next limit {s} {w} is le v = next (as_fixed is) (limit.laws.fixed s w is) le v

-- the first token begins no statement of its own
abbrev pub opens_first : List Deep → Bool
opens_first [] = true
opens_first (((s, x), d) ∷ ts) = opens_other s

-- such a token comes first, without a place
abbrev pub Begun : List Deep → Type 0
Begun [] = ⊥
Begun (((s, x), d) ∷ ts) = (opens_other s ≡ false) × (x.at ≡ 0)

-- tokens that have these bytes and spell the thing
pub record Makes (limit : Bound) (thing : Thing) (d : ℕ) (words : Tokens) (rest : List Deep) : Type 0 where
  pub tokens : List Deep
  pub spells : Spells thing d tokens rest
  pub written : Written limit.Allowed limit.Fit words tokens rest

abbrev pub Made : Bound → Thing → ℕ → Tokens → Type 0
Made limit thing d words = (rest : List Deep) → Makes limit thing d words rest

-- the same of an expression, which may begin a statement
pub record MakesExpr (limit : Bound) (first : Bool) (level : Level) (e : Expr) (d : ℕ) (words : Tokens) (rest : List Deep) : Type 0 where
  pub tokens : List Deep
  pub spells : Spells (An level e) d tokens rest
  pub written : Written limit.Allowed limit.Fit words tokens rest
  pub begins : first ≡ true → Begun tokens

-- ## Levels

abbrev pub form_of : Expr → ExprForm
form_of (ExprAt at names form) = form

abbrev pub tightness : Expr → ℕ
tightness e = level_of (form_of e)

abbrev pub tightest : ℕ → Level
tightest m = if nat_le 16 m then Primary else LeftHand

abbrev pub tighter : ℕ → Level
tighter m = if nat_le 15 m then tightest m else Unary

abbrev pub tight : Bool → ℕ → Level
tight b m = if nat_le 13 m then tighter m else Operators b (13 - m)

-- the level of a form that binds so tight
abbrev pub own : Bool → ℕ → Level
own b m = if nat_le 3 m then tight b m else (if nat_le 2 m then Assignment b else Whole)

-- how tight a form must bind at a level
abbrev pub asked : Level → ℕ
asked Primary = 16
asked Operand = 16
asked LeftHand = 15
asked Unary = 13
asked (Operators b k) = 3 + (10 - k)
asked (Assignment b) = 2
asked Whole = 1

-- the level, where an `in` may stand or not
abbrev pub reach : Bool → Level → Level
reach b (Operators c k) = Operators b k
reach b (Assignment c) = Assignment b
reach b level = level

abbrev pub flag : Bool → Level → Bool
flag b Whole = false
flag b level = b

-- the tests of `own`
at_3 : (m : ℕ) → 3 ≤ m → nat_le 3 m ≡ true
at_3 m h = grind (arith, nat_tests)

at_13 : (m : ℕ) → 13 ≤ m → nat_le 13 m ≡ true
at_13 m h = grind (arith, nat_tests)

at_15 : (m : ℕ) → 15 ≤ m → nat_le 15 m ≡ true
at_15 m h = grind (arith, nat_tests)

own_left : (b : Bool) (m : ℕ) → 15 ≤ m → own b m ≡ tightest m
own_left b m h =
    let x : nat_le 3 m ≡ true = at_3 m (omega (arith, h)) in
    let y : nat_le 13 m ≡ true = at_13 m (omega (arith, h)) in
    let z : nat_le 15 m ≡ true = at_15 m h in
    rw (x, y, z) refl

own_unary : (b : Bool) (m : ℕ) → 13 ≤ m → own b m ≡ tighter m
own_unary b m h =
    let x : nat_le 3 m ≡ true = at_3 m (omega (arith, h)) in
    let y : nat_le 13 m ≡ true = at_13 m h in
    rw (x, y) refl

own_tight : (b : Bool) (m : ℕ) → 3 ≤ m → own b m ≡ tight b m
own_tight b m h = let x : nat_le 3 m ≡ true = at_3 m h in rw x refl

own_primary : (b : Bool) (m : ℕ) → 16 ≤ m → own b m ≡ Primary
own_primary b m h = let x : nat_le 16 m ≡ true = grind (arith, nat_tests) in own_left b m (omega (arith, h)) ∙ rw x refl

module _ (e : Expr) (d : ℕ) (ts rest : List Deep) where
  abbrev Is : Level → Type 0
  Is level = Spells (An level e) d ts rest

  left_of : (x : Bool) → Is (if x then Primary else LeftHand) → Is LeftHand
  left_of true s = left_hand s
  left_of false s = s

  unary_of : (m : ℕ) (y : Bool) → Is (if y then tightest m else Unary) → Is Unary
  unary_of m true s = unary (left_of (nat_le 16 m) s)
  unary_of m false s = s

  raise : (b : Bool) (n j k : ℕ) → k ≡ n + j → Is (Operators b j) → Is (Operators b k)
  raise b zero j k same s = let same-j : j ≡ k = omega (arith, same) in subst (λ i. Is (Operators b i)) same-j s
  raise b (suc n) j k same s = raise b n (suc j) k (omega (arith, same)) (looser s)

  tight_of : (b : Bool) (m k : ℕ) (z : Bool) → nat_le 13 m ≡ z → 13 ≤ m + k → Is (if z then tighter m else Operators b (13 - m)) → Is (Operators b k)
  tight_of b m k true q h s = raise b k 0 k (omega arith) (operators (unary_of m (nat_le 15 m) s))
  tight_of b m k false q h s = let small : m < 13 = grind (arith, nat_tests) in raise b (m + k - 13) (13 - m) k (omega (arith, h, small)) s

  loose_of : (b : Bool) (m : ℕ) (x y : Bool) → nat_le 3 m ≡ x → nat_le 2 m ≡ y → 2 ≤ m → Is (if x then tight b m else (if y then Assignment b else Whole)) → Is (Assignment b)
  loose_of b m true y q r h s = assignment (tight_of b m 10 (nat_le 13 m) refl (let big : 3 ≤ m = grind (arith, nat_tests) in omega (arith, big)) s)
  loose_of b m false true q r h s = s
  loose_of b m false false q r h s = absurd (let small : m < 2 = grind (arith, nat_tests) in omega (arith, h, small))

  whole_of : (m : ℕ) (x y : Bool) → nat_le 3 m ≡ x → nat_le 2 m ≡ y → Is (if x then tight false m else (if y then Assignment false else Whole)) → Is Whole
  whole_of m true y q r s = whole (loose_of false m true y q r (let big : 3 ≤ m = grind (arith, nat_tests) in omega (arith, big)) s)
  whole_of m false true q r s = whole s
  whole_of m false false q r s = s

  operators_of : (b : Bool) (m k : ℕ) → 13 ≤ m + k → 3 ≤ m → Is (own b m) → Is (Operators b k)
  operators_of b m k h big s = tight_of b m k (nat_le 13 m) refl h (subst Is (own_tight b m big) s)

  -- a form that binds tight enough stands at a level
  pub climb : (b : Bool) (level : Level) (m : ℕ) → asked level ≤ m → Is (own (flag b level) m) → Is (reach b level)
  climb b Primary m h s = subst Is (own_primary b m h) s
  climb b Operand m h s = operand (subst Is (own_primary b m h) s)
  climb b LeftHand m h s = left_of (nat_le 16 m) (subst Is (own_left b m h) s)
  climb b Unary m h s = unary_of m (nat_le 15 m) (subst Is (own_unary b m h) s)
  climb b (Operators c k) m h s = operators_of b m k (omega (arith, h)) (omega (arith, h)) s
  climb b (Assignment c) m h s = loose_of b m (nat_le 3 m) (nat_le 2 m) refl refl h s
  climb b Whole m h s = whole_of m (nat_le 3 m) (nat_le 2 m) refl refl s

  pub to_whole : (m : ℕ) → Is (own false m) → Is Whole
  to_whole m s = whole_of m (nat_le 3 m) (nat_le 2 m) refl refl s

-- ## What is found of an expression

-- the tokens of a form, where `first` says that a statement begins with it
abbrev pub core : Bool → ExprForm → Tokens
core first form = if is_opening form && first then enclosed (form_tokens false form) else form_tokens first form

pick : (x y first : Bool) (a b : Tokens) → (if x || (first && y) then a else b) ≡ (if x then a else (if y && first then a else b))
pick true y first a b = refl
pick false true true a b = refl
pick false true false a b = refl
pick false false true a b = refl
pick false false false a b = refl

core_plain : (y : Bool) (a b : Tokens) → (if y && false then a else b) ≡ b
core_plain true a b = refl
core_plain false a b = refl

pub expr_is : (first : Bool) (n at : ℕ) (names : List ℕ) (form : ExprForm) → expr_tokens first n (ExprAt at names form) ≡ (if nat_lt (level_of form) n then enclosed (core false form) else core first form)
unfolding expr_tokens
expr_is first n at names form =
    pick (nat_lt (level_of form) n) (is_opening form) first (enclosed (form_tokens false form)) (form_tokens first form)
    ∙ ap (λ l. if nat_lt (level_of form) n then enclosed l else core first form) (sym (core_plain (is_opening form) (enclosed (form_tokens false form)) (form_tokens false form)))

-- its own tokens at a depth, whether an `in` may stand there or not
abbrev pub Core : Bound → Bool → Expr → ℕ → Type 0
Core limit first e n = (b : Bool) (rest : List Deep) → MakesExpr limit first (own b (tightness e)) (unplaced_expr e) n (core first (form_of e)) rest

-- its tokens where a level is asked for
abbrev pub Placed : Bound → Bool → Level → Expr → ℕ → Type 0
Placed limit first level e n = (b : Bool) (rest : List Deep) → MakesExpr limit first (reach b level) (unplaced_expr e) n (expr_tokens first (asked level) e) rest

-- What is found of tokens that spell an expression of a level: its own tidied tokens are not deeper; where parentheses are asked for, there is room for them, and so for those round the function or object with which it begins, if a statement may begin with these tokens.
pub record Found (limit : Bound) (level : Level) (e : Expr) (d : ℕ) (ts : List Deep) : Type 0 where
  pub plain : (n : ℕ) → limit.Stands n d → Core limit false e n
  pub inner : tightness e < asked level → limit.Allowed (suc d) × ((n : ℕ) → limit.Stands n (suc d) → Core limit false e n)
  pub opened : (n : ℕ) → limit.Stands (suc n) d → Core limit true e n
  pub begun : opens_first ts ≡ false → (n : ℕ) → limit.Stands n d → Core limit true e n

-- a found expression stands where its level is asked for
loosely : (limit : Bound) (first : Bool) (level : Level) (e : Expr) (n : ℕ) → asked level ≤ tightness e → Core limit first e n → (b : Bool) (rest : List Deep) → MakesExpr limit first (reach b level) (unplaced_expr e) n (core first (form_of e)) rest
loosely limit first level e n h c b rest =
    let m = c (flag b level) rest in
    record {
      tokens = m.tokens;
      spells = climb (unplaced_expr e) n m.tokens rest b level (tightness e) h m.spells;
      written = m.written;
      begins = m.begins;
    }

-- whatever binds so tight is a whole expression
pub whole_expr : (limit : Bound) (first : Bool) (m : ℕ) (e : Expr) (n : ℕ) (words : Tokens) (rest : List Deep) → MakesExpr limit first (own false m) e n words rest → MakesExpr limit first Whole e n words rest
whole_expr limit first m e n words rest k = record {
  tokens = k.tokens;
  spells = to_whole e n k.tokens rest m k.spells;
  written = k.written;
  begins = k.begins;
}

sixteen : (level : Level) → asked level ≤ 16
sixteen Primary = omega arith
sixteen Operand = omega arith
sixteen LeftHand = omega arith
sixteen Unary = omega arith
sixteen (Operators b k) = omega arith
sixteen (Assignment b) = omega arith
sixteen Whole = omega arith

pub wrapped : (limit : Bound) (first : Bool) (level : Level) (e : Expr) (n : ℕ) (words : Tokens) → limit.Allowed (suc n) → ((rest : List Deep) → MakesExpr limit false Whole e (suc n) words rest) → (b : Bool) (rest : List Deep) → MakesExpr limit first (reach b level) e n (enclosed words) rest
wrapped limit first level e n words le c b rest =
    let m = c (tok sign.Close (codes ")") (suc n) ∷ rest) in
    let ts = tok sign.Open (codes "(") (suc n) ∷ m.tokens in
    record {
      tokens = ts;
      spells = climb e n ts rest b level 16 (sixteen level) (paren m.spells);
      written = fixed_next limit refl le (append m.written (fixed_next limit refl le end));
      begins = λ _. (refl, refl);
    }

placed_at : (limit : Bound) (first : Bool) (level : Level) (e : Expr) (n : ℕ) (x : Bool) → nat_lt (tightness e) (asked level) ≡ x
    → (tightness e < asked level → limit.Allowed (suc n) × Core limit false e (suc n)) → Core limit first e n
    → (b : Bool) (rest : List Deep) → MakesExpr limit first (reach b level) (unplaced_expr e) n (if x then enclosed (core false (form_of e)) else core first (form_of e)) rest
placed_at limit first level e n true is inner plain b rest =
    let h : tightness e < asked level = grind (arith, nat_tests) in
    let i = inner h in
    wrapped limit first level (unplaced_expr e) n (core false (form_of e)) i.0 (λ more. whole_expr limit false (tightness e) (unplaced_expr e) (suc n) (core false (form_of e)) more (i.1 false more)) b rest
placed_at limit first level e n false is inner plain b rest =
    loosely limit first level e n (let h : asked level ≤ tightness e = grind (arith, nat_tests) in h) plain b rest

place : (limit : Bound) (first : Bool) (level : Level) (e : Expr) (n : ℕ) → (tightness e < asked level → limit.Allowed (suc n) × Core limit false e (suc n)) → Core limit first e n → Placed limit first level e n
place limit first level (ExprAt at names form) n inner plain b rest =
    let e = ExprAt at names form in
    subst (λ ws. MakesExpr limit first (reach b level) (unplaced_expr e) n ws rest) (sym (expr_is first (asked level) at names form))
    (placed_at limit first level e n (nat_lt (level_of form) (asked level)) refl inner plain b rest)

module _ (limit : Bound) (level : Level) (e : Expr) (d : ℕ) (ts : List Deep) (f : Found limit level e d ts) where
  room : (n : ℕ) → limit.Stands n d → tightness e < asked level → limit.Allowed (suc n) × Core limit false e (suc n)
  room n h below = let i = f.inner below in (limit.allowed (suc n) (suc d) (limit.down n d h) i.0, i.1 (suc n) (limit.down n d h))

  pub later : (n : ℕ) → limit.Stands n d → Placed limit false level e n
  later n h = place limit false level e n (room n h) (f.plain n h)

  pub sooner : (n : ℕ) → limit.Stands (suc n) d → Placed limit true level e n
  sooner n h = place limit true level e n (room n (limit.less n d h)) (f.opened n h)

  pub begins_with : opens_first ts ≡ false → (n : ℕ) → limit.Stands n d → Placed limit true level e n
  begins_with o n h = place limit true level e n (room n h) (f.begun o n h)
