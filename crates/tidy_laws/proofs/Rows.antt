-- Row by row: what is found of expressions.
use Rattle.std.proofs.Common.{◌≡◌, ℕ, suc, ◌≤◌, List, [], ◌∷◌, Bool, true, false, Option, Some, refl, ap, sym, subst, ◌∙◌, arith}
use Rattle.std.specs.Prelude.{codes}
use Rattle.js_grammar.specs.declared.Sign.{Sign}
use Rattle.js_grammar.specs.declared.Sign.TheVariants as sign
use Rattle.js_grammar.specs.declared.Infix.{Infix}
use Rattle.js_grammar.specs.declared.Infix.TheVariants as infixes
use Rattle.js_grammar.specs.declared.Prefix.{Prefix}
use Rattle.js_grammar.specs.declared.Prefix.TheVariants as prefixes
use Rattle.js_grammar.specs.Grammar.{Lexeme, Deep, Level, Primary, Operand, LeftHand, Unary, Operators, Assignment, Whole, Thing, An, Items, Spells}
use Rattle.js_grammar.specs.Grammar.Spells.{new_with, name, number, string, this, null, true_word, false_word, array, dot, sub, call, post_step, before_operand, between, choice, assign, comma}
use Rattle.js_grammar.specs.Tables.{infix_of, level_of, joined, prefix_of, prefixed, step_of, assign_of, opens_other}
use Rattle.js_grammar.specs.Unplaced.{unplaced_expr, unplaced_exprs}
use Rattle.js_tree.specs.declared.nodes.Word.TheVariants as word
use Rattle.js_tree.specs.declared.nodes.StepOp.{StepOp}
use Rattle.js_tree.specs.declared.nodes.StepOp.TheVariants as step
use Rattle.js_tree.specs.declared.nodes.UnOp.TheVariants as un
use Rattle.js_tree.specs.declared.nodes.BinOp.TheVariants as bin
use Rattle.js_tree.specs.declared.nodes.AssignOp.{AssignOp}
use Rattle.js_tree.specs.declared.nodes.AssignOp.TheVariants as assigns
use Rattle.js_tree.specs.Plain.{New, Expr, ExprAt, Num, Str, Name, Constant, Array, Dot, Sub, Call, Step, Cond, Assign, Comma, Exprs, expr_place}
use Rattle.js_print.specs.Tidy.{Tokens, flat, mark, enclosed, listed, expr_tokens, exprs_tokens}
use Rattle.tidy_laws.specs.Told.{as_name, as_number, as_string, fixed_of, Written, end, next}
use Rattle.tidy_laws.proofs.Mild.{MildExpr, MildForm}
use Rattle.tidy_laws.proofs.Making.{Bound, tok, append, fixed_next, opens_first, Begun, Makes, Made, MakesExpr, form_of, tightness, own, asked, core, Core, Placed, Found, wrapped, whole_expr, later, sooner, begins_with}

pub made : {limit : Bound} {thing : Thing} {d : ℕ} {words : Tokens} {rest : List Deep} (ts : List Deep) → Spells thing d ts rest → Written limit.Allowed limit.Fit words ts rest → Makes limit thing d words rest
made ts s w = record { tokens = ts; spells = s; written = w }

pub made_expr : {limit : Bound} {first : Bool} {level : Level} {e : Expr} {d : ℕ} {words : Tokens} {rest : List Deep} (ts : List Deep) → Spells (An level e) d ts rest → Written limit.Allowed limit.Fit words ts rest → (first ≡ true → Begun ts) → MakesExpr limit first level e d words rest
made_expr ts s w b = record { tokens = ts; spells = s; written = w; begins = b }

clash : (x : Bool) → x ≡ true → x ≡ false → ⊥
clash x a b = cc

-- a step before its operand is none behind it, and the other way round
abbrev is_before : Option StepOp → Bool
is_before (Some step.PreInc) = true
is_before (Some step.PreDec) = true
is_before _ = false

abbrev is_behind : Option Prefix → Bool
is_behind (Some (prefixes.Step step.PostInc)) = true
is_behind (Some (prefixes.Step step.PostDec)) = true
is_behind _ = false

none_before : (s : Sign) → is_before (step_of s) ≡ false
none_before sign.PlusPlus = refl
none_before _ = refl

none_behind : (s : Sign) → is_behind (prefix_of s) ≡ false
none_behind sign.PlusPlus = refl
none_behind _ = refl

no_post : (s : Sign) (o : StepOp) → step_of s ≡ Some o → is_before (Some o) ≡ true → ⊥
no_post s o is h = clash (is_before (Some o)) h (ap is_before (sym is) ∙ none_before s)

no_prefix : (s : Sign) (o : StepOp) → prefix_of s ≡ Some (prefixes.Step o) → is_behind (Some (prefixes.Step o)) ≡ true → ⊥
no_prefix s o is h = clash (is_behind (Some (prefixes.Step o))) h (ap is_behind (sym is) ∙ none_behind s)

module _ (limit : Bound) where
  pub below : (n d : ℕ) → limit.Stands n d → limit.Allowed d → limit.Allowed n
  below n d h le = limit.allowed n d h le

  -- ## Forms of rows

  -- the same expression where a looser one is asked for
  pub looser_row : (level other : Level) (e : Expr) (d : ℕ) (ts : List Deep) → asked other ≤ asked level → Found limit level e d ts → Found limit other e d ts
  looser_row level other e d ts h f = record {
    plain = f.plain;
    inner = λ b. f.inner (omega (arith, b, h));
    opened = f.opened;
    begun = f.begun;
  }

  -- what begins with a token of its own that a statement may begin with
  pub full_row : (level : Level) (e : Expr) (d : ℕ) (ts : List Deep) → asked level ≤ tightness e → ((first : Bool) (n : ℕ) → limit.Stands n d → Core limit first e n) → Found limit level e d ts
  full_row level e d ts h c = record {
    plain = c false;
    inner = λ b. absurd (omega (arith, b, h));
    opened = λ n lt. c true n (limit.less n d lt);
    begun = λ _. c true;
  }

  -- what begins with another expression
  pub left_row : (level other : Level) (e g : Expr) (d : ℕ) (ts : List Deep) → Found limit level e d ts → asked other ≤ tightness g → ((first : Bool) (n : ℕ) → limit.Stands n d → Placed limit first level e n → Core limit first g n) → Found limit other g d ts
  left_row level other e g d ts f h c = record {
    plain = λ n le. c false n le (later limit level e d ts f n le);
    inner = λ b. absurd (omega (arith, b, h));
    opened = λ n lt. c true n (limit.less n d lt) (sooner limit level e d ts f n lt);
    begun = λ o n le. c true n le (begins_with limit level e d ts f o n le);
  }

  -- what no statement begins with
  pub opening_row : (e : Expr) (d : ℕ) (ts : List Deep) → ((b : Bool) → own b (tightness e) ≡ Primary) → 16 ≤ tightness e → core true (form_of e) ≡ enclosed (core false (form_of e)) → opens_first ts ≡ true → limit.Allowed d
      → ((n : ℕ) → limit.Stands n d → (rest : List Deep) → MakesExpr limit false Primary (unplaced_expr e) n (core false (form_of e)) rest) → Found limit Primary e d ts
  opening_row e d ts same some around opens le c =
      let as_own = λ (first : Bool) (n : ℕ) (words : Tokens) (b : Bool) (rest : List Deep) (m : MakesExpr limit first Primary (unplaced_expr e) n words rest). subst (λ l. MakesExpr limit first l (unplaced_expr e) n words rest) (sym (same b)) m in
      record {
        plain = λ n h b rest. as_own false n (core false (form_of e)) b rest (c n h rest);
        inner = λ b. absurd (omega (arith, b, some));
        opened = λ n lt b rest. subst (λ ws. MakesExpr limit true (own b (tightness e)) (unplaced_expr e) n ws rest) (sym around) (as_own true n (enclosed (core false (form_of e))) b rest
            (wrapped limit true Primary (unplaced_expr e) n (core false (form_of e)) (limit.allowed (suc n) d lt le) (λ more. whole_expr limit false 16 (unplaced_expr e) (suc n) (core false (form_of e)) more (c (suc n) lt more)) b rest));
        begun = λ o. absurd (clash (opens_first ts) opens o);
      }

  -- where parentheses may be added freely, the same expression where a tighter one is asked for
  pub tighter_row : (level other : Level) (e : Expr) (d : ℕ) (ts : List Deep) → limit.Loose → Found limit level e d ts → Found limit other e d ts
  tighter_row level other e d ts o f = record {
    plain = f.plain;
    inner = λ _. (limit.free o (suc d), λ n _. f.plain n (limit.total o n d));
    opened = f.opened;
    begun = f.begun;
  }

  -- and what begins with another expression
  free_row : (level other : Level) (e g : Expr) (d : ℕ) (ts : List Deep) → limit.Loose → Found limit level e d ts → ((first : Bool) (n : ℕ) → limit.Stands n d → Placed limit first level e n → Core limit first g n) → Found limit other g d ts
  free_row level other e g d ts o f c =
      let plainly = λ (n : ℕ) (h : limit.Stands n d). c false n h (later limit level e d ts f n h) in
      record {
        plain = plainly;
        inner = λ _. (limit.free o (suc d), λ n _. plainly n (limit.total o n d));
        opened = λ n lt. c true n (limit.less n d lt) (sooner limit level e d ts f n lt);
        begun = λ h n le. c true n le (begins_with limit level e d ts f h n le);
      }

  pub paren_row : (e : Expr) (d : ℕ) (p : Lexeme) (ts : List Deep) → limit.Allowed (suc d) → Found limit Whole e (suc d) ts → Found limit Primary e d (((sign.Open, p), suc d) ∷ ts)
  paren_row e d p ts le f = record {
    plain = λ n h. f.plain n (limit.wide n d h);
    inner = λ _. (le, λ n h. f.plain n h);
    opened = λ n h. f.opened n (limit.wide (suc n) d h);
    begun = λ _ n h. f.opened n (limit.down n d h);
  }

  -- ## Primary expressions

  pub name_row : (x : Lexeme) (d : ℕ) (ts : List Deep) → limit.Fit sign.Name x.text → limit.Allowed d → Found limit Primary (ExprAt x.at [] (Name x.text)) d ts
  unfolding unplaced_exprs expr_tokens
  name_row x d ts fit le = full_row Primary _ d ts (omega arith) (λ first n h b rest. made_expr (tok sign.Name x.text n ∷ rest) name (next as_name fit (below n d h le) end) (λ _. (refl, refl)))

  pub number_row : (x : Lexeme) (d : ℕ) (ts : List Deep) → limit.Fit sign.Number x.text → limit.Allowed d → Found limit Primary (ExprAt x.at [] (Num x.text)) d ts
  unfolding unplaced_exprs expr_tokens
  number_row x d ts fit le = full_row Primary _ d ts (omega arith) (λ first n h b rest. made_expr (tok sign.Number x.text n ∷ rest) number (next as_number fit (below n d h le) end) (λ _. (refl, refl)))

  pub string_row : (x : Lexeme) (d : ℕ) (ts : List Deep) → limit.Fit sign.Str x.text → limit.Allowed d → Found limit Primary (ExprAt x.at [] (Str x.text)) d ts
  unfolding unplaced_exprs expr_tokens
  string_row x d ts fit le = full_row Primary _ d ts (omega arith) (λ first n h b rest. made_expr (tok sign.Str x.text n ∷ rest) string (next as_string fit (below n d h le) end) (λ _. (refl, refl)))

  pub this_row : (x : Lexeme) (d : ℕ) (ts : List Deep) → limit.Allowed d → Found limit Primary (ExprAt x.at [] (Constant word.This)) d ts
  unfolding unplaced_exprs expr_tokens
  this_row x d ts le = full_row Primary _ d ts (omega arith) (λ first n h b rest. made_expr (tok sign.This (codes "this") n ∷ rest) this (fixed_next limit refl (below n d h le) end) (λ _. (refl, refl)))

  pub null_row : (x : Lexeme) (d : ℕ) (ts : List Deep) → limit.Allowed d → Found limit Primary (ExprAt x.at [] (Constant word.Null)) d ts
  unfolding unplaced_exprs expr_tokens
  null_row x d ts le = full_row Primary _ d ts (omega arith) (λ first n h b rest. made_expr (tok sign.Null (codes "null") n ∷ rest) null (fixed_next limit refl (below n d h le) end) (λ _. (refl, refl)))

  pub true_row : (x : Lexeme) (d : ℕ) (ts : List Deep) → limit.Allowed d → Found limit Primary (ExprAt x.at [] (Constant word.True)) d ts
  unfolding unplaced_exprs expr_tokens
  true_row x d ts le = full_row Primary _ d ts (omega arith) (λ first n h b rest. made_expr (tok sign.True (codes "true") n ∷ rest) true_word (fixed_next limit refl (below n d h le) end) (λ _. (refl, refl)))

  pub false_row : (x : Lexeme) (d : ℕ) (ts : List Deep) → limit.Allowed d → Found limit Primary (ExprAt x.at [] (Constant word.False)) d ts
  unfolding unplaced_exprs expr_tokens
  false_row x d ts le = full_row Primary _ d ts (omega arith) (λ first n h b rest. made_expr (tok sign.False (codes "false") n ∷ rest) false_word (fixed_next limit refl (below n d h le) end) (λ _. (refl, refl)))

  -- expressions between commas
  abbrev pub GoodItems : Bool → Exprs → ℕ → Type 0
  GoodItems b xs d = (n : ℕ) → limit.Stands n d → Made limit (Items b (unplaced_exprs xs)) n (listed (exprs_tokens xs))

  -- what stands between two marks
  pub marked : (s r : Sign) {v w : List ℕ} {words : Tokens} {n : ℕ} {ts rest : List Deep} → fixed_of s ≡ Some v → fixed_of r ≡ Some w → limit.Allowed n → Written limit.Allowed limit.Fit words ts (tok r w n ∷ rest) → Written limit.Allowed limit.Fit (flat (mark v ∷ words ∷ mark w ∷ [])) (tok s v n ∷ ts) rest
  marked s r is are le w = fixed_next limit is le (append w (fixed_next limit are le end))

  pub array_row : (p : Lexeme) (xs : Exprs) (d : ℕ) (ts : List Deep) → limit.Allowed (suc d) → GoodItems false xs (suc d) → Found limit Primary (ExprAt p.at [] (Array xs)) d ts
  unfolding unplaced_exprs expr_tokens
  array_row p xs d ts le g = full_row Primary _ d ts (omega arith) (λ first n h b rest.
      let m = g (suc n) (limit.down n d h) (tok sign.CloseSquare (codes "]") (suc n) ∷ rest) in
      made_expr (tok sign.OpenSquare (codes "[") (suc n) ∷ m.tokens) (array m.spells) (marked sign.OpenSquare sign.CloseSquare refl refl (below (suc n) (suc d) (limit.down n d h) le) m.written) (λ _. (refl, refl)))

  -- ## Properties, subscripts, calls

  pub dot_row : (e : Expr) (x : Lexeme) (d : ℕ) (ts : List Deep) → limit.Fit sign.Name x.text → limit.Allowed d → Found limit LeftHand e d ts → Found limit LeftHand (ExprAt (expr_place e) (x.at ∷ []) (Dot e x.text)) d ts
  unfolding unplaced_exprs expr_tokens
  dot_row (ExprAt at names form) x d ts fit le f = left_row LeftHand LeftHand _ _ d ts f (omega arith) (λ first n h p b rest.
      let m = p b (tok sign.Point (codes ".") n ∷ tok sign.Name x.text n ∷ rest) in
      made_expr m.tokens (dot m.spells) (append m.written (fixed_next limit refl (below n d h le) (next as_name fit (below n d h le) end))) m.begins)

  pub sub_row : (e i : Expr) (d : ℕ) (ts us : List Deep) → limit.Allowed (suc d) → Found limit LeftHand e d ts → Found limit Whole i (suc d) us → Found limit LeftHand (ExprAt (expr_place e) [] (Sub e i)) d ts
  unfolding unplaced_exprs expr_tokens
  sub_row (ExprAt at names form) i d ts us le f g = left_row LeftHand LeftHand _ _ d ts f (omega arith) (λ first n h p b rest.
      let k = later limit Whole i (suc d) us g (suc n) (limit.down n d h) false (tok sign.CloseSquare (codes "]") (suc n) ∷ rest) in
      let m = p b (tok sign.OpenSquare (codes "[") (suc n) ∷ k.tokens) in
      made_expr m.tokens (sub m.spells k.spells) (append m.written (marked sign.OpenSquare sign.CloseSquare refl refl (below (suc n) (suc d) (limit.down n d h) le) k.written)) m.begins)

  pub call_row : (e : Expr) (xs : Exprs) (d : ℕ) (ts : List Deep) → limit.Allowed (suc d) → Found limit LeftHand e d ts → GoodItems false xs (suc d) → Found limit LeftHand (ExprAt (expr_place e) [] (Call e xs)) d ts
  unfolding unplaced_exprs expr_tokens
  call_row (ExprAt at names form) xs d ts le f g = left_row LeftHand LeftHand _ _ d ts f (omega arith) (λ first n h p b rest.
      let k = g (suc n) (limit.down n d h) (tok sign.Close (codes ")") (suc n) ∷ rest) in
      let m = p b (tok sign.Open (codes "(") (suc n) ∷ k.tokens) in
      made_expr m.tokens (call m.spells k.spells) (append m.written (marked sign.Open sign.Close refl refl (below (suc n) (suc d) (limit.down n d h) le) k.written)) m.begins)

  -- ## Operators with one operand

  pub post_row : (o : StepOp) (s : Sign) (e : Expr) (d : ℕ) (ts : List Deep) → step_of s ≡ Some o → limit.Allowed d → Found limit LeftHand e d ts → Found limit Unary (ExprAt (expr_place e) [] (Step o e)) d ts
  unfolding unplaced_exprs expr_tokens
  post_row step.PreInc s e d ts is le f = absurd (no_post s step.PreInc is refl)
  post_row step.PreDec s e d ts is le f = absurd (no_post s step.PreDec is refl)
  post_row step.PostInc s (ExprAt at names form) d ts is le f = left_row LeftHand Unary _ _ d ts f (omega arith) (λ first n h p b rest.
      let m = p b (tok sign.PlusPlus (codes "++") n ∷ rest) in
      made_expr m.tokens (post_step refl m.spells) (append m.written (fixed_next limit refl (below n d h le) end)) m.begins)
  post_row step.PostDec s (ExprAt at names form) d ts is le f = left_row LeftHand Unary _ _ d ts f (omega arith) (λ first n h p b rest.
      let m = p b (tok sign.MinusMinus (codes "--") n ∷ rest) in
      made_expr m.tokens (post_step refl m.spells) (append m.written (fixed_next limit refl (below n d h le) end)) m.begins)

  prefix_made : (o : Prefix) (s : Sign) (w : List ℕ) (e : Expr) (n : ℕ) (first : Bool) (rest : List Deep) → prefix_of s ≡ Some o → fixed_of s ≡ Some w → opens_other s ≡ false → limit.Allowed (suc n) → Placed limit false Unary e (suc n)
      → MakesExpr limit first Unary (ExprAt 0 [] (prefixed o (unplaced_expr e))) n (flat (mark w ∷ expr_tokens false 13 e ∷ [])) rest
  prefix_made o s w e n first rest is fix bare le p =
      let m = p false rest in
      made_expr (tok s w (suc n) ∷ m.tokens) (before_operand is m.spells) (fixed_next limit fix le (append m.written end)) (λ _. (bare, refl))

  pub prefix_row : (o : Prefix) (s : Sign) (w : Lexeme) (e : Expr) (d : ℕ) (ts us : List Deep) → prefix_of s ≡ Some o → limit.Allowed (suc d) → Found limit Unary e (suc d) us → Found limit Unary (ExprAt w.at [] (prefixed o e)) d ts
  unfolding unplaced_exprs expr_tokens
  prefix_row (prefixes.Unary un.Delete) s w e d ts us is le f = full_row Unary _ d ts (omega arith) (λ first n h b rest. prefix_made (prefixes.Unary un.Delete) sign.Delete (codes "delete") e n first rest refl refl refl (below (suc n) (suc d) (limit.down n d h) le) (later limit Unary e (suc d) us f (suc n) (limit.down n d h)))
  prefix_row (prefixes.Unary un.Void) s w e d ts us is le f = full_row Unary _ d ts (omega arith) (λ first n h b rest. prefix_made (prefixes.Unary un.Void) sign.Void (codes "void") e n first rest refl refl refl (below (suc n) (suc d) (limit.down n d h) le) (later limit Unary e (suc d) us f (suc n) (limit.down n d h)))
  prefix_row (prefixes.Unary un.TypeOf) s w e d ts us is le f = full_row Unary _ d ts (omega arith) (λ first n h b rest. prefix_made (prefixes.Unary un.TypeOf) sign.TypeOf (codes "typeof") e n first rest refl refl refl (below (suc n) (suc d) (limit.down n d h) le) (later limit Unary e (suc d) us f (suc n) (limit.down n d h)))
  prefix_row (prefixes.Unary un.Plus) s w e d ts us is le f = full_row Unary _ d ts (omega arith) (λ first n h b rest. prefix_made (prefixes.Unary un.Plus) sign.Plus (codes "+") e n first rest refl refl refl (below (suc n) (suc d) (limit.down n d h) le) (later limit Unary e (suc d) us f (suc n) (limit.down n d h)))
  prefix_row (prefixes.Unary un.Minus) s w e d ts us is le f = full_row Unary _ d ts (omega arith) (λ first n h b rest. prefix_made (prefixes.Unary un.Minus) sign.Minus (codes "-") e n first rest refl refl refl (below (suc n) (suc d) (limit.down n d h) le) (later limit Unary e (suc d) us f (suc n) (limit.down n d h)))
  prefix_row (prefixes.Unary un.BitNot) s w e d ts us is le f = full_row Unary _ d ts (omega arith) (λ first n h b rest. prefix_made (prefixes.Unary un.BitNot) sign.BitNot (codes "~") e n first rest refl refl refl (below (suc n) (suc d) (limit.down n d h) le) (later limit Unary e (suc d) us f (suc n) (limit.down n d h)))
  prefix_row (prefixes.Unary un.Not) s w e d ts us is le f = full_row Unary _ d ts (omega arith) (λ first n h b rest. prefix_made (prefixes.Unary un.Not) sign.Not (codes "!") e n first rest refl refl refl (below (suc n) (suc d) (limit.down n d h) le) (later limit Unary e (suc d) us f (suc n) (limit.down n d h)))
  prefix_row (prefixes.Step step.PreInc) s w e d ts us is le f = full_row Unary _ d ts (omega arith) (λ first n h b rest. prefix_made (prefixes.Step step.PreInc) sign.PlusPlus (codes "++") e n first rest refl refl refl (below (suc n) (suc d) (limit.down n d h) le) (later limit Unary e (suc d) us f (suc n) (limit.down n d h)))
  prefix_row (prefixes.Step step.PreDec) s w e d ts us is le f = full_row Unary _ d ts (omega arith) (λ first n h b rest. prefix_made (prefixes.Step step.PreDec) sign.MinusMinus (codes "--") e n first rest refl refl refl (below (suc n) (suc d) (limit.down n d h) le) (later limit Unary e (suc d) us f (suc n) (limit.down n d h)))
  prefix_row (prefixes.Step step.PostInc) s w e d ts us is le f = absurd (no_prefix s step.PostInc is refl)
  prefix_row (prefixes.Step step.PostDec) s w e d ts us is le f = absurd (no_prefix s step.PostDec is refl)

  -- ## Operators between two operands

  pair_made : (o : Infix) (s : Sign) (w : List ℕ) (a c : Expr) (b first : Bool) (n : ℕ) (rest : List Deep) → infix_of s b ≡ Some o → fixed_of s ≡ Some w → limit.Allowed n
      → Placed limit first (Operators b (suc (level_of o))) a n → Placed limit false (Operators b (level_of o)) c n
      → MakesExpr limit first (Operators b (suc (level_of o))) (ExprAt (expr_place (unplaced_expr a)) [] (joined o (unplaced_expr a) (unplaced_expr c))) n (flat (expr_tokens first (asked (Operators b (suc (level_of o)))) a ∷ mark w ∷ expr_tokens false (asked (Operators b (level_of o))) c ∷ [])) rest
  pair_made o s w a c b first n rest is fix le p q =
      let k = q b rest in
      let m = p b (tok s w n ∷ k.tokens) in
      made_expr m.tokens (between is m.spells k.spells) (append m.written (fixed_next limit fix le (append k.written end))) m.begins

  pub pair_row : (c : Bool) (o : Infix) (e g : Expr) (d : ℕ) (ts us : List Deep) → MildForm limit.Loose (joined o e g) → limit.Allowed d → Found limit (Operators c (suc (level_of o))) e d ts → Found limit (Operators c (level_of o)) g d us
      → Found limit (Operators c (suc (level_of o))) (ExprAt (expr_place e) [] (joined o e g)) d ts
  unfolding unplaced_exprs expr_tokens MildExpr
  pair_row c (infixes.Binary bin.Mul) (ExprAt at names form) g d ts us t le f k = left_row _ _ _ _ d ts f (omega arith) (λ first n h p b rest. pair_made (infixes.Binary bin.Mul) sign.Star _ (ExprAt at names form) g b first n rest refl refl (below n d h le) p (later limit _ g d us k n h))
  pair_row c (infixes.Binary bin.Div) (ExprAt at names form) g d ts us t le f k = left_row _ _ _ _ d ts f (omega arith) (λ first n h p b rest. pair_made (infixes.Binary bin.Div) sign.Slash _ (ExprAt at names form) g b first n rest refl refl (below n d h le) p (later limit _ g d us k n h))
  pair_row c (infixes.Binary bin.Rem) (ExprAt at names form) g d ts us t le f k = left_row _ _ _ _ d ts f (omega arith) (λ first n h p b rest. pair_made (infixes.Binary bin.Rem) sign.Percent _ (ExprAt at names form) g b first n rest refl refl (below n d h le) p (later limit _ g d us k n h))
  pair_row c (infixes.Binary bin.Add) (ExprAt at names form) g d ts us t le f k = left_row _ _ _ _ d ts f (omega arith) (λ first n h p b rest. pair_made (infixes.Binary bin.Add) sign.Plus _ (ExprAt at names form) g b first n rest refl refl (below n d h le) p (later limit _ g d us k n h))
  pair_row c (infixes.Binary bin.Sub) (ExprAt at names form) g d ts us t le f k = left_row _ _ _ _ d ts f (omega arith) (λ first n h p b rest. pair_made (infixes.Binary bin.Sub) sign.Minus _ (ExprAt at names form) g b first n rest refl refl (below n d h le) p (later limit _ g d us k n h))
  pair_row c (infixes.Binary bin.ShiftLeft) (ExprAt at names form) g d ts us t le f k = left_row _ _ _ _ d ts f (omega arith) (λ first n h p b rest. pair_made (infixes.Binary bin.ShiftLeft) sign.ShiftLeft _ (ExprAt at names form) g b first n rest refl refl (below n d h le) p (later limit _ g d us k n h))
  pair_row c (infixes.Binary bin.ShiftRight) (ExprAt at names form) g d ts us t le f k = left_row _ _ _ _ d ts f (omega arith) (λ first n h p b rest. pair_made (infixes.Binary bin.ShiftRight) sign.ShiftRight _ (ExprAt at names form) g b first n rest refl refl (below n d h le) p (later limit _ g d us k n h))
  pair_row c (infixes.Binary bin.ShiftRightZero) (ExprAt at names form) g d ts us t le f k = left_row _ _ _ _ d ts f (omega arith) (λ first n h p b rest. pair_made (infixes.Binary bin.ShiftRightZero) sign.ShiftRightZero _ (ExprAt at names form) g b first n rest refl refl (below n d h le) p (later limit _ g d us k n h))
  pair_row c (infixes.Binary bin.Less) (ExprAt at names form) g d ts us t le f k = left_row _ _ _ _ d ts f (omega arith) (λ first n h p b rest. pair_made (infixes.Binary bin.Less) sign.Less _ (ExprAt at names form) g b first n rest refl refl (below n d h le) p (later limit _ g d us k n h))
  pair_row c (infixes.Binary bin.Greater) (ExprAt at names form) g d ts us t le f k = left_row _ _ _ _ d ts f (omega arith) (λ first n h p b rest. pair_made (infixes.Binary bin.Greater) sign.Greater _ (ExprAt at names form) g b first n rest refl refl (below n d h le) p (later limit _ g d us k n h))
  pair_row c (infixes.Binary bin.LessEqual) (ExprAt at names form) g d ts us t le f k = left_row _ _ _ _ d ts f (omega arith) (λ first n h p b rest. pair_made (infixes.Binary bin.LessEqual) sign.LessEqual _ (ExprAt at names form) g b first n rest refl refl (below n d h le) p (later limit _ g d us k n h))
  pair_row c (infixes.Binary bin.GreaterEqual) (ExprAt at names form) g d ts us t le f k = left_row _ _ _ _ d ts f (omega arith) (λ first n h p b rest. pair_made (infixes.Binary bin.GreaterEqual) sign.GreaterEqual _ (ExprAt at names form) g b first n rest refl refl (below n d h le) p (later limit _ g d us k n h))
  pair_row c (infixes.Binary bin.InstanceOf) (ExprAt at names form) g d ts us t le f k = left_row _ _ _ _ d ts f (omega arith) (λ first n h p b rest. pair_made (infixes.Binary bin.InstanceOf) sign.InstanceOf _ (ExprAt at names form) g b first n rest refl refl (below n d h le) p (later limit _ g d us k n h))
  pair_row c (infixes.Binary bin.In) (ExprAt at names form) g d ts us t le f k = free_row (Operators c 4) (Operators c 4) _ _ d ts t.0 f (λ first n h p b rest.
      let m = pair_made (infixes.Binary bin.In) sign.In _ (ExprAt at names form) g false first n rest refl refl (below n d h le) p (later limit _ g d us k n h) in
      whole_expr limit first 9 _ n _ rest m)
  pair_row c (infixes.Binary bin.Equal) (ExprAt at names form) g d ts us t le f k = left_row _ _ _ _ d ts f (omega arith) (λ first n h p b rest. pair_made (infixes.Binary bin.Equal) sign.Equal _ (ExprAt at names form) g b first n rest refl refl (below n d h le) p (later limit _ g d us k n h))
  pair_row c (infixes.Binary bin.NotEqual) (ExprAt at names form) g d ts us t le f k = left_row _ _ _ _ d ts f (omega arith) (λ first n h p b rest. pair_made (infixes.Binary bin.NotEqual) sign.NotEqual _ (ExprAt at names form) g b first n rest refl refl (below n d h le) p (later limit _ g d us k n h))
  pair_row c (infixes.Binary bin.Same) (ExprAt at names form) g d ts us t le f k = left_row _ _ _ _ d ts f (omega arith) (λ first n h p b rest. pair_made (infixes.Binary bin.Same) sign.Same _ (ExprAt at names form) g b first n rest refl refl (below n d h le) p (later limit _ g d us k n h))
  pair_row c (infixes.Binary bin.NotSame) (ExprAt at names form) g d ts us t le f k = left_row _ _ _ _ d ts f (omega arith) (λ first n h p b rest. pair_made (infixes.Binary bin.NotSame) sign.NotSame _ (ExprAt at names form) g b first n rest refl refl (below n d h le) p (later limit _ g d us k n h))
  pair_row c (infixes.Binary bin.BitAnd) (ExprAt at names form) g d ts us t le f k = left_row _ _ _ _ d ts f (omega arith) (λ first n h p b rest. pair_made (infixes.Binary bin.BitAnd) sign.BitAnd _ (ExprAt at names form) g b first n rest refl refl (below n d h le) p (later limit _ g d us k n h))
  pair_row c (infixes.Binary bin.BitXor) (ExprAt at names form) g d ts us t le f k = left_row _ _ _ _ d ts f (omega arith) (λ first n h p b rest. pair_made (infixes.Binary bin.BitXor) sign.BitXor _ (ExprAt at names form) g b first n rest refl refl (below n d h le) p (later limit _ g d us k n h))
  pair_row c (infixes.Binary bin.BitOr) (ExprAt at names form) g d ts us t le f k = left_row _ _ _ _ d ts f (omega arith) (λ first n h p b rest. pair_made (infixes.Binary bin.BitOr) sign.BitOr _ (ExprAt at names form) g b first n rest refl refl (below n d h le) p (later limit _ g d us k n h))
  pair_row c infixes.And (ExprAt at names form) g d ts us t le f k = left_row _ _ _ _ d ts f (omega arith) (λ first n h p b rest. pair_made infixes.And sign.AndAnd _ (ExprAt at names form) g b first n rest refl refl (below n d h le) p (later limit _ g d us k n h))
  pair_row c infixes.Or (ExprAt at names form) g d ts us t le f k = left_row _ _ _ _ d ts f (omega arith) (λ first n h p b rest. pair_made infixes.Or sign.OrOr _ (ExprAt at names form) g b first n rest refl refl (below n d h le) p (later limit _ g d us k n h))

  -- ## Conditions, assignments, commas

  pub choice_row : (x : Bool) (a c e : Expr) (d : ℕ) (ts us vs : List Deep) → limit.Allowed (suc d) → Found limit (Operators x 10) a d ts → Found limit (Assignment x) c (suc d) us → Found limit (Assignment x) e (suc d) vs
      → Found limit (Assignment x) (ExprAt (expr_place a) [] (Cond a c e)) d ts
  unfolding unplaced_exprs expr_tokens
  choice_row x (ExprAt at names form) c e d ts us vs le f g k = left_row (Operators x 10) (Assignment x) _ _ d ts f (omega arith) (λ first n h p b rest.
      let deep = below (suc n) (suc d) (limit.down n d h) le in
      let l = later limit (Assignment x) e (suc d) vs k (suc n) (limit.down n d h) b rest in
      let j = later limit (Assignment x) c (suc d) us g (suc n) (limit.down n d h) b (tok sign.Colon (codes ":") (suc n) ∷ l.tokens) in
      let m = p b (tok sign.Question (codes "?") (suc n) ∷ j.tokens) in
      made_expr m.tokens (choice m.spells j.spells l.spells) (append m.written (fixed_next limit refl deep (append j.written (fixed_next limit refl deep (append l.written end))))) m.begins)

  assign_made : (o : AssignOp) (s : Sign) (w : List ℕ) (a c : Expr) (b first : Bool) (n : ℕ) (rest : List Deep) → assign_of s ≡ Some o → fixed_of s ≡ Some w → limit.Allowed (suc n)
      → Placed limit first LeftHand a n → Placed limit false (Assignment b) c (suc n)
      → MakesExpr limit first (Assignment b) (ExprAt (expr_place (unplaced_expr a)) [] (Assign o (unplaced_expr a) (unplaced_expr c))) n (flat (expr_tokens first 15 a ∷ mark w ∷ expr_tokens false 2 c ∷ [])) rest
  assign_made o s w a c b first n rest is fix le p q =
      let k = q b rest in
      let m = p b (tok s w (suc n) ∷ k.tokens) in
      made_expr m.tokens (assign is m.spells k.spells) (append m.written (fixed_next limit fix le (append k.written end))) m.begins

  pub assign_row : (x : Bool) (o : AssignOp) (e g : Expr) (d : ℕ) (ts us : List Deep) → limit.Allowed (suc d) → Found limit LeftHand e d ts → Found limit (Assignment x) g (suc d) us → Found limit (Assignment x) (ExprAt (expr_place e) [] (Assign o e g)) d ts
  unfolding unplaced_exprs expr_tokens
  assign_row x assigns.Assign (ExprAt at names form) g d ts us le f k = left_row LeftHand (Assignment x) _ _ d ts f (omega arith) (λ first n h p b rest. assign_made assigns.Assign sign.Assign _ (ExprAt at names form) g b first n rest refl refl (below (suc n) (suc d) (limit.down n d h) le) p (later limit (Assignment x) g (suc d) us k (suc n) (limit.down n d h)))
  assign_row x assigns.Add (ExprAt at names form) g d ts us le f k = left_row LeftHand (Assignment x) _ _ d ts f (omega arith) (λ first n h p b rest. assign_made assigns.Add sign.PlusAssign _ (ExprAt at names form) g b first n rest refl refl (below (suc n) (suc d) (limit.down n d h) le) p (later limit (Assignment x) g (suc d) us k (suc n) (limit.down n d h)))
  assign_row x assigns.Sub (ExprAt at names form) g d ts us le f k = left_row LeftHand (Assignment x) _ _ d ts f (omega arith) (λ first n h p b rest. assign_made assigns.Sub sign.MinusAssign _ (ExprAt at names form) g b first n rest refl refl (below (suc n) (suc d) (limit.down n d h) le) p (later limit (Assignment x) g (suc d) us k (suc n) (limit.down n d h)))
  assign_row x assigns.Mul (ExprAt at names form) g d ts us le f k = left_row LeftHand (Assignment x) _ _ d ts f (omega arith) (λ first n h p b rest. assign_made assigns.Mul sign.StarAssign _ (ExprAt at names form) g b first n rest refl refl (below (suc n) (suc d) (limit.down n d h) le) p (later limit (Assignment x) g (suc d) us k (suc n) (limit.down n d h)))
  assign_row x assigns.Div (ExprAt at names form) g d ts us le f k = left_row LeftHand (Assignment x) _ _ d ts f (omega arith) (λ first n h p b rest. assign_made assigns.Div sign.SlashAssign _ (ExprAt at names form) g b first n rest refl refl (below (suc n) (suc d) (limit.down n d h) le) p (later limit (Assignment x) g (suc d) us k (suc n) (limit.down n d h)))
  assign_row x assigns.Rem (ExprAt at names form) g d ts us le f k = left_row LeftHand (Assignment x) _ _ d ts f (omega arith) (λ first n h p b rest. assign_made assigns.Rem sign.PercentAssign _ (ExprAt at names form) g b first n rest refl refl (below (suc n) (suc d) (limit.down n d h) le) p (later limit (Assignment x) g (suc d) us k (suc n) (limit.down n d h)))
  assign_row x assigns.ShiftLeft (ExprAt at names form) g d ts us le f k = left_row LeftHand (Assignment x) _ _ d ts f (omega arith) (λ first n h p b rest. assign_made assigns.ShiftLeft sign.ShiftLeftAssign _ (ExprAt at names form) g b first n rest refl refl (below (suc n) (suc d) (limit.down n d h) le) p (later limit (Assignment x) g (suc d) us k (suc n) (limit.down n d h)))
  assign_row x assigns.ShiftRight (ExprAt at names form) g d ts us le f k = left_row LeftHand (Assignment x) _ _ d ts f (omega arith) (λ first n h p b rest. assign_made assigns.ShiftRight sign.ShiftRightAssign _ (ExprAt at names form) g b first n rest refl refl (below (suc n) (suc d) (limit.down n d h) le) p (later limit (Assignment x) g (suc d) us k (suc n) (limit.down n d h)))
  assign_row x assigns.ShiftRightZero (ExprAt at names form) g d ts us le f k = left_row LeftHand (Assignment x) _ _ d ts f (omega arith) (λ first n h p b rest. assign_made assigns.ShiftRightZero sign.ShiftRightZeroAssign _ (ExprAt at names form) g b first n rest refl refl (below (suc n) (suc d) (limit.down n d h) le) p (later limit (Assignment x) g (suc d) us k (suc n) (limit.down n d h)))
  assign_row x assigns.BitAnd (ExprAt at names form) g d ts us le f k = left_row LeftHand (Assignment x) _ _ d ts f (omega arith) (λ first n h p b rest. assign_made assigns.BitAnd sign.BitAndAssign _ (ExprAt at names form) g b first n rest refl refl (below (suc n) (suc d) (limit.down n d h) le) p (later limit (Assignment x) g (suc d) us k (suc n) (limit.down n d h)))
  assign_row x assigns.BitOr (ExprAt at names form) g d ts us le f k = left_row LeftHand (Assignment x) _ _ d ts f (omega arith) (λ first n h p b rest. assign_made assigns.BitOr sign.BitOrAssign _ (ExprAt at names form) g b first n rest refl refl (below (suc n) (suc d) (limit.down n d h) le) p (later limit (Assignment x) g (suc d) us k (suc n) (limit.down n d h)))
  assign_row x assigns.BitXor (ExprAt at names form) g d ts us le f k = left_row LeftHand (Assignment x) _ _ d ts f (omega arith) (λ first n h p b rest. assign_made assigns.BitXor sign.BitXorAssign _ (ExprAt at names form) g b first n rest refl refl (below (suc n) (suc d) (limit.down n d h) le) p (later limit (Assignment x) g (suc d) us k (suc n) (limit.down n d h)))

  pub comma_row : (e g : Expr) (d : ℕ) (ts us : List Deep) → limit.Allowed d → Found limit Whole e d ts → Found limit (Assignment false) g d us → Found limit Whole (ExprAt (expr_place e) [] (Comma e g)) d ts
  unfolding unplaced_exprs expr_tokens
  comma_row (ExprAt at names form) g d ts us le f k = left_row Whole Whole _ _ d ts f (omega arith) (λ first n h p b rest.
      let l = later limit (Assignment false) g d us k n h false rest in
      let m = p b (tok sign.Comma (codes ",") n ∷ l.tokens) in
      made_expr m.tokens (comma m.spells l.spells) (append m.written (fixed_next limit refl (below n d h le) (append l.written end))) m.begins)

  -- ## `new`

  pub new_row : (w : Lexeme) (e : Expr) (xs : Exprs) (d : ℕ) (ts us : List Deep) → limit.Allowed d → limit.Allowed (suc d) → Found limit Operand e d us → GoodItems false xs (suc d) → Found limit LeftHand (ExprAt w.at [] (New e xs)) d ts
  unfolding unplaced_exprs expr_tokens
  new_row w e xs d ts us le deep f g = full_row LeftHand _ d ts (omega arith) (λ first n h b rest.
      let k = g (suc n) (limit.down n d h) (tok sign.Close (codes ")") (suc n) ∷ rest) in
      let m = later limit Operand e d us f n h b (tok sign.Open (codes "(") (suc n) ∷ k.tokens) in
      made_expr (tok sign.New (codes "new") n ∷ m.tokens) (new_with m.spells k.spells) (fixed_next limit refl (below n d h le) (append m.written (marked sign.Open sign.Close refl refl (below (suc n) (suc d) (limit.down n d h) deep) k.written))) (λ _. (refl, refl)))
