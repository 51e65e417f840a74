-- A step of the machine keeps what has been taken fit for the frames.
use Rattle.std.proofs.Common.{◌≡◌, ℕ, zero, suc, ◌≤◌, List, [], ◌∷◌, Bool, true, false, Option, Some, None, refl, sym, subst, ◌∙◌, nat_lt, arith, ◌+◌, ◌-◌, cond as choose}
use Rattle.std.proofs.lemmas.Bool.Decides.{nat_tests}
use Rattle.js_grammar.specs.declared.Sign.{Sign}
use Rattle.js_grammar.specs.declared.Sign.TheVariants as sign
use Rattle.js_grammar.specs.declared.Infix.{Infix}
use Rattle.js_grammar.specs.declared.Prefix.{Prefix}
use Rattle.js_grammar.specs.Tables.{infix_of, level_of, joined, prefix_of, prefixed, step_of, assign_of}
use Rattle.js_grammar.specs.Grammar.{Lexeme, Token, Deep, Level, Primary, Operand, LeftHand, Unary, Operators, Assignment, Whole, An, Items, Keys, Names, Vars, Spells}
use Rattle.js_grammar.specs.Grammar.Spells.{name, number, string, this, null, true_word, false_word, paren, array, object, operand, operand_dot, operand_sub, left_hand, dot, sub, call, new_with, new_alone, unary, post_step, before_operand, operators, looser, between, assignment, choice, assign, whole, comma, next_item, next_key, something, no_statement, next_var, variables, while_loop, do_loop, for_vars, for_items, returns, throws, with_object, next_case}
use Rattle.js_grammar.specs.Machine as machine
use Rattle.js_grammar.specs.Machine.{Frame, Wants, Step, step}
use Rattle.js_grammar.specs.Machine.{UnaryAt, Tail, Target, Rest, Right, Choice, Commas}
use Rattle.js_tree.specs.declared.nodes.StepOp.{StepOp}
use Rattle.js_tree.specs.declared.nodes.AssignOp.{AssignOp}
use Rattle.js_tree.specs.Plain.{Expr, Exprs, ExprAt, New, Cond, Assign, Comma, NoExprs, AndExpr, SomeExpr, Properties, AndProperty, Decls, AndDecl, expr_place}
use Rattle.js_grammar.proofs.Waits.{Of, OfItems, OfKeys, OfNames, OfVars, Loose, Waits, Holds, as_operand, as_left_hand, in_tail, in_new, in_target, in_prefix, in_rest, in_right, in_choice, in_second, in_third, in_assigned, in_commas, in_comma, in_paren, in_index, in_items, in_value, in_init, in_only, in_return, in_throw, in_over, in_for_test, in_case_test, in_test, in_if, in_while, in_do, in_with, in_switch, in_array, in_call, in_new_list, in_for_items, in_for_steps, in_object, in_names, in_vars, in_for_vars, in_if_block, in_while_block, in_with_block, in_for_block, in_for_in_block, in_case}

-- a step leads to what fits, where the depth of the token is the step's
abbrev pub Keeps : List Deep → (ℕ → Type 0) → Step → List Deep → Type 0
Keeps w From None rest = Unit {0}
Keeps w From (Some (m, next)) rest = From m → Holds w next rest

pub weaken : (w : List Deep) (From To : ℕ → Type 0) (st : Step) (rest : List Deep) → ((m : ℕ) → From m → To m) → Keeps w To st rest → Keeps w From st rest
weaken w From To None rest f h = tt
weaken w From To (Some (m, next)) rest f h = λ x. h (f m x)

-- where what is kept depends on what fits
pub given : (w : List Deep) (Fit : ℕ → Type 0) (From : (m : ℕ) → Fit m → ℕ → Type 0) (st : Step) (rest : List Deep) → ((m : ℕ) (a : Fit m) → Keeps w (From m a) st rest) → ((m : ℕ) (a : Fit m) → From m a m) → Keeps w Fit st rest
given w Fit From None rest f g = tt
given w Fit From (Some (m, next)) rest f g = λ a. f m a (g m a)

-- ## Levels

pub raise_by : (b : Bool) (n j : ℕ) (e : Expr) (d : ℕ) (ts rest : List Deep) → Spells (An (Operators b n) e) d ts rest → Spells (An (Operators b (j + n)) e) d ts rest
raise_by b n zero e d ts rest s = subst (λ x. Spells (An (Operators b x) e) d ts rest) (omega arith) s
raise_by b n (suc j) e d ts rest s = subst (λ x. Spells (An (Operators b x) e) d ts rest) (omega arith) (looser (raise_by b n j e d ts rest s))

pub raise : (b : Bool) (n m : ℕ) (e : Expr) (d : ℕ) (ts rest : List Deep) → n ≤ m → Spells (An (Operators b n) e) d ts rest → Spells (An (Operators b m) e) d ts rest
raise b n m e d ts rest le s = subst (λ x. Spells (An (Operators b x) e) d ts rest) (omega arith) (raise_by b n (m - n) e d ts rest s)

pub none_some : {r : Option Infix} {o : Infix} → r ≡ None → r ≡ Some o → ⊥
none_some {r} {o} h g = let both : None ≡ Some o = sym h ∙ g in cc

pub same_some : {r : Option Infix} {o u : Infix} → r ≡ Some o → r ≡ Some u → o ≡ u
same_some {r} {o} {u} h g = let both : Some o ≡ Some u = sym h ∙ g in cc

module _ (w : List Deep) where
  pub waits_expr : {b : Bool} {d : ℕ} {start : List Deep} {k : List Frame} → Waits w (Of (Assignment b)) d start k → Waits w (Of Unary) d start (Rest b 10 d ∷ Choice b d ∷ k)
  waits_expr h = in_rest (in_choice h)

  pub waits_whole : {d : ℕ} {start : List Deep} {k : List Frame} → Waits w (Of Whole) d start k → Waits w (Of Unary) d start (Rest false 10 d ∷ Choice false d ∷ Commas d ∷ k)
  waits_whole h = in_rest (in_choice (in_commas h))

  -- ## The first token of an expression

  pub primary_keeps : (d : ℕ) (k : List Frame) (t : Token) (rest : List Deep) → Keeps w (λ m. Waits w (Of Primary) d ((t, m) ∷ rest) k) (machine.primary d k t) rest
  primary_keeps d k (sign.Name, x) rest = λ h. (Primary, d, _, name, h, λ s. tt)
  primary_keeps d k (sign.Number, x) rest = λ h. (Primary, d, _, number, h, λ s. tt)
  primary_keeps d k (sign.Str, x) rest = λ h. (Primary, d, _, string, h, λ s. tt)
  primary_keeps d k (sign.This, x) rest = λ h. (Primary, d, _, this, h, λ s. tt)
  primary_keeps d k (sign.Null, x) rest = λ h. (Primary, d, _, null, h, λ s. tt)
  primary_keeps d k (sign.True, x) rest = λ h. (Primary, d, _, true_word, h, λ s. tt)
  primary_keeps d k (sign.False, x) rest = λ h. (Primary, d, _, false_word, h, λ s. tt)
  primary_keeps d k (sign.Open, x) rest = λ h. waits_whole (in_paren h)
  primary_keeps d k (sign.OpenSquare, x) rest = λ h. in_array h
  primary_keeps d k (sign.OpenBrace, x) rest = λ h. in_object h
  primary_keeps d k (sign.Function, x) rest = λ h. h
  primary_keeps d k _ rest = tt

  pub left_hand_keeps : (d : ℕ) (k : List Frame) (t : Token) (rest : List Deep) → Keeps w (λ m. Waits w (Of LeftHand) d ((t, m) ∷ rest) k) (machine.left_hand d k t) rest
  left_hand_keeps d k (sign.New, x) rest = λ h. as_operand (in_new (in_tail h))
  left_hand_keeps d k t rest = weaken w _ (λ m. Waits w (Of Primary) d ((t, m) ∷ rest) (Tail d ∷ k)) (machine.primary d (Tail d ∷ k) t) rest (λ m h. as_left_hand (in_tail h)) (primary_keeps d (Tail d ∷ k) t rest)

  pub prefix_keeps : (r : Option Prefix) (s : Sign) (x : Lexeme) (d : ℕ) (k : List Frame) (other : Step) (rest : List Deep) → prefix_of s ≡ r → Keeps w (λ m. Waits w (Of Unary) d (((s, x), m) ∷ rest) k) other rest → Keeps w (λ m. Waits w (Of Unary) d (((s, x), m) ∷ rest) k) (machine.prefix_or r d x k other) rest
  prefix_keeps None s x d k other rest is g = g
  prefix_keeps (Some o) s x d k other rest is g = λ h. in_prefix is h

  pub unary_keeps : (d : ℕ) (k : List Frame) (s : Sign) (x : Lexeme) (rest : List Deep) → Keeps w (λ m. Waits w (Of Unary) d (((s, x), m) ∷ rest) k) (machine.unary d k (s, x)) rest
  unary_keeps d k s x rest = prefix_keeps (prefix_of s) s x d k (machine.left_hand d (Target d ∷ k) (s, x)) rest refl
      (weaken w _ (λ m. Waits w (Of LeftHand) d (((s, x), m) ∷ rest) (Target d ∷ k)) (machine.left_hand d (Target d ∷ k) (s, x)) rest (λ m h. in_target h) (left_hand_keeps d (Target d ∷ k) (s, x) rest))

  -- ## Lists, when they are there

  pub listed_keeps : {b : Bool} {d : ℕ} {start : List Deep} {k : List Frame} → Waits w (OfItems b) d start k → (xs : Exprs) (t : Token) (rest : List Deep) → Keeps w (λ m. Spells (Items b xs) d start ((t, m) ∷ rest)) (machine.listed xs k t) rest
  listed_keeps (in_array h) xs (sign.CloseSquare, x) rest = λ s. (Primary, _, _, array s, h, λ s. tt)
  listed_keeps (in_array h) xs _ rest = tt
  listed_keeps (in_call f h) xs (sign.Close, x) rest = λ s. (LeftHand, _, _, call f s, h, λ s. tt)
  listed_keeps (in_call f h) xs _ rest = tt
  listed_keeps (in_new_list f h) xs (sign.Close, x) rest = λ s. (LeftHand, _, _, new_with f s, h, λ s. tt)
  listed_keeps (in_new_list f h) xs _ rest = tt
  listed_keeps (in_for_items h) xs (sign.Semicolon, x) rest = λ s. (_, λ test ys ss l q vs ws end t u v. for_items s t u v, h)
  listed_keeps (in_for_items h) xs _ rest = tt
  listed_keeps (in_for_steps make test h) xs (sign.Close, x) rest = λ s. in_for_block (λ ss end v. make _ xs ss _ _ _ _ end test s v) h
  listed_keeps (in_for_steps make test h) xs _ rest = tt

  pub keyed_keeps : {d : ℕ} {start : List Deep} {k : List Frame} → Waits w OfKeys d start k → (ps : Properties) (at : List ℕ) (x : Lexeme) (rest : List Deep) → Keeps w (λ m. Spells (Keys ps at) d start (((sign.CloseBrace, x), m) ∷ rest)) (machine.keyed d ps at k) rest
  keyed_keeps (in_object h) ps at x rest = λ s. (Primary, _, _, object s, h, λ s. tt)

  pub named_keeps : {d : ℕ} {start : List Deep} {k : List Frame} → Waits w OfNames d start k → (xs : List Lexeme) (x : Lexeme) (rest : List Deep) → Keeps w (λ m. Spells (Names xs) d start (((sign.Close, x), m) ∷ rest)) (machine.named d xs k) rest
  named_keeps (in_names h) xs x rest = λ s. (_, _, _, s, h)

  pub declared_keeps : {b : Bool} {d : ℕ} {start : List Deep} {k : List Frame} → Waits w (OfVars b) d start k → (ds : Decls) (t : Token) (rest : List Deep) → Keeps w (λ m. Spells (Vars b ds) d start ((t, m) ∷ rest)) (machine.declared ds k t) rest
  declared_keeps (in_vars h) ds (sign.Semicolon, x) rest = λ s. (_, _, variables s, h)
  declared_keeps (in_vars h) ds _ rest = tt
  declared_keeps (in_for_vars h) ds (sign.Semicolon, x) rest = λ s. (_, λ test ys ss l q vs ws end t u v. for_vars s t u v, h)
  declared_keeps (in_for_vars h) ds _ rest = tt

  -- ## A token after an expression

  pub assigned_keeps : {d : ℕ} {start : List Deep} {k : List Frame} → Waits w (Of Unary) d start k → (s : Sign) (x : Lexeme) (o : AssignOp) (e : Expr) (rest : List Deep) → assign_of s ≡ Some o → Keeps w (λ m. Spells (An LeftHand e) d start (((s, x), m) ∷ rest)) (machine.assigned_to o d e k) rest
  assigned_keeps (in_rest (in_choice h)) s x o e rest is = λ l. waits_expr (in_assigned is l h)
  assigned_keeps (in_rest (in_right i le a h)) s x o e rest is = tt
  assigned_keeps (in_prefix p h) s x o e rest is = tt

  pub assign_keeps : (r : Option AssignOp) {d : ℕ} {start : List Deep} {k : List Frame} → Waits w (Of Unary) d start k → (s : Sign) (x : Lexeme) (e : Expr) (other : Step) (rest : List Deep) → assign_of s ≡ r → Keeps w (λ m. Spells (An LeftHand e) d start (((s, x), m) ∷ rest)) other rest → Keeps w (λ m. Spells (An LeftHand e) d start (((s, x), m) ∷ rest)) (machine.assign_or r d e k other) rest
  assign_keeps None h s x e other rest is g = g
  assign_keeps (Some o) h s x e other rest is g = assigned_keeps h s x o e rest is

  pub step_or_keeps : (r : Option StepOp) {d : ℕ} {start : List Deep} {k : List Frame} → Waits w (Of Unary) d start k → (s : Sign) (x : Lexeme) (e : Expr) (other : Step) (rest : List Deep) → step_of s ≡ r → Keeps w (λ m. Spells (An LeftHand e) d start (((s, x), m) ∷ rest)) other rest → Keeps w (λ m. Spells (An LeftHand e) d start (((s, x), m) ∷ rest)) (machine.step_or r d e k other) rest
  step_or_keeps None h s x e other rest is g = g
  step_or_keeps (Some o) h s x e other rest is g = λ l. (Unary, _, _, post_step is l, h, λ s. tt)

  pub infix_deep : (c : Bool) (b : Bool) (s : Sign) (x : Lexeme) (o : Infix) (j n d : ℕ) (start : List Deep) (k : List Frame) (e : Expr) (other : Step) (rest : List Deep) → nat_lt (level_of o) n ≡ c → infix_of s b ≡ Some o → j ≤ suc (level_of o) → Waits w (Of (Operators b n)) d start k → (n ≤ level_of o → Keeps w (λ m. Spells (An (Operators b j) e) d start (((s, x), m) ∷ rest)) other rest) → Keeps w (λ m. Spells (An (Operators b j) e) d start (((s, x), m) ∷ rest)) (choose c (Some (d, Wants (UnaryAt d ∷ Rest b (level_of o) d ∷ Right o e ∷ Rest b n d ∷ k))) other) rest
  infix_deep true b s x o j n d start k e other rest lt is le h g = λ l.
      let deep : suc (level_of o) ≤ n = grind (arith, nat_tests) in
      in_rest (in_right is deep (raise b j (suc (level_of o)) e d start (((s, x), d) ∷ rest) le l) h)
  infix_deep false b s x o j n d start k e other rest lt is le h g = g (grind (arith, nat_tests))

  pub infix_keeps : (r : Option Infix) (b : Bool) (s : Sign) (x : Lexeme) (j n d : ℕ) (start : List Deep) (k : List Frame) (e : Expr) (other : Step) (rest : List Deep) → infix_of s b ≡ r → ((o : Infix) → infix_of s b ≡ Some o → j ≤ suc (level_of o)) → Waits w (Of (Operators b n)) d start k → (Loose (Operators b n) s → Keeps w (λ m. Spells (An (Operators b j) e) d start (((s, x), m) ∷ rest)) other rest) → Keeps w (λ m. Spells (An (Operators b j) e) d start (((s, x), m) ∷ rest)) (machine.infix_or r b n d e k other) rest
  infix_keeps None b s x j n d start k e other rest is up h g = g (λ o some. absurd (none_some is some))
  infix_keeps (Some o) b s x j n d start k e other rest is up h g =
      infix_deep (nat_lt (level_of o) n) b s x o j n d start k e other rest refl is (up o is) h (λ le. g (λ u some. subst (λ y. n ≤ level_of y) (same_some is some) le))

  pub after_keeps : {l : Level} {d : ℕ} {start : List Deep} {k : List Frame} → Waits w (Of l) d start k → (e : Expr) (s : Sign) (x : Lexeme) (rest : List Deep) → Loose l s → Keeps w (λ m. Spells (An l e) d start (((s, x), m) ∷ rest)) (machine.after e k (s, x)) rest
  after_keeps (as_operand {d} {start} {k} h) e s x rest loose = weaken w _ _ (machine.after e k (s, x)) rest (λ m sp. operand sp) (after_keeps h e s x rest tt)
  after_keeps (as_left_hand {d} {start} {k} h) e s x rest loose = weaken w _ _ (machine.after e k (s, x)) rest (λ m sp. left_hand sp) (after_keeps h e s x rest tt)
  after_keeps (in_tail {d} {start} {k} h) e sign.Point x rest loose = λ sp. (LeftHand, start, λ y end is. dot (subst (λ l. Spells (An LeftHand e) d start (((sign.Point, x), d) ∷ l)) is sp), λ s. tt, in_tail h)
  after_keeps (in_tail {d} {start} {k} h) e sign.OpenSquare x rest loose = λ sp. waits_whole (in_index (λ i q end t. sub sp t) (λ s. tt) (in_tail h))
  after_keeps (in_tail {d} {start} {k} h) e sign.Open x rest loose = λ sp. in_call sp (in_tail h)
  after_keeps (in_tail {d} {start} {k} h) e s x rest loose = after_keeps h e s x rest tt
  after_keeps (in_new {x = y} {d} {start} {k} h) e sign.Point x rest loose = λ sp. (Operand, start, λ z end is. operand_dot (subst (λ l. Spells (An Operand e) d start (((sign.Point, x), d) ∷ l)) is sp), λ s. tt, in_new h)
  after_keeps (in_new {x = y} {d} {start} {k} h) e sign.OpenSquare x rest loose = λ sp. waits_whole (in_index (λ i q end t. operand_sub sp t) (λ s. tt) (in_new h))
  after_keeps (in_new {x = y} {d} {start} {k} h) e sign.Open x rest loose = λ sp. in_new_list sp h
  after_keeps (in_new {x = y} {d} {start} {k} h) e s x rest loose =
      weaken w _ (λ m. Spells (An LeftHand (ExprAt y.at [] (New e NoExprs))) d (((sign.New, y), d) ∷ start) (((s, x), m) ∷ rest)) (machine.after (ExprAt y.at [] (New e NoExprs)) k (s, x)) rest (λ m sp. new_alone sp refl) (after_keeps h (ExprAt y.at [] (New e NoExprs)) s x rest tt)
  after_keeps (in_target {d} {start} {k} h) e s x rest loose =
      step_or_keeps (step_of s) h s x e (machine.assign_or (assign_of s) d e k (machine.after e k (s, x))) rest refl
      (assign_keeps (assign_of s) h s x e (machine.after e k (s, x)) rest refl
      (weaken w _ (λ m. Spells (An Unary e) d start (((s, x), m) ∷ rest)) (machine.after e k (s, x)) rest (λ m sp. unary sp) (after_keeps h e s x rest tt)))
  after_keeps (in_prefix {s = u} {x = y} {o} {d} {start} {k} is h) e s x rest loose =
      weaken w _ (λ m. Spells (An Unary (ExprAt y.at [] (prefixed o e))) d (((u, y), suc d) ∷ start) (((s, x), m) ∷ rest)) (machine.after (ExprAt y.at [] (prefixed o e)) k (s, x)) rest (λ m sp. before_operand is sp) (after_keeps h (ExprAt y.at [] (prefixed o e)) s x rest tt)
  after_keeps (in_rest {b} {n} {d} {start} {k} h) e s x rest loose =
      weaken w _ (λ m. Spells (An (Operators b 0) e) d start (((s, x), m) ∷ rest)) (machine.infix_or (infix_of s b) b n d e k (machine.after e k (s, x))) rest (λ m sp. operators sp)
      (infix_keeps (infix_of s b) b s x 0 n d start k e (machine.after e k (s, x)) rest refl (λ o is. omega arith) h
      (λ l. weaken w _ (λ m. Spells (An (Operators b n) e) d start (((s, x), m) ∷ rest)) (machine.after e k (s, x)) rest (λ m sp. raise b 0 n e d start (((s, x), m) ∷ rest) (omega arith) sp) (after_keeps h e s x rest l)))
  after_keeps (in_right {b} {s = u} {x = y} {o} {a} {n} {d} {from} {start} {k} is le sp h) e s x rest loose =
      let made : Expr = ExprAt (expr_place a) [] (joined o a e) in
      weaken w _ (λ m. Spells (An (Operators b (suc (level_of o))) made) d from (((s, x), m) ∷ rest)) (machine.infix_or (infix_of s b) b n d made k (machine.after made k (s, x))) rest (λ m c. between is sp c)
      (infix_keeps (infix_of s b) b s x (suc (level_of o)) n d from k made (machine.after made k (s, x)) rest refl (λ v v_is. let below : level_of o ≤ level_of v = loose v v_is in omega arith) h
      (λ l. weaken w _ (λ m. Spells (An (Operators b n) made) d from (((s, x), m) ∷ rest)) (machine.after made k (s, x)) rest (λ m c. raise b (suc (level_of o)) n made d from (((s, x), m) ∷ rest) le c) (after_keeps h made s x rest l)))
  after_keeps (in_choice {b} {d} {start} {k} h) e sign.Question x rest loose = λ sp. waits_expr (in_second sp h)
  after_keeps (in_choice {b} {d} {start} {k} h) e s x rest loose = weaken w _ (λ m. Spells (An (Assignment b) e) d start (((s, x), m) ∷ rest)) (machine.after e k (s, x)) rest (λ m sp. assignment sp) (after_keeps h e s x rest tt)
  after_keeps (in_second sp h) e sign.Colon x rest loose = λ c. waits_expr (in_third sp c h)
  after_keeps (in_second sp h) e _ x rest loose = tt
  after_keeps (in_third {b} {x = y} {y = z} {a} {c} {d} {from} {us} {start} {k} sp sc h) e s x rest loose =
      weaken w _ (λ m. Spells (An (Assignment b) (ExprAt (expr_place a) [] (Cond a c e))) d from (((s, x), m) ∷ rest)) (machine.after (ExprAt (expr_place a) [] (Cond a c e)) k (s, x)) rest (λ m se. choice sp sc se) (after_keeps h (ExprAt (expr_place a) [] (Cond a c e)) s x rest tt)
  after_keeps (in_assigned {b} {s = u} {x = y} {o} {a} {d} {from} {start} {k} is sp h) e s x rest loose =
      weaken w _ (λ m. Spells (An (Assignment b) (ExprAt (expr_place a) [] (Assign o a e))) d from (((s, x), m) ∷ rest)) (machine.after (ExprAt (expr_place a) [] (Assign o a e)) k (s, x)) rest (λ m se. assign is sp se) (after_keeps h (ExprAt (expr_place a) [] (Assign o a e)) s x rest tt)
  after_keeps (in_commas {d} {start} {k} h) e sign.Comma x rest loose = λ sp. waits_expr (in_comma (whole sp) h)
  after_keeps (in_commas {d} {start} {k} h) e s x rest loose = weaken w _ (λ m. Spells (An Whole e) d start (((s, x), m) ∷ rest)) (machine.after e k (s, x)) rest (λ m sp. whole sp) (after_keeps h e s x rest tt)
  after_keeps (in_comma {x = y} {a} {d} {from} {start} {k} sp h) e sign.Comma x rest loose = λ se. waits_expr (in_comma (comma sp se) h)
  after_keeps (in_comma {x = y} {a} {d} {from} {start} {k} sp h) e s x rest loose =
      weaken w _ (λ m. Spells (An Whole (ExprAt (expr_place a) [] (Comma a e))) d from (((s, x), m) ∷ rest)) (machine.after (ExprAt (expr_place a) [] (Comma a e)) k (s, x)) rest (λ m se. comma sp se) (after_keeps h (ExprAt (expr_place a) [] (Comma a e)) s x rest tt)
  after_keeps (in_paren h) e sign.Close x rest loose = λ sp. (Primary, _, _, paren sp, h, λ s. tt)
  after_keeps (in_paren h) e _ x rest loose = tt
  after_keeps (in_index make free h) e sign.CloseSquare x rest loose = λ sp. (_, _, _, make e x rest sp, h, free)
  after_keeps (in_index make free h) e _ x rest loose = tt
  after_keeps (in_items make h) e sign.Comma x rest loose = λ sp. waits_expr (in_items (λ c end s. next_item (make e _ sp) s) h)
  after_keeps (in_items {b} {xs} {d} {from} {start} {k} make h) e s x rest loose =
      weaken w _ (λ m. Spells (Items b (AndExpr xs e)) d from (((s, x), m) ∷ rest)) (machine.listed (AndExpr xs e) k (s, x)) rest (λ m sp. make e _ sp) (listed_keeps h (AndExpr xs e) (s, x) rest)
  after_keeps (in_value {ps} {n} {at} {d} {from} {start} {k} make h) e sign.Comma x rest loose = λ sp.
      (from, λ s y q v us end fit is t. next_key (subst (λ l. Spells (Keys (AndProperty ps n e) at) d from (((sign.Comma, x), d) ∷ l)) is (make e _ sp)) fit t, h)
  after_keeps (in_value {ps} {n} {at} {d} {from} {start} {k} make h) e sign.CloseBrace x rest loose =
      weaken w _ (λ m. Spells (Keys (AndProperty ps n e) at) d from (((sign.CloseBrace, x), m) ∷ rest)) (machine.keyed d (AndProperty ps n e) at k) rest (λ m sp. make e _ sp) (keyed_keeps h (AndProperty ps n e) at x rest)
  after_keeps (in_value make h) e _ x rest loose = tt
  after_keeps (in_init {b} {ds} {x = y} {d} {from} {start} {k} make h) e sign.Comma x rest loose = λ sp.
      (from, λ z v us end is t. next_var (subst (λ l. Spells (Vars b (AndDecl ds y.text y.at (SomeExpr e))) d from (((sign.Comma, x), d) ∷ l)) is (make e _ sp)) t, h)
  after_keeps (in_init {b} {ds} {x = y} {d} {from} {start} {k} make h) e s x rest loose =
      weaken w _ (λ m. Spells (Vars b (AndDecl ds y.text y.at (SomeExpr e))) d from (((s, x), m) ∷ rest)) (machine.declared (AndDecl ds y.text y.at (SomeExpr e)) k (s, x)) rest (λ m sp. make e _ sp) (declared_keeps h (AndDecl ds y.text y.at (SomeExpr e)) (s, x) rest)
  after_keeps (in_only make h) e sign.Semicolon x rest loose = λ sp. (_, _, make e x rest sp, h)
  after_keeps (in_only make h) e _ x rest loose = tt
  after_keeps (in_return h) e sign.Semicolon x rest loose = λ sp. (_, _, returns (something sp), h)
  after_keeps (in_return h) e _ x rest loose = tt
  after_keeps (in_throw h) e sign.Semicolon x rest loose = λ sp. (_, _, throws sp, h)
  after_keeps (in_throw h) e _ x rest loose = tt
  after_keeps (in_over make h) e sign.Close x rest loose = λ sp. in_for_in_block (λ ss end t. make e ss x rest end sp t) h
  after_keeps (in_over make h) e _ x rest loose = tt
  after_keeps (in_for_test make h) e sign.Semicolon x rest loose = λ sp. in_for_steps make (something sp) h
  after_keeps (in_for_test make h) e _ x rest loose = tt
  after_keeps (in_case_test cs h) e sign.Colon x rest loose = λ sp. (rest, no_statement, in_case (λ ss end t. next_case cs sp t) h)
  after_keeps (in_case_test cs h) e _ x rest loose = tt
  after_keeps (in_test (in_if h)) e sign.Close x rest loose = λ sp. in_if_block sp h
  after_keeps (in_test (in_if h)) e _ x rest loose = tt
  after_keeps (in_test (in_while h)) e sign.Close x rest loose = λ sp. in_while_block (λ ss end t. while_loop sp t) h
  after_keeps (in_test (in_while h)) e _ x rest loose = tt
  after_keeps (in_test {d = d} {start = start} (in_do body h)) e sign.Close x rest loose = λ sp. (_, λ m end is. do_loop body (subst (λ l. Spells (An Whole e) (suc d) start (((sign.Close, x), suc d) ∷ l)) is sp), h)
  after_keeps (in_test (in_do body h)) e _ x rest loose = tt
  after_keeps (in_test (in_with h)) e sign.Close x rest loose = λ sp. in_with_block (λ ss end t. with_object sp t) h
  after_keeps (in_test (in_with h)) e _ x rest loose = tt
  after_keeps (in_test (in_switch h)) e sign.Close x rest loose = λ sp. (_, _, x, sp, h)
  after_keeps (in_test (in_switch h)) e _ x rest loose = tt
