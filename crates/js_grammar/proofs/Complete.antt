-- What spells a program is taken by the machine, token by token, and gives that tree.
use Rattle.std.proofs.Common.{◌≡◌, ℕ, suc, ◌≤◌, List, [], ◌∷◌, ◌++◌, Bool, true, false, Some, None, refl, ap, sym, subst, ◌∙◌, nat_lt, arith}
use Rattle.std.proofs.lemmas.Bool.Decides.{nat_tests}
use Rattle.js_grammar.specs.declared.Sign.{Sign}
use Rattle.js_grammar.specs.declared.Sign.TheVariants as sign
use Rattle.js_grammar.specs.declared.Infix.{Infix}
use Rattle.js_grammar.specs.declared.Prefix.{Prefix}
use Rattle.js_grammar.specs.Tables.{infix_of, level_of, joined, prefix_of, prefixed, step_of, assign_of, is_key}
use Rattle.js_grammar.specs.Grammar.{Lexeme, Deep, Unary, Operators, Assignment, Thing, Items, Keys, Maybe, Names, Init, Vars, Cases, Spells, has_default, IsProgram}
use Rattle.js_grammar.specs.Grammar.Spells.{name, number, string, this, null, true_word, false_word, paren, array, object, unnamed, named, operand, operand_dot, operand_sub, left_hand, dot, sub, call, new_with, new_alone, unary, post_step, before_operand, operators, looser, between, assignment, choice, assign, whole, comma, no_items, first_item, next_item, no_keys, first_key, next_key, nothing, something, no_names, first_name, next_name, code, empty_body, body_statement, body_function, no_statement, next_statement, block, no_init, init, first_var, next_var, variables, only, if_alone, if_else, else_if, while_loop, do_loop, for_vars, for_items, for_in, for_var_in, continue_loop, continue_label, break_loop, break_label, returns, throws, with_object, switch, no_case, next_case, default_case, label, try_catch, try_finally, try_both}
use Rattle.js_grammar.specs.Machine as machine
use Rattle.js_grammar.specs.Machine.{Frame, State, Wants, Gives, Did, step, begin}
use Rattle.js_grammar.specs.Machine.{UnaryAt, ItemsAt, FirstKey, KeyColon, FirstName, BlockAt, VarName, AfterElse, ForTest, AfterReturn, FirstCase, DefaultColon, Paren, Tail, NewTail, Index, Target, Prefixed, Rest, Right, Choice, Second, Third, Assigned, Commas, CommaRight, MoreItems, Value, Semi, ReturnSemi, ThrowSemi, VarInit, IfTest, WhileTest, DoTest, WithTest, SwitchTest, ForOver, ForTestEnd, CaseTest, ArrayEnd, CallEnd, NewEnd, ForItemsEnd, ForEnd, ObjectEnd, NamesEnd, VarEnd, ForVarEnd, SwitchEnd, InBlock, InBody, Labelled, ElseIf, IfBlock, ElseBlock, WhileBlock, DoBlock, WithBlock, ForBlock, ForInBlock, TryBlock, CatchBlock, FinallyBlock, InCase, FunEnd, FunExpr, Declare}
use Rattle.js_tree.specs.declared.nodes.StepOp.{StepOp}
use Rattle.js_tree.specs.declared.nodes.AssignOp.{AssignOp}
use Rattle.js_tree.specs.Plain.{Expr, Exprs, ExprAt, Step as StepOf, Cond, Assign, Comma, NoExprs, AndExpr, OptionalExpr, NoExpr, SomeExpr, Properties, NoProperties, AndProperty, Decls, NoDecls, AndDecl, ForInit, DeclsFirst, ExprsFirst, StmtAt, Return, Stmts, NoCatch, CatchAs, Clauses, NoClauses, AndClause, expr_place}
use Rattle.js_grammar.proofs.Takes.{Takes, Calm, Leads, past_tail, step_tail, assign_tail, assign_step, infix_unbound, close_left, close_rest, close_operators, close_new, passes, begins_left, begins_items, begins_unnamed, begins_in_block, begins_in_body, did_in_block, did_in_body, begins_only, begins_for_items, begins_for_vars, begins_for_test, begins_return, ends_if, ends_catch, ends_label, ends_else_if}

-- ## Lists up to what ends them

-- what ends a list of expressions
abbrev pub ends_items : Sign → Bool
ends_items sign.Close = true
ends_items sign.CloseSquare = true
ends_items sign.Semicolon = true
ends_items _ = false

pub at_items : (b : Bool) (d : ℕ) (k : List Frame) (s : Sign) (x : Lexeme) → ends_items s ≡ true → step (Wants (ItemsAt b d ∷ k)) (s, x) ≡ machine.listed NoExprs k (s, x)
at_items b d k sign.Close x h = refl
at_items b d k sign.CloseSquare x h = refl
at_items b d k sign.Semicolon x h = refl
at_items b d k _ x h = cc

pub at_more_items : (b : Bool) (d : ℕ) (xs : Exprs) (e : Expr) (k : List Frame) (s : Sign) (x : Lexeme) → ends_items s ≡ true → step (Gives e (MoreItems b d xs ∷ k)) (s, x) ≡ machine.listed (AndExpr xs e) k (s, x)
at_more_items b d xs e k sign.Close x h = refl
at_more_items b d xs e k sign.CloseSquare x h = refl
at_more_items b d xs e k sign.Semicolon x h = refl
at_more_items b d xs e k _ x h = cc

calm_items : (b : Bool) (s : Sign) (x : Lexeme) (n : ℕ) (ts : List Deep) → ends_items s ≡ true → Calm (Assignment b) (((s, x), n) ∷ ts)
calm_items b sign.Close x n ts h = (refl, refl, refl)
calm_items b sign.CloseSquare x n ts h = (refl, refl, refl)
calm_items b sign.Semicolon x n ts h = (refl, refl, refl)
calm_items b _ x n ts h = cc

pub items_end : {b : Bool} {d n : ℕ} {ts us : List Deep} {s : Sign} {x : Lexeme} (xs : Exprs) → Spells (Items b xs) d ts (((s, x), n) ∷ us) → ends_items s ≡ true → Leads (Items b xs) d ts (((s, x), n) ∷ us) → (k : List Frame) (p : Stmts) (next : State) → machine.listed xs k (s, x) ≡ Some (n, next) → Takes next us p → Takes (Wants (ItemsAt b d ∷ k)) ts p
items_end {b} {d} {n} {ts} {us} {s} {x} NoExprs sp fit h k p next is then = h k p (next, at_items b d k s x fit ∙ is, then)
items_end {b} {d} {n} {ts} {us} {s} {x} (AndExpr xs e) sp fit h k p next is then = h k p (calm_items b s x n us fit) (next, at_more_items b d xs e k s x fit ∙ is, then)

pub keys_end : {d n : ℕ} {ts us : List Deep} {r : Lexeme} (ps : Properties) (at : List ℕ) → Spells (Keys ps at) d ts (((sign.CloseBrace, r), n) ∷ us) → Leads (Keys ps at) d ts (((sign.CloseBrace, r), n) ∷ us) → (k : List Frame) (p : Stmts) (next : State) → machine.keyed d ps at k ≡ Some (n, next) → Takes next us p → Takes (Wants (FirstKey d ∷ k)) ts p
keys_end NoProperties [] sp h k p next is then = h k p (next, is, then)
keys_end NoProperties (a ∷ at) sp h k p next is then = absurd h
keys_end (AndProperty ps n v) at sp h k p next is then = h k p (refl, refl, refl) (next, is, then)

pub names_end : {d n : ℕ} {ts us : List Deep} {c : Lexeme} (xs : List Lexeme) → Spells (Names xs) d ts (((sign.Close, c), n) ∷ us) → Leads (Names xs) d ts (((sign.Close, c), n) ∷ us) → (k : List Frame) (p : Stmts) (next : State) → machine.named d xs k ≡ Some (n, next) → Takes next us p → Takes (Wants (FirstName d ∷ k)) ts p
names_end [] sp h k p next is then = h k p (next, is, then)
names_end (x ∷ xs) sp h k p next is then = h k p (next, is, then)

pub vars_end : {b : Bool} {d n : ℕ} {ts us : List Deep} {m : Lexeme} (ds : Decls) → Spells (Vars b ds) d ts (((sign.Semicolon, m), n) ∷ us) → Leads (Vars b ds) d ts (((sign.Semicolon, m), n) ∷ us) → (k : List Frame) (p : Stmts) (next : State) → machine.declared ds k (sign.Semicolon, m) ≡ Some (n, next) → Takes next us p → Takes (Wants (VarName b d NoDecls ∷ k)) ts p
vars_end NoDecls sp h k p next is then = absurd h
vars_end (AndDecl ds x at NoExpr) sp h k p next is then = h k p (next, is, then)
vars_end (AndDecl ds x at (SomeExpr e)) sp h k p next is then = h k p (refl, refl, refl) (next, is, then)

vars_comma : {b : Bool} {d : ℕ} {ts us : List Deep} {m : Lexeme} (ds : Decls) (x : List ℕ) (at : ℕ) (v : OptionalExpr) → Spells (Vars b (AndDecl ds x at v)) d ts (((sign.Comma, m), d) ∷ us) → Leads (Vars b (AndDecl ds x at v)) d ts (((sign.Comma, m), d) ∷ us) → (k : List Frame) (p : Stmts) → Takes (Wants (VarName b d (AndDecl ds x at v) ∷ k)) us p → Takes (Wants (VarName b d NoDecls ∷ k)) ts p
vars_comma ds x at NoExpr sp h k p then = h k p (_, refl, then)
vars_comma ds x at (SomeExpr e) sp h k p then = h k p (refl, refl, refl) (_, refl, then)

first_init : {b : Bool} {d : ℕ} {ts rest : List Deep} (x : Lexeme) (v : OptionalExpr) → Spells (Init b v) d ts rest → Leads (Init b v) d ts rest → Leads (Vars b (AndDecl NoDecls x.text x.at v)) d (((sign.Name, x), d) ∷ ts) rest
first_init x NoExpr sp h = λ k p then. (_, refl, h NoDecls x k p then)
first_init x (SomeExpr e) sp h = λ k p calm then. (_, refl, h NoDecls x k p calm then)

next_init : {b : Bool} {d : ℕ} {ts us rest : List Deep} {m x : Lexeme} (ds : Decls) (y : List ℕ) (at : ℕ) (u v : OptionalExpr) → Spells (Vars b (AndDecl ds y at u)) d ts (((sign.Comma, m), d) ∷ ((sign.Name, x), d) ∷ us) → Spells (Init b v) d us rest → Leads (Vars b (AndDecl ds y at u)) d ts (((sign.Comma, m), d) ∷ ((sign.Name, x), d) ∷ us) → Leads (Init b v) d us rest → Leads (Vars b (AndDecl (AndDecl ds y at u) x.text x.at v)) d ts rest
next_init {x = x} ds y at u NoExpr sg sp g h = λ k p then. vars_comma ds y at u sg g k p (_, refl, h (AndDecl ds y at u) x k p then)
next_init {x = x} ds y at u (SomeExpr e) sg sp g h = λ k p calm then. vars_comma ds y at u sg g k p (_, refl, h (AndDecl ds y at u) x k p calm then)

-- what may come after the clauses so far
abbrev ends_case : Sign → Bool
ends_case sign.Case = true
ends_case sign.Default = true
ends_case sign.CloseBrace = true
ends_case _ = false

at_case : (d : ℕ) (ss : Stmts) (cs : Clauses) (test : OptionalExpr) (k : List Frame) (s : Sign) (x : Lexeme) → ends_case s ≡ true → step (Wants (InBlock d ss ∷ InCase d cs test ∷ k)) (s, x) ≡ machine.next_case d (AndClause cs test ss) k s
at_case d ss cs test k sign.Case x h = refl
at_case d ss cs test k sign.Default x h = refl
at_case d ss cs test k sign.CloseBrace x h = refl
at_case d ss cs test k _ x h = cc

pub cases_end : {d n : ℕ} {ts us : List Deep} {s : Sign} {x : Lexeme} (cs : Clauses) → Spells (Cases cs) d ts (((s, x), n) ∷ us) → ends_case s ≡ true → Leads (Cases cs) d ts (((s, x), n) ∷ us) → (k : List Frame) (p : Stmts) (next : State) → machine.next_case d cs k s ≡ Some (n, next) → Takes next us p → Takes (Wants (FirstCase d ∷ k)) ts p
cases_end NoClauses sp fit h k p next is then = h k p (next, is, then)
cases_end {d} {n} {ts} {us} {s} {x} (AndClause cs test ss) sp fit h k p next is then = h k p (next, at_case d ss cs test k s x fit ∙ is, then)

-- an expression or nothing, before a semicolon
maybe_return : {d : ℕ} {ts rest : List Deep} {m : Lexeme} (w : Lexeme) (v : OptionalExpr) → Spells (Maybe v) d ts (((sign.Semicolon, m), d) ∷ rest) → Leads (Maybe v) d ts (((sign.Semicolon, m), d) ∷ rest) → (k : List Frame) (p : Stmts) → Takes (Did (StmtAt w.at [] (Return v)) k) rest p → Takes (Wants (AfterReturn d w ∷ k)) ts p
maybe_return {d} {ts} {rest} {m} w NoExpr sp h k p then = subst (λ l. Takes (Wants (AfterReturn d w ∷ k)) l p) h (_, refl, then)
maybe_return {d} {ts} {rest} {m} w (SomeExpr e) sp h k p then = begins_return p d w k ts (h (ReturnSemi d w ∷ k) p (refl, refl, refl) (_, refl, then))

maybe_test : {d : ℕ} {ts rest : List Deep} {m : Lexeme} (w : Lexeme) (i : ForInit) (v : OptionalExpr) → Spells (Maybe v) (suc d) ts (((sign.Semicolon, m), suc d) ∷ rest) → Leads (Maybe v) (suc d) ts (((sign.Semicolon, m), suc d) ∷ rest) → (k : List Frame) (p : Stmts) → Takes (Wants (ItemsAt false (suc d) ∷ ForEnd d w i v ∷ k)) rest p → Takes (Wants (ForTest d w i ∷ k)) ts p
maybe_test {d} {ts} {rest} {m} w i NoExpr sp h k p then = subst (λ l. Takes (Wants (ForTest d w i ∷ k)) l p) h (_, refl, then)
maybe_test {d} {ts} {rest} {m} w i (SomeExpr e) sp h k p then = begins_for_test p d w i k ts (h (ForTestEnd d w i ∷ k) p (refl, refl, refl) (_, refl, then))

-- ## What is calm at a level is calm at a tighter one

calm_unary : (rest : List Deep) (b : Bool) (n : ℕ) → Calm (Operators b n) rest → Calm Unary rest
calm_unary [] b n q = tt
calm_unary (t ∷ ts) b n q = q.0

calm_looser : (rest : List Deep) (b : Bool) (n : ℕ) → Calm (Operators b (suc n)) rest → Calm (Operators b n) rest
calm_looser [] b n q = tt
calm_looser (t ∷ ts) b n q = (q.0, λ o is. let le : suc n ≤ suc (level_of o) = q.1 o is in omega arith)

calm_operators : (rest : List Deep) (b : Bool) (n : ℕ) → Calm (Assignment b) rest → Calm (Operators b n) rest
calm_operators [] b n q = tt
calm_operators (t ∷ ts) b n q = (q.0, λ o is. let none : None ≡ Some o = sym (q.1) ∙ is in cc)

-- ## Steps at an operator

same_infix : (s : Sign) (b : Bool) {o u : Infix} → infix_of s b ≡ Some o → infix_of s b ≡ Some u → suc (level_of o) ≤ suc (level_of u)
same_infix s b {o} {u} h g =
    let both : Some o ≡ Some u = sym h ∙ g in
    let same : o ≡ u = cc in
    subst (λ x. suc (level_of o) ≤ suc (level_of x)) same (omega arith)

infix_step : (s : Sign) (x : Lexeme) (b : Bool) (o : Infix) (m d : ℕ) (a : Expr) (k : List Frame) → infix_of s b ≡ Some o → suc (level_of o) ≤ m → step (Gives a (Rest b m d ∷ k)) (s, x) ≡ Some (d, Wants (UnaryAt d ∷ Rest b (level_of o) d ∷ Right o a ∷ Rest b m d ∷ k))
infix_step s x b o m d a k is le =
    let yes_it_is : nat_lt (level_of o) m ≡ true = grind (arith, nat_tests) in
    ap (λ r. machine.infix_or r b m d a k (machine.after a k (s, x))) is ∙ rw yes_it_is refl

prefix_step : (s : Sign) (w : Lexeme) (o : Prefix) (d : ℕ) (k : List Frame) → prefix_of s ≡ Some o → step (Wants (UnaryAt d ∷ k)) (s, w) ≡ Some (suc d, Wants (UnaryAt (suc d) ∷ Prefixed w o ∷ k))
prefix_step s w o d k is = ap (λ r. machine.prefix_or r d w k (machine.left_hand d (Target d ∷ k) (s, w))) is

post_step_is : (s : Sign) (x : Lexeme) (o : StepOp) (d : ℕ) (e : Expr) (k : List Frame) → step_of s ≡ Some o → step (Gives e (Tail d ∷ Target d ∷ k)) (s, x) ≡ Some (d, Gives (ExprAt (expr_place e) [] (StepOf o e)) k)
post_step_is s x o d e k is =
    past_tail d e (Target d ∷ k) (machine.after e (Target d ∷ k) (s, x)) (s, x) (step_tail s o is)
    ∙ ap (λ r. machine.step_or r d e k (machine.assign_or (assign_of s) d e k (machine.after e k (s, x)))) is

assign_step_is : (s : Sign) (x : Lexeme) (o : AssignOp) (b : Bool) (d : ℕ) (e : Expr) (k : List Frame) → assign_of s ≡ Some o → step (Gives e (Tail d ∷ Target d ∷ Rest b 10 d ∷ Choice b d ∷ k)) (s, x) ≡ Some (suc d, Wants (machine.expr b (suc d) (Assigned o e ∷ k)))
assign_step_is s x o b d e k is =
    let below : List Frame = Rest b 10 d ∷ Choice b d ∷ k in
    past_tail d e (Target d ∷ below) (machine.after e (Target d ∷ below) (s, x)) (s, x) (assign_tail s o is)
    ∙ ap (λ r. machine.step_or r d e below (machine.assign_or (assign_of s) d e below (machine.after e below (s, x)))) (assign_step s o is)
    ∙ ap (λ r. machine.assign_or r d e below (machine.after e below (s, x))) is

key_is : (s : Sign) (x : Lexeme) (d : ℕ) (ps : Properties) (at : List ℕ) (k : List Frame) → is_key s x.text ≡ true → machine.key d ps at k (s, x) ≡ Some (d, Wants (KeyColon d ps x.text (at ++ x.at ∷ []) ∷ k))
key_is s x d ps at k h = rw h refl

first_key_is : (s : Sign) (x : Lexeme) (d : ℕ) (k : List Frame) → is_key s x.text ≡ true → step (Wants (FirstKey d ∷ k)) (s, x) ≡ Some (d, Wants (KeyColon d NoProperties x.text (x.at ∷ []) ∷ k))
first_key_is sign.CloseBrace x d k h = cc
first_key_is s x d k h = key_is s x d NoProperties [] k h

no_default : (cs : Clauses) (d : ℕ) (k : List Frame) → has_default cs ≡ false → machine.next_case d cs k sign.Default ≡ Some (d, Wants (DefaultColon d cs ∷ k))
no_default cs d k h = rw h refl

-- an `else` takes a block as any other does
pub else_block : (d : ℕ) (w : Lexeme) (e : Expr) (ss : Stmts) (k : List Frame) (ts : List Deep) (p : Stmts) → Takes (Wants (BlockAt d ∷ ElseBlock w e ss ∷ k)) ts p → Takes (Wants (AfterElse d w e ss ∷ k)) ts p
else_block d w e ss k [] p h = cc
else_block d w e ss k (((sign.If, x), n) ∷ ts) p h = cc
else_block d w e ss k (t ∷ ts) p h = h

-- ## The rows

pub leads : {x : Thing} {d : ℕ} {ts rest : List Deep} → Spells x d ts rest → Leads x d ts rest
leads name = λ k p h. (_, refl, h)
leads number = λ k p h. (_, refl, h)
leads string = λ k p h. (_, refl, h)
leads this = λ k p h. (_, refl, h)
leads null = λ k p h. (_, refl, h)
leads true_word = λ k p h. (_, refl, h)
leads false_word = λ k p h. (_, refl, h)
leads (paren {e = e} {d = d} s) = λ k p h. (_, refl, leads s (Paren d ∷ k) p (refl, refl, refl) (_, refl, h))
leads (array {p = w} {xs = xs} {d = d} s) = λ k p h. (_, refl, items_end xs s refl (leads s) (ArrayEnd d w ∷ k) p _ refl h)
leads (object {p = w} {ps = ps} {at = at} {d = d} s) = λ k p h. (_, refl, keys_end ps at s (leads s) (ObjectEnd d w ∷ k) p _ refl h)
leads (unnamed {w = w} {d = d} {ts = ts} s) = λ k p h. (_, refl, begins_unnamed p d w k ts (leads s (FunExpr w ∷ k) p _ refl h))
leads (named {w = w} {d = d} s) = λ k p h. (_, refl, (_, refl, leads s (FunExpr w ∷ k) p _ refl h))
leads (operand {d = d} s) = λ w k p h. leads s (NewTail d w ∷ k) p h
leads (operand_dot s) = λ w k p h. leads s w k p (_, refl, (_, refl, h))
leads (operand_sub {e = e} {d = d} s t) = λ w k p h. leads s w k p (_, refl, leads t (Index d e ∷ NewTail d w ∷ k) p (refl, refl, refl) (_, refl, h))
leads (left_hand {d = d} {ts = ts} s) = λ k p h. begins_left p d k ts (leads s (Tail d ∷ Target d ∷ k) p h)
leads (dot s) = λ k p h. leads s k p (_, refl, (_, refl, h))
leads (sub {e = e} {d = d} s t) = λ k p h. leads s k p (_, refl, leads t (Index d e ∷ Tail d ∷ Target d ∷ k) p (refl, refl, refl) (_, refl, h))
leads (call {f = f} {xs = xs} {d = d} s t) = λ k p h. leads s k p (_, refl, items_end xs t refl (leads t) (CallEnd d f ∷ Tail d ∷ Target d ∷ k) p _ refl h)
leads (new_with {f = f} {xs = xs} {w = w} {d = d} s t) = λ k p h.
    (_, refl, leads s w (Tail d ∷ Target d ∷ k) p (_, refl, items_end xs t refl (leads t) (NewEnd d w f ∷ Tail d ∷ Target d ∷ k) p _ refl h))
leads (new_alone {f = f} {w = w} {d = d} {rest = rest} s all) = λ k p h. (_, refl, leads s w (Tail d ∷ Target d ∷ k) p (close_new p rest f d w (Tail d ∷ Target d ∷ k) all h))
leads (unary {e = e} {d = d} {rest = rest} s) = λ k p calm h. leads s k p (close_left p rest e d k calm h)
leads (post_step {e = e} {s = s} {p = x} {o = o} {d = d} is t) = λ k p calm h. leads t k p (_, post_step_is s x o d e k is, h)
leads (before_operand {e = e} {s = s} {w = w} {o = o} {d = d} {rest = rest} is t) = λ k p calm h.
    (_, prefix_step s w o d k is, leads t (Prefixed w o ∷ k) p calm (passes p rest (Prefixed w o) e (ExprAt w.at [] (prefixed o e)) k (λ t. refl) h))
leads (operators {b = b} {d = d} {rest = rest} s) = λ m k p le calm h. leads s (Rest b m d ∷ k) p (calm_unary rest b 0 calm) h
leads (looser {b = b} {n = n} {rest = rest} s) = λ m k p le calm h. leads s m k p (omega arith) (calm_looser rest b n calm) h
leads (between {b = b} {a = a} {c = c} {s = s} {p = x} {o = o} {d = d} {rest = rest} is l r) = λ m k p le calm h.
    leads l m k p le (infix_unbound s b o is, λ u u_is. same_infix s b is u_is) (
      _,
      infix_step s x b o m d a k is le,
      leads r (level_of o) (Right o a ∷ Rest b m d ∷ k) p (omega arith) (calm_looser rest b (level_of o) calm)
          (close_rest p rest c b (level_of o) d (Right o a ∷ Rest b m d ∷ k) calm (passes p rest (Right o a) c (ExprAt (expr_place a) [] (joined o a c)) (Rest b m d ∷ k) (λ t. refl) h)),
    )
leads (assignment {b = b} {e = e} {d = d} {rest = rest} s) = λ k p calm h. leads s 10 (Choice b d ∷ k) p (omega arith) (calm_operators rest b 10 calm) (close_operators p rest e b d k calm h)
leads (choice {b = b} {a = a} {c = c} {e = e} {d = d} {rest = rest} s t u) = λ k p calm h.
    leads s 10 (Choice b d ∷ k) p (omega arith) (refl, λ o is. cc)
    (_, refl, leads t (Second b d a ∷ k) p (refl, refl, refl) (_, refl, leads u (Third a c ∷ k) p calm (passes p rest (Third a c) e (ExprAt (expr_place a) [] (Cond a c e)) k (λ t. refl) h)))
leads (assign {b = b} {a = a} {e = e} {s = s} {p = x} {o = o} {d = d} {rest = rest} is l r) = λ k p calm h.
    leads l (Rest b 10 d ∷ Choice b d ∷ k) p
    (_, assign_step_is s x o b d a k is, leads r (Assigned o a ∷ k) p calm (passes p rest (Assigned o a) e (ExprAt (expr_place a) [] (Assign o a e)) k (λ t. refl) h))
leads (whole {d = d} s) = λ k p calm h. leads s (Commas d ∷ k) p calm h
leads (comma {a = a} {e = e} {d = d} {rest = rest} s t) = λ k p calm h.
    leads s k p (refl, refl, refl) (_, refl, leads t (CommaRight a ∷ Commas d ∷ k) p calm (passes p rest (CommaRight a) e (ExprAt (expr_place a) [] (Comma a e)) (Commas d ∷ k) (λ t. refl) h))
leads no_items = λ k p h. h
leads (first_item {b = b} {d = d} {ts = ts} s) = λ k p calm h. begins_items p b d k ts (leads s (MoreItems b d NoExprs ∷ k) p calm h)
leads (next_item {b = b} {x = x} {xs = xs} {d = d} s t) = λ k p calm h. leads s k p (refl, refl, refl) (_, refl, leads t (MoreItems b d (AndExpr xs x) ∷ k) p calm h)
leads no_keys = λ k p h. h
leads (first_key {s = s} {x = x} {d = d} is t) = λ k p calm h. (_, first_key_is s x d k is, (_, refl, leads t (Value d NoProperties x.text (x.at ∷ []) ∷ k) p calm h))
leads (next_key {ps = ps} {n = n} {v = v} {at = at} {s = s} {x = x} {d = d} before is t) = λ k p calm h.
    leads before k p (refl, refl, refl) (_, refl, (_, key_is s x d (AndProperty ps n v) at k is, (_, refl, leads t (Value d (AndProperty ps n v) x.text (at ++ x.at ∷ []) ∷ k) p calm h)))
leads nothing = refl
leads (something s) = λ k p calm h. leads s k p calm h
leads no_names = λ k p h. h
leads first_name = λ k p h. (_, refl, h)
leads (next_name s) = λ k p h. leads s k p (_, refl, (_, refl, h))
leads (code {w = w} {own = own} {params = params} {d = d} s t) = λ k p next is h.
    (_, refl, names_end params s (leads s) (NamesEnd d w own ∷ k) p _ refl (_, refl, leads t (FunEnd w own params ∷ k) p (_, is, h)))
leads empty_body = λ k p h. h
leads (body_statement {ss = ss} {fs = fs} {s = s} {d = d} {us = us} {rest = rest} b t) = λ k p h.
    leads b k p (begins_in_body p d ss fs k us (leads t (InBody d ss fs ∷ k) p (did_in_body p d ss fs s k rest h)))
leads (body_function {ss = ss} {fs = fs} {d = d} b t) = λ k p h. leads b k p (_, refl, (_, refl, leads t (Declare d ss fs ∷ k) p _ refl h))
leads no_statement = λ k p h. h
leads (next_statement {ss = ss} {s = s} {d = d} {us = us} {rest = rest} b t) = λ k p h.
    leads b k p (begins_in_block p d ss k us (leads t (InBlock d ss ∷ k) p (did_in_block p d ss s k rest h)))
leads (block s) = λ k p next is h. (_, refl, leads s k p (_, is, h))
leads no_init = λ ds x k p h. h
leads (init {b = b} {d = d} s) = λ ds x k p calm h. (_, refl, leads s (VarInit b d ds x ∷ k) p calm h)
leads (first_var {v = v} {x = x} s) = first_init x v s (leads s)
leads (next_var {ds = ds} {n = n} {at = at} {u = u} {v = v} s t) = next_init ds n at u v s t (leads s) (leads t)
leads (variables {ds = ds} {w = w} {d = d} s) = λ k p h. (_, refl, vars_end ds s (leads s) (VarEnd d w ∷ k) p _ refl h)
leads (only {s = s} {x = x} {d = d} {n = n} {ts = ts} fit t) = λ k p h. begins_only p d n s x k ts fit (leads t (Semi d x ∷ k) p (refl, refl, refl) (_, refl, h))
leads (if_alone {e = e} {ss = ss} {w = w} {d = d} {rest = rest} s t) = λ k p h.
    (_, refl, (_, refl, leads s (IfTest d w ∷ k) p (refl, refl, refl) (_, refl, leads t (IfBlock d w e ∷ k) p _ refl (ends_if p d w e ss k rest h))))
leads (if_else {e = e} {ss = ss} {w = w} {d = d} {vs = vs} s t u) = λ k p h.
    (_, refl, (_, refl, leads s (IfTest d w ∷ k) p (refl, refl, refl) (_, refl, leads t (IfBlock d w e ∷ k) p _ refl (_, refl, else_block d w e ss k vs p (leads u (ElseBlock w e ss ∷ k) p _ refl h)))))
leads (else_if {e = e} {ss = ss} {s = s} {w = w} {d = d} {rest = rest} t u v) = λ k p h.
    (_, refl, (_, refl, leads t (IfTest d w ∷ k) p (refl, refl, refl) (_, refl, leads u (IfBlock d w e ∷ k) p _ refl (_, refl, leads v (ElseIf w e ss ∷ k) p (ends_else_if p w e ss s k rest h)))))
leads (while_loop {e = e} {w = w} {d = d} s t) = λ k p h.
    (_, refl, (_, refl, leads s (WhileTest d w ∷ k) p (refl, refl, refl) (_, refl, leads t (WhileBlock w e ∷ k) p _ refl h)))
leads (do_loop {ss = ss} {w = w} {d = d} s t) = λ k p h.
    (_, refl, leads s (DoBlock d w ∷ k) p _ refl (_, refl, (_, refl, leads t (DoTest d w ss ∷ k) p (refl, refl, refl) (_, refl, (_, refl, h)))))
leads (for_vars {ds = ds} {test = test} {xs = xs} {w = w} {d = d} {ts = ts} s t u v) = λ k p h. (
  _,
  refl,
  (
    _,
    refl,
    (
      _,
      refl,
      begins_for_vars p d w k ts (vars_end ds s (leads s) (ForVarEnd d w ∷ k) p _ refl
          (maybe_test w (DeclsFirst ds) test t (leads t) k p (items_end xs u refl (leads u) (ForEnd d w (DeclsFirst ds) test ∷ k) p _ refl (leads v (ForBlock w (DeclsFirst ds) test xs ∷ k) p _ refl h)))),
    ),
  ),
)
leads (for_items {is = is} {test = test} {xs = xs} {w = w} {d = d} {ts = ts} s t u v) = λ k p h. (
  _,
  refl,
  (
    _,
    refl,
    begins_for_items p d w k ts (items_end is s refl (leads s) (ForItemsEnd d w ∷ k) p _ refl
        (maybe_test w (ExprsFirst is) test t (leads t) k p (items_end xs u refl (leads u) (ForEnd d w (ExprsFirst is) test ∷ k) p _ refl (leads v (ForBlock w (ExprsFirst is) test xs ∷ k) p _ refl h)))),
  ),
)
leads (for_in {e = e} {w = w} {x = x} {d = d} s t) = λ k p h.
    (_, refl, (_, refl, (_, refl, (_, refl, leads s (ForOver d w false x ∷ k) p (refl, refl, refl) (_, refl, leads t (ForInBlock w false x e ∷ k) p _ refl h)))))
leads (for_var_in {e = e} {w = w} {x = x} {d = d} s t) = λ k p h.
    (_, refl, (_, refl, (_, refl, (_, refl, (_, refl, leads s (ForOver d w true x ∷ k) p (refl, refl, refl) (_, refl, leads t (ForInBlock w true x e ∷ k) p _ refl h))))))
leads continue_loop = λ k p h. (_, refl, (_, refl, h))
leads continue_label = λ k p h. (_, refl, (_, refl, (_, refl, h)))
leads break_loop = λ k p h. (_, refl, (_, refl, h))
leads break_label = λ k p h. (_, refl, (_, refl, (_, refl, h)))
leads (returns {v = v} {w = w} s) = λ k p h. (_, refl, maybe_return w v s (leads s) k p h)
leads (throws {w = w} {d = d} s) = λ k p h. (_, refl, leads s (ThrowSemi d w ∷ k) p (refl, refl, refl) (_, refl, h))
leads (with_object {e = e} {w = w} {d = d} s t) = λ k p h.
    (_, refl, (_, refl, leads s (WithTest d w ∷ k) p (refl, refl, refl) (_, refl, leads t (WithBlock w e ∷ k) p _ refl h)))
leads (switch {e = e} {cs = cs} {w = w} {d = d} s t) = λ k p h.
    (_, refl, (_, refl, leads s (SwitchTest d w ∷ k) p (refl, refl, refl) (_, refl, (_, refl, cases_end cs t refl (leads t) (SwitchEnd d w e ∷ k) p _ refl h))))
leads no_case = λ k p h. h
leads (next_case {cs = cs} {e = e} {d = d} s t u) = λ k p h.
    cases_end cs s refl (leads s) k p _ refl (leads t (CaseTest d cs ∷ k) p (refl, refl, refl) (_, refl, leads u (InCase d cs (SomeExpr e) ∷ k) p h))
leads (default_case {cs = cs} {d = d} one s t) = λ k p h.
    cases_end cs s refl (leads s) k p _ (no_default cs d k one) (_, refl, leads t (InCase d cs NoExpr ∷ k) p h)
leads (label {s = s} {x = x} {rest = rest} t) = λ k p h. (_, refl, (_, refl, leads t (Labelled x ∷ k) p (ends_label p x s k rest h)))
leads (try_catch {ss = ss} {cs = cs} {w = w} {x = x} {d = d} {rest = rest} s t) = λ k p h.
    (_, refl, leads s (TryBlock d w ∷ k) p _ refl (_, refl, (_, refl, (_, refl, (_, refl, leads t (CatchBlock d w ss x ∷ k) p _ refl (ends_catch p d w ss x cs k rest h))))))
leads (try_finally {ss = ss} {w = w} {d = d} s t) = λ k p h.
    (_, refl, leads s (TryBlock d w ∷ k) p _ refl (_, refl, leads t (FinallyBlock w [] ss NoCatch ∷ k) p _ refl h))
leads (try_both {ss = ss} {cs = cs} {w = w} {x = x} {d = d} s t u) = λ k p h.
    (_, refl, leads s (TryBlock d w ∷ k) p _ refl (_, refl, (_, refl, (_, refl, (_, refl, leads t (CatchBlock d w ss x ∷ k) p _ refl (_, refl, leads u (FinallyBlock w (x.at ∷ []) ss (CatchAs x.text cs) ∷ k) p _ refl h))))))

-- what spells a program is taken, and gives it
pub complete : (ts : List Deep) (p : Stmts) → IsProgram ts p → Takes begin ts p
complete ts p h = leads (h.1) [] p (_, refl, refl)
