-- In what breaks no rule neither `new` nor the operator `in` stands.
use Rattle.std.proofs.Common.{◌≡◌, ℕ, List, [], ◌∷◌, ◌++◌, refl, inl, inr, Bool, true, false, arith}
use Rattle.std.specs.Prelude.{if◌then◌else◌}
use Rattle.js_tree.specs.declared.nodes.BinOp.{BinOp}
use Rattle.js_tree.specs.declared.nodes.BinOp.TheVariants as bin
use Rattle.js_tree.specs.Plain.{Expr, ExprAt, ExprForm, Num, Str, Name, Constant, Array, Object, Function, Dot, Sub, Call, New, Step, Unary, Binary, And, Or, Cond, Assign, Comma, Exprs, NoExprs, AndExpr, OptionalExpr, NoExpr, SomeExpr, Properties, NoProperties, AndProperty, Decls, NoDecls, AndDecl, ForInit, DeclsFirst, ExprsFirst, Stmt, StmtAt, StmtForm, Var, Only, If, While, DoWhile, For, ForIn, Continue, Break, Return, Throw, With, Switch, Try, Label, Stmts, NoStmts, AndStmt, OptionalBlock, NoBlock, SomeBlock, Catch, NoCatch, CatchAs, Clauses, NoClauses, AndClause, Fun, FunAt, Funs, NoFuns, AndFun}
use Rattle.js_tree.specs.Parts.{Spot, AnExpr, AStmt, AFun, exprs_spots, stmts_spots, funs_spots, optional_spots, properties_spots, decls_spots, init_spots, catch_spots, block_spots}
use Rattle.first_breach.specs.Lists.{In, here, later}
use Rattle.first_breach.proofs.Members.{in_front, in_back}
use Rattle.adsafe_rules.specs.declared.scope.Scope.{Scope}
use Rattle.adsafe_rules.specs.Forms.{is_typed, is_allowed_callee, is_directive}
use Rattle.adsafe_rules.specs.Parts.{tests, bodies, after_directive, expr_parts_of, stmt_parts_outside, stmt_parts_inside, inner, Stands, itself, outside, inside}
use Rattle.adsafe_rules.specs.Rows.{Broken, A14, AnyFound}
use Rattle.adsafe_rules.specs.Program.{is_opening, opening_functions, tops, within, IsClean}
use Rattle.adsafe_rules.proofs.Passing.{callee_stands, directive_stands, opening_stands}
use Rattle.script_check.specs.Script.{IsScript}
use Rattle.tidy_laws.specs.Laws.{IsTidied}
use Rattle.tidy_laws.specs.Tame.{IsNotIn, TameExpr, TameForm, TameExprs, TameOptional, TameProperties, TameDecls, TameInit, TameStmt, TameStmtForm, TameStmts, TameBlock, TameCatch, TameClauses, TameFun, TameFuns}
use Rattle.tidy_laws.proofs.Texts.{tame_text}

-- in the node A14 is not broken
record Free (n : Spot) : Type 0 where
  env : List Spot
  none : (around : List Spot) (m : Spot) (p : ℕ) → Stands env n around m → Broken around m 14 p → ⊥

abbrev AllFree : List Spot → Type 0
AllFree l = (s : Spot) → In s l → Free s

front : (a b : List Spot) → AllFree (a ++ b) → AllFree a
front a b h = λ s i. h s (in_front b i)

back : (a b : List Spot) → AllFree (a ++ b) → AllFree b
back a b h = λ s i. h s (in_back a i)

first : (x : Spot) (l : List Spot) → AllFree (x ∷ l) → Free x
first x l h = h x here

rest : (x : Spot) (l : List Spot) → AllFree (x ∷ l) → AllFree l
rest x l h = λ s i. h s (later i)

member : (x s : Spot) (l : List Spot) → Free x → AllFree l → In s (x ∷ l) → Free s
member x s l f h here = f
member x s l f h (later i) = h s i

-- the parts of a node
expr_all : (at : ℕ) (names : List ℕ) (form : ExprForm) → Free (AnExpr (ExprAt at names form)) → AllFree (expr_parts_of form)
expr_all at names form f = λ s i. record { env = f.env; none = λ around m q t b. f.none around m q (outside i t) b }

stmt_out : (at : ℕ) (names : List ℕ) (form : StmtForm) → Free (AStmt (StmtAt at names form)) → AllFree (stmt_parts_outside form)
stmt_out at names form f = λ s i. record { env = f.env; none = λ around m q t b. f.none around m q (outside i t) b }

stmt_in : (at : ℕ) (names : List ℕ) (form : StmtForm) → Free (AStmt (StmtAt at names form)) → AllFree (stmt_parts_inside form)
stmt_in at names form f = λ s i. record { env = f.env ++ AStmt (StmtAt at names form) ∷ []; none = λ around m q t b. f.none around m q (inside i t) b }

fun_in : (g : Fun) → Free (AFun g) → AllFree (inner (AFun g))
fun_in g f = λ s i. record { env = f.env ++ AFun g ∷ []; none = λ around m q t b. f.none around m q (inside i t) b }

-- what the walk passes over
free_callee : (e : Expr) → is_allowed_callee e ≡ true → Free (AnExpr e)
free_callee e h = record { env = []; none = λ around m q t b. omega (arith, callee_stands e h t b) }

callee_free : (e : Expr) (l : List Spot) (b : Bool) → is_allowed_callee e ≡ b → AllFree ((if b then [] else AnExpr e ∷ []) ++ l) → Free (AnExpr e)
callee_free e l true is h = free_callee e is
callee_free e l false is h = h (AnExpr e) here

free_directive : (s : Stmt) → is_directive s ≡ true → Free (AStmt s)
free_directive s h = record { env = []; none = λ around m q t b. omega (arith, directive_stands s h t b) }

directive_free : (s : Stmt) (l : List Spot) (b : Bool) → is_directive s ≡ b → AllFree (if b then l else AStmt s ∷ l) → AllFree (AStmt s ∷ l)
directive_free s l true is h = λ x i. member (AStmt s) x l (free_directive s is) h i
directive_free s l false is h = h

body_free : (l : List Spot) → AllFree (after_directive l) → AllFree l
body_free [] h = h
body_free (AStmt s ∷ l) h = directive_free s l (is_directive s) refl h
body_free (AnExpr e ∷ l) h = h
body_free (AFun g ∷ l) h = h

typed : (at : ℕ) (names : List ℕ) (form : ExprForm) → Free (AnExpr (ExprAt at names form)) → is_typed form ≡ true → ⊥
typed at names form f h = f.none f.env (AnExpr (ExprAt at names form)) at itself (A14 h)

not_in : (at : ℕ) (names : List ℕ) (op : BinOp) (a b : Expr) → Free (AnExpr (ExprAt at names (Binary op a b))) → IsNotIn op
not_in at names bin.In a b f = typed at names (Binary bin.In a b) f refl
not_in at names op a b f = tt

mutual
  unfolding TameExpr

  expr_tame : (e : Expr) → Free (AnExpr e) → TameExpr e
  expr_tame (ExprAt at names form) f = form_tame at names form f (expr_all at names form f)

  form_tame : (at : ℕ) (names : List ℕ) (form : ExprForm) → Free (AnExpr (ExprAt at names form)) → AllFree (expr_parts_of form) → TameForm form
  form_tame at names (Num text) f h = tt
  form_tame at names (Str text) f h = tt
  form_tame at names (Name text) f h = tt
  form_tame at names (Constant w) f h = tt
  form_tame at names (Array xs) f h = exprs_tame xs h
  form_tame at names (Object ps) f h = properties_tame ps h
  form_tame at names (Function g) f h = fun_tame g (h (AFun g) here)
  form_tame at names (Dot e text) f h = expr_tame e (h (AnExpr e) here)
  form_tame at names (Sub e i) f h = (expr_tame e (h (AnExpr e) here), expr_tame i (h (AnExpr i) (later here)))
  form_tame at names (Call e xs) f h = (expr_tame e (callee_free e (exprs_spots xs) (is_allowed_callee e) refl h), exprs_tame xs (back (if is_allowed_callee e then [] else AnExpr e ∷ []) (exprs_spots xs) h))
  form_tame at names (New e xs) f h = typed at names (New e xs) f refl
  form_tame at names (Step op e) f h = expr_tame e (h (AnExpr e) here)
  form_tame at names (Unary op e) f h = expr_tame e (h (AnExpr e) here)
  form_tame at names (Binary op a b) f h = (not_in at names op a b f, expr_tame a (h (AnExpr a) here), expr_tame b (h (AnExpr b) (later here)))
  form_tame at names (And a b) f h = (expr_tame a (h (AnExpr a) here), expr_tame b (h (AnExpr b) (later here)))
  form_tame at names (Or a b) f h = (expr_tame a (h (AnExpr a) here), expr_tame b (h (AnExpr b) (later here)))
  form_tame at names (Cond a b c) f h = (expr_tame a (h (AnExpr a) here), expr_tame b (h (AnExpr b) (later here)), expr_tame c (h (AnExpr c) (later (later here))))
  form_tame at names (Assign op a b) f h = (expr_tame a (h (AnExpr a) here), expr_tame b (h (AnExpr b) (later here)))
  form_tame at names (Comma a b) f h = (expr_tame a (h (AnExpr a) here), expr_tame b (h (AnExpr b) (later here)))

  exprs_tame : (xs : Exprs) → AllFree (exprs_spots xs) → TameExprs xs
  exprs_tame NoExprs h = tt
  exprs_tame (AndExpr xs x) h = (exprs_tame xs (front (exprs_spots xs) (AnExpr x ∷ []) h), expr_tame x (h (AnExpr x) (in_back (exprs_spots xs) here)))

  optional_tame : (v : OptionalExpr) → AllFree (optional_spots v) → TameOptional v
  optional_tame NoExpr h = tt
  optional_tame (SomeExpr e) h = expr_tame e (h (AnExpr e) here)

  properties_tame : (ps : Properties) → AllFree (properties_spots ps) → TameProperties ps
  properties_tame NoProperties h = tt
  properties_tame (AndProperty ps key e) h = (properties_tame ps (front (properties_spots ps) (AnExpr e ∷ []) h), expr_tame e (h (AnExpr e) (in_back (properties_spots ps) here)))

  decls_tame : (ds : Decls) → AllFree (decls_spots ds) → TameDecls ds
  decls_tame NoDecls h = tt
  decls_tame (AndDecl ds text at v) h = (decls_tame ds (front (decls_spots ds) (optional_spots v) h), optional_tame v (back (decls_spots ds) (optional_spots v) h))

  init_tame : (init : ForInit) → AllFree (init_spots init) → TameInit init
  init_tame (DeclsFirst ds) h = decls_tame ds h
  init_tame (ExprsFirst xs) h = exprs_tame xs h

  stmt_tame : (s : Stmt) → Free (AStmt s) → TameStmt s
  stmt_tame (StmtAt at names form) f = stmt_form_tame form (stmt_out at names form f) (stmt_in at names form f)

  stmt_form_tame : (form : StmtForm) → AllFree (stmt_parts_outside form) → AllFree (stmt_parts_inside form) → TameStmtForm form
  stmt_form_tame (Var ds) h k = decls_tame ds h
  stmt_form_tame (Only e) h k = expr_tame e (h (AnExpr e) here)
  stmt_form_tame (If e a b) h k =
      let l = rest (AnExpr e) (stmts_spots a ++ stmts_spots b) h in
      (expr_tame e (h (AnExpr e) here), stmts_tame a (front (stmts_spots a) (stmts_spots b) l), stmts_tame b (back (stmts_spots a) (stmts_spots b) l))
  stmt_form_tame (While e body) h k = (expr_tame e (h (AnExpr e) here), stmts_tame body k)
  stmt_form_tame (DoWhile e body) h k = (expr_tame e (h (AnExpr e) here), stmts_tame body k)
  stmt_form_tame (For init test next body) h k =
      let l = back (init_spots init) (optional_spots test ++ exprs_spots next) h in
      (init_tame init (front (init_spots init) (optional_spots test ++ exprs_spots next) h), optional_tame test (front (optional_spots test) (exprs_spots next) l), exprs_tame next (back (optional_spots test) (exprs_spots next) l), stmts_tame body k)
  stmt_form_tame (ForIn declared text e body) h k = (expr_tame e (h (AnExpr e) here), stmts_tame body k)
  stmt_form_tame (Continue label) h k = tt
  stmt_form_tame (Break label) h k = tt
  stmt_form_tame (Return v) h k = optional_tame v h
  stmt_form_tame (Throw e) h k = expr_tame e (h (AnExpr e) here)
  stmt_form_tame (With e body) h k = (expr_tame e (h (AnExpr e) here), stmts_tame body (rest (AnExpr e) (stmts_spots body) h))
  stmt_form_tame (Switch e cs) h k = (expr_tame e (h (AnExpr e) here), clauses_tame cs (rest (AnExpr e) (tests cs) h) k)
  stmt_form_tame (Try body caught last) h k = (stmts_tame body (front (stmts_spots body) (block_spots last) h), catch_tame caught k, block_tame last (back (stmts_spots body) (block_spots last) h))
  stmt_form_tame (Label text s) h k = stmt_tame s (h (AStmt s) here)

  stmts_tame : (ss : Stmts) → AllFree (stmts_spots ss) → TameStmts ss
  stmts_tame NoStmts h = tt
  stmts_tame (AndStmt ss s) h = (stmts_tame ss (front (stmts_spots ss) (AStmt s ∷ []) h), stmt_tame s (h (AStmt s) (in_back (stmts_spots ss) here)))

  block_tame : (block : OptionalBlock) → AllFree (block_spots block) → TameBlock block
  block_tame NoBlock h = tt
  block_tame (SomeBlock ss) h = stmts_tame ss h

  catch_tame : (caught : Catch) → AllFree (catch_spots caught) → TameCatch caught
  catch_tame NoCatch h = tt
  catch_tame (CatchAs text ss) h = stmts_tame ss h

  clauses_tame : (cs : Clauses) → AllFree (tests cs) → AllFree (bodies cs) → TameClauses cs
  clauses_tame NoClauses h k = tt
  clauses_tame (AndClause cs test ss) h k =
      (clauses_tame cs (front (tests cs) (optional_spots test) h) (front (bodies cs) (stmts_spots ss) k), optional_tame test (back (tests cs) (optional_spots test) h), stmts_tame ss (back (bodies cs) (stmts_spots ss) k))

  fun_tame : (g : Fun) → Free (AFun g) → TameFun g
  fun_tame (FunAt at names own params body funs) f =
      let h = fun_in (FunAt at names own params body funs) f in
      (stmts_tame body (body_free (stmts_spots body) (back (funs_spots funs) (after_directive (stmts_spots body)) h)), funs_tame funs (front (funs_spots funs) (after_directive (stmts_spots body)) h))

  funs_tame : (fs : Funs) → AllFree (funs_spots fs) → TameFuns fs
  funs_tame NoFuns h = tt
  funs_tame (AndFun fs g) h = (funs_tame fs (front (funs_spots fs) (AFun g ∷ []) h), fun_tame g (h (AFun g) (in_back (funs_spots fs) here)))

-- the statements of a text
abbrev NoneOf14 : List Spot → Type 0
NoneOf14 l = (p : ℕ) → AnyFound [] l 14 p → ⊥

all_free : (l : List Spot) → NoneOf14 l → AllFree l
all_free l h = λ x i. record { env = []; none = λ around m q t b. h q (record { top = x; is_in = i; found = record { around = around; node = m; stands = t; broken = b } }) }

none_back : (a b : List Spot) → NoneOf14 (a ++ b) → NoneOf14 b
none_back a b h = λ p k. h p (record { top = k.top; is_in = in_back a k.is_in; found = k.found })

none_front : (a b : List Spot) → NoneOf14 (a ++ b) → NoneOf14 a
none_front a b h = λ p k. h p (record { top = k.top; is_in = in_front b k.is_in; found = k.found })

free_opening : (scope : Scope) (s : Spot) → is_opening scope s ≡ true → NoneOf14 (opening_functions s) → Free s
free_opening scope s is h = record { env = []; none = λ around m q t b. elim (opening_stands scope s is t b) [ inl j ↦ omega (arith, j) | inr j ↦ h q j ] }

opened_free : (scope : Scope) (s : Spot) (l : List Spot) (b : Bool) → is_opening scope s ≡ b → NoneOf14 ((if b then opening_functions s else s ∷ []) ++ l) → AllFree (s ∷ l)
opened_free scope s l true is h = λ x i. member s x l (free_opening scope s is (none_front (opening_functions s) l h)) (all_free l (none_back (opening_functions s) l h)) i
opened_free scope s l false is h = all_free (s ∷ l) h

tops_free : (scope : Scope) (l : List Spot) → NoneOf14 (tops scope l) → AllFree l
tops_free scope [] h = all_free [] h
tops_free scope (s ∷ l) h = opened_free scope s l (is_opening scope s) refl h

pub clean_tame : (p : Stmts) (scope : Scope) → IsClean p scope → TameStmts p
clean_tame p scope c = stmts_tame p (tops_free scope (stmts_spots p) (λ q f. c 14 q (within f)))

pub script_tidied : (bytes : List ℕ) (scope : Scope) (p : Stmts) → IsScript bytes scope p → IsTidied 200 p
script_tidied bytes scope p s = tame_text 200 bytes s.tokens p p s.reads.lexes s.reads.spells refl (clean_tame p scope s.clean)
