-- Lists of trees without places.
use Rattle.std.proofs.Common.{◌≡◌, ℕ, Bool, true, false, List, [], ◌∷◌, ◌++◌, map, Option, refl, sym, ap, ◌∙◌}
use Rattle.std.specs.Prelude.{codes, if◌then◌else◌, not, ◌&&◌, unwrap_or, option_to_list}
use Rattle.std.specs.List.{flat_map, list_any}
use Rattle.std.specs.Str.{bytes_eq}
use Rattle.std.proofs.lemmas.List.{map-append}
use Rattle.js_tree.specs.Plain.{Expr, Exprs, NoExprs, AndExpr, OptionalExpr, NoExpr, SomeExpr, Properties, NoProperties, AndProperty, Decls, NoDecls, AndDecl, ForInit, DeclsFirst, ExprsFirst, Stmt, StmtAt, StmtForm, Stmts, NoStmts, AndStmt, OptionalBlock, NoBlock, SomeBlock, Catch, NoCatch, CatchAs, Clauses, NoClauses, AndClause, Fun, FunAt, Funs, NoFuns, AndFun}
use Rattle.js_tree.specs.Plain as tree
use Rattle.js_tree.specs.Lists.{expr_list, stmt_list, fun_list, property_list, decl_list, clause_list}
use Rattle.js_grammar.specs.Unplaced.{unplaced_expr, unplaced_exprs, unplaced_optional, unplaced_properties, unplaced_decls, unplaced_init, unplaced_stmt, unplaced_stmt_form, unplaced_stmts, unplaced_block, unplaced_catch, unplaced_clauses, unplaced_fun, unplaced_funs}
use Rattle.widget_meaning.specs.Values.{Value, Undefined}
use Rattle.widget_meaning.specs.Scopes.{decl_names, init_names, stmt_vars, form_vars, stmts_vars, block_vars, catch_vars, clauses_vars, fun_name, without_name, other_names, distinct, argument, first_of_name, call_scope}
use Rattle.widget_meaning.specs.Calls.{without_directive}
use Rattle.widget_meaning.specs.Statements.{Case, bodies, from_default}

-- a property, a declaration and a clause
abbrev pub bare_property : List ℕ × Expr → List ℕ × Expr
bare_property p = (p.0, unplaced_expr p.1)

abbrev pub bare_decl : List ℕ × OptionalExpr → List ℕ × OptionalExpr
bare_decl d = (d.0, unplaced_optional d.1)

abbrev pub bare_case : Case → Case
bare_case c = (unplaced_optional c.0, map unplaced_stmt c.1)

pub exprs_bare : (es : Exprs) → expr_list (unplaced_exprs es) ≡ map unplaced_expr (expr_list es)
unfolding unplaced_expr
exprs_bare NoExprs = refl
exprs_bare (AndExpr es e) = ap (λ xs. xs ++ unplaced_expr e ∷ []) (exprs_bare es) ∙ sym (map-append unplaced_expr (expr_list es) (e ∷ []))

pub stmts_bare : (ss : Stmts) → stmt_list (unplaced_stmts ss) ≡ map unplaced_stmt (stmt_list ss)
unfolding unplaced_expr
stmts_bare NoStmts = refl
stmts_bare (AndStmt ss s) = ap (λ xs. xs ++ unplaced_stmt s ∷ []) (stmts_bare ss) ∙ sym (map-append unplaced_stmt (stmt_list ss) (s ∷ []))

pub funs_bare : (fs : Funs) → fun_list (unplaced_funs fs) ≡ map unplaced_fun (fun_list fs)
unfolding unplaced_expr
funs_bare NoFuns = refl
funs_bare (AndFun fs f) = ap (λ xs. xs ++ unplaced_fun f ∷ []) (funs_bare fs) ∙ sym (map-append unplaced_fun (fun_list fs) (f ∷ []))

pub properties_bare : (ps : Properties) → property_list (unplaced_properties ps) ≡ map bare_property (property_list ps)
unfolding unplaced_expr
properties_bare NoProperties = refl
properties_bare (AndProperty ps key e) = ap (λ xs. xs ++ (key, unplaced_expr e) ∷ []) (properties_bare ps) ∙ sym (map-append bare_property (property_list ps) ((key, e) ∷ []))

pub decls_bare : (ds : Decls) → decl_list (unplaced_decls ds) ≡ map bare_decl (decl_list ds)
unfolding unplaced_expr
decls_bare NoDecls = refl
decls_bare (AndDecl ds name at e) = ap (λ xs. xs ++ (name, unplaced_optional e) ∷ []) (decls_bare ds) ∙ sym (map-append bare_decl (decl_list ds) ((name, e) ∷ []))

pub clauses_bare : (cs : Clauses) → clause_list (unplaced_clauses cs) ≡ map bare_case (clause_list cs)
unfolding unplaced_expr
clauses_bare NoClauses = refl
clauses_bare (AndClause cs test body) =
    (λ i. clauses_bare cs i ++ (unplaced_optional test, stmts_bare body i) ∷ [])
    ∙ sym (map-append bare_case (clause_list cs) ((test, stmt_list body) ∷ []))

-- ## The names that a call makes

decl_names_bare : (ds : Decls) → decl_names (unplaced_decls ds) ≡ decl_names ds
unfolding unplaced_expr
decl_names_bare NoDecls = refl
decl_names_bare (AndDecl ds x at e) = ap (λ xs. xs ++ x ∷ []) (decl_names_bare ds)

init_names_bare : (i : ForInit) → init_names (unplaced_init i) ≡ init_names i
unfolding unplaced_expr
init_names_bare (DeclsFirst ds) = decl_names_bare ds
init_names_bare (ExprsFirst es) = refl

mutual
  unfolding unplaced_expr stmt_vars

  vars_stmt : (s : Stmt) → stmt_vars (unplaced_stmt s) ≡ stmt_vars s
  vars_stmt (StmtAt at names form) = vars_form form

  vars_form : (s : StmtForm) → form_vars (unplaced_stmt_form s) ≡ form_vars s
  vars_form (tree.Var ds) = decl_names_bare ds
  vars_form (tree.Only e) = refl
  vars_form (tree.If e a b) = λ i. vars_stmts a i ++ vars_stmts b i
  vars_form (tree.While e b) = vars_stmts b
  vars_form (tree.DoWhile e b) = vars_stmts b
  vars_form (tree.For first test next b) = λ i. init_names_bare first i ++ vars_stmts b i
  vars_form (tree.ForIn is_declared x e b) = λ i. (if is_declared then x ∷ [] else []) ++ vars_stmts b i
  vars_form (tree.Continue l) = refl
  vars_form (tree.Break l) = refl
  vars_form (tree.Return e) = refl
  vars_form (tree.Throw e) = refl
  vars_form (tree.With e b) = vars_stmts b
  vars_form (tree.Switch e cs) = vars_clauses cs
  vars_form (tree.Try a c b) = λ i. vars_stmts a i ++ (vars_catch c i ++ vars_block b i)
  vars_form (tree.Label x s) = vars_stmt s

  vars_stmts : (ss : Stmts) → stmts_vars (unplaced_stmts ss) ≡ stmts_vars ss
  vars_stmts NoStmts = refl
  vars_stmts (AndStmt ss s) = λ i. vars_stmts ss i ++ vars_stmt s i

  vars_block : (b : OptionalBlock) → block_vars (unplaced_block b) ≡ block_vars b
  vars_block NoBlock = refl
  vars_block (SomeBlock ss) = vars_stmts ss

  vars_catch : (c : Catch) → catch_vars (unplaced_catch c) ≡ catch_vars c
  vars_catch NoCatch = refl
  vars_catch (CatchAs x ss) = vars_stmts ss

  vars_clauses : (cs : Clauses) → clauses_vars (unplaced_clauses cs) ≡ clauses_vars cs
  vars_clauses NoClauses = refl
  vars_clauses (AndClause cs test ss) = λ i. vars_clauses cs i ++ vars_stmts ss i

pub fun_name_bare : (f : Fun) → fun_name (unplaced_fun f) ≡ fun_name f
unfolding unplaced_expr
fun_name_bare (FunAt at names name params body funs) = refl

pub without_name_bare : (f : Fun) → without_name (unplaced_fun f) ≡ unplaced_fun (without_name f)
unfolding unplaced_expr
without_name_bare (FunAt at names name params body funs) = refl

names_of_all : (fs : List Fun) → flat_map fun_name (map unplaced_fun fs) ≡ flat_map fun_name fs
names_of_all [] = refl
names_of_all (f ∷ fs) = λ i. fun_name_bare f i ++ names_of_all fs i

others_bare : (f : Fun) → other_names (unplaced_fun f) ≡ other_names f
unfolding unplaced_expr
others_bare (FunAt at names name params body funs) =
    λ i. params ++ (vars_stmts body i ++ (ap (flat_map fun_name) (funs_bare funs) ∙ names_of_all (fun_list funs)) i)

first_bare : (fun : Fun) (f : Value) (vs : List Value) (x : List ℕ) → first_of_name (unplaced_fun fun) f vs x ≡ first_of_name fun f vs x
unfolding unplaced_expr
first_bare (FunAt at names name params body funs) f vs x =
    λ i. unwrap_or (argument params vs x)
    (if list_any (bytes_eq x) (option_to_list name) && not (list_any (bytes_eq x) (others_bare (FunAt at names name params body funs) i)) then f else Undefined)

pub scope_bare : (fun : Fun) (outer : Option ℕ) (f : Value) (vs : List Value) → call_scope (unplaced_fun fun) outer f vs ≡ call_scope fun outer f vs
scope_bare fun outer f vs = λ i. record {
  outer = outer;
  pairs = map (λ x. (x, first_bare fun f vs x i)) (distinct [] (others_bare fun i ++ fun_name_bare fun i));
}

-- ## The clauses of a `switch`

pub bodies_bare : (cs : List Case) → bodies (map bare_case cs) ≡ map unplaced_stmt (bodies cs)
bodies_bare [] = refl
bodies_bare (c ∷ cs) = ap (λ xs. map unplaced_stmt c.1 ++ xs) (bodies_bare cs) ∙ sym (map-append unplaced_stmt c.1 (bodies cs))

pub default_bare : (all cs : List Case) → from_default (map bare_case all) (map bare_case cs) ≡ map unplaced_stmt (from_default all cs)
unfolding unplaced_expr
default_bare all [] = refl
default_bare all ((NoExpr, b) ∷ cs) = ap (λ xs. map unplaced_stmt b ++ xs) (bodies_bare cs) ∙ sym (map-append unplaced_stmt b (bodies cs))
default_bare all ((SomeExpr e, b) ∷ cs) = default_bare all cs

-- ## The statements of a function

by_directive : (b : Bool) (s : Stmt) (is : List Stmt) → (if b then map unplaced_stmt is else unplaced_stmt s ∷ map unplaced_stmt is) ≡ map unplaced_stmt (if b then is else s ∷ is)
by_directive true s is = refl
by_directive false s is = refl

pub directive_bare : (is : List Stmt) → without_directive (map unplaced_stmt is) ≡ map unplaced_stmt (without_directive is)
unfolding unplaced_expr
directive_bare (StmtAt at names (tree.Only (tree.ExprAt place inner (tree.Str t))) ∷ is) =
    by_directive (bytes_eq t (codes "use strict")) (StmtAt at names (tree.Only (tree.ExprAt place inner (tree.Str t)))) is
directive_bare is = refl
