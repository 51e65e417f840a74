-- The lists of which scripts are made have texts.
use Rattle.std.proofs.Common.{ℕ, List, [], ◌∷◌, Bool, true, false}
use Rattle.std.specs.Prelude.{codes, if◌then◌else◌, Option, Some, None, ⊤}
use Rattle.std.specs.List.{AllByRecursion}
use Rattle.std.specs.Str.{bytes_eq}
use Rattle.js_tree.specs.Plain as tree
use Rattle.js_tree.specs.Plain.{Expr, Exprs, OptionalExpr, Properties, Decls, Stmt, Stmts, Clauses, Fun, Funs}
use Rattle.js_tree.specs.Lists.{expr_list, stmt_list, fun_list, property_list, decl_list, clause_list}
use Rattle.widget_meaning.specs.Scopes.{without_name}
use Rattle.widget_meaning.specs.Calls.{without_directive}
use Rattle.widget_meaning.specs.Statements.{Case, bodies, from_default}
use Rattle.widget_meaning.specs.Alone.{call_parts}
use Rattle.meaning_laws.specs.Texts.{IsText, ExprHasTexts, ExprsHaveTexts, OptionHasTexts, PropertiesHaveTexts, DeclsHaveTexts, StmtHasTexts, StmtsHaveTexts, ClausesHaveTexts, FunHasTexts, FunsHaveTexts}
use Rattle.meaning_laws.proofs.Each.{each_both}

-- a key and its value; a declared variable; a clause
abbrev pub PropertyHasTexts : List ℕ × Expr → Type 0
PropertyHasTexts q = IsText q.0 × ExprHasTexts q.1

abbrev pub DeclHasTexts : List ℕ × OptionalExpr → Type 0
DeclHasTexts d = OptionHasTexts d.1

abbrev pub CaseHasTexts : Case → Type 0
CaseHasTexts c = OptionHasTexts c.0 × AllByRecursion StmtHasTexts c.1

pub exprs_are : (es : Exprs) → ExprsHaveTexts es → AllByRecursion ExprHasTexts (expr_list es)
exprs_are tree.NoExprs h = tt
exprs_are (tree.AndExpr es e) h = each_both ExprHasTexts (expr_list es) (e ∷ []) (exprs_are es h.0) (h.1, tt)

pub stmts_are : (ss : Stmts) → StmtsHaveTexts ss → AllByRecursion StmtHasTexts (stmt_list ss)
stmts_are tree.NoStmts h = tt
stmts_are (tree.AndStmt ss s) h = each_both StmtHasTexts (stmt_list ss) (s ∷ []) (stmts_are ss h.0) (h.1, tt)

pub funs_are : (fs : Funs) → FunsHaveTexts fs → AllByRecursion FunHasTexts (fun_list fs)
funs_are tree.NoFuns h = tt
funs_are (tree.AndFun fs f) h = each_both FunHasTexts (fun_list fs) (f ∷ []) (funs_are fs h.0) (h.1, tt)

pub properties_are : (qs : Properties) → PropertiesHaveTexts qs → AllByRecursion PropertyHasTexts (property_list qs)
properties_are tree.NoProperties h = tt
properties_are (tree.AndProperty qs x e) h = each_both PropertyHasTexts (property_list qs) ((x, e) ∷ []) (properties_are qs h.0) (h.1, tt)

pub decls_are : (ds : Decls) → DeclsHaveTexts ds → AllByRecursion DeclHasTexts (decl_list ds)
decls_are tree.NoDecls h = tt
decls_are (tree.AndDecl ds x at e) h = each_both DeclHasTexts (decl_list ds) ((x, e) ∷ []) (decls_are ds h.0) (h.1, tt)

pub clauses_are : (cs : Clauses) → ClausesHaveTexts cs → AllByRecursion CaseHasTexts (clause_list cs)
clauses_are tree.NoClauses h = tt
clauses_are (tree.AndClause cs test ss) h = each_both CaseHasTexts (clause_list cs) ((test, stmt_list ss) ∷ []) (clauses_are cs h.0) ((h.1.0, stmts_are ss h.1.1), tt)

pub unnamed : (f : Fun) → FunHasTexts f → FunHasTexts (without_name f)
unnamed (tree.FunAt at names name params body funs) h = h

pub body_are : (is : List Stmt) → AllByRecursion StmtHasTexts is → AllByRecursion StmtHasTexts (without_directive is)
body_are (tree.StmtAt at names (tree.Only (tree.ExprAt place inner (tree.Str t))) ∷ is) h = by (bytes_eq t (codes "use strict"))
  where
    by : (b : Bool) → AllByRecursion StmtHasTexts (if b then is else tree.StmtAt at names (tree.Only (tree.ExprAt place inner (tree.Str t))) ∷ is)
    by true = h.1
    by false = h
body_are is h = h

pub bodies_are : (cs : List Case) → AllByRecursion CaseHasTexts cs → AllByRecursion StmtHasTexts (bodies cs)
bodies_are [] h = tt
bodies_are (c ∷ cs) h = each_both StmtHasTexts c.1 (bodies cs) h.0.1 (bodies_are cs h.1)

pub default_are : (all cs : List Case) → AllByRecursion CaseHasTexts cs → AllByRecursion StmtHasTexts (from_default all cs)
default_are all [] h = tt
default_are all ((tree.NoExpr, b) ∷ cs) h = each_both StmtHasTexts b (bodies cs) h.0.1 (bodies_are cs h.1)
default_are all ((tree.SomeExpr e, b) ∷ cs) h = default_are all cs h.1

-- the name and the function of a library or of the script
abbrev pub PartsHaveTexts : Option (List ℕ × Fun) → Type 0
PartsHaveTexts None = ⊤
PartsHaveTexts (Some p) = IsText p.0 × FunHasTexts p.1

pub parts_are : (ss : Stmts) → StmtsHaveTexts ss → PartsHaveTexts (call_parts ss)
parts_are (tree.AndStmt tree.NoStmts
    (tree.StmtAt a xs (tree.Only
    (tree.ExprAt b bs (tree.Call callee
    (tree.AndExpr (tree.AndExpr tree.NoExprs (tree.ExprAt c cs (tree.Str x)))
    (tree.ExprAt d ds (tree.Function f)))))))) h = (h.1.1.0.1, h.1.1.1)
parts_are ss h = tt
