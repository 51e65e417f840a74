-- Statements: what each form does after its unit, one level deep. A longer continuation has a name.
use Rattle.std.specs.Prelude.{ℕ, List, [], ◌∷◌, ◌++◌, length, if◌then◌else◌, Some, is_some}
pub use Rattle.js_tree.specs.Lists.{decl_list, clause_list}
use Rattle.js_tree.specs.Plain as tree
use Rattle.js_tree.specs.Plain.{Expr, OptionalExpr, Stmt, StmtForm, Stmts, ForInit, OptionalBlock, Catch}
use Rattle.widget_meaning.specs.Values.{Value, Undefined, Text, Completion, Normal, Return, Break, Continue, Throw, E1, is_true, is_nothing}
use Rattle.widget_meaning.specs.Operators.{is_same}
use Rattle.widget_meaning.specs.OwnState.{State, with_new_scope, Scope}
use Rattle.widget_meaning.specs.Plan.{Place, Plan, Ret, Do, Eval, Pass, Loop, WhileLoop, DoLoop, ForLoop, ForInLoop, and_then, charge, on_value, on_normal, on_throw, after}
use Rattle.widget_meaning.specs.Costs.{pay, throw, scope_cost}
use Rattle.widget_meaning.specs.Properties.{property, names_of}
use Rattle.widget_meaning.specs.Scopes.{assign}
use Rattle.widget_meaning.specs.Calls.{statements, stmt_list}
use Rattle.widget_meaning.specs.Expressions.{expr_list}

-- one declaration, and what is done then
abbrev pub declaration : OptionalExpr → List ℕ → Place → State → (State → Plan) → Plan
declaration tree.NoExpr x p s k = k s
declaration (tree.SomeExpr e) x p s k = Do (Eval e p) s (after (λ v t. k (assign t p x v)))

-- declarations one after the other: those with a first value get it
abbrev pub declarations : List (List ℕ × OptionalExpr) → Place → State → Plan
declarations [] p s = Ret Normal s
declarations (d ∷ ds) p s = declaration d.1 d.0 p s (declarations ds p)

-- expressions one after the other, for what they do
abbrev pub expressions : List Expr → Place → State → Plan
expressions [] p s = Ret Normal s
expressions (e ∷ es) p s = Do (Eval e p) s (after (λ v t. expressions es p t))

-- after the condition of an `if`
abbrev pub branch : Stmts → Stmts → Place → Completion → State → Plan
branch a b p o s = on_value o s (λ v. if is_true v then statements (stmt_list a) p s else statements (stmt_list b) p s)

-- after the test of a loop: another pass is a job of its own, which takes a unit
abbrev pub loop_test : Loop → Place → Completion → State → Plan
loop_test l p o s = on_value o s (λ v. if is_true v then Do (Pass l p) s Ret else Ret Normal s)

-- after the body of a loop
abbrev pub loop_end : Completion → State → Plan → Plan
loop_end Normal s p = p
loop_end Continue s p = p
loop_end Break s p = Ret Normal s
loop_end o s p = Ret o s

-- after the body of a `while`
abbrev pub while_next : Expr → List Stmt → Place → Completion → State → Plan
while_next e b p o s = loop_end o s (Do (Eval e p) s (loop_test (WhileLoop e b) p))

-- after the body of a `do`
abbrev pub do_next : List Stmt → Expr → Place → Completion → State → Plan
do_next b e p o s = loop_end o s (Do (Eval e p) s (loop_test (DoLoop b e) p))

-- the test of a `for`: without one it goes on
abbrev pub for_test : OptionalExpr → List Expr → List Stmt → Place → State → Plan
for_test tree.NoExpr next b p s = Do (Pass (ForLoop tree.NoExpr next b) p) s Ret
for_test (tree.SomeExpr e) next b p s = Do (Eval e p) s (loop_test (ForLoop (tree.SomeExpr e) next b) p)

-- after the first part of a `for`, and after its last: the test
abbrev pub for_again : OptionalExpr → List Expr → List Stmt → Place → Completion → State → Plan
for_again test next b p o s = on_normal o s (for_test test next b p s)

-- after the body of a `for`
abbrev pub for_next : OptionalExpr → List Expr → List Stmt → Place → Completion → State → Plan
for_next test next b p o s = loop_end o s (and_then (expressions next p s) (for_again test next b p))

-- the first part of a `for`
abbrev pub for_init : ForInit → Place → State → Plan
for_init (tree.DeclsFirst ds) p s = declarations (decl_list ds) p s
for_init (tree.ExprsFirst es) p s = expressions (expr_list es) p s

-- the listed names one after the other; one that is no longer found is passed over
abbrev pub for_in : Value → List ℕ → List (List ℕ) → List Stmt → Place → State → Plan
for_in v x [] b p s = Ret Normal s
for_in v x (y ∷ ys) b p s =
    if is_some (property s v y) then Do (Pass (ForInLoop v x y ys b) p) s Ret else for_in v x ys b p s

-- after the body of a `for-in`
abbrev pub for_in_next : Value → List ℕ → List (List ℕ) → List Stmt → Place → Completion → State → Plan
for_in_next v x ys b p o s = loop_end o s (for_in v x ys b p s)

-- after the object of a `for-in`: its names are listed, and each is charged
abbrev pub for_in_over : List ℕ → List Stmt → Place → Completion → State → Plan
for_in_over x b p o s =
    on_value o s (λ v. if is_nothing v then throw E1 s
    else charge (length (names_of s v)) s (for_in v x (names_of s v) b p s))

-- a pass, after its unit
abbrev pub pass : Loop → Place → State → Plan
pass (WhileLoop e b) p s = and_then (statements b p s) (while_next e b p)
pass (DoLoop b e) p s = and_then (statements b p s) (do_next b e p)
pass (ForLoop test next b) p s = and_then (statements b p s) (for_next test next b p)
pass (ForInLoop v x y ys b) p s = and_then (statements b p (assign s p x (Text y))) (for_in_next v x ys b p)

-- `return`, with or without a value
abbrev pub return_form : OptionalExpr → Place → State → Plan
return_form tree.NoExpr p s = Ret (Return Undefined) s
return_form (tree.SomeExpr e) p s = Do (Eval e p) s (after (λ v t. Ret (Return v) t))

-- a clause of a `switch`: its test, if any, and its statements
abbrev pub Case : Type 0
Case = OptionalExpr × List Stmt

-- the statements from a clause on, which falls through
abbrev pub bodies : List Case → List Stmt
bodies [] = []
bodies (c ∷ cs) = c.1 ++ bodies cs

-- those from `default` on
abbrev pub from_default : List Case → List Case → List Stmt
from_default all [] = []
from_default all ((tree.NoExpr, b) ∷ cs) = b ++ bodies cs
from_default all ((tree.SomeExpr e, b) ∷ cs) = from_default all cs

-- the test of a clause, and what is done with its value; `default` is passed over
abbrev pub case_test : OptionalExpr → Place → State → (Value → State → Plan) → Plan → Plan
case_test tree.NoExpr p s k skip = skip
case_test (tree.SomeExpr e) p s k skip = Do (Eval e p) s (λ o t. on_value o t (λ w. k w t))

-- the clause that is chosen, from these on: the tests in order, compared by `===`; then `default`
abbrev pub choose_case : Value → List Case → List Case → Place → State → Plan
choose_case v all [] p s = statements (from_default all all) p s
choose_case v all (c ∷ cs) p s =
    case_test c.0 p s (λ w t. if is_same v w then statements (c.1 ++ bodies cs) p t else choose_case v all cs p t)
    (choose_case v all cs p s)

-- what `choose_case` does after the test of a clause, by how the test ended: for the laws, which name what comes after each part
abbrev pub case_tested : Value → List Case → List Stmt → List Case → Place → Completion → State → Plan
case_tested v all b cs p o s =
    on_value o s (λ w. if is_same v w then statements (b ++ bodies cs) p s else choose_case v all cs p s)

-- a `break` ends a switch
abbrev pub switch_end : Completion → State → Plan
switch_end Break s = Ret Normal s
switch_end o s = Ret o s

-- after the value of a `switch`
abbrev pub switch_on : List Case → Place → Completion → State → Plan
switch_on cs p o s = on_value o s (λ v. and_then (choose_case v cs cs p s) switch_end)

-- the `catch` of a thrown value, in a scope with its one name
abbrev pub in_catch : List ℕ → List Stmt → Value → Place → State → Plan
in_catch x b v p s =
    let c : Scope = record { outer = p.scope; pairs = (x, v) ∷ [] } in
    pay (scope_cost c) s
    (λ t. statements b (record { scope = Some (length t.own.scopes); depth = p.depth }) (with_new_scope t c))

-- after the block of a `try`: its `catch`
abbrev pub caught : Catch → Place → Completion → State → Plan
caught tree.NoCatch p o s = Ret o s
caught (tree.CatchAs x b) p o s = on_throw o (Ret o s) (λ v. in_catch x (stmt_list b) v p s)

-- after a `finally`: it replaces the earlier completion where its own is abrupt
abbrev pub last_end : Completion → Completion → State → Plan
last_end o how s = on_normal how s (Ret o s)

-- after the block and the `catch`: the `finally`
abbrev pub finally : OptionalBlock → Place → Completion → State → Plan
finally tree.NoBlock p o s = Ret o s
finally (tree.SomeBlock b) p o s = and_then (statements (stmt_list b) p s) (last_end o)

-- each form
abbrev pub statement : StmtForm → Place → State → Plan
statement (tree.Var ds) p s = declarations (decl_list ds) p s
statement (tree.Only e) p s = Do (Eval e p) s (after (λ v t. Ret Normal t))
statement (tree.If e a b) p s = Do (Eval e p) s (branch a b p)
statement (tree.While e b) p s = Do (Eval e p) s (loop_test (WhileLoop e (stmt_list b)) p)
statement (tree.DoWhile e b) p s = Do (Pass (DoLoop (stmt_list b) e) p) s Ret
statement (tree.For first test next b) p s =
    and_then (for_init first p s) (for_again test (expr_list next) (stmt_list b) p)
statement (tree.ForIn is_declared x e b) p s = Do (Eval e p) s (for_in_over x (stmt_list b) p)
statement (tree.Continue x) p s = Ret Continue s
statement (tree.Break x) p s = Ret Break s
statement (tree.Return e) p s = return_form e p s
statement (tree.Throw e) p s = Do (Eval e p) s (after (λ v t. Ret (Throw v) t))
statement (tree.Switch e cs) p s = Do (Eval e p) s (switch_on (clause_list cs) p)
statement (tree.Try a c b) p s = and_then (and_then (statements (stmt_list a) p s) (caught c p)) (finally b p)
-- no accepted tree has the others
statement (tree.With e b) p s = Ret Normal s
statement (tree.Label x i) p s = Ret Normal s
