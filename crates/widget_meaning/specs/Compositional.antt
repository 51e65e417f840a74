-- The meaning is compositional: each form by the meanings of its parts. This is the direct recursive meaning.
use Rattle.std.specs.Prelude.{◌≡◌, ℕ, suc, pos, ◌-◌, nat_lt, Bool, true, false, if◌then◌else◌, List, [], ◌∷◌, ◌++◌, length, Option, Some, is_some, ◌+◌}
use Rattle.js_tree.specs.declared.nodes.Word.{Word}
use Rattle.js_tree.specs.declared.nodes.StepOp.{StepOp}
use Rattle.js_tree.specs.declared.nodes.UnOp.TheVariants as un
use Rattle.js_tree.specs.declared.nodes.BinOp.{BinOp}
use Rattle.js_tree.specs.declared.nodes.AssignOp.{AssignOp}
use Rattle.js_tree.specs.Plain as tree
use Rattle.js_tree.specs.Plain.{Expr, ExprForm, Exprs, Properties, OptionalExpr, Stmt, StmtForm, Stmts, Decls, ForInit, Catch, OptionalBlock, Clauses, Fun}
use Rattle.code_units.specs.Whole.{number_in}
use Rattle.widget_meaning.specs.Limits.{max_depth}
use Rattle.permitted_table.specs.declared.native.NativeId.{NativeId}
use Rattle.permitted_table.specs.declared.native.HostEntry.TheVariants as host
use Rattle.widget_meaning.specs.Values.{Value, Undefined, Num, Text, Own, Host, Reference, Variable, Completion, Normal, Is, Refers, Return, Break, Continue, Throw, E1, Depth, is_true, is_nothing, to_text, Found}
use Rattle.widget_meaning.specs.OwnState.{State, Function, cell_at, with_new_scope, new_array, plain_object, new_function, Scope}
use Rattle.widget_meaning.specs.Plan.{Place, Plan, Ret, Job, Eval, Target, Exec, Pass, Call, RunNative, Hear, Hearing, Loop, WhileLoop, DoLoop, ForLoop, ForInLoop, Out, End, Ended, Stopped, OutOfFuel, charge, on_normal, after}
use Rattle.widget_meaning.specs.Costs.{pay, make, throw, give, scope_cost}
use Rattle.widget_meaning.specs.Operators.{binary, is_same, unary}
use Rattle.widget_meaning.specs.Properties.{property, names_of, put, index_name, read}
use Rattle.widget_meaning.specs.Scopes.{variable, assign, fun_list, call_scope}
use Rattle.widget_meaning.specs.Calls.{statements, stmt_list, without_directive, declare, call_body, call_end, invoke, call_to_string, primitive_result, to_primitive}
use Rattle.widget_meaning.specs.Expressions.{expr_list, property_list, literal, word_value, array_parts, object_parts, subscript_read, subscript_target, callee, arguments_then, binary_right, delete_target, step_target, step_converted, assign_target, assign_with, compound, referred, base_of, and_right, or_right, choose, is_converting, converted_left, result, refer, operate, unary_on, write}
use Rattle.widget_meaning.specs.Statements.{decl_list, declarations, expressions, branch, loop_test, while_next, do_next, for_init, for_again, for_next, for_in, for_in_next, for_in_over, clause_list, bodies, from_default, switch_on, switch_end, in_catch, caught, finally, last_end, Case, choose_case, case_tested}
use Rattle.widget_meaning.specs.ListNatives.{call_each}
use Rattle.widget_meaning.specs.BunchWrites.{fired, each_called}
use Rattle.widget_meaning.specs.Natives.{run_native}
use Rattle.widget_meaning.specs.Dispatch.{heard, handlers, dispatch_end, dispatch}
use Rattle.widget_meaning.specs.Meaning.{run_plan, meaning, eval, exec}

-- what comes after an outcome; a stop passes
abbrev pub go_on : Out → (Completion → State → Plan) → End → Out
go_on r k (Ended o) = run_plan r.left (k o r.state)
go_on r k (Stopped c) = r
go_on r k OutOfFuel = r

-- an outcome, and what comes after it
abbrev pub then_do : Out → (Completion → State → Plan) → Out
then_do r k = go_on r k r.how

-- the outcome of a form that ends at once
abbrev pub gives : Value → State → ℕ → Out
gives v s g = record { how = Ended (Is v); state = s; left = g }

-- the outcome of a form that ends at once with a completion
abbrev pub ends : Completion → State → ℕ → Out
ends o s g = record { how = Ended o; state = s; left = g }

-- after the body of a loop: another round, or how the loop ends
abbrev pub looped : Completion → State → ℕ → Out → Out
looped Normal s g r = r
looped Continue s g r = r
looped Break s g r = ends Normal s g
looped o s g r = ends o s g

-- what is done with a thrown value; anything else stays as it is
abbrev pub if_thrown : Completion → Out → (Value → Out) → Out
if_thrown (Throw v) r k = k v
if_thrown o r k = r

-- what is no target of its own, and is evaluated
abbrev pub is_value_form : ExprForm → Bool
is_value_form (tree.Name x) = false
is_value_form (tree.Dot e x) = false
is_value_form (tree.Sub e i) = false
is_value_form form = true

-- the new scope of a call, paid
abbrev pub new_scope : Fun → Option ℕ → Value → List Value → State → Plan
new_scope f outer v vs s =
    let c : Scope = call_scope f outer v vs in pay (scope_cost c) s (λ t. Ret Normal (with_new_scope t c))

-- then the declared functions, in that scope
abbrev pub declared : Fun → ℕ → Completion → State → Plan
declared (tree.FunAt at names name params body funs) i o s = on_normal o s (declare (fun_list funs) i s (Ret Normal))

-- then the body, whose completion is what the call gives
abbrev pub body_in : Fun → Place → Completion → State → Plan
body_in (tree.FunAt at names name params body funs) p o s = on_normal o s (call_body body p s)

-- the laws of a form at a place, in a state, and with so much fuel after its own unit
module _ (at : ℕ) (names : List ℕ) (p : Place) (s : State) (g : ℕ) where
  -- an expression of a form, with one unit more
  abbrev pub evaluated : ExprForm → Out
  evaluated form = meaning (Eval (tree.ExprAt at names form) p) s (suc g)

  -- a target of a form
  abbrev pub targeted : ExprForm → Out
  targeted form = meaning (Target (tree.ExprAt at names form) p) s (suc g)

  -- a statement of a form
  abbrev pub executed : StmtForm → Out
  executed form = meaning (Exec (tree.StmtAt at names form) p) s (suc g)

  -- the laws of expressions
  pub record ExpressionLaws : Type 0 where
    pub number : (t : List ℕ) → evaluated (tree.Num t) ≡ gives (literal (number_in t)) s g
    pub string : (t : List ℕ) → evaluated (tree.Str t) ≡ gives (Text t) s g
    pub name : (x : List ℕ) → evaluated (tree.Name x) ≡ gives (variable s p x) s g
    pub word : (w : Word) → evaluated (tree.Constant w) ≡ gives (word_value w) s g
    -- an array and an object: born, and then part by part
    pub array : (es : Exprs)
        → evaluated (tree.Array es) ≡ run_plan g
        (make (new_array 0 []) 0 s (λ a t. array_parts a 0 (expr_list es) p t))
    pub array_next : (a : Value) (i : ℕ) (e : Expr) (es : List Expr)
        → run_plan g (array_parts a i (e ∷ es) p s) ≡ then_do (eval e p s g)
        (after (λ v t. put a (index_name i) v t (array_parts a (i + 1) es p)))
    pub array_last : (a : Value) (i : ℕ) → run_plan g (array_parts a i [] p s) ≡ gives a s g
    pub object : (qs : Properties)
        → evaluated (tree.Object qs) ≡ run_plan g
        (make (plain_object []) 0 s (λ a t. object_parts a (property_list qs) p t))
    pub object_next : (a : Value) (x : List ℕ) (e : Expr) (qs : List (List ℕ × Expr))
        → run_plan g (object_parts a ((x, e) ∷ qs) p s) ≡ then_do (eval e p s g)
        (after (λ v t. put a x v t (object_parts a qs p)))
    pub object_last : (a : Value) → run_plan g (object_parts a [] p s) ≡ gives a s g
    pub function : (f : Fun) → evaluated (tree.Function f) ≡ run_plan g (make (new_function f p.scope) 0 s give)
    -- properties: the base, then the subscript, then the read
    pub dot : (e : Expr) (x : List ℕ) → evaluated (tree.Dot e x) ≡ then_do (eval e p s g) (after (λ b t. read b x t))
    pub subscript : (e i : Expr) → evaluated (tree.Sub e i) ≡ then_do (eval e p s g) (subscript_read i p)
    pub subscript_name : (i : Expr) (b : Value)
        → run_plan g (subscript_read i p (Is b) s) ≡ then_do (eval i p s g) (after (λ v t. read b (to_text v) t))
    -- targets alike; one of another form is evaluated
    pub name_target : (x : List ℕ) → targeted (tree.Name x) ≡ ends (Refers (Variable x)) s g
    pub dot_targets : (e : Expr) (x : List ℕ)
        → targeted (tree.Dot e x) ≡ then_do (eval e p s g) (after (λ b t. refer b x t))
    pub subscript_targets : (e i : Expr) → targeted (tree.Sub e i) ≡ then_do (eval e p s g) (subscript_target i p)
    pub subscript_target_name : (i : Expr) (b : Value)
        → run_plan g (subscript_target i p (Is b) s) ≡ then_do (eval i p s g) (after (λ v t. refer b (to_text v) t))
    pub value_targets : (form : ExprForm) → is_value_form form ≡ true
        → targeted form ≡ then_do (evaluated form) (after (λ v t. Ret (Refers (Found v)) t))
    -- a call: its target, its arguments from left to right, and then the function is read and called
    pub call : (f : Expr) (es : Exprs)
        → evaluated (tree.Call f es) ≡ then_do (meaning (Target f p) s g) (callee (expr_list es) p)
    pub argument : (r : Reference) (vs : List Value) (e : Expr) (es : List Expr)
        → run_plan g (arguments_then r vs (e ∷ es) p s) ≡ then_do (eval e p s g)
        (after (λ v t. arguments_then r (vs ++ v ∷ []) es p t))
    pub arguments_end : (r : Reference) (vs : List Value)
        → run_plan g (arguments_then r vs [] p s) ≡ run_plan g (invoke (referred r p s) (base_of r) vs p.depth s)
    -- operators: the operands from left to right
    pub operator : (op : BinOp) (a b : Expr)
        → evaluated (tree.Binary op a b) ≡ then_do (eval a p s g) (binary_right op b p)
    pub operator_second : (op : BinOp) (b : Expr) (v : Value)
        → run_plan g (binary_right op b p (Is v) s) ≡ then_do (eval b p s g) (after (λ w t. operate op v w p.depth t))
    -- then objects are converted, left before right; `===` and `!==` take them as they are
    pub operator_left : (op : BinOp) (v w : Value) → is_converting op ≡ true
        → run_plan g (operate op v w p.depth s) ≡ then_do (run_plan g (to_primitive v p.depth s))
        (converted_left op w p.depth)
    pub operator_last : (op : BinOp) (v w : Value) (d : ℕ)
        → run_plan g (converted_left op w d (Is v) s) ≡ then_do (run_plan g (to_primitive w d s))
        (after (λ w t. result (binary op v w) t))
    pub operator_alike : (op : BinOp) (v w : Value) → is_converting op ≡ false
        → run_plan g (operate op v w p.depth s) ≡ run_plan g (result (binary op v w) s)
    pub delete : (e : Expr) → evaluated (tree.Unary un.Delete e) ≡ then_do (meaning (Target e p) s g) delete_target
    pub type_of : (e : Expr)
        → evaluated (tree.Unary un.TypeOf e) ≡ then_do (eval e p s g) (after (λ v t. unary_on un.TypeOf v p t))
    pub not : (e : Expr)
        → evaluated (tree.Unary un.Not e) ≡ then_do (eval e p s g) (after (λ v t. unary_on un.Not v p t))
    pub plus : (e : Expr)
        → evaluated (tree.Unary un.Plus e) ≡ then_do (eval e p s g) (after (λ v t. unary_on un.Plus v p t))
    pub minus : (e : Expr)
        → evaluated (tree.Unary un.Minus e) ≡ then_do (eval e p s g) (after (λ v t. unary_on un.Minus v p t))
    pub plus_operand : (v : Value)
        → run_plan g (unary_on un.Plus v p s) ≡ then_do (run_plan g (to_primitive v p.depth s))
        (after (λ v t. result (unary un.Plus v) t))
    pub minus_operand : (v : Value)
        → run_plan g (unary_on un.Minus v p s) ≡ then_do (run_plan g (to_primitive v p.depth s))
        (after (λ v t. result (unary un.Minus v) t))
    pub step : (op : StepOp) (e : Expr)
        → evaluated (tree.Step op e) ≡ then_do (meaning (Target e p) s g) (step_target op p)
    pub step_operand : (op : StepOp) (r : Reference)
        → run_plan g (step_target op p (Refers r) s) ≡ then_do (run_plan g (to_primitive (referred r p s) p.depth s))
        (step_converted op r p)
    pub assign : (op : AssignOp) (e v : Expr)
        → evaluated (tree.Assign op e v) ≡ then_do (meaning (Target e p) s g) (assign_target op v p)
    pub assign_right : (op : AssignOp) (v : Expr) (r : Reference)
        → run_plan g (assign_target op v p (Refers r) s) ≡ then_do (eval v p s g)
        (assign_with op r (referred r p s) p)
    pub assign_value : (op : AssignOp) (r : Reference) (v w : Value)
        → run_plan g (assign_with op r v p (Is w) s) ≡ then_do (run_plan g (compound op v w p.depth s))
        (after (λ v t. write r p v t (give v)))
    pub conjunction : (a b : Expr) → evaluated (tree.And a b) ≡ then_do (eval a p s g) (and_right b p)
    pub conjunction_right : (b : Expr) (v : Value)
        → run_plan g (and_right b p (Is v) s) ≡ (if is_true v then eval b p s g else gives v s g)
    pub disjunction : (a b : Expr) → evaluated (tree.Or a b) ≡ then_do (eval a p s g) (or_right b p)
    pub disjunction_right : (b : Expr) (v : Value)
        → run_plan g (or_right b p (Is v) s) ≡ (if is_true v then gives v s g else eval b p s g)
    pub condition : (a b c : Expr) → evaluated (tree.Cond a b c) ≡ then_do (eval a p s g) (choose b c p)
    pub condition_branch : (b c : Expr) (v : Value)
        → run_plan g (choose b c p (Is v) s) ≡ (if is_true v then eval b p s g else eval c p s g)

  -- the laws of statements
  pub record StatementLaws : Type 0 where
    -- statements one after the other: the first, and the others where it goes on
    pub list : (i : Stmt) (is : List Stmt)
        → run_plan g (statements (i ∷ is) p s) ≡ then_do (exec i p s g) (λ o t. on_normal o t (statements is p t))
    pub list_end : run_plan g (statements [] p s) ≡ ends Normal s g
    pub var : (ds : Decls) → executed (tree.Var ds) ≡ run_plan g (declarations (decl_list ds) p s)
    pub var_first : (x : List ℕ) (e : Expr) (ds : List (List ℕ × OptionalExpr))
        → run_plan g (declarations ((x, tree.SomeExpr e) ∷ ds) p s) ≡ then_do (eval e p s g)
        (after (λ v t. (declarations ds p) (assign t p x v)))
    pub var_bare : (x : List ℕ) (ds : List (List ℕ × OptionalExpr))
        → run_plan g (declarations ((x, tree.NoExpr) ∷ ds) p s) ≡ run_plan g (declarations ds p s)
    pub var_end : run_plan g (declarations [] p s) ≡ ends Normal s g
    pub only : (e : Expr) → executed (tree.Only e) ≡ then_do (eval e p s g) (after (λ v t. Ret Normal t))
    pub if_test : (e : Expr) (a b : Stmts) → executed (tree.If e a b) ≡ then_do (eval e p s g) (branch a b p)
    pub if_branch : (a b : Stmts) (v : Value)
        → run_plan g (branch a b p (Is v) s)
        ≡ (if is_true v then run_plan g (statements (stmt_list a) p s) else run_plan g (statements (stmt_list b) p s))
    -- loops: the test, and then the passes, of which each takes a unit
    pub loop_again : (l : Loop) (v : Value)
        → run_plan g (loop_test l p (Is v) s) ≡ (if is_true v then meaning (Pass l p) s g else ends Normal s g)
    pub while : (e : Expr) (b : Stmts)
        → executed (tree.While e b) ≡ then_do (eval e p s g) (loop_test (WhileLoop e (stmt_list b)) p)
    pub while_pass : (e : Expr) (b : List Stmt)
        → meaning (Pass (WhileLoop e b) p) s (suc g) ≡ then_do (run_plan g (statements b p s)) (while_next e b p)
    pub while_again : (e : Expr) (b : List Stmt) (o : Completion)
        → run_plan g (while_next e b p o s) ≡ looped o s g (then_do (eval e p s g) (loop_test (WhileLoop e b) p))
    pub do_while : (b : Stmts) (e : Expr) → executed (tree.DoWhile e b) ≡ meaning (Pass (DoLoop (stmt_list b) e) p) s g
    pub do_pass : (b : List Stmt) (e : Expr)
        → meaning (Pass (DoLoop b e) p) s (suc g) ≡ then_do (run_plan g (statements b p s)) (do_next b e p)
    pub do_again : (b : List Stmt) (e : Expr) (o : Completion)
        → run_plan g (do_next b e p o s) ≡ looped o s g (then_do (eval e p s g) (loop_test (DoLoop b e) p))
    pub for : (first : ForInit) (test : OptionalExpr) (next : Exprs) (b : Stmts)
        → executed (tree.For first test next b) ≡ then_do (run_plan g (for_init first p s))
        (for_again test (expr_list next) (stmt_list b) p)
    pub for_declarations : (ds : Decls)
        → run_plan g (for_init (tree.DeclsFirst ds) p s) ≡ run_plan g (declarations (decl_list ds) p s)
    pub for_expressions : (es : Exprs)
        → run_plan g (for_init (tree.ExprsFirst es) p s) ≡ run_plan g (expressions (expr_list es) p s)
    pub for_test : (e : Expr) (next : List Expr) (b : List Stmt)
        → run_plan g (for_again (tree.SomeExpr e) next b p Normal s) ≡ then_do (eval e p s g)
        (loop_test (ForLoop (tree.SomeExpr e) next b) p)
    pub for_no_test : (next : List Expr) (b : List Stmt)
        → run_plan g (for_again tree.NoExpr next b p Normal s) ≡ meaning (Pass (ForLoop tree.NoExpr next b) p) s g
    pub for_pass : (test : OptionalExpr) (next : List Expr) (b : List Stmt)
        → meaning (Pass (ForLoop test next b) p) s (suc g) ≡ then_do (run_plan g (statements b p s))
        (for_next test next b p)
    pub for_round : (test : OptionalExpr) (next : List Expr) (b : List Stmt) (o : Completion)
        → run_plan g (for_next test next b p o s) ≡ looped o s g
        (then_do (run_plan g (expressions next p s)) (for_again test next b p))
    pub expressions_first : (e : Expr) (es : List Expr)
        → run_plan g (expressions (e ∷ es) p s) ≡ then_do (eval e p s g) (after (λ v t. expressions es p t))
    pub expressions_end : run_plan g (expressions [] p s) ≡ ends Normal s g
    pub for_in_object : (is_declared : Bool) (x : List ℕ) (e : Expr) (b : Stmts)
        → executed (tree.ForIn is_declared x e b) ≡ then_do (eval e p s g) (for_in_over x (stmt_list b) p)
    -- its names are listed and charged; each that is still found has its pass, in which it is the value of the variable
    pub for_in_list : (v : Value) (x : List ℕ) (b : List Stmt)
        → run_plan g (for_in_over x b p (Is v) s)
        ≡ (if is_nothing v then run_plan g (throw E1 s)
        else run_plan g (charge (length (names_of s v)) s (for_in v x (names_of s v) b p s)))
    pub for_in_name : (v : Value) (x y : List ℕ) (ys : List (List ℕ)) (b : List Stmt)
        → run_plan g (for_in v x (y ∷ ys) b p s)
        ≡ (if is_some (property s v y) then meaning (Pass (ForInLoop v x y ys b) p) s g
        else run_plan g (for_in v x ys b p s))
    pub for_in_end : (v : Value) (x : List ℕ) (b : List Stmt) → run_plan g (for_in v x [] b p s) ≡ ends Normal s g
    pub for_in_pass : (v : Value) (x y : List ℕ) (ys : List (List ℕ)) (b : List Stmt)
        → meaning (Pass (ForInLoop v x y ys b) p) s (suc g) ≡ then_do
        (run_plan g (statements b p (assign s p x (Text y)))) (for_in_next v x ys b p)
    pub for_in_again : (v : Value) (x : List ℕ) (ys : List (List ℕ)) (b : List Stmt) (o : Completion)
        → run_plan g (for_in_next v x ys b p o s) ≡ looped o s g (run_plan g (for_in v x ys b p s))
    -- jumps
    pub continue : (x : Option (List ℕ)) → executed (tree.Continue x) ≡ ends Continue s g
    pub break : (x : Option (List ℕ)) → executed (tree.Break x) ≡ ends Break s g
    pub return_nothing : executed (tree.Return tree.NoExpr) ≡ ends (Return Undefined) s g
    pub return : (e : Expr)
        → executed (tree.Return (tree.SomeExpr e)) ≡ then_do (eval e p s g) (after (λ v t. Ret (Return v) t))
    pub throw : (e : Expr) → executed (tree.Throw e) ≡ then_do (eval e p s g) (after (λ v t. Ret (Throw v) t))
    -- `switch`: its value, the tests up to one that is the same, the statements from there on, or from `default`
    pub switch : (e : Expr) (cs : Clauses)
        → executed (tree.Switch e cs) ≡ then_do (eval e p s g) (switch_on (clause_list cs) p)
    pub switch_cases : (v : Value) (cs : List Case)
        → run_plan g (switch_on cs p (Is v) s) ≡ then_do (run_plan g (choose_case v cs cs p s)) switch_end
    pub case : (v : Value) (all : List Case) (e : Expr) (b : List Stmt) (cs : List Case)
        → run_plan g (choose_case v all ((tree.SomeExpr e, b) ∷ cs) p s) ≡ then_do (eval e p s g)
        (case_tested v all b cs p)
    pub case_same : (v w : Value) (all : List Case) (b : List Stmt) (cs : List Case)
        → run_plan g (case_tested v all b cs p (Is w) s)
        ≡ (if is_same v w then run_plan g (statements (b ++ bodies cs) p s)
        else run_plan g (choose_case v all cs p s))
    pub default_passed : (v : Value) (all : List Case) (b : List Stmt) (cs : List Case)
        → run_plan g (choose_case v all ((tree.NoExpr, b) ∷ cs) p s) ≡ run_plan g (choose_case v all cs p s)
    pub default_taken : (v : Value) (all : List Case)
        → run_plan g (choose_case v all [] p s) ≡ run_plan g (statements (from_default all all) p s)
    -- `try`: its block, then its `catch`, then its `finally`
    pub try : (a : Stmts) (c : Catch) (b : OptionalBlock)
        → executed (tree.Try a c b) ≡ then_do (then_do (run_plan g (statements (stmt_list a) p s)) (caught c p))
        (finally b p)
    pub catch : (x : List ℕ) (b : Stmts) (o : Completion)
        → run_plan g (caught (tree.CatchAs x b) p o s) ≡ if_thrown o (ends o s g)
        (λ v. run_plan g (in_catch x (stmt_list b) v p s))
    pub no_catch : (o : Completion) → run_plan g (caught tree.NoCatch p o s) ≡ ends o s g
    pub finally_block : (b : Stmts) (o : Completion)
        → run_plan g (finally (tree.SomeBlock b) p o s) ≡ then_do (run_plan g (statements (stmt_list b) p s))
        (last_end o)
    pub no_finally : (o : Completion) → run_plan g (finally tree.NoBlock p o s) ≡ ends o s g

-- the laws of calls, in each state and with any fuel
pub record CallLaws (s : State) (g : ℕ) : Type 0 where
  -- calls that the host makes, natives, and handlers: a unit, and then what they do
  pub call : (f : Value) (this : Option Value) (vs : List Value) (d : ℕ)
      → meaning (Call f this vs d) s (suc g) ≡ run_plan g (invoke f this vs d s)
  pub native : (w : NativeId) (this : Option Value) (vs : List Value) (d : ℕ)
      → meaning (RunNative w this vs d) s (suc g) ≡ run_plan g (run_native w this vs d s)
  -- a function of the widget: its scope, its declared functions, its body; one too deep stops before that
  pub function : (n : ℕ) (f : Fun) (outer : Option ℕ) (this : Option Value) (vs : List Value) (d : ℕ)
      → (cell_at s n).kind ≡ Function f outer → nat_lt max_depth (suc d) ≡ false
      → run_plan g (invoke (Own n) this vs d s) ≡ then_do
      (then_do (run_plan g (new_scope f outer (Own n) vs s)) (declared f (length s.own.scopes)))
      (body_in f (record { scope = Some (length s.own.scopes); depth = suc d }))
  pub too_deep : (n : ℕ) (f : Fun) (outer : Option ℕ) (this : Option Value) (vs : List Value) (d : ℕ)
      → (cell_at s n).kind ≡ Function f outer → nat_lt max_depth (suc d) ≡ true
      → run_plan g (invoke (Own n) this vs d s) ≡ record { how = Stopped Depth; state = s; left = g }
  pub body : (b : Stmts) (p : Place)
      → run_plan g (call_body b p s) ≡ then_do
      (run_plan g (statements (without_directive (stmt_list b)) p s)) call_end
  pub native_called : (w : NativeId) (this : Option Value) (vs : List Value) (d : ℕ)
      → run_plan g (invoke (Host (host.Native w)) this vs d s) ≡ meaning (RunNative w this vs d) s g
  -- the conversion of an object: its `toString`, which the host calls
  pub conversion : (f v : Value) (d : ℕ)
      → run_plan g (call_to_string true f v d s) ≡ then_do (meaning (Call f (Some v) [] d) s g) primitive_result
  -- a charge is spent where it can be paid
  pub charged : (c : ℕ) (p : Plan)
      → run_plan g (charge c s p)
      ≡ (if nat_lt g c then record { how = OutOfFuel; state = s; left = g } else run_plan (g - c) p)
  pub handler : (h : Hearing) → meaning (Hear h) s (suc g) ≡ run_plan g (heard h s)
  pub handler_first : (h : Hearing)
      → run_plan g (heard h s) ≡ then_do
      (then_do (run_plan g (invoke (Own h.first) Option.None (h.event ∷ []) h.depth s))
      (after (λ v t. handlers h.others h t))) (dispatch_end h)
  pub handler_next : (f : ℕ) (fs : List ℕ) (h : Hearing)
      → run_plan g (handlers (f ∷ fs) h s) ≡ then_do (meaning (Call (Own f) Option.None (h.event ∷ []) h.depth) s g)
      (after (λ v t. handlers fs h t))
  -- natives that call: with each element and its index, with each Bunch, and the dispatch at each node
  pub element_first : (f v : Value) (vs : List Value) (i : ℕ) (ws : List Value) (d : ℕ)
      (k : List Value → State → Plan)
      → run_plan g (call_each f (v ∷ vs) i ws d s k) ≡ then_do
      (meaning (Call f Option.None (v ∷ Num (pos i) ∷ []) d) s g)
      (after (λ w t. call_each f vs (i + 1) (ws ++ w ∷ []) d t k))
  pub element_last : (f : Value) (i : ℕ) (ws : List Value) (d : ℕ) (k : List Value → State → Plan)
      → run_plan g (call_each f [] i ws d s k) ≡ run_plan g (k ws s)
  pub bunch_first : (f v : Value) (vs : List Value) (b : Value) (d : ℕ)
      → run_plan g (each_called f (v ∷ vs) b d s) ≡ then_do (meaning (Call f Option.None (v ∷ []) d) s g)
      (after (λ w t. each_called f vs b d t))
  pub bunch_last : (f b : Value) (d : ℕ) → run_plan g (each_called f [] b d s) ≡ gives b s g
  pub node_first : (t : List ℕ) (n : ℕ) (ns : List ℕ) (b : Value) (d : ℕ)
      → run_plan g (fired t (n ∷ ns) b d s) ≡ then_do (run_plan g (dispatch t n Undefined d s))
      (after (λ v u. fired t ns b d u))
  pub node_last : (t : List ℕ) (b : Value) (d : ℕ) → run_plan g (fired t [] b d s) ≡ gives b s g
  -- without a unit nothing begins
  pub no_fuel : (j : Job) → meaning j s 0 ≡ record { how = OutOfFuel; state = s; left = 0 }
