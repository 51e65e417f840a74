-- The meaning: what each job is after its unit, and how it ends with so much fuel.
use Rattle.std.specs.Prelude.{ℕ, List, Option}
use Rattle.js_tree.specs.Plain as tree
use Rattle.js_tree.specs.Plain.{Expr, Stmt}
use Rattle.widget_meaning.specs.Values.{Value}
use Rattle.permitted_table.specs.declared.native.NativeId.{NativeId}
use Rattle.widget_meaning.specs.OwnState.{State}
use Rattle.widget_meaning.specs.Plan.{Place, Plan, Ret, Do, Job, Eval, Target, Exec, Pass, Call, RunNative, Hear, Out, run}
use Rattle.widget_meaning.specs.Calls.{invoke}
use Rattle.widget_meaning.specs.Expressions.{expression, target}
use Rattle.widget_meaning.specs.Statements.{statement, pass}
use Rattle.widget_meaning.specs.Natives.{run_native}
use Rattle.widget_meaning.specs.Dispatch.{heard}

-- what a job is, after its one unit
abbrev pub body : Job → State → Plan
body (Eval (tree.ExprAt at names form) p) s = expression form p s
body (Target (tree.ExprAt at names form) p) s = target form p s
body (Exec (tree.StmtAt at names form) p) s = statement form p s
body (Pass l p) s = pass l p s
body (Call f this vs d) s = invoke f this vs d s
body (RunNative w this vs d) s = run_native w this vs d s
body (Hear h) s = heard h s

-- a plan, and a job, with this much fuel: how it ends, the state then, and the fuel left
abbrev pub run_plan : ℕ → Plan → Out
run_plan g p = run body g p

-- a job with its unit
abbrev pub meaning : Job → State → ℕ → Out
meaning j s g = run_plan g (Do j s Ret)

-- Eval, Exec and Call of the language
abbrev pub eval : Expr → Place → State → ℕ → Out
eval e p s g = meaning (Eval e p) s g

-- a statement
abbrev pub exec : Stmt → Place → State → ℕ → Out
exec i p s g = meaning (Exec i p) s g

-- a call that the host makes, by a caller at this depth
abbrev pub call : Value → List Value → ℕ → State → ℕ → Out
call f vs d s g = meaning (Call f Option.None vs d) s g

-- a native after its unit
abbrev pub native : NativeId → Option Value → List Value → ℕ → State → ℕ → Out
native w this vs d s g = run_plan g (run_native w this vs d s)
