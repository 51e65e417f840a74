-- Each job, each load turn and each timer keeps an invariant.
use Rattle.js_tree.specs.Plain as tree
use Rattle.std.specs.Prelude.{ℕ, List}
use Rattle.js_tree.specs.Plain.{Fun}
use Rattle.widget_meaning.specs.Values.{Value, Completion}
use Rattle.widget_meaning.specs.OwnState.{State, Timer}
use Rattle.widget_meaning.specs.Plan.{Plan, Job, Eval, Target, Exec, Pass, Call, RunNative, Hear}
use Rattle.widget_meaning.specs.Items.{timer_plan}
use Rattle.widget_meaning.specs.Meaning.{body}
use Rattle.widget_meaning.specs.Alone.{call_script, library_plan, go_plan}
use Rattle.widget_meaning.specs.Ways.{Way, ByValue, Ends, way_of}
use Rattle.widget_meaning.specs.Keeps.{Invariant, JobOf, Keeps}
use Rattle.widget_meaning.proofs.Keeping.{ended, job, value, made, R, outermost, no_function, gave}
use Rattle.widget_meaning.proofs.KeepingForms.{expression_r, heard_r, invoke_r, pass_r, put_r, statement_r, target_r}
use Rattle.widget_meaning.proofs.KeepingPage.{run_native_r}

module _ (inv : Invariant) (many : ℕ) where
  pub body_r : (x0 : Job) (x1 : State) → R inv many x1 → JobOf inv many x0 → Keeps inv many (way_of x0) (body x0 x1)
  body_r (Eval (tree.ExprAt at names form) p) s hr q = search (expression_r)
  body_r (Target (tree.ExprAt at names form) p) s hr q = search (target_r)
  body_r (Exec (tree.StmtAt at names form) p) s hr q = search (statement_r)
  body_r (Pass l p) s hr q = search (pass_r)
  body_r (Call f this vs d) s hr q = search (invoke_r)
  body_r (RunNative w this vs d) s hr q = search (run_native_r)
  body_r (Hear h) s hr q = search (heard_r)

  pub call_script_r : (way : Way) (x0 : Fun) (x1 : List Value) (x2 : State) (x3 : (Completion → State → Plan)) → R inv many x2 → ((y0 : Completion) (y1 : State) → R inv many y1 → Ends ByValue y0 → Keeps inv many way (x3 y0 y1)) → Keeps inv many way (call_script x0 x1 x2 x3)
  call_script_r way f vs s k hr f0 = search (made, job, outermost, no_function)

  pub library_plan_r : (x0 : List ℕ) (x1 : Fun) (x2 : State) → R inv many x2 → Keeps inv many ByValue (library_plan x0 x1 x2)
  library_plan_r x f s hr = search (call_script_r, value, put_r, gave)

  pub go_plan_r : (x0 : Fun) (x1 : State) → R inv many x1 → Keeps inv many ByValue (go_plan x0 x1)
  go_plan_r f s hr = search (call_script_r, ended)

  pub timer_plan_r : (x0 : Timer) (x1 : State) → R inv many x1 → Keeps inv many ByValue (timer_plan x0 x1)
  timer_plan_r t s hr = search (job, no_function, ended)
