-- Each job, each load turn and each timer keeps what is there; and so does a plan that is carried out.
use Rattle.js_tree.specs.Plain as tree
use Rattle.std.proofs.Common.{arith}
use Rattle.std.specs.Prelude.{ℕ, zero, suc, ◌<◌, List, [], ◌∷◌, Bool, true, false, None, nat_lt, if◌then◌else◌}
use Rattle.js_tree.specs.Plain.{Fun}
use Rattle.permitted_table.specs.declared.native.HostEntry.TheVariants as host
use Rattle.widget_meaning.specs.Values.{Value, Undefined, Own, Host, Is, Completion}
use Rattle.widget_meaning.specs.OwnState.{State, Timer, new_function}
use Rattle.widget_meaning.specs.Plan.{Plan, Ret, Halt, Need, Tick, Do, Job, Eval, Target, Exec, Pass, Call, RunNative, Hear, Out, End, Stopped, OutOfFuel, and_then}
use Rattle.widget_meaning.specs.Costs.{give}
use Rattle.widget_meaning.specs.Items.{timer_plan}
use Rattle.widget_meaning.specs.Meaning.{body, run_plan}
use Rattle.widget_meaning.specs.Alone.{lib, call_script, library_plan, go_plan}
use Rattle.meaning_laws.specs.There.{Sizes, Grows, Told, ValuesAre, CompletionIs, JobIs, OfEnd}
use Rattle.meaning_laws.specs.Texts.{IsText, FunHasTexts}
use Rattle.meaning_laws.proofs.Later.{told_later, through, values_later}
use Rattle.meaning_laws.proofs.Values.{undefined_is, host_is, no_values, more_values, no_value, call_job, value_end}
use Rattle.meaning_laws.proofs.Steps.{R, Stands, Keeps, ended, job, value, chain, made}
use Rattle.meaning_laws.proofs.Forms.{expression_r, target_r, statement_r, pass_r, invoke_r, heard_r, put_r, function_is, own_is}
use Rattle.meaning_laws.proofs.Page.{run_native_r}

module _ (m : Sizes) where
  pub body_r : (j : Job) (s : State) → R m s → JobIs m j → Keeps m (body j s)
  body_r (Eval (tree.ExprAt at names form) p) s h q = expression_r m form p s h q.holds
  body_r (Target (tree.ExprAt at names form) p) s h q = target_r m form p s h q.holds
  body_r (Exec (tree.StmtAt at names form) p) s h q = statement_r m form p s h q.holds
  body_r (Pass l p) s h q = pass_r m l p s h q.holds
  body_r (Call f this vs d) s h q = invoke_r m f this vs d s h q.holds.func q.holds.receiver q.holds.arguments
  body_r (RunNative w this vs d) s h q = run_native_r m w this vs d s h q.holds.receiver q.holds.arguments
  body_r (Hear x) s h q = heard_r m x s h q.holds

  pub call_script_r : (f : Fun) (vs : List Value) (s : State) (k : Completion → State → Plan) → R m s → Told m (FunHasTexts f) → ValuesAre m vs
      → ((n : Sizes) → Grows m n → (o : Completion) (t : State) → R n t → CompletionIs n o → Keeps n (k o t)) → Keeps m (call_script f vs s k)
  call_script_r f vs s k h hf q g = made m (new_function f None) 0 s (λ v t. Do (Call v None vs 0) t k) h (function_is m f None hf) tt (record { room = omega arith; len = tt; count = tt })
      (λ n e v t u w. job n _ t k u (call_job n v None vs 0 w (no_value n) (values_later m n vs e q)) (λ l i o y z r. g l (through m n l e i) o y z r))

  pub library_plan_r : (x : List ℕ) (f : Fun) (s : State) → R m s → Told m (IsText x) → Told m (FunHasTexts f) → Keeps m (library_plan x f s)
  library_plan_r x f s h hx hf = call_script_r f (lib ∷ []) s _ h hf (more_values m lib [] h.there.lib (no_values m))
      (λ n g o t u q. value n o t _ u q (λ v w. put_r n lib x v t (give Undefined) u (told_later m n _ g hx) w (λ y z. ended n (Is Undefined) y z (value_end n Undefined (undefined_is n)))))

  pub go_plan_r : (f : Fun) (s : State) → R m s → Told m (FunHasTexts f) → Keeps m (go_plan f s)
  go_plan_r f s h hf = call_script_r f (Host host.Dom ∷ lib ∷ []) s Ret h hf (more_values m _ _ (host_is m host.Dom) (more_values m lib [] h.there.lib (no_values m)))
      (λ n g o t u q. ended n o t u q)

  pub timer_plan_r : (t : Timer) (s : State) → R m s → t.func < m.objects → Keeps m (timer_plan t s)
  timer_plan_r t s h l = job m _ s Ret h (call_job m (Own t.func) None [] 0 (own_is m t.func l) (no_value m) (no_values m)) (λ n g o y u q. ended n o y u q)

-- how a plan ends, and in which state
pub record Comes (m : Sizes) (r : Out) : Type 0 where
  pub size : Sizes
  pub grows : Grows m size
  pub fine : R size r.state
  pub end : OfEnd size r.how

either_comes : (m : Sizes) (b : Bool) (r q : Out) → Comes m r → Comes m q → Comes m (if b then r else q)
either_comes m true r q h k = h
either_comes m false r q h k = k

comes : (m : Sizes) (e : End) (s : State) (g : ℕ) → ((n : Sizes) → OfEnd n e) → Stands m s → Comes m (record { how = e; state = s; left = g })
comes m e s g f h = record { size = h.size; grows = h.grows; fine = h.fine; end = f h.size }

lower : (m n : Sizes) (r : Out) → Grows m n → Comes n r → Comes m r
lower m n r g h = record { size = h.size; grows = through m n h.size g h.grows; fine = h.fine; end = h.end }

pub run_keeps : (m : Sizes) (g : ℕ) (p : Plan) → Keeps m p → Comes m (run_plan g p)
unfolding Keeps
run_keeps m g (Ret o s) h = record { size = h.size; grows = h.grows; fine = h.fine; end = h.end }
run_keeps m g (Halt c s) h = comes m (Stopped c) s g (λ n. tt) h
run_keeps m g (Need c s p) h = either_comes m (nat_lt g c) (record { how = OutOfFuel; state = s; left = g }) (run_plan g p) (comes m OutOfFuel s g (λ n. tt) h.0) (run_keeps m g p h.1)
run_keeps m zero (Tick s p) h = comes m OutOfFuel s zero (λ n. tt) h.0
run_keeps m (suc f) (Tick s p) h = run_keeps m f p h.1
run_keeps m zero (Do j s k) h = comes m OutOfFuel s zero (λ n. tt) (record { size = h.0; grows = h.1.0; fine = h.1.1.0 })
run_keeps m (suc f) (Do j s k) h =
    lower m h.0 _ h.1.0 (run_keeps h.0 f (and_then (body j s) k) (chain h.0 (body j s) k (body_r h.0 j s h.1.1.0 h.1.1.1.0) h.1.1.1.1))
