-- Each job runs alike, and a plan that is carried out ends alike.
use Rattle.std.proofs.Common.{◌≡◌, ℕ, zero, suc, Bool, true, false, List, [], ◌∷◌, None, refl}
use Rattle.std.specs.Prelude.{nat_lt, if◌then◌else◌}
use Rattle.js_tree.specs.Plain as tree
use Rattle.js_tree.specs.Plain.{Fun}
use Rattle.js_grammar.specs.Unplaced.{unplaced_expr, unplaced_fun}
use Rattle.permitted_table.specs.declared.native.HostEntry.TheVariants as host
use Rattle.widget_meaning.specs.Values.{Own, Host, Is, Undefined}
use Rattle.widget_meaning.specs.OwnState.{State, Timer, new_function}
use Rattle.widget_meaning.specs.Plan.{Plan, Ret, Job, Eval, Target, Exec, Pass, Call, RunNative, Hear, Out, and_then, OutOfFuel}
use Rattle.widget_meaning.specs.Meaning.{body, run_plan}
use Rattle.widget_meaning.specs.Items.{timer_plan}
use Rattle.widget_meaning.specs.Alone.{lib, library_plan, go_plan}
use Rattle.place_laws.proofs.Near.{N}
use Rattle.place_laws.proofs.Alike.{Alike, ends, halts, needs, goes, asks, bare_job, ended, job, value, chain, made}
use Rattle.place_laws.proofs.Forms.{expression_a, target_a, statement_a, pass_a, invoke_a, heard_a, put_a}
use Rattle.place_laws.proofs.Page.{run_native_a}

body_a : (j : Job) (s z : State) → N s z → Alike (body j s) (body (bare_job j) z)
unfolding unplaced_expr
body_a (Eval (tree.ExprAt at names form) p) s z e = expression_a form p s z e
body_a (Target (tree.ExprAt at names form) p) s z e = target_a form p s z e
body_a (Exec (tree.StmtAt at names form) p) s z e = statement_a form p s z e
body_a (Pass l p) s z e = pass_a l p s z e
body_a (Call f this vs d) s z e = invoke_a f this vs d s z e
body_a (RunNative w this vs d) s z e = run_native_a w this vs d s z e
body_a (Hear h) s z e = heard_a h s z e

-- two ends are the same but for the places of functions
pub record SameOut (a b : Out) : Type 0 where
  pub how : b.how ≡ a.how
  pub state : N a.state b.state
  pub left : b.left ≡ a.left

by_test : (b : Bool) (a c a' c' : Out) → SameOut a a' → SameOut c c' → SameOut (if b then a else c) (if b then a' else c')
by_test true a c a' c' h k = h
by_test false a c a' c' h k = k

pub run_a : (g : ℕ) (p q : Plan) → Alike p q → SameOut (run_plan g p) (run_plan g q)
run_a g p q (ends e) = record { how = refl; state = e; left = refl }
run_a g p q (halts e) = record { how = refl; state = e; left = refl }
run_a g p q (needs {n = n} {s = s} {z = z} {p = p1} {q = q1} e h) =
    by_test (nat_lt g n) (record { how = OutOfFuel; state = s; left = g }) (run_plan g p1) (record { how = OutOfFuel; state = z; left = g }) (run_plan g q1)
    (record { how = refl; state = e; left = refl }) (run_a g p1 q1 h)
run_a zero p q (goes e h) = record { how = refl; state = e; left = refl }
run_a (suc g) p q (goes {p = p1} {q = q1} e h) = run_a g p1 q1 h
run_a zero p q (asks e h) = record { how = refl; state = e; left = refl }
run_a (suc g) p q (asks {j = j} {s = s} {z = z} {k = k} {m = m} e h) =
    run_a g (and_then (body j s) k) (and_then (body (bare_job j) z) m) (chain (body j s) (body (bare_job j) z) k m (body_a j s z e) h)

-- the plans of turns
pub timer_a : (t : Timer) (s z : State) → N s z → Alike (timer_plan t s) (timer_plan t z)
timer_a t s z e = job (Call (Own t.func) None [] 0) s z Ret Ret e (λ o v y u. ended o v y u)

pub library_a : (x : List ℕ) (f : Fun) (s z : State) → N s z → Alike (library_plan x f s) (library_plan x (unplaced_fun f) z)
library_a x f s z e = made (new_function f None) 0 s z _ _ e (λ v t y u. job (Call v None (lib ∷ []) 0) t y _ _ u (λ o t' y' u'. value o t' y' _ _ u' (λ w.
    put_a lib x w t' y' _ _ u' (λ a b c. ended (Is Undefined) a b c))))

pub go_a : (f : Fun) (s z : State) → N s z → Alike (go_plan f s) (go_plan (unplaced_fun f) z)
go_a f s z e = made (new_function f None) 0 s z _ _ e (λ v t y u. job (Call v None (Host host.Dom ∷ lib ∷ []) 0) t y Ret Ret u (λ o t' y' u'. ended o t' y' u'))
