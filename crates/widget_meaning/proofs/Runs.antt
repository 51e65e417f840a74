-- Plans are carried out one after the other, and fuel falls.
use Rattle.std.proofs.Common.{◌≡◌, ℕ, zero, suc, Bool, true, false, refl, sym, ap, ◌∙◌}
use Rattle.std.specs.Prelude.{nat_lt, if◌then◌else◌}
use Rattle.widget_meaning.specs.Values.{Completion}
use Rattle.widget_meaning.specs.OwnState.{State}
use Rattle.widget_meaning.specs.Plan.{Plan, Ret, Halt, Need, Tick, Do, Job, and_then, Out, OutOfFuel}
use Rattle.widget_meaning.specs.Meaning.{body, run_plan, meaning}
use Rattle.widget_meaning.specs.Compositional.{go_on, then_do}

pub and_then_ret : (p : Plan) → and_then p Ret ≡ p
and_then_ret (Ret o s) = refl
and_then_ret (Halt c s) = refl
and_then_ret (Need c s p) = ap (Need c s) (and_then_ret p)
and_then_ret (Tick s p) = ap (Tick s) (and_then_ret p)
and_then_ret (Do j s k) = λ i. Do j s (λ o t. and_then_ret (k o t) i)

pub and_then_assoc : (p : Plan) (f g : Completion → State → Plan) → and_then (and_then p f) g ≡ and_then p (λ o s. and_then (f o s) g)
and_then_assoc (Ret o s) f g = refl
and_then_assoc (Halt c s) f g = refl
and_then_assoc (Need c s p) f g = ap (Need c s) (and_then_assoc p f g)
and_then_assoc (Tick s p) f g = ap (Tick s) (and_then_assoc p f g)
and_then_assoc (Do j s k) f g = λ i. Do j s (λ o t. and_then_assoc (k o t) f g i)

need : (b : Bool) (r : Out) (k : Completion → State → Plan) (x y : Out) → r.how ≡ OutOfFuel → y ≡ then_do x k → (if b then r else y) ≡ then_do (if b then r else x) k
need true r k x y e h = sym (ap (go_on r k) e)
need false r k x y e h = h

pub run_and_then : (g : ℕ) (p : Plan) (k : Completion → State → Plan) → run_plan g (and_then p k) ≡ then_do (run_plan g p) k
run_and_then g (Ret o s) k = refl
run_and_then g (Halt c s) k = refl
run_and_then g (Need c s p) k = need (nat_lt g c) (record { how = OutOfFuel; state = s; left = g }) k (run_plan g p) (run_plan g (and_then p k)) refl (run_and_then g p k)
run_and_then zero (Tick s p) k = refl
run_and_then (suc f) (Tick s p) k = run_and_then f p k
run_and_then zero (Do j s m) k = refl
run_and_then (suc f) (Do j s m) k = ap (run_plan f) (sym (and_then_assoc (body j s) m k)) ∙ run_and_then f (and_then (body j s) m) k

-- a job, and what comes after it
pub part : (g : ℕ) (j : Job) (s : State) (k : Completion → State → Plan) → run_plan g (Do j s k) ≡ then_do (meaning j s g) k
part g j s k = run_and_then g (Do j s Ret) k

-- a job after its unit
pub unit : (g : ℕ) (j : Job) (s : State) (p : Plan) → body j s ≡ p → meaning j s (suc g) ≡ run_plan g p
unit g j s p e = ap (run_plan g) (and_then_ret (body j s) ∙ e)

-- a form that begins with a job
pub first : (g : ℕ) (j i : Job) (s : State) (k : Completion → State → Plan) → body j s ≡ Do i s k → meaning j s (suc g) ≡ then_do (meaning i s g) k
first g j i s k e = unit g j s (Do i s k) e ∙ part g i s k

-- a form that is a plan and what comes after it
pub then_part : (g : ℕ) (j : Job) (s : State) (p : Plan) (k : Completion → State → Plan) → body j s ≡ and_then p k → meaning j s (suc g) ≡ then_do (run_plan g p) k
then_part g j s p k e = unit g j s (and_then p k) e ∙ run_and_then g p k
