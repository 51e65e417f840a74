-- How a plan goes on by paying for its jobs, its charges and its natives.
use Rattle.std.specs.Prelude.{◌≡◌, ◌⊎◌, ℕ, zero, suc, List, Option}
use Rattle.permitted_table.specs.declared.native.NativeId.{NativeId}
use Rattle.widget_meaning.specs.Values.{Completion, Value}
use Rattle.widget_meaning.specs.OwnState.{State}
use Rattle.widget_meaning.specs.Plan.{Plan, Job, Do, RunNative, and_then, charge}
use Rattle.widget_meaning.specs.Meaning.{body}
use Rattle.widget_meaning.specs.Natives.{run_native}
use Rattle.plan_ends.specs.Ends.{ByValue, Yields}
use Rattle.js_values.specs.Answers.{Goes}

-- a plan asks for a job, and this holds of what is to be done once that has begun
pub record Begins (p : Plan) (P : Plan → Type 0) : Type 0 where
  pub job : Job
  pub state : State
  pub after : Completion → State → Plan
  pub is : p ≡ Do job state after
  pub goes : P (and_then (body job state) after)

-- a plan asks for a charge, and this holds of the units that are owed once one is paid, and of what is to be done then
pub record Charges (p : Plan) (P : ℕ → Plan → Type 0) : Type 0 where
  pub owed : ℕ
  pub state : State
  pub rest : Plan
  pub is : p ≡ charge (suc owed) state rest
  pub goes : P owed rest

-- a plan asks for a native, which takes so many units beyond its own and ends by a value or a throw, and this holds of the units that are owed once its own is paid, and of what is to be done then
pub record Runs (p : Plan) (P : ℕ → Plan → Type 0) : Type 0 where
  pub which : NativeId
  pub this : Option Value
  pub args : List Value
  pub depth : ℕ
  pub state : State
  pub after : Completion → State → Plan
  pub is : p ≡ Do (RunNative which this args depth) state after
  pub owed : ℕ
  pub rest : Plan
  pub takes : Goes (run_native which this args depth state) state owed rest
  pub ends : Yields ByValue rest
  pub goes : P owed (and_then rest after)

-- while some units are owed, so many units are paid, and this is then to be done
abbrev pub Pays : ℕ → ℕ → Plan → Plan → Type 0
Pays zero zero p q = p ≡ q
Pays zero (suc c) p q = Begins p (λ t. Pays zero c t q) ⊎ Charges p (λ n t. Pays n c t q) ⊎ Runs p (λ n t. Pays n c t q)
Pays (suc n) zero p q = ⊥
Pays (suc n) (suc c) p q = Pays n c p q

-- so many units are paid, one for each job that begins and those of each charge and each native, and this is then to be done
abbrev pub Reduces : ℕ → Plan → Plan → Type 0
Reduces c p q = Pays zero c p q
