-- How plans end: what plans keep where nothing is asked of states, and some steps of which plans are made.
use Rattle.std.proofs.Common.{ℕ, length}
use Rattle.widget_meaning.specs.Values.{StopCause, Value, Completion, Normal, Is, Refers, Return, Break, Continue, Throw, Fault}
use Rattle.widget_meaning.specs.OwnState.{State}
use Rattle.widget_meaning.specs.Plan.{Job, Plan, Ret, Halt, Need, Tick, Do, and_then, on_value, Eval, Target, Exec, Pass, Call, RunNative, Hear}
use Rattle.widget_meaning.specs.Costs.{throw}
use Rattle.widget_meaning.specs.Keeps.{Invariant, HoldsOf, JobOf, Keeps}
use Rattle.widget_meaning.proofs.Keeping.{none, no_links, no_pages, faulted as fault_kept}
use Rattle.plan_ends.specs.Ends.{Way, ByValue, ByReference, Anyhow, Ends, way_of, Yields}

pub passed : (way : Way) (o : Completion) (s : State) → Ends way o → Yields way (Ret o s)
unfolding Yields
passed way o s h = h

pub gave : (way : Way) (v : Value) (s : State) → Yields way (Ret (Is v) s)
unfolding Yields
gave ByValue v s = tt
gave ByReference v s = tt
gave Anyhow v s = tt

pub threw : (way : Way) (v : Value) (s : State) → Yields way (Ret (Throw v) s)
unfolding Yields
threw ByValue v s = tt
threw ByReference v s = tt
threw Anyhow v s = tt

pub halted : (way : Way) (c : StopCause) (s : State) → Yields way (Halt c s)
unfolding Yields
halted way c s = tt

pub job : (way : Way) (j : Job) (s : State) (k : Completion → State → Plan) → ((o : Completion) (t : State) → Ends (way_of j) o → Yields way (k o t)) → Yields way (Do j s k)
unfolding Yields
job way j s k f = f

-- nothing is asked of a state
abbrev pub nothing : Invariant
nothing = record {
  Holds = λ c ts clock. Unit {0};
  paid = λ c cost ts clock h f. tt;
  started = λ c ts clock t h l d. tt;
  links = no_links;
  pages = no_pages;
}

pub any_state : (n : ℕ) (s : State) → HoldsOf nothing n s
any_state n s = record { holds = tt; linked = tt; page = tt; wide = none (length s.own.scopes) }

pub any_job : (n : ℕ) (j : Job) → JobOf nothing n j
any_job n (Eval e p) = tt
any_job n (Target e p) = tt
any_job n (Exec i p) = tt
any_job n (Pass l p) = tt
any_job n (Call f this vs d) = tt
any_job n (RunNative f this vs d) = tt
any_job n (Hear h) = tt

-- both are the same
pub yields : (way : Way) (p : Plan) → Keeps nothing 0 way p → Yields way p
unfolding Keeps Yields
yields way (Ret o s) h = h.1
yields way (Halt c s) h = tt
yields way (Need c s p) h = yields way p h.1
yields way (Tick s p) h = yields way p h.1
yields way (Do j s k) h = λ o t e. yields way (k o t) (h.1.1 o t (any_state (length s.own.scopes) t) e)

pub keeps : (way : Way) (p : Plan) → Yields way p → Keeps nothing 0 way p
unfolding Keeps Yields
keeps way (Ret o s) h = (any_state 0 s, h)
keeps way (Halt c s) h = any_state 0 s
keeps way (Need c s p) h = (any_state 0 s, keeps way p h)
keeps way (Tick s p) h = (any_state 0 s, keeps way p h)
keeps way (Do j s k) h = (any_state 0 s, (any_job (length s.own.scopes) j, λ o t u e. keeps way (k o t) (h o t e)))

pub faulted : (way : Way) (e : Fault) (s : State) → Yields way (throw e s)
faulted way e s = yields way (throw e s) (fault_kept nothing 0 way e s (any_state 0 s))

pub value : (way : Way) (o : Completion) (s : State) (k : Value → Plan) → Ends ByValue o → ((v : Value) → Yields way (k v)) → Yields way (on_value o s k)
value way (Is v) s k h f = f v
value way (Throw v) s k h f = threw way v s
value way Normal s k h f = absurd h
value way (Refers r) s k h f = absurd h
value way (Return v) s k h f = absurd h
value way Break s k h f = absurd h
value way Continue s k h f = absurd h

-- one plan, and then another
pub joined : (first way : Way) (p : Plan) (k : Completion → State → Plan) → Yields first p → ((o : Completion) (t : State) → Ends first o → Yields way (k o t)) → Yields way (and_then p k)
unfolding Yields
joined first way (Ret o s) k h f = f o s h
joined first way (Halt c s) k h f = tt
joined first way (Need c s p) k h f = joined first way p k h f
joined first way (Tick s p) k h f = joined first way p k h f
joined first way (Do j s m) k h f = λ o t e. joined first way (m o t) k (h o t e) f

pub chain : (way : Way) (p : Plan) (k : Completion → State → Plan) → Yields ByValue p → ((o : Completion) (t : State) → Ends ByValue o → Yields way (k o t)) → Yields way (and_then p k)
chain way p k h f = joined ByValue way p k h f
