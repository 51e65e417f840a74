-- What is still to be done, as a plan: it ends, stops, pays, or asks for a job and goes on by how that ends.
use Rattle.std.specs.Prelude.{ℕ, zero, suc, nat_lt, if◌then◌else◌, List, Option}
use Rattle.js_tree.specs.Plain.{Expr, OptionalExpr, Stmt}
use Rattle.permitted_table.specs.declared.native.NativeId.{NativeId}
use Rattle.widget_meaning.specs.Values.{Value, Reference, Completion, Normal, Is, Refers, Throw, StopCause}
use Rattle.widget_meaning.specs.OwnState.{State}

-- where a form is evaluated: its innermost scope, and the call depth
pub record Place : Type 0 where
  pub scope : Option ℕ
  pub depth : ℕ

-- a loop at its next pass; of `for-in` the object, the variable, the name of this pass and the names after it
pub data Loop : Type 0 where
  WhileLoop : Expr → List Stmt → Loop
  DoLoop : List Stmt → Expr → Loop
  ForLoop : OptionalExpr → List Expr → List Stmt → Loop
  ForInLoop : Value → List ℕ → List ℕ → List (List ℕ) → List Stmt → Loop

-- an event at one node: type, target, the node whose handlers run, value, the event object, and the calls to make
pub record Hearing : Type 0 where
  pub kind : List ℕ
  pub target : ℕ
  pub node : ℕ
  pub value : Value
  pub event : Value
  pub first : ℕ
  pub others : List ℕ
  pub depth : ℕ

-- what costs one unit before it begins
pub data Job : Type 0 where
  -- an expression, a target, a statement, a pass of a loop
  Eval : Expr → Place → Job
  Target : Expr → Place → Job
  Exec : Stmt → Place → Job
  Pass : Loop → Place → Job
  -- a call that the host makes: the function, what it is a method of, the arguments, the depth of the caller
  Call : Value → Option Value → List Value → ℕ → Job
  -- a native with the same
  RunNative : NativeId → Option Value → List Value → ℕ → Job
  -- the first handler of a node, with those after it
  Hear : Hearing → Job

-- Do asks for a job, which costs one unit; Need and Tick make up a charge
pub data Plan : Type 0 where
  Ret : Completion → State → Plan
  Halt : StopCause → State → Plan
  Need : ℕ → State → Plan → Plan
  Tick : State → Plan → Plan
  Do : Job → State → (Completion → State → Plan) → Plan

-- one plan, and then another; a stop passes
abbrev pub and_then : Plan → (Completion → State → Plan) → Plan
and_then (Ret o s) k = k o s
and_then (Halt c s) k = Halt c s
and_then (Need c s p) k = Need c s (and_then p k)
and_then (Tick s p) k = Tick s (and_then p k)
and_then (Do j s m) k = Do j s (λ o t. and_then (m o t) k)

-- this many units, each there
abbrev pub ticks : ℕ → State → Plan → Plan
ticks zero s p = p
ticks (suc c) s p = Tick s (ticks c s p)

-- a charge over what is left stops and is not spent
abbrev pub charge : ℕ → State → Plan → Plan
charge c s p = Need c s (ticks c s p)

-- how a plan ends
pub data End : Type 0 where
  Ended : Completion → End
  Stopped : StopCause → End
  OutOfFuel : End

-- and in which state, with how much fuel left
pub record Out : Type 0 where
  pub how : End
  pub state : State
  pub left : ℕ

-- carries a plan out with this much fuel, where body says what a job is after its unit
module _ (body : Job → State → Plan) where
  -- a plan is carried out: structural on the fuel and the plan, since each job takes a unit
  abbrev pub run : ℕ → Plan → Out
  run f (Ret o s) = record { how = Ended o; state = s; left = f }
  run f (Halt c s) = record { how = Stopped c; state = s; left = f }
  run f (Need c s p) = if nat_lt f c then record { how = OutOfFuel; state = s; left = f } else run f p
  run zero (Tick s p) = record { how = OutOfFuel; state = s; left = zero }
  run (suc f) (Tick s p) = run f p
  run zero (Do j s k) = record { how = OutOfFuel; state = s; left = zero }
  run (suc f) (Do j s k) = run f (and_then (body j s) k)

-- ## What follows a part; any other end of it passes

-- goes on with a value
abbrev pub on_value : Completion → State → (Value → Plan) → Plan
on_value (Is v) s k = k v
on_value o s k = Ret o s

-- the same as what comes after a part
abbrev pub after : (Value → State → Plan) → Completion → State → Plan
after k o s = on_value o s (λ v. k v s)

-- goes on with a reference
abbrev pub on_reference : Completion → State → (Reference → Plan) → Plan
on_reference (Refers r) s k = k r
on_reference o s k = Ret o s

-- goes on after a statement that went on
abbrev pub on_normal : Completion → State → Plan → Plan
on_normal Normal s p = p
on_normal o s p = Ret o s

-- goes on with a thrown value, or else with a plan
abbrev pub on_throw : Completion → Plan → (Value → Plan) → Plan
on_throw (Throw v) p k = k v
on_throw o p k = p
