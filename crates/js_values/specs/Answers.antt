-- When what a native answers, and the calls that it asks for, are what the meaning gives.
use Rattle.std.specs.Prelude.{◌≡◌, ℕ, ◌+◌, ◌<◌, List, [], map}
use Rattle.store_cells.specs.declared.value.Value.{Value as StoreValue}
use Rattle.store_cells.specs.declared.value.Value.TheVariants as value
use Rattle.store_cells.specs.Cells.{PlainCell}
use Rattle.widget_meaning.specs.Values.{Value, Undefined}
use Rattle.widget_meaning.specs.OwnState.{State}
use Rattle.widget_meaning.specs.Plan as meaning
use Rattle.widget_meaning.specs.Plan.{Plan, Job, Halt, Out, and_then, after, run}
use Rattle.widget_meaning.specs.Costs.{give, throw}
use Rattle.widget_meaning.specs.Calls.{to_primitive}
use Rattle.widget_meaning.specs.NativeForms.{make_array}
use Rattle.widget_meaning.specs.GlobalNatives.{text_of_primitive}
use Rattle.widget_meaning.specs.ListNatives.{call_each, kept}
use Rattle.widget_meaning.specs.BunchWrites.{each_called, fired}
use Rattle.js_image.specs.Held.{AreFine, IsFine, IsHeld}
use Rattle.js_image.specs.Plans.{meant_cause, meant_fault}
use Rattle.js_values.specs.declared.outcome.Keep.{Keep}
use Rattle.js_values.specs.declared.outcome.Keep.TheVariants as keep
use Rattle.js_values.specs.declared.outcome.Plan.{Plan as Calls}
use Rattle.js_values.specs.declared.outcome.Plan.TheVariants as calls
use Rattle.js_values.specs.declared.outcome.NativeOut.{NativeOut}
use Rattle.js_values.specs.declared.outcome.NativeOut.TheVariants as native

-- what is done with the results of calls with each item
abbrev pub gathered : Keep → List Value → List Value → State → Plan
gathered keep.Nothing vs ws t = give Undefined t
gathered keep.Results vs ws t = make_array ws 0 t give
gathered keep.Passing vs ws t = make_array (kept vs ws) 0 t give

-- Here see tells what a value of the store is in the meaning, node what a page node is, and d is the depth of the call.
module _ (see : StoreValue → Value) (node : ℕ → ℕ) (d : ℕ) where
  -- the calls that a native asks for, and what is done after them
  abbrev pub called : Calls → State → Plan
  called (calls.ToText i) t = and_then (to_primitive (see (value.Ref i)) d t) (after text_of_primitive)
  called (calls.Each func items last) t = each_called (see (value.Ref func)) (map see items.items) (see last) d t
  called (calls.Fire kind nodes last) t = fired kind (map node nodes.items) (see last) d t
  called (calls.Gather func items how) t =
      call_each (see (value.Ref func)) (map see items.items) 0 [] d t (gathered how (map see items.items))

  -- what is left of a native's plan by its answer, in the state after it
  abbrev pub Leaves : NativeOut → State → Plan → Type 0
  Leaves (native.Value v) t q = q ≡ give (see v) t
  Leaves (native.Throw f) t q = q ≡ throw (meant_fault f) t
  Leaves (native.Call p) t q = q ≡ called p t
  Leaves (native.Stop c) t q = q ≡ Halt (meant_cause c) t
  Leaves native.OutOfFuel t q = ⊥

-- a plan has no fuel left
abbrev pub out_of_fuel : State → ℕ → Out
out_of_fuel s left = record { how = meaning.OutOfFuel; state = s; left = left }

-- A plan takes so much fuel in a state and goes on as another; with less it stops there.
pub record Goes (p : Plan) (s : State) (c : ℕ) (q : Plan) : Type 0 where
  pub on : (body : Job → State → Plan) (g : ℕ) → run body (c + g) p ≡ run body g q
  pub short : (body : Job → State → Plan) (g : ℕ) → g < c → run body g p ≡ out_of_fuel s g

-- A plan has too little fuel in a state.
abbrev pub Lacks : Plan → State → ℕ → Type 0
Lacks p s left = (body : Job → State → Plan) → run body left p ≡ out_of_fuel s left

-- whether a native answers that fuel is wanting
abbrev pub IsOutOfFuel : NativeOut → Type 0
IsOutOfFuel native.OutOfFuel = Unit {0}
IsOutOfFuel o = ⊥

-- What a native answers, with the fuel left before and after it. Where fuel is wanting, the plan has too little of it and nothing was taken. Else the plan took what was taken of the fuel, and goes on as the answer says.
pub record Answers (see : StoreValue → Value) (node : ℕ → ℕ) (d : ℕ) (p : Plan) (s : State) (o : NativeOut) (t : State) (before left : ℕ) : Type 0 where
  pub fuel : IsOutOfFuel o → Lacks p s before × (left ≡ before)
  pub other : (IsOutOfFuel o → ⊥) → (c : ℕ) × (q : Plan) × (before ≡ c + left) × Goes p s c q × Leaves see node d o t q

module _ (w : ℕ) (cells : List PlainCell) where
  -- the calls that a native asks for are of what the widget may hold
  abbrev pub AreFineCalls : Calls → Type 0
  AreFineCalls (calls.ToText i) = IsHeld w cells i
  AreFineCalls (calls.Each func items last) = IsHeld w cells func × AreFine w cells items.items × IsFine w cells last
  AreFineCalls (calls.Fire kind nodes last) = IsFine w cells last
  AreFineCalls (calls.Gather func items how) = IsHeld w cells func × AreFine w cells items.items

  -- so is what it answers
  abbrev pub IsFineOut : NativeOut → Type 0
  IsFineOut (native.Value v) = IsFine w cells v
  IsFineOut (native.Call p) = AreFineCalls p
  IsFineOut _ = Unit {0}

-- calls that ask for no handlers
abbrev pub IsNoFire : Calls → Type 0
IsNoFire (calls.Fire kind nodes last) = ⊥
IsNoFire _ = Unit {0}

-- an answer that is carried out without the page: no handlers are called, and fuel is not wanting
abbrev pub IsCarried : NativeOut → Type 0
IsCarried (native.Call p) = IsNoFire p
IsCarried native.OutOfFuel = ⊥
IsCarried _ = Unit {0}
