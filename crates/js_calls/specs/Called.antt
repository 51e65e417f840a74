-- What a call is to the meaning, and the names of its scope.
use Rattle.std.specs.Prelude.{◌≡◌, ℕ, List, [], ◌++◌, Bool, true, Option, None, drop, length, if◌then◌else◌, is_some}
use Rattle.std.specs.List.{AllByRecursion}
use Rattle.std.specs.Option.{option_map}
use Rattle.js_tree.specs.declared.nodes.FunId.{FunId}
use Rattle.js_tree.specs.Plain.{Fun}
use Rattle.js_tree.specs.Forest.{Forest, expr_at, fun_at}
use Rattle.store_cells.specs.declared.value.Value.TheVariants as value
use Rattle.store_cells.specs.declared.kind.FunParts.{FunParts}
use Rattle.store_cells.specs.Cells.{Cells, PlainCell}
use Rattle.object_store.specs.Owned.{scope_number}
use Rattle.widget_meaning.specs.OwnState.{Scope, State, lookup, scope_at}
use Rattle.widget_meaning.specs.Plan.{Plan, Halt}
use Rattle.widget_meaning.specs.Costs.{give, throw}
use Rattle.widget_meaning.specs.Scopes.{call_scope, without_name}
use Rattle.widget_meaning.specs.Calls.{call_body, invoke}
use Rattle.widget_meaning.specs.Expressions.{arguments_then}
use Rattle.widget_meaning.specs.ListNatives.{call_each}
use Rattle.widget_meaning.specs.BunchWrites.{each_called}
use Rattle.js_image.specs.Image.{all_seen, image, no_rest, seen}
use Rattle.js_image.specs.declared.outcome.Paid.{Paid}
use Rattle.js_image.specs.declared.outcome.Paid.TheVariants as paid
use Rattle.js_image.specs.Plans.{meant_cause, meant_fault}
use Rattle.js_names.specs.declared.names.FunNames.{FunNames}
use Rattle.js_names.specs.Names.{first_pairs, own_pairs}
use Rattle.js_values.specs.Answers.{called}
use Rattle.js_values.specs.declared.outcome.Keep.{Keep}
use Rattle.js_values.specs.declared.outcome.Keep.TheVariants as keep
use Rattle.js_values.specs.declared.outcome.NativeOut.{NativeOut}
use Rattle.js_values.specs.declared.outcome.NativeOut.TheVariants as native
use Rattle.js_flow.specs.declared.job.Call.{Call}
use Rattle.js_flow.specs.declared.frame.Argument.{Argument}
use Rattle.js_flow.specs.declared.frame.Calling.{Calling}
use Rattle.js_flow.specs.declared.frame.Gathering.{Gathering}
use Rattle.js_flow.specs.declared.frame.Keep.{Keep as KeptBy}
use Rattle.js_flow.specs.declared.frame.Keep.TheVariants as by
use Rattle.js_flow.specs.Calls.{gathered}
use Rattle.js_flow.specs.declared.job.Block.TheVariants as block
use Rattle.js_flow.specs.Fine.{IsBlockAt}
use Rattle.js_flow.specs.Parts.{arguments_of, body_of, forest_at}
use Rattle.js_flow.specs.Views.{place_of, reference_of}
use Rattle.js_calls.specs.declared.declaring.Entry.{Entry}
use Rattle.js_calls.specs.declared.declaring.Entry.TheVariants as entry
use Rattle.js_calls.specs.declared.invoking.Called.{Called}

-- a function of a tree; the name of a declared one is no variable of its own calls
abbrev pub declared_at : Forest → FunId → Bool → Fun
declared_at f id declared = if declared then without_name (fun_at f id) else fun_at f id

module _ (w : ℕ) (cells : List PlainCell) where
  -- a call, after its unit
  abbrev pub invoked : Call → State → Plan
  invoked c s = invoke (seen w cells c.func) (option_map (seen w cells) c.this) (all_seen w cells c.args.items) c.depth s

  -- what a native gives, where the numbers of page nodes are known: its calls are made by a caller at this depth
  abbrev pub given : (ℕ → ℕ) → ℕ → NativeOut → State → Plan
  given node d (native.Value v) s = give (seen w cells v) s
  given node d (native.Throw f) s = throw (meant_fault f) s
  given node d (native.Call p) s = called (seen w cells) node d p s
  given node d (native.Stop c) s = Halt (meant_cause c) s
  -- no native that has its fuel answers this
  given node d native.OutOfFuel s = give (seen w cells value.Undefined) s

-- a call of which so many arguments are there: those that are left, and then the call
abbrev pub arguments_left : List Forest → ℕ → List PlainCell → Argument → State → Plan
arguments_left fs w cells a =
    arguments_then (reference_of w cells a.of) (all_seen w cells a.args.items) (drop a.next (arguments_of (expr_at (forest_at fs a.place.code) a.call))) (place_of w cells a.place)

module _ (w : ℕ) (cells : List PlainCell) where
  -- the calls with the items from a number on
  abbrev pub each_left : Calling → State → Plan
  each_left c s = each_called (seen w cells (value.Ref c.func)) (drop c.next (all_seen w cells c.items.items)) (seen w cells c.last) c.depth s

  -- the calls with the items behind those that have results
  abbrev pub gather_left : Gathering → State → Plan
  gather_left g s =
      call_each (seen w cells (value.Ref g.func)) (drop (length (all_seen w cells g.results.items)) (all_seen w cells g.items.items)) (length (all_seen w cells g.results.items))
      (all_seen w cells g.results.items) g.depth s (gathered g.keep (all_seen w cells g.items.items))

-- what is kept of calls, as frames have it
abbrev pub kept_as : Keep → KeptBy
kept_as keep.Nothing = by.Nothing
kept_as keep.Results = by.Results
kept_as keep.Passing = by.Passing

-- ## The scope of a call

-- the own name of a function that its calls have: a declared one has none
abbrev pub own_called : Bool → Option (List ℕ) → Option (List ℕ)
own_called declared own = if declared then None else own

module _ (w : ℕ) (cells : List PlainCell) where
  -- the scope of a call of a function of a tree
  abbrev pub scope_called : Forest → FunParts → Called → Scope
  scope_called f p c =
      call_scope (declared_at f p.fun p.declared) (option_map (scope_number w cells) p.scope) (seen w cells c.func.now) (all_seen w cells c.args.now)

  -- the same by the names of the function
  abbrev pub named_scope : FunNames → FunParts → Called → Scope
  named_scope n p c = record {
    outer = option_map (scope_number w cells) p.scope;
    pairs = first_pairs n.names.items (all_seen w cells c.args.now) ++ own_pairs (own_called p.declared n.own) (seen w cells c.func.now);
  }

-- a scope of the widget as the meaning has it
abbrev pub scope_in : ℕ → Cells → ℕ → Scope
scope_in w s i = scope_at (image [] no_rest w s) (scope_number w s.cells i)

-- the scope has the name
abbrev pub IsNamed : ℕ → Cells → ℕ → List ℕ → Type 0
IsNamed w s i x = is_some (lookup (scope_in w s i).pairs x) ≡ true

-- the scope has the names
abbrev pub AreNamed : ℕ → Cells → ℕ → List (List ℕ) → Type 0
AreNamed w s i xs = AllByRecursion (IsNamed w s i) xs

-- what is so where it was paid
abbrev pub IfDone : Paid → Type 0 → Type 0
IfDone paid.Done P = P
IfDone (paid.Stop c) P = Unit {0}

-- ## A function that was entered

module _ (fs : List Forest) (w : ℕ) (cells : List PlainCell) (id : FunId) where
  -- its body, or the stop
  abbrev pub entry_plan : Entry → State → Plan
  entry_plan (entry.Body p) s = call_body (body_of (fun_at (forest_at fs p.code) id)) (place_of w cells p) s
  entry_plan (entry.Stop c) s = Halt (meant_cause c) s

  -- it runs at a place of the widget
  abbrev pub FineEntry : Entry → Type 0
  FineEntry (entry.Body p) = IsBlockAt fs w cells (block.Body id) p
  FineEntry (entry.Stop c) = Unit {0}
