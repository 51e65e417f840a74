-- What a call of the store gives, as the plan that it carries out.
use Rattle.std.specs.Prelude.{◌≡◌, ℕ, List, [], ◌∷◌, Bool, true, Option, codes, length, map, nat_eq, Some}
use Rattle.std.specs.Option.{option_map}
use Rattle.std.specs.List.{IsDistinct, list_all}
use Rattle.std.specs.Str.{bytes_eq}
use Rattle.code_units.specs.Permitted.{is_permitted}
use Rattle.js_tree.specs.Forest.{Forest}
use Rattle.store_cells.specs.declared.value.Value.{Value as StoreValue}
use Rattle.store_cells.specs.declared.value.Value.TheVariants as value
use Rattle.store_cells.specs.declared.counts.StoreFault.{StoreFault}
use Rattle.store_cells.specs.declared.counts.StoreFault.TheVariants as fault
use Rattle.store_cells.specs.Born.{HaveCells}
use Rattle.store_cells.specs.Cells.{PlainCell}
use Rattle.object_store.specs.declared.store.NewCell.{NewCell}
use Rattle.object_store.specs.declared.store.NewCell.TheVariants as fresh
use Rattle.object_store.specs.Owned.{scope_number}
use Rattle.object_store.specs.Calls.{IsPrototype}
use Rattle.widget_meaning.specs.Values as meaning
use Rattle.widget_meaning.specs.Values.{Value}
use Rattle.widget_meaning.specs.OwnState.{Cell, Scope, State, new_array, new_bunch, new_function, new_object, plain_object, array_length, cell_at, kind_of, with_cell}
use Rattle.widget_meaning.specs.Plan.{Plan, Halt}
use Rattle.widget_meaning.specs.Costs.{fault_message, fault_name, throw}
use Rattle.widget_meaning.specs.NativeForms.{numbered_pairs}
use Rattle.widget_meaning.specs.ListChanges.{pushed}
use Rattle.js_image.specs.declared.outcome.StopCause.{StopCause}
use Rattle.js_image.specs.declared.outcome.StopCause.TheVariants as cause
use Rattle.js_image.specs.declared.outcome.Fault.{Fault}
use Rattle.js_image.specs.declared.outcome.Fault.TheVariants as e
use Rattle.js_image.specs.declared.outcome.Made.{Made}
use Rattle.js_image.specs.declared.outcome.Made.TheVariants as made
use Rattle.js_image.specs.declared.outcome.Paid.{Paid}
use Rattle.js_image.specs.declared.outcome.Paid.TheVariants as paid
use Rattle.js_image.specs.declared.outcome.Written.{Written}
use Rattle.js_image.specs.declared.outcome.Written.TheVariants as written
use Rattle.js_image.specs.declared.outcome.Removed.{Removed}
use Rattle.js_image.specs.declared.outcome.Removed.TheVariants as removed
use Rattle.js_image.specs.Image.{all_seen, function_in, node_number, seen, seen_pairs}
use Rattle.js_image.specs.Held.{AreFine, ArePairs, IsFunOf, IsHeld, IsOwnScope, IsPlaceScope}

-- why a widget stops
abbrev pub meant_cause : StopCause → meaning.StopCause
meant_cause cause.Number = meaning.Number
meant_cause cause.Depth = meaning.Depth
meant_cause cause.Cells = meaning.Cells
meant_cause cause.Slots = meaning.Slots
meant_cause cause.Units = meaning.Units
meant_cause cause.LongText = meaning.LongText
meant_cause cause.Nodes = meaning.Nodes

-- a fault
abbrev pub meant_fault : Fault → meaning.Fault
meant_fault e.E1 = meaning.E1
meant_fault e.E2 = meaning.E2
meant_fault e.E3 = meaning.E3
meant_fault e.E4 = meaning.E4
meant_fault e.E5 = meaning.E5
meant_fault e.E6 = meaning.E6
meant_fault e.E7 = meaning.E7
meant_fault e.E8 = meaning.E8
meant_fault e.E9 = meaning.E9
meant_fault e.E10 = meaning.E10
meant_fault e.E11 = meaning.E11
meant_fault e.E12 = meaning.E12

-- the cause of a refused cost
abbrev pub IsStopOf : StoreFault → StopCause → Type 0
IsStopOf (fault.Cells k) c = c ≡ cause.Cells
IsStopOf (fault.Slots k) c = c ≡ cause.Slots
IsStopOf (fault.Units k) c = c ≡ cause.Units
IsStopOf _ c = ⊥

-- what a refused write gives
abbrev pub IsRefusalOf : StoreFault → Written → Type 0
IsRefusalOf fault.Closed p = p ≡ written.Throw e.E5
IsRefusalOf fault.BadLength p = p ≡ written.Throw e.E7
IsRefusalOf (fault.Cells k) p = p ≡ written.Stop cause.Cells
IsRefusalOf (fault.Slots k) p = p ≡ written.Stop cause.Slots
IsRefusalOf (fault.Units k) p = p ≡ written.Stop cause.Units
IsRefusalOf fault.Memory p = ⊥

-- what is done once a cost is paid, or else the stop
abbrev pub paid_plan : Paid → (State → Plan) → State → Plan
paid_plan paid.Done k s = k s
paid_plan (paid.Stop c) k s = Halt (meant_cause c) s

-- what is done after a write, or what is thrown, or the stop
abbrev pub put_plan : Written → (State → Plan) → State → Plan
put_plan written.Done k s = k s
put_plan (written.Throw f) k s = throw (meant_fault f) s
put_plan (written.Stop c) k s = Halt (meant_cause c) s

-- what is done after a name was taken out, or what is thrown
abbrev pub removed_plan : Removed → (Bool → State → Plan) → State → Plan
removed_plan (removed.Done b) k s = k b s
removed_plan (removed.Throw f) k s = throw (meant_fault f) s

-- an element was put behind the last of an Array of the widget, which has this number and this length
abbrev pub PushedAt : ℕ → ℕ → Value → Value → State → State → Type 0
PushedAt n len this v s t =
    array_length (kind_of s this) ≡ Some len → t ≡ with_cell s n (pushed (cell_at s n) len (v ∷ []))

module _ (w : ℕ) (cells : List PlainCell) where
  -- what is done with the cell that was made, or else the stop
  abbrev pub made_plan : Made → (Value → State → Plan) → State → Plan
  made_plan (made.Cell i) k s = k (seen w cells (value.Ref i)) s
  made_plan (made.Stop c) k s = Halt (meant_cause c) s

  -- what was made is a cell of the widget
  abbrev pub IsFineMade : Made → Type 0
  IsFineMade (made.Cell i) = IsHeld w cells i
  IsFineMade (made.Stop c) = Unit {0}

  -- what is done with the scope that was made, or else the stop
  abbrev pub scope_plan : Made → (ℕ → State → Plan) → State → Plan
  scope_plan (made.Cell i) k s = k (scope_number w cells i) s
  scope_plan (made.Stop c) k s = Halt (meant_cause c) s

  -- what was made is a scope of the widget
  abbrev pub IsScopeMade : Made → Type 0
  IsScopeMade (made.Cell i) = IsOwnScope w cells i
  IsScopeMade (made.Stop c) = Unit {0}

  -- a scope with its names and their first values
  abbrev pub scope_of : Option ℕ → List (List ℕ × StoreValue) → Scope
  scope_of outer ps = record { outer = option_map (scope_number w cells) outer; pairs = seen_pairs w cells ps }

  -- a new cell as the meaning has it
  abbrev pub meant_new : List Forest → List ℕ → NewCell → Cell
  meant_new fs nodes (fresh.Object proto) = new_object (seen w cells (value.Ref proto)) []
  meant_new fs nodes fresh.Array = new_array 0 []
  meant_new fs nodes (fresh.Function code fun declared scope) = new_function (function_in fs code fun declared) (option_map (scope_number w cells) scope)
  meant_new fs nodes (fresh.Bunch ns) = new_bunch (map (node_number nodes) ns.items)
  meant_new fs nodes (fresh.ObjectWith proto pairs) = new_object (seen w cells (value.Ref proto)) (seen_pairs w cells pairs.items)
  meant_new fs nodes (fresh.ArrayWith values) = new_array (length values.items) (numbered_pairs 0 (all_seen w cells values.items))
  meant_new fs nodes _ = plain_object []

  -- What a widget may make is of what it may hold: a prototype may be one, names differ, and so do nodes, which have cells.
  abbrev pub IsNew : NewCell → Type 0
  IsNew (fresh.Object proto) = IsHeld w cells proto × IsPrototype cells proto
  IsNew fresh.Array = Unit {0}
  IsNew (fresh.Function code fun declared scope) = IsPlaceScope w cells scope
  IsNew (fresh.Scope outer names) = ⊥
  IsNew (fresh.Bunch nodes) = IsDistinct nat_eq nodes.items × HaveCells cells nodes.items
  IsNew (fresh.ObjectWith proto pairs) = IsHeld w cells proto × IsPrototype cells proto × IsDistinct bytes_eq (map (λ p. p.0) pairs.items) × ArePairs w cells pairs.items
  IsNew (fresh.ArrayWith values) = AreFine w cells values.items
  IsNew (fresh.ScopeWith outer pairs) = ⊥

-- whether a script may use the names with which a new cell begins
abbrev pub begins_permitted : NewCell → Bool
begins_permitted (fresh.ObjectWith proto pairs) = list_all (λ p. is_permitted p.0) pairs.items
begins_permitted _ = true

-- a new cell after which all is kept: no Bunch, whose nodes are not the store's to judge, and a function of one of the trees
abbrev pub IsNewOf : List Forest → NewCell → Type 0
IsNewOf fs (fresh.Function code fun declared scope) = IsFunOf fs (record { code = code; fun = fun; declared = declared; scope = scope })
IsNewOf fs (fresh.Bunch nodes) = ⊥
IsNewOf fs _ = Unit {0}

-- the pairs of the object of a fault, as values of the store
abbrev pub fault_values : meaning.Fault → List (List ℕ × StoreValue)
fault_values e = (codes "name", value.Text (fault_name e)) ∷ (codes "message", value.Text (fault_message e)) ∷ []
