-- What a value is when it is called.
use Rattle.std.specs.Prelude.{◌≡◌, ℕ, false, List, Option, None, Some, slice_get}
use Rattle.std.specs.Option.{option_map, option_map_or}
use Rattle.js_tree.specs.Forest.{Forest}
use Rattle.permitted_table.specs.declared.native.NativeId.{NativeId}
use Rattle.permitted_table.specs.declared.native.HostEntry.TheVariants as entry
use Rattle.store_cells.specs.declared.value.Value.{Value}
use Rattle.store_cells.specs.declared.value.Value.TheVariants as value
use Rattle.store_cells.specs.declared.kind.Form.{Form}
use Rattle.store_cells.specs.declared.kind.Form.TheVariants as form
use Rattle.store_cells.specs.declared.kind.FunParts.{FunParts}
use Rattle.store_cells.specs.Cells.{PlainCell}
use Rattle.object_store.specs.Owned.{scope_number}
use Rattle.widget_meaning.specs.Values as meaning
use Rattle.widget_meaning.specs.OwnState as state
use Rattle.widget_meaning.specs.OwnState.{State, kind_of}
use Rattle.widget_meaning.specs.Properties.{is_function}
use Rattle.js_image.specs.declared.outcome.Callee.{Callee}
use Rattle.js_image.specs.declared.outcome.Callee.TheVariants as callee
use Rattle.js_image.specs.Image.{function_in}
use Rattle.js_image.specs.Held.{IsFunOf, IsPlaceScope}

-- what a cell of a form is when it is called
abbrev pub callee_in : Form → Callee
callee_in (form.Function p) = callee.Function p
callee_in (form.Native n) = callee.Native n
callee_in _ = callee.Nothing

-- the same by what it has of a function or a native
abbrev pub callee_by : Option FunParts → Option NativeId → Callee
callee_by (Some p) n = callee.Function p
callee_by None (Some n) = callee.Native n
callee_by None None = callee.Nothing

-- what the cell at a place is when it is called
abbrev pub callee_at : List PlainCell → ℕ → Callee
callee_at cells i = option_map_or (λ c. callee_in c.form) (slice_get cells i) callee.Nothing

-- what a value is when it is called
abbrev pub stored_callee : List PlainCell → Value → Callee
stored_callee cells (value.Ref i) = callee_at cells i
stored_callee cells _ = callee.Nothing

-- what is called, as the meaning has it: a function of the widget with its tree and scope, a native, or nothing that can be called
abbrev pub IsCallee : List Forest → ℕ → List PlainCell → Callee → State → meaning.Value → Type 0
IsCallee fs w cells (callee.Function p) s v =
    kind_of s v ≡ Some (state.Function (function_in fs p.code p.fun p.declared) (option_map (scope_number w cells) p.scope))
IsCallee fs w cells (callee.Native n) s v = v ≡ meaning.Host (entry.Native n)
IsCallee fs w cells callee.Nothing s v = is_function s v ≡ false

-- a function that is called is one of the trees, and its scope is the widget's
abbrev pub IsFineCallee : List Forest → ℕ → List PlainCell → Callee → Type 0
IsFineCallee fs w cells (callee.Function p) = IsFunOf fs p × IsPlaceScope w cells p.scope
IsFineCallee fs w cells _ = Unit {0}
