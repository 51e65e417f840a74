-- What a read gives, as a value of the store.
use Rattle.std.specs.Prelude.{ℕ, Bool, false, List, Option, None, Some, nat_eq, if◌then◌else◌, is_some, length, unwrap_or, ◌||◌}
use Rattle.std.specs.Option.{option_and_then, option_map_or}
use Rattle.store_cells.specs.declared.value.Value.{Value}
use Rattle.store_cells.specs.declared.value.Value.TheVariants as value
use Rattle.store_cells.specs.Cells.{PlainCell, chain, first_own}
use Rattle.store_cells.specs.Arrays.{count_value}
use Rattle.store_cells.specs.Host.{body, boolean_prototype, global, number_prototype, text_prototype}
use Rattle.object_store.specs.Calls.{readable}
use Rattle.widget_meaning.specs.Properties.{is_length}

-- the cell to which a value refers
abbrev pub cell_in : Value → Option ℕ
cell_in (value.Ref i) = Some i
cell_in _ = None

-- whether a value is the cell of `body`
abbrev pub is_body : Value → Bool
is_body (value.Ref i) = nat_eq i body
is_body _ = false

-- a global as a widget sees it: the cell of `body` is hidden, and what is not there is undefined
abbrev pub shown_global : Option Value → Value
shown_global None = value.Undefined
shown_global (Some v) = if is_body v then value.Undefined else v

-- a property of a cell, own or along its prototypes
abbrev pub stored_property : List PlainCell → ℕ → List ℕ → Value
stored_property cells i name = unwrap_or (first_own name (readable cells i)) value.Undefined

-- the cell from which a value is read: for a primitive a prototype of the host
abbrev pub reader : Value → Option ℕ
reader (value.Bool b) = Some boolean_prototype
reader (value.Num n) = Some number_prototype
reader (value.Text t) = Some text_prototype
reader (value.Ref i) = Some i
reader _ = None

-- a property of a value; a text has a `length`
abbrev pub stored_read : List PlainCell → Value → List ℕ → Value
stored_read cells (value.Bool b) name = stored_property cells boolean_prototype name
stored_read cells (value.Num n) name = stored_property cells number_prototype name
stored_read cells (value.Text t) name = if is_length name then count_value (length t) else stored_property cells text_prototype name
stored_read cells (value.Ref i) name = stored_property cells i name
stored_read cells _ name = value.Undefined

-- whether a cell has a property, own or along its prototypes
abbrev pub stored_some : List PlainCell → ℕ → List ℕ → Bool
stored_some cells i name = is_some (first_own name (readable cells i))

-- whether a value has a property; a text has a `length`
abbrev pub stored_found : List PlainCell → Value → List ℕ → Bool
stored_found cells (value.Bool b) name = stored_some cells boolean_prototype name
stored_found cells (value.Num n) name = stored_some cells number_prototype name
stored_found cells (value.Text t) name = is_length name || stored_some cells text_prototype name
stored_found cells (value.Ref i) name = stored_some cells i name
stored_found cells _ name = false

-- a variable of a scope or of those around it
abbrev pub stored_variable : List PlainCell → Option ℕ → List ℕ → Option Value
stored_variable cells scope name = option_and_then (λ i. first_own name (chain cells i)) scope

-- the value of a variable, or else of a listed global
abbrev pub stored_value : List PlainCell → Option ℕ → List ℕ → Value
stored_value cells scope name = option_map_or (λ v. v) (stored_variable cells scope name) (shown_global (first_own name (readable cells global)))
