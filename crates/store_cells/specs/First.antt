-- The scope of a call as it is made.
use Rattle.std.specs.Prelude.{ℕ, List, [], ◌++◌, Option, None, Some, map, option_to_list, slice_get, unwrap_or}
use Rattle.js_tree.specs.declared.nodes.ScopeName.{ScopeName}
use Rattle.store_cells.specs.declared.value.Value.{Value}
use Rattle.store_cells.specs.declared.value.Value.TheVariants as value
use Rattle.store_cells.specs.declared.first.FirstNames.{FirstNames}

-- the argument at a place, undefined where there is none
abbrev pub first_value : Option ℕ → List Value → Value
first_value None vs = value.Undefined
first_value (Some k) vs = unwrap_or (slice_get vs k) value.Undefined

-- names with the arguments at their places
abbrev pub placed_values : List ScopeName → List Value → List (List ℕ × Value)
placed_values names vs = map (λ (n : ScopeName). (n.text, first_value n.argument vs)) names

-- a function under its own name
abbrev pub own_value : Option (List ℕ) → Value → List (List ℕ × Value)
own_value own f = map (λ x. (x, f)) (option_to_list own)

-- the names of the scope of a call with their first values, the function's own last
abbrev pub first_values : FirstNames → List (List ℕ × Value)
first_values first = placed_values first.names.now.items first.args.now ++ own_value first.own.now first.func.now
