-- The names of the scope of a call, as they are kept for a function.
use Rattle.std.specs.Prelude.{◌≡◌, ℕ, suc, List, [], ◌∷◌, Bool, Option, Some, None, if◌then◌else◌, map, option_map, option_to_list}
use Rattle.std.specs.Option.{option_or}
use Rattle.std.specs.Str.{bytes_eq}
use Rattle.js_tree.specs.Plain as tree
use Rattle.js_tree.specs.Plain.{Fun}
use Rattle.widget_meaning.specs.Values.{Value, Undefined, nth}
use Rattle.widget_meaning.specs.OwnState.{Pairs}
use Rattle.widget_meaning.specs.Properties.{is_listed}
use Rattle.widget_meaning.specs.Scopes.{distinct, other_names}
use Rattle.js_names.specs.declared.names.FunNames.{FunNames}
use Rattle.js_tree.specs.declared.nodes.ScopeName.{ScopeName}

-- the parameters of a function
abbrev pub params_of : Fun → List (List ℕ)
params_of (tree.FunAt at names name params body funs) = params

-- a function's own name
abbrev pub name_of : Fun → Option (List ℕ)
name_of (tree.FunAt at names name params body funs) = name

-- the place of the last parameter with a name
abbrev pub last_place : List (List ℕ) → List ℕ → Option ℕ
last_place [] x = None
last_place (p ∷ ps) x = option_or (option_map suc (last_place ps x)) (if bytes_eq p x then Some 0 else None)

-- a name that is none of these
abbrev pub unlisted : List (List ℕ) → Option (List ℕ) → Option (List ℕ)
unlisted xs None = None
unlisted xs (Some x) = if is_listed xs x then None else Some x

-- a name alone, where it is new
abbrev pub if_new : Bool → List ℕ → List (List ℕ)
if_new is_new x = if is_new then x ∷ [] else []

-- each name has the place that a table of places gives
abbrev pub ArePlaced : (List ℕ → Option ℕ) → List ScopeName → Type 0
ArePlaced place ns = map (λ (n : ScopeName). n.argument) ns ≡ map (λ (n : ScopeName). place n.text) ns

-- The names are those of the scope of a call: each but the function's own once, with the place of its argument; and the function's own, where it is none of them.
pub record AreNames (g : Fun) (n : FunNames) : Type 0 where
  pub names : map (λ x. x.text) n.names.items ≡ distinct [] (other_names g)
  pub places : ArePlaced (last_place (params_of g)) n.names.items
  pub own : n.own ≡ unlisted (other_names g) (name_of g)

-- ## Their first values

-- the argument at a place, undefined where there is none
abbrev pub argument_at : Option ℕ → List Value → Value
argument_at None vs = Undefined
argument_at (Some k) vs = nth k vs

-- the names with their arguments
abbrev pub first_pairs : List ScopeName → List Value → Pairs
first_pairs ns vs = map (λ (n : ScopeName). (n.text, argument_at n.argument vs)) ns

-- the function under its own name
abbrev pub own_pairs : Option (List ℕ) → Value → Pairs
own_pairs own f = map (λ x. (x, f)) (option_to_list own)
