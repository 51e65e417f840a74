-- What a whole text breaks: A02, which asks for the one call, and the rows in the rest.
use Rattle.std.specs.Prelude.{◌≡◌, ℕ, Bool, true, false, List, [], ◌∷◌, ◌++◌, length, None, ◌&&◌, nat_le, if◌then◌else◌, codes}
use Rattle.std.specs.Str.{bytes_eq}
use Rattle.js_tree.specs.Plain.{Expr, ExprAt, Function, Dot, Call, StmtAt, Only, Stmts, Fun, FunAt, stmt_place}
use Rattle.js_tree.specs.Parts.{Spot, AnExpr, AStmt, AFun, exprs_spots, stmts_spots}
use Rattle.first_breach.specs.Lists.{In}
use Rattle.first_breach.specs.Breaches as breaches
use Rattle.adsafe_rules.specs.declared.scope.Scope.{Scope}
use Rattle.adsafe_rules.specs.declared.scope.Scope.TheVariants as scope
use Rattle.node_rules.specs.Words.{is_library_name}
use Rattle.node_rules.specs.declared.rule_numbers.TheConstants as number
use Rattle.node_rules.specs.Names.{Named, literal}
use Rattle.node_rules.specs.Forms.{is_name, is_string}
use Rattle.adsafe_rules.specs.Rows.{AnyFound}

-- the property of `ADSAFE` that the text calls
abbrev pub opening_word : Scope → List ℕ
opening_word (scope.Id slot) = codes "id"
opening_word scope.Lib = codes "lib"
opening_word (scope.Go slot) = codes "go"

-- the name that the call may hand over
abbrev pub is_opening_name : Scope → List ℕ → Bool
is_opening_name (scope.Id slot) name = bytes_eq name slot
is_opening_name scope.Lib name = is_library_name name
is_opening_name (scope.Go slot) name = bytes_eq name slot

-- a function without a name and with at most n parameters
abbrev pub is_plain_fun : ℕ → Fun → Bool
is_plain_fun n (FunAt at names None params body funs) = nat_le (length params) n
is_plain_fun n _ = false

-- an expression that is one
abbrev pub is_plain_function : ℕ → Expr → Bool
is_plain_function n (ExprAt at names (Function g)) = is_plain_fun n g
is_plain_function n _ = false

-- a string, and for `lib` and `go` a function with at most one or two parameters
abbrev pub are_arguments : Scope → List Spot → Bool
are_arguments (scope.Id slot) (AnExpr a ∷ []) = is_string a
are_arguments scope.Lib (AnExpr a ∷ AnExpr g ∷ []) = is_string a && is_plain_function 1 g
are_arguments (scope.Go slot) (AnExpr a ∷ AnExpr g ∷ []) = is_string a && is_plain_function 2 g
are_arguments scope spots = false

-- a dot of the name `ADSAFE`
abbrev pub is_adsafe_dot : List ℕ → Expr → Bool
is_adsafe_dot word (ExprAt at names (Dot e x)) = is_name (codes "ADSAFE") e && bytes_eq x word
is_adsafe_dot word _ = false

-- the call that the position of the text asks for
abbrev pub is_opening_call : Scope → Expr → Bool
is_opening_call scope (ExprAt at names (Call e args)) = is_adsafe_dot (opening_word scope) e && are_arguments scope (exprs_spots args)
is_opening_call scope _ = false

-- the statement is that call
abbrev pub is_opening : Scope → Spot → Bool
is_opening scope (AStmt (StmtAt at names (Only e))) = is_opening_call scope e
is_opening scope _ = false

-- the arguments of an expression that is a call, and of a statement that is one
abbrev pub call_arguments : Expr → List Spot
call_arguments (ExprAt at names (Call e args)) = exprs_spots args
call_arguments _ = []

abbrev pub arguments_of : Spot → List Spot
arguments_of (AStmt (StmtAt at names (Only e))) = call_arguments e
arguments_of _ = []

-- the string that arguments begin with
abbrev pub first_string : List Spot → List Named
first_string (AnExpr a ∷ rest) = literal a
first_string _ = []

-- the function that an expression is
abbrev pub function_of : Expr → List Spot
function_of (ExprAt at names (Function g)) = AFun g ∷ []
function_of _ = []

-- the function that stands second among arguments
abbrev pub second_function : List Spot → List Spot
second_function (a ∷ AnExpr e ∷ rest) = function_of e
second_function _ = []

-- the name and the function that the call of a statement hands over
abbrev pub opening_names : Spot → List Named
opening_names s = first_string (arguments_of s)

abbrev pub opening_functions : Spot → List Spot
opening_functions s = second_function (arguments_of s)

-- those of the first of some statements
abbrev pub opened_names : List Spot → List Named
opened_names [] = []
opened_names (s ∷ rest) = opening_names s

abbrev pub opened_functions : List Spot → List Spot
opened_functions [] = []
opened_functions (s ∷ rest) = opening_functions s

-- the name that a library declares
abbrev pub lib_names : Scope → List Spot → List Named
lib_names scope.Lib spots = opened_names spots
lib_names scope spots = []

-- where a statement stands
abbrev pub spot_place : Spot → ℕ
spot_place (AStmt s) = stmt_place s
spot_place _ = 0

-- A02 of the statements of a text: there is none; the first is not the call; there is a second; the call has a wrong name
pub data Misopened (scope : Scope) : List Spot → ℕ → Type 0 where
  nothing : Misopened scope [] 0
  first : {s : Spot} {rest : List Spot} → is_opening scope s ≡ false → Misopened scope (s ∷ rest) (spot_place s)
  second : {s t : Spot} {rest : List Spot} → Misopened scope (s ∷ t ∷ rest) (spot_place t)
  name : {s : Spot} {rest : List Spot} {x : Named} → is_opening scope s ≡ true → In x (opening_names s) → is_opening_name scope x.text ≡ false → Misopened scope (s ∷ rest) x.at

-- Where the other rules begin: at the function of the call, and at each statement that is not the call. No rule but A02 speaks of the call itself: `ADSAFE` is a listed global, and A09 exempts it here.
abbrev pub tops : Scope → List Spot → List Spot
tops scope [] = []
tops scope (s ∷ rest) = (if is_opening scope s then opening_functions s else s ∷ []) ++ rest

-- the text, at its position, breaks the rule at the place
pub data Breaks (program : Stmts) (scope : Scope) : ℕ → ℕ → Type 0 where
  A02 : {place : ℕ} → Misopened scope (stmts_spots program) place → Breaks program scope number.A02 place
  within : {rule place : ℕ} → AnyFound [] (tops scope (stmts_spots program)) rule place → Breaks program scope rule place

-- its first broken rule: the least place, and there the least number
abbrev pub First : Stmts → Scope → ℕ → ℕ → Type 0
First program scope rule place = breaches.IsFirst (Breaks program scope) rule place

-- it breaks no rule
abbrev pub IsClean : Stmts → Scope → Type 0
IsClean program scope = breaches.IsClean (Breaks program scope)
