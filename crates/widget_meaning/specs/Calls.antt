-- Calls, the conversion of objects to primitives, and statements in a row.
use Rattle.std.specs.Prelude.{ℕ, suc, List, [], ◌∷◌, length, nat_lt, if◌then◌else◌, codes, Bool, true, false, Option, Some}
use Rattle.std.specs.Str.{bytes_eq}
pub use Rattle.js_tree.specs.Lists.{stmt_list}
use Rattle.js_tree.specs.Plain as tree
use Rattle.js_tree.specs.Plain.{Stmt, Stmts, Fun}
use Rattle.widget_meaning.specs.Limits.{max_depth}
use Rattle.permitted_table.specs.declared.native.HostEntry.TheVariants as host
use Rattle.widget_meaning.specs.Values.{Value, Undefined, Own, Host, Completion, Normal, Return, Throw, Depth, E2, E6, is_object}
use Rattle.widget_meaning.specs.OwnState.{State, Kind, Function, cell_at, scope_at, with_new_scope, with_scope, new_function, Scope}
use Rattle.widget_meaning.specs.Plan.{Place, Plan, Ret, Halt, Do, Exec, Call, RunNative, and_then, on_value, on_normal}
use Rattle.widget_meaning.specs.Costs.{pay, make, throw, give, scope_cost}
use Rattle.widget_meaning.specs.Properties.{get, is_function}
use Rattle.widget_meaning.specs.Scopes.{fun_name, without_name, fun_list, set_pair, call_scope}

-- statements one after the other, up to the first that does not go on
abbrev pub statements : List Stmt → Place → State → Plan
statements [] p s = Ret Normal s
statements (i ∷ is) p s = Do (Exec i p) s (λ o t. on_normal o t (statements is p t))

-- `"use strict";` as the first statement of a function takes nothing
abbrev pub without_directive : List Stmt → List Stmt
without_directive (tree.StmtAt at names (tree.Only (tree.ExprAt place inner (tree.Str t))) ∷ is) =
    if bytes_eq t (codes "use strict") then is
    else tree.StmtAt at names (tree.Only (tree.ExprAt place inner (tree.Str t))) ∷ is
without_directive is = is

-- a value under a function's name, where it has one
abbrev pub with_variable : State → ℕ → List (List ℕ) → Value → State
with_variable s i [] v = s
with_variable s i (x ∷ xs) v = with_scope s i (set_pair (scope_at s i) x v)

-- the declared functions are made in order of the text, each at the cost of a cell, and then what follows
abbrev pub declare : List Fun → ℕ → State → (State → Plan) → Plan
declare [] i s k = k s
declare (f ∷ fs) i s k =
    make (new_function (without_name f) (Some i)) 0 s (λ v t. declare fs i (with_variable t i (fun_name f) v) k)

-- how a call ends, by how its body ended
abbrev pub call_end : Completion → State → Plan
call_end (Return v) s = give v s
call_end (Throw v) s = Ret (Throw v) s
call_end o s = give Undefined s

-- the body of a function, in its new scope
abbrev pub call_body : Stmts → Place → State → Plan
call_body body p s = and_then (statements (without_directive (stmt_list body)) p s) call_end

-- the new scope of a call costs a slot and one for each name; then the declared functions are made and the body runs
abbrev pub enter_scope : Fun → Option ℕ → Value → List Value → ℕ → State → Plan
enter_scope (tree.FunAt at names name params body funs) outer f vs d s =
    let c : Scope = call_scope (tree.FunAt at names name params body funs) outer f vs in
    pay (scope_cost c) s (λ t. declare (fun_list funs) (length t.own.scopes) (with_new_scope t c)
    (call_body body (record { scope = Some (length t.own.scopes); depth = d })))

-- a function of the widget at this depth. A stop for depth comes before the scope
abbrev pub enter : Kind → Value → List Value → ℕ → State → Plan
enter (Function f outer) v vs d s = if nat_lt max_depth d then Halt Depth s else enter_scope f outer v vs d s
enter kind v vs d s = throw E2 s

-- a call by a caller at this depth: a function of the widget runs one deeper; a native takes a unit of its own
abbrev pub invoke : Value → Option Value → List Value → ℕ → State → Plan
invoke (Own n) this vs d s = enter (cell_at s n).kind (Own n) vs (suc d) s
invoke (Host (host.Native w)) this vs d s = Do (RunNative w this vs d) s Ret
invoke v this vs d s = throw E2 s

-- what a `toString` gave, or E6 where that is an object
abbrev pub primitive_result : Completion → State → Plan
primitive_result o s = on_value o s (λ v. if is_object v then throw E6 s else give v s)

-- the call of a `toString`, or E6 where it is no function
abbrev pub call_to_string : Bool → Value → Value → ℕ → State → Plan
call_to_string true f v d s = Do (Call f (Some v) [] d) s primitive_result
call_to_string false f v d s = throw E6 s

-- an operand as a primitive, by a caller at this depth: of an object `toString` is called with no arguments
abbrev pub to_primitive : Value → ℕ → State → Plan
to_primitive v d s =
    if is_object v then call_to_string (is_function s (get s v (codes "toString"))) (get s v (codes "toString")) v d s
    else give v s
