-- Scopes: the names that a call makes, and how a name is found.
use Rattle.std.specs.Prelude.{ℕ, zero, suc, List, [], ◌∷◌, ◌++◌, not, ◌&&◌, if◌then◌else◌, length, map, drop, Option, Some, None, option_to_list, unwrap_or, option_map}
use Rattle.std.specs.List.{list_any, flat_map}
use Rattle.std.specs.Str.{bytes_eq}
use Rattle.std.specs.Option.{option_or}
pub use Rattle.js_tree.specs.Lists.{fun_list}
use Rattle.js_tree.specs.Plain as tree
use Rattle.js_tree.specs.Plain.{Stmt, StmtForm, Stmts, Decls, ForInit, OptionalBlock, Catch, Clauses, Fun}
use Rattle.widget_meaning.specs.Values.{Value, Undefined, nth}
use Rattle.widget_meaning.specs.OwnState.{State, Scope, lookup, replaced, scope_at, with_scope}
use Rattle.widget_meaning.specs.Plan.{Place}
use Rattle.widget_meaning.specs.Properties.{listed, or_else}
use Rattle.widget_meaning.specs.HostTable.{globals}

-- ## The names that a call makes

-- the declared names of a list
abbrev pub decl_names : Decls → List (List ℕ)
decl_names tree.NoDecls = []
decl_names (tree.AndDecl ds x at e) = decl_names ds ++ x ∷ []

-- the names that the first part of a `for` declares
abbrev pub init_names : ForInit → List (List ℕ)
init_names (tree.DeclsFirst ds) = decl_names ds
init_names (tree.ExprsFirst es) = []

-- the `var` names in order of the text; functions inside have their own
unfoldable mutual
  -- of a statement
  pub stmt_vars : Stmt → List (List ℕ)
  stmt_vars (tree.StmtAt at names form) = form_vars form

  -- of its form
  pub form_vars : StmtForm → List (List ℕ)
  form_vars (tree.Var ds) = decl_names ds
  form_vars (tree.If e a b) = stmts_vars a ++ stmts_vars b
  form_vars (tree.While e b) = stmts_vars b
  form_vars (tree.DoWhile e b) = stmts_vars b
  form_vars (tree.For first test next b) = init_names first ++ stmts_vars b
  form_vars (tree.ForIn is_declared x e b) = (if is_declared then x ∷ [] else []) ++ stmts_vars b
  form_vars (tree.Switch e cs) = clauses_vars cs
  form_vars (tree.Try a c b) = stmts_vars a ++ (catch_vars c ++ block_vars b)
  form_vars (tree.With e b) = stmts_vars b
  form_vars (tree.Label x s) = stmt_vars s
  form_vars form = []

  -- of the statements of a block
  pub stmts_vars : Stmts → List (List ℕ)
  stmts_vars tree.NoStmts = []
  stmts_vars (tree.AndStmt ss s) = stmts_vars ss ++ stmt_vars s

  -- of the block of a `finally`
  pub block_vars : OptionalBlock → List (List ℕ)
  block_vars tree.NoBlock = []
  block_vars (tree.SomeBlock ss) = stmts_vars ss

  -- of the block of a `catch`
  pub catch_vars : Catch → List (List ℕ)
  catch_vars tree.NoCatch = []
  catch_vars (tree.CatchAs x ss) = stmts_vars ss

  -- of the clauses of a `switch`
  pub clauses_vars : Clauses → List (List ℕ)
  clauses_vars tree.NoClauses = []
  clauses_vars (tree.AndClause cs test ss) = clauses_vars cs ++ stmts_vars ss

-- the name of a function, if it has one
abbrev pub fun_name : Fun → List (List ℕ)
fun_name (tree.FunAt at names name params body funs) = option_to_list name

-- a declared function: its name is a variable of the scope around it, and none of its own calls
abbrev pub without_name : Fun → Fun
without_name (tree.FunAt at names name params body funs) = tree.FunAt at names None params body funs

-- the names of a call's scope but its own: parameters, `var` names, names of declared functions
abbrev pub other_names : Fun → List (List ℕ)
other_names (tree.FunAt at names name params body funs) =
    params ++ (stmts_vars body ++ flat_map fun_name (fun_list funs))

-- each name once, at its first place, behind those seen
abbrev pub distinct : List (List ℕ) → List (List ℕ) → List (List ℕ)
distinct seen [] = seen
distinct seen (x ∷ xs) = distinct (listed seen (x ∷ [])) xs

-- the argument of a parameter: a repeated one has the last
abbrev pub argument : List (List ℕ) → List Value → List ℕ → Option Value
argument [] vs x = None
argument (p ∷ ps) vs x = option_or (argument ps (drop 1 vs) x) (if bytes_eq p x then Some (nth 0 vs) else None)

-- the first value of a name in a call's scope: an argument; the function under its own name; else undefined
abbrev pub first_of_name : Fun → Value → List Value → List ℕ → Value
first_of_name (tree.FunAt at names name params body funs) f vs x =
    let others : List (List ℕ) = other_names (tree.FunAt at names name params body funs) in
    unwrap_or (argument params vs x)
    (if list_any (bytes_eq x) (option_to_list name) && not (list_any (bytes_eq x) others) then f else Undefined)

-- a call's scope: each of its names once, with its first value
abbrev pub call_scope : Fun → Option ℕ → Value → List Value → Scope
call_scope fun outer f vs =
    record {
      outer = outer;
      pairs = map (λ x. (x, first_of_name fun f vs x))
          (distinct [] (other_names fun ++ fun_name fun));
    }

-- ## How a name is found

-- the innermost scope from here that has the name, so many scopes far
abbrev pub scope_having : ℕ → State → Option ℕ → List ℕ → Option ℕ
scope_having zero s o x = None
scope_having (suc n) s None x = None
scope_having (suc n) s (Some i) x =
    or_else (option_map (λ v. i) (lookup (scope_at s i).pairs x)) (λ _. scope_having n s (scope_at s i).outer x)

-- the scope of a name at a place
abbrev pub scope_of : State → Place → List ℕ → Option ℕ
scope_of s p x = scope_having (length s.own.scopes) s p.scope x

-- the value of a name in the scope that has it, or else of a listed global; undefined where neither has it
abbrev pub value_in : State → Option ℕ → List ℕ → Value
value_in s None x = unwrap_or (lookup globals x) Undefined
value_in s (Some i) x = unwrap_or (lookup (scope_at s i).pairs x) Undefined

-- the value of a name at a place
abbrev pub variable : State → Place → List ℕ → Value
variable s p x = value_in s (scope_of s p x) x

-- a scope with another value of a name that it has
abbrev pub set_pair : Scope → List ℕ → Value → Scope
set_pair c x v = record c { pairs = replaced c.pairs x v }

-- a write of a name in the scope that has it; of no other name
abbrev pub set_in : State → Option ℕ → List ℕ → Value → State
set_in s None x v = s
set_in s (Some i) x v = with_scope s i (set_pair (scope_at s i) x v)

-- a write of a name at a place
abbrev pub assign : State → Place → List ℕ → Value → State
assign s p x v = set_in s (scope_of s p x) x v
