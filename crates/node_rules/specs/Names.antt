-- The names that stand in a node, each with its place.
use Rattle.std.specs.Prelude.{ℕ, List, [], ◌∷◌, ◌++◌, option_to_list, if◌then◌else◌}
use Rattle.js_tree.specs.Plain.{Expr, ExprAt, Str, Name, Object, Dot, Sub, Step, Assign, Properties, NoProperties, AndProperty, Decls, NoDecls, AndDecl, ForInit, DeclsFirst, ExprsFirst, StmtAt, StmtForm, Var, For, ForIn, Try, CatchAs, FunAt}
use Rattle.js_tree.specs.Parts.{Spot, AnExpr, AStmt, AFun}
use Rattle.js_tree.specs.declared.nodes.Decl.{Decl}

-- a name or a string, and where it stands
pub record Named : Type 0 where
  pub text : List ℕ
  pub at : ℕ

abbrev pub named : List ℕ → ℕ → Named
named text at = record { text = text; at = at }

-- the texts at the places of a node's names; one that has no place stands at the node's
abbrev pub placed : ℕ → List ℕ → List (List ℕ) → List Named
placed at places [] = []
placed at [] (x ∷ xs) = named x at ∷ placed at [] xs
placed at (p ∷ places) (x ∷ xs) = named x p ∷ placed at places xs

-- a string literal
abbrev pub literal : Expr → List Named
literal (ExprAt at names (Str x)) = named x at ∷ []
literal _ = []

-- a name as an expression
abbrev pub variable : Expr → List Named
variable (ExprAt at names (Name x)) = named x at ∷ []
variable _ = []

-- the keys of an object literal
abbrev pub keys : Properties → List (List ℕ)
keys NoProperties = []
keys (AndProperty ps key e) = keys ps ++ key ∷ []

-- declared variables
abbrev pub declared_names : Decls → List Named
declared_names NoDecls = []
declared_names (AndDecl ds x at e) = declared_names ds ++ named x at ∷ []

abbrev pub first_names : ForInit → List Named
first_names (DeclsFirst ds) = declared_names ds
first_names (ExprsFirst xs) = []

-- the variables that a statement declares by `var` itself
abbrev pub variables : ℕ → List ℕ → StmtForm → List Named
variables at names (Var ds) = declared_names ds
variables at names (For first test next body) = first_names first
variables at names (ForIn declared x e body) = if declared then placed at names (x ∷ []) else []
variables at names _ = []

-- names that are used: a name as an expression, and the variable of a `for-in` without `var`
abbrev pub uses : Spot → List Named
uses (AnExpr e) = variable e
uses (AStmt (StmtAt at names (ForIn declared x e body))) = if declared then [] else placed at names (x ∷ [])
uses _ = []

-- names that are bound: declared variables, the name of a catch, a function's own name and its parameters
abbrev pub binders : Spot → List Named
binders (AStmt (StmtAt at names (Try body (CatchAs x block) last))) = placed at names (x ∷ [])
binders (AStmt (StmtAt at names form)) = variables at names form
binders (AFun (FunAt at names own params body funs)) = placed at names (option_to_list own ++ params)
binders _ = []

-- names of properties: after a dot, as a key, and as a string in a subscript
abbrev pub properties : Spot → List Named
properties (AnExpr (ExprAt at names (Dot e x))) = placed at names (x ∷ [])
properties (AnExpr (ExprAt at names (Object ps))) = placed at names (keys ps)
properties (AnExpr (ExprAt at names (Sub e key))) = literal key
properties _ = []

-- names that are written to, besides those that are bound: the target of an assignment or a step, and the variable of a `for-in`
abbrev pub targets : Spot → List Named
targets (AnExpr (ExprAt at names (Assign op a b))) = variable a
targets (AnExpr (ExprAt at names (Step op a))) = variable a
targets (AStmt (StmtAt at names (ForIn declared x e body))) = if declared then [] else placed at names (x ∷ [])
targets _ = []

-- the name of a declaration in the tree
abbrev pub decl_name : Decl → Named
decl_name d = named d.name d.at
