-- Trees made by hand, for the rows that are computed from the definitions.
use Prim.Native.String.{String}
use Rattle.std.specs.Prelude.{ℕ, List, [], ◌∷◌, map, codes, false, Option, Some, None}
use Rattle.std.specs.List.{fold}
use Rattle.js_tree.specs.declared.nodes.AssignOp.TheVariants as assignment
use Rattle.js_tree.specs.declared.nodes.BinOp.{BinOp}
use Rattle.js_tree.specs.declared.nodes.Word.TheVariants as word
use Rattle.js_tree.specs.Plain as tree
use Rattle.js_tree.specs.Plain.{Expr, ExprForm, Exprs, OptionalExpr, Stmt, StmtForm, Stmts, Fun}
use Rattle.plain_tree.specs.Trees.{End, Node, TextOf, ElementOf}
use Rattle.widget_meaning.specs.Trees.{Trees}
use Rattle.widget_meaning.specs.Alone.{Content}

-- ## Expressions

-- an expression without a place
abbrev pub expr : ExprForm → Expr
expr form = tree.ExprAt 0 [] form

-- a list of expressions
abbrev pub exprs : List Expr → Exprs
exprs es = fold tree.AndExpr tree.NoExprs es

-- a name
abbrev pub name : String → Expr
name x = expr (tree.Name (codes x))

-- a number
abbrev pub num : String → Expr
num t = expr (tree.Num (codes t))

-- a text
abbrev pub str : String → Expr
str t = expr (tree.Str (codes t))

-- an array
abbrev pub array : List Expr → Expr
array es = expr (tree.Array (exprs es))

-- an object
abbrev pub object : List (String × Expr) → Expr
object ps = expr (tree.Object (fold (λ qs p. tree.AndProperty qs (codes p.0) p.1) tree.NoProperties ps))

-- a property
abbrev pub dot : Expr → String → Expr
dot e x = expr (tree.Dot e (codes x))

-- a call
abbrev pub apply : Expr → List Expr → Expr
apply f es = expr (tree.Call f (exprs es))

-- a call of a method
abbrev pub method : Expr → String → List Expr → Expr
method e x es = apply (dot e x) es

-- `ADSAFE.x(..)`
abbrev pub adsafe : String → List Expr → Expr
adsafe x es = method (name "ADSAFE") x es

-- `dom.x(..)`
abbrev pub dom : String → List Expr → Expr
dom x es = method (name "dom") x es

-- `dom.q(..)`
abbrev pub dom_q : String → Expr
dom_q x = dom "q" (str x ∷ [])

-- an operator between two
abbrev pub operation : BinOp → Expr → Expr → Expr
operation op a b = expr (tree.Binary op a b)

-- ## Statements

-- a statement without a place
abbrev pub stmt : StmtForm → Stmt
stmt form = tree.StmtAt 0 [] form

-- a list of statements
abbrev pub stmts : List Stmt → Stmts
stmts ss = fold tree.AndStmt tree.NoStmts ss

-- a statement of an expression
abbrev pub does : Expr → Stmt
does e = stmt (tree.Only e)

-- `ADSAFE.log(e);`
abbrev pub logs : Expr → Stmt
logs e = does (adsafe "log" (e ∷ []))

-- declared variables, with their first values
abbrev pub vars : List (String × OptionalExpr) → Stmt
vars ds = stmt (tree.Var (fold (λ es d. tree.AndDecl es (codes d.0) 0 d.1) tree.NoDecls ds))

-- one declared variable
abbrev pub var : String → Expr → Stmt
var x e = vars ((x, tree.SomeExpr e) ∷ [])

-- `e = v;`
abbrev pub sets : Expr → Expr → Stmt
sets e v = does (expr (tree.Assign assignment.Assign e v))

-- `e += v;`
abbrev pub adds : Expr → Expr → Stmt
adds e v = does (expr (tree.Assign assignment.Add e v))

-- `return e;`
abbrev pub returns : Expr → Stmt
returns e = stmt (tree.Return (tree.SomeExpr e))

-- `while (true) { .. }`
abbrev pub forever : List Stmt → Stmt
forever ss = stmt (tree.While (expr (tree.Constant word.True)) (stmts ss))

-- `for (x in e) { .. }`
abbrev pub for_in : String → Expr → List Stmt → Stmt
for_in x e ss = stmt (tree.ForIn false (codes x) e (stmts ss))

-- `try { e; } catch (x) { ADSAFE.log(x.message); }`
abbrev pub catches : Expr → String → Stmt
catches e x =
    stmt (tree.Try (stmts (does e ∷ []))
    (tree.CatchAs (codes x) (stmts (logs (dot (name x) "message") ∷ []))) tree.NoBlock)

-- `try { s } finally { u }`
abbrev pub try_finally : Stmt → Stmt → Stmt
try_finally s u = stmt (tree.Try (stmts (s ∷ [])) tree.NoCatch (tree.SomeBlock (stmts (u ∷ []))))

-- ## Functions

-- a function without functions
abbrev pub fun : Option (List ℕ) → List String → List Stmt → Fun
fun x params ss = tree.FunAt 0 [] x (map codes params) (stmts ss) tree.NoFuns

-- a declared function
abbrev pub declared : String → List String → List Stmt → Fun
declared x params ss = fun (Some (codes x)) params ss

-- a function expression without a name
abbrev pub function : List String → List Stmt → Expr
function params ss = expr (tree.Function (fun None params ss))

-- ## Widgets

-- an element, with its children and what stands behind it
abbrev pub element : String → List (String × String) → Trees → Trees → Trees
element tag attrs ks ts = Node 0 (ElementOf (codes tag) (map (λ a. (codes a.0, codes a.1)) attrs)) ks ts

-- a text, with what stands behind it
abbrev pub words : String → Trees → Trees
words t ts = Node 0 (TextOf (codes t)) End ts

-- the root of a widget
abbrev pub root : String → Trees → Trees
root id ks = element "div" (("id", id) ∷ []) ks End

-- a widget with a page, and a body with declared functions: `ADSAFE.go("A_", function (dom, lib) {..});`
abbrev pub content : Trees → List Stmt → List Fun → Content
content ts ss fs = record {
  root = ts;
  libraries = [];
  script = stmts (does (adsafe "go" (str "A_" ∷ expr (tree.Function
      (tree.FunAt 0 [] None (codes "dom" ∷ codes "lib" ∷ []) (stmts ss) (fold tree.AndFun tree.NoFuns fs))) ∷ []))
      ∷ []);
}

-- a widget on `<div id="A_"><p>hi</p></div>`
abbrev pub widget : List Stmt → List Fun → Content
widget ss fs = content (root "A_" (element "p" [] (words "hi" End) End)) ss fs

-- the same without declared functions
abbrev pub body : List Stmt → Content
body ss = widget ss []
