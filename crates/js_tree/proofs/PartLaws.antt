-- The parts of a node are those of its plain tree, and a tree's size is one more than its parts'.
use Rattle.std.proofs.Common.{◌≡◌, ℕ, ◌+◌, List, [], ◌∷◌, ◌++◌, refl, sym, ap, ◌∙◌, arith, append_assoc, append-nil}
use Rattle.std.proofs.lemmas.List.{map-append}
use Rattle.std.specs.Prelude.{Option, Some, None, All, map, option_to_list}
use Rattle.std.specs.List.{flat_map}
use Rattle.std.specs.declared.vec.Vec.{Vec}
use Rattle.std.specs.declared.alloc.Global.{Global}
use Rattle.js_tree.specs.declared.nodes.ExprId.{ExprId}
use Rattle.js_tree.specs.declared.nodes.StmtId.{StmtId}
use Rattle.js_tree.specs.declared.nodes.FunId.{FunId}
use Rattle.js_tree.specs.declared.nodes.Decl.{Decl}
use Rattle.js_tree.specs.declared.nodes.ForInit.{ForInit as InitNode}
use Rattle.js_tree.specs.declared.nodes.ForInit.TheVariants as init
use Rattle.js_tree.specs.declared.nodes.Clause.{Clause}
use Rattle.js_tree.specs.declared.nodes.Expr.{Expr as ExprNode}
use Rattle.js_tree.specs.declared.nodes.Expr.TheVariants as expr
use Rattle.js_tree.specs.declared.nodes.Stmt.{Stmt as StmtNode}
use Rattle.js_tree.specs.declared.nodes.Stmt.TheVariants as stmt
use Rattle.js_tree.specs.declared.nodes.Fun.{Fun as FunNode}
use Rattle.js_tree.specs.declared.nodes.Part.{Part}
use Rattle.js_tree.specs.declared.nodes.Part.TheVariants as part
use Rattle.js_tree.specs.Plain.{
  Expr,
  ExprAt,
  ExprForm,
  Num,
  Str,
  Name,
  Constant,
  Array,
  Object,
  Function,
  Dot,
  Sub,
  Call,
  New,
  Step,
  Unary,
  Binary,
  And,
  Or,
  Cond,
  Assign,
  Comma,
  Exprs,
  NoExprs,
  AndExpr,
  OptionalExpr,
  NoExpr,
  SomeExpr,
  Properties,
  NoProperties,
  AndProperty,
  Decls,
  NoDecls,
  AndDecl,
  ForInit,
  DeclsFirst,
  ExprsFirst,
  Stmt,
  StmtAt,
  StmtForm,
  Var,
  Only,
  If,
  While,
  DoWhile,
  For,
  ForIn,
  Continue,
  Break,
  Return,
  Throw,
  With,
  Switch,
  Try,
  Label,
  Stmts,
  NoStmts,
  AndStmt,
  OptionalBlock,
  NoBlock,
  SomeBlock,
  Catch,
  NoCatch,
  CatchAs,
  Clauses,
  NoClauses,
  AndClause,
  Fun,
  FunAt,
  Funs,
  NoFuns,
  AndFun,
}
use Rattle.js_tree.specs.Forest.{Forest, expr_at, stmt_at, fun_at, exprs_more, exprs_at, stmts_more, stmts_at, funs_more, funs_at, optional_at, properties_more, decls_more, decls_at, init_at, clauses_more, clauses_at, catch_at, block_at, plain_form, plain_expr, plain_stmt_form, plain_stmt, plain_fun, AreExprParts, AreStmtParts, AreFunParts}
use Rattle.js_tree.specs.Parts.{Spot, AnExpr, AStmt, AFun, spot_at, IsIn, decl_parts, init_parts, clause_parts, catch_parts, block_parts, expr_parts, stmt_parts, fun_parts, exprs_spots, stmts_spots, funs_spots, optional_spots, properties_spots, decls_spots, init_spots, clauses_spots, catch_spots, block_spots, form_spots, stmt_form_spots, parts_of, expr_size, form_size, exprs_size, optional_size, properties_size, decls_size, init_size, stmt_form_size, stmts_size, block_size, catch_size, clauses_size, funs_size, spot_size, spots_size}
use Rattle.js_tree.proofs.PartsIn.{all_each, each_all, expr_each, stmt_each, fun_each, expr_are, stmt_are, fun_are}

-- the parts of a node are in the forest, as a list
pub expr_parts_in : (f : Forest) (n : ExprNode) → AreExprParts f n → All (IsIn f) (expr_parts n)
expr_parts_in f n h = all_each f (expr_parts n) (expr_each f n h)

pub expr_parts_are : (f : Forest) (n : ExprNode) → All (IsIn f) (expr_parts n) → AreExprParts f n
expr_parts_are f n h = expr_are f n (each_all f (expr_parts n) h)

pub stmt_parts_in : (f : Forest) (n : StmtNode) → AreStmtParts f n → All (IsIn f) (stmt_parts n)
stmt_parts_in f n h = all_each f (stmt_parts n) (stmt_each f n h)

pub stmt_parts_are : (f : Forest) (n : StmtNode) → All (IsIn f) (stmt_parts n) → AreStmtParts f n
stmt_parts_are f n h = stmt_are f n (each_all f (stmt_parts n) h)

pub fun_parts_in : (f : Forest) (n : FunNode) → AreFunParts f n → All (IsIn f) (fun_parts n)
fun_parts_in f n h = all_each f (fun_parts n) (fun_each f n h)

pub fun_parts_are : (f : Forest) (n : FunNode) → All (IsIn f) (fun_parts n) → AreFunParts f n
fun_parts_are f n h = fun_are f n (each_all f (fun_parts n) h)

module _ (f : Forest) where
  -- lists of parts, after those that stand before
  after : {A : Type 0} (a : List A) (x : A) (b c : List A) → c ≡ (a ++ x ∷ []) ++ b → c ≡ a ++ x ∷ b
  after a x b c h = h ∙ append_assoc a (x ∷ []) b

  exprs_after : (before : Exprs) (ids : List ExprId) → exprs_spots (exprs_more f before ids) ≡ exprs_spots before ++ map (spot_at f) (map part.Expr ids)
  exprs_after before [] = sym (append-nil (exprs_spots before))
  exprs_after before (id ∷ ids) = after (exprs_spots before) (AnExpr (expr_at f id)) _ _ (exprs_after (AndExpr before (expr_at f id)) ids)

  stmts_after : (before : Stmts) (ids : List StmtId) → stmts_spots (stmts_more f before ids) ≡ stmts_spots before ++ map (spot_at f) (map part.Stmt ids)
  stmts_after before [] = sym (append-nil (stmts_spots before))
  stmts_after before (id ∷ ids) = after (stmts_spots before) (AStmt (stmt_at f id)) _ _ (stmts_after (AndStmt before (stmt_at f id)) ids)

  funs_after : (before : Funs) (ids : List FunId) → funs_spots (funs_more f before ids) ≡ funs_spots before ++ map (spot_at f) (map part.Fun ids)
  funs_after before [] = sym (append-nil (funs_spots before))
  funs_after before (id ∷ ids) = after (funs_spots before) (AFun (fun_at f id)) _ _ (funs_after (AndFun before (fun_at f id)) ids)

  properties_after : (before : Properties) (ps : List (List ℕ × ExprId)) → properties_spots (properties_more f before ps) ≡ properties_spots before ++ map (spot_at f) (map (λ p. part.Expr p.1) ps)
  properties_after before [] = sym (append-nil (properties_spots before))
  properties_after before (p ∷ ps) = after (properties_spots before) (AnExpr (expr_at f p.1)) _ _ (properties_after (AndProperty before p.0 (expr_at f p.1)) ps)

  pub exprs_parts : (ids : List ExprId) → map (spot_at f) (map part.Expr ids) ≡ exprs_spots (exprs_at f ids)
  exprs_parts ids = sym (exprs_after NoExprs ids)

  pub stmts_parts : (ids : List StmtId) → map (spot_at f) (map part.Stmt ids) ≡ stmts_spots (stmts_at f ids)
  stmts_parts ids = sym (stmts_after NoStmts ids)

  pub funs_parts : (ids : List FunId) → map (spot_at f) (map part.Fun ids) ≡ funs_spots (funs_at f ids)
  funs_parts ids = sym (funs_after NoFuns ids)

  optional_parts : (e : Option ExprId) → map (spot_at f) (map part.Expr (option_to_list e)) ≡ optional_spots (optional_at f e)
  optional_parts None = refl
  optional_parts (Some id) = refl

  -- two lists of parts
  joined : (a b : List Part) (x y : List Spot) → map (spot_at f) a ≡ x → map (spot_at f) b ≡ y → map (spot_at f) (a ++ b) ≡ x ++ y
  joined a b x y h g = map-append (spot_at f) a b ∙ ap (λ l. l ++ map (spot_at f) b) h ∙ ap (λ l. x ++ l) g

  decls_after : (before : Decls) (ds : List Decl) → decls_spots (decls_more f before ds) ≡ decls_spots before ++ map (spot_at f) (flat_map decl_parts ds)
  decls_after before [] = sym (append-nil (decls_spots before))
  decls_after before (d ∷ ds) =
      decls_after (AndDecl before d.name d.at (optional_at f d.init)) ds
      ∙ append_assoc (decls_spots before) (optional_spots (optional_at f d.init)) (map (spot_at f) (flat_map decl_parts ds))
      ∙ ap (λ l. decls_spots before ++ l) (sym (joined (decl_parts d) (flat_map decl_parts ds) _ _ (optional_parts d.init) refl))

  decls_parts : (ds : List Decl) → map (spot_at f) (flat_map decl_parts ds) ≡ decls_spots (decls_at f ds)
  decls_parts ds = sym (decls_after NoDecls ds)

  first_parts : (i : InitNode) → map (spot_at f) (init_parts i) ≡ init_spots (init_at f i)
  first_parts (init.Var ds) = decls_parts ds.items
  first_parts (init.List ids) = exprs_parts ids.items

  clause_spots : (c : Clause) → map (spot_at f) (clause_parts c) ≡ optional_spots (optional_at f c.test) ++ stmts_spots (stmts_at f c.body.items)
  clause_spots c = joined _ _ _ _ (optional_parts c.test) (stmts_parts c.body.items)

  clauses_after : (before : Clauses) (cs : List Clause) → clauses_spots (clauses_more f before cs) ≡ clauses_spots before ++ map (spot_at f) (flat_map clause_parts cs)
  clauses_after before [] = sym (append-nil (clauses_spots before))
  clauses_after before (c ∷ cs) =
      clauses_after (AndClause before (optional_at f c.test) (stmts_at f c.body.items)) cs
      ∙ append_assoc (clauses_spots before) (optional_spots (optional_at f c.test) ++ stmts_spots (stmts_at f c.body.items)) (map (spot_at f) (flat_map clause_parts cs))
      ∙ ap (λ l. clauses_spots before ++ l) (sym (joined (clause_parts c) (flat_map clause_parts cs) _ _ (clause_spots c) refl))

  switch_parts : (cs : List Clause) → map (spot_at f) (flat_map clause_parts cs) ≡ clauses_spots (clauses_at f cs)
  switch_parts cs = sym (clauses_after NoClauses cs)

  caught_parts : (c : Option (List ℕ × Vec StmtId Global)) → map (spot_at f) (catch_parts c) ≡ catch_spots (catch_at f c)
  caught_parts None = refl
  caught_parts (Some c) = stmts_parts c.1.items

  last_parts : (b : Option (Vec StmtId Global)) → map (spot_at f) (block_parts b) ≡ block_spots (block_at f b)
  last_parts None = refl
  last_parts (Some ids) = stmts_parts ids.items

  form_parts : (n : ExprNode) → map (spot_at f) (expr_parts n) ≡ form_spots (plain_form f n)
  form_parts (expr.Num text) = refl
  form_parts (expr.Str text) = refl
  form_parts (expr.Name text) = refl
  form_parts (expr.Word w) = refl
  form_parts (expr.Array ids) = exprs_parts ids.items
  form_parts (expr.Object ps) = sym (properties_after NoProperties ps.items)
  form_parts (expr.Function id) = refl
  form_parts (expr.Dot e text) = refl
  form_parts (expr.Sub a b) = refl
  form_parts (expr.Call e ids) = ap (λ l. AnExpr (expr_at f e) ∷ l) (exprs_parts ids.items)
  form_parts (expr.New e ids) = ap (λ l. AnExpr (expr_at f e) ∷ l) (exprs_parts ids.items)
  form_parts (expr.Step op e) = refl
  form_parts (expr.Unary op e) = refl
  form_parts (expr.Binary op a b) = refl
  form_parts (expr.And a b) = refl
  form_parts (expr.Or a b) = refl
  form_parts (expr.Cond a b c) = refl
  form_parts (expr.Assign op a b) = refl
  form_parts (expr.Comma a b) = refl

  headed_parts : (e : ExprId) (ids : List StmtId) → map (spot_at f) (part.Expr e ∷ map part.Stmt ids) ≡ AnExpr (expr_at f e) ∷ stmts_spots (stmts_at f ids)
  headed_parts e ids = ap (λ l. AnExpr (expr_at f e) ∷ l) (stmts_parts ids)

  stmt_form_parts : (n : StmtNode) → map (spot_at f) (stmt_parts n) ≡ stmt_form_spots (plain_stmt_form f n)
  stmt_form_parts (stmt.Var ds) = decls_parts ds.items
  stmt_form_parts (stmt.Expr e) = refl
  stmt_form_parts (stmt.If e a b) = ap (λ l. AnExpr (expr_at f e) ∷ l) (joined _ _ _ _ (stmts_parts a.items) (stmts_parts b.items))
  stmt_form_parts (stmt.While e body) = headed_parts e body.items
  stmt_form_parts (stmt.DoWhile e body) = joined _ (part.Expr e ∷ []) _ _ (stmts_parts body.items) refl
  stmt_form_parts (stmt.For first test next body) = joined _ _ _ _ (first_parts first) (joined _ _ _ _ (optional_parts test) (joined _ _ _ _ (exprs_parts next.items) (stmts_parts body.items)))
  stmt_form_parts (stmt.ForIn declared name e body) = headed_parts e body.items
  stmt_form_parts (stmt.Continue label) = refl
  stmt_form_parts (stmt.Break label) = refl
  stmt_form_parts (stmt.Return e) = optional_parts e
  stmt_form_parts (stmt.Throw e) = refl
  stmt_form_parts (stmt.With e body) = headed_parts e body.items
  stmt_form_parts (stmt.Switch e cs) = ap (λ l. AnExpr (expr_at f e) ∷ l) (switch_parts cs.items)
  stmt_form_parts (stmt.Try body caught last) = joined _ _ _ _ (stmts_parts body.items) (joined _ _ _ _ (caught_parts caught) (last_parts last))
  stmt_form_parts (stmt.Label name s) = refl

  -- the parts of a node stand for the parts of its tree
  pub expr_parts_of : (n : ExprNode) (at : ℕ) (names : List ℕ) (e : Expr) → plain_expr f n at names ≡ e → map (spot_at f) (expr_parts n) ≡ parts_of (AnExpr e)
  expr_parts_of n at names e h = form_parts n ∙ ap (λ x. parts_of (AnExpr x)) h

  pub stmt_parts_of : (n : StmtNode) (at : ℕ) (names : List ℕ) (s : Stmt) → plain_stmt f n at names ≡ s → map (spot_at f) (stmt_parts n) ≡ parts_of (AStmt s)
  stmt_parts_of n at names s h = stmt_form_parts n ∙ ap (λ x. parts_of (AStmt x)) h

  pub fun_parts_of : (n : FunNode) (names : List ℕ) (g : Fun) → plain_fun f n names ≡ g → map (spot_at f) (fun_parts n) ≡ parts_of (AFun g)
  fun_parts_of n names g h = joined _ _ _ _ (funs_parts n.funs.items) (stmts_parts n.body.items) ∙ ap (λ x. parts_of (AFun x)) h

pub spots_size-append : (a b : List Spot) → spots_size (a ++ b) ≡ spots_size a + spots_size b
spots_size-append [] b = omega arith
spots_size-append (s ∷ a) b = omega (arith, spots_size-append a b)

exprs_sized : (xs : Exprs) → exprs_size xs ≡ spots_size (exprs_spots xs)
unfolding exprs_size
exprs_sized NoExprs = refl
exprs_sized (AndExpr xs x) = omega (arith, exprs_sized xs, spots_size-append (exprs_spots xs) (AnExpr x ∷ []))

stmts_sized : (xs : Stmts) → stmts_size xs ≡ spots_size (stmts_spots xs)
unfolding stmts_size
stmts_sized NoStmts = refl
stmts_sized (AndStmt xs x) = omega (arith, stmts_sized xs, spots_size-append (stmts_spots xs) (AStmt x ∷ []))

funs_sized : (xs : Funs) → funs_size xs ≡ spots_size (funs_spots xs)
unfolding funs_size
funs_sized NoFuns = refl
funs_sized (AndFun xs x) = omega (arith, funs_sized xs, spots_size-append (funs_spots xs) (AFun x ∷ []))

properties_sized : (ps : Properties) → properties_size ps ≡ spots_size (properties_spots ps)
unfolding properties_size
properties_sized NoProperties = refl
properties_sized (AndProperty ps key e) = omega (arith, properties_sized ps, spots_size-append (properties_spots ps) (AnExpr e ∷ []))

optional_sized : (e : OptionalExpr) → optional_size e ≡ spots_size (optional_spots e)
unfolding optional_size
optional_sized NoExpr = refl
optional_sized (SomeExpr e) = omega arith

decls_sized : (ds : Decls) → decls_size ds ≡ spots_size (decls_spots ds)
unfolding decls_size
decls_sized NoDecls = refl
decls_sized (AndDecl ds name at e) = omega (arith, decls_sized ds, optional_sized e, spots_size-append (decls_spots ds) (optional_spots e))

init_sized : (i : ForInit) → init_size i ≡ spots_size (init_spots i)
unfolding init_size
init_sized (DeclsFirst ds) = decls_sized ds
init_sized (ExprsFirst xs) = exprs_sized xs

clauses_sized : (cs : Clauses) → clauses_size cs ≡ spots_size (clauses_spots cs)
unfolding clauses_size
clauses_sized NoClauses = refl
clauses_sized (AndClause cs test body) = omega (arith, clauses_sized cs, optional_sized test, stmts_sized body, spots_size-append (clauses_spots cs) (optional_spots test ++ stmts_spots body), spots_size-append (optional_spots test) (stmts_spots body))

catch_sized : (c : Catch) → catch_size c ≡ spots_size (catch_spots c)
unfolding catch_size
catch_sized NoCatch = refl
catch_sized (CatchAs name body) = stmts_sized body

block_sized : (b : OptionalBlock) → block_size b ≡ spots_size (block_spots b)
unfolding block_size
block_sized NoBlock = refl
block_sized (SomeBlock body) = stmts_sized body

form_sized : (form : ExprForm) → form_size form ≡ spots_size (form_spots form)
unfolding form_size
form_sized (Array xs) = exprs_sized xs
form_sized (Object ps) = properties_sized ps
form_sized (Function g) = omega arith
form_sized (Dot e text) = omega arith
form_sized (Sub a b) = omega arith
form_sized (Call e xs) = omega (arith, exprs_sized xs)
form_sized (New e xs) = omega (arith, exprs_sized xs)
form_sized (Step op e) = omega arith
form_sized (Unary op e) = omega arith
form_sized (Binary op a b) = omega arith
form_sized (And a b) = omega arith
form_sized (Or a b) = omega arith
form_sized (Cond a b c) = omega arith
form_sized (Assign op a b) = omega arith
form_sized (Comma a b) = omega arith
form_sized (Num text) = refl
form_sized (Str text) = refl
form_sized (Name text) = refl
form_sized (Constant w) = refl

stmt_form_sized : (form : StmtForm) → stmt_form_size form ≡ spots_size (stmt_form_spots form)
unfolding stmt_form_size
stmt_form_sized (Var ds) = decls_sized ds
stmt_form_sized (Only e) = omega arith
stmt_form_sized (If e a b) = omega (arith, stmts_sized a, stmts_sized b, spots_size-append (stmts_spots a) (stmts_spots b))
stmt_form_sized (While e body) = omega (arith, stmts_sized body)
stmt_form_sized (DoWhile e body) = omega (arith, stmts_sized body, spots_size-append (stmts_spots body) (AnExpr e ∷ []))
stmt_form_sized (For first test next body) = omega (arith, init_sized first, optional_sized test, exprs_sized next, stmts_sized body, spots_size-append (init_spots first) (optional_spots test ++ (exprs_spots next ++ stmts_spots body)), spots_size-append (optional_spots test) (exprs_spots next ++ stmts_spots body), spots_size-append (exprs_spots next) (stmts_spots body))
stmt_form_sized (ForIn declared name e body) = omega (arith, stmts_sized body)
stmt_form_sized (Continue label) = refl
stmt_form_sized (Break label) = refl
stmt_form_sized (Return e) = optional_sized e
stmt_form_sized (Throw e) = omega arith
stmt_form_sized (With e body) = omega (arith, stmts_sized body)
stmt_form_sized (Switch e cs) = omega (arith, clauses_sized cs)
stmt_form_sized (Try body caught last) = omega (arith, stmts_sized body, catch_sized caught, block_sized last, spots_size-append (stmts_spots body) (catch_spots caught ++ block_spots last), spots_size-append (catch_spots caught) (block_spots last))
stmt_form_sized (Label name s) = omega arith

-- a tree has one node more than its parts have
pub spot_size-parts : (s : Spot) → spot_size s ≡ 1 + spots_size (parts_of s)
unfolding expr_size
spot_size-parts (AnExpr (ExprAt at names form)) = ap (λ n. 1 + n) (form_sized form)
spot_size-parts (AStmt (StmtAt at names form)) = ap (λ n. 1 + n) (stmt_form_sized form)
spot_size-parts (AFun (FunAt at names name params body funs)) = omega (arith, funs_sized funs, stmts_sized body, spots_size-append (funs_spots funs) (stmts_spots body))
