-- Tokens at other places spell the same thing, apart from places.
use Rattle.std.proofs.Common.{◌≡◌, ℕ, List, [], ◌∷◌, ◌++◌, length, Bool, true, false, Option, Some, None, refl, ap, sym, ◌∙◌}
use Rattle.js_grammar.specs.declared.Infix.TheVariants as infixes
use Rattle.js_grammar.specs.declared.Prefix.TheVariants as prefixes
use Rattle.js_grammar.specs.Grammar.{Lexeme, Deep, Level, Thing, An, Items, Keys, Maybe, Names, Code, Init, Vars, A, Statements, Block, Cases, Body, Spells, fun_of, goes_on, has_default}
use Rattle.js_grammar.specs.Grammar.Spells.{name, number, string, this, null, true_word, false_word, paren, array, object, unnamed, named, operand, operand_dot, operand_sub, left_hand, dot, sub, call, new_with, new_alone, unary, post_step, before_operand, operators, looser, between, assignment, choice, assign, whole, comma, no_items, first_item, next_item, no_keys, first_key, next_key, nothing, something, no_names, first_name, next_name, code, empty_body, body_statement, body_function, no_statement, next_statement, block, no_init, init, first_var, next_var, variables, only, if_alone, if_else, else_if, while_loop, do_loop, for_vars, for_items, for_in, for_var_in, continue_loop, continue_label, break_loop, break_label, returns, throws, with_object, switch, no_case, next_case, default_case, label, try_catch, try_finally, try_both}
use Rattle.js_grammar.specs.Unplaced.{zeros, unplaced_expr, unplaced_exprs, unplaced_optional, unplaced_properties, unplaced_decls, unplaced_stmt, unplaced_stmts, unplaced_clauses, unplaced_fun, unplaced_funs}
use Rattle.js_tree.specs.Plain.{Expr, ExprAt, Array, Object, Function, Dot, Sub, Call, New, Step, Unary, Binary, And, Or, Cond, Assign, Comma, Exprs, NoExprs, AndExpr, OptionalExpr, NoExpr, SomeExpr, Properties, NoProperties, AndProperty, Decls, NoDecls, AndDecl, DeclsFirst, ExprsFirst, Stmt, StmtAt, Var, Only, If, While, DoWhile, For, ForIn, Return, Throw, With, Switch, Try, Label, Stmts, NoStmts, AndStmt, NoBlock, SomeBlock, NoCatch, CatchAs, Clauses, NoClauses, AndClause, Fun, Funs, NoFuns, AndFun}
use Rattle.tidy_laws.proofs.Parts.{bare, bare_names, bare_own, zeros_append, names_append, fun_bare, default_bare}

-- each token at the place of the number of tokens behind it
module _ (place : ℕ → ℕ) where
  abbrev pub moved : List Deep → List Deep
  moved [] = []
  moved (((s, x), d) ∷ ts) = ((s, record { text = x.text; at = place (length ts) }), d) ∷ moved ts

  goes_moved : (ts : List Deep) → goes_on (moved ts) ≡ goes_on ts
  goes_moved [] = refl
  goes_moved (((s, x), d) ∷ ts) = refl

pub record AgainExpr (level : Level) (e : Expr) (d : ℕ) (ts rest : List Deep) : Type 0 where
  pub tree : Expr
  pub same : unplaced_expr tree ≡ unplaced_expr e
  pub spells : Spells (An level tree) d ts rest

pub record AgainItems (b : Bool) (xs : Exprs) (d : ℕ) (ts rest : List Deep) : Type 0 where
  pub tree : Exprs
  pub same : unplaced_exprs tree ≡ unplaced_exprs xs
  pub spells : Spells (Items b tree) d ts rest

pub record AgainMore (b : Bool) (xs : Exprs) (d : ℕ) (ts rest : List Deep) : Type 0 where
  pub front : Exprs
  pub last : Expr
  pub same : unplaced_exprs (AndExpr front last) ≡ unplaced_exprs xs
  pub spells : Spells (Items b (AndExpr front last)) d ts rest

pub record AgainKeys (ps : Properties) (at : List ℕ) (d : ℕ) (ts rest : List Deep) : Type 0 where
  pub tree : Properties
  pub places : List ℕ
  pub same : unplaced_properties tree ≡ unplaced_properties ps
  pub as_many : zeros places ≡ zeros at
  pub spells : Spells (Keys tree places) d ts rest

pub record AgainMoreKeys (ps : Properties) (at : List ℕ) (d : ℕ) (ts rest : List Deep) : Type 0 where
  pub front : Properties
  pub key : List ℕ
  pub value : Expr
  pub places : List ℕ
  pub same : unplaced_properties (AndProperty front key value) ≡ unplaced_properties ps
  pub as_many : zeros places ≡ zeros at
  pub spells : Spells (Keys (AndProperty front key value) places) d ts rest

pub record AgainMaybe (v : OptionalExpr) (d : ℕ) (ts rest : List Deep) : Type 0 where
  pub tree : OptionalExpr
  pub same : unplaced_optional tree ≡ unplaced_optional v
  pub spells : Spells (Maybe tree) d ts rest

pub record AgainInit (b : Bool) (v : OptionalExpr) (d : ℕ) (ts rest : List Deep) : Type 0 where
  pub tree : OptionalExpr
  pub same : unplaced_optional tree ≡ unplaced_optional v
  pub spells : Spells (Init b tree) d ts rest

pub record AgainNames (xs : List Lexeme) (d : ℕ) (ts rest : List Deep) : Type 0 where
  pub names : List Lexeme
  pub same : bare_names names ≡ bare_names xs
  pub spells : Spells (Names names) d ts rest

pub record AgainMoreNames (xs : List Lexeme) (d : ℕ) (ts rest : List Deep) : Type 0 where
  pub first : Lexeme
  pub others : List Lexeme
  pub same : bare_names (first ∷ others) ≡ bare_names xs
  pub spells : Spells (Names (first ∷ others)) d ts rest

pub record AgainFun (w : Lexeme) (own : Option Lexeme) (f : Fun) (d : ℕ) (ts rest : List Deep) : Type 0 where
  pub tree : Fun
  pub same : unplaced_fun tree ≡ unplaced_fun f
  pub spells : Spells (Code w own tree) d ts rest

pub record AgainVars (b : Bool) (ds : Decls) (d : ℕ) (ts rest : List Deep) : Type 0 where
  pub front : Decls
  pub text : List ℕ
  pub at : ℕ
  pub value : OptionalExpr
  pub same : unplaced_decls (AndDecl front text at value) ≡ unplaced_decls ds
  pub spells : Spells (Vars b (AndDecl front text at value)) d ts rest

pub record AgainStmt (s : Stmt) (d : ℕ) (ts rest : List Deep) : Type 0 where
  pub tree : Stmt
  pub same : unplaced_stmt tree ≡ unplaced_stmt s
  pub spells : Spells (A tree) d ts rest

pub record AgainStmts (ss : Stmts) (d : ℕ) (ts rest : List Deep) : Type 0 where
  pub tree : Stmts
  pub same : unplaced_stmts tree ≡ unplaced_stmts ss
  pub spells : Spells (Statements tree) d ts rest

pub record AgainBlock (ss : Stmts) (d : ℕ) (ts rest : List Deep) : Type 0 where
  pub tree : Stmts
  pub same : unplaced_stmts tree ≡ unplaced_stmts ss
  pub spells : Spells (Block tree) d ts rest

pub record AgainCases (cs : Clauses) (d : ℕ) (ts rest : List Deep) : Type 0 where
  pub tree : Clauses
  pub same : unplaced_clauses tree ≡ unplaced_clauses cs
  pub spells : Spells (Cases tree) d ts rest

pub record AgainBody (ss : Stmts) (fs : Funs) (d : ℕ) (ts rest : List Deep) : Type 0 where
  pub body : Stmts
  pub funs : Funs
  pub same : unplaced_stmts body ≡ unplaced_stmts ss
  pub same_funs : unplaced_funs funs ≡ unplaced_funs fs
  pub spells : Spells (Body body funs) d ts rest

-- these tokens spell the thing, apart from places
abbrev pub Again : Thing → ℕ → List Deep → List Deep → Type 0
Again (An level e) d ts rest = AgainExpr level e d ts rest
Again (Items b NoExprs) d ts rest = Spells (Items b NoExprs) d ts rest
Again (Items b (AndExpr xs x)) d ts rest = AgainMore b (AndExpr xs x) d ts rest
Again (Keys NoProperties at) d ts rest = AgainKeys NoProperties at d ts rest
Again (Keys (AndProperty ps k v) at) d ts rest = AgainMoreKeys (AndProperty ps k v) at d ts rest
Again (Maybe v) d ts rest = AgainMaybe v d ts rest
Again (Names []) d ts rest = Spells (Names []) d ts rest
Again (Names (x ∷ xs)) d ts rest = AgainMoreNames (x ∷ xs) d ts rest
Again (Code w own f) d ts rest = (v : Lexeme) (named_so : Option Lexeme) → bare_own named_so ≡ bare_own own → AgainFun v named_so f d ts rest
Again (Init b v) d ts rest = AgainInit b v d ts rest
Again (Vars b ds) d ts rest = AgainVars b ds d ts rest
Again (A s) d ts rest = AgainStmt s d ts rest
Again (Statements ss) d ts rest = AgainStmts ss d ts rest
Again (Block ss) d ts rest = AgainBlock ss d ts rest
Again (Cases cs) d ts rest = AgainCases cs d ts rest
Again (Body ss fs) d ts rest = AgainBody ss fs d ts rest

expr : {level : Level} {e g : Expr} {d : ℕ} {ts rest : List Deep} → Spells (An level g) d ts rest → unplaced_expr g ≡ unplaced_expr e → AgainExpr level e d ts rest
expr {g = g} s e = record { tree = g; same = e; spells = s }

stmt : {s g : Stmt} {d : ℕ} {ts rest : List Deep} → Spells (A g) d ts rest → unplaced_stmt g ≡ unplaced_stmt s → AgainStmt s d ts rest
stmt {g = g} s e = record { tree = g; same = e; spells = s }

items_of : (b : Bool) (xs : Exprs) (d : ℕ) (ts rest : List Deep) → Again (Items b xs) d ts rest → AgainItems b xs d ts rest
items_of b NoExprs d ts rest a = record { tree = NoExprs; same = refl; spells = a }
items_of b (AndExpr xs x) d ts rest a = record { tree = AndExpr a.front a.last; same = a.same; spells = a.spells }

keys_of : (ps : Properties) (at : List ℕ) (d : ℕ) (ts rest : List Deep) → Again (Keys ps at) d ts rest → AgainKeys ps at d ts rest
keys_of NoProperties at d ts rest a = a
keys_of (AndProperty ps k v) at d ts rest a = record { tree = AndProperty a.front a.key a.value; places = a.places; same = a.same; as_many = a.as_many; spells = a.spells }

names_of : (xs : List Lexeme) (d : ℕ) (ts rest : List Deep) → Again (Names xs) d ts rest → AgainNames xs d ts rest
names_of [] d ts rest a = record { names = []; same = refl; spells = a }
names_of (x ∷ xs) d ts rest a = record { names = a.first ∷ a.others; same = a.same; spells = a.spells }

-- functions that agree in their parts
fun_same : (w v : Lexeme) (own named_so : Option Lexeme) (xs ys : List Lexeme) (ss rs : Stmts) (fs gs : Funs) → bare_own named_so ≡ bare_own own → bare_names ys ≡ bare_names xs → unplaced_stmts rs ≡ unplaced_stmts ss → unplaced_funs gs ≡ unplaced_funs fs
    → unplaced_fun (fun_of v named_so ys rs gs) ≡ unplaced_fun (fun_of w own xs ss fs)
fun_same w v own named_so xs ys ss rs fs gs o n s f =
    sym (fun_bare v named_so ys rs gs) ∙ (λ i. fun_of (bare w) (o i) (n i) (s i) (f i)) ∙ fun_bare w own xs ss fs

default_same : (cs gs : Clauses) → unplaced_clauses gs ≡ unplaced_clauses cs → has_default cs ≡ false → has_default gs ≡ false
default_same cs gs e one = sym (default_bare gs) ∙ ap has_default e ∙ default_bare cs ∙ one

module _ (place : ℕ → ℕ) where
  pub moves : {thing : Thing} {d : ℕ} {ts rest : List Deep} → Spells thing d ts rest → Again thing d (moved place ts) (moved place rest)
  unfolding unplaced_exprs
  moves name = expr name refl
  moves number = expr number refl
  moves string = expr string refl
  moves this = expr this refl
  moves null = expr null refl
  moves true_word = expr true_word refl
  moves false_word = expr false_word refl
  moves (paren s) = let a = moves s in expr (paren a.spells) a.same
  moves (array {xs = xs} s) = let a = items_of false xs _ _ _ (moves s) in expr (array a.spells) (λ i. ExprAt 0 [] (Array (a.same i)))
  moves (object {ps = ps} {at} s) = let a = keys_of ps at _ _ _ (moves s) in expr (object a.spells) (λ i. ExprAt 0 (a.as_many i) (Object (a.same i)))
  moves (unnamed {w = w} s) = let a = moves s _ None refl in expr (unnamed a.spells) (λ i. ExprAt 0 [] (Function (a.same i)))
  moves (named {x = x} s) = let a = moves s _ (Some _) refl in expr (named a.spells) (λ i. ExprAt 0 [] (Function (a.same i)))
  moves (operand s) = let a = moves s in expr (operand a.spells) a.same
  moves (operand_dot {x = x} s) = let a = moves s in expr (operand_dot a.spells) (λ i. ExprAt 0 (0 ∷ []) (Dot (a.same i) x.text))
  moves (operand_sub s t) = let a = moves s in let b = moves t in expr (operand_sub a.spells b.spells) (λ i. ExprAt 0 [] (Sub (a.same i) (b.same i)))
  moves (left_hand s) = let a = moves s in expr (left_hand a.spells) a.same
  moves (dot {x = x} s) = let a = moves s in expr (dot a.spells) (λ i. ExprAt 0 (0 ∷ []) (Dot (a.same i) x.text))
  moves (sub s t) = let a = moves s in let b = moves t in expr (sub a.spells b.spells) (λ i. ExprAt 0 [] (Sub (a.same i) (b.same i)))
  moves (call {xs = xs} s t) = let a = moves s in let b = items_of false xs _ _ _ (moves t) in expr (call a.spells b.spells) (λ i. ExprAt 0 [] (Call (a.same i) (b.same i)))
  moves (new_with {xs = xs} s t) = let a = moves s in let b = items_of false xs _ _ _ (moves t) in expr (new_with a.spells b.spells) (λ i. ExprAt 0 [] (New (a.same i) (b.same i)))
  moves (new_alone {rest = rest} s h) = let a = moves s in expr (new_alone a.spells (goes_moved place rest ∙ h)) (λ i. ExprAt 0 [] (New (a.same i) NoExprs))
  moves (unary s) = let a = moves s in expr (unary a.spells) a.same
  moves (post_step {o = o} is s) = let a = moves s in expr (post_step is a.spells) (λ i. ExprAt 0 [] (Step o (a.same i)))
  moves (before_operand {o = prefixes.Unary o} is s) = let a = moves s in expr (before_operand is a.spells) (λ i. ExprAt 0 [] (Unary o (a.same i)))
  moves (before_operand {o = prefixes.Step o} is s) = let a = moves s in expr (before_operand is a.spells) (λ i. ExprAt 0 [] (Step o (a.same i)))
  moves (operators s) = let a = moves s in expr (operators a.spells) a.same
  moves (looser s) = let a = moves s in expr (looser a.spells) a.same
  moves (between {o = infixes.Binary o} is s t) = let a = moves s in let b = moves t in expr (between is a.spells b.spells) (λ i. ExprAt 0 [] (Binary o (a.same i) (b.same i)))
  moves (between {o = infixes.And} is s t) = let a = moves s in let b = moves t in expr (between is a.spells b.spells) (λ i. ExprAt 0 [] (And (a.same i) (b.same i)))
  moves (between {o = infixes.Or} is s t) = let a = moves s in let b = moves t in expr (between is a.spells b.spells) (λ i. ExprAt 0 [] (Or (a.same i) (b.same i)))
  moves (assignment s) = let a = moves s in expr (assignment a.spells) a.same
  moves (choice s t u) = let a = moves s in let b = moves t in let c = moves u in expr (choice a.spells b.spells c.spells) (λ i. ExprAt 0 [] (Cond (a.same i) (b.same i) (c.same i)))
  moves (assign {o = o} is s t) = let a = moves s in let b = moves t in expr (assign is a.spells b.spells) (λ i. ExprAt 0 [] (Assign o (a.same i) (b.same i)))
  moves (whole s) = let a = moves s in expr (whole a.spells) a.same
  moves (comma s t) = let a = moves s in let b = moves t in expr (comma a.spells b.spells) (λ i. ExprAt 0 [] (Comma (a.same i) (b.same i)))
  moves no_items = no_items
  moves (first_item s) = let a = moves s in record { front = NoExprs; last = a.tree; same = λ i. AndExpr NoExprs (a.same i); spells = first_item a.spells }
  moves (next_item s t) = let a = moves s in let b = moves t in record { front = AndExpr a.front a.last; last = b.tree; same = λ i. AndExpr (a.same i) (b.same i); spells = next_item a.spells b.spells }
  moves no_keys = record { tree = NoProperties; places = []; same = refl; as_many = refl; spells = no_keys }
  moves (first_key {x = x} is s) = let a = moves s in record { front = NoProperties; key = x.text; value = a.tree; places = _; same = λ i. AndProperty NoProperties x.text (a.same i); as_many = refl; spells = first_key is a.spells }
  moves (next_key {at = at} {x = x} s is t) =
      let a = moves s in
      let b = moves t in
      record {
        front = AndProperty a.front a.key a.value;
        key = x.text;
        value = b.tree;
        places = _;
        same = λ i. AndProperty (a.same i) x.text (b.same i);
        as_many = zeros_append a.places (_ ∷ []) ∙ (λ i. a.as_many i ++ 0 ∷ []) ∙ sym (zeros_append at (x.at ∷ []));
        spells = next_key a.spells is b.spells;
      }
  moves nothing = record { tree = NoExpr; same = refl; spells = nothing }
  moves (something s) = let a = moves s in record { tree = SomeExpr a.tree; same = λ i. SomeExpr (a.same i); spells = something a.spells }
  moves no_names = no_names
  moves first_name = record { first = _; others = []; same = refl; spells = first_name }
  moves (next_name {y} {x = x} {xs} s) =
      let a = moves s in
      record {
        first = a.first;
        others = _;
        same = names_append (a.first ∷ a.others) (_ ∷ []) ∙ (λ i. a.same i ++ bare x ∷ []) ∙ sym (names_append (y ∷ xs) (x ∷ []));
        spells = next_name a.spells;
      }
  moves (code {w} {own} {params} {body} {funs} s t) = λ v named_so so.
      let a = names_of params _ _ _ (moves s) in
      let b = moves t in
      record {
        tree = fun_of v named_so a.names b.body b.funs;
        same = fun_same w v own named_so params a.names body b.body funs b.funs so a.same b.same b.same_funs;
        spells = code a.spells b.spells;
      }
  moves empty_body = record { body = NoStmts; funs = NoFuns; same = refl; same_funs = refl; spells = empty_body }
  moves (body_statement s t) = let a = moves s in let b = moves t in record { body = AndStmt a.body b.tree; funs = a.funs; same = λ i. AndStmt (a.same i) (b.same i); same_funs = a.same_funs; spells = body_statement a.spells b.spells }
  moves (body_function {x = x} s t) = let a = moves s in let b = moves t _ (Some _) refl in record { body = a.body; funs = AndFun a.funs b.tree; same = a.same; same_funs = λ i. AndFun (a.same_funs i) (b.same i); spells = body_function a.spells b.spells }
  moves no_statement = record { tree = NoStmts; same = refl; spells = no_statement }
  moves (next_statement s t) = let a = moves s in let b = moves t in record { tree = AndStmt a.tree b.tree; same = λ i. AndStmt (a.same i) (b.same i); spells = next_statement a.spells b.spells }
  moves (block s) = let a = moves s in record { tree = a.tree; same = a.same; spells = block a.spells }
  moves no_init = record { tree = NoExpr; same = refl; spells = no_init }
  moves (init s) = let a = moves s in record { tree = SomeExpr a.tree; same = λ i. SomeExpr (a.same i); spells = init a.spells }
  moves (first_var {x = x} s) = let a = moves s in record { front = NoDecls; text = x.text; at = _; value = a.tree; same = λ i. AndDecl NoDecls x.text 0 (a.same i); spells = first_var a.spells }
  moves (next_var {x = x} s t) = let a = moves s in let b = moves t in record { front = AndDecl a.front a.text a.at a.value; text = x.text; at = _; value = b.tree; same = λ i. AndDecl (a.same i) x.text 0 (b.same i); spells = next_var a.spells b.spells }
  moves (variables s) = let a = moves s in stmt (variables a.spells) (λ i. StmtAt 0 [] (Var (a.same i)))
  moves (only is s) = let a = moves s in stmt (only is a.spells) (λ i. StmtAt 0 [] (Only (a.same i)))
  moves (if_alone s t) = let a = moves s in let b = moves t in stmt (if_alone a.spells b.spells) (λ i. StmtAt 0 [] (If (a.same i) (b.same i) NoStmts))
  moves (if_else s t u) = let a = moves s in let b = moves t in let c = moves u in stmt (if_else a.spells b.spells c.spells) (λ i. StmtAt 0 [] (If (a.same i) (b.same i) (c.same i)))
  moves (else_if s t u) = let a = moves s in let b = moves t in let c = moves u in stmt (else_if a.spells b.spells c.spells) (λ i. StmtAt 0 [] (If (a.same i) (b.same i) (AndStmt NoStmts (c.same i))))
  moves (while_loop s t) = let a = moves s in let b = moves t in stmt (while_loop a.spells b.spells) (λ i. StmtAt 0 [] (While (a.same i) (b.same i)))
  moves (do_loop s t) = let a = moves s in let b = moves t in stmt (do_loop a.spells b.spells) (λ i. StmtAt 0 [] (DoWhile (b.same i) (a.same i)))
  moves (for_vars {xs = xs} s t u v) = let a = moves s in let b = moves t in let c = items_of false xs _ _ _ (moves u) in let e = moves v in stmt (for_vars a.spells b.spells c.spells e.spells) (λ i. StmtAt 0 [] (For (DeclsFirst (a.same i)) (b.same i) (c.same i) (e.same i)))
  moves (for_items {is = is} {xs = xs} s t u v) = let a = items_of true is _ _ _ (moves s) in let b = moves t in let c = items_of false xs _ _ _ (moves u) in let e = moves v in stmt (for_items a.spells b.spells c.spells e.spells) (λ i. StmtAt 0 [] (For (ExprsFirst (a.same i)) (b.same i) (c.same i) (e.same i)))
  moves (for_in {x = x} s t) = let a = moves s in let b = moves t in stmt (for_in a.spells b.spells) (λ i. StmtAt 0 (0 ∷ []) (ForIn false x.text (a.same i) (b.same i)))
  moves (for_var_in {x = x} s t) = let a = moves s in let b = moves t in stmt (for_var_in a.spells b.spells) (λ i. StmtAt 0 (0 ∷ []) (ForIn true x.text (a.same i) (b.same i)))
  moves continue_loop = stmt continue_loop refl
  moves continue_label = stmt continue_label refl
  moves break_loop = stmt break_loop refl
  moves break_label = stmt break_label refl
  moves (returns s) = let a = moves s in stmt (returns a.spells) (λ i. StmtAt 0 [] (Return (a.same i)))
  moves (throws s) = let a = moves s in stmt (throws a.spells) (λ i. StmtAt 0 [] (Throw (a.same i)))
  moves (with_object s t) = let a = moves s in let b = moves t in stmt (with_object a.spells b.spells) (λ i. StmtAt 0 [] (With (a.same i) (b.same i)))
  moves (switch s t) = let a = moves s in let b = moves t in stmt (switch a.spells b.spells) (λ i. StmtAt 0 [] (Switch (a.same i) (b.same i)))
  moves no_case = record { tree = NoClauses; same = refl; spells = no_case }
  moves (next_case s t u) = let a = moves s in let b = moves t in let c = moves u in record { tree = AndClause a.tree (SomeExpr b.tree) c.tree; same = λ i. AndClause (a.same i) (SomeExpr (b.same i)) (c.same i); spells = next_case a.spells b.spells c.spells }
  moves (default_case {cs = cs} one s t) = let a = moves s in let b = moves t in record { tree = AndClause a.tree NoExpr b.tree; same = λ i. AndClause (a.same i) NoExpr (b.same i); spells = default_case (default_same cs a.tree a.same one) a.spells b.spells }
  moves (label {x = x} s) = let a = moves s in stmt (label a.spells) (λ i. StmtAt 0 (0 ∷ []) (Label x.text (a.same i)))
  moves (try_catch {x = x} s t) = let a = moves s in let b = moves t in stmt (try_catch a.spells b.spells) (λ i. StmtAt 0 (0 ∷ []) (Try (a.same i) (CatchAs x.text (b.same i)) NoBlock))
  moves (try_finally s t) = let a = moves s in let b = moves t in stmt (try_finally a.spells b.spells) (λ i. StmtAt 0 [] (Try (a.same i) NoCatch (SomeBlock (b.same i))))
  moves (try_both {x = x} s t u) = let a = moves s in let b = moves t in let c = moves u in stmt (try_both a.spells b.spells c.spells) (λ i. StmtAt 0 (0 ∷ []) (Try (a.same i) (CatchAs x.text (b.same i)) (SomeBlock (c.same i))))
