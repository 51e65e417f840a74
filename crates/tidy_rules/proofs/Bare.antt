-- What the rules ask of a node is the same where its places are forgotten.
use Rattle.std.proofs.Common.{◌≡◌, ℕ, List, [], ◌∷◌, ◌++◌, refl, sym, ap, ◌∙◌, Bool, true, false, ◌&&◌, Some, None}
use Rattle.std.specs.Prelude.{map, codes, not, if◌then◌else◌, option_to_list}
use Rattle.js_tree.specs.Plain.{Expr, ExprAt, ExprForm, Num, Str, Name, Constant, Array, Object, Dot, Sub, Call, New, Step, Unary, Binary, Assign, Exprs, NoExprs, AndExpr, OptionalExpr, NoExpr, SomeExpr, Properties, NoProperties, AndProperty, Decls, NoDecls, AndDecl, ForInit, DeclsFirst, ExprsFirst, Stmt, StmtAt, StmtForm, Var, Only, If, While, DoWhile, For, ForIn, Continue, Break, Return, With, Switch, Try, Stmts, NoStmts, AndStmt, OptionalBlock, NoBlock, SomeBlock, Catch, NoCatch, CatchAs, Clauses, NoClauses, AndClause, Fun, FunAt, Funs, NoFuns, AndFun, expr_place}
use Rattle.js_tree.specs.Parts.{Spot, AnExpr, AStmt, AFun, exprs_spots, stmts_spots, funs_spots, optional_spots, properties_spots, decls_spots, init_spots, catch_spots, block_spots}
use Rattle.js_grammar.specs.Unplaced.{unplaced_expr, unplaced_form, unplaced_exprs, unplaced_optional, unplaced_properties, unplaced_decls, unplaced_init, unplaced_stmt, unplaced_stmt_form, unplaced_stmts, unplaced_block, unplaced_catch, unplaced_clauses, unplaced_fun, unplaced_funs}
use Rattle.first_breach.proofs.Members.{map_append}
use Rattle.node_rules.specs.declared.enclosing.Jumps.{Jumps}
use Rattle.adsafe_rules.specs.Words.{is_callable}
use Rattle.adsafe_rules.specs.Names.{Named, named, placed, literal, variable, keys, declared_names, first_names, variables, uses, binders, properties, targets}
use Rattle.adsafe_rules.specs.Forms.{is_name, is_string, is_this, is_subscript, wrong_subscripts, is_adsafe, is_allowed_callee, is_of_math, is_with, is_loose_equality, is_bitwise, is_typed, is_dropping, is_wrong_number, is_act, is_idle, is_target, is_property, is_delete, wrong_targets, is_text, is_directive}
use Rattle.adsafe_rules.specs.Binding.{blocks, own_name, function_names, stmt_jumps, jumps_in, jumps_from, is_stray}
use Rattle.adsafe_rules.specs.Parts.{tests, bodies, after_directive, expr_parts_of, stmt_parts_outside, stmt_parts_inside, outer, inner}

abbrev pub bare : Spot → Spot
bare (AnExpr e) = AnExpr (unplaced_expr e)
bare (AStmt s) = AStmt (unplaced_stmt s)
bare (AFun g) = AFun (unplaced_fun g)

abbrev pub texts : List Named → List (List ℕ)
texts l = map (λ (x : Named). x.text) l

abbrev pub zero_of : ℕ → ℕ
zero_of n = 0

joined : (x y : List Spot) (a b : List Spot) → a ≡ map bare x → b ≡ map bare y → a ++ b ≡ map bare (x ++ y)
joined x y a b e d = ap (λ l. l ++ b) e ∙ ap (λ l. map bare x ++ l) d ∙ sym (map_append bare x y)

pub joined_texts : (x y a b : List Named) → texts a ≡ texts x → texts b ≡ texts y → texts (a ++ b) ≡ texts (x ++ y)
joined_texts x y a b e d = map_append (λ (n : Named). n.text) a b ∙ ap (λ l. l ++ texts b) e ∙ ap (λ l. texts x ++ l) d ∙ sym (map_append (λ (n : Named). n.text) x y)

-- lists of parts
pub exprs_bare : (xs : Exprs) → exprs_spots (unplaced_exprs xs) ≡ map bare (exprs_spots xs)
unfolding unplaced_exprs
exprs_bare NoExprs = refl
exprs_bare (AndExpr xs x) = joined (exprs_spots xs) (AnExpr x ∷ []) (exprs_spots (unplaced_exprs xs)) (AnExpr (unplaced_expr x) ∷ []) (exprs_bare xs) refl

pub stmts_bare : (ss : Stmts) → stmts_spots (unplaced_stmts ss) ≡ map bare (stmts_spots ss)
unfolding unplaced_exprs
stmts_bare NoStmts = refl
stmts_bare (AndStmt ss s) = joined (stmts_spots ss) (AStmt s ∷ []) (stmts_spots (unplaced_stmts ss)) (AStmt (unplaced_stmt s) ∷ []) (stmts_bare ss) refl

funs_bare : (fs : Funs) → funs_spots (unplaced_funs fs) ≡ map bare (funs_spots fs)
unfolding unplaced_exprs
funs_bare NoFuns = refl
funs_bare (AndFun fs g) = joined (funs_spots fs) (AFun g ∷ []) (funs_spots (unplaced_funs fs)) (AFun (unplaced_fun g) ∷ []) (funs_bare fs) refl

optional_bare : (v : OptionalExpr) → optional_spots (unplaced_optional v) ≡ map bare (optional_spots v)
unfolding unplaced_exprs
optional_bare NoExpr = refl
optional_bare (SomeExpr e) = refl

properties_bare : (ps : Properties) → properties_spots (unplaced_properties ps) ≡ map bare (properties_spots ps)
unfolding unplaced_exprs
properties_bare NoProperties = refl
properties_bare (AndProperty ps key e) = joined (properties_spots ps) (AnExpr e ∷ []) (properties_spots (unplaced_properties ps)) (AnExpr (unplaced_expr e) ∷ []) (properties_bare ps) refl

decls_bare : (ds : Decls) → decls_spots (unplaced_decls ds) ≡ map bare (decls_spots ds)
unfolding unplaced_exprs
decls_bare NoDecls = refl
decls_bare (AndDecl ds text at v) = joined (decls_spots ds) (optional_spots v) (decls_spots (unplaced_decls ds)) (optional_spots (unplaced_optional v)) (decls_bare ds) (optional_bare v)

init_bare : (i : ForInit) → init_spots (unplaced_init i) ≡ map bare (init_spots i)
unfolding unplaced_exprs
init_bare (DeclsFirst ds) = decls_bare ds
init_bare (ExprsFirst xs) = exprs_bare xs

catch_bare : (c : Catch) → catch_spots (unplaced_catch c) ≡ map bare (catch_spots c)
unfolding unplaced_exprs
catch_bare NoCatch = refl
catch_bare (CatchAs text ss) = stmts_bare ss

block_bare : (b : OptionalBlock) → block_spots (unplaced_block b) ≡ map bare (block_spots b)
unfolding unplaced_exprs
block_bare NoBlock = refl
block_bare (SomeBlock ss) = stmts_bare ss

tests_bare : (cs : Clauses) → tests (unplaced_clauses cs) ≡ map bare (tests cs)
unfolding unplaced_exprs
tests_bare NoClauses = refl
tests_bare (AndClause cs test ss) = joined (tests cs) (optional_spots test) (tests (unplaced_clauses cs)) (optional_spots (unplaced_optional test)) (tests_bare cs) (optional_bare test)

bodies_bare : (cs : Clauses) → bodies (unplaced_clauses cs) ≡ map bare (bodies cs)
unfolding unplaced_exprs
bodies_bare NoClauses = refl
bodies_bare (AndClause cs test ss) = joined (bodies cs) (stmts_spots ss) (bodies (unplaced_clauses cs)) (stmts_spots (unplaced_stmts ss)) (bodies_bare cs) (stmts_bare ss)

-- tests of one expression
pub name_bare : (text : List ℕ) (e : Expr) → is_name text (unplaced_expr e) ≡ is_name text e
unfolding unplaced_exprs
name_bare text (ExprAt at names (Name x)) = refl
name_bare text (ExprAt at names form) = refl

pub string_bare : (e : Expr) → is_string (unplaced_expr e) ≡ is_string e
unfolding unplaced_exprs
string_bare (ExprAt at names (Str x)) = refl
string_bare (ExprAt at names form) = refl

text_bare : (text : List ℕ) (e : Expr) → is_text text (unplaced_expr e) ≡ is_text text e
unfolding unplaced_exprs
text_bare text (ExprAt at names (Str x)) = refl
text_bare text (ExprAt at names form) = refl

subscript_bare : (e : Expr) → is_subscript (unplaced_expr e) ≡ is_subscript e
unfolding unplaced_exprs
subscript_bare (ExprAt at names (Num x)) = refl
subscript_bare (ExprAt at names form) = refl

callee_bare : (e : Expr) → is_allowed_callee (unplaced_expr e) ≡ is_allowed_callee e
unfolding unplaced_exprs
callee_bare (ExprAt at names (Dot e x)) = ap (λ b. b && is_callable x) (name_bare (codes "ADSAFE") e)
callee_bare (ExprAt at names form) = refl

act_bare : (e : Expr) → is_act (unplaced_expr e) ≡ is_act e
unfolding unplaced_exprs
act_bare (ExprAt at names (Assign op a b)) = refl
act_bare (ExprAt at names form) = refl

target_bare : (e : Expr) → is_target (unplaced_expr e) ≡ is_target e
unfolding unplaced_exprs
target_bare (ExprAt at names (Name x)) = refl
target_bare (ExprAt at names form) = refl

property_bare : (e : Expr) → is_property (unplaced_expr e) ≡ is_property e
unfolding unplaced_exprs
property_bare (ExprAt at names (Dot e x)) = refl
property_bare (ExprAt at names form) = refl

directive_bare : (s : Stmt) → is_directive (unplaced_stmt s) ≡ is_directive s
unfolding unplaced_exprs
directive_bare (StmtAt at names (Only e)) = text_bare (codes "use strict") e
directive_bare (StmtAt at names form) = refl

-- tests of one node by its form
pub this_bare : (form : ExprForm) → is_this (unplaced_form form) ≡ is_this form
unfolding unplaced_exprs
this_bare (Constant w) = refl
this_bare form = refl

pub adsafe_bare : (form : ExprForm) → is_adsafe (unplaced_form form) ≡ is_adsafe form
unfolding unplaced_exprs
adsafe_bare (Name x) = refl
adsafe_bare form = refl

pub math_bare : (form : ExprForm) → is_of_math (unplaced_form form) ≡ is_of_math form
unfolding unplaced_exprs
math_bare (Dot e x) = name_bare (codes "Math") e
math_bare (Sub e key) = name_bare (codes "Math") e
math_bare form = refl

pub loose_bare : (form : ExprForm) → is_loose_equality (unplaced_form form) ≡ is_loose_equality form
unfolding unplaced_exprs
loose_bare (Binary op a b) = refl
loose_bare form = refl

pub bitwise_bare : (form : ExprForm) → is_bitwise (unplaced_form form) ≡ is_bitwise form
unfolding unplaced_exprs
bitwise_bare (Unary op e) = refl
bitwise_bare form = refl

pub typed_bare : (form : ExprForm) → is_typed (unplaced_form form) ≡ is_typed form
unfolding unplaced_exprs
typed_bare (New e xs) = refl
typed_bare form = refl

pub dropping_bare : (form : ExprForm) → is_dropping (unplaced_form form) ≡ is_dropping form
unfolding unplaced_exprs
dropping_bare (Unary op e) = refl
dropping_bare form = refl

pub number_bare : (form : ExprForm) → is_wrong_number (unplaced_form form) ≡ is_wrong_number form
unfolding unplaced_exprs
number_bare (Num x) = refl
number_bare form = refl

pub with_bare : (form : StmtForm) → is_with (unplaced_stmt_form form) ≡ is_with form
unfolding unplaced_exprs
with_bare (With e body) = refl
with_bare form = refl

pub idle_bare : (form : StmtForm) → is_idle (unplaced_stmt_form form) ≡ is_idle form
unfolding unplaced_exprs
idle_bare (Only e) = ap not (act_bare e)
idle_bare form = refl

pub stray_bare : (j : Jumps) (form : StmtForm) → is_stray j (unplaced_stmt_form form) ≡ is_stray j form
unfolding unplaced_exprs
stray_bare j (Break (Some x)) = refl
stray_bare j (Break None) = refl
stray_bare j (Continue (Some x)) = refl
stray_bare j (Continue None) = refl
stray_bare j form = refl

-- places of what is wrong: as many
same_zero : (t : Bool) (x y : ℕ) → map zero_of (if t then [] else x ∷ []) ≡ map zero_of (if t then [] else y ∷ [])
same_zero true x y = refl
same_zero false x y = refl

if_zero : (b c : Bool) (x y : ℕ) → b ≡ c → map zero_of (if b then [] else x ∷ []) ≡ map zero_of (if c then [] else y ∷ [])
if_zero b c x y e = ap (λ t. map zero_of (if t then [] else x ∷ [])) e ∙ same_zero c x y

if_delete : (d b c : Bool) (x y : ℕ) → b ≡ c → map zero_of (if d then (if b then [] else x ∷ []) else []) ≡ map zero_of (if d then (if c then [] else y ∷ []) else [])
if_delete true b c x y e = if_zero b c x y e
if_delete false b c x y e = refl

pub subscripts_bare : (form : ExprForm) → map zero_of (wrong_subscripts (unplaced_form form)) ≡ map zero_of (wrong_subscripts form)
unfolding unplaced_exprs
subscripts_bare (Sub e key) = if_zero (is_subscript (unplaced_expr key)) (is_subscript key) (expr_place (unplaced_expr key)) (expr_place key) (subscript_bare key)
subscripts_bare form = refl

pub wrong_targets_bare : (form : ExprForm) → map zero_of (wrong_targets (unplaced_form form)) ≡ map zero_of (wrong_targets form)
unfolding unplaced_exprs
wrong_targets_bare (Assign op a b) = if_zero (is_target (unplaced_expr a)) (is_target a) (expr_place (unplaced_expr a)) (expr_place a) (target_bare a)
wrong_targets_bare (Step op a) = if_zero (is_target (unplaced_expr a)) (is_target a) (expr_place (unplaced_expr a)) (expr_place a) (target_bare a)
wrong_targets_bare (Unary op a) = if_delete (is_delete op) (is_property (unplaced_expr a)) (is_property a) (expr_place (unplaced_expr a)) (expr_place a) (property_bare a)
wrong_targets_bare form = refl

-- names
placed_texts : (at : ℕ) (places : List ℕ) (xs : List (List ℕ)) → texts (placed at places xs) ≡ xs
placed_texts at places [] = refl
placed_texts at [] (x ∷ xs) = ap (λ l. x ∷ l) (placed_texts at [] xs)
placed_texts at (p ∷ places) (x ∷ xs) = ap (λ l. x ∷ l) (placed_texts at places xs)

two_placed : (at to : ℕ) (places others : List ℕ) (xs : List (List ℕ)) → texts (placed at places xs) ≡ texts (placed to others xs)
two_placed at to places others xs = placed_texts at places xs ∙ sym (placed_texts to others xs)

variable_bare : (e : Expr) → texts (variable (unplaced_expr e)) ≡ texts (variable e)
unfolding unplaced_exprs
variable_bare (ExprAt at names (Name x)) = refl
variable_bare (ExprAt at names form) = refl

pub literal_bare : (e : Expr) → texts (literal (unplaced_expr e)) ≡ texts (literal e)
unfolding unplaced_exprs
literal_bare (ExprAt at names (Str x)) = refl
literal_bare (ExprAt at names form) = refl

keys_bare : (ps : Properties) → keys (unplaced_properties ps) ≡ keys ps
unfolding unplaced_exprs
keys_bare NoProperties = refl
keys_bare (AndProperty ps key e) = ap (λ l. l ++ key ∷ []) (keys_bare ps)

declared_bare : (ds : Decls) → texts (declared_names (unplaced_decls ds)) ≡ texts (declared_names ds)
unfolding unplaced_exprs
declared_bare NoDecls = refl
declared_bare (AndDecl ds x at e) = joined_texts (declared_names ds) (named x at ∷ []) (declared_names (unplaced_decls ds)) (named x 0 ∷ []) (declared_bare ds) refl

first_bare : (i : ForInit) → texts (first_names (unplaced_init i)) ≡ texts (first_names i)
unfolding unplaced_exprs
first_bare (DeclsFirst ds) = declared_bare ds
first_bare (ExprsFirst xs) = refl

pub variables_bare : (at to : ℕ) (names others : List ℕ) (form : StmtForm) → texts (variables at names (unplaced_stmt_form form)) ≡ texts (variables to others form)
unfolding unplaced_exprs
variables_bare at to names others (Var ds) = declared_bare ds
variables_bare at to names others (For i test next body) = first_bare i
variables_bare at to names others (ForIn true x e body) = two_placed at to names others (x ∷ [])
variables_bare at to names others (ForIn false x e body) = refl
variables_bare at to names others form = refl

pub uses_bare : (n : Spot) → texts (uses (bare n)) ≡ texts (uses n)
unfolding unplaced_exprs
uses_bare (AnExpr e) = variable_bare e
uses_bare (AStmt (StmtAt at names (ForIn true x e body))) = refl
uses_bare (AStmt (StmtAt at names (ForIn false x e body))) = two_placed 0 at _ names (x ∷ [])
uses_bare (AStmt (StmtAt at names form)) = refl
uses_bare (AFun g) = refl

pub binders_bare : (n : Spot) → texts (binders (bare n)) ≡ texts (binders n)
unfolding unplaced_exprs
binders_bare (AnExpr e) = refl
binders_bare (AStmt (StmtAt at names (Try body (CatchAs x ss) last))) = two_placed 0 at _ names (x ∷ [])
binders_bare (AStmt (StmtAt at names (Try body NoCatch last))) = refl
binders_bare (AStmt (StmtAt at names (Var ds))) = declared_bare ds
binders_bare (AStmt (StmtAt at names (For i test next body))) = first_bare i
binders_bare (AStmt (StmtAt at names (ForIn true x e body))) = two_placed 0 at _ names (x ∷ [])
binders_bare (AStmt (StmtAt at names (ForIn false x e body))) = refl
binders_bare (AStmt (StmtAt at names form)) = refl
binders_bare (AFun (FunAt at names own params body funs)) = two_placed 0 at _ names (option_to_list own ++ params)

pub named_properties_bare : (n : Spot) → texts (properties (bare n)) ≡ texts (properties n)
unfolding unplaced_exprs
named_properties_bare (AnExpr (ExprAt at names (Dot e x))) = two_placed 0 at _ names (x ∷ [])
named_properties_bare (AnExpr (ExprAt at names (Object ps))) = placed_texts 0 _ (keys (unplaced_properties ps)) ∙ keys_bare ps ∙ sym (placed_texts at names (keys ps))
named_properties_bare (AnExpr (ExprAt at names (Sub e key))) = literal_bare key
named_properties_bare (AnExpr (ExprAt at names form)) = refl
named_properties_bare (AStmt s) = refl
named_properties_bare (AFun g) = refl

pub targets_bare : (n : Spot) → texts (targets (bare n)) ≡ texts (targets n)
unfolding unplaced_exprs
targets_bare (AnExpr (ExprAt at names (Assign op a b))) = variable_bare a
targets_bare (AnExpr (ExprAt at names (Step op a))) = variable_bare a
targets_bare (AnExpr (ExprAt at names form)) = refl
targets_bare (AStmt (StmtAt at names (ForIn true x e body))) = refl
targets_bare (AStmt (StmtAt at names (ForIn false x e body))) = two_placed 0 at _ names (x ∷ [])
targets_bare (AStmt (StmtAt at names form)) = refl
targets_bare (AFun g) = refl

-- parts
same_bare : (t : Bool) (e : Expr) → (if t then [] else AnExpr (unplaced_expr e) ∷ []) ≡ map bare (if t then [] else AnExpr e ∷ [])
same_bare true e = refl
same_bare false e = refl

if_bare : (b c : Bool) (e : Expr) → b ≡ c → (if b then [] else AnExpr (unplaced_expr e) ∷ []) ≡ map bare (if c then [] else AnExpr e ∷ [])
if_bare b c e is = ap (λ t. if t then [] else AnExpr (unplaced_expr e) ∷ []) is ∙ same_bare c e

pub expr_parts_bare : (form : ExprForm) → expr_parts_of (unplaced_form form) ≡ map bare (expr_parts_of form)
unfolding unplaced_exprs
expr_parts_bare (Array xs) = exprs_bare xs
expr_parts_bare (Object ps) = properties_bare ps
expr_parts_bare (Call e xs) = joined (if is_allowed_callee e then [] else AnExpr e ∷ []) (exprs_spots xs) _ _ (if_bare (is_allowed_callee (unplaced_expr e)) (is_allowed_callee e) e (callee_bare e)) (exprs_bare xs)
expr_parts_bare (New e xs) = ap (λ l. AnExpr (unplaced_expr e) ∷ l) (exprs_bare xs)
expr_parts_bare form = refl

pub outside_bare : (form : StmtForm) → stmt_parts_outside (unplaced_stmt_form form) ≡ map bare (stmt_parts_outside form)
unfolding unplaced_exprs
outside_bare (Var ds) = decls_bare ds
outside_bare (If e a b) = ap (λ l. AnExpr (unplaced_expr e) ∷ l) (joined (stmts_spots a) (stmts_spots b) _ _ (stmts_bare a) (stmts_bare b))
outside_bare (For i test next body) = joined (init_spots i) (optional_spots test ++ exprs_spots next) _ _ (init_bare i) (joined (optional_spots test) (exprs_spots next) _ _ (optional_bare test) (exprs_bare next))
outside_bare (Return v) = optional_bare v
outside_bare (With e body) = ap (λ l. AnExpr (unplaced_expr e) ∷ l) (stmts_bare body)
outside_bare (Switch e cs) = ap (λ l. AnExpr (unplaced_expr e) ∷ l) (tests_bare cs)
outside_bare (Try body c last) = joined (stmts_spots body) (block_spots last) _ _ (stmts_bare body) (block_bare last)
outside_bare form = refl

pub inside_bare : (form : StmtForm) → stmt_parts_inside (unplaced_stmt_form form) ≡ map bare (stmt_parts_inside form)
unfolding unplaced_exprs
inside_bare (While e body) = stmts_bare body
inside_bare (DoWhile e body) = stmts_bare body
inside_bare (For i test next body) = stmts_bare body
inside_bare (ForIn declared x e body) = stmts_bare body
inside_bare (Switch e cs) = bodies_bare cs
inside_bare (Try body c last) = catch_bare c
inside_bare form = refl

pub blocks_bare : (form : StmtForm) → blocks (unplaced_stmt_form form) ≡ map bare (blocks form)
unfolding unplaced_exprs
blocks_bare (If e a b) = joined (stmts_spots a) (stmts_spots b) _ _ (stmts_bare a) (stmts_bare b)
blocks_bare (While e body) = stmts_bare body
blocks_bare (DoWhile e body) = stmts_bare body
blocks_bare (For i test next body) = stmts_bare body
blocks_bare (ForIn declared x e body) = stmts_bare body
blocks_bare (With e body) = stmts_bare body
blocks_bare (Switch e cs) = bodies_bare cs
blocks_bare (Try body c last) = joined (stmts_spots body) (catch_spots c ++ block_spots last) _ _ (stmts_bare body) (joined (catch_spots c) (block_spots last) _ _ (catch_bare c) (block_bare last))
blocks_bare form = refl

same_rest : (t : Bool) (s : Stmt) (l : List Spot) → (if t then map bare l else AStmt (unplaced_stmt s) ∷ map bare l) ≡ map bare (if t then l else AStmt s ∷ l)
same_rest true s l = refl
same_rest false s l = refl

if_rest : (b c : Bool) (s : Stmt) (l : List Spot) → b ≡ c → (if b then map bare l else AStmt (unplaced_stmt s) ∷ map bare l) ≡ map bare (if c then l else AStmt s ∷ l)
if_rest b c s l is = ap (λ t. if t then map bare l else AStmt (unplaced_stmt s) ∷ map bare l) is ∙ same_rest c s l

after_bare : (l : List Spot) → after_directive (map bare l) ≡ map bare (after_directive l)
after_bare [] = refl
after_bare (AStmt s ∷ l) = if_rest (is_directive (unplaced_stmt s)) (is_directive s) s l (directive_bare s)
after_bare (AnExpr e ∷ l) = refl
after_bare (AFun g ∷ l) = refl

pub outer_bare : (n : Spot) → outer (bare n) ≡ map bare (outer n)
unfolding unplaced_exprs
outer_bare (AnExpr (ExprAt at names form)) = expr_parts_bare form
outer_bare (AStmt (StmtAt at names form)) = outside_bare form
outer_bare (AFun g) = refl

pub inner_bare : (n : Spot) → inner (bare n) ≡ map bare (inner n)
unfolding unplaced_exprs
inner_bare (AnExpr e) = refl
inner_bare (AStmt (StmtAt at names form)) = inside_bare form
inner_bare (AFun (FunAt at names own params body funs)) = joined (funs_spots funs) (after_directive (stmts_spots body)) _ _ (funs_bare funs) (ap after_directive (stmts_bare body) ∙ after_bare (stmts_spots body))

-- names that functions bind, and jumps
pub own_bare : (g : Fun) → own_name (unplaced_fun g) ≡ own_name g
unfolding unplaced_exprs
own_bare (FunAt at names own params body funs) = refl

pub functions_bare : (fs : Funs) → function_names (unplaced_funs fs) ≡ function_names fs
unfolding unplaced_exprs
functions_bare NoFuns = refl
functions_bare (AndFun fs g) = ap (λ l. l ++ own_name (unplaced_fun g)) (functions_bare fs) ∙ ap (λ l. function_names fs ++ l) (own_bare g)

jump_bare : (j : Jumps) (form : StmtForm) → stmt_jumps j (unplaced_stmt_form form) ≡ stmt_jumps j form
unfolding unplaced_exprs
jump_bare j (While e body) = refl
jump_bare j form = refl

jumps_in_bare : (j : Jumps) (n : Spot) → jumps_in j (bare n) ≡ jumps_in j n
unfolding unplaced_exprs
jumps_in_bare j (AnExpr e) = refl
jumps_in_bare j (AStmt (StmtAt at names form)) = jump_bare j form
jumps_in_bare j (AFun g) = refl

pub jumps_bare : (j : Jumps) (l : List Spot) → jumps_from j (map bare l) ≡ jumps_from j l
jumps_bare j [] = refl
jumps_bare j (n ∷ l) = ap (λ k. jumps_from k (map bare l)) (jumps_in_bare j n) ∙ jumps_bare (jumps_in j n) l
