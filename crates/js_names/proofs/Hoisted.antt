-- The names that statements declare, by the statements' numbers.
use Rattle.std.proofs.Common.{◌≡◌, ℕ, suc, ◌+◌, ◌<◌, List, [], ◌∷◌, ◌++◌, refl, sym, ap, ◌∙◌, subst, arith, append-nil, append_assoc}
use Rattle.std.specs.Prelude.{reverse, All, Option, Some, None, if◌then◌else◌}
use Rattle.std.specs.List.{flat_map}
use Rattle.std.specs.declared.vec.Vec.{Vec}
use Rattle.std.specs.declared.alloc.Global.{Global}
use Rattle.std.proofs.lemmas.Grind.{flat_map-append}
use Rattle.std.proofs.lemmas.List.{reverse-append, reverse-reverse}
use Rattle.js_tree.specs.declared.nodes.StmtId.{StmtId}
use Rattle.js_tree.specs.declared.nodes.FunId.{FunId}
use Rattle.js_tree.specs.declared.nodes.Decl.{Decl}
use Rattle.js_tree.specs.declared.nodes.ForInit.{ForInit as InitNode}
use Rattle.js_tree.specs.declared.nodes.ForInit.TheVariants as init
use Rattle.js_tree.specs.declared.nodes.Clause.{Clause}
use Rattle.js_tree.specs.declared.nodes.Stmt.{Stmt as StmtNode}
use Rattle.js_tree.specs.declared.nodes.Stmt.TheVariants as stmt
use Rattle.js_tree.specs.Plain.{StmtAt, Stmts, NoStmts, AndStmt, Clauses, NoClauses, AndClause, Decls, NoDecls, AndDecl, Funs, NoFuns, AndFun}
use Rattle.js_tree.specs.Forest.{Forest, IsStmt, stmt_at, fun_at, stmts_more, stmts_at, funs_more, funs_at, optional_at, init_at, clauses_more, clauses_at, catch_at, block_at, decls_more, plain_stmt_form, AreStmtParts, AreClauseParts, AreCatch, AreBlock}
use Rattle.js_tree.specs.Parts.{stmt_size, stmt_form_size, stmts_size, block_size, catch_size, clauses_size}
use Rattle.js_tree.specs.Lists.{fun_list}
use Rattle.widget_meaning.specs.Scopes.{stmt_vars, form_vars, stmts_vars, block_vars, catch_vars, clauses_vars, decl_names, init_names, fun_name}
use Rattle.js_names.specs.Hoisting.{block_ids, catch_ids, clause_bodies, decl_texts, fun_texts, init_texts, last_ids, own_texts}

-- the `var` names of statements by their numbers
abbrev pub vars_of : Forest → List StmtId → List (List ℕ)
vars_of f ids = flat_map (λ id. stmt_vars (stmt_at f id)) ids

vars_append : (f : Forest) (a b : List StmtId) → vars_of f (a ++ b) ≡ vars_of f a ++ vars_of f b
vars_append f a b = flat_map-append (λ id. stmt_vars (stmt_at f id)) a b

vars_more : (f : Forest) (before : Stmts) (ids : List StmtId) → stmts_vars (stmts_more f before ids) ≡ stmts_vars before ++ vars_of f ids
unfolding stmts_vars
vars_more f before [] = sym (append-nil (stmts_vars before))
vars_more f before (id ∷ ids) = vars_more f (AndStmt before (stmt_at f id)) ids ∙ append_assoc (stmts_vars before) (stmt_vars (stmt_at f id)) (vars_of f ids)

pub vars_at : (f : Forest) (ids : List StmtId) → stmts_vars (stmts_at f ids) ≡ vars_of f ids
unfolding stmts_vars
vars_at f ids = vars_more f NoStmts ids

bodies_more : (f : Forest) (before : Clauses) (cs : List Clause) → clauses_vars (clauses_more f before cs) ≡ clauses_vars before ++ vars_of f (clause_bodies cs)
unfolding clauses_vars
bodies_more f before [] = sym (append-nil (clauses_vars before))
bodies_more f before (c ∷ cs) =
    bodies_more f (AndClause before (optional_at f c.test) (stmts_at f c.body.items)) cs
    ∙ append_assoc (clauses_vars before) (stmts_vars (stmts_at f c.body.items)) (vars_of f (clause_bodies cs))
    ∙ ap (λ l. clauses_vars before ++ l) (ap (λ l. l ++ vars_of f (clause_bodies cs)) (vars_at f c.body.items) ∙ sym (vars_append f c.body.items (clause_bodies cs)))

bodies_at : (f : Forest) (cs : List Clause) → clauses_vars (clauses_at f cs) ≡ vars_of f (clause_bodies cs)
unfolding clauses_vars
bodies_at f cs = bodies_more f NoClauses cs

decls_after : (f : Forest) (before : Decls) (ds : List Decl) → decl_names (decls_more f before ds) ≡ decl_names before ++ decl_texts ds
decls_after f before [] = sym (append-nil (decl_names before))
decls_after f before (d ∷ ds) = decls_after f (AndDecl before d.name d.at (optional_at f d.init)) ds ∙ append_assoc (decl_names before) (d.name ∷ []) (decl_texts ds)

first_is : (f : Forest) (first : InitNode) → init_names (init_at f first) ≡ init_texts first
first_is f (init.Var decls) = decls_after f NoDecls decls.items
first_is f (init.List ids) = refl

catch_is : (f : Forest) (c : Option (List ℕ × Vec StmtId Global)) → catch_vars (catch_at f c) ≡ vars_of f (catch_ids c)
unfolding catch_vars
catch_is f None = refl
catch_is f (Some c) = vars_at f c.1.items

last_is : (f : Forest) (b : Option (Vec StmtId Global)) → block_vars (block_at f b) ≡ vars_of f (last_ids b)
unfolding block_vars
last_is f None = refl
last_is f (Some ids) = vars_at f ids.items

-- a statement declares what it declares itself, and then what the statements of its blocks do
form_is : (f : Forest) (n : StmtNode) → form_vars (plain_stmt_form f n) ≡ own_texts n ++ vars_of f (block_ids n)
unfolding form_vars
form_is f (stmt.Var ds) = decls_after f NoDecls ds.items ∙ sym (append-nil (decl_texts ds.items))
form_is f (stmt.If e a b) = (λ i. vars_at f a.items i ++ vars_at f b.items i) ∙ sym (vars_append f a.items b.items)
form_is f (stmt.While e body) = vars_at f body.items
form_is f (stmt.DoWhile e body) = vars_at f body.items
form_is f (stmt.For first test next body) = λ i. first_is f first i ++ vars_at f body.items i
form_is f (stmt.ForIn declared x e body) = ap (λ l. (if declared then x ∷ [] else []) ++ l) (vars_at f body.items)
form_is f (stmt.With e body) = vars_at f body.items
form_is f (stmt.Switch e clauses) = bodies_at f clauses.items
form_is f (stmt.Try body c last) =
    (λ i. vars_at f body.items i ++ (catch_is f c i ++ last_is f last i))
    ∙ ap (λ l. vars_of f body.items ++ l) (sym (vars_append f (catch_ids c) (last_ids last)))
    ∙ sym (vars_append f body.items (catch_ids c ++ last_ids last))
form_is f (stmt.Label x s) = sym (append-nil (stmt_vars (stmt_at f s)))
form_is f n = refl

pub stmt_is : (f : Forest) (n : StmtNode) (at : ℕ) (names : List ℕ) (id : StmtId) → StmtAt at names (plain_stmt_form f n) ≡ stmt_at f id → stmt_vars (stmt_at f id) ≡ own_texts n ++ vars_of f (block_ids n)
unfolding stmt_vars
stmt_is f n at names id same = sym (ap stmt_vars same) ∙ form_is f n

-- the statements are in the tree
abbrev pub StmtsIn : Forest → List StmtId → Type 0
StmtsIn f [] = Unit {0}
StmtsIn f (id ∷ ids) = IsStmt f id × StmtsIn f ids

pub all_in : (f : Forest) (ids : List StmtId) → All (IsStmt f) ids → StmtsIn f ids
all_in f [] h = tt
all_in f (id ∷ ids) h = (h 0 id (omega arith), all_in f ids (λ k d lt. h (suc k) d (omega arith)))

pub in_both : (f : Forest) (a b : List StmtId) → StmtsIn f a → StmtsIn f b → StmtsIn f (a ++ b)
in_both f [] b h k = k
in_both f (x ∷ a) b h k = (h.0, in_both f a b h.1 k)

bodies_in : (f : Forest) (cs : List Clause) → All (AreClauseParts f) cs → StmtsIn f (clause_bodies cs)
bodies_in f [] h = tt
bodies_in f (c ∷ cs) h = in_both f c.body.items (clause_bodies cs) (all_in f c.body.items (h 0 c (omega arith)).1) (bodies_in f cs (λ k d lt. h (suc k) d (omega arith)))

catch_in : (f : Forest) (c : Option (List ℕ × Vec StmtId Global)) → AreCatch f c → StmtsIn f (catch_ids c)
catch_in f None h = tt
catch_in f (Some c) h = all_in f c.1.items h

last_in : (f : Forest) (b : Option (Vec StmtId Global)) → AreBlock f b → StmtsIn f (last_ids b)
last_in f None h = tt
last_in f (Some ids) h = all_in f ids.items h

pub blocks_in : (f : Forest) (n : StmtNode) → AreStmtParts f n → StmtsIn f (block_ids n)
blocks_in f (stmt.If e a b) h = in_both f a.items b.items (all_in f a.items h.1) (all_in f b.items h.2)
blocks_in f (stmt.While e body) h = all_in f body.items h.1
blocks_in f (stmt.DoWhile e body) h = all_in f body.items h.1
blocks_in f (stmt.For first test next body) h = all_in f body.items h.3
blocks_in f (stmt.ForIn declared x e body) h = all_in f body.items h.1
blocks_in f (stmt.With e body) h = all_in f body.items h.1
blocks_in f (stmt.Switch e clauses) h = bodies_in f clauses.items h.1
blocks_in f (stmt.Try body c last) h = in_both f body.items (catch_ids c ++ last_ids last) (all_in f body.items h.0) (in_both f (catch_ids c) (last_ids last) (catch_in f c h.1) (last_in f last h.2))
blocks_in f (stmt.Label x s) h = (h, tt)
blocks_in f n h = tt

-- the number of nodes in statements
abbrev pub load : Forest → List StmtId → ℕ
load f [] = 0
load f (id ∷ ids) = stmt_size (stmt_at f id) + load f ids

pub load_append : (f : Forest) (a b : List StmtId) → load f (a ++ b) ≡ load f a + load f b
load_append f [] b = omega arith
load_append f (x ∷ a) b = omega (arith, load_append f a b)

sizes_more : (f : Forest) (before : Stmts) (ids : List StmtId) → stmts_size (stmts_more f before ids) ≡ stmts_size before + load f ids
unfolding stmts_size
sizes_more f before [] = omega arith
sizes_more f before (id ∷ ids) = omega (arith, sizes_more f (AndStmt before (stmt_at f id)) ids)

sizes_at : (f : Forest) (ids : List StmtId) → stmts_size (stmts_at f ids) ≡ load f ids
unfolding stmts_size
sizes_at f ids = omega (arith, sizes_more f NoStmts ids)

clauses_over : (f : Forest) (before : Clauses) (cs : List Clause) → clauses_size before + load f (clause_bodies cs) < suc (clauses_size (clauses_more f before cs))
unfolding clauses_size
clauses_over f before [] = omega arith
clauses_over f before (c ∷ cs) =
    omega (arith, clauses_over f (AndClause before (optional_at f c.test) (stmts_at f c.body.items)) cs, sizes_at f c.body.items, load_append f c.body.items (clause_bodies cs))

catch_over : (f : Forest) (c : Option (List ℕ × Vec StmtId Global)) → catch_size (catch_at f c) ≡ load f (catch_ids c)
unfolding catch_size
catch_over f None = refl
catch_over f (Some c) = sizes_at f c.1.items

last_over : (f : Forest) (b : Option (Vec StmtId Global)) → block_size (block_at f b) ≡ load f (last_ids b)
unfolding block_size
last_over f None = refl
last_over f (Some ids) = sizes_at f ids.items

form_over : (f : Forest) (n : StmtNode) → load f (block_ids n) < suc (stmt_form_size (plain_stmt_form f n))
unfolding stmt_form_size clauses_size
form_over f (stmt.If e a b) = omega (arith, sizes_at f a.items, sizes_at f b.items, load_append f a.items b.items)
form_over f (stmt.While e body) = omega (arith, sizes_at f body.items)
form_over f (stmt.DoWhile e body) = omega (arith, sizes_at f body.items)
form_over f (stmt.For first test next body) = omega (arith, sizes_at f body.items)
form_over f (stmt.ForIn declared x e body) = omega (arith, sizes_at f body.items)
form_over f (stmt.With e body) = omega (arith, sizes_at f body.items)
form_over f (stmt.Switch e clauses) = omega (arith, clauses_over f NoClauses clauses.items)
form_over f (stmt.Try body c last) =
    omega (arith, sizes_at f body.items, catch_over f c, last_over f last, load_append f body.items (catch_ids c ++ last_ids last), load_append f (catch_ids c) (last_ids last))
form_over f (stmt.Label x s) = omega arith
form_over f n = omega arith

pub load_falls : (f : Forest) (n : StmtNode) (at : ℕ) (names : List ℕ) (id : StmtId) → StmtAt at names (plain_stmt_form f n) ≡ stmt_at f id → load f (block_ids n) < stmt_size (stmt_at f id)
unfolding stmt_size
load_falls f n at names id same = subst (λ s. load f (block_ids n) < stmt_size s) same (omega (arith, form_over f n))

-- The statements that are left stand with the next one last: the next is taken, and the statements of its blocks come in its place.
pub turned : (ids left : List StmtId) (id : StmtId) → left ≡ ids ++ id ∷ [] → reverse left ≡ id ∷ reverse ids
turned ids left id e = ap reverse e ∙ reverse-append ids (id ∷ [])

pub pushed : (ids bs next : List StmtId) → next ≡ ids ++ reverse bs → reverse next ≡ bs ++ reverse ids
pushed ids bs next e = ap reverse e ∙ reverse-append ids (reverse bs) ∙ ap (λ l. l ++ reverse ids) (reverse-reverse bs)

-- the names so far, and those of the statements that are left
pub gathered_step : (f : Forest) (n : StmtNode) (id : StmtId) (rest : List StmtId) (names more all : List (List ℕ)) → stmt_vars (stmt_at f id) ≡ own_texts n ++ vars_of f (block_ids n) → more ≡ names ++ own_texts n
    → names ++ vars_of f (id ∷ rest) ≡ all → more ++ vars_of f (block_ids n ++ rest) ≡ all
gathered_step f n id rest names more all s m h =
    (λ i. m i ++ vars_append f (block_ids n) rest i)
    ∙ append_assoc names (own_texts n) (vars_of f (block_ids n) ++ vars_of f rest)
    ∙ ap (λ l. names ++ l) (sym (append_assoc (own_texts n) (vars_of f (block_ids n)) (vars_of f rest)) ∙ ap (λ l. l ++ vars_of f rest) (sym s))
    ∙ h

-- the names of declared functions
texts_more : (f : Forest) (before : Funs) (ids : List FunId) → flat_map fun_name (fun_list (funs_more f before ids)) ≡ flat_map fun_name (fun_list before) ++ fun_texts f ids
texts_more f before [] = sym (append-nil (flat_map fun_name (fun_list before)))
texts_more f before (id ∷ ids) =
    texts_more f (AndFun before (fun_at f id)) ids
    ∙ ap (λ l. l ++ fun_texts f ids) (flat_map-append fun_name (fun_list before) (fun_at f id ∷ []))
    ∙ append_assoc (flat_map fun_name (fun_list before)) (fun_name (fun_at f id) ++ []) (fun_texts f ids)
    ∙ ap (λ l. flat_map fun_name (fun_list before) ++ (l ++ fun_texts f ids)) (append-nil (fun_name (fun_at f id)))

pub texts_at : (f : Forest) (ids : List FunId) → flat_map fun_name (fun_list (funs_at f ids)) ≡ fun_texts f ids
texts_at f ids = texts_more f NoFuns ids
