-- The names that statements declare.
use Rattle.std.proofs.Common.{◌≡◌, ℕ, suc, ◌+◌, ◌<◌, ◌↔◌, List, [], ◌∷◌, ◌++◌, refl, sym, ap, ◌∙◌, subst, inl, inr, ◌⊎◌, arith, length, Bool, true, false, append_assoc}
use Rattle.std.specs.Prelude.{map, All, Option, Some, None, option_to_list, if◌then◌else◌}
use Rattle.std.specs.declared.vec.Vec.{Vec}
use Rattle.std.specs.declared.alloc.Global.{Global}
use Rattle.js_tree.specs.declared.nodes.StmtId.{StmtId}
use Rattle.js_tree.specs.declared.nodes.FunId.{FunId}
use Rattle.js_tree.specs.declared.nodes.Decl.{Decl}
use Rattle.js_tree.specs.declared.nodes.ForInit.{ForInit as InitNode}
use Rattle.js_tree.specs.declared.nodes.ForInit.TheVariants as init
use Rattle.js_tree.specs.declared.nodes.Clause.{Clause}
use Rattle.js_tree.specs.declared.nodes.Stmt.{Stmt as StmtNode}
use Rattle.js_tree.specs.declared.nodes.Stmt.TheVariants as stmt
use Rattle.js_tree.specs.declared.nodes.Fun.{Fun as FunNode}
use Rattle.js_tree.specs.Plain.{StmtAt, StmtForm, Stmts, NoStmts, AndStmt, Clauses, NoClauses, AndClause, CatchAs, Try, OptionalBlock, Funs, NoFuns, AndFun}
use Rattle.js_tree.specs.Forest.{Forest, IsStmt, stmt_at, fun_at, stmts_more, stmts_at, funs_more, funs_at, optional_at, init_at, clauses_more, clauses_at, catch_at, block_at, decls_at, plain_stmt_form, plain_fun, AreStmtParts, AreClauseParts, AreCatch, AreBlock}
use Rattle.js_tree.specs.Parts.{Spot, AStmt, AFun, stmts_spots, catch_spots, block_spots, spots_size, stmt_size}
use Rattle.first_breach.specs.Lists.{In, here}
use Rattle.first_breach.proofs.Members.{in_front, in_back, in_split, in_none, in_one, in_map, in_unmap, map_append}
use Rattle.node_rules.specs.Names.{Named, placed, declared_names, decl_name, first_names, variables}
use Rattle.node_rules.specs.Parts.{bodies}
use Rattle.node_rules.specs.Binding.{blocks, Declares, itself, block, own_name, function_names, Binds, own, parameter, hoisted, function, caught}
use Rattle.node_rules.specs.Hoisting.{stmt_spot, AnyDeclares, stmts_load, clause_bodies, catch_ids, last_ids, block_ids, decl_texts, init_texts, own_texts, fun_texts, bound_texts}
use Rattle.node_rules.proofs.Lists.{append_nothing, names_at}
use Rattle.node_rules.proofs.Sizes.{spots_append, blocks_less}

-- a statement's own variables
decl_texts_are : (ds : List Decl) → map (λ x. x.text) (map decl_name ds) ≡ decl_texts ds
decl_texts_are [] = refl
decl_texts_are (d ∷ ds) = ap (λ l. d.name ∷ l) (decl_texts_are ds)

names_texts : (f : Forest) (ds : List Decl) → map (λ x. x.text) (declared_names (decls_at f ds)) ≡ decl_texts ds
names_texts f ds = ap (map (λ x. x.text)) (names_at f ds) ∙ decl_texts_are ds

first_texts : (f : Forest) (first : InitNode) → map (λ x. x.text) (first_names (init_at f first)) ≡ init_texts first
first_texts f (init.Var decls) = names_texts f decls.items
first_texts f (init.List ids) = refl

loop_texts : (declared : Bool) (at : ℕ) (names x : List ℕ) → map (λ v. v.text) (if declared then placed at names (x ∷ []) else []) ≡ (if declared then x ∷ [] else [])
loop_texts true at [] x = refl
loop_texts true at (p ∷ names) x = refl
loop_texts false at names x = refl

own_plain : (f : Forest) (n : StmtNode) (at : ℕ) (names : List ℕ) → map (λ x. x.text) (variables at names (plain_stmt_form f n)) ≡ own_texts n
own_plain f (stmt.Var decls) at names = names_texts f decls.items
own_plain f (stmt.For first test next body) at names = first_texts f first
own_plain f (stmt.ForIn declared x e body) at names = loop_texts declared at names x
own_plain f n at names = refl

-- a statement's blocks
spots_more : (f : Forest) (before : Stmts) (ids : List StmtId) → stmts_spots (stmts_more f before ids) ≡ stmts_spots before ++ map (stmt_spot f) ids
spots_more f before [] = sym (append_nothing (stmts_spots before))
spots_more f before (id ∷ ids) = spots_more f (AndStmt before (stmt_at f id)) ids ∙ append_assoc (stmts_spots before) (stmt_spot f id ∷ []) (map (stmt_spot f) ids)

pub stmts_spots_at : (f : Forest) (ids : List StmtId) → stmts_spots (stmts_at f ids) ≡ map (stmt_spot f) ids
stmts_spots_at f ids = spots_more f NoStmts ids

bodies_more : (f : Forest) (before : Clauses) (cs : List Clause) → bodies (clauses_more f before cs) ≡ bodies before ++ map (stmt_spot f) (clause_bodies cs)
bodies_more f before [] = sym (append_nothing (bodies before))
bodies_more f before (c ∷ cs) =
    bodies_more f (AndClause before (optional_at f c.test) (stmts_at f c.body.items)) cs
    ∙ append_assoc (bodies before) (stmts_spots (stmts_at f c.body.items)) (map (stmt_spot f) (clause_bodies cs))
    ∙ ap (λ l. bodies before ++ l) (ap (λ l. l ++ map (stmt_spot f) (clause_bodies cs)) (stmts_spots_at f c.body.items) ∙ sym (map_append (stmt_spot f) c.body.items (clause_bodies cs)))

pub bodies_at : (f : Forest) (cs : List Clause) → bodies (clauses_at f cs) ≡ map (stmt_spot f) (clause_bodies cs)
bodies_at f cs = bodies_more f NoClauses cs

pub catch_spots_at : (f : Forest) (c : Option (List ℕ × Vec StmtId Global)) → catch_spots (catch_at f c) ≡ map (stmt_spot f) (catch_ids c)
catch_spots_at f None = refl
catch_spots_at f (Some c) = stmts_spots_at f c.1.items

pub block_spots_at : (f : Forest) (b : Option (Vec StmtId Global)) → block_spots (block_at f b) ≡ map (stmt_spot f) (last_ids b)
block_spots_at f None = refl
block_spots_at f (Some ids) = stmts_spots_at f ids.items

both_at : (f : Forest) (x y : List Spot) (a b : List StmtId) → x ≡ map (stmt_spot f) a → y ≡ map (stmt_spot f) b → x ++ y ≡ map (stmt_spot f) (a ++ b)
both_at f x y a b e d = ap (λ l. l ++ y) e ∙ ap (λ l. map (stmt_spot f) a ++ l) d ∙ sym (map_append (stmt_spot f) a b)

pub blocks_plain : (f : Forest) (n : StmtNode) → blocks (plain_stmt_form f n) ≡ map (stmt_spot f) (block_ids n)
blocks_plain f (stmt.If e a b) = both_at f _ _ a.items b.items (stmts_spots_at f a.items) (stmts_spots_at f b.items)
blocks_plain f (stmt.While e body) = stmts_spots_at f body.items
blocks_plain f (stmt.DoWhile e body) = stmts_spots_at f body.items
blocks_plain f (stmt.For first test next body) = stmts_spots_at f body.items
blocks_plain f (stmt.ForIn declared x e body) = stmts_spots_at f body.items
blocks_plain f (stmt.With e body) = stmts_spots_at f body.items
blocks_plain f (stmt.Switch e clauses) = bodies_at f clauses.items
blocks_plain f (stmt.Try body c last) = both_at f _ _ body.items (catch_ids c ++ last_ids last) (stmts_spots_at f body.items) (both_at f _ _ (catch_ids c) (last_ids last) (catch_spots_at f c) (block_spots_at f last))
blocks_plain f n = refl

-- they are in the tree
abbrev pub StmtsIn : Forest → List StmtId → Type 0
StmtsIn f [] = Unit {0}
StmtsIn f (id ∷ ids) = IsStmt f id × StmtsIn f ids

pub all_in : (f : Forest) (ids : List StmtId) → All (IsStmt f) ids → StmtsIn f ids
all_in f [] h = tt
all_in f (id ∷ ids) h = (h 0 id (omega arith), all_in f ids (λ k d lt. h (suc k) d (omega arith)))

pub stmts_in_both : (f : Forest) (a b : List StmtId) → StmtsIn f a → StmtsIn f b → StmtsIn f (a ++ b)
stmts_in_both f [] b h k = k
stmts_in_both f (x ∷ a) b h k = (h.0, stmts_in_both f a b h.1 k)

stmts_in_front : (f : Forest) (a b : List StmtId) → StmtsIn f (a ++ b) → StmtsIn f a
stmts_in_front f [] b h = tt
stmts_in_front f (x ∷ a) b h = (h.0, stmts_in_front f a b h.1)

stmts_in_back : (f : Forest) (a b : List StmtId) → StmtsIn f (a ++ b) → StmtsIn f b
stmts_in_back f [] b h = h
stmts_in_back f (x ∷ a) b h = stmts_in_back f a b h.1

bodies_in : (f : Forest) (cs : List Clause) → All (AreClauseParts f) cs → StmtsIn f (clause_bodies cs)
bodies_in f [] h = tt
bodies_in f (c ∷ cs) h = let p = h 0 c (omega arith) in stmts_in_both f c.body.items (clause_bodies cs) (all_in f c.body.items p.1) (bodies_in f cs (λ k d lt. h (suc k) d (omega arith)))

catch_in : (f : Forest) (c : Option (List ℕ × Vec StmtId Global)) → AreCatch f c → StmtsIn f (catch_ids c)
catch_in f None h = tt
catch_in f (Some c) h = all_in f c.1.items h

last_in : (f : Forest) (b : Option (Vec StmtId Global)) → AreBlock f b → StmtsIn f (last_ids b)
last_in f None h = tt
last_in f (Some ids) h = all_in f ids.items h

pub blocks_in : (f : Forest) (n : StmtNode) → AreStmtParts f n → StmtsIn f (block_ids n)
blocks_in f (stmt.If e a b) h = stmts_in_both f a.items b.items (all_in f a.items h.1) (all_in f b.items h.2)
blocks_in f (stmt.While e body) h = all_in f body.items h.1
blocks_in f (stmt.DoWhile e body) h = all_in f body.items h.1
blocks_in f (stmt.For first test next body) h = all_in f body.items h.3
blocks_in f (stmt.ForIn declared x e body) h = all_in f body.items h.1
blocks_in f (stmt.With e body) h = all_in f body.items h.1
blocks_in f (stmt.Switch e clauses) h = bodies_in f clauses.items h.1
blocks_in f (stmt.Try body c last) h = stmts_in_both f body.items (catch_ids c ++ last_ids last) (all_in f body.items h.0) (stmts_in_both f (catch_ids c) (last_ids last) (catch_in f c h.1) (last_in f last h.2))
blocks_in f (stmt.Label x s) h = (h, tt)
blocks_in f n h = tt

-- a statement declares a name itself or in a block
record InBlock (form : StmtForm) (t : List ℕ) : Type 0 where
  part : Spot
  is_in : In part (blocks form)
  declares : Declares part t

declares_cases : {at : ℕ} {names : List ℕ} {form : StmtForm} {t : List ℕ} → Declares (AStmt (StmtAt at names form)) t → In t (map (λ x. x.text) (variables at names form)) ⊎ InBlock form t
declares_cases (itself i) = inl (in_map (λ x. x.text) i)
declares_cases (block {s = s} i d) = inr (record { part = s; is_in = i; declares = d })

own_declares : (at : ℕ) (names : List ℕ) (form : StmtForm) (t : List ℕ) → In t (map (λ x. x.text) (variables at names form)) → Declares (AStmt (StmtAt at names form)) t
own_declares at names form t h =
    let m = in_unmap (λ (x : Named). x.text) (variables at names form) h in
    subst (λ u. Declares (AStmt (StmtAt at names form)) u) m.same (itself m.is_in)

any_back : (f : Forest) (ids : List StmtId) (p : Spot) (q : List ℕ) → In p (map (stmt_spot f) ids) → Declares p q → AnyDeclares f ids q
any_back f ids p q i d = let m = in_unmap (stmt_spot f) ids i in record { id = m.from; is_in = m.is_in; declares = subst (λ x. Declares x q) (sym m.same) d }

-- one statement less, its names and its blocks more
module _ (f : Forest) (n : StmtNode) (at : ℕ) (names : List ℕ) (id : StmtId) (same : StmtAt at names (plain_stmt_form f n) ≡ stmt_at f id) (ids : List StmtId) (q : List ℕ) where
  abbrev form : StmtForm
  form = plain_stmt_form f n

  hoist_to : AnyDeclares f (ids ++ id ∷ []) q → In q (own_texts n) ⊎ AnyDeclares f (ids ++ block_ids n) q
  hoist_to a = elim (in_split ids (id ∷ []) a.is_in) [
    | inl i ↦ inr (record { id = a.id; is_in = in_front (block_ids n) i; declares = a.declares })
    | inr i ↦
        let e : stmt_spot f a.id ≡ AStmt (StmtAt at names form) = ap (stmt_spot f) (in_one i) ∙ sym (ap AStmt same) in
        let d : Declares (AStmt (StmtAt at names form)) q = subst (λ x. Declares x q) e a.declares in
        elim (declares_cases d) [
          | inl o ↦ inl (subst (λ l. In q l) (own_plain f n at names) o)
          | inr b ↦
              let any : AnyDeclares f (block_ids n) q = any_back f (block_ids n) b.part q (subst (λ l. In b.part l) (blocks_plain f n) b.is_in) b.declares in
              inr (record { id = any.id; is_in = in_back ids any.is_in; declares = any.declares })
        ]
  ]

  last_declares : Declares (AStmt (StmtAt at names form)) q → AnyDeclares f (ids ++ id ∷ []) q
  last_declares d = record { id = id; is_in = in_back ids here; declares = subst (λ x. Declares x q) (ap AStmt same) d }

  hoist_own : In q (own_texts n) → AnyDeclares f (ids ++ id ∷ []) q
  hoist_own o = last_declares (own_declares at names form q (subst (λ l. In q l) (sym (own_plain f n at names)) o))

  hoist_back : AnyDeclares f (ids ++ block_ids n) q → AnyDeclares f (ids ++ id ∷ []) q
  hoist_back a = elim (in_split ids (block_ids n) a.is_in) [
    | inl i ↦ record { id = a.id; is_in = in_front (id ∷ []) i; declares = a.declares }
    | inr i ↦ last_declares (block (subst (λ l. In (stmt_spot f a.id) l) (sym (blocks_plain f n)) (in_map (stmt_spot f) i)) a.declares)
  ]

  pub hoist_step : (ns ms : List (List ℕ)) → ms ≡ ns ++ own_texts n → (In q ns ⊎ AnyDeclares f (ids ++ id ∷ []) q) ↔ (In q ms ⊎ AnyDeclares f (ids ++ block_ids n) q)
  hoist_step ns ms e = (
    (λ h. elim h [
      | inl i ↦ inl (subst (λ l. In q l) (sym e) (in_front (own_texts n) i))
      | inr a ↦ elim (hoist_to a) [ inl o ↦ inl (subst (λ l. In q l) (sym e) (in_back ns o)) | inr b ↦ inr b ]
    ]),
    (λ h. elim h [
      | inl i ↦ elim (in_split ns (own_texts n) (subst (λ l. In q l) e i)) [ inl j ↦ inl j | inr o ↦ inr (hoist_own o) ]
      | inr a ↦ inr (hoist_back a)
    ]),
  )

-- the loop: the last of the statements is taken, and its blocks come on
pub taken_in : (f : Forest) (ids left : List StmtId) (id : StmtId) → left ≡ ids ++ id ∷ [] → StmtsIn f left → IsStmt f id
taken_in f ids left id e h = (stmts_in_back f ids (id ∷ []) (subst (StmtsIn f) e h)).0

pub hoist_in : (f : Forest) (n : StmtNode) (id : StmtId) (ids left next : List StmtId) → left ≡ ids ++ id ∷ [] → next ≡ ids ++ block_ids n → StmtsIn f left → AreStmtParts f n → StmtsIn f next
hoist_in f n id ids left next e d h p = subst (StmtsIn f) (sym d) (stmts_in_both f ids (block_ids n) (stmts_in_front f ids (id ∷ []) (subst (StmtsIn f) e h)) (blocks_in f n p))

pub hoist_load : (f : Forest) (n : StmtNode) (at : ℕ) (names : List ℕ) (id : StmtId) → StmtAt at names (plain_stmt_form f n) ≡ stmt_at f id → (ids left next : List StmtId) → left ≡ ids ++ id ∷ [] → next ≡ ids ++ block_ids n → stmts_load f next < stmts_load f left
hoist_load f n at names id same ids left next e d =
    let a : stmts_load f left ≡ stmts_load f ids + spots_size (stmt_spot f id ∷ []) = ap (stmts_load f) e ∙ ap spots_size (map_append (stmt_spot f) ids (id ∷ [])) ∙ spots_append (map (stmt_spot f) ids) (stmt_spot f id ∷ []) in
    let b : stmts_load f next ≡ stmts_load f ids + spots_size (map (stmt_spot f) (block_ids n)) = ap (stmts_load f) d ∙ ap spots_size (map_append (stmt_spot f) ids (block_ids n)) ∙ spots_append (map (stmt_spot f) ids) (map (stmt_spot f) (block_ids n)) in
    let c : spots_size (blocks (plain_stmt_form f n)) ≡ spots_size (map (stmt_spot f) (block_ids n)) = ap spots_size (blocks_plain f n) in
    let s : stmt_size (StmtAt at names (plain_stmt_form f n)) ≡ stmt_size (stmt_at f id) = ap stmt_size same in
    omega (arith, a, b, c, s, blocks_less at names (plain_stmt_form f n))

any_along : (f : Forest) (q : List ℕ) (N : Type 0) (a b : List StmtId) → a ≡ b → N ⊎ AnyDeclares f a q → N ⊎ AnyDeclares f b q
any_along f q N a b e h = subst (λ l. N ⊎ AnyDeclares f l q) e h

pub hoist_start : (f : Forest) (q : List ℕ) (N : Type 0) (a b : List StmtId) → a ≡ b → (N ⊎ AnyDeclares f a q) ↔ (N ⊎ AnyDeclares f b q)
hoist_start f q N a b e = (any_along f q N a b e, any_along f q N b a (sym e))

pub hoist_loop : (f : Forest) (n : StmtNode) (at : ℕ) (names : List ℕ) (id : StmtId) → StmtAt at names (plain_stmt_form f n) ≡ stmt_at f id → (q : List ℕ) (ids left next : List StmtId) (ns ms : List (List ℕ)) (G : Type 0) → left ≡ ids ++ id ∷ [] → next ≡ ids ++ block_ids n → ms ≡ ns ++ own_texts n → ((In q ns ⊎ AnyDeclares f left q) ↔ G) → ((In q ms ⊎ AnyDeclares f next q) ↔ G)
hoist_loop f n at names id same q ids left next ns ms G e d m h =
    let s = hoist_step f n at names id same ids q ns ms m in (
      (λ x. h.0 (any_along f q (In q ns) _ _ (sym e) (s.1 (any_along f q (In q ms) _ _ d x)))),
      (λ g. any_along f q (In q ms) _ _ (sym d) (s.0 (any_along f q (In q ns) _ _ e (h.1 g)))),
    )

-- none is left
pub no_declares : (f : Forest) (ids : List StmtId) (N G : Type 0) (q : List ℕ) → ((N ⊎ AnyDeclares f ids q) ↔ G) → length ids ≡ 0 → N ↔ G
no_declares f [] N G q h e = ((λ n. h.0 (inl n)), (λ g. elim (h.1 g) [ inl n ↦ n | inr a ↦ absurd (in_none a.is_in) ]))
no_declares f (x ∷ ids) N G q h e = absurd (omega arith)

-- the names of declared functions
texts_more : (f : Forest) (before : Funs) (ids : List FunId) → function_names (funs_more f before ids) ≡ function_names before ++ fun_texts f ids
texts_more f before [] = sym (append_nothing (function_names before))
texts_more f before (id ∷ ids) = texts_more f (AndFun before (fun_at f id)) ids ∙ append_assoc (function_names before) (own_name (fun_at f id)) (fun_texts f ids)

fun_texts_at : (f : Forest) (ids : List FunId) → function_names (funs_at f ids) ≡ fun_texts f ids
fun_texts_at f ids = texts_more f NoFuns ids

-- what a function binds
module _ (f : Forest) (node : FunNode) (names : List ℕ) (q : List ℕ) where
  abbrev bound_here : List (List ℕ)
  bound_here = option_to_list node.name ++ (node.params.items ++ fun_texts f node.funs.items)

  fun_to : Binds (AFun (plain_fun f node names)) q → In q bound_here ⊎ AnyDeclares f node.body.items q
  fun_to (own i) = inl (in_front (node.params.items ++ fun_texts f node.funs.items) i)
  fun_to (parameter i) = inl (in_back (option_to_list node.name) (in_front (fun_texts f node.funs.items) i))
  fun_to (hoisted {s = s} i d) = inr (any_back f node.body.items s q (subst (λ l. In s l) (stmts_spots_at f node.body.items) i) d)
  fun_to (function i) = inl (in_back (option_to_list node.name) (in_back node.params.items (subst (λ l. In q l) (fun_texts_at f node.funs.items) i)))

  fun_from : In q bound_here ⊎ AnyDeclares f node.body.items q → Binds (AFun (plain_fun f node names)) q
  fun_from h = elim h [
    | inl i ↦ elim (in_split (option_to_list node.name) (node.params.items ++ fun_texts f node.funs.items) i) [
      | inl j ↦ own j
      | inr j ↦ elim (in_split node.params.items (fun_texts f node.funs.items) j) [
        | inl k ↦ parameter k
        | inr k ↦ function (subst (λ l. In q l) (sym (fun_texts_at f node.funs.items)) k)
      ]
    ]
    | inr a ↦ hoisted (subst (λ l. In (stmt_spot f a.id) l) (sym (stmts_spots_at f node.body.items)) (in_map (stmt_spot f) a.is_in)) a.declares
  ]

  pub fun_binds : (before after : List (List ℕ)) → before ≡ bound_here → (In q after ↔ (In q before ⊎ AnyDeclares f node.body.items q)) → In q after ↔ Binds (AFun (plain_fun f node names)) q
  fun_binds before after e h = (
    (λ i. fun_from (subst (λ l. In q l ⊎ AnyDeclares f node.body.items q) e (h.0 i))),
    (λ b. h.1 (subst (λ l. In q l ⊎ AnyDeclares f node.body.items q) (sym e) (fun_to b))),
  )

-- what a statement binds
caught_is : {at : ℕ} {names : List ℕ} {body block : Stmts} {last : OptionalBlock} {x t : List ℕ} → Binds (AStmt (StmtAt at names (Try body (CatchAs x block) last))) t → t ≡ x
caught_is caught = refl

pub stmt_binds : (f : Forest) (n : StmtNode) (at : ℕ) (names : List ℕ) (q : List ℕ) → In q (bound_texts n) ↔ Binds (AStmt (StmtAt at names (plain_stmt_form f n))) q
stmt_binds f (stmt.Try body (Some c) last) at names q = (
  (λ i. subst (λ u. Binds (AStmt (StmtAt at names (Try (stmts_at f body.items) (CatchAs c.0 (stmts_at f c.1.items)) (block_at f last)))) u) (sym (in_one i)) caught),
  (λ h. subst (λ u. In u (c.0 ∷ [])) (sym (caught_is h)) here),
)
stmt_binds f n at names q = ((λ i. absurd (in_none i)), (λ h. elim h [ ]))

pub three_added : {a b c d : List (List ℕ)} (x y z v w : List (List ℕ)) → a ≡ [] → b ≡ a ++ x → c ≡ b ++ v → d ≡ c ++ w → v ≡ y → w ≡ z → d ≡ x ++ (y ++ z)
three_added {a} {b} {c} {d} x y z v w e g h k m n =
    k ∙ ap (λ l. l ++ w) (h ∙ ap (λ l. l ++ v) (g ∙ ap (λ l. l ++ x) e)) ∙ append_assoc x v w ∙ ap (λ l. x ++ (l ++ w)) m ∙ ap (λ l. x ++ (y ++ l)) n
