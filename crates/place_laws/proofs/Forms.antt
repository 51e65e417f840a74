-- Each form of the language, and the dispatch of events, run alike: one lemma for what comes after each part.
use Rattle.js_tree.specs.Plain as tree
use Rattle.js_tree.specs.declared.nodes.BinOp.TheVariants as bin
use Rattle.js_tree.specs.declared.nodes.UnOp.TheVariants as un
use Rattle.js_tree.specs.declared.nodes.AssignOp.TheVariants as assignment
use Rattle.code_units.specs.declared.whole.WholeRead.TheVariants as read_as
use Rattle.code_units.specs.Whole.{number_in}
use Rattle.std.proofs.Common.{ℕ, suc, ◌+◌, length, map, max, List, [], ◌∷◌, ◌++◌, Bool, true, false, Option, Some, None, refl, sym, ap, subst, ◌∙◌}
use Rattle.std.specs.Prelude.{pos, nat_lt, nat_le, not, is_some, codes, if◌then◌else◌, option_to_list}
use Rattle.permitted_table.specs.declared.native.HostEntry.TheVariants as host
use Rattle.widget_meaning.specs.Limits.{max_depth, max_length}
use Rattle.widget_meaning.specs.Values.{Value, Undefined, Null, Truth, NaN, Num, Text, Own, Host, Completion, Normal, Is, Refers, Return, Break, Continue, Throw, Reference, Variable, Property, Found, Depth, Number, LongText, E1, E2, E3, E5, E6, E7, is_object, is_nothing, is_true, to_text, to_number}
use Rattle.widget_meaning.specs.Trees.{parent}
use Rattle.widget_meaning.specs.OwnState.{State, Cell, Kind, Object, Array, Function, Bunch, Scope, lookup, replaced, taken_out, cell_at, new_array, new_function, plain_object, with_new_scope}
use Rattle.widget_meaning.specs.Plan.{Plan, Place, Ret, Do, Eval, Target, Exec, Pass, Call, RunNative, Hear, Loop, WhileLoop, DoLoop, ForLoop, ForInLoop, Hearing, and_then, charge}
use Rattle.js_tree.specs.Plain.{Expr, Stmt, Stmts, Fun, ExprForm, OptionalExpr, StmtForm, ForInit, OptionalBlock, Catch}
use Rattle.js_tree.specs.Lists.{expr_list, stmt_list, fun_list, property_list, decl_list, clause_list}
use Rattle.js_tree.specs.declared.nodes.StepOp.{StepOp}
use Rattle.js_tree.specs.declared.nodes.UnOp.{UnOp}
use Rattle.js_tree.specs.declared.nodes.BinOp.{BinOp}
use Rattle.js_tree.specs.declared.nodes.AssignOp.{AssignOp}
use Rattle.js_grammar.specs.Unplaced.{unplaced_expr, unplaced_form, unplaced_exprs, unplaced_optional, unplaced_init, unplaced_stmt, unplaced_stmt_form, unplaced_stmts, unplaced_block, unplaced_catch, unplaced_fun, unplaced_funs}
use Rattle.code_units.specs.declared.whole.WholeRead.{WholeRead}
use Rattle.widget_meaning.specs.Operators.{OpOut, Gives, Leaves, TooLong, binary, unary, type_name, is_same}
use Rattle.widget_meaning.specs.Costs.{make, pay, scope_cost, slots_cost}
use Rattle.widget_meaning.specs.Properties.{get, read, put, delete, index_name, index_of, is_length, put_pair, put_index, put_length, put_own, cut_to, delete_pair, delete_own, property, names_of, is_function}
use Rattle.widget_meaning.specs.Scopes.{call_scope, assign, variable}
use Rattle.widget_meaning.specs.Calls.{invoke, to_primitive, statements, without_directive, declare, call_end, call_body, enter_scope, enter, primitive_result, call_to_string, with_variable}
use Rattle.widget_meaning.specs.Expressions.{literal, word_value, array_parts, object_parts, subscript_read, refer, subscript_target, referred, base_of, write, arguments_then, callee, result, is_converting, converted_left, operate, binary_right, unary_on, delete_at, delete_target, stepped, is_post, step_write, step_number, step_converted, step_target, compound, assign_with, assign_target, and_right, or_right, choose, prefix_form, expression, target}
use Rattle.widget_meaning.specs.Statements.{declaration, declarations, expressions, branch, loop_test, loop_end, while_next, do_next, for_test, for_again, for_next, for_init, for_in, for_in_next, for_in_over, pass, return_form, Case, bodies, from_default, case_test, choose_case, switch_end, switch_on, in_catch, caught, last_end, finally, statement}
use Rattle.widget_meaning.specs.Dispatch.{event_cost, nearest, with_dispatch, without_dispatch, is_bubbled, with_event, hear, hear_found, search_from, dispatch, handlers, bubble_on, dispatch_end, heard, bubble}
use Rattle.place_laws.specs.Bare.{bare_cell, bare_kind}
use Rattle.place_laws.proofs.Near.{N, bare, itself, moved, written, cell_bare, get_bare, property_bare, names_bare, function_bare, births}
use Rattle.place_laws.proofs.Bared.{bare_property, bare_decl, bare_case, exprs_bare, stmts_bare, funs_bare, properties_bare, decls_bare, clauses_bare, scope_bare, bodies_bare, default_bare, directive_bare}
use Rattle.place_laws.proofs.Found.{variable_bare, referred_bare, assign_kept, variable_kept, nearest_bare, heard_at, event_kept}
use Rattle.place_laws.proofs.Alike.{Alike, bare_loop, ended, got, halted, job, either, value, reference, normal, thrown, chain, charged, paid, made, made_text, faulted, wanted}

pub read_a : (x0 : Value) (x1 : List ℕ) (x2 z2 : State) → N x2 z2 → Alike (read x0 x1 x2) (read x0 x1 z2)
read_a Undefined x s s' near = faulted E1 s s' near
read_a Null x s s' near = faulted E1 s s' near
read_a v x s s' near = got (λ t. get t v x) (λ t. get_bare t v x) s s' near

pub put_pair_a : (x0 : Cell) (x1 : ℕ) (x2 : List ℕ) (x3 : Value) (x4 z4 : State) (x5 z5 : State → Plan) → N x4 z4 → ((y0 w0 : State) → N y0 w0 → Alike (x5 y0) (z5 w0)) → Alike (put_pair x0 x1 x2 x3 x4 x5) (put_pair (bare_cell x0) x1 x2 x3 z4 z5)
put_pair_a c n x v s s' k k' near f0 =
    either (is_some (lookup c.pairs x)) _ _ _ _ (f0 _ _ (written s s' n (record c { pairs = replaced c.pairs x v }) near))
    (paid (slots_cost 1) s s' _ _ near (λ t y u. f0 _ _ (written t y n (record c { pairs = c.pairs ++ (x, v) ∷ [] }) u)))

pub put_index_a : (x0 : Option ℕ) (x1 : Cell) (x2 : ℕ) (x3 : ℕ) (x4 : List ℕ) (x5 : Value) (x6 z6 : State) (x7 z7 : State → Plan) → N x6 z6 → ((y0 w0 : State) → N y0 w0 → Alike (x7 y0) (z7 w0)) → Alike (put_index x0 x1 x2 x3 x4 x5 x6 x7) (put_index x0 (bare_cell x1) x2 x3 x4 x5 z6 z7)
put_index_a None c len n x v s s' k k' near f0 = put_pair_a c n x v s s' k k' near f0
put_index_a (Some i) c len n x v s s' k k' near f0 = put_pair_a (record c { kind = Array (max len (i + 1)) }) n x v s s' k k' near f0

pub put_length_a : (x0 : Value) (x1 : Cell) (x2 : ℕ) (x3 z3 : State) (x4 z4 : State → Plan) → N x3 z3 → ((y0 w0 : State) → N y0 w0 → Alike (x4 y0) (z4 w0)) → Alike (put_length x0 x1 x2 x3 x4) (put_length x0 (bare_cell x1) x2 z3 z4)
put_length_a (Num (pos len)) c n s s' k k' near f0 = wanted E7 (nat_le len max_length) s s' _ _ near (f0 _ _ (written s s' n (cut_to c len) near))
put_length_a v c n s s' k k' near f0 = faulted E7 s s' near

pub put_own_a : (x0 : Kind) (x1 : Cell) (x2 : ℕ) (x3 : List ℕ) (x4 : Value) (x5 z5 : State) (x6 z6 : State → Plan) → N x5 z5 → ((y0 w0 : State) → N y0 w0 → Alike (x6 y0) (z6 w0)) → Alike (put_own x0 x1 x2 x3 x4 x5 x6) (put_own (bare_kind x0) (bare_cell x1) x2 x3 x4 z5 z6)
put_own_a Object c n x v s s' k k' near f0 = put_pair_a c n x v s s' k k' near f0
put_own_a (Function f scope) c n x v s s' k k' near f0 = put_pair_a c n x v s s' k k' near f0
put_own_a (Array len) c n x v s s' k k' near f0 = either (is_length x) _ _ _ _ (put_length_a v c n s s' k k' near f0) (put_index_a (index_of x) c len n x v s s' k k' near f0)
put_own_a (Bunch ns) c n x v s s' k k' near f0 = faulted E5 s s' near

pub put_a : (x0 : Value) (x1 : List ℕ) (x2 : Value) (x3 z3 : State) (x4 z4 : State → Plan) → N x3 z3 → ((y0 w0 : State) → N y0 w0 → Alike (x4 y0) (z4 w0)) → Alike (put x0 x1 x2 x3 x4) (put x0 x1 x2 z3 z4)
put_a (Own n) x v s s' k k' near f0 =
    moved (λ y. Alike (put (Own n) x v s k) (put (Own n) x v y k')) s s' near
    (subst (λ (c : Cell). Alike (put (Own n) x v s k) (put_own c.kind c n x v (bare s) k')) (sym (cell_bare s n))
    (put_own_a (cell_at s n).kind (cell_at s n) n x v s (bare s) k k' (itself s) f0))
put_a (Host h) x v s s' k k' near f0 = faulted E5 s s' near
put_a o x v s s' k k' near f0 = f0 s s' near

pub delete_pair_a : (x0 : Cell) (x1 : ℕ) (x2 : List ℕ) (x3 z3 : State) (x4 z4 : Bool → State → Plan) → N x3 z3 → ((y0 : Bool) (y1 w1 : State) → N y1 w1 → Alike (x4 y0 y1) (z4 y0 w1)) → Alike (delete_pair x0 x1 x2 x3 x4) (delete_pair (bare_cell x0) x1 x2 z3 z4)
delete_pair_a c n x s s' k k' near f0 = f0 true _ _ (written s s' n (record c { pairs = taken_out c.pairs x }) near)

pub delete_own_a : (x0 : Kind) (x1 : Cell) (x2 : ℕ) (x3 : List ℕ) (x4 z4 : State) (x5 z5 : Bool → State → Plan) → N x4 z4 → ((y0 : Bool) (y1 w1 : State) → N y1 w1 → Alike (x5 y0 y1) (z5 y0 w1)) → Alike (delete_own x0 x1 x2 x3 x4 x5) (delete_own (bare_kind x0) (bare_cell x1) x2 x3 z4 z5)
delete_own_a Object c n x s s' k k' near f0 = delete_pair_a c n x s s' k k' near f0
delete_own_a (Function f scope) c n x s s' k k' near f0 = delete_pair_a c n x s s' k k' near f0
delete_own_a (Array len) c n x s s' k k' near f0 = either (is_length x) _ _ _ _ (f0 false s s' near) (delete_pair_a c n x s s' k k' near f0)
delete_own_a (Bunch ns) c n x s s' k k' near f0 = faulted E5 s s' near

pub delete_a : (x0 : Value) (x1 : List ℕ) (x2 z2 : State) (x3 z3 : Bool → State → Plan) → N x2 z2 → ((y0 : Bool) (y1 w1 : State) → N y1 w1 → Alike (x3 y0 y1) (z3 y0 w1)) → Alike (delete x0 x1 x2 x3) (delete x0 x1 z2 z3)
delete_a (Own n) x s s' k k' near f0 =
    moved (λ y. Alike (delete (Own n) x s k) (delete (Own n) x y k')) s s' near
    (subst (λ (c : Cell). Alike (delete (Own n) x s k) (delete_own c.kind c n x (bare s) k')) (sym (cell_bare s n))
    (delete_own_a (cell_at s n).kind (cell_at s n) n x s (bare s) k k' (itself s) f0))
delete_a (Host h) x s s' k k' near f0 = faulted E5 s s' near
delete_a o x s s' k k' near f0 = f0 true s s' near

pub statements_a : (x0 : List Stmt) (x1 : Place) (x2 z2 : State) → N x2 z2 → Alike (statements x0 x1 x2) (statements (map unplaced_stmt x0) x1 z2)
statements_a [] p s s' near = ended Normal s s' near
statements_a (i ∷ is) p s s' near = job (Exec i p) s s' _ _ near (λ o t y u. normal o t y _ _ u (statements_a is p t y u))

pub declare_a : (x0 : List Fun) (x1 : ℕ) (x2 z2 : State) (x3 z3 : State → Plan) → N x2 z2 → ((y0 w0 : State) → N y0 w0 → Alike (x3 y0) (z3 w0)) → Alike (declare x0 x1 x2 x3) (declare (map unplaced_fun x0) x1 z2 z3)
unfolding unplaced_expr
declare_a [] i s s' k k' near f0 = f0 s s' near
declare_a (tree.FunAt at names name params body funs ∷ fs) i s s' k k' near f0 =
    made (new_function (tree.FunAt at names None params body funs) (Some i)) 0 s s' _ _ near (λ v t y u.
    declare_a fs i (with_variable t i (option_to_list name) v) (with_variable y i (option_to_list name) v) k k' (variable_kept t y i (option_to_list name) v u) f0)

pub call_end_a : (x0 : Completion) (x1 z1 : State) → N x1 z1 → Alike (call_end x0 x1) (call_end x0 z1)
call_end_a (Return v) s s' near = ended (Is v) s s' near
call_end_a (Throw v) s s' near = ended (Throw v) s s' near
call_end_a Normal s s' near = ended (Is Undefined) s s' near
call_end_a (Is v) s s' near = ended (Is Undefined) s s' near
call_end_a (Refers r) s s' near = ended (Is Undefined) s s' near
call_end_a Break s s' near = ended (Is Undefined) s s' near
call_end_a Continue s s' near = ended (Is Undefined) s s' near

pub call_body_a : (x0 : Stmts) (x1 : Place) (x2 z2 : State) → N x2 z2 → Alike (call_body x0 x1 x2) (call_body (unplaced_stmts x0) x1 z2)
call_body_a body p s s' near =
    subst (λ (is : List Stmt). Alike (call_body body p s) (and_then (statements is p s') call_end)) (sym (ap without_directive (stmts_bare body) ∙ directive_bare (stmt_list body)))
    (chain _ _ _ _ (statements_a (without_directive (stmt_list body)) p s s' near) (λ o t y u. call_end_a o t y u))

-- a call in its new scope
entered_a : (fs : List Fun) (body : Stmts) (c : Scope) (d : ℕ) (s s' : State) → N s s'
    → Alike (pay (scope_cost c) s (λ t. declare fs (length t.own.scopes) (with_new_scope t c) (call_body body (record { scope = Some (length t.own.scopes); depth = d }))))
    (pay (scope_cost c) s' (λ t. declare (map unplaced_fun fs) (length t.own.scopes) (with_new_scope t c) (call_body (unplaced_stmts body) (record { scope = Some (length t.own.scopes); depth = d }))))
entered_a fs body c d s s' near = paid (scope_cost c) s s' _ _ near (λ t y u. moved (λ x.
    Alike (declare fs (length t.own.scopes) (with_new_scope t c) (call_body body (record { scope = Some (length t.own.scopes); depth = d })))
    (declare (map unplaced_fun fs) (length x.own.scopes) (with_new_scope x c) (call_body (unplaced_stmts body) (record { scope = Some (length x.own.scopes); depth = d })))) t y u
    (declare_a fs (length t.own.scopes) (with_new_scope t c) (with_new_scope (bare t) c) _ _ (record { same = refl })
    (λ v w n. call_body_a body (record { scope = Some (length t.own.scopes); depth = d }) v w n)))

pub enter_scope_a : (x0 : Fun) (x1 : Option ℕ) (x2 : Value) (x3 : List Value) (x4 : ℕ) (x5 z5 : State) → N x5 z5 → Alike (enter_scope x0 x1 x2 x3 x4 x5) (enter_scope (unplaced_fun x0) x1 x2 x3 x4 z5)
unfolding unplaced_expr
enter_scope_a (tree.FunAt at names name params body funs) outer f vs d s s' near =
    let fun : Fun = tree.FunAt at names name params body funs in
    subst (λ (c : Scope). Alike (enter_scope fun outer f vs d s) (pay (scope_cost c) s' (λ t. declare (fun_list (unplaced_funs funs)) (length t.own.scopes) (with_new_scope t c) (call_body (unplaced_stmts body) (record { scope = Some (length t.own.scopes); depth = d })))))
    (sym (scope_bare fun outer f vs))
    (subst (λ (fs : List Fun). Alike (enter_scope fun outer f vs d s) (pay (scope_cost (call_scope fun outer f vs)) s' (λ t. declare fs (length t.own.scopes) (with_new_scope t (call_scope fun outer f vs)) (call_body (unplaced_stmts body) (record { scope = Some (length t.own.scopes); depth = d })))))
    (sym (funs_bare funs)) (entered_a (fun_list funs) body (call_scope fun outer f vs) d s s' near))

pub enter_a : (x0 : Kind) (x1 : Value) (x2 : List Value) (x3 : ℕ) (x4 z4 : State) → N x4 z4 → Alike (enter x0 x1 x2 x3 x4) (enter (bare_kind x0) x1 x2 x3 z4)
enter_a (Function f outer) v vs d s s' near = either (nat_lt max_depth d) _ _ _ _ (halted Depth s s' near) (enter_scope_a f outer v vs d s s' near)
enter_a Object v vs d s s' near = faulted E2 s s' near
enter_a (Array n) v vs d s s' near = faulted E2 s s' near
enter_a (Bunch ns) v vs d s s' near = faulted E2 s s' near

pub invoke_a : (x0 : Value) (x1 : Option Value) (x2 : List Value) (x3 : ℕ) (x4 z4 : State) → N x4 z4 → Alike (invoke x0 x1 x2 x3 x4) (invoke x0 x1 x2 x3 z4)
invoke_a (Own n) this vs d s s' near =
    moved (λ y. Alike (invoke (Own n) this vs d s) (invoke (Own n) this vs d y)) s s' near
    (subst (λ (c : Cell). Alike (invoke (Own n) this vs d s) (enter c.kind (Own n) vs (suc d) (bare s))) (sym (cell_bare s n))
    (enter_a (cell_at s n).kind (Own n) vs (suc d) s (bare s) (itself s)))
invoke_a (Host (host.Native w)) this vs d s s' near = job (RunNative w this vs d) s s' Ret Ret near (λ o t y u. ended o t y u)
invoke_a v this vs d s s' near = faulted E2 s s' near

pub primitive_result_a : (x0 : Completion) (x1 z1 : State) → N x1 z1 → Alike (primitive_result x0 x1) (primitive_result x0 z1)
primitive_result_a o s s' near = value o s s' _ _ near (λ v. either (is_object v) _ _ _ _ (faulted E6 s s' near) (ended (Is v) s s' near))

pub call_to_string_a : (x0 : Bool) (x1 : Value) (x2 : Value) (x3 : ℕ) (x4 z4 : State) → N x4 z4 → Alike (call_to_string x0 x1 x2 x3 x4) (call_to_string x0 x1 x2 x3 z4)
call_to_string_a true f v d s s' near = job (Call f (Some v) [] d) s s' _ _ near (λ o t y u. primitive_result_a o t y u)
call_to_string_a false f v d s s' near = faulted E6 s s' near

pub to_primitive_a : (x0 : Value) (x1 : ℕ) (x2 z2 : State) → N x2 z2 → Alike (to_primitive x0 x1 x2) (to_primitive x0 x1 z2)
to_primitive_a v d s s' near =
    moved (λ y. Alike (to_primitive v d s) (to_primitive v d y)) s s' near
    (either (is_object v) _ _ _ _
    (subst (λ w. Alike (call_to_string (is_function s (get s v (codes "toString"))) (get s v (codes "toString")) v d s) (call_to_string (is_function (bare s) w) w v d (bare s))) (sym (get_bare s v (codes "toString")))
    (subst (λ b. Alike (call_to_string (is_function s (get s v (codes "toString"))) (get s v (codes "toString")) v d s) (call_to_string b (get s v (codes "toString")) v d (bare s))) (sym (function_bare s (get s v (codes "toString"))))
    (call_to_string_a (is_function s (get s v (codes "toString"))) (get s v (codes "toString")) v d s (bare s) (itself s))))
    (ended (Is v) s (bare s) (itself s)))

pub array_parts_a : (x0 : Value) (x1 : ℕ) (x2 : List Expr) (x3 : Place) (x4 z4 : State) → N x4 z4 → Alike (array_parts x0 x1 x2 x3 x4) (array_parts x0 x1 (map unplaced_expr x2) x3 z4)
array_parts_a v i [] p s s' near = ended (Is v) s s' near
array_parts_a v i (e ∷ es) p s s' near = job (Eval e p) s s' _ _ near (λ o t y u. value o t y _ _ u (λ x.
    put_a v (index_name i) x t y (array_parts v (i + 1) es p) (array_parts v (i + 1) (map unplaced_expr es) p) u (λ t' y' u'. array_parts_a v (i + 1) es p t' y' u')))

pub object_parts_a : (x0 : Value) (x1 : List (List ℕ × Expr)) (x2 : Place) (x3 z3 : State) → N x3 z3 → Alike (object_parts x0 x1 x2 x3) (object_parts x0 (map bare_property x1) x2 z3)
object_parts_a v [] p s s' near = ended (Is v) s s' near
object_parts_a v (q ∷ qs) p s s' near = job (Eval q.1 p) s s' _ _ near (λ o t y u. value o t y _ _ u (λ x.
    put_a v q.0 x t y (object_parts v qs p) (object_parts v (map bare_property qs) p) u (λ t' y' u'. object_parts_a v qs p t' y' u')))

pub subscript_read_a : (x0 : Expr) (x1 : Place) (x2 : Completion) (x3 z3 : State) → N x3 z3 → Alike (subscript_read x0 x1 x2 x3) (subscript_read (unplaced_expr x0) x1 x2 z3)
subscript_read_a i p o s s' near = value o s s' _ _ near (λ b. job (Eval i p) s s' _ _ near (λ o t y u. value o t y _ _ u (λ v. read_a b (to_text v) t y u)))

pub refer_a : (x0 : Value) (x1 : List ℕ) (x2 z2 : State) → N x2 z2 → Alike (refer x0 x1 x2) (refer x0 x1 z2)
refer_a b x s s' near = wanted E1 (not (is_nothing b)) s s' _ _ near (ended (Refers (Property b x)) s s' near)

pub subscript_target_a : (x0 : Expr) (x1 : Place) (x2 : Completion) (x3 z3 : State) → N x3 z3 → Alike (subscript_target x0 x1 x2 x3) (subscript_target (unplaced_expr x0) x1 x2 z3)
subscript_target_a i p o s s' near = value o s s' _ _ near (λ b. job (Eval i p) s s' _ _ near (λ o t y u. value o t y _ _ u (λ v. refer_a b (to_text v) t y u)))

pub write_a : (x0 : Reference) (x1 : Place) (x2 : Value) (x3 z3 : State) (x4 z4 : State → Plan) → N x3 z3 → ((y0 w0 : State) → N y0 w0 → Alike (x4 y0) (z4 w0)) → Alike (write x0 x1 x2 x3 x4) (write x0 x1 x2 z3 z4)
write_a (Variable x) p v s s' k k' near f0 = f0 (assign s p x v) (assign s' p x v) (assign_kept s s' p x v near)
write_a (Property b x) p v s s' k k' near f0 = put_a b x v s s' k k' near f0
write_a (Found w) p v s s' k k' near f0 = f0 s s' near

pub arguments_then_a : (x0 : Reference) (x1 : List Value) (x2 : List Expr) (x3 : Place) (x4 z4 : State) → N x4 z4 → Alike (arguments_then x0 x1 x2 x3 x4) (arguments_then x0 x1 (map unplaced_expr x2) x3 z4)
arguments_then_a r vs [] p s s' near =
    moved (λ y. Alike (invoke (referred r p s) (base_of r) vs p.depth s) (invoke (referred r p y) (base_of r) vs p.depth y)) s s' near
    (subst (λ w. Alike (invoke (referred r p s) (base_of r) vs p.depth s) (invoke w (base_of r) vs p.depth (bare s))) (sym (referred_bare r p s))
    (invoke_a (referred r p s) (base_of r) vs p.depth s (bare s) (itself s)))
arguments_then_a r vs (e ∷ es) p s s' near = job (Eval e p) s s' _ _ near (λ o t y u. value o t y _ _ u (λ v. arguments_then_a r (vs ++ v ∷ []) es p t y u))

pub callee_a : (x0 : List Expr) (x1 : Place) (x2 : Completion) (x3 z3 : State) → N x3 z3 → Alike (callee x0 x1 x2 x3) (callee (map unplaced_expr x0) x1 x2 z3)
callee_a es p o s s' near = reference o s s' _ _ near (λ r. arguments_then_a r [] es p s s' near)

pub result_a : (x0 : OpOut) (x1 z1 : State) → N x1 z1 → Alike (result x0 x1) (result x0 z1)
result_a (Gives (Text t)) s s' near = made_text t s s' _ _ near (λ v y u. ended (Is (Text t)) v y u)
result_a (Gives v) s s' near = ended (Is v) s s' near
result_a Leaves s s' near = halted Number s s' near
result_a TooLong s s' near = halted LongText s s' near

pub converted_left_a : (x0 : BinOp) (x1 : Value) (x2 : ℕ) (x3 : Completion) (x4 z4 : State) → N x4 z4 → Alike (converted_left x0 x1 x2 x3 x4) (converted_left x0 x1 x2 x3 z4)
converted_left_a op w d o s s' near = value o s s' _ _ near (λ v. chain _ _ _ _ (to_primitive_a w d s s' near) (λ o t y u. value o t y _ _ u (λ w. result_a (binary op v w) t y u)))

pub operate_a : (x0 : BinOp) (x1 : Value) (x2 : Value) (x3 : ℕ) (x4 z4 : State) → N x4 z4 → Alike (operate x0 x1 x2 x3 x4) (operate x0 x1 x2 x3 z4)
operate_a op v w d s s' near =
    either (is_converting op) _ _ _ _ (chain _ _ _ _ (to_primitive_a v d s s' near) (λ o t y u. converted_left_a op w d o t y u)) (result_a (binary op v w) s s' near)

pub binary_right_a : (x0 : BinOp) (x1 : Expr) (x2 : Place) (x3 : Completion) (x4 z4 : State) → N x4 z4 → Alike (binary_right x0 x1 x2 x3 x4) (binary_right x0 (unplaced_expr x1) x2 x3 z4)
binary_right_a op b p o s s' near = value o s s' _ _ near (λ v. job (Eval b p) s s' _ _ near (λ o t y u. value o t y _ _ u (λ w. operate_a op v w p.depth t y u)))

pub unary_on_a : (x0 : UnOp) (x1 : Value) (x2 : Place) (x3 z3 : State) → N x3 z3 → Alike (unary_on x0 x1 x2 x3) (unary_on x0 x1 x2 z3)
unary_on_a un.TypeOf v p s s' near = got (λ t. Text (type_name (is_function t v) v)) (λ t. ap (λ b. Text (type_name b v)) (function_bare t v)) s s' near
unary_on_a un.Not v p s s' near = result_a (unary un.Not v) s s' near
unary_on_a op v p s s' near = chain _ _ _ _ (to_primitive_a v p.depth s s' near) (λ o t y u. value o t y _ _ u (λ v. result_a (unary op v) t y u))

pub delete_at_a : (x0 : Reference) (x1 z1 : State) → N x1 z1 → Alike (delete_at x0 x1) (delete_at x0 z1)
delete_at_a (Property b x) s s' near = delete_a b x s s' _ _ near (λ b t y u. ended (Is (Truth b)) t y u)
delete_at_a (Variable x) s s' near = ended (Is (Truth true)) s s' near
delete_at_a (Found v) s s' near = ended (Is (Truth true)) s s' near

pub delete_target_a : (x0 : Completion) (x1 z1 : State) → N x1 z1 → Alike (delete_target x0 x1) (delete_target x0 z1)
delete_target_a o s s' near = reference o s s' _ _ near (λ r. delete_at_a r s s' near)

pub step_write_a : (x0 : OpOut) (x1 : StepOp) (x2 : Value) (x3 : Reference) (x4 : Place) (x5 z5 : State) → N x5 z5 → Alike (step_write x0 x1 x2 x3 x4 x5) (step_write x0 x1 x2 x3 x4 z5)
step_write_a (Gives w) op v r p s s' near = write_a r p w s s' _ _ near (λ t y u. ended (Is (if is_post op then v else w)) t y u)
step_write_a Leaves op v r p s s' near = halted Number s s' near
step_write_a TooLong op v r p s s' near = halted LongText s s' near

pub step_number_a : (x0 : WholeRead) (x1 : StepOp) (x2 : Reference) (x3 : Place) (x4 z4 : State) → N x4 z4 → Alike (step_number x0 x1 x2 x3 x4) (step_number x0 x1 x2 x3 z4)
step_number_a (read_as.Whole z) op r p s s' near = step_write_a (stepped op z) op (Num z) r p s s' near
step_number_a read_as.NotNumber op r p s s' near = step_write_a (Gives NaN) op NaN r p s s' near
step_number_a read_as.Left op r p s s' near = halted Number s s' near

pub step_converted_a : (x0 : StepOp) (x1 : Reference) (x2 : Place) (x3 : Completion) (x4 z4 : State) → N x4 z4 → Alike (step_converted x0 x1 x2 x3 x4) (step_converted x0 x1 x2 x3 z4)
step_converted_a op r p o s s' near = value o s s' _ _ near (λ v. step_number_a (to_number v) op r p s s' near)

pub step_target_a : (x0 : StepOp) (x1 : Place) (x2 : Completion) (x3 z3 : State) → N x3 z3 → Alike (step_target x0 x1 x2 x3) (step_target x0 x1 x2 z3)
step_target_a op p o s s' near = reference o s s' _ _ near (λ r.
    moved (λ y. Alike (and_then (to_primitive (referred r p s) p.depth s) (step_converted op r p)) (and_then (to_primitive (referred r p y) p.depth y) (step_converted op r p))) s s' near
    (subst (λ w. Alike (and_then (to_primitive (referred r p s) p.depth s) (step_converted op r p)) (and_then (to_primitive w p.depth (bare s)) (step_converted op r p))) (sym (referred_bare r p s))
    (chain _ _ _ _ (to_primitive_a (referred r p s) p.depth s (bare s) (itself s)) (λ o t y u. step_converted_a op r p o t y u))))

pub compound_a : (x0 : AssignOp) (x1 : Value) (x2 : Value) (x3 : ℕ) (x4 z4 : State) → N x4 z4 → Alike (compound x0 x1 x2 x3 x4) (compound x0 x1 x2 x3 z4)
compound_a assignment.Add v w d s s' near = operate_a bin.Add v w d s s' near
compound_a assignment.Sub v w d s s' near = operate_a bin.Sub v w d s s' near
compound_a assignment.Mul v w d s s' near = operate_a bin.Mul v w d s s' near
compound_a assignment.Div v w d s s' near = operate_a bin.Div v w d s s' near
compound_a assignment.Rem v w d s s' near = operate_a bin.Rem v w d s s' near
compound_a op v w d s s' near = ended (Is w) s s' near

pub assign_with_a : (x0 : AssignOp) (x1 : Reference) (x2 : Value) (x3 : Place) (x4 : Completion) (x5 z5 : State) → N x5 z5 → Alike (assign_with x0 x1 x2 x3 x4 x5) (assign_with x0 x1 x2 x3 x4 z5)
assign_with_a op r v p o s s' near = value o s s' _ _ near (λ w. chain _ _ _ _ (compound_a op v w p.depth s s' near) (λ o t y u. value o t y _ _ u (λ v.
    write_a r p v t y _ _ u (λ t' y' u'. ended (Is v) t' y' u'))))

pub assign_target_a : (x0 : AssignOp) (x1 : Expr) (x2 : Place) (x3 : Completion) (x4 z4 : State) → N x4 z4 → Alike (assign_target x0 x1 x2 x3 x4) (assign_target x0 (unplaced_expr x1) x2 x3 z4)
assign_target_a op e p o s s' near = reference o s s' _ _ near (λ r.
    moved (λ y. Alike (Do (Eval e p) s (assign_with op r (referred r p s) p)) (Do (Eval (unplaced_expr e) p) y (assign_with op r (referred r p y) p))) s s' near
    (subst (λ w. Alike (Do (Eval e p) s (assign_with op r (referred r p s) p)) (Do (Eval (unplaced_expr e) p) (bare s) (assign_with op r w p))) (sym (referred_bare r p s))
    (job (Eval e p) s (bare s) _ _ (itself s) (λ o t y u. assign_with_a op r (referred r p s) p o t y u))))

pub and_right_a : (x0 : Expr) (x1 : Place) (x2 : Completion) (x3 z3 : State) → N x3 z3 → Alike (and_right x0 x1 x2 x3) (and_right (unplaced_expr x0) x1 x2 z3)
and_right_a b p o s s' near = value o s s' _ _ near (λ v. either (is_true v) _ _ _ _ (job (Eval b p) s s' Ret Ret near (λ o t y u. ended o t y u)) (ended (Is v) s s' near))

pub or_right_a : (x0 : Expr) (x1 : Place) (x2 : Completion) (x3 z3 : State) → N x3 z3 → Alike (or_right x0 x1 x2 x3) (or_right (unplaced_expr x0) x1 x2 z3)
or_right_a b p o s s' near = value o s s' _ _ near (λ v. either (is_true v) _ _ _ _ (ended (Is v) s s' near) (job (Eval b p) s s' Ret Ret near (λ o t y u. ended o t y u)))

pub choose_a : (x0 : Expr) (x1 : Expr) (x2 : Place) (x3 : Completion) (x4 z4 : State) → N x4 z4 → Alike (choose x0 x1 x2 x3 x4) (choose (unplaced_expr x0) (unplaced_expr x1) x2 x3 z4)
choose_a b c p o s s' near = value o s s' _ _ near (λ v. either (is_true v) _ _ _ _ (job (Eval b p) s s' Ret Ret near (λ o t y u. ended o t y u)) (job (Eval c p) s s' Ret Ret near (λ o t y u. ended o t y u)))

pub prefix_form_a : (x0 : UnOp) (x1 : Expr) (x2 : Place) (x3 z3 : State) → N x3 z3 → Alike (prefix_form x0 x1 x2 x3) (prefix_form x0 (unplaced_expr x1) x2 z3)
unfolding unplaced_expr
prefix_form_a un.Delete e p s s' near = job (Target e p) s s' _ _ near (λ o t y u. delete_target_a o t y u)
prefix_form_a op e p s s' near = job (Eval e p) s s' _ _ near (λ o t y u. value o t y _ _ u (λ v. unary_on_a op v p t y u))

pub expression_a : (x0 : ExprForm) (x1 : Place) (x2 z2 : State) → N x2 z2 → Alike (expression x0 x1 x2) (expression (unplaced_form x0) x1 z2)
unfolding unplaced_expr
expression_a (tree.Num t) p s s' near = ended (Is (literal (number_in t))) s s' near
expression_a (tree.Str t) p s s' near = ended (Is (Text t)) s s' near
expression_a (tree.Name x) p s s' near = got (λ t. variable t p x) (λ t. variable_bare t p x) s s' near
expression_a (tree.Constant w) p s s' near = ended (Is (word_value w)) s s' near
expression_a (tree.Array es) p s s' near =
    subst (λ (xs : List Expr). Alike (expression (tree.Array es) p s) (make (new_array 0 []) 0 s' (λ a t. array_parts a 0 xs p t))) (sym (exprs_bare es))
    (made (new_array 0 []) 0 s s' _ _ near (λ v t y u. array_parts_a v 0 (expr_list es) p t y u))
expression_a (tree.Object qs) p s s' near =
    subst (λ (xs : List (List ℕ × Expr)). Alike (expression (tree.Object qs) p s) (make (plain_object []) 0 s' (λ a t. object_parts a xs p t))) (sym (properties_bare qs))
    (made (plain_object []) 0 s s' _ _ near (λ v t y u. object_parts_a v (property_list qs) p t y u))
expression_a (tree.Function f) p s s' near = made (new_function f p.scope) 0 s s' _ _ near (λ v t y u. ended (Is v) t y u)
expression_a (tree.Dot e x) p s s' near = job (Eval e p) s s' _ _ near (λ o t y u. value o t y _ _ u (λ b. read_a b x t y u))
expression_a (tree.Sub e i) p s s' near = job (Eval e p) s s' _ _ near (λ o t y u. subscript_read_a i p o t y u)
expression_a (tree.Call e es) p s s' near =
    subst (λ (xs : List Expr). Alike (expression (tree.Call e es) p s) (Do (Target (unplaced_expr e) p) s' (callee xs p))) (sym (exprs_bare es))
    (job (Target e p) s s' _ _ near (λ o t y u. callee_a (expr_list es) p o t y u))
expression_a (tree.Step op e) p s s' near = job (Target e p) s s' _ _ near (λ o t y u. step_target_a op p o t y u)
expression_a (tree.Unary op e) p s s' near = prefix_form_a op e p s s' near
expression_a (tree.Binary op a b) p s s' near = job (Eval a p) s s' _ _ near (λ o t y u. binary_right_a op b p o t y u)
expression_a (tree.And a b) p s s' near = job (Eval a p) s s' _ _ near (λ o t y u. and_right_a b p o t y u)
expression_a (tree.Or a b) p s s' near = job (Eval a p) s s' _ _ near (λ o t y u. or_right_a b p o t y u)
expression_a (tree.Cond a b c) p s s' near = job (Eval a p) s s' _ _ near (λ o t y u. choose_a b c p o t y u)
expression_a (tree.Assign op e v) p s s' near = job (Target e p) s s' _ _ near (λ o t y u. assign_target_a op v p o t y u)
expression_a (tree.New e es) p s s' near = ended (Is Undefined) s s' near
expression_a (tree.Comma a b) p s s' near = ended (Is Undefined) s s' near

pub target_a : (x0 : ExprForm) (x1 : Place) (x2 z2 : State) → N x2 z2 → Alike (target x0 x1 x2) (target (unplaced_form x0) x1 z2)
unfolding unplaced_expr
target_a (tree.Name x) p s s' near = ended (Refers (Variable x)) s s' near
target_a (tree.Dot e x) p s s' near = job (Eval e p) s s' _ _ near (λ o t y u. value o t y _ _ u (λ b. refer_a b x t y u))
target_a (tree.Sub e i) p s s' near = job (Eval e p) s s' _ _ near (λ o t y u. subscript_target_a i p o t y u)
target_a form p s s' near = chain (expression form p s) (expression (unplaced_form form) p s') _ _ (expression_a form p s s' near) (λ o t y u. value o t y _ _ u (λ v. ended (Refers (Found v)) t y u))

pub declaration_a : (x0 : OptionalExpr) (x1 : List ℕ) (x2 : Place) (x3 z3 : State) (x4 z4 : State → Plan) → N x3 z3 → ((y0 w0 : State) → N y0 w0 → Alike (x4 y0) (z4 w0)) → Alike (declaration x0 x1 x2 x3 x4) (declaration (unplaced_optional x0) x1 x2 z3 z4)
unfolding unplaced_expr
declaration_a tree.NoExpr x p s s' k k' near f0 = f0 s s' near
declaration_a (tree.SomeExpr e) x p s s' k k' near f0 = job (Eval e p) s s' _ _ near (λ o t y u. value o t y _ _ u (λ v. f0 (assign t p x v) (assign y p x v) (assign_kept t y p x v u)))

pub declarations_a : (x0 : List (List ℕ × OptionalExpr)) (x1 : Place) (x2 z2 : State) → N x2 z2 → Alike (declarations x0 x1 x2) (declarations (map bare_decl x0) x1 z2)
declarations_a [] p s s' near = ended Normal s s' near
declarations_a (d ∷ ds) p s s' near = declaration_a d.1 d.0 p s s' (declarations ds p) (declarations (map bare_decl ds) p) near (λ t y u. declarations_a ds p t y u)

pub expressions_a : (x0 : List Expr) (x1 : Place) (x2 z2 : State) → N x2 z2 → Alike (expressions x0 x1 x2) (expressions (map unplaced_expr x0) x1 z2)
expressions_a [] p s s' near = ended Normal s s' near
expressions_a (e ∷ es) p s s' near = job (Eval e p) s s' _ _ near (λ o t y u. value o t y _ _ u (λ v. expressions_a es p t y u))

-- the statements of a block
block_a : (b : Stmts) (p : Place) (s s' : State) → N s s' → Alike (statements (stmt_list b) p s) (statements (stmt_list (unplaced_stmts b)) p s')
block_a b p s s' near = subst (λ (is : List Stmt). Alike (statements (stmt_list b) p s) (statements is p s')) (sym (stmts_bare b)) (statements_a (stmt_list b) p s s' near)

pub branch_a : (x0 : Stmts) (x1 : Stmts) (x2 : Place) (x3 : Completion) (x4 z4 : State) → N x4 z4 → Alike (branch x0 x1 x2 x3 x4) (branch (unplaced_stmts x0) (unplaced_stmts x1) x2 x3 z4)
branch_a a b p o s s' near = value o s s' _ _ near (λ v. either (is_true v) _ _ _ _ (block_a a p s s' near) (block_a b p s s' near))

pub loop_test_a : (x0 : Loop) (x1 : Place) (x2 : Completion) (x3 z3 : State) → N x3 z3 → Alike (loop_test x0 x1 x2 x3) (loop_test (bare_loop x0) x1 x2 z3)
loop_test_a l p o s s' near = value o s s' _ _ near (λ v. either (is_true v) _ _ _ _ (job (Pass l p) s s' Ret Ret near (λ o t y u. ended o t y u)) (ended Normal s s' near))

pub loop_end_a : (x0 : Completion) (x1 z1 : State) (x2 z2 : Plan) → N x1 z1 → Alike x2 z2 → Alike (loop_end x0 x1 x2) (loop_end x0 z1 z2)
loop_end_a Normal s s' p p' near f0 = f0
loop_end_a Continue s s' p p' near f0 = f0
loop_end_a Break s s' p p' near f0 = ended Normal s s' near
loop_end_a (Is v) s s' p p' near f0 = ended (Is v) s s' near
loop_end_a (Refers r) s s' p p' near f0 = ended (Refers r) s s' near
loop_end_a (Return v) s s' p p' near f0 = ended (Return v) s s' near
loop_end_a (Throw v) s s' p p' near f0 = ended (Throw v) s s' near

pub while_next_a : (x0 : Expr) (x1 : List Stmt) (x2 : Place) (x3 : Completion) (x4 z4 : State) → N x4 z4 → Alike (while_next x0 x1 x2 x3 x4) (while_next (unplaced_expr x0) (map unplaced_stmt x1) x2 x3 z4)
while_next_a e b p o s s' near = loop_end_a o s s' _ _ near (job (Eval e p) s s' _ _ near (λ o t y u. loop_test_a (WhileLoop e b) p o t y u))

pub do_next_a : (x0 : List Stmt) (x1 : Expr) (x2 : Place) (x3 : Completion) (x4 z4 : State) → N x4 z4 → Alike (do_next x0 x1 x2 x3 x4) (do_next (map unplaced_stmt x0) (unplaced_expr x1) x2 x3 z4)
do_next_a b e p o s s' near = loop_end_a o s s' _ _ near (job (Eval e p) s s' _ _ near (λ o t y u. loop_test_a (DoLoop b e) p o t y u))

pub for_test_a : (x0 : OptionalExpr) (x1 : List Expr) (x2 : List Stmt) (x3 : Place) (x4 z4 : State) → N x4 z4 → Alike (for_test x0 x1 x2 x3 x4) (for_test (unplaced_optional x0) (map unplaced_expr x1) (map unplaced_stmt x2) x3 z4)
unfolding unplaced_expr
for_test_a tree.NoExpr next b p s s' near = job (Pass (ForLoop tree.NoExpr next b) p) s s' Ret Ret near (λ o t y u. ended o t y u)
for_test_a (tree.SomeExpr e) next b p s s' near = job (Eval e p) s s' _ _ near (λ o t y u. loop_test_a (ForLoop (tree.SomeExpr e) next b) p o t y u)

pub for_again_a : (x0 : OptionalExpr) (x1 : List Expr) (x2 : List Stmt) (x3 : Place) (x4 : Completion) (x5 z5 : State) → N x5 z5 → Alike (for_again x0 x1 x2 x3 x4 x5) (for_again (unplaced_optional x0) (map unplaced_expr x1) (map unplaced_stmt x2) x3 x4 z5)
for_again_a test next b p o s s' near = normal o s s' _ _ near (for_test_a test next b p s s' near)

pub for_next_a : (x0 : OptionalExpr) (x1 : List Expr) (x2 : List Stmt) (x3 : Place) (x4 : Completion) (x5 z5 : State) → N x5 z5 → Alike (for_next x0 x1 x2 x3 x4 x5) (for_next (unplaced_optional x0) (map unplaced_expr x1) (map unplaced_stmt x2) x3 x4 z5)
for_next_a test next b p o s s' near = loop_end_a o s s' _ _ near (chain _ _ _ _ (expressions_a next p s s' near) (λ o t y u. for_again_a test next b p o t y u))

pub for_init_a : (x0 : ForInit) (x1 : Place) (x2 z2 : State) → N x2 z2 → Alike (for_init x0 x1 x2) (for_init (unplaced_init x0) x1 z2)
unfolding unplaced_expr
for_init_a (tree.DeclsFirst ds) p s s' near = subst (λ (xs : List (List ℕ × OptionalExpr)). Alike (declarations (decl_list ds) p s) (declarations xs p s')) (sym (decls_bare ds)) (declarations_a (decl_list ds) p s s' near)
for_init_a (tree.ExprsFirst es) p s s' near = subst (λ (xs : List Expr). Alike (expressions (expr_list es) p s) (expressions xs p s')) (sym (exprs_bare es)) (expressions_a (expr_list es) p s s' near)

pub for_in_a : (x0 : Value) (x1 : List ℕ) (x2 : List (List ℕ)) (x3 : List Stmt) (x4 : Place) (x5 z5 : State) → N x5 z5 → Alike (for_in x0 x1 x2 x3 x4 x5) (for_in x0 x1 x2 (map unplaced_stmt x3) x4 z5)
for_in_a v x [] b p s s' near = ended Normal s s' near
for_in_a v x (y ∷ ys) b p s s' near =
    moved (λ z. Alike (for_in v x (y ∷ ys) b p s) (for_in v x (y ∷ ys) (map unplaced_stmt b) p z)) s s' near
    (subst (λ r. Alike (for_in v x (y ∷ ys) b p s) (if is_some r then Do (Pass (ForInLoop v x y ys (map unplaced_stmt b)) p) (bare s) Ret else for_in v x ys (map unplaced_stmt b) p (bare s))) (sym (property_bare s v y))
    (either (is_some (property s v y)) _ _ _ _ (job (Pass (ForInLoop v x y ys b) p) s (bare s) Ret Ret (itself s) (λ o t z u. ended o t z u)) (for_in_a v x ys b p s (bare s) (itself s))))

pub for_in_next_a : (x0 : Value) (x1 : List ℕ) (x2 : List (List ℕ)) (x3 : List Stmt) (x4 : Place) (x5 : Completion) (x6 z6 : State) → N x6 z6 → Alike (for_in_next x0 x1 x2 x3 x4 x5 x6) (for_in_next x0 x1 x2 (map unplaced_stmt x3) x4 x5 z6)
for_in_next_a v x ys b p o s s' near = loop_end_a o s s' _ _ near (for_in_a v x ys b p s s' near)

pub for_in_over_a : (x0 : List ℕ) (x1 : List Stmt) (x2 : Place) (x3 : Completion) (x4 z4 : State) → N x4 z4 → Alike (for_in_over x0 x1 x2 x3 x4) (for_in_over x0 (map unplaced_stmt x1) x2 x3 z4)
for_in_over_a x b p o s s' near = value o s s' _ _ near (λ v. either (is_nothing v) _ _ _ _ (faulted E1 s s' near)
    (moved (λ y. Alike (charge (length (names_of s v)) s (for_in v x (names_of s v) b p s)) (charge (length (names_of y v)) y (for_in v x (names_of y v) (map unplaced_stmt b) p y))) s s' near
    (subst (λ (ns : List (List ℕ)). Alike (charge (length (names_of s v)) s (for_in v x (names_of s v) b p s)) (charge (length ns) (bare s) (for_in v x ns (map unplaced_stmt b) p (bare s)))) (sym (names_bare s v))
    (charged (length (names_of s v)) s (bare s) _ _ (itself s) (for_in_a v x (names_of s v) b p s (bare s) (itself s))))))

pub pass_a : (x0 : Loop) (x1 : Place) (x2 z2 : State) → N x2 z2 → Alike (pass x0 x1 x2) (pass (bare_loop x0) x1 z2)
pass_a (WhileLoop e b) p s s' near = chain _ _ _ _ (statements_a b p s s' near) (λ o t y u. while_next_a e b p o t y u)
pass_a (DoLoop b e) p s s' near = chain _ _ _ _ (statements_a b p s s' near) (λ o t y u. do_next_a b e p o t y u)
pass_a (ForLoop test next b) p s s' near = chain _ _ _ _ (statements_a b p s s' near) (λ o t y u. for_next_a test next b p o t y u)
pass_a (ForInLoop v x y ys b) p s s' near = chain _ _ _ _ (statements_a b p (assign s p x (Text y)) (assign s' p x (Text y)) (assign_kept s s' p x (Text y) near)) (λ o t z u. for_in_next_a v x ys b p o t z u)

pub return_form_a : (x0 : OptionalExpr) (x1 : Place) (x2 z2 : State) → N x2 z2 → Alike (return_form x0 x1 x2) (return_form (unplaced_optional x0) x1 z2)
unfolding unplaced_expr
return_form_a tree.NoExpr p s s' near = ended (Return Undefined) s s' near
return_form_a (tree.SomeExpr e) p s s' near = job (Eval e p) s s' _ _ near (λ o t y u. value o t y _ _ u (λ v. ended (Return v) t y u))

pub case_test_a : (x0 : OptionalExpr) (x1 : Place) (x2 z2 : State) (x3 z3 : Value → State → Plan) (x4 z4 : Plan) → N x2 z2 → ((y0 : Value) (y1 w1 : State) → N y1 w1 → Alike (x3 y0 y1) (z3 y0 w1)) → Alike x4 z4 → Alike (case_test x0 x1 x2 x3 x4) (case_test (unplaced_optional x0) x1 z2 z3 z4)
unfolding unplaced_expr
case_test_a tree.NoExpr p s s' k k' skip skip' near f0 f1 = f1
case_test_a (tree.SomeExpr e) p s s' k k' skip skip' near f0 f1 = job (Eval e p) s s' _ _ near (λ o t y u. value o t y _ _ u (λ w. f0 w t y u))

pub choose_case_a : (x0 : Value) (x1 : List Case) (x2 : List Case) (x3 : Place) (x4 z4 : State) → N x4 z4 → Alike (choose_case x0 x1 x2 x3 x4) (choose_case x0 (map bare_case x1) (map bare_case x2) x3 z4)
choose_case_a v all [] p s s' near =
    subst (λ (is : List Stmt). Alike (statements (from_default all all) p s) (statements is p s')) (sym (default_bare all all)) (statements_a (from_default all all) p s s' near)
choose_case_a v all (c ∷ cs) p s s' near = case_test_a c.0 p s s' _ _ _ _ near (λ x t y u. either (is_same v x) _ _ _ _
    (subst (λ (is : List Stmt). Alike (statements (c.1 ++ bodies cs) p t) (statements is p y)) (sym (bodies_bare (c ∷ cs))) (statements_a (c.1 ++ bodies cs) p t y u))
    (choose_case_a v all cs p t y u)) (choose_case_a v all cs p s s' near)

pub switch_end_a : (x0 : Completion) (x1 z1 : State) → N x1 z1 → Alike (switch_end x0 x1) (switch_end x0 z1)
switch_end_a Break s s' near = ended Normal s s' near
switch_end_a o s s' near = ended o s s' near

pub switch_on_a : (x0 : List Case) (x1 : Place) (x2 : Completion) (x3 z3 : State) → N x3 z3 → Alike (switch_on x0 x1 x2 x3) (switch_on (map bare_case x0) x1 x2 z3)
switch_on_a cs p o s s' near = value o s s' _ _ near (λ v. chain _ _ _ _ (choose_case_a v cs cs p s s' near) (λ o t y u. switch_end_a o t y u))

pub in_catch_a : (x0 : List ℕ) (x1 : List Stmt) (x2 : Value) (x3 : Place) (x4 z4 : State) → N x4 z4 → Alike (in_catch x0 x1 x2 x3 x4) (in_catch x0 (map unplaced_stmt x1) x2 x3 z4)
in_catch_a x b v p s s' near = paid (scope_cost (record { outer = p.scope; pairs = (x, v) ∷ [] })) s s' _ _ near (λ t y u. moved (λ z.
    Alike (statements b (record { scope = Some (length t.own.scopes); depth = p.depth }) (with_new_scope t (record { outer = p.scope; pairs = (x, v) ∷ [] })))
    (statements (map unplaced_stmt b) (record { scope = Some (length z.own.scopes); depth = p.depth }) (with_new_scope z (record { outer = p.scope; pairs = (x, v) ∷ [] })))) t y u
    (statements_a b (record { scope = Some (length t.own.scopes); depth = p.depth }) (with_new_scope t (record { outer = p.scope; pairs = (x, v) ∷ [] })) (with_new_scope (bare t) (record { outer = p.scope; pairs = (x, v) ∷ [] })) (record { same = refl })))

pub caught_a : (x0 : Catch) (x1 : Place) (x2 : Completion) (x3 z3 : State) → N x3 z3 → Alike (caught x0 x1 x2 x3) (caught (unplaced_catch x0) x1 x2 z3)
unfolding unplaced_expr
caught_a tree.NoCatch p o s s' near = ended o s s' near
caught_a (tree.CatchAs x b) p o s s' near = thrown o _ _ _ _ (ended o s s' near) (λ v.
    subst (λ (is : List Stmt). Alike (in_catch x (stmt_list b) v p s) (in_catch x is v p s')) (sym (stmts_bare b)) (in_catch_a x (stmt_list b) v p s s' near))

pub last_end_a : (x0 : Completion) (x1 : Completion) (x2 z2 : State) → N x2 z2 → Alike (last_end x0 x1 x2) (last_end x0 x1 z2)
last_end_a o how s s' near = normal how s s' _ _ near (ended o s s' near)

pub finally_a : (x0 : OptionalBlock) (x1 : Place) (x2 : Completion) (x3 z3 : State) → N x3 z3 → Alike (finally x0 x1 x2 x3) (finally (unplaced_block x0) x1 x2 z3)
unfolding unplaced_expr
finally_a tree.NoBlock p o s s' near = ended o s s' near
finally_a (tree.SomeBlock b) p o s s' near = chain _ _ _ _ (block_a b p s s' near) (λ how t y u. last_end_a o how t y u)

pub statement_a : (x0 : StmtForm) (x1 : Place) (x2 z2 : State) → N x2 z2 → Alike (statement x0 x1 x2) (statement (unplaced_stmt_form x0) x1 z2)
unfolding unplaced_expr
statement_a (tree.Var ds) p s s' near = subst (λ (xs : List (List ℕ × OptionalExpr)). Alike (declarations (decl_list ds) p s) (declarations xs p s')) (sym (decls_bare ds)) (declarations_a (decl_list ds) p s s' near)
statement_a (tree.Only e) p s s' near = job (Eval e p) s s' _ _ near (λ o t y u. value o t y _ _ u (λ v. ended Normal t y u))
statement_a (tree.If e a b) p s s' near = job (Eval e p) s s' _ _ near (λ o t y u. branch_a a b p o t y u)
statement_a (tree.While e b) p s s' near =
    subst (λ (is : List Stmt). Alike (statement (tree.While e b) p s) (Do (Eval (unplaced_expr e) p) s' (loop_test (WhileLoop (unplaced_expr e) is) p))) (sym (stmts_bare b))
    (job (Eval e p) s s' _ _ near (λ o t y u. loop_test_a (WhileLoop e (stmt_list b)) p o t y u))
statement_a (tree.DoWhile e b) p s s' near =
    subst (λ (is : List Stmt). Alike (statement (tree.DoWhile e b) p s) (Do (Pass (DoLoop is (unplaced_expr e)) p) s' Ret)) (sym (stmts_bare b))
    (job (Pass (DoLoop (stmt_list b) e) p) s s' Ret Ret near (λ o t y u. ended o t y u))
statement_a (tree.For first test next b) p s s' near =
    subst (λ (is : List Stmt). Alike (statement (tree.For first test next b) p s) (and_then (for_init (unplaced_init first) p s') (for_again (unplaced_optional test) (expr_list (unplaced_exprs next)) is p))) (sym (stmts_bare b))
    (subst (λ (xs : List Expr). Alike (statement (tree.For first test next b) p s) (and_then (for_init (unplaced_init first) p s') (for_again (unplaced_optional test) xs (map unplaced_stmt (stmt_list b)) p))) (sym (exprs_bare next))
    (chain _ _ _ _ (for_init_a first p s s' near) (λ o t y u. for_again_a test (expr_list next) (stmt_list b) p o t y u)))
statement_a (tree.ForIn is_declared x e b) p s s' near =
    subst (λ (is : List Stmt). Alike (statement (tree.ForIn is_declared x e b) p s) (Do (Eval (unplaced_expr e) p) s' (for_in_over x is p))) (sym (stmts_bare b))
    (job (Eval e p) s s' _ _ near (λ o t y u. for_in_over_a x (stmt_list b) p o t y u))
statement_a (tree.Continue x) p s s' near = ended Continue s s' near
statement_a (tree.Break x) p s s' near = ended Break s s' near
statement_a (tree.Return e) p s s' near = return_form_a e p s s' near
statement_a (tree.Throw e) p s s' near = job (Eval e p) s s' _ _ near (λ o t y u. value o t y _ _ u (λ v. ended (Throw v) t y u))
statement_a (tree.Switch e cs) p s s' near =
    subst (λ (xs : List Case). Alike (statement (tree.Switch e cs) p s) (Do (Eval (unplaced_expr e) p) s' (switch_on xs p))) (sym (clauses_bare cs))
    (job (Eval e p) s s' _ _ near (λ o t y u. switch_on_a (clause_list cs) p o t y u))
statement_a (tree.Try a c b) p s s' near =
    chain _ _ _ _ (chain _ _ _ _ (block_a a p s s' near) (λ o t y u. caught_a c p o t y u)) (λ o t y u. finally_a b p o t y u)
statement_a (tree.With e b) p s s' near = ended Normal s s' near
statement_a (tree.Label x i) p s s' near = ended Normal s s' near

pub hear_a : (x0 : List ℕ) (x1 : ℕ) (x2 : Value) (x3 : ℕ) (x4 : ℕ) (x5 : List ℕ) (x6 z6 : State) → N x6 z6 → Alike (hear x0 x1 x2 x3 x4 x5 x6) (hear x0 x1 x2 x3 x4 x5 z6)
hear_a kind target value d node [] s s' near = ended (Is Undefined) s s' near
hear_a kind target value d node (f ∷ fs) s s' near = paid event_cost s s' _ _ near (λ t y u. moved (λ z.
    Alike (Do (Hear (heard_at kind target node value f fs d t)) (with_dispatch (with_event t kind target node value)) Ret)
    (Do (Hear (heard_at kind target node value f fs d z)) (with_dispatch (with_event z kind target node value)) Ret)) t y u
    (subst (λ n. Alike (Do (Hear (heard_at kind target node value f fs d t)) (with_dispatch (with_event t kind target node value)) Ret)
    (Do (Hear (record { kind = kind; target = target; node = node; value = value; event = Own n; first = f; others = fs; depth = d })) (with_dispatch (with_event (bare t) kind target node value)) Ret)) (sym (births t))
    (job (Hear (heard_at kind target node value f fs d t)) (with_dispatch (with_event t kind target node value)) (with_dispatch (with_event (bare t) kind target node value)) Ret Ret (event_kept t kind target node value) (λ o v w n. ended o v w n))))

pub hear_found_a : (x0 : Option (ℕ × List ℕ)) (x1 : List ℕ) (x2 : ℕ) (x3 : Value) (x4 : ℕ) (x5 z5 : State) → N x5 z5 → Alike (hear_found x0 x1 x2 x3 x4 x5) (hear_found x0 x1 x2 x3 x4 z5)
hear_found_a None kind target value d s s' near = ended (Is Undefined) s s' near
hear_found_a (Some (node, fs)) kind target value d s s' near = hear_a kind target value d node fs s s' near

pub search_from_a : (x0 : Option ℕ) (x1 : List ℕ) (x2 : ℕ) (x3 : Value) (x4 : ℕ) (x5 z5 : State) → N x5 z5 → Alike (search_from x0 x1 x2 x3 x4 x5) (search_from x0 x1 x2 x3 x4 z5)
search_from_a o kind target value d s s' near =
    moved (λ y. Alike (search_from o kind target value d s) (search_from o kind target value d y)) s s' near
    (subst (λ (r : Option (ℕ × List ℕ)). Alike (search_from o kind target value d s) (hear_found r kind target value d (bare s))) (sym (nearest_bare s o kind))
    (hear_found_a (nearest s o kind) kind target value d s (bare s) (itself s)))

pub dispatch_a : (x0 : List ℕ) (x1 : ℕ) (x2 : Value) (x3 : ℕ) (x4 z4 : State) → N x4 z4 → Alike (dispatch x0 x1 x2 x3 x4) (dispatch x0 x1 x2 x3 z4)
dispatch_a kind target value d s s' near = search_from_a (Some target) kind target value d s s' near

pub handlers_a : (x0 : List ℕ) (x1 : Hearing) (x2 z2 : State) → N x2 z2 → Alike (handlers x0 x1 x2) (handlers x0 x1 z2)
handlers_a [] g s s' near = ended (Is Undefined) s s' near
handlers_a (f ∷ fs) g s s' near = job (Call (Own f) None (g.event ∷ []) g.depth) s s' _ _ near (λ o t y u. value o t y _ _ u (λ v. handlers_a fs g t y u))

pub bubble_on_a : (x0 : Bool) (x1 : Hearing) (x2 z2 : State) → N x2 z2 → Alike (bubble_on x0 x1 x2) (bubble_on x0 x1 z2)
bubble_on_a false h s s' near = ended (Is Undefined) s s' near
bubble_on_a true h s s' near = moved (λ y. Alike (bubble_on true h s) (bubble_on true h y)) s s' near (search_from_a (parent h.node s.own.forest) h.kind h.target h.value h.depth s (bare s) (itself s))

pub dispatch_end_a : (x0 : Hearing) (x1 : Completion) (x2 z2 : State) → N x2 z2 → Alike (dispatch_end x0 x1 x2) (dispatch_end x0 x1 z2)
dispatch_end_a h (Is v) s s' near = moved (λ y. Alike (dispatch_end h (Is v) s) (dispatch_end h (Is v) y)) s s' near (bubble_on_a (is_bubbled s) h (without_dispatch s) (without_dispatch (bare s)) (record { same = refl }))
dispatch_end_a h o s s' near = moved (λ y. Alike (Ret o (without_dispatch s)) (Ret o (without_dispatch y))) s s' near (ended o (without_dispatch s) (without_dispatch (bare s)) (record { same = refl }))

pub bubble_a : (x0 : List Bool) (x1 z1 : State) → N x1 z1 → Alike (bubble x0 x1) (bubble x0 z1)
bubble_a [] s s' near = faulted E3 s s' near
bubble_a (b ∷ bs) s s' near = moved (λ y. Alike (bubble (b ∷ bs) s) (bubble (b ∷ bs) y)) s s' near (ended (Is Undefined) (record s { dispatches = true ∷ bs }) (record (bare s) { dispatches = true ∷ bs }) (record { same = refl }))

pub heard_a : (x0 : Hearing) (x1 z1 : State) → N x1 z1 → Alike (heard x0 x1) (heard x0 z1)
heard_a h s s' near = chain _ _ _ _ (chain _ _ _ _ (invoke_a (Own h.first) None (h.event ∷ []) h.depth s s' near) (λ o t y u. value o t y _ _ u (λ v. handlers_a h.others h t y u))) (λ o t y u. dispatch_end_a h o t y u)
