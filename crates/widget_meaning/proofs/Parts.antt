-- Each form by the meanings of its parts.
use Rattle.std.proofs.Common.{ℕ, zero, suc, Bool, true, false, List, [], ◌∷◌, ◌≤◌, refl, sym, ap, ◌≡◌, ◌∙◌, arith}
use Rattle.std.proofs.lemmas.Bool.{false≢true, ltb-false}
use Rattle.std.specs.Prelude.{Some, is_some, nat_lt, ◌-◌, ◌++◌, length, Option, None, if◌then◌else◌, pos, ◌+◌}
use Rattle.js_tree.specs.declared.nodes.UnOp.TheVariants as un
use Rattle.js_tree.specs.declared.nodes.BinOp.{BinOp}
use Rattle.js_tree.specs.Plain as tree
use Rattle.js_tree.specs.Plain.{ExprForm, Stmts, Fun}
use Rattle.widget_meaning.specs.Limits.{max_units, max_cells, max_slots, max_nodes, max_depth}
use Rattle.widget_meaning.specs.Values.{Value, Text, Own, Completion, Normal, Is, Refers, Return, Break, Continue, Throw, E1, Units, Cells, Slots, Nodes, Depth, is_true, is_nothing, Undefined, Num, Found, to_text}
use Rattle.widget_meaning.specs.OwnState.{State, Amounts, Function, cell_at, with_new_cell, with_new_scope, new_array, plain_object, new_function, Scope}
use Rattle.widget_meaning.specs.Plan.{Plan, Place, Ret, Halt, Do, Eval, Target, Exec, Pass, Call, RunNative, Hear, Hearing, WhileLoop, DoLoop, ForLoop, ForInLoop, Out, Stopped, OutOfFuel, and_then, charge, ticks, after, on_normal}
use Rattle.widget_meaning.specs.Costs.{make, give, throw, within, sum, object_cost, with_counts, scope_cost}
use Rattle.widget_meaning.specs.Operators.{binary, is_same, unary}
use Rattle.widget_meaning.specs.Properties.{property, names_of, put, index_name, read}
use Rattle.widget_meaning.specs.Scopes.{assign, fun_name, fun_list, without_name, call_scope}
use Rattle.widget_meaning.specs.Calls.{statements, stmt_list, without_directive, with_variable, declare, call_end, enter, enter_scope, invoke, to_primitive, primitive_result}
use Rattle.widget_meaning.specs.Expressions.{expr_list, property_list, array_parts, object_parts, subscript_read, subscript_target, expression, target, callee, binary_right, delete_target, step_target, step_converted, assign_target, assign_with, compound, referred, and_right, or_right, choose, is_converting, converted_left, result, arguments_then, operate, refer, unary_on, write}
use Rattle.widget_meaning.specs.Statements.{decl_list, declarations, expressions, branch, loop_test, loop_end, while_next, do_next, for_init, for_again, for_next, for_in, for_in_next, for_in_over, clause_list, bodies, choose_case, switch_on, switch_end, in_catch, caught, finally, last_end, case_tested}
use Rattle.widget_meaning.specs.Natives.{run_native}
use Rattle.widget_meaning.specs.Dispatch.{heard, dispatch_end, dispatch, handlers}
use Rattle.widget_meaning.specs.Meaning.{run_plan}
use Rattle.widget_meaning.specs.Compositional.{ExpressionLaws, StatementLaws, CallLaws, then_do, looped, if_thrown, ends, is_value_form, new_scope, declared, body_in, evaluated, targeted}
use Rattle.widget_meaning.proofs.Runs.{unit, first, part, then_part, run_and_then}
use Rattle.widget_meaning.specs.ListNatives.{call_each}
use Rattle.widget_meaning.specs.BunchWrites.{each_called, fired}

-- a choice is carried out as the plan that is chosen
chosen : (b : Bool) (g : ℕ) (x y : Plan) → run_plan g (if b then x else y) ≡ (if b then run_plan g x else run_plan g y)
chosen true g x y = refl
chosen false g x y = refl

-- a loop after its body
loop_ended : (o : Completion) (s : State) (g : ℕ) (p : Plan) {r : Out} → run_plan g p ≡ r → run_plan g (loop_end o s p) ≡ looped o s g r
loop_ended Normal s g p h = h
loop_ended Continue s g p h = h
loop_ended Break s g p h = refl
loop_ended (Is v) s g p h = refl
loop_ended (Refers r) s g p h = refl
loop_ended (Return v) s g p h = refl
loop_ended (Throw v) s g p h = refl

catch_holds : (x : List ℕ) (b : Stmts) (o : Completion) (p : Place) (s : State) (g : ℕ) → run_plan g (caught (tree.CatchAs x b) p o s) ≡ if_thrown o (ends o s g) (λ v. run_plan g (in_catch x (stmt_list b) v p s))
catch_holds x b Normal p s g = refl
catch_holds x b Continue p s g = refl
catch_holds x b Break p s g = refl
catch_holds x b (Is v) p s g = refl
catch_holds x b (Refers r) p s g = refl
catch_holds x b (Return v) p s g = refl
catch_holds x b (Throw v) p s g = refl

converted_holds : (op : BinOp) (v w : Value) (p : Place) (s : State) (g : ℕ) → is_converting op ≡ true → run_plan g (operate op v w p.depth s) ≡ then_do (run_plan g (to_primitive v p.depth s)) (converted_left op w p.depth)
converted_holds op v w p s g h =
    ap (λ c. run_plan g (if c then and_then (to_primitive v p.depth s) (converted_left op w p.depth) else result (binary op v w) s)) h
    ∙ run_and_then g (to_primitive v p.depth s) (converted_left op w p.depth)

module _ (at : ℕ) (names : List ℕ) where
  -- a form that is evaluated where a target is wanted
  of_value : (form : ExprForm) (p : Place) (s : State) (g : ℕ) → target form p s ≡ and_then (expression form p s) (after (λ v t. Ret (Refers (Found v)) t)) → targeted at names p s g form ≡ then_do (evaluated at names p s g form) (after (λ v t. Ret (Refers (Found v)) t))
  of_value form p s g e =
      then_part g (Target (tree.ExprAt at names form) p) s (expression form p s) (after (λ v t. Ret (Refers (Found v)) t)) e
      ∙ ap (λ r. then_do r (after (λ v t. Ret (Refers (Found v)) t))) (sym (unit g (Eval (tree.ExprAt at names form) p) s (expression form p s) refl))

  value_target_holds : (form : ExprForm) (p : Place) (s : State) (g : ℕ) → is_value_form form ≡ true → targeted at names p s g form ≡ then_do (evaluated at names p s g form) (after (λ v t. Ret (Refers (Found v)) t))
  value_target_holds (tree.Name x) p s g h = absurd (false≢true h)
  value_target_holds (tree.Dot e x) p s g h = absurd (false≢true h)
  value_target_holds (tree.Sub e i) p s g h = absurd (false≢true h)
  value_target_holds form p s g h = of_value form p s g refl

none_left : (c : ℕ) → suc c ≤ zero → ⊥
none_left c h = omega arith

one_less : (c f : ℕ) → suc c ≤ suc f → c ≤ f
one_less c f h = omega arith

less_nothing : (g : ℕ) → g ≡ g - 0
less_nothing g = omega arith

both_less : (c f : ℕ) → f - c ≡ suc f - suc c
both_less c f = omega arith

-- ticks that are all there
ticks_run : (c g : ℕ) (s : State) (p : Plan) → c ≤ g → run_plan g (ticks c s p) ≡ run_plan (g - c) p
ticks_run zero g s p h = ap (λ f. run_plan f p) (less_nothing g)
ticks_run (suc c) zero s p h = absurd (none_left c h)
ticks_run (suc c) (suc f) s p h = ticks_run c f s p (one_less c f h) ∙ ap (λ n. run_plan n p) (both_less c f)

charge_on : (b : Bool) (c g : ℕ) (s : State) (p : Plan) → nat_lt g c ≡ b → (if b then record { how = OutOfFuel; state = s; left = g } else run_plan g (ticks c s p)) ≡ (if b then record { how = OutOfFuel; state = s; left = g } else run_plan (g - c) p)
charge_on true c g s p h = refl
charge_on false c g s p h = ticks_run c g s p (ltb-false g c h)

charged_holds : (c : ℕ) (s : State) (p : Plan) (g : ℕ) → run_plan g (charge c s p) ≡ (if nat_lt g c then record { how = OutOfFuel; state = s; left = g } else run_plan (g - c) p)
charged_holds c s p g = charge_on (nat_lt g c) c g s p refl

-- what is done after a cost that may stop
if_then : (b : Bool) (x y : Plan) (k : Completion → State → Plan) → and_then (if b then x else y) k ≡ (if b then and_then x k else and_then y k)
if_then true x y k = refl
if_then false x y k = refl

within_then : (a : Amounts) (s : State) (p : Plan) (k : Completion → State → Plan) → and_then (within a s p) k ≡ within a s (and_then p k)
within_then a s p k =
    if_then (nat_lt max_units a.units) (Halt Units s) (if nat_lt max_cells a.cells then Halt Cells s else if nat_lt max_slots a.slots then Halt Slots s else if nat_lt max_nodes a.nodes then Halt Nodes s else p) k
    ∙ ap (λ q. if nat_lt max_units a.units then Halt Units s else q)
    (if_then (nat_lt max_cells a.cells) (Halt Cells s) (if nat_lt max_slots a.slots then Halt Slots s else if nat_lt max_nodes a.nodes then Halt Nodes s else p) k
    ∙ ap (λ q. if nat_lt max_cells a.cells then Halt Cells s else q)
    (if_then (nat_lt max_slots a.slots) (Halt Slots s) (if nat_lt max_nodes a.nodes then Halt Nodes s else p) k
    ∙ ap (λ q. if nat_lt max_slots a.slots then Halt Slots s else q)
    (if_then (nat_lt max_nodes a.nodes) (Halt Nodes s) p k)))

declare_then : (fs : List Fun) (i : ℕ) (s : State) (k : Completion → State → Plan) → and_then (declare fs i s (Ret Normal)) k ≡ declare fs i s (k Normal)
declare_then [] i s k = refl
declare_then (f ∷ fs) i s k =
    let a : Amounts = sum s.own.counts (object_cost 0) in
    let t : State = with_counts s a in
    let u : State = with_variable (with_new_cell t (new_function (without_name f) (Some i))) i (fun_name f) (Own (length t.own.heap)) in
    within_then a s (declare fs i u (Ret Normal)) k ∙ ap (within a s) (declare_then fs i u k)

-- a call's scope, its declared functions and its body
entered : (f : Fun) (outer : Option ℕ) (v : Value) (vs : List Value) (d : ℕ) (s : State) → enter_scope f outer v vs d s ≡ and_then (and_then (new_scope f outer v vs s) (declared f (length s.own.scopes))) (body_in f (record { scope = Some (length s.own.scopes); depth = d }))
entered (tree.FunAt at names name params body funs) outer v vs d s =
    let f : Fun = tree.FunAt at names name params body funs in
    let fs : List Fun = fun_list funs in
    let c : Scope = call_scope f outer v vs in
    let a : Amounts = sum s.own.counts (scope_cost c) in
    let i : ℕ = length s.own.scopes in
    let t : State = with_new_scope (with_counts s a) c in
    let b : Completion → State → Plan = body_in f (record { scope = Some i; depth = d }) in
    sym (ap (λ q. and_then q b) (within_then a s (Ret Normal t) (declared f i))
    ∙ (within_then a s (declare fs i t (Ret Normal)) b ∙ ap (within a s) (declare_then fs i t b)))

function_holds : (n : ℕ) (f : Fun) (outer : Option ℕ) (this : Option Value) (vs : List Value) (d : ℕ) (s : State) (g : ℕ) → (cell_at s n).kind ≡ Function f outer → nat_lt max_depth (suc d) ≡ false → run_plan g (invoke (Own n) this vs d s) ≡ then_do (then_do (run_plan g (new_scope f outer (Own n) vs s)) (declared f (length s.own.scopes))) (body_in f (record { scope = Some (length s.own.scopes); depth = suc d }))
function_holds n f outer this vs d s g h k =
    let i : ℕ = length s.own.scopes in
    let b : Completion → State → Plan = body_in f (record { scope = Some i; depth = suc d }) in
    ap (λ c. run_plan g (enter c (Own n) vs (suc d) s)) h
    ∙ (ap (λ c. run_plan g (if c then Halt Depth s else enter_scope f outer (Own n) vs (suc d) s)) k
    ∙ (ap (run_plan g) (entered f outer (Own n) vs (suc d) s)
    ∙ (run_and_then g (and_then (new_scope f outer (Own n) vs s) (declared f i)) b
    ∙ ap (λ r. then_do r b) (run_and_then g (new_scope f outer (Own n) vs s) (declared f i)))))

too_deep_holds : (n : ℕ) (f : Fun) (outer : Option ℕ) (this : Option Value) (vs : List Value) (d : ℕ) (s : State) (g : ℕ) → (cell_at s n).kind ≡ Function f outer → nat_lt max_depth (suc d) ≡ true → run_plan g (invoke (Own n) this vs d s) ≡ record { how = Stopped Depth; state = s; left = g }
too_deep_holds n f outer this vs d s g h k =
    ap (λ c. run_plan g (enter c (Own n) vs (suc d) s)) h
    ∙ ap (λ c. run_plan g (if c then Halt Depth s else enter_scope f outer (Own n) vs (suc d) s)) k

handler_holds : (h : Hearing) (s : State) (g : ℕ) → run_plan g (heard h s) ≡ then_do (then_do (run_plan g (invoke (Own h.first) None (h.event ∷ []) h.depth s)) (after (λ v t. handlers h.others h t))) (dispatch_end h)
handler_holds h s g =
    run_and_then g (and_then (invoke (Own h.first) None (h.event ∷ []) h.depth s) (after (λ v t. handlers h.others h t))) (dispatch_end h)
    ∙ ap (λ r. then_do r (dispatch_end h)) (run_and_then g (invoke (Own h.first) None (h.event ∷ []) h.depth s) (after (λ v t. handlers h.others h t)))

pub expression_laws : (at : ℕ) (names : List ℕ) (p : Place) (s : State) (g : ℕ) → ExpressionLaws at names p s g
expression_laws at names p s g = record {
  number = λ t. refl;
  string = λ t. refl;
  name = λ x. refl;
  word = λ w. refl;
  array = λ es. unit g (Eval (tree.ExprAt at names (tree.Array es)) p) s (make (new_array 0 []) 0 s (λ a t. array_parts a 0 (expr_list es) p t)) refl;
  array_next = λ a i e es. part g (Eval e p) s (after (λ v t. put a (index_name i) v t (array_parts a (i + 1) es p)));
  array_last = λ a i. refl;
  object = λ qs. unit g (Eval (tree.ExprAt at names (tree.Object qs)) p) s (make (plain_object []) 0 s (λ a t. object_parts a (property_list qs) p t)) refl;
  object_next = λ a x e qs. part g (Eval e p) s (after (λ v t. put a x v t (object_parts a qs p)));
  object_last = λ a. refl;
  function = λ f. unit g (Eval (tree.ExprAt at names (tree.Function f)) p) s (make (new_function f p.scope) 0 s give) refl;
  dot = λ e x. first g (Eval (tree.ExprAt at names (tree.Dot e x)) p) (Eval e p) s (after (λ b t. read b x t)) refl;
  subscript = λ e i. first g (Eval (tree.ExprAt at names (tree.Sub e i)) p) (Eval e p) s (subscript_read i p) refl;
  subscript_name = λ i b. part g (Eval i p) s (after (λ v t. read b (to_text v) t));
  name_target = λ x. refl;
  dot_targets = λ e x. first g (Target (tree.ExprAt at names (tree.Dot e x)) p) (Eval e p) s (after (λ b t. refer b x t)) refl;
  subscript_targets = λ e i. first g (Target (tree.ExprAt at names (tree.Sub e i)) p) (Eval e p) s (subscript_target i p) refl;
  subscript_target_name = λ i b. part g (Eval i p) s (after (λ v t. refer b (to_text v) t));
  value_targets = λ form h. value_target_holds at names form p s g h;
  call = λ f es. first g (Eval (tree.ExprAt at names (tree.Call f es)) p) (Target f p) s (callee (expr_list es) p) refl;
  argument = λ r vs e es. part g (Eval e p) s (after (λ v t. arguments_then r (vs ++ v ∷ []) es p t));
  arguments_end = λ r vs. refl;
  operator = λ op a b. first g (Eval (tree.ExprAt at names (tree.Binary op a b)) p) (Eval a p) s (binary_right op b p) refl;
  operator_second = λ op b v. part g (Eval b p) s (after (λ w t. operate op v w p.depth t));
  operator_left = λ op v w h. converted_holds op v w p s g h;
  operator_last = λ op v w d. run_and_then g (to_primitive w d s) (after (λ w t. result (binary op v w) t));
  operator_alike = λ op v w h. ap (λ c. run_plan g (if c then and_then (to_primitive v p.depth s) (converted_left op w p.depth) else result (binary op v w) s)) h;
  delete = λ e. first g (Eval (tree.ExprAt at names (tree.Unary un.Delete e)) p) (Target e p) s delete_target refl;
  type_of = λ e. first g (Eval (tree.ExprAt at names (tree.Unary un.TypeOf e)) p) (Eval e p) s (after (λ v t. unary_on un.TypeOf v p t)) refl;
  not = λ e. first g (Eval (tree.ExprAt at names (tree.Unary un.Not e)) p) (Eval e p) s (after (λ v t. unary_on un.Not v p t)) refl;
  plus = λ e. first g (Eval (tree.ExprAt at names (tree.Unary un.Plus e)) p) (Eval e p) s (after (λ v t. unary_on un.Plus v p t)) refl;
  minus = λ e. first g (Eval (tree.ExprAt at names (tree.Unary un.Minus e)) p) (Eval e p) s (after (λ v t. unary_on un.Minus v p t)) refl;
  plus_operand = λ v. run_and_then g (to_primitive v p.depth s) (after (λ v t. result (unary un.Plus v) t));
  minus_operand = λ v. run_and_then g (to_primitive v p.depth s) (after (λ v t. result (unary un.Minus v) t));
  step = λ op e. first g (Eval (tree.ExprAt at names (tree.Step op e)) p) (Target e p) s (step_target op p) refl;
  step_operand = λ op r. run_and_then g (to_primitive (referred r p s) p.depth s) (step_converted op r p);
  assign = λ op e v. first g (Eval (tree.ExprAt at names (tree.Assign op e v)) p) (Target e p) s (assign_target op v p) refl;
  assign_right = λ op v r. part g (Eval v p) s (assign_with op r (referred r p s) p);
  assign_value = λ op r v w. run_and_then g (compound op v w p.depth s) (after (λ v t. write r p v t (give v)));
  conjunction = λ a b. first g (Eval (tree.ExprAt at names (tree.And a b)) p) (Eval a p) s (and_right b p) refl;
  conjunction_right = λ b v. chosen (is_true v) g (Do (Eval b p) s Ret) (give v s);
  disjunction = λ a b. first g (Eval (tree.ExprAt at names (tree.Or a b)) p) (Eval a p) s (or_right b p) refl;
  disjunction_right = λ b v. chosen (is_true v) g (give v s) (Do (Eval b p) s Ret);
  condition = λ a b c. first g (Eval (tree.ExprAt at names (tree.Cond a b c)) p) (Eval a p) s (choose b c p) refl;
  condition_branch = λ b c v. chosen (is_true v) g (Do (Eval b p) s Ret) (Do (Eval c p) s Ret);
}

pub statement_laws : (at : ℕ) (names : List ℕ) (p : Place) (s : State) (g : ℕ) → StatementLaws at names p s g
statement_laws at names p s g = record {
  list = λ i is. part g (Exec i p) s (λ o t. on_normal o t (statements is p t));
  list_end = refl;
  var = λ ds. unit g (Exec (tree.StmtAt at names (tree.Var ds)) p) s (declarations (decl_list ds) p s) refl;
  var_first = λ x e ds. part g (Eval e p) s (after (λ v t. (declarations ds p) (assign t p x v)));
  var_bare = λ x ds. refl;
  var_end = refl;
  only = λ e. first g (Exec (tree.StmtAt at names (tree.Only e)) p) (Eval e p) s (after (λ v t. Ret Normal t)) refl;
  if_test = λ e a b. first g (Exec (tree.StmtAt at names (tree.If e a b)) p) (Eval e p) s (branch a b p) refl;
  if_branch = λ a b v. chosen (is_true v) g (statements (stmt_list a) p s) (statements (stmt_list b) p s);
  loop_again = λ l v. chosen (is_true v) g (Do (Pass l p) s Ret) (Ret Normal s);
  while = λ e b. first g (Exec (tree.StmtAt at names (tree.While e b)) p) (Eval e p) s (loop_test (WhileLoop e (stmt_list b)) p) refl;
  while_pass = λ e b. then_part g (Pass (WhileLoop e b) p) s (statements b p s) (while_next e b p) refl;
  while_again = λ e b o. loop_ended o s g (Do (Eval e p) s (loop_test (WhileLoop e b) p)) (part g (Eval e p) s (loop_test (WhileLoop e b) p));
  do_while = λ b e. refl;
  do_pass = λ b e. then_part g (Pass (DoLoop b e) p) s (statements b p s) (do_next b e p) refl;
  do_again = λ b e o. loop_ended o s g (Do (Eval e p) s (loop_test (DoLoop b e) p)) (part g (Eval e p) s (loop_test (DoLoop b e) p));
  for = λ first test next b. then_part g (Exec (tree.StmtAt at names (tree.For first test next b)) p) s (for_init first p s) (for_again test (expr_list next) (stmt_list b) p) refl;
  for_declarations = λ ds. refl;
  for_expressions = λ es. refl;
  for_test = λ e next b. part g (Eval e p) s (loop_test (ForLoop (tree.SomeExpr e) next b) p);
  for_no_test = λ next b. refl;
  for_pass = λ test next b. then_part g (Pass (ForLoop test next b) p) s (statements b p s) (for_next test next b p) refl;
  for_round = λ test next b o. loop_ended o s g (and_then (expressions next p s) (for_again test next b p)) (run_and_then g (expressions next p s) (for_again test next b p));
  expressions_first = λ e es. part g (Eval e p) s (after (λ v t. expressions es p t));
  expressions_end = refl;
  for_in_object = λ is_declared x e b. first g (Exec (tree.StmtAt at names (tree.ForIn is_declared x e b)) p) (Eval e p) s (for_in_over x (stmt_list b) p) refl;
  for_in_list = λ v x b. chosen (is_nothing v) g (throw E1 s) (charge (length (names_of s v)) s (for_in v x (names_of s v) b p s));
  for_in_name = λ v x y ys b. chosen (is_some (property s v y)) g (Do (Pass (ForInLoop v x y ys b) p) s Ret) (for_in v x ys b p s);
  for_in_end = λ v x b. refl;
  for_in_pass = λ v x y ys b. then_part g (Pass (ForInLoop v x y ys b) p) s (statements b p (assign s p x (Text y))) (for_in_next v x ys b p) refl;
  for_in_again = λ v x ys b o. loop_ended o s g (for_in v x ys b p s) refl;
  continue = λ x. refl;
  break = λ x. refl;
  return_nothing = refl;
  return = λ e. first g (Exec (tree.StmtAt at names (tree.Return (tree.SomeExpr e))) p) (Eval e p) s (after (λ v t. Ret (Return v) t)) refl;
  throw = λ e. first g (Exec (tree.StmtAt at names (tree.Throw e)) p) (Eval e p) s (after (λ v t. Ret (Throw v) t)) refl;
  switch = λ e cs. first g (Exec (tree.StmtAt at names (tree.Switch e cs)) p) (Eval e p) s (switch_on (clause_list cs) p) refl;
  switch_cases = λ v cs. run_and_then g (choose_case v cs cs p s) switch_end;
  case = λ v all e b cs. part g (Eval e p) s (case_tested v all b cs p);
  case_same = λ v w all b cs. chosen (is_same v w) g (statements (b ++ bodies cs) p s) (choose_case v all cs p s);
  default_passed = λ v all b cs. refl;
  default_taken = λ v all. refl;
  try = λ a c b. then_part g (Exec (tree.StmtAt at names (tree.Try a c b)) p) s (and_then (statements (stmt_list a) p s) (caught c p)) (finally b p) refl ∙ ap (λ r. then_do r (finally b p)) (run_and_then g (statements (stmt_list a) p s) (caught c p));
  catch = λ x b o. catch_holds x b o p s g;
  no_catch = λ o. refl;
  finally_block = λ b o. run_and_then g (statements (stmt_list b) p s) (last_end o);
  no_finally = λ o. refl;
}

pub call_laws : (s : State) (g : ℕ) → CallLaws s g
call_laws s g = record {
  call = λ f this vs d. unit g (Call f this vs d) s (invoke f this vs d s) refl;
  native = λ w this vs d. unit g (RunNative w this vs d) s (run_native w this vs d s) refl;
  function = λ n f outer this vs d h k. function_holds n f outer this vs d s g h k;
  too_deep = λ n f outer this vs d h k. too_deep_holds n f outer this vs d s g h k;
  body = λ b p. run_and_then g (statements (without_directive (stmt_list b)) p s) call_end;
  native_called = λ w this vs d. refl;
  conversion = λ f v d. part g (Call f (Some v) [] d) s primitive_result;
  charged = λ c p. charged_holds c s p g;
  handler = λ h. unit g (Hear h) s (heard h s) refl;
  handler_first = λ h. handler_holds h s g;
  handler_next = λ f fs h. part g (Call (Own f) None (h.event ∷ []) h.depth) s (after (λ v t. handlers fs h t));
  element_first = λ f v vs i ws d k. part g (Call f None (v ∷ Num (pos i) ∷ []) d) s (after (λ w t. call_each f vs (i + 1) (ws ++ w ∷ []) d t k));
  element_last = λ f i ws d k. refl;
  bunch_first = λ f v vs b d. part g (Call f None (v ∷ []) d) s (after (λ w t. each_called f vs b d t));
  bunch_last = λ f b d. refl;
  node_first = λ t n ns b d. run_and_then g (dispatch t n Undefined d s) (after (λ v u. fired t ns b d u));
  node_last = λ t b d. refl;
  no_fuel = λ j. refl;
}
