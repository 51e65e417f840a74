-- Each form of the language keeps an invariant: one lemma for what comes after each part.
use Rattle.js_tree.specs.Plain as tree
use Rattle.js_tree.specs.declared.nodes.UnOp.TheVariants as un
use Rattle.js_tree.specs.declared.nodes.AssignOp.TheVariants as assignment
use Rattle.code_units.specs.declared.whole.WholeRead.TheVariants as read_as
use Rattle.std.specs.Prelude.{ℕ, suc, pos, ◌+◌, length, List, [], ◌∷◌, ◌++◌, Bool, true, false, Option, Some, None}
use Rattle.permitted_table.specs.declared.native.HostEntry.TheVariants as host
use Rattle.widget_meaning.specs.Values.{Value, Undefined, Null, Num, Text, Own, Host, Completion, Normal, Is, Refers, Return, Break, Continue, Throw, Reference, Variable, Property, Found}
use Rattle.widget_meaning.specs.OwnState.{State, Cell, Kind, Object, Array, Function, Bunch, Scope, cell_at, scope_at, replaced, with_new_scope}
use Rattle.widget_meaning.specs.Plan.{Plan, Place, Ret, Loop, WhileLoop, DoLoop, ForLoop, ForInLoop, Hearing}
use Rattle.js_tree.specs.Plain.{Expr, Stmt, Stmts, Fun, ExprForm, OptionalExpr, StmtForm, ForInit, OptionalBlock, Catch}
use Rattle.widget_meaning.specs.Properties.{read, put, delete, index_name, put_pair, put_index, put_length, put_own, delete_pair, delete_own}
use Rattle.widget_meaning.specs.Scopes.{fun_name, fun_list, call_scope, assign, set_in, scope_of}
use Rattle.js_tree.specs.declared.nodes.StepOp.{StepOp}
use Rattle.js_tree.specs.declared.nodes.UnOp.{UnOp}
use Rattle.js_tree.specs.declared.nodes.BinOp.{BinOp}
use Rattle.js_tree.specs.declared.nodes.AssignOp.{AssignOp}
use Rattle.code_units.specs.declared.whole.WholeRead.{WholeRead}
use Rattle.widget_meaning.specs.Operators.{OpOut, Gives, Leaves, TooLong}
use Rattle.widget_meaning.specs.Calls.{invoke, to_primitive, statements, declare, call_end, call_body, enter_scope, enter, primitive_result, call_to_string, with_variable}
use Rattle.widget_meaning.specs.Expressions.{array_parts, object_parts, subscript_read, refer, subscript_target, write, arguments_then, callee, result, converted_left, operate, binary_right, unary_on, delete_at, delete_target, step_write, step_number, step_converted, step_target, compound, assign_with, assign_target, and_right, or_right, choose, prefix_form, expression, target, referred, base_of}
use Rattle.widget_meaning.specs.Statements.{declaration, declarations, expressions, branch, loop_test, loop_end, while_next, do_next, for_test, for_again, for_next, for_init, for_in, for_in_next, for_in_over, pass, return_form, case_test, choose_case, case_tested, switch_end, switch_on, in_catch, caught, last_end, finally, statement, Case, from_default}
use Rattle.widget_meaning.specs.Dispatch.{hear, hear_found, search_from, dispatch, handlers, bubble_on, dispatch_end, heard, bubble}
use Rattle.widget_meaning.specs.Ways.{Way, ByValue, ByReference, Anyhow, Ends}
use Rattle.widget_meaning.specs.Keeps.{Invariant, Keeps, OfFunction}
use Rattle.widget_meaning.specs.Costs.{scope_cost, with_counts}
use Rattle.widget_meaning.proofs.Keeping.{ended, halted, job, either, value, reference, normal, thrown, chain, charged, paid, made, made_text, faulted, R, At, wanted, born, written, assigned, entered, kind_at, lowered, no_fewer, no_function, gave, threw, refers, any_end, any_value, any_chain}

module _ (inv : Invariant) (many : ℕ) where
  -- a variable is written, and its scope keeps its place
  set_kept : (s : State) (o : Option ℕ) (x : List ℕ) (v : Value) → R inv many s → R inv many (set_in s o x v)
  set_kept s None x v hr = hr
  set_kept s (Some i) x v hr = assigned inv many s.own.counts s.own.timers s.own.clock s.own.heap s.own.scopes s.own.forest (length s.own.kept) i (replaced (scope_at s i).pairs x v) hr

  pub assign_kept : (s : State) (p : Place) (x : List ℕ) (v : Value) → R inv many s → R inv many (assign s p x v)
  assign_kept s p x v hr = set_kept s (scope_of s p x) x v hr

  pub variable_kept : (s : State) (i : ℕ) (xs : List (List ℕ)) (v : Value) → R inv many s → R inv many (with_variable s i xs v)
  variable_kept s i [] v hr = hr
  variable_kept s i (x ∷ xs) v hr = assigned inv many s.own.counts s.own.timers s.own.clock s.own.heap s.own.scopes s.own.forest (length s.own.kept) i (replaced (scope_at s i).pairs x v) hr

  pub read_r : (x0 : Value) (x1 : List ℕ) (x2 : State) → R inv many x2 → Keeps inv many ByValue (read x0 x1 x2)
  read_r Undefined x s hr = search (faulted)
  read_r Null x s hr = search (faulted)
  read_r v x s hr = search (gave)

  pub put_pair_r : (way : Way) (x0 : Cell) (x1 : ℕ) (x2 : List ℕ) (x3 : Value) (x4 : State) (x5 : (State → Plan)) → R inv many x4 → OfFunction (inv.links.Older (length x4.own.scopes)) x0.kind → ((y0 : State) → R inv many y0 → Keeps inv many way (x5 y0)) → Keeps inv many way (put_pair x0 x1 x2 x3 x4 x5)
  put_pair_r way c n x v s k hr hk f0 = search (either, paid, written)

  pub put_index_r : (way : Way) (x0 : Option ℕ) (x1 : Cell) (x2 : ℕ) (x3 : ℕ) (x4 : List ℕ) (x5 : Value) (x6 : State) (x7 : (State → Plan)) → R inv many x6 → OfFunction (inv.links.Older (length x6.own.scopes)) x1.kind → ((y0 : State) → R inv many y0 → Keeps inv many way (x7 y0)) → Keeps inv many way (put_index x0 x1 x2 x3 x4 x5 x6 x7)
  put_index_r way None c len n x v s k hr hk f0 = put_pair_r way c n x v s k hr hk f0
  put_index_r way (Some i) c len n x v s k hr hk f0 = search (put_pair_r, no_function)

  pub put_length_r : (way : Way) (x0 : Value) (x1 : Cell) (x2 : ℕ) (x3 : State) (x4 : (State → Plan)) → R inv many x3 → ((y0 : State) → R inv many y0 → Keeps inv many way (x4 y0)) → Keeps inv many way (put_length x0 x1 x2 x3 x4)
  put_length_r way (Num (pos len)) c n s k hr f0 = search (wanted, written, no_function)
  put_length_r way v c n s k hr f0 = search (faulted)

  pub put_own_r : (way : Way) (x0 : Kind) (x1 : Cell) (x2 : ℕ) (x3 : List ℕ) (x4 : Value) (x5 : State) (x6 : (State → Plan)) → R inv many x5 → OfFunction (inv.links.Older (length x5.own.scopes)) x1.kind → ((y0 : State) → R inv many y0 → Keeps inv many way (x6 y0)) → Keeps inv many way (put_own x0 x1 x2 x3 x4 x5 x6)
  put_own_r way Object c n x v s k hr hk f0 = search (put_pair_r)
  put_own_r way (Function f scope) c n x v s k hr hk f0 = search (put_pair_r)
  put_own_r way (Array len) c n x v s k hr hk f0 = search (either, put_length_r, put_index_r)
  put_own_r way (Bunch ns) c n x v s k hr hk f0 = search (faulted)

  pub put_r : (way : Way) (x0 : Value) (x1 : List ℕ) (x2 : Value) (x3 : State) (x4 : (State → Plan)) → R inv many x3 → ((y0 : State) → R inv many y0 → Keeps inv many way (x4 y0)) → Keeps inv many way (put x0 x1 x2 x3 x4)
  put_r way (Own n) x v s k hr f0 = put_own_r way (cell_at s n).kind (cell_at s n) n x v s k hr (kind_at inv many s n hr) f0
  put_r way (Host h) x v s k hr f0 = search (faulted)
  put_r way o x v s k hr f0 = search

  pub delete_pair_r : (way : Way) (x0 : Cell) (x1 : ℕ) (x2 : List ℕ) (x3 : State) (x4 : (Bool → State → Plan)) → R inv many x3 → OfFunction (inv.links.Older (length x3.own.scopes)) x0.kind → ((y0 : Bool) (y1 : State) → R inv many y1 → Keeps inv many way (x4 y0 y1)) → Keeps inv many way (delete_pair x0 x1 x2 x3 x4)
  delete_pair_r way c n x s k hr hk f0 = search (written)

  pub delete_own_r : (way : Way) (x0 : Kind) (x1 : Cell) (x2 : ℕ) (x3 : List ℕ) (x4 : State) (x5 : (Bool → State → Plan)) → R inv many x4 → OfFunction (inv.links.Older (length x4.own.scopes)) x1.kind → ((y0 : Bool) (y1 : State) → R inv many y1 → Keeps inv many way (x5 y0 y1)) → Keeps inv many way (delete_own x0 x1 x2 x3 x4 x5)
  delete_own_r way Object c n x s k hr hk f0 = search (delete_pair_r)
  delete_own_r way (Function f scope) c n x s k hr hk f0 = search (delete_pair_r)
  delete_own_r way (Array len) c n x s k hr hk f0 = search (either, delete_pair_r)
  delete_own_r way (Bunch ns) c n x s k hr hk f0 = search (faulted)

  pub delete_r : (way : Way) (x0 : Value) (x1 : List ℕ) (x2 : State) (x3 : (Bool → State → Plan)) → R inv many x2 → ((y0 : Bool) (y1 : State) → R inv many y1 → Keeps inv many way (x3 y0 y1)) → Keeps inv many way (delete x0 x1 x2 x3)
  delete_r way (Own n) x s k hr f0 = delete_own_r way (cell_at s n).kind (cell_at s n) n x s k hr (kind_at inv many s n hr) f0
  delete_r way (Host h) x s k hr f0 = search (faulted)
  delete_r way o x s k hr f0 = search

  pub statements_r : (x0 : List Stmt) (x1 : Place) (x2 : State) → R inv many x2 → At inv many x1 → Keeps inv many Anyhow (statements x0 x1 x2)
  statements_r [] p s hr hp = any_end inv many Normal s hr
  statements_r (i ∷ is) p s hr hp = job inv many Anyhow _ s _ hr hp (λ o t u e. normal inv many o t _ u (statements_r is p t u hp))

  pub declare_r : (way : Way) (x0 : List Fun) (x1 : ℕ) (x2 : State) (x3 : (State → Plan)) → R inv many x2 → inv.links.Older many (Some x1) → ((y0 : State) → R inv many y0 → Keeps inv many way (x3 y0)) → Keeps inv many way (declare x0 x1 x2 x3)
  declare_r way [] i s k hr hi f0 = f0 s hr
  declare_r way (f ∷ fs) i s k hr hi f0 = made inv many way _ 0 s _ hr hi (λ v t u. declare_r way fs i (with_variable t i (fun_name f) v) k (variable_kept t i (fun_name f) v u) hi f0)

  pub call_end_r : (x0 : Completion) (x1 : State) → R inv many x1 → Keeps inv many ByValue (call_end x0 x1)
  call_end_r (Return v) s hr = search (gave)
  call_end_r (Throw v) s hr = search (threw)
  call_end_r Normal s hr = search (gave)
  call_end_r (Is v) s hr = search (gave)
  call_end_r (Refers r) s hr = search (gave)
  call_end_r Break s hr = search (gave)
  call_end_r Continue s hr = search (gave)

  pub call_body_r : (x0 : Stmts) (x1 : Place) (x2 : State) → R inv many x2 → At inv many x1 → Keeps inv many ByValue (call_body x0 x1 x2)
  call_body_r body p s hr hp = search (any_chain, statements_r, call_end_r)

module _ (inv : Invariant) (many : ℕ) where
  -- a call in its new scope, which is the newest
  in_new_scope : (fs : List Fun) (body : Stmts) (c : Scope) (d : ℕ) (s : State) → R inv many s → inv.links.Older (length s.own.scopes) c.outer
      → Keeps inv many ByValue (declare fs (length s.own.scopes) (with_new_scope s c) (call_body body (record { scope = Some (length s.own.scopes); depth = d })))
  in_new_scope fs body c d s hr hp =
      let n : ℕ = length (with_new_scope s c).own.scopes in
      let q : inv.links.Older n (Some (length s.own.scopes)) = inv.links.newest s.own.scopes c in
      lowered inv many ByValue n _ (no_fewer inv many s c hr)
      (declare_r inv n ByValue fs (length s.own.scopes) (with_new_scope s c) _ (entered inv many s.own.counts s.own.timers s.own.clock s.own.heap s.own.scopes s.own.forest (length s.own.kept) c hr hp) q
      (λ t u. call_body_r inv n body (record { scope = Some (length s.own.scopes); depth = d }) t u q))

  pub enter_scope_r : (x0 : Fun) (x1 : Option ℕ) (x2 : Value) (x3 : List Value) (x4 : ℕ) (x5 : State) → R inv many x5 → inv.links.Older (length x5.own.scopes) x1 → Keeps inv many ByValue (enter_scope x0 x1 x2 x3 x4 x5)
  enter_scope_r (tree.FunAt at names name params body funs) outer f vs d s hr hp =
      let c : Scope = call_scope (tree.FunAt at names name params body funs) outer f vs in
      paid inv many ByValue (scope_cost c) s (λ t. declare (fun_list funs) (length t.own.scopes) (with_new_scope t c) (call_body body (record { scope = Some (length t.own.scopes); depth = d }))) hr
      (λ a u. in_new_scope (fun_list funs) body c d (with_counts s a) u hp)

  pub enter_r : (x0 : Kind) (x1 : Value) (x2 : List Value) (x3 : ℕ) (x4 : State) → R inv many x4 → OfFunction (inv.links.Older (length x4.own.scopes)) x0 → Keeps inv many ByValue (enter x0 x1 x2 x3 x4)
  enter_r (Function f outer) v vs d s hr hk = search (either, halted, enter_scope_r)
  enter_r Object v vs d s hr hk = search (faulted)
  enter_r (Array n) v vs d s hr hk = search (faulted)
  enter_r (Bunch ns) v vs d s hr hk = search (faulted)

  pub invoke_r : (x0 : Value) (x1 : Option Value) (x2 : List Value) (x3 : ℕ) (x4 : State) → R inv many x4 → Keeps inv many ByValue (invoke x0 x1 x2 x3 x4)
  invoke_r (Own n) this vs d s hr = enter_r (cell_at s n).kind (Own n) vs (suc d) s hr (kind_at inv many s n hr)
  invoke_r (Host (host.Native w)) this vs d s hr = search (job, ended, no_function)
  invoke_r v this vs d s hr = search (faulted)

  pub primitive_result_r : (x0 : Completion) (x1 : State) → R inv many x1 → Ends ByValue x0 → Keeps inv many ByValue (primitive_result x0 x1)
  primitive_result_r o s hr he = search (value, either, faulted, gave)

  pub call_to_string_r : (x0 : Bool) (x1 : Value) (x2 : Value) (x3 : ℕ) (x4 : State) → R inv many x4 → Keeps inv many ByValue (call_to_string x0 x1 x2 x3 x4)
  call_to_string_r true f v d s hr = search (job, primitive_result_r, no_function)
  call_to_string_r false f v d s hr = search (faulted)

  pub to_primitive_r : (x0 : Value) (x1 : ℕ) (x2 : State) → R inv many x2 → Keeps inv many ByValue (to_primitive x0 x1 x2)
  to_primitive_r v d s hr = search (either, call_to_string_r, gave)

  pub array_parts_r : (x0 : Value) (x1 : ℕ) (x2 : List Expr) (x3 : Place) (x4 : State) → R inv many x4 → At inv many x3 → Keeps inv many ByValue (array_parts x0 x1 x2 x3 x4)
  array_parts_r v i [] p s hr hp = gave inv many ByValue v s hr
  array_parts_r v i (e ∷ es) p s hr hp = job inv many ByValue _ s _ hr hp (λ o t u e. value inv many ByValue o t _ u e (λ x. put_r inv many ByValue v (index_name i) x t (array_parts v (i + 1) es p) u (λ t' u'. array_parts_r v (i + 1) es p t' u' hp)))

  pub object_parts_r : (x0 : Value) (x1 : List (List ℕ × Expr)) (x2 : Place) (x3 : State) → R inv many x3 → At inv many x2 → Keeps inv many ByValue (object_parts x0 x1 x2 x3)
  object_parts_r v [] p s hr hp = gave inv many ByValue v s hr
  object_parts_r v (q ∷ qs) p s hr hp = job inv many ByValue _ s _ hr hp (λ o t u e. value inv many ByValue o t _ u e (λ x. put_r inv many ByValue v q.0 x t (object_parts v qs p) u (λ t' u'. object_parts_r v qs p t' u' hp)))

  pub subscript_read_r : (x0 : Expr) (x1 : Place) (x2 : Completion) (x3 : State) → R inv many x3 → At inv many x1 → Ends ByValue x2 → Keeps inv many ByValue (subscript_read x0 x1 x2 x3)
  subscript_read_r i p o s hr hp he = search (value, job, read_r)

  pub refer_r : (x0 : Value) (x1 : List ℕ) (x2 : State) → R inv many x2 → Keeps inv many ByReference (refer x0 x1 x2)
  refer_r b x s hr = search (wanted, refers)

  pub subscript_target_r : (x0 : Expr) (x1 : Place) (x2 : Completion) (x3 : State) → R inv many x3 → At inv many x1 → Ends ByValue x2 → Keeps inv many ByReference (subscript_target x0 x1 x2 x3)
  subscript_target_r i p o s hr hp he = search (value, job, refer_r)

  pub write_r : (way : Way) (x0 : Reference) (x1 : Place) (x2 : Value) (x3 : State) (x4 : (State → Plan)) → R inv many x3 → At inv many x1 → ((y0 : State) → R inv many y0 → Keeps inv many way (x4 y0)) → Keeps inv many way (write x0 x1 x2 x3 x4)
  write_r way (Variable x) p v s k hr hp f0 = search (assign_kept)
  write_r way (Property b x) p v s k hr hp f0 = search (put_r)
  write_r way (Found w) p v s k hr hp f0 = search

  pub arguments_then_r : (x0 : Reference) (x1 : List Value) (x2 : List Expr) (x3 : Place) (x4 : State) → R inv many x4 → At inv many x3 → Keeps inv many ByValue (arguments_then x0 x1 x2 x3 x4)
  arguments_then_r r vs [] p s hr hp = invoke_r (referred r p s) (base_of r) vs p.depth s hr
  arguments_then_r r vs (e ∷ es) p s hr hp = job inv many ByValue _ s _ hr hp (λ o t u e. value inv many ByValue o t _ u e (λ v. arguments_then_r r (vs ++ v ∷ []) es p t u hp))

  pub callee_r : (x0 : List Expr) (x1 : Place) (x2 : Completion) (x3 : State) → R inv many x3 → At inv many x1 → Ends ByReference x2 → Keeps inv many ByValue (callee x0 x1 x2 x3)
  callee_r es p o s hr hp he = search (reference, arguments_then_r)

  pub result_r : (x0 : OpOut) (x1 : State) → R inv many x1 → Keeps inv many ByValue (result x0 x1)
  result_r (Gives (Text t)) s hr = search (made_text, gave)
  result_r (Gives v) s hr = search (gave)
  result_r Leaves s hr = search (halted)
  result_r TooLong s hr = search (halted)

  pub converted_left_r : (x0 : BinOp) (x1 : Value) (x2 : ℕ) (x3 : Completion) (x4 : State) → R inv many x4 → Ends ByValue x3 → Keeps inv many ByValue (converted_left x0 x1 x2 x3 x4)
  converted_left_r op w d o s hr he = search (value, chain, to_primitive_r, result_r)

  pub operate_r : (x0 : BinOp) (x1 : Value) (x2 : Value) (x3 : ℕ) (x4 : State) → R inv many x4 → Keeps inv many ByValue (operate x0 x1 x2 x3 x4)
  operate_r op v w d s hr = search (either, chain, to_primitive_r, converted_left_r, result_r)

  pub binary_right_r : (x0 : BinOp) (x1 : Expr) (x2 : Place) (x3 : Completion) (x4 : State) → R inv many x4 → At inv many x2 → Ends ByValue x3 → Keeps inv many ByValue (binary_right x0 x1 x2 x3 x4)
  binary_right_r op b p o s hr hp he = search (value, job, operate_r)

  pub unary_on_r : (x0 : UnOp) (x1 : Value) (x2 : Place) (x3 : State) → R inv many x3 → At inv many x2 → Keeps inv many ByValue (unary_on x0 x1 x2 x3)
  unary_on_r un.TypeOf v p s hr hp = search (gave)
  unary_on_r un.Not v p s hr hp = search (result_r)
  unary_on_r op v p s hr hp = search (chain, to_primitive_r, value, result_r)

  pub delete_at_r : (x0 : Reference) (x1 : State) → R inv many x1 → Keeps inv many ByValue (delete_at x0 x1)
  delete_at_r (Property b x) s hr = search (delete_r, gave)
  delete_at_r (Variable x) s hr = search (gave)
  delete_at_r (Found v) s hr = search (gave)

  pub delete_target_r : (x0 : Completion) (x1 : State) → R inv many x1 → Ends ByReference x0 → Keeps inv many ByValue (delete_target x0 x1)
  delete_target_r o s hr he = search (reference, delete_at_r)

  pub step_write_r : (x0 : OpOut) (x1 : StepOp) (x2 : Value) (x3 : Reference) (x4 : Place) (x5 : State) → R inv many x5 → At inv many x4 → Keeps inv many ByValue (step_write x0 x1 x2 x3 x4 x5)
  step_write_r (Gives w) op v r p s hr hp = search (write_r, gave, either)
  step_write_r Leaves op v r p s hr hp = search (halted)
  step_write_r TooLong op v r p s hr hp = search (halted)

  pub step_number_r : (x0 : WholeRead) (x1 : StepOp) (x2 : Reference) (x3 : Place) (x4 : State) → R inv many x4 → At inv many x3 → Keeps inv many ByValue (step_number x0 x1 x2 x3 x4)
  step_number_r (read_as.Whole z) op r p s hr hp = search (step_write_r)
  step_number_r read_as.NotNumber op r p s hr hp = search (step_write_r)
  step_number_r read_as.Left op r p s hr hp = search (halted)

  pub step_converted_r : (x0 : StepOp) (x1 : Reference) (x2 : Place) (x3 : Completion) (x4 : State) → R inv many x4 → At inv many x2 → Ends ByValue x3 → Keeps inv many ByValue (step_converted x0 x1 x2 x3 x4)
  step_converted_r op r p o s hr hp he = search (value, step_number_r)

  pub step_target_r : (x0 : StepOp) (x1 : Place) (x2 : Completion) (x3 : State) → R inv many x3 → At inv many x1 → Ends ByReference x2 → Keeps inv many ByValue (step_target x0 x1 x2 x3)
  step_target_r op p o s hr hp he = search (reference, chain, to_primitive_r, step_converted_r)

  pub compound_r : (x0 : AssignOp) (x1 : Value) (x2 : Value) (x3 : ℕ) (x4 : State) → R inv many x4 → Keeps inv many ByValue (compound x0 x1 x2 x3 x4)
  compound_r assignment.Add v w d s hr = search (operate_r)
  compound_r assignment.Sub v w d s hr = search (operate_r)
  compound_r assignment.Mul v w d s hr = search (operate_r)
  compound_r assignment.Div v w d s hr = search (operate_r)
  compound_r assignment.Rem v w d s hr = search (operate_r)
  compound_r op v w d s hr = search (gave)

  pub assign_with_r : (x0 : AssignOp) (x1 : Reference) (x2 : Value) (x3 : Place) (x4 : Completion) (x5 : State) → R inv many x5 → At inv many x3 → Ends ByValue x4 → Keeps inv many ByValue (assign_with x0 x1 x2 x3 x4 x5)
  assign_with_r op r v p o s hr hp he = search (value, chain, compound_r, write_r, gave)

  pub assign_target_r : (x0 : AssignOp) (x1 : Expr) (x2 : Place) (x3 : Completion) (x4 : State) → R inv many x4 → At inv many x2 → Ends ByReference x3 → Keeps inv many ByValue (assign_target x0 x1 x2 x3 x4)
  assign_target_r op e p o s hr hp he = search (reference, job, assign_with_r)

  pub and_right_r : (x0 : Expr) (x1 : Place) (x2 : Completion) (x3 : State) → R inv many x3 → At inv many x1 → Ends ByValue x2 → Keeps inv many ByValue (and_right x0 x1 x2 x3)
  and_right_r b p o s hr hp he = search (value, either, job, gave, ended)

  pub or_right_r : (x0 : Expr) (x1 : Place) (x2 : Completion) (x3 : State) → R inv many x3 → At inv many x1 → Ends ByValue x2 → Keeps inv many ByValue (or_right x0 x1 x2 x3)
  or_right_r b p o s hr hp he = search (value, either, gave, job, ended)

  pub choose_r : (x0 : Expr) (x1 : Expr) (x2 : Place) (x3 : Completion) (x4 : State) → R inv many x4 → At inv many x2 → Ends ByValue x3 → Keeps inv many ByValue (choose x0 x1 x2 x3 x4)
  choose_r b c p o s hr hp he = search (value, either, job, ended)

  pub prefix_form_r : (x0 : UnOp) (x1 : Expr) (x2 : Place) (x3 : State) → R inv many x3 → At inv many x2 → Keeps inv many ByValue (prefix_form x0 x1 x2 x3)
  prefix_form_r un.Delete e p s hr hp = search (job, delete_target_r)
  prefix_form_r op e p s hr hp = search (job, value, unary_on_r)

  pub expression_r : (x0 : ExprForm) (x1 : Place) (x2 : State) → R inv many x2 → At inv many x1 → Keeps inv many ByValue (expression x0 x1 x2)
  expression_r (tree.Num t) p s hr hp = search (gave)
  expression_r (tree.Str t) p s hr hp = search (gave)
  expression_r (tree.Name x) p s hr hp = search (gave)
  expression_r (tree.Constant w) p s hr hp = search (gave)
  expression_r (tree.Array es) p s hr hp = search (made, array_parts_r, no_function)
  expression_r (tree.Object qs) p s hr hp = search (made, object_parts_r, no_function)
  expression_r (tree.Function f) p s hr hp = search (made, gave)
  expression_r (tree.Dot e x) p s hr hp = search (job, value, read_r)
  expression_r (tree.Sub e i) p s hr hp = search (job, subscript_read_r)
  expression_r (tree.Call e es) p s hr hp = search (job, callee_r)
  expression_r (tree.Step op e) p s hr hp = search (job, step_target_r)
  expression_r (tree.Unary op e) p s hr hp = search (prefix_form_r)
  expression_r (tree.Binary op a b) p s hr hp = search (job, binary_right_r)
  expression_r (tree.And a b) p s hr hp = search (job, and_right_r)
  expression_r (tree.Or a b) p s hr hp = search (job, or_right_r)
  expression_r (tree.Cond a b c) p s hr hp = search (job, choose_r)
  expression_r (tree.Assign op e v) p s hr hp = search (job, assign_target_r)
  expression_r (tree.New e es) p s hr hp = search (gave)
  expression_r (tree.Comma a b) p s hr hp = search (gave)

  pub target_r : (x0 : ExprForm) (x1 : Place) (x2 : State) → R inv many x2 → At inv many x1 → Keeps inv many ByReference (target x0 x1 x2)
  target_r (tree.Name x) p s hr hp = search (refers)
  target_r (tree.Dot e x) p s hr hp = search (job, value, refer_r)
  target_r (tree.Sub e i) p s hr hp = search (job, subscript_target_r)
  target_r form p s hr hp = search (chain, expression_r, value, refers)

  pub declaration_r : (x0 : OptionalExpr) (x1 : List ℕ) (x2 : Place) (x3 : State) (x4 : (State → Plan)) → R inv many x3 → At inv many x2 → ((y0 : State) → R inv many y0 → Keeps inv many Anyhow (x4 y0)) → Keeps inv many Anyhow (declaration x0 x1 x2 x3 x4)
  declaration_r tree.NoExpr x p s k hr hp f0 = search
  declaration_r (tree.SomeExpr e) x p s k hr hp f0 = search (job, any_value, assign_kept)

  pub declarations_r : (x0 : List (List ℕ × OptionalExpr)) (x1 : Place) (x2 : State) → R inv many x2 → At inv many x1 → Keeps inv many Anyhow (declarations x0 x1 x2)
  declarations_r [] p s hr hp = any_end inv many Normal s hr
  declarations_r (d ∷ ds) p s hr hp = declaration_r d.1 d.0 p s (declarations ds p) hr hp (λ t u. declarations_r ds p t u hp)

  pub expressions_r : (x0 : List Expr) (x1 : Place) (x2 : State) → R inv many x2 → At inv many x1 → Keeps inv many Anyhow (expressions x0 x1 x2)
  expressions_r [] p s hr hp = any_end inv many Normal s hr
  expressions_r (e ∷ es) p s hr hp = job inv many Anyhow _ s _ hr hp (λ o t u e. value inv many Anyhow o t _ u e (λ v. expressions_r es p t u hp))

  pub branch_r : (x0 : Stmts) (x1 : Stmts) (x2 : Place) (x3 : Completion) (x4 : State) → R inv many x4 → At inv many x2 → Keeps inv many Anyhow (branch x0 x1 x2 x3 x4)
  branch_r a b p o s hr hp = search (any_value, either, statements_r)

  pub loop_test_r : (x0 : Loop) (x1 : Place) (x2 : Completion) (x3 : State) → R inv many x3 → At inv many x1 → Keeps inv many Anyhow (loop_test x0 x1 x2 x3)
  loop_test_r l p o s hr hp = search (any_value, either, job, any_end)

  pub loop_end_r : (x0 : Completion) (x1 : State) (x2 : Plan) → R inv many x1 → Keeps inv many Anyhow x2 → Keeps inv many Anyhow (loop_end x0 x1 x2)
  loop_end_r Normal s p hr f0 = search
  loop_end_r Continue s p hr f0 = search
  loop_end_r Break s p hr f0 = search (any_end)
  loop_end_r (Is v) s p hr f0 = search (any_end)
  loop_end_r (Refers r) s p hr f0 = search (any_end)
  loop_end_r (Return v) s p hr f0 = search (any_end)
  loop_end_r (Throw v) s p hr f0 = search (any_end)

  pub while_next_r : (x0 : Expr) (x1 : List Stmt) (x2 : Place) (x3 : Completion) (x4 : State) → R inv many x4 → At inv many x2 → Keeps inv many Anyhow (while_next x0 x1 x2 x3 x4)
  while_next_r e b p o s hr hp = search (loop_end_r, job, loop_test_r)

  pub do_next_r : (x0 : List Stmt) (x1 : Expr) (x2 : Place) (x3 : Completion) (x4 : State) → R inv many x4 → At inv many x2 → Keeps inv many Anyhow (do_next x0 x1 x2 x3 x4)
  do_next_r b e p o s hr hp = search (loop_end_r, job, loop_test_r)

  pub for_test_r : (x0 : OptionalExpr) (x1 : List Expr) (x2 : List Stmt) (x3 : Place) (x4 : State) → R inv many x4 → At inv many x3 → Keeps inv many Anyhow (for_test x0 x1 x2 x3 x4)
  for_test_r tree.NoExpr next b p s hr hp = search (job, any_end)
  for_test_r (tree.SomeExpr e) next b p s hr hp = search (job, loop_test_r)

  pub for_again_r : (x0 : OptionalExpr) (x1 : List Expr) (x2 : List Stmt) (x3 : Place) (x4 : Completion) (x5 : State) → R inv many x5 → At inv many x3 → Keeps inv many Anyhow (for_again x0 x1 x2 x3 x4 x5)
  for_again_r test next b p o s hr hp = search (normal, for_test_r)

  pub for_next_r : (x0 : OptionalExpr) (x1 : List Expr) (x2 : List Stmt) (x3 : Place) (x4 : Completion) (x5 : State) → R inv many x5 → At inv many x3 → Keeps inv many Anyhow (for_next x0 x1 x2 x3 x4 x5)
  for_next_r test next b p o s hr hp = search (loop_end_r, any_chain, expressions_r, for_again_r)

  pub for_init_r : (x0 : ForInit) (x1 : Place) (x2 : State) → R inv many x2 → At inv many x1 → Keeps inv many Anyhow (for_init x0 x1 x2)
  for_init_r (tree.DeclsFirst ds) p s hr hp = search (declarations_r)
  for_init_r (tree.ExprsFirst es) p s hr hp = search (expressions_r)

  pub for_in_r : (x0 : Value) (x1 : List ℕ) (x2 : List (List ℕ)) (x3 : List Stmt) (x4 : Place) (x5 : State) → R inv many x5 → At inv many x4 → Keeps inv many Anyhow (for_in x0 x1 x2 x3 x4 x5)
  for_in_r v x [] b p s hr hp = any_end inv many Normal s hr
  for_in_r v x (y ∷ ys) b p s hr hp = either inv many Anyhow _ _ _ (job inv many Anyhow _ s Ret hr hp (λ o t u e. any_end inv many o t u)) (for_in_r v x ys b p s hr hp)

  pub for_in_next_r : (x0 : Value) (x1 : List ℕ) (x2 : List (List ℕ)) (x3 : List Stmt) (x4 : Place) (x5 : Completion) (x6 : State) → R inv many x6 → At inv many x4 → Keeps inv many Anyhow (for_in_next x0 x1 x2 x3 x4 x5 x6)
  for_in_next_r v x ys b p o s hr hp = search (loop_end_r, for_in_r)

  pub for_in_over_r : (x0 : List ℕ) (x1 : List Stmt) (x2 : Place) (x3 : Completion) (x4 : State) → R inv many x4 → At inv many x2 → Keeps inv many Anyhow (for_in_over x0 x1 x2 x3 x4)
  for_in_over_r x b p o s hr hp = search (any_value, either, faulted, charged, for_in_r)

  pub pass_r : (x0 : Loop) (x1 : Place) (x2 : State) → R inv many x2 → At inv many x1 → Keeps inv many Anyhow (pass x0 x1 x2)
  pass_r (WhileLoop e b) p s hr hp = search (any_chain, statements_r, while_next_r)
  pass_r (DoLoop b e) p s hr hp = search (any_chain, statements_r, do_next_r)
  pass_r (ForLoop test next b) p s hr hp = search (any_chain, statements_r, for_next_r)
  pass_r (ForInLoop v x y ys b) p s hr hp = search (any_chain, statements_r, assign_kept, for_in_next_r)

  pub return_form_r : (x0 : OptionalExpr) (x1 : Place) (x2 : State) → R inv many x2 → At inv many x1 → Keeps inv many Anyhow (return_form x0 x1 x2)
  return_form_r tree.NoExpr p s hr hp = search (any_end)
  return_form_r (tree.SomeExpr e) p s hr hp = search (job, any_value, any_end)

  pub case_test_r : (x0 : OptionalExpr) (x1 : Place) (x2 : State) (x3 : (Value → State → Plan)) (x4 : Plan) → R inv many x2 → At inv many x1 → ((y0 : Value) (y1 : State) → R inv many y1 → Keeps inv many Anyhow (x3 y0 y1)) → Keeps inv many Anyhow x4 → Keeps inv many Anyhow (case_test x0 x1 x2 x3 x4)
  case_test_r tree.NoExpr p s k skip hr hp f0 f1 = search
  case_test_r (tree.SomeExpr e) p s k skip hr hp f0 f1 = search (job, any_value)

  pub choose_case_r : (x0 : Value) (x1 : List Case) (x2 : List Case) (x3 : Place) (x4 : State) → R inv many x4 → At inv many x3 → Keeps inv many Anyhow (choose_case x0 x1 x2 x3 x4)
  choose_case_r v all [] p s hr hp = statements_r inv many (from_default all all) p s hr hp
  choose_case_r v all (c ∷ cs) p s hr hp = case_test_r c.0 p s _ _ hr hp (λ x t u. either inv many Anyhow _ _ _ (statements_r inv many _ p t u hp) (choose_case_r v all cs p t u hp)) (choose_case_r v all cs p s hr hp)

  pub case_tested_r : (x0 : Value) (x1 : List Case) (x2 : List Stmt) (x3 : List Case) (x4 : Place) (x5 : Completion) (x6 : State) → R inv many x6 → At inv many x4 → Keeps inv many Anyhow (case_tested x0 x1 x2 x3 x4 x5 x6)
  case_tested_r v all b cs p o s hr hp = search (any_value, either, statements_r, choose_case_r)

  pub switch_end_r : (x0 : Completion) (x1 : State) → R inv many x1 → Keeps inv many Anyhow (switch_end x0 x1)
  switch_end_r Break s hr = search (any_end)
  switch_end_r o s hr = search (any_end)

  pub switch_on_r : (x0 : List Case) (x1 : Place) (x2 : Completion) (x3 : State) → R inv many x3 → At inv many x1 → Keeps inv many Anyhow (switch_on x0 x1 x2 x3)
  switch_on_r cs p o s hr hp = search (any_value, any_chain, choose_case_r, switch_end_r)

  pub in_catch_r : (x0 : List ℕ) (x1 : List Stmt) (x2 : Value) (x3 : Place) (x4 : State) → R inv many x4 → At inv many x3 → Keeps inv many Anyhow (in_catch x0 x1 x2 x3 x4)
  in_catch_r x b v p s hr hp =
      let c : Scope = record { outer = p.scope; pairs = (x, v) ∷ [] } in
      let n : ℕ = length (s.own.scopes ++ c ∷ []) in
      let q : Place = record { scope = Some (length s.own.scopes); depth = p.depth } in
      paid inv many Anyhow (scope_cost c) s (λ t. statements b (record { scope = Some (length t.own.scopes); depth = p.depth }) (with_new_scope t c)) hr
      (λ a u. lowered inv many Anyhow n (statements b q (with_new_scope (with_counts s a) c)) (no_fewer inv many s c hr)
      (statements_r inv n b q (with_new_scope (with_counts s a) c)
      (entered inv many a s.own.timers s.own.clock s.own.heap s.own.scopes s.own.forest (length s.own.kept) c u (inv.links.later many (length s.own.scopes) p.scope hr.wide hp))
      (inv.links.newest s.own.scopes c)))

  pub caught_r : (x0 : Catch) (x1 : Place) (x2 : Completion) (x3 : State) → R inv many x3 → At inv many x1 → Keeps inv many Anyhow (caught x0 x1 x2 x3)
  caught_r tree.NoCatch p o s hr hp = search (any_end)
  caught_r (tree.CatchAs x b) p o s hr hp = search (thrown, any_end, in_catch_r)

  pub last_end_r : (x0 : Completion) (x1 : Completion) (x2 : State) → R inv many x2 → Keeps inv many Anyhow (last_end x0 x1 x2)
  last_end_r o how s hr = search (normal, any_end)

  pub finally_r : (x0 : OptionalBlock) (x1 : Place) (x2 : Completion) (x3 : State) → R inv many x3 → At inv many x1 → Keeps inv many Anyhow (finally x0 x1 x2 x3)
  finally_r tree.NoBlock p o s hr hp = search (any_end)
  finally_r (tree.SomeBlock b) p o s hr hp = search (any_chain, statements_r, last_end_r)

  pub statement_r : (x0 : StmtForm) (x1 : Place) (x2 : State) → R inv many x2 → At inv many x1 → Keeps inv many Anyhow (statement x0 x1 x2)
  statement_r (tree.Var ds) p s hr hp = search (declarations_r)
  statement_r (tree.Only e) p s hr hp = search (job, any_value, any_end)
  statement_r (tree.If e a b) p s hr hp = search (job, branch_r)
  statement_r (tree.While e b) p s hr hp = search (job, loop_test_r)
  statement_r (tree.DoWhile e b) p s hr hp = search (job, any_end)
  statement_r (tree.For first test next b) p s hr hp = search (any_chain, for_init_r, for_again_r)
  statement_r (tree.ForIn is_declared x e b) p s hr hp = search (job, for_in_over_r)
  statement_r (tree.Continue x) p s hr hp = search (any_end)
  statement_r (tree.Break x) p s hr hp = search (any_end)
  statement_r (tree.Return e) p s hr hp = search (return_form_r)
  statement_r (tree.Throw e) p s hr hp = search (job, any_value, any_end)
  statement_r (tree.Switch e cs) p s hr hp = search (job, switch_on_r)
  statement_r (tree.Try a c b) p s hr hp = search (any_chain, statements_r, caught_r, finally_r)
  statement_r (tree.With e b) p s hr hp = search (any_end)
  statement_r (tree.Label x i) p s hr hp = search (any_end)

  pub hear_r : (x0 : List ℕ) (x1 : ℕ) (x2 : Value) (x3 : ℕ) (x4 : ℕ) (x5 : List ℕ) (x6 : State) → R inv many x6 → Keeps inv many ByValue (hear x0 x1 x2 x3 x4 x5 x6)
  hear_r kind target value d node [] s hr = search (gave)
  hear_r kind target value d node (f ∷ fs) s hr = search (paid, job, ended, born, no_function) depth 9 fits 4000

  pub hear_found_r : (x0 : Option (ℕ × List ℕ)) (x1 : List ℕ) (x2 : ℕ) (x3 : Value) (x4 : ℕ) (x5 : State) → R inv many x5 → Keeps inv many ByValue (hear_found x0 x1 x2 x3 x4 x5)
  hear_found_r None kind target value d s hr = search (gave)
  hear_found_r (Some (node, fs)) kind target value d s hr = search (hear_r)

  pub search_from_r : (x0 : Option ℕ) (x1 : List ℕ) (x2 : ℕ) (x3 : Value) (x4 : ℕ) (x5 : State) → R inv many x5 → Keeps inv many ByValue (search_from x0 x1 x2 x3 x4 x5)
  search_from_r o kind target value d s hr = search (hear_found_r)

  pub dispatch_r : (x0 : List ℕ) (x1 : ℕ) (x2 : Value) (x3 : ℕ) (x4 : State) → R inv many x4 → Keeps inv many ByValue (dispatch x0 x1 x2 x3 x4)
  dispatch_r kind target value d s hr = search (search_from_r)

  pub handlers_r : (x0 : List ℕ) (x1 : Hearing) (x2 : State) → R inv many x2 → Keeps inv many ByValue (handlers x0 x1 x2)
  handlers_r [] g s hr = gave inv many ByValue Undefined s hr
  handlers_r (f ∷ fs) g s hr = job inv many ByValue _ s _ hr tt (λ o t u e. value inv many ByValue o t _ u e (λ v. handlers_r fs g t u))

  pub bubble_on_r : (x0 : Bool) (x1 : Hearing) (x2 : State) → R inv many x2 → Keeps inv many ByValue (bubble_on x0 x1 x2)
  bubble_on_r false h s hr = search (gave)
  bubble_on_r true h s hr = search (search_from_r)

  pub dispatch_end_r : (x0 : Hearing) (x1 : Completion) (x2 : State) → R inv many x2 → Ends ByValue x1 → Keeps inv many ByValue (dispatch_end x0 x1 x2)
  dispatch_end_r h (Is v) s hr he = search (bubble_on_r)
  dispatch_end_r h o s hr he = search (ended)

  pub bubble_r : (x0 : List Bool) (x1 : State) → R inv many x1 → Keeps inv many ByValue (bubble x0 x1)
  bubble_r [] s hr = search (faulted)
  bubble_r (b ∷ bs) s hr = search (gave)

  pub heard_r : (x0 : Hearing) (x1 : State) → R inv many x1 → Keeps inv many ByValue (heard x0 x1)
  heard_r h s hr = search (chain, invoke_r, value, handlers_r, dispatch_end_r)
