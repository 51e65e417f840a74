-- Each form of the language keeps what is there: one lemma for what comes after each part.
use Rattle.meaning_laws.proofs.Numbers.{OfRead, number_in_is}
use Rattle.meaning_laws.proofs.Values.{read_told, told, also, first, second, own_value, text_told, both_names, filtered_names, replaced_names, taken_names, undefined_is, null_is, truth_is, nan_is, num_is, text_is, host_is, literal_is, word_is, no_values, more_values, both_values, nth_is, no_value, some_value, no_pairs, more_pairs, both_pairs, filtered_pairs, replaced_are, taken_are, got_is, named_is, referred_of, elements_of, bunch_of, base_is, variable_is, property_reference, found_reference, normal_end, break_end, continue_end, value_end, reference_end, return_end, throw_end, eval_job, target_job, exec_job, pass_job, call_job, while_loop, do_loop, for_loop, for_in_loop, scope_of_call}
use Rattle.widget_meaning.specs.Values.{to_number, Value, Undefined, Null, Num, Text, Own, Host, Completion, Normal, Is, Refers, Return, Break, Continue, Throw, Reference, Variable, Property, Found, NaN, Truth, E1, E7, to_text, is_nothing}
use Rattle.js_tree.specs.Plain as tree
use Rattle.js_tree.specs.declared.nodes.UnOp.TheVariants as un
use Rattle.js_tree.specs.declared.nodes.AssignOp.TheVariants as assignment
use Rattle.code_units.specs.declared.whole.WholeRead.TheVariants as read_as
use Rattle.std.specs.Prelude.{ℕ, suc, pos, ◌+◌, length, List, [], ◌∷◌, ◌++◌, Bool, true, false, Option, Some, None, codes, if◌then◌else◌, filter, max, nat_lt, ◌&&◌}
use Rattle.permitted_table.specs.declared.native.HostEntry.TheVariants as host
use Rattle.widget_meaning.specs.OwnState.{State, Cell, Kind, Object, Array, Function, Bunch, Scope, cell_at, scope_at, replaced, with_new_scope, Pairs, plain_object, new_function, new_array, new_bunch, with_cell, with_new_cell, taken_out, kind_of, bunch_nodes}
use Rattle.widget_meaning.specs.Plan.{Plan, Place, Ret, Loop, WhileLoop, DoLoop, ForLoop, ForInLoop, Hearing, RunNative, Do, Hear}
use Rattle.js_tree.specs.Plain.{Expr, Stmt, Stmts, Fun, ExprForm, OptionalExpr, StmtForm, ForInit, OptionalBlock, Catch}
use Rattle.widget_meaning.specs.Properties.{read, put, delete, index_name, put_pair, put_index, put_length, put_own, delete_pair, delete_own, is_below, get, cut_to, names_of, names_on_chain, listed, permitted_names}
use Rattle.widget_meaning.specs.Scopes.{fun_name, fun_list, call_scope, assign, set_in, scope_of, variable, set_pair, without_name}
use Rattle.js_tree.specs.declared.nodes.StepOp.{StepOp}
use Rattle.js_tree.specs.declared.nodes.UnOp.{UnOp}
use Rattle.js_tree.specs.declared.nodes.BinOp.{BinOp}
use Rattle.js_tree.specs.declared.nodes.AssignOp.{AssignOp}
use Rattle.code_units.specs.declared.whole.WholeRead.{WholeRead}
use Rattle.widget_meaning.specs.Operators.{OpOut, Gives, Leaves, TooLong}
use Rattle.widget_meaning.specs.Calls.{invoke, to_primitive, statements, declare, call_end, call_body, enter_scope, enter, primitive_result, call_to_string, with_variable, without_directive, stmt_list}
use Rattle.widget_meaning.specs.Expressions.{array_parts, object_parts, subscript_read, refer, subscript_target, write, arguments_then, callee, result, converted_left, operate, binary_right, unary_on, delete_at, delete_target, step_write, step_number, step_converted, step_target, compound, assign_with, assign_target, and_right, or_right, choose, prefix_form, expression, target, referred, base_of, stepped, is_post, expr_list, property_list}
use Rattle.widget_meaning.specs.Statements.{bodies, decl_list, clause_list, declaration, declarations, expressions, branch, loop_test, loop_end, while_next, do_next, for_test, for_again, for_next, for_init, for_in, for_in_next, for_in_over, pass, return_form, case_test, choose_case, switch_end, switch_on, in_catch, caught, last_end, finally, statement, Case, from_default}
use Rattle.widget_meaning.specs.Dispatch.{hear, hear_found, search_from, dispatch, handlers, bubble_on, dispatch_end, heard, bubble, nearest, event_pairs, event_cost, with_event, with_dispatch, without_dispatch, is_bubbled}
use Rattle.widget_meaning.specs.Costs.{scope_cost, with_counts, give, slots_cost}
use Rattle.std.proofs.Common.{map, zero, ◌≡◌, ◌<◌, ◌≤◌, refl, sym, subst, arith, ap, ltb-true}
use Rattle.std.specs.List.{AllByRecursion, fold}
use Rattle.code_units.specs.Permitted.{is_permitted}
use Rattle.meaning_laws.proofs.Each.{each_both, each_filtered}
use Rattle.std.specs.Fmt.{decimal}
use Rattle.std.specs.Str.{bytes_eq}
use Rattle.std.specs.Str.Parse.{digits_value}
use Rattle.std.proofs.lemmas.Bool.{leb-true}
use Rattle.code_units.specs.Whole.{is_numeral, number_in}
use Rattle.code_units.specs.Indices.{index_value, index_of}
use Rattle.widget_meaning.specs.Limits.{max_length, max_chain, max_node_depth}
use Rattle.widget_meaning.specs.JsonBack.{HasLength}
use Rattle.std.proofs.lemmas.List.{length-append}
use Rattle.permitted_table.specs.declared.native.NativeId.{NativeId}
use Rattle.widget_meaning.specs.Trees.{parent}
use Rattle.widget_meaning.specs.NativeForms.{elements}
use Rattle.meaning_laws.specs.There.{Sizes, Grows, Told, CellFits, IsBelow, ValueIs, ValuesAre, MaybeIs, PairsAre, NodeIs, NodesAre, OfNode, FunctionsAre, OfKind, CellIs, ReferenceIs, CompletionIs, LoopIs, HearingIs, JobIs, IsShort, cell_in}
use Rattle.meaning_laws.specs.Texts.{IsText, AreTexts, AreNames, ExprHasTexts, FormHasTexts, OptionHasTexts, InitHasTexts, StmtHasTexts, StmtFormHasTexts, StmtsHaveTexts, BlockHasTexts, CatchHasTexts, FunHasTexts}
use Rattle.meaning_laws.proofs.Units.{tested, decimal_is, type_is}
use Rattle.meaning_laws.proofs.Scripts.{PropertyHasTexts, DeclHasTexts, CaseHasTexts, exprs_are, stmts_are, funs_are, properties_are, decls_are, clauses_are, unnamed, body_are, bodies_are, default_are}
use Rattle.meaning_laws.proofs.Later.{told_later, same_size, through, value_later, values_later, maybe_later, node_later, nodes_later, functions_later, reference_later, completion_later, loop_later, hearing_later}
use Rattle.meaning_laws.proofs.Results.{GivenIs, given, binary_given, unary_given, stepped_given}
use Rattle.meaning_laws.proofs.Nodes.{OfHeard, nearest_is, parent_is}
use Rattle.meaning_laws.proofs.Steps.{R, Holds, second_part, Keeps, ended, halted, job, either, value, reference, normal, thrown, chain, charged, paid, made, made_text, faulted, wanted, lowered, written, assigned, entered, there_later, there_born, plain_is}

-- ## What a state has

module _ (m : Sizes) (s : State) where
  pub get_is : (v : Value) (x : List ℕ) → R m s → ValueIs m v → ValueIs m (get s v x)
  get_is v x h q = got_is m s h.there.objects h.there.scopes (λ n. (h.there.fits n).len) v x q

  pub variable_value : (p : Place) (x : List ℕ) → R m s → ValueIs m (variable s p x)
  variable_value p x h = named_is m s h.there.objects h.there.scopes (λ n. (h.there.fits n).len) p x

  pub referred_is : (r : Reference) (p : Place) → R m s → ReferenceIs m r → ValueIs m (referred r p s)
  referred_is r p h k = referred_of m s h.there.objects h.there.scopes (λ n. (h.there.fits n).len) r p k

  pub elements_are : (n len : ℕ) → R m s → ValuesAre m (elements s n len)
  elements_are n len h = elements_of m s h.there.objects h.there.scopes (λ n. (h.there.fits n).len) n len

  pub bunch_is : (v : Value) (ns : List ℕ) → R m s → bunch_nodes (kind_of s v) ≡ Some ns → NodesAre m ns
  bunch_is v ns h e = bunch_of m s h.there.objects h.there.scopes (λ n. (h.there.fits n).len) v ns e

  pub write_cell : (n : ℕ) (c : Cell) → R m s → CellIs m c → c.prototype ≡ (cell_in s.own.heap n).prototype → CellFits s.own.counts.slots c → R m (with_cell s n c)
  write_cell n c h q e z = written m s.own.heap s.own.scopes s.own.kept s.own.timers s.own.forest s.own.focus s.own.counts.slots n c h q e z

  set_kept : (o : Option ℕ) (x : List ℕ) (v : Value) → R m s → ValueIs m v → R m (set_in s o x v)
  set_kept None x v h q = h
  set_kept (Some i) x v h q = assigned m s.own.heap s.own.scopes s.own.kept s.own.timers s.own.forest s.own.focus s.own.counts.slots i (set_pair (scope_at s i) x v) h (replaced_are m (scope_at s i).pairs x v q (h.there.scopes i))

  pub assign_kept : (p : Place) (x : List ℕ) (v : Value) → R m s → ValueIs m v → R m (assign s p x v)
  assign_kept p x v h q = set_kept (scope_of s p x) x v h q

  pub variable_kept : (i : ℕ) (xs : List (List ℕ)) (v : Value) → R m s → ValueIs m v → R m (with_variable s i xs v)
  variable_kept i [] v h q = h
  variable_kept i (x ∷ xs) v h q = set_kept (Some i) x v h q

module _ (m : Sizes) where
  pub cell_put : (c : Cell) (ps : Pairs) → CellIs m c → PairsAre m ps → Told m (AreNames ps) → CellIs m (record c { pairs = ps })
  cell_put c ps h k l = record { kind = h.kind; prototype = h.prototype; pairs = k; names = l }

  pub array_put : (c : Cell) (len : ℕ) (ps : Pairs) → CellIs m c → PairsAre m ps → Told m (AreNames ps) → CellIs m (record c { kind = Array len; pairs = ps })
  array_put c len ps h k l = record { kind = tt; prototype = h.prototype; pairs = k; names = l }

  pub function_is : (f : Fun) (o : Option ℕ) → Told m (FunHasTexts f) → CellIs m (new_function f o)
  function_is f o h = record { kind = h; prototype = host_is m host.FunctionPrototype; pairs = no_pairs m; names = told m tt }

  pub array_is : (len : ℕ) (ps : Pairs) → PairsAre m ps → Told m (AreNames ps) → CellIs m (new_array len ps)
  array_is len ps h k = record { kind = tt; prototype = host_is m host.ArrayPrototype; pairs = h; names = k }

  pub bunch_cell : (ns : List ℕ) → NodesAre m ns → CellIs m (new_bunch ns)
  bunch_cell ns h = record { kind = h; prototype = host_is m host.BunchPrototype; pairs = no_pairs m; names = told m tt }

  pub own_is : (f : ℕ) → f < m.objects → ValueIs m (Own f)
  own_is f h = own_value m f h

  pub native_job : (w : NativeId) (this : Option Value) (vs : List Value) (d : ℕ) → MaybeIs m this → ValuesAre m vs → JobIs m (RunNative w this vs d)
  native_job w this vs d h k = record { holds = record { func = undefined_is m; receiver = h; arguments = k } }

  pub pick : (b : Bool) (v w : Value) → ValueIs m v → ValueIs m w → ValueIs m (if b then v else w)
  pick true v w h k = h
  pick false v w h k = k

-- what follows from facts at hand
pub ruleset kept = (
  told_later,
  text_told,
  value_later,
  values_later,
  maybe_later,
  node_later,
  nodes_later,
  functions_later,
  reference_later,
  completion_later,
  loop_later,
  hearing_later,
  undefined_is,
  null_is,
  truth_is,
  nan_is,
  num_is,
  text_is,
  host_is,
  no_values,
  more_values,
  no_value,
  some_value,
  nth_is,
  normal_end,
  break_end,
  continue_end,
  value_end,
  reference_end,
  return_end,
  throw_end,
  eval_job,
  target_job,
  exec_job,
  pass_job,
  call_job,
  while_loop,
  do_loop,
  for_loop,
  for_in_loop,
  variable_is,
  property_reference,
  found_reference,
)

-- ## Several objects at once

-- the prototype is an entry of the permitted table
pub record Hosted (c : Cell) : Type 0 where
  pub below : (k : ℕ) → IsBelow k c.prototype
  pub short : (hs : List Cell) → IsShort max_chain hs (Some c.prototype)

pub all_hold : (n : Sizes) (ds : List Cell) (s : State) → Holds n s → AllByRecursion (CellIs n) ds → AllByRecursion Hosted ds → AllByRecursion (CellFits s.own.counts.slots) ds → Holds n (fold with_new_cell s ds)
all_hold n [] s h q k z = h
all_hold n (d ∷ ds) s h q k z = all_hold n ds (with_new_cell s d)
    (there_born n s.own.heap s.own.scopes s.own.kept s.own.timers s.own.forest s.own.focus s.own.counts.slots d h q.0 (k.0.below (length s.own.heap)) (k.0.short s.own.heap) z.0) q.1 k.1 z.1

pub all_length : (ds : List Cell) (s : State) → length (fold with_new_cell s ds).own.heap ≡ length s.own.heap + length ds
all_length [] s = omega arith
all_length (d ∷ ds) s = omega (arith, all_length ds (with_new_cell s d), length-append s.own.heap (d ∷ []))

pub all_kept : (ds : List Cell) (s : State) → (fold with_new_cell s ds).own.kept ≡ s.own.kept
all_kept [] s = refl
all_kept (d ∷ ds) s = all_kept ds (with_new_cell s d)

-- so many more objects
abbrev pub with_more : Sizes → State → ℕ → Sizes
with_more m s k = record { objects = length s.own.heap + k; nodes = m.nodes; texts = m.texts }

pub more_grows : (m : Sizes) (s : State) (k : ℕ) → R m s → Grows m (with_more m s k)
more_grows m s k h = record { objects = omega (arith, h.wide.objects); nodes = omega arith; texts = refl }

pub all_born : (m : Sizes) (ds : List Cell) (s : State) → R m s → AllByRecursion (CellIs (with_more m s (length ds))) ds → AllByRecursion Hosted ds → AllByRecursion (CellFits s.own.counts.slots) ds
    → R (with_more m s (length ds)) (fold with_new_cell s ds)
all_born m ds s h q k z = record {
  there = all_hold (with_more m s (length ds)) ds s (there_later m (with_more m s (length ds)) s.own.heap s.own.scopes s.own.kept s.own.timers s.own.forest s.own.focus s.own.counts.slots (more_grows m s (length ds) h) h.there) q k z;
  wide = record { objects = omega (arith, all_length ds s); nodes = subst (λ x. m.nodes ≤ length x) (sym (all_kept ds s)) h.wide.nodes; texts = refl };
}

pub plain_hosted : (ps : Pairs) → Hosted (plain_object ps)
plain_hosted ps = record { below = λ k. tt; short = λ hs. tt }

pub bunch_hosted : (ns : List ℕ) → Hosted (new_bunch ns)
bunch_hosted ns = record { below = λ k. tt; short = λ hs. tt }

pub array_hosted : (len : ℕ) (ps : Pairs) → Hosted (new_array len ps)
array_hosted len ps = record { below = λ k. tt; short = λ hs. tt }

-- an event object with its two Bunches
abbrev pub event_size : Sizes → State → Sizes
event_size m s = with_more m s 3

pub event_grows : (m : Sizes) (s : State) → R m s → Grows m (event_size m s)
event_grows m s h = more_grows m s 3 h

pub event_is : (m : Sizes) (s : State) → ValueIs (event_size m s) (Own (length s.own.heap))
event_is m s = own_value (event_size m s) (length s.own.heap) (omega arith)

pub event_born : (m : Sizes) (s : State) (kind : List ℕ) (target node : ℕ) (value : Value) → R m s → ValueIs m value → NodeIs m target → NodeIs m node → Told m (IsText kind) → 9 ≤ s.own.counts.slots
    → R (event_size m s) (with_event s kind target node value)
event_born m s kind target node value h hv ht hn hk hl =
    let n : Sizes = event_size m s in
    let g : Grows m n = event_grows m s h in
    let k : ℕ = length s.own.heap in
    all_born m (plain_object (event_pairs kind k value) ∷ new_bunch (target ∷ []) ∷ new_bunch (node ∷ []) ∷ []) s h (
      plain_is n _ (more_pairs n _ _ _ (text_is n kind (told_later m n _ g hk)) (more_pairs n _ _ _ (own_is n (k + 1) (omega arith)) (more_pairs n _ _ _ (own_is n (k + 2) (omega arith))
          (more_pairs n _ _ _ (value_later m n value g hv) (more_pairs n _ _ _ (host_is n _) (no_pairs n))))))
          (told n (tested (codes "type") refl, (tested (codes "target") refl, (tested (codes "that") refl, (tested (codes "value") refl, (tested (codes "bubble") refl, tt)))))),
      (bunch_cell n _ (record { each = (node_later m n target g ht, tt) }), (bunch_cell n _ (record { each = (node_later m n node g hn, tt) }), tt)),
    )
    (plain_hosted _, (bunch_hosted _, (bunch_hosted _, tt)))
    (record { room = omega (arith, hl); len = tt; count = tt }, (record { room = omega arith; len = tt; count = omega arith }, (record { room = omega arith; len = tt; count = omega arith }, tt)))

abbrev pub HeardIs : Sizes → Option (ℕ × List ℕ) → Type 0
HeardIs m None = Unit {0}
HeardIs m (Some (n, fs)) = NodeIs m n × FunctionsAre m fs

heard_is : (m : Sizes) (s : State) → R m s → (o : Option ℕ) (kind : List ℕ) → OfNode m o → HeardIs m (nearest s o kind)
heard_is m s h o kind q = by (nearest s o kind) (nearest_is m s h (max_node_depth + 1) o kind q)
  where
    by : (x : Option (ℕ × List ℕ)) → OfHeard m s h x → HeardIs m x
    by None k = tt
    by (Some (n, fs)) k = k

-- ## Room

same_room : (ps : Pairs) (x : List ℕ) (v : Value) (k : ℕ) → length ps ≤ k → length (replaced ps x v) ≤ k
same_room ps x v k h = subst (λ n. n ≤ k) (sym (same_length ps x v)) h
  where
    same_length : (qs : Pairs) (x : List ℕ) (v : Value) → length (replaced qs x v) ≡ length qs
    same_length [] x v = refl
    same_length (q ∷ qs) x v = by (bytes_eq x q.0) (same_length qs x v)
      where
        by : (b : Bool) → length (replaced qs x v) ≡ length qs → length (if b then (q.0, v) ∷ qs else q ∷ replaced qs x v) ≡ length (q ∷ qs)
        by true e = refl
        by false e = ap suc e

one_more_room : (ps : Pairs) (p : List ℕ × Value) (k n : ℕ) → length ps ≤ k → k + 1 ≤ n → length (ps ++ p ∷ []) ≤ n
one_more_room ps p k n h l = omega (arith, h, l, length-append ps (p ∷ []))

filter_length : (t : List ℕ × Value → Bool) (ps : Pairs) → length (filter t ps) ≤ length ps
filter_length t [] = omega arith
filter_length t (p ∷ ps) = by (t p) (filter_length t ps)
  where
    by : (b : Bool) → length (filter t ps) ≤ length ps → length (if b then p ∷ filter t ps else filter t ps) ≤ length (p ∷ ps)
    by true e = omega (arith, e)
    by false e = omega (arith, e)

pub less_room : (t : List ℕ × Value → Bool) (ps : Pairs) (k : ℕ) → length ps ≤ k → length (filter t ps) ≤ k
less_room t ps k h = omega (arith, h, filter_length t ps)

taken_length : (ps : Pairs) (x : List ℕ) → length (taken_out ps x) ≤ length ps
taken_length [] x = omega arith
taken_length (p ∷ ps) x = by (bytes_eq x p.0) (taken_length ps x)
  where
    by : (b : Bool) → length (taken_out ps x) ≤ length ps → length (if b then ps else p ∷ taken_out ps x) ≤ length (p ∷ ps)
    by true e = omega arith
    by false e = omega (arith, e)

taken_room : (ps : Pairs) (x : List ℕ) (k : ℕ) → length ps ≤ k → length (taken_out ps x) ≤ k
taken_room ps x k h = omega (arith, h, taken_length ps x)

abbrev pub IsIndex : Option ℕ → Type 0
IsIndex None = Unit {0}
IsIndex (Some i) = i < max_length

index_is : (x : List ℕ) → IsIndex (index_of x)
index_is x = by (is_numeral 10 x)
  where
    valued : (n : ℕ) (a b : Bool) → nat_lt n max_length ≡ b → IsIndex (if a && b then Some n else None)
    valued n true true e = ltb-true n max_length e
    valued n true false e = tt
    valued n false b e = tt

    by : (b : Bool) → IsIndex (if b then index_value x (digits_value 10 x) else None)
    by true = valued (digits_value 10 x) (bytes_eq x (decimal (digits_value 10 x))) (nat_lt (digits_value 10 x) max_length) refl
    by false = tt

longer : (len i : ℕ) → len ≤ max_length → i < max_length → max len (i + 1) ≤ max_length
longer len i h l = omega (arith, h, l)

pub read_r : (m : Sizes) (x0 : Value) (x1 : List ℕ) (x2 : State) → R m x2 → ValueIs m x0 → Keeps m (read x0 x1 x2)
read_r m Undefined x s hr h0 = search (faulted, kept)
read_r m Null x s hr h0 = search (faulted, kept)
read_r m v x s hr h0 = ended m _ s hr (value_end m _ (get_is m s v x hr h0))

pub put_pair_r : (m : Sizes) (x0 : Cell) (x1 : ℕ) (x2 : List ℕ) (x3 : Value) (x4 : State) (x5 : (State → Plan)) → R m x4 → Told m (IsText x2) → ValueIs m x3 → CellIs m x0 → x0.prototype ≡ (cell_in x4.own.heap x1).prototype → CellFits x4.own.counts.slots x0 → ((y0 : State) → R m y0 → Keeps m (x5 y0)) → Keeps m (put_pair x0 x1 x2 x3 x4 x5)
put_pair_r m c n x v s k hr hx h3 hc he hz f0 = either m _ _ _
    (f0 _ (write_cell m s n (record c { pairs = replaced c.pairs x v }) hr (cell_put m c _ hc (replaced_are m c.pairs x v h3 hc.pairs) (replaced_names m c.pairs x v hc.names)) he (record { room = same_room c.pairs x v s.own.counts.slots hz.room; len = hz.len; count = hz.count })))
    (paid m (slots_cost 1) s (λ t. k (with_cell t n (record c { pairs = c.pairs ++ (x, v) ∷ [] }))) hr
    (λ a u due. f0 _ (write_cell m (with_counts s a) n (record c { pairs = c.pairs ++ (x, v) ∷ [] }) u (cell_put m c _ hc (both_pairs m c.pairs _ hc.pairs (more_pairs m x v [] h3 (no_pairs m))) (both_names m c.pairs _ hc.names (also m (λ q. (q, tt)) hx))) he (record { room = one_more_room c.pairs (x, v) s.own.counts.slots a.slots hz.room due.more; len = hz.len; count = hz.count }))))

pub put_index_r : (m : Sizes) (x0 : Option ℕ) (x1 : Cell) (x2 : ℕ) (x3 : ℕ) (x4 : List ℕ) (x5 : Value) (x6 : State) (x7 : (State → Plan)) → R m x6 → Told m (IsText x4) → ValueIs m x5 → CellIs m x1 → x1.prototype ≡ (cell_in x6.own.heap x3).prototype → CellFits x6.own.counts.slots x1 → x2 ≤ max_length → IsIndex x0 → ((y0 : State) → R m y0 → Keeps m (x7 y0)) → Keeps m (put_index x0 x1 x2 x3 x4 x5 x6 x7)
put_index_r m None c len n x v s k hr hx h5 hc he hz hl hi f0 = put_pair_r m c n x v s k hr hx h5 hc he hz f0
put_index_r m (Some i) c len n x v s k hr hx h5 hc he hz hl hi f0 = put_pair_r m _ n x v s k hr hx h5 (array_put m c _ c.pairs hc hc.pairs hc.names) he (record { room = hz.room; len = longer len i hl hi; count = tt }) f0

pub put_length_r : (m : Sizes) (x0 : Value) (x1 : Cell) (x2 : ℕ) (x3 : State) (x4 : (State → Plan)) → R m x3 → CellIs m x1 → x1.prototype ≡ (cell_in x3.own.heap x2).prototype → CellFits x3.own.counts.slots x1 → ((y0 : State) → R m y0 → Keeps m (x4 y0)) → Keeps m (put_length x0 x1 x2 x3 x4)
put_length_r m (Num (pos len)) c n s k hr hc he hz f0 = wanted m E7 _ s _ hr (λ e. f0 _ (write_cell m s n (cut_to c len) hr (array_put m c len _ hc (filtered_pairs m _ c.pairs hc.pairs) (filtered_names m _ c.pairs hc.names)) he (record { room = less_room (λ p. is_below len true p.0) c.pairs s.own.counts.slots hz.room; len = leb-true len max_length e; count = tt })))
put_length_r m v c n s k hr hc he hz f0 = search (faulted, kept)

pub put_own_r : (m : Sizes) (x0 : Kind) (x1 : Cell) (x2 : ℕ) (x3 : List ℕ) (x4 : Value) (x5 : State) (x6 : (State → Plan)) → R m x5 → Told m (IsText x3) → ValueIs m x4 → CellIs m x1 → x1.prototype ≡ (cell_in x5.own.heap x2).prototype → CellFits x5.own.counts.slots x1 → HasLength x0 → ((y0 : State) → R m y0 → Keeps m (x6 y0)) → Keeps m (put_own x0 x1 x2 x3 x4 x5 x6)
put_own_r m Object c n x v s k hr hx h4 hc he hz hl f0 = put_pair_r m c n x v s k hr hx h4 hc he hz f0
put_own_r m (Function f scope) c n x v s k hr hx h4 hc he hz hl f0 = put_pair_r m c n x v s k hr hx h4 hc he hz f0
put_own_r m (Array len) c n x v s k hr hx h4 hc he hz hl f0 = either m _ _ _ (put_length_r m v c n s k hr hc he hz f0) (put_index_r m (index_of x) c len n x v s k hr hx h4 hc he hz hl (index_is x) f0)
put_own_r m (Bunch ns) c n x v s k hr hx h4 hc he hz hl f0 = search (faulted, kept)

pub put_r : (m : Sizes) (x0 : Value) (x1 : List ℕ) (x2 : Value) (x3 : State) (x4 : (State → Plan)) → R m x3 → Told m (IsText x1) → ValueIs m x2 → ((y0 : State) → R m y0 → Keeps m (x4 y0)) → Keeps m (put x0 x1 x2 x3 x4)
put_r m (Own n) x v s k hr hx h2 f0 = put_own_r m (cell_at s n).kind (cell_at s n) n x v s k hr hx h2 (hr.there.objects n) refl (hr.there.fits n) (hr.there.fits n).len f0
put_r m (Host h) x v s k hr hx h2 f0 = search (faulted, kept)
put_r m o x v s k hr hx h2 f0 = f0 s hr

pub delete_pair_r : (m : Sizes) (x0 : Cell) (x1 : ℕ) (x2 : List ℕ) (x3 : State) (x4 : (Bool → State → Plan)) → R m x3 → CellIs m x0 → x0.prototype ≡ (cell_in x3.own.heap x1).prototype → CellFits x3.own.counts.slots x0 → ((y0 : Bool) (y1 : State) → R m y1 → Keeps m (x4 y0 y1)) → Keeps m (delete_pair x0 x1 x2 x3 x4)
delete_pair_r m c n x s k hr hc he hz f0 = f0 _ _ (write_cell m s n (record c { pairs = taken_out c.pairs x }) hr (cell_put m c _ hc (taken_are m c.pairs x hc.pairs) (taken_names m c.pairs x hc.names)) he (record { room = taken_room c.pairs x s.own.counts.slots hz.room; len = hz.len; count = hz.count }))

pub delete_own_r : (m : Sizes) (x0 : Kind) (x1 : Cell) (x2 : ℕ) (x3 : List ℕ) (x4 : State) (x5 : (Bool → State → Plan)) → R m x4 → CellIs m x1 → x1.prototype ≡ (cell_in x4.own.heap x2).prototype → CellFits x4.own.counts.slots x1 → ((y0 : Bool) (y1 : State) → R m y1 → Keeps m (x5 y0 y1)) → Keeps m (delete_own x0 x1 x2 x3 x4 x5)
delete_own_r m Object c n x s k hr hc he hz f0 = delete_pair_r m c n x s k hr hc he hz f0
delete_own_r m (Function f scope) c n x s k hr hc he hz f0 = delete_pair_r m c n x s k hr hc he hz f0
delete_own_r m (Array len) c n x s k hr hc he hz f0 = either m _ _ _ (f0 false s hr) (delete_pair_r m c n x s k hr hc he hz f0)
delete_own_r m (Bunch ns) c n x s k hr hc he hz f0 = search (faulted, kept)

pub delete_r : (m : Sizes) (x0 : Value) (x1 : List ℕ) (x2 : State) (x3 : (Bool → State → Plan)) → R m x2 → ((y0 : Bool) (y1 : State) → R m y1 → Keeps m (x3 y0 y1)) → Keeps m (delete x0 x1 x2 x3)
delete_r m (Own n) x s k hr f0 = delete_own_r m (cell_at s n).kind (cell_at s n) n x s k hr (hr.there.objects n) refl (hr.there.fits n) f0
delete_r m (Host h) x s k hr f0 = search (faulted, kept)
delete_r m o x s k hr f0 = f0 true s hr

pub statements_r : (m : Sizes) (x0 : List Stmt) (x1 : Place) (x2 : State) → R m x2 → Told m (AllByRecursion StmtHasTexts x0) → Keeps m (statements x0 x1 x2)
statements_r m [] p s hr hq = ended m Normal s hr (normal_end m)
statements_r m (i ∷ is) p s hr hq = job m _ s _ hr (exec_job m i p (first m hq)) (λ n g o t u q. normal n o t _ u q (statements_r n is p t u (told_later m n _ g (second m hq))))

pub declare_r : (m : Sizes) (x0 : List Fun) (x1 : ℕ) (x2 : State) (x3 : (State → Plan)) → R m x2 → Told m (AllByRecursion FunHasTexts x0) → ((n : Sizes) → Grows m n → (y0 : State) → R n y0 → Keeps n (x3 y0)) → Keeps m (declare x0 x1 x2 x3)
declare_r m [] i s k hr hq f0 = f0 m (same_size m) s hr
declare_r m (f ∷ fs) i s k hr hq f0 = made m _ 0 s _ hr (function_is m (without_name f) (Some i) (also m (λ q. unnamed f q.0) hq)) tt (record { room = omega arith; len = tt; count = tt }) (λ n g v t u w. declare_r n fs i (with_variable t i (fun_name f) v) k (variable_kept n t i (fun_name f) v u w) (told_later m n _ g (second m hq))
    (λ l e y z. f0 l (through m n l g e) y z))

pub call_end_r : (m : Sizes) (x0 : Completion) (x1 : State) → R m x1 → CompletionIs m x0 → Keeps m (call_end x0 x1)
call_end_r m (Return v) s hr h0 = ended m (Is v) s hr (value_end m v h0.value)
call_end_r m (Throw v) s hr h0 = ended m (Throw v) s hr h0
call_end_r m Normal s hr h0 = ended m _ s hr (value_end m _ (undefined_is m))
call_end_r m (Is v) s hr h0 = ended m _ s hr (value_end m _ (undefined_is m))
call_end_r m (Refers r) s hr h0 = ended m _ s hr (value_end m _ (undefined_is m))
call_end_r m Break s hr h0 = ended m _ s hr (value_end m _ (undefined_is m))
call_end_r m Continue s hr h0 = ended m _ s hr (value_end m _ (undefined_is m))

pub call_body_r : (m : Sizes) (x0 : Stmts) (x1 : Place) (x2 : State) → R m x2 → Told m (StmtsHaveTexts x0) → Keeps m (call_body x0 x1 x2)
call_body_r m body p s hr hq = chain m _ _ (statements_r m (without_directive (stmt_list body)) p s hr (also m (λ q. body_are (stmt_list body) (stmts_are body q)) hq)) (λ n g o t u q. call_end_r n o t u q)

pub enter_scope_r : (m : Sizes) (x0 : Fun) (x1 : Option ℕ) (x2 : Value) (x3 : List Value) (x4 : ℕ) (x5 : State) → R m x5 → ValueIs m x2 → ValuesAre m x3 → Told m (FunHasTexts x0) → Keeps m (enter_scope x0 x1 x2 x3 x4 x5)
enter_scope_r m (tree.FunAt at names name params body funs) outer f vs d s hr h2 h3 hq =
    let c : Scope = call_scope (tree.FunAt at names name params body funs) outer f vs in
    paid m (scope_cost c) s (λ t. declare (fun_list funs) (length t.own.scopes) (with_new_scope t c) (call_body body (record { scope = Some (length t.own.scopes); depth = d }))) hr
    (λ a u due. declare_r m (fun_list funs) (length s.own.scopes) (with_new_scope (with_counts s a) c) _
    (entered m s.own.heap s.own.scopes s.own.kept s.own.timers s.own.forest s.own.focus a.slots c u (scope_of_call m (tree.FunAt at names name params body funs) outer f vs h2 h3))
    (also m (λ q. funs_are funs q.1) hq) (λ n g t w. call_body_r n body _ t w (told_later m n _ g (first m hq))))

pub enter_r : (m : Sizes) (x0 : Kind) (x1 : Value) (x2 : List Value) (x3 : ℕ) (x4 : State) → R m x4 → ValueIs m x1 → ValuesAre m x2 → OfKind m x0 → Keeps m (enter x0 x1 x2 x3 x4)
enter_r m (Function f outer) v vs d s hr h1 h2 hk = either m _ _ _ (halted m _ s hr) (enter_scope_r m f outer v vs d s hr h1 h2 hk)
enter_r m Object v vs d s hr h1 h2 hk = search (faulted, kept)
enter_r m (Array n) v vs d s hr h1 h2 hk = search (faulted, kept)
enter_r m (Bunch ns) v vs d s hr h1 h2 hk = search (faulted, kept)

pub invoke_r : (m : Sizes) (x0 : Value) (x1 : Option Value) (x2 : List Value) (x3 : ℕ) (x4 : State) → R m x4 → ValueIs m x0 → MaybeIs m x1 → ValuesAre m x2 → Keeps m (invoke x0 x1 x2 x3 x4)
invoke_r m (Own n) this vs d s hr h0 h1 h2 = enter_r m (cell_at s n).kind (Own n) vs (suc d) s hr h0 h2 (hr.there.objects n).kind
invoke_r m (Host (host.Native w)) this vs d s hr h0 h1 h2 = job m _ s Ret hr (native_job m w this vs d h1 h2) (λ n g o t u q. ended n o t u q)
invoke_r m v this vs d s hr h0 h1 h2 = search (faulted, kept)

pub primitive_result_r : (m : Sizes) (x0 : Completion) (x1 : State) → R m x1 → CompletionIs m x0 → Keeps m (primitive_result x0 x1)
primitive_result_r m o s hr h0 = search (value, either, faulted, ended, kept) depth 9 fits 4000

pub call_to_string_r : (m : Sizes) (x0 : Bool) (x1 : Value) (x2 : Value) (x3 : ℕ) (x4 : State) → R m x4 → ValueIs m x1 → ValueIs m x2 → Keeps m (call_to_string x0 x1 x2 x3 x4)
call_to_string_r m true f v d s hr h1 h2 = search (job, primitive_result_r, kept) depth 9 fits 4000
call_to_string_r m false f v d s hr h1 h2 = search (faulted, kept) depth 9 fits 4000

pub to_primitive_r : (m : Sizes) (x0 : Value) (x1 : ℕ) (x2 : State) → R m x2 → ValueIs m x0 → Keeps m (to_primitive x0 x1 x2)
to_primitive_r m v d s hr h0 = let g : ValueIs m (get s v (codes "toString")) = get_is m s v (codes "toString") hr h0 in
    either m _ _ _ (call_to_string_r m _ _ v d s hr g h0) (ended m (Is v) s hr (value_end m v h0))

pub array_parts_r : (m : Sizes) (x0 : Value) (x1 : ℕ) (x2 : List Expr) (x3 : Place) (x4 : State) → R m x4 → ValueIs m x0 → Told m (AllByRecursion ExprHasTexts x2) → Keeps m (array_parts x0 x1 x2 x3 x4)
array_parts_r m v i [] p s hr h0 hq = ended m (Is v) s hr (value_end m v h0)
array_parts_r m v i (e ∷ es) p s hr h0 hq = job m _ s _ hr (eval_job m e p (first m hq)) (λ n g o t u q. value n o t _ u q (λ x w. put_r n v (index_name i) x t (array_parts v (i + 1) es p) u (told n (decimal_is i)) w
    (λ y z. array_parts_r n v (i + 1) es p y z (value_later m n v g h0) (told_later m n _ g (second m hq)))))

pub object_parts_r : (m : Sizes) (x0 : Value) (x1 : List (List ℕ × Expr)) (x2 : Place) (x3 : State) → R m x3 → ValueIs m x0 → Told m (AllByRecursion PropertyHasTexts x1) → Keeps m (object_parts x0 x1 x2 x3)
object_parts_r m v [] p s hr h0 hq = ended m (Is v) s hr (value_end m v h0)
object_parts_r m v (q ∷ qs) p s hr h0 hq = job m _ s _ hr (eval_job m q.1 p (also m (λ r. r.0.1) hq)) (λ n g o t u k. value n o t _ u k (λ x w. put_r n v q.0 x t (object_parts v qs p) u (told_later m n _ g (also m (λ r. r.0.0) hq)) w
    (λ y z. object_parts_r n v qs p y z (value_later m n v g h0) (told_later m n _ g (second m hq)))))

pub subscript_read_r : (m : Sizes) (x0 : Expr) (x1 : Place) (x2 : Completion) (x3 : State) → R m x3 → CompletionIs m x2 → Told m (ExprHasTexts x0) → Keeps m (subscript_read x0 x1 x2 x3)
subscript_read_r m i p o s hr h2 hq = value m o s _ hr h2 (λ b h. job m _ s _ hr (eval_job m i p hq) (λ n g u t w q. value n u t _ w q (λ v z. read_r n b (to_text v) t w (value_later m n b g h))))

pub refer_r : (m : Sizes) (x0 : Value) (x1 : List ℕ) (x2 : State) → R m x2 → ValueIs m x0 → Told m (IsText x1) → Keeps m (refer x0 x1 x2)
refer_r m b x s hr h0 hx = wanted m E1 _ s _ hr (λ e. ended m _ s hr (reference_end m _ (property_reference m b x h0 hx)))

pub subscript_target_r : (m : Sizes) (x0 : Expr) (x1 : Place) (x2 : Completion) (x3 : State) → R m x3 → CompletionIs m x2 → Told m (ExprHasTexts x0) → Keeps m (subscript_target x0 x1 x2 x3)
subscript_target_r m i p o s hr h2 hq = value m o s _ hr h2 (λ b h. job m _ s _ hr (eval_job m i p hq) (λ n g u t w q. value n u t _ w q (λ v z. refer_r n b (to_text v) t w (value_later m n b g h) (text_told n v z))))

pub write_r : (m : Sizes) (x0 : Reference) (x1 : Place) (x2 : Value) (x3 : State) (x4 : (State → Plan)) → R m x3 → ReferenceIs m x0 → ValueIs m x2 → ((y0 : State) → R m y0 → Keeps m (x4 y0)) → Keeps m (write x0 x1 x2 x3 x4)
write_r m (Variable x) p v s k hr h0 h2 f0 = f0 (assign s p x v) (assign_kept m s p x v hr h2)
write_r m (Property b x) p v s k hr h0 h2 f0 = put_r m b x v s k hr h0.value.1 h2 f0
write_r m (Found w) p v s k hr h0 h2 f0 = f0 s hr

pub arguments_then_r : (m : Sizes) (x0 : Reference) (x1 : List Value) (x2 : List Expr) (x3 : Place) (x4 : State) → R m x4 → ReferenceIs m x0 → ValuesAre m x1 → Told m (AllByRecursion ExprHasTexts x2) → Keeps m (arguments_then x0 x1 x2 x3 x4)
arguments_then_r m r vs [] p s hr h0 h1 hq = invoke_r m (referred r p s) (base_of r) vs p.depth s hr (referred_is m s r p hr h0) (base_is m r h0) h1
arguments_then_r m r vs (e ∷ es) p s hr h0 h1 hq = job m _ s _ hr (eval_job m e p (first m hq)) (λ n g o t u q. value n o t _ u q (λ v w. arguments_then_r n r (vs ++ v ∷ []) es p t u (reference_later m n r g h0)
    (both_values n vs _ (values_later m n vs g h1) (more_values n v [] w (no_values n))) (told_later m n _ g (second m hq))))

pub callee_r : (m : Sizes) (x0 : List Expr) (x1 : Place) (x2 : Completion) (x3 : State) → R m x3 → CompletionIs m x2 → Told m (AllByRecursion ExprHasTexts x0) → Keeps m (callee x0 x1 x2 x3)
callee_r m es p o s hr h2 hq = reference m o s _ hr h2 (λ r h. arguments_then_r m r [] es p s hr h (no_values m) hq)

pub result_r : (m : Sizes) (x0 : OpOut) (x1 : State) → R m x1 → GivenIs m x0 → Keeps m (result x0 x1)
result_r m (Gives (Text t)) s hr h0 = made_text m t s (give (Text t)) hr (λ a u due e. ended m (Is (Text t)) (with_counts s a) u (value_end m _ h0.value))
result_r m (Gives v) s hr h0 = ended m (Is v) s hr (value_end m v h0.value)
result_r m Leaves s hr h0 = search (halted)
result_r m TooLong s hr h0 = search (halted)

pub converted_left_r : (m : Sizes) (x0 : BinOp) (x1 : Value) (x2 : ℕ) (x3 : Completion) (x4 : State) → R m x4 → ValueIs m x1 → CompletionIs m x3 → Keeps m (converted_left x0 x1 x2 x3 x4)
converted_left_r m op w d o s hr h1 h3 = value m o s _ hr h3 (λ v h. chain m _ _ (to_primitive_r m w d s hr h1) (λ n g u t y q. value n u t _ y q (λ z k. result_r n _ t y (binary_given n op v z (value_later m n v g h) k))))

pub operate_r : (m : Sizes) (x0 : BinOp) (x1 : Value) (x2 : Value) (x3 : ℕ) (x4 : State) → R m x4 → ValueIs m x1 → ValueIs m x2 → Keeps m (operate x0 x1 x2 x3 x4)
operate_r m op v w d s hr h1 h2 = either m _ _ _ (chain m _ _ (to_primitive_r m v d s hr h1) (λ n g o t u q. converted_left_r n op w d o t u (value_later m n w g h2) q)) (result_r m _ s hr (binary_given m op v w h1 h2))

pub binary_right_r : (m : Sizes) (x0 : BinOp) (x1 : Expr) (x2 : Place) (x3 : Completion) (x4 : State) → R m x4 → CompletionIs m x3 → Told m (ExprHasTexts x1) → Keeps m (binary_right x0 x1 x2 x3 x4)
binary_right_r m op b p o s hr h3 hq = search (value, job, operate_r, kept) depth 9 fits 4000

pub unary_on_r : (m : Sizes) (x0 : UnOp) (x1 : Value) (x2 : Place) (x3 : State) → R m x3 → ValueIs m x1 → Keeps m (unary_on x0 x1 x2 x3)
unary_on_r m un.TypeOf v p s hr h1 = ended m _ s hr (value_end m _ (text_is m _ (told m (type_is _ v))))
unary_on_r m un.Not v p s hr h1 = result_r m _ s hr (unary_given m un.Not v h1)
unary_on_r m op v p s hr h1 = chain m _ _ (to_primitive_r m v p.depth s hr h1) (λ n g o t u q. value n o t _ u q (λ w z. result_r n _ t u (unary_given n op w z)))

pub delete_at_r : (m : Sizes) (x0 : Reference) (x1 : State) → R m x1 → Keeps m (delete_at x0 x1)
delete_at_r m (Property b x) s hr = search (delete_r, ended, kept) depth 9 fits 4000
delete_at_r m (Variable x) s hr = search (ended, kept) depth 9 fits 4000
delete_at_r m (Found v) s hr = search (ended, kept) depth 9 fits 4000

pub delete_target_r : (m : Sizes) (x0 : Completion) (x1 : State) → R m x1 → CompletionIs m x0 → Keeps m (delete_target x0 x1)
delete_target_r m o s hr h0 = search (reference, delete_at_r, kept) depth 9 fits 4000

pub step_write_r : (m : Sizes) (x0 : OpOut) (x1 : StepOp) (x2 : Value) (x3 : Reference) (x4 : Place) (x5 : State) → R m x5 → GivenIs m x0 → ValueIs m x2 → ReferenceIs m x3 → Keeps m (step_write x0 x1 x2 x3 x4 x5)
step_write_r m (Gives w) op v r p s hr h0 h2 hf = write_r m r p w s _ hr hf h0.value (λ y z. ended m _ y z (value_end m _ (pick m (is_post op) v w h2 h0.value)))
step_write_r m Leaves op v r p s hr h0 h2 hf = search (halted)
step_write_r m TooLong op v r p s hr h0 h2 hf = search (halted)

pub step_number_r : (m : Sizes) (x0 : WholeRead) (x1 : StepOp) (x2 : Reference) (x3 : Place) (x4 : State) → R m x4 → ReferenceIs m x2 → Told m (OfRead x0) → Keeps m (step_number x0 x1 x2 x3 x4)
step_number_r m (read_as.Whole z) op r p s hr hf hn = step_write_r m (stepped op z) op (Num z) r p s hr (stepped_given m op z) (num_is m z hn) hf
step_number_r m read_as.NotNumber op r p s hr hf hn = step_write_r m (Gives NaN) op NaN r p s hr (given m NaN (nan_is m)) (nan_is m) hf
step_number_r m read_as.Left op r p s hr hf hn = search (halted)

pub step_converted_r : (m : Sizes) (x0 : StepOp) (x1 : Reference) (x2 : Place) (x3 : Completion) (x4 : State) → R m x4 → CompletionIs m x3 → ReferenceIs m x1 → Keeps m (step_converted x0 x1 x2 x3 x4)
step_converted_r m op r p o s hr h3 hf = value m o s _ hr h3 (λ v h. step_number_r m (to_number v) op r p s hr hf (read_told m v h))

pub step_target_r : (m : Sizes) (x0 : StepOp) (x1 : Place) (x2 : Completion) (x3 : State) → R m x3 → CompletionIs m x2 → Keeps m (step_target x0 x1 x2 x3)
step_target_r m op p o s hr h2 = reference m o s _ hr h2 (λ r h. chain m _ _ (to_primitive_r m (referred r p s) p.depth s hr (referred_is m s r p hr h)) (λ n g e t u q. step_converted_r n op r p e t u q (reference_later m n r g h)))

pub compound_r : (m : Sizes) (x0 : AssignOp) (x1 : Value) (x2 : Value) (x3 : ℕ) (x4 : State) → R m x4 → ValueIs m x1 → ValueIs m x2 → Keeps m (compound x0 x1 x2 x3 x4)
compound_r m assignment.Add v w d s hr h1 h2 = search (operate_r, kept) depth 9 fits 4000
compound_r m assignment.Sub v w d s hr h1 h2 = search (operate_r, kept) depth 9 fits 4000
compound_r m assignment.Mul v w d s hr h1 h2 = search (operate_r, kept) depth 9 fits 4000
compound_r m assignment.Div v w d s hr h1 h2 = search (operate_r, kept) depth 9 fits 4000
compound_r m assignment.Rem v w d s hr h1 h2 = search (operate_r, kept) depth 9 fits 4000
compound_r m op v w d s hr h1 h2 = search (ended, kept) depth 9 fits 4000

pub assign_with_r : (m : Sizes) (x0 : AssignOp) (x1 : Reference) (x2 : Value) (x3 : Place) (x4 : Completion) (x5 : State) → R m x5 → ReferenceIs m x1 → ValueIs m x2 → CompletionIs m x4 → Keeps m (assign_with x0 x1 x2 x3 x4 x5)
assign_with_r m op r v p o s hr h1 h2 h4 = value m o s _ hr h4 (λ w h. chain m _ _ (compound_r m op v w p.depth s hr h2 h) (λ n g u t y q. value n u t _ y q (λ z k. write_r n r p z t _ y (reference_later m n r g h1) k (λ i j. ended n _ i j (value_end n z k)))))

pub assign_target_r : (m : Sizes) (x0 : AssignOp) (x1 : Expr) (x2 : Place) (x3 : Completion) (x4 : State) → R m x4 → CompletionIs m x3 → Told m (ExprHasTexts x1) → Keeps m (assign_target x0 x1 x2 x3 x4)
assign_target_r m op e p o s hr h3 hq = reference m o s _ hr h3 (λ r h. job m _ s _ hr (eval_job m e p hq) (λ n g i t u q. assign_with_r n op r (referred r p s) p i t u (reference_later m n r g h) (value_later m n _ g (referred_is m s r p hr h)) q))

pub and_right_r : (m : Sizes) (x0 : Expr) (x1 : Place) (x2 : Completion) (x3 : State) → R m x3 → CompletionIs m x2 → Told m (ExprHasTexts x0) → Keeps m (and_right x0 x1 x2 x3)
and_right_r m b p o s hr h2 hq = search (value, either, job, ended, kept) depth 9 fits 4000

pub or_right_r : (m : Sizes) (x0 : Expr) (x1 : Place) (x2 : Completion) (x3 : State) → R m x3 → CompletionIs m x2 → Told m (ExprHasTexts x0) → Keeps m (or_right x0 x1 x2 x3)
or_right_r m b p o s hr h2 hq = search (value, either, ended, job, kept) depth 9 fits 4000

pub choose_r : (m : Sizes) (x0 : Expr) (x1 : Expr) (x2 : Place) (x3 : Completion) (x4 : State) → R m x4 → CompletionIs m x3 → Told m (ExprHasTexts x0) → Told m (ExprHasTexts x1) → Keeps m (choose x0 x1 x2 x3 x4)
choose_r m b c p o s hr h3 hb hc = search (value, either, job, ended, kept) depth 9 fits 4000

pub prefix_form_r : (m : Sizes) (x0 : UnOp) (x1 : Expr) (x2 : Place) (x3 : State) → R m x3 → Told m (ExprHasTexts x1) → Keeps m (prefix_form x0 x1 x2 x3)
prefix_form_r m un.Delete e p s hr hq = job m _ s _ hr (target_job m e p hq) (λ n g o t u q. delete_target_r n o t u q)
prefix_form_r m op e p s hr hq = job m _ s _ hr (eval_job m e p hq) (λ n g o t u q. value n o t _ u q (λ v w. unary_on_r n op v p t u w))

pub expression_r : (m : Sizes) (x0 : ExprForm) (x1 : Place) (x2 : State) → R m x2 → Told m (FormHasTexts x0) → Keeps m (expression x0 x1 x2)
expression_r m (tree.Num t) p s hr hq = ended m _ s hr (value_end m _ (literal_is m (number_in t) (number_in_is t)))
expression_r m (tree.Str t) p s hr hq = ended m _ s hr (value_end m _ (text_is m t hq))
expression_r m (tree.Name x) p s hr hq = ended m _ s hr (value_end m _ (variable_value m s p x hr))
expression_r m (tree.Constant w) p s hr hq = ended m _ s hr (value_end m _ (word_is m w))
expression_r m (tree.Array es) p s hr hq = made m (new_array 0 []) 0 s _ hr (array_is m 0 [] (no_pairs m) (told m tt)) tt (record { room = omega arith; len = omega arith; count = tt }) (λ n g v t u w. array_parts_r n v 0 (expr_list es) p t u w (told_later m n _ g (also m (exprs_are es) hq)))
expression_r m (tree.Object qs) p s hr hq = made m (plain_object []) 0 s _ hr (plain_is m [] (no_pairs m) (told m tt)) tt (record { room = omega arith; len = tt; count = tt }) (λ n g v t u w. object_parts_r n v (property_list qs) p t u w (told_later m n _ g (also m (properties_are qs) hq)))
expression_r m (tree.Function f) p s hr hq = made m (new_function f p.scope) 0 s _ hr (function_is m f p.scope hq) tt (record { room = omega arith; len = tt; count = tt }) (λ n g v t u w. ended n (Is v) t u (value_end n v w))
expression_r m (tree.Dot e x) p s hr hq = job m _ s _ hr (eval_job m e p (first m hq)) (λ n g o t u q. value n o t _ u q (λ v w. read_r n v x t u w))
expression_r m (tree.Sub e i) p s hr hq = job m _ s _ hr (eval_job m e p (first m hq)) (λ n g o t u q. subscript_read_r n i p o t u q (told_later m n _ g (second m hq)))
expression_r m (tree.Call e es) p s hr hq = job m _ s _ hr (target_job m e p (first m hq)) (λ n g o t u q. callee_r n (expr_list es) p o t u q (told_later m n _ g (also m (λ r. exprs_are es r.1) hq)))
expression_r m (tree.Step op e) p s hr hq = job m _ s _ hr (target_job m e p hq) (λ n g o t u q. step_target_r n op p o t u q)
expression_r m (tree.Unary op e) p s hr hq = prefix_form_r m op e p s hr hq
expression_r m (tree.Binary op a b) p s hr hq = job m _ s _ hr (eval_job m a p (first m hq)) (λ n g o t u q. binary_right_r n op b p o t u q (told_later m n _ g (second m hq)))
expression_r m (tree.And a b) p s hr hq = job m _ s _ hr (eval_job m a p (first m hq)) (λ n g o t u q. and_right_r n b p o t u q (told_later m n _ g (second m hq)))
expression_r m (tree.Or a b) p s hr hq = job m _ s _ hr (eval_job m a p (first m hq)) (λ n g o t u q. or_right_r n b p o t u q (told_later m n _ g (second m hq)))
expression_r m (tree.Cond a b c) p s hr hq = job m _ s _ hr (eval_job m a p (first m hq)) (λ n g o t u q. choose_r n b c p o t u q (told_later m n _ g (also m (λ r. r.1.0) hq)) (told_later m n _ g (also m (λ r. r.1.1) hq)))
expression_r m (tree.Assign op e v) p s hr hq = job m _ s _ hr (target_job m e p (first m hq)) (λ n g o t u q. assign_target_r n op v p o t u q (told_later m n _ g (second m hq)))
expression_r m (tree.New e es) p s hr hq = ended m _ s hr (value_end m _ (undefined_is m))
expression_r m (tree.Comma a b) p s hr hq = ended m _ s hr (value_end m _ (undefined_is m))

pub target_r : (m : Sizes) (x0 : ExprForm) (x1 : Place) (x2 : State) → R m x2 → Told m (FormHasTexts x0) → Keeps m (target x0 x1 x2)
target_r m (tree.Name x) p s hr hq = search (ended, kept) depth 9 fits 4000
target_r m (tree.Dot e x) p s hr hq = job m _ s _ hr (eval_job m e p (first m hq)) (λ n g o t u q. value n o t _ u q (λ v w. refer_r n v x t u w (told_later m n _ g (second m hq))))
target_r m (tree.Sub e i) p s hr hq = job m _ s _ hr (eval_job m e p (first m hq)) (λ n g o t u q. subscript_target_r n i p o t u q (told_later m n _ g (second m hq)))
target_r m form p s hr hq = chain m _ _ (expression_r m form p s hr hq) (λ n g o t u q. value n o t _ u q (λ v w. ended n _ t u (reference_end n _ (found_reference n v w))))

pub declaration_r : (m : Sizes) (x0 : OptionalExpr) (x1 : List ℕ) (x2 : Place) (x3 : State) (x4 : (State → Plan)) → R m x3 → Told m (OptionHasTexts x0) → ((n : Sizes) → Grows m n → (y0 : State) → R n y0 → Keeps n (x4 y0)) → Keeps m (declaration x0 x1 x2 x3 x4)
declaration_r m tree.NoExpr x p s k hr hq f0 = f0 m (same_size m) s hr
declaration_r m (tree.SomeExpr e) x p s k hr hq f0 = job m _ s _ hr (eval_job m e p hq) (λ n g o t u q. value n o t _ u q (λ v w. f0 n g (assign t p x v) (assign_kept n t p x v u w)))

pub declarations_r : (m : Sizes) (x0 : List (List ℕ × OptionalExpr)) (x1 : Place) (x2 : State) → R m x2 → Told m (AllByRecursion DeclHasTexts x0) → Keeps m (declarations x0 x1 x2)
declarations_r m [] p s hr hq = ended m Normal s hr (normal_end m)
declarations_r m (d ∷ ds) p s hr hq = declaration_r m d.1 d.0 p s (declarations ds p) hr (first m hq) (λ n g t u. declarations_r n ds p t u (told_later m n _ g (second m hq)))

pub expressions_r : (m : Sizes) (x0 : List Expr) (x1 : Place) (x2 : State) → R m x2 → Told m (AllByRecursion ExprHasTexts x0) → Keeps m (expressions x0 x1 x2)
expressions_r m [] p s hr hq = ended m Normal s hr (normal_end m)
expressions_r m (e ∷ es) p s hr hq = job m _ s _ hr (eval_job m e p (first m hq)) (λ n g o t u q. value n o t _ u q (λ v w. expressions_r n es p t u (told_later m n _ g (second m hq))))

pub branch_r : (m : Sizes) (x0 : Stmts) (x1 : Stmts) (x2 : Place) (x3 : Completion) (x4 : State) → R m x4 → CompletionIs m x3 → Told m (StmtsHaveTexts x0) → Told m (StmtsHaveTexts x1) → Keeps m (branch x0 x1 x2 x3 x4)
branch_r m a b p o s hr h3 ha hb = value m o s _ hr h3 (λ v h. either m _ _ _ (statements_r m (stmt_list a) p s hr (also m (stmts_are a) ha)) (statements_r m (stmt_list b) p s hr (also m (stmts_are b) hb)))

pub loop_test_r : (m : Sizes) (x0 : Loop) (x1 : Place) (x2 : Completion) (x3 : State) → R m x3 → LoopIs m x0 → CompletionIs m x2 → Keeps m (loop_test x0 x1 x2 x3)
loop_test_r m l p o s hr h0 h2 = search (value, either, job, ended, kept) depth 9 fits 4000

pub loop_end_r : (m : Sizes) (x0 : Completion) (x1 : State) (x2 : Plan) → R m x1 → CompletionIs m x0 → Keeps m x2 → Keeps m (loop_end x0 x1 x2)
loop_end_r m Normal s p hr h0 f0 = search (kept) depth 9 fits 4000
loop_end_r m Continue s p hr h0 f0 = search (kept) depth 9 fits 4000
loop_end_r m Break s p hr h0 f0 = search (ended, kept) depth 9 fits 4000
loop_end_r m (Is v) s p hr h0 f0 = search (ended, kept) depth 9 fits 4000
loop_end_r m (Refers r) s p hr h0 f0 = search (ended, kept) depth 9 fits 4000
loop_end_r m (Return v) s p hr h0 f0 = search (ended, kept) depth 9 fits 4000
loop_end_r m (Throw v) s p hr h0 f0 = search (ended, kept) depth 9 fits 4000

pub while_next_r : (m : Sizes) (x0 : Expr) (x1 : List Stmt) (x2 : Place) (x3 : Completion) (x4 : State) → R m x4 → CompletionIs m x3 → Told m (ExprHasTexts x0) → Told m (AllByRecursion StmtHasTexts x1) → Keeps m (while_next x0 x1 x2 x3 x4)
while_next_r m e b p o s hr h3 he hb = search (loop_end_r, job, loop_test_r, kept) depth 9 fits 4000

pub do_next_r : (m : Sizes) (x0 : List Stmt) (x1 : Expr) (x2 : Place) (x3 : Completion) (x4 : State) → R m x4 → CompletionIs m x3 → Told m (ExprHasTexts x1) → Told m (AllByRecursion StmtHasTexts x0) → Keeps m (do_next x0 x1 x2 x3 x4)
do_next_r m b e p o s hr h3 he hb = search (loop_end_r, job, loop_test_r, kept) depth 9 fits 4000

pub for_test_r : (m : Sizes) (x0 : OptionalExpr) (x1 : List Expr) (x2 : List Stmt) (x3 : Place) (x4 : State) → R m x4 → Told m (OptionHasTexts x0) → Told m (AllByRecursion ExprHasTexts x1) → Told m (AllByRecursion StmtHasTexts x2) → Keeps m (for_test x0 x1 x2 x3 x4)
for_test_r m tree.NoExpr next b p s hr ht hn hb = search (job, ended, kept) depth 9 fits 4000
for_test_r m (tree.SomeExpr e) next b p s hr ht hn hb = search (job, loop_test_r, kept) depth 9 fits 4000

pub for_again_r : (m : Sizes) (x0 : OptionalExpr) (x1 : List Expr) (x2 : List Stmt) (x3 : Place) (x4 : Completion) (x5 : State) → R m x5 → CompletionIs m x4 → Told m (OptionHasTexts x0) → Told m (AllByRecursion ExprHasTexts x1) → Told m (AllByRecursion StmtHasTexts x2) → Keeps m (for_again x0 x1 x2 x3 x4 x5)
for_again_r m test next b p o s hr h4 ht hn hb = search (normal, for_test_r, kept) depth 9 fits 4000

pub for_next_r : (m : Sizes) (x0 : OptionalExpr) (x1 : List Expr) (x2 : List Stmt) (x3 : Place) (x4 : Completion) (x5 : State) → R m x5 → CompletionIs m x4 → Told m (OptionHasTexts x0) → Told m (AllByRecursion ExprHasTexts x1) → Told m (AllByRecursion StmtHasTexts x2) → Keeps m (for_next x0 x1 x2 x3 x4 x5)
for_next_r m test next b p o s hr h4 ht hn hb = search (loop_end_r, chain, expressions_r, for_again_r, kept) depth 9 fits 4000

pub for_init_r : (m : Sizes) (x0 : ForInit) (x1 : Place) (x2 : State) → R m x2 → Told m (InitHasTexts x0) → Keeps m (for_init x0 x1 x2)
for_init_r m (tree.DeclsFirst ds) p s hr hq = declarations_r m (decl_list ds) p s hr (also m (decls_are ds) hq)
for_init_r m (tree.ExprsFirst es) p s hr hq = expressions_r m (expr_list es) p s hr (also m (exprs_are es) hq)

pub for_in_r : (m : Sizes) (x0 : Value) (x1 : List ℕ) (x2 : List (List ℕ)) (x3 : List Stmt) (x4 : Place) (x5 : State) → R m x5 → ValueIs m x0 → Told m (AreTexts x2) → Told m (AllByRecursion StmtHasTexts x3) → Keeps m (for_in x0 x1 x2 x3 x4 x5)
for_in_r m v x [] b p s hr h0 hy hb = ended m Normal s hr (normal_end m)
for_in_r m v x (y ∷ ys) b p s hr h0 hy hb = either m _ _ _ (job m _ s Ret hr (pass_job m _ p (for_in_loop m v x y ys b h0 (first m hy) (second m hy) hb)) (λ n g o t u q. ended n o t u q)) (for_in_r m v x ys b p s hr h0 (second m hy) hb)

pub for_in_next_r : (m : Sizes) (x0 : Value) (x1 : List ℕ) (x2 : List (List ℕ)) (x3 : List Stmt) (x4 : Place) (x5 : Completion) (x6 : State) → R m x6 → ValueIs m x0 → CompletionIs m x5 → Told m (AreTexts x2) → Told m (AllByRecursion StmtHasTexts x3) → Keeps m (for_in_next x0 x1 x2 x3 x4 x5 x6)
for_in_next_r m v x ys b p o s hr h0 h5 hy hb = loop_end_r m o s _ hr h5 (for_in_r m v x ys b p s hr h0 hy hb)

pub permitted_are : (ps : Pairs) → AreNames ps → AreTexts (permitted_names ps)
permitted_are ps h = each_filtered IsText is_permitted (map (λ p. p.0) ps) (each ps h)
  where
    each : (qs : Pairs) → AreNames qs → AreTexts (map (λ p. p.0) qs)
    each [] k = tt
    each (q ∷ qs) k = (k.0, each qs k.1)

names_told : (m : Sizes) (s : State) → R m s → (n : ℕ) (o : Option Value) (xs : List (List ℕ)) → Told m (AreTexts xs) → Told m (AreTexts (names_on_chain n s o xs))
names_told m s hr zero None xs h = h
names_told m s hr zero (Some v) xs h = h
names_told m s hr (suc n) None xs h = h
names_told m s hr (suc n) (Some Undefined) xs h = h
names_told m s hr (suc n) (Some Null) xs h = h
names_told m s hr (suc n) (Some (Truth b)) xs h = h
names_told m s hr (suc n) (Some NaN) xs h = h
names_told m s hr (suc n) (Some (Num z)) xs h = h
names_told m s hr (suc n) (Some (Text t)) xs h = h
names_told m s hr (suc n) (Some (Host e)) xs h = h
names_told m s hr (suc n) (Some (Own i)) xs h = names_told m s hr n (Some (cell_at s i).prototype) (listed xs (permitted_names (cell_at s i).pairs))
    (record { holds = λ e. each_both IsText xs _ (h.holds e) (each_filtered IsText _ _ (permitted_are (cell_at s i).pairs ((hr.there.objects i).names.holds e))) })

pub for_in_over_r : (m : Sizes) (x0 : List ℕ) (x1 : List Stmt) (x2 : Place) (x3 : Completion) (x4 : State) → R m x4 → CompletionIs m x3 → Told m (AllByRecursion StmtHasTexts x1) → Keeps m (for_in_over x0 x1 x2 x3 x4)
for_in_over_r m x b p o s hr h3 hb = value m o s _ hr h3 (λ v h. either m (is_nothing v) _ _ (faulted m E1 s hr) (charged m (length (names_of s v)) s _ hr (for_in_r m v x (names_of s v) b p s hr h (names_told m s hr (suc max_chain) (Some v) [] (told m tt)) hb)))

pub pass_r : (m : Sizes) (x0 : Loop) (x1 : Place) (x2 : State) → R m x2 → LoopIs m x0 → Keeps m (pass x0 x1 x2)
pass_r m (WhileLoop e b) p s hr h0 = chain m _ _ (statements_r m b p s hr h0.value.1) (λ n g o t u q. while_next_r n e b p o t u q (told_later m n _ g h0.value.0) (told_later m n _ g h0.value.1))
pass_r m (DoLoop b e) p s hr h0 = chain m _ _ (statements_r m b p s hr h0.value.1) (λ n g o t u q. do_next_r n b e p o t u q (told_later m n _ g h0.value.0) (told_later m n _ g h0.value.1))
pass_r m (ForLoop test next b) p s hr h0 = chain m _ _ (statements_r m b p s hr h0.value.1.1) (λ n g o t u q. for_next_r n test next b p o t u q (told_later m n _ g h0.value.0) (told_later m n _ g h0.value.1.0) (told_later m n _ g h0.value.1.1))
pass_r m (ForInLoop v x y ys b) p s hr h0 = chain m _ _ (statements_r m b p (assign s p x (Text y)) (assign_kept m s p x (Text y) hr (text_is m y h0.value.1.0)) h0.value.1.1.1)
    (λ n g o t u q. for_in_next_r n v x ys b p o t u (value_later m n v g h0.value.0) q (told_later m n _ g h0.value.1.1.0) (told_later m n _ g h0.value.1.1.1))

pub return_form_r : (m : Sizes) (x0 : OptionalExpr) (x1 : Place) (x2 : State) → R m x2 → Told m (OptionHasTexts x0) → Keeps m (return_form x0 x1 x2)
return_form_r m tree.NoExpr p s hr hq = search (ended, kept) depth 9 fits 4000
return_form_r m (tree.SomeExpr e) p s hr hq = search (job, value, ended, kept) depth 9 fits 4000

pub case_test_r : (m : Sizes) (x0 : OptionalExpr) (x1 : Place) (x2 : State) (x3 : (Value → State → Plan)) (x4 : Plan) → R m x2 → Told m (OptionHasTexts x0) → ((n : Sizes) → Grows m n → (y0 : Value) (y1 : State) → R n y1 → ValueIs n y0 → Keeps n (x3 y0 y1)) → Keeps m x4 → Keeps m (case_test x0 x1 x2 x3 x4)
case_test_r m tree.NoExpr p s k skip hr hq f0 f1 = search (kept) depth 9 fits 4000
case_test_r m (tree.SomeExpr e) p s k skip hr hq f0 f1 = search (job, value, kept) depth 9 fits 4000

pub choose_case_r : (m : Sizes) (x0 : Value) (x1 : List Case) (x2 : List Case) (x3 : Place) (x4 : State) → R m x4 → Told m (AllByRecursion CaseHasTexts x1) → Told m (AllByRecursion CaseHasTexts x2) → Keeps m (choose_case x0 x1 x2 x3 x4)
choose_case_r m v all [] p s hr ha hc = statements_r m (from_default all all) p s hr (also m (default_are all all) ha)
choose_case_r m v all (c ∷ cs) p s hr ha hc = case_test_r m c.0 p s _ _ hr (also m (λ q. q.0.0) hc)
    (λ n g x t u w. either n _ _ _ (statements_r n _ p t u (told_later m n _ g (also m (λ q. each_both StmtHasTexts c.1 (bodies cs) q.0.1 (bodies_are cs q.1)) hc)))
    (choose_case_r n v all cs p t u (told_later m n _ g ha) (told_later m n _ g (second m hc))))
    (choose_case_r m v all cs p s hr ha (second m hc))

pub switch_end_r : (m : Sizes) (x0 : Completion) (x1 : State) → R m x1 → CompletionIs m x0 → Keeps m (switch_end x0 x1)
switch_end_r m Break s hr h0 = search (ended, kept) depth 9 fits 4000
switch_end_r m o s hr h0 = search (ended, kept) depth 9 fits 4000

pub switch_on_r : (m : Sizes) (x0 : List Case) (x1 : Place) (x2 : Completion) (x3 : State) → R m x3 → CompletionIs m x2 → Told m (AllByRecursion CaseHasTexts x0) → Keeps m (switch_on x0 x1 x2 x3)
switch_on_r m cs p o s hr h2 hq = value m o s _ hr h2 (λ v h. chain m _ _ (choose_case_r m v cs cs p s hr hq hq) (λ n g u t w q. switch_end_r n u t w q))

pub in_catch_r : (m : Sizes) (x0 : List ℕ) (x1 : List Stmt) (x2 : Value) (x3 : Place) (x4 : State) → R m x4 → ValueIs m x2 → Told m (AllByRecursion StmtHasTexts x1) → Keeps m (in_catch x0 x1 x2 x3 x4)
in_catch_r m x b v p s hr h2 hb =
    let c : Scope = record { outer = p.scope; pairs = (x, v) ∷ [] } in
    paid m (scope_cost c) s (λ t. statements b (record { scope = Some (length t.own.scopes); depth = p.depth }) (with_new_scope t c)) hr
    (λ a u due. statements_r m b _ (with_new_scope (with_counts s a) c) (entered m s.own.heap s.own.scopes s.own.kept s.own.timers s.own.forest s.own.focus a.slots c u (more_pairs m x v [] h2 (no_pairs m))) hb)

pub caught_r : (m : Sizes) (x0 : Catch) (x1 : Place) (x2 : Completion) (x3 : State) → R m x3 → CompletionIs m x2 → Told m (CatchHasTexts x0) → Keeps m (caught x0 x1 x2 x3)
caught_r m tree.NoCatch p o s hr h2 hq = search (ended, kept) depth 9 fits 4000
caught_r m (tree.CatchAs x b) p o s hr h2 hq = thrown m o _ _ h2 (ended m o s hr h2) (λ v h. in_catch_r m x (stmt_list b) v p s hr h (also m (stmts_are b) hq))

pub last_end_r : (m : Sizes) (x0 : Completion) (x1 : Completion) (x2 : State) → R m x2 → CompletionIs m x0 → CompletionIs m x1 → Keeps m (last_end x0 x1 x2)
last_end_r m o how s hr h0 h1 = search (normal, ended, kept) depth 9 fits 4000

pub finally_r : (m : Sizes) (x0 : OptionalBlock) (x1 : Place) (x2 : Completion) (x3 : State) → R m x3 → CompletionIs m x2 → Told m (BlockHasTexts x0) → Keeps m (finally x0 x1 x2 x3)
finally_r m tree.NoBlock p o s hr h2 hq = search (ended, kept) depth 9 fits 4000
finally_r m (tree.SomeBlock b) p o s hr h2 hq = chain m _ _ (statements_r m (stmt_list b) p s hr (also m (stmts_are b) hq)) (λ n g u t w q. last_end_r n o u t w (completion_later m n o g h2) q)

pub statement_r : (m : Sizes) (x0 : StmtForm) (x1 : Place) (x2 : State) → R m x2 → Told m (StmtFormHasTexts x0) → Keeps m (statement x0 x1 x2)
statement_r m (tree.Var ds) p s hr hq = declarations_r m (decl_list ds) p s hr (also m (decls_are ds) hq)
statement_r m (tree.Only e) p s hr hq = job m _ s _ hr (eval_job m e p hq) (λ n g o t u q. value n o t _ u q (λ v w. ended n Normal t u (normal_end n)))
statement_r m (tree.If e a b) p s hr hq = job m _ s _ hr (eval_job m e p (first m hq)) (λ n g o t u q. branch_r n a b p o t u q (told_later m n _ g (also m (λ r. r.1.0) hq)) (told_later m n _ g (also m (λ r. r.1.1) hq)))
statement_r m (tree.While e b) p s hr hq = job m _ s _ hr (eval_job m e p (first m hq)) (λ n g o t u q. loop_test_r n _ p o t u (while_loop n e (stmt_list b) (told_later m n _ g (first m hq)) (told_later m n _ g (also m (λ r. stmts_are b r.1) hq))) q)
statement_r m (tree.DoWhile e b) p s hr hq = job m _ s _ hr (pass_job m _ p (do_loop m (stmt_list b) e (first m hq) (also m (λ r. stmts_are b r.1) hq))) (λ n g o t u q. ended n o t u q)
statement_r m (tree.For first_part test next b) p s hr hq = chain m _ _ (for_init_r m first_part p s hr (first m hq)) (λ n g o t u q. for_again_r n test (expr_list next) (stmt_list b) p o t u q (told_later m n _ g (also m (λ r. r.1.0) hq)) (told_later m n _ g (also m (λ r. exprs_are next r.1.1.0) hq)) (told_later m n _ g (also m (λ r. stmts_are b r.1.1.1) hq)))
statement_r m (tree.ForIn is_declared x e b) p s hr hq = job m _ s _ hr (eval_job m e p (first m hq)) (λ n g o t u q. for_in_over_r n x (stmt_list b) p o t u q (told_later m n _ g (also m (λ r. stmts_are b r.1) hq)))
statement_r m (tree.Continue x) p s hr hq = search (ended, kept) depth 9 fits 4000
statement_r m (tree.Break x) p s hr hq = search (ended, kept) depth 9 fits 4000
statement_r m (tree.Return e) p s hr hq = return_form_r m e p s hr hq
statement_r m (tree.Throw e) p s hr hq = job m _ s _ hr (eval_job m e p hq) (λ n g o t u q. value n o t _ u q (λ v w. ended n _ t u (throw_end n v w)))
statement_r m (tree.Switch e cs) p s hr hq = job m _ s _ hr (eval_job m e p (first m hq)) (λ n g o t u q. switch_on_r n (clause_list cs) p o t u q (told_later m n _ g (also m (λ r. clauses_are cs r.1) hq)))
statement_r m (tree.Try a c b) p s hr hq = chain m _ _ (chain m _ _ (statements_r m (stmt_list a) p s hr (also m (λ r. stmts_are a r.0) hq)) (λ n g o t u q. caught_r n c p o t u q (told_later m n _ g (also m (λ r. r.1.0) hq)))) (λ n g o t u q. finally_r n b p o t u q (told_later m n _ g (also m (λ r. r.1.1) hq)))
statement_r m (tree.With e b) p s hr hq = search (ended, kept) depth 9 fits 4000
statement_r m (tree.Label x i) p s hr hq = search (ended, kept) depth 9 fits 4000

pub hear_r : (m : Sizes) (x0 : List ℕ) (x1 : ℕ) (x2 : Value) (x3 : ℕ) (x4 : ℕ) (x5 : List ℕ) (x6 : State) → R m x6 → ValueIs m x2 → NodeIs m x1 → NodeIs m x4 → FunctionsAre m x5 → Told m (IsText x0) → Keeps m (hear x0 x1 x2 x3 x4 x5 x6)
hear_r m kind target value d node [] s hr h2 ht hn hf hk = ended m _ s hr (value_end m _ (undefined_is m))
hear_r m kind target value d node (f ∷ fs) s hr h2 ht hn hf hk = paid m event_cost s (λ t. Do (Hear (record { kind = kind; target = target; node = node; value = value; event = Own (length t.own.heap); first = f; others = fs; depth = d })) (with_dispatch (with_event t kind target node value)) Ret) hr (λ a u due.
    let t : State = with_counts s a in
    let n : Sizes = event_size m t in
    let g : Grows m n = event_grows m t u in
    lowered m n _ g (job n _ (with_dispatch (with_event t kind target node value)) Ret (event_born m t kind target node value u h2 ht hn hk (second_part s.own.counts.slots 9 a.slots due.more))
    (record {
      holds = record {
        target = node_later m n target g ht;
        node = node_later m n node g hn;
        value = value_later m n value g h2;
        event = event_is m t;
        first = (functions_later m n (f ∷ fs) g hf).each.0;
        kind = told_later m n _ g hk;
        others = record { each = (functions_later m n (f ∷ fs) g hf).each.1 };
      };
    }) (λ l e o y z q. ended l o y z q)))

pub hear_found_r : (m : Sizes) (x0 : Option (ℕ × List ℕ)) (x1 : List ℕ) (x2 : ℕ) (x3 : Value) (x4 : ℕ) (x5 : State) → R m x5 → ValueIs m x3 → HeardIs m x0 → NodeIs m x2 → Told m (IsText x1) → Keeps m (hear_found x0 x1 x2 x3 x4 x5)
hear_found_r m None kind target value d s hr h3 hh ht hk = ended m _ s hr (value_end m _ (undefined_is m))
hear_found_r m (Some (node, fs)) kind target value d s hr h3 hh ht hk = hear_r m kind target value d node fs s hr h3 ht hh.0 hh.1 hk

pub search_from_r : (m : Sizes) (x0 : Option ℕ) (x1 : List ℕ) (x2 : ℕ) (x3 : Value) (x4 : ℕ) (x5 : State) → R m x5 → ValueIs m x3 → OfNode m x0 → NodeIs m x2 → Told m (IsText x1) → Keeps m (search_from x0 x1 x2 x3 x4 x5)
search_from_r m o kind target value d s hr h3 ho ht hk = hear_found_r m (nearest s o kind) kind target value d s hr h3 (heard_is m s hr o kind ho) ht hk

pub dispatch_r : (m : Sizes) (x0 : List ℕ) (x1 : ℕ) (x2 : Value) (x3 : ℕ) (x4 : State) → R m x4 → ValueIs m x2 → NodeIs m x1 → Told m (IsText x0) → Keeps m (dispatch x0 x1 x2 x3 x4)
dispatch_r m kind target value d s hr h2 ht hk = search_from_r m (Some target) kind target value d s hr h2 ht ht hk

pub handlers_r : (m : Sizes) (x0 : List ℕ) (x1 : Hearing) (x2 : State) → R m x2 → HearingIs m x1 → FunctionsAre m x0 → Keeps m (handlers x0 x1 x2)
handlers_r m [] g s hr h1 hf = ended m _ s hr (value_end m _ (undefined_is m))
handlers_r m (f ∷ fs) g s hr h1 hf = job m _ s _ hr (call_job m (Own f) None (g.event ∷ []) g.depth (own_is m f hf.each.0) (no_value m) (more_values m g.event [] h1.event (no_values m)))
    (λ n e o t u q. value n o t _ u q (λ v w. handlers_r n fs g t u (hearing_later m n g e h1) (functions_later m n fs e (record { each = hf.each.1 }))))

pub bubble_on_r : (m : Sizes) (x0 : Bool) (x1 : Hearing) (x2 : State) → R m x2 → HearingIs m x1 → Keeps m (bubble_on x0 x1 x2)
bubble_on_r m false h s hr h1 = ended m _ s hr (value_end m _ (undefined_is m))
bubble_on_r m true h s hr h1 = search_from_r m (parent h.node s.own.forest) h.kind h.target h.value h.depth s hr h1.value (parent_is m s hr h.node) h1.target h1.kind

pub dispatch_end_r : (m : Sizes) (x0 : Hearing) (x1 : Completion) (x2 : State) → R m x2 → HearingIs m x0 → CompletionIs m x1 → Keeps m (dispatch_end x0 x1 x2)
dispatch_end_r m h (Is v) s hr h0 h1 = bubble_on_r m (is_bubbled s) h (without_dispatch s) hr h0
dispatch_end_r m h o s hr h0 h1 = ended m o (without_dispatch s) hr h1

pub bubble_r : (m : Sizes) (x0 : List Bool) (x1 : State) → R m x1 → Keeps m (bubble x0 x1)
bubble_r m [] s hr = search (faulted)
bubble_r m (b ∷ bs) s hr = ended m _ _ hr (value_end m _ (undefined_is m))

pub heard_r : (m : Sizes) (x0 : Hearing) (x1 : State) → R m x1 → HearingIs m x0 → Keeps m (heard x0 x1)
heard_r m h s hr h0 = chain m _ _
    (chain m _ _ (invoke_r m (Own h.first) None (h.event ∷ []) h.depth s hr (own_is m h.first h0.first) (no_value m) (more_values m h.event [] h0.event (no_values m)))
    (λ n g o t u q. value n o t _ u q (λ v w. handlers_r n h.others h t u (hearing_later m n h g h0) (functions_later m n h.others g h0.others))))
    (λ n g o t u q. dispatch_end_r n h o t u (hearing_later m n h g h0) q)
