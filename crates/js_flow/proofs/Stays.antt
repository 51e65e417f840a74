-- What frames have still to do stays the same as the store grows, and what they hold stays the widget's.
use Rattle.std.proofs.Common.{◌≡◌, ℕ, ◌+◌, List, [], ◌∷◌, ◌++◌, length, refl, ap, ◌∙◌}
use Rattle.std.specs.Prelude.{drop}
use Rattle.std.specs.Fmt.{decimal}
use Rattle.js_tree.specs.Lists.{stmt_list}
use Rattle.js_tree.specs.Forest.{Forest, expr_at, stmt_at}
use Rattle.store_cells.specs.declared.value.Value.{Value}
use Rattle.store_cells.specs.declared.value.Value.TheVariants as value
use Rattle.store_cells.specs.Cells.{PlainCell}
use Rattle.object_store.specs.Grows.{Grows}
use Rattle.widget_meaning.specs.Values as meaning
use Rattle.widget_meaning.specs.Values.{to_text}
use Rattle.widget_meaning.specs.OwnState.{State}
use Rattle.widget_meaning.specs.Plan as plan
use Rattle.widget_meaning.specs.Plan.{Plan, Ret, after, on_normal}
use Rattle.widget_meaning.specs.Costs.{give}
use Rattle.widget_meaning.specs.Operators.{binary}
use Rattle.widget_meaning.specs.Properties.{index_name, put, read}
use Rattle.widget_meaning.specs.Calls.{statements}
use Rattle.widget_meaning.specs.Expressions.{and_right, arguments_then, array_parts, assign_target, assign_with, binary_right, callee, choose, converted_left, operate, or_right, refer, result, step_converted, step_target, subscript_read, subscript_target, unary_on, write}
use Rattle.widget_meaning.specs.Statements.{branch, caught, expressions, finally, for_in_next, for_in_over, last_end, loop_test, switch_on}
use Rattle.widget_meaning.specs.ListNatives.{call_each}
use Rattle.widget_meaning.specs.BunchWrites.{each_called}
use Rattle.js_image.specs.Image.{all_seen, seen}
use Rattle.js_image.specs.Held.{AreFine, IsHeld}
use Rattle.js_image.proofs.Grown.{fine_stays, held_stays, place_stays, scope_stays, seen_stays}
use Rattle.js_flow.specs.declared.job.Place.{Place}
use Rattle.js_flow.specs.declared.job.Reference.{Reference}
use Rattle.js_flow.specs.declared.job.Reference.TheVariants as reference
use Rattle.js_flow.specs.declared.job.Completion.{Completion}
use Rattle.js_flow.specs.declared.job.Completion.TheVariants as completion
use Rattle.js_flow.specs.declared.frame.FormFrame.{FormFrame}
use Rattle.js_flow.specs.declared.frame.FormFrame.TheVariants as form
use Rattle.js_flow.specs.declared.frame.StatementFrame.{StatementFrame}
use Rattle.js_flow.specs.declared.frame.StatementFrame.TheVariants as statement
use Rattle.js_flow.specs.declared.frame.CallFrame.{CallFrame}
use Rattle.js_flow.specs.declared.frame.CallFrame.TheVariants as call
use Rattle.js_flow.specs.declared.frame.Frame.{Frame}
use Rattle.js_flow.specs.declared.frame.Frame.TheVariants as frame
use Rattle.js_flow.specs.Parts.{arguments_of, block_list, catch_of, clauses_of, decls_of, elements_of, else_of, finally_of, first_of, forest_at, last_of, loop_body, loop_of, properties_of, then_of, variable_of}
use Rattle.js_flow.specs.Views.{completion_of, place_of, reference_of}
use Rattle.js_flow.specs.Forms.{form_taken, property_done}
use Rattle.js_flow.specs.Statements.{clause_tested, declared, loop_again, loop_next, statement_taken}
use Rattle.js_flow.specs.Calls.{call_taken, gathered}
use Rattle.js_flow.specs.Frames.{over, rest, taken}
use Rattle.js_flow.specs.Fine.{FineCallFrame, FineCompletion, FineForm, FineFrame, FineFrames, FineReference, FineStatement, IsPlace}

module _ (w : ℕ) (old new : List PlainCell) (g : Grows w old new) where
  pub all_same : (vs : List Value) → AreFine w old vs → all_seen w new vs ≡ all_seen w old vs
  all_same [] h = refl
  all_same (v ∷ vs) h = λ i. seen_stays w old new g v h.0 i ∷ all_same vs h.1 i

  pub reference_same : (x : Reference) → FineReference w old x → reference_of w new x ≡ reference_of w old x
  reference_same (reference.Variable x) h = refl
  reference_same (reference.Property v x) h = ap (λ u. meaning.Property u x) (seen_stays w old new g v h)
  reference_same (reference.Element i n) h = ap (λ u. meaning.Property u (decimal n)) (seen_stays w old new g (value.Ref i) h.0)
  reference_same (reference.Found v) h = ap meaning.Found (seen_stays w old new g v h)

  pub completion_same : (o : Completion) → FineCompletion w old o → completion_of w new o ≡ completion_of w old o
  completion_same completion.Normal h = refl
  completion_same (completion.Is v) h = ap meaning.Is (seen_stays w old new g v h)
  completion_same (completion.Refers x) h = ap meaning.Refers (reference_same x h)
  completion_same (completion.Return v) h = ap meaning.Return (seen_stays w old new g v h)
  completion_same completion.Break h = refl
  completion_same completion.Continue h = refl
  completion_same (completion.Throw v) h = ap meaning.Throw (seen_stays w old new g v h)

  cell_same : (i : ℕ) → IsHeld w old i → seen w new (value.Ref i) ≡ seen w old (value.Ref i)
  cell_same i h = seen_stays w old new g (value.Ref i) h

  -- what is held stays the widget's
  pub all_fine : (vs : List Value) → AreFine w old vs → AreFine w new vs
  all_fine [] h = tt
  all_fine (v ∷ vs) h = (fine_stays w old new g v h.0, all_fine vs h.1)

  pub reference_fine : (x : Reference) → FineReference w old x → FineReference w new x
  reference_fine (reference.Variable x) h = tt
  reference_fine (reference.Property v x) h = fine_stays w old new g v h
  reference_fine (reference.Element i n) h = (fine_stays w old new g (value.Ref i) h.0, h.1)
  reference_fine (reference.Found v) h = fine_stays w old new g v h

  pub completion_fine : (o : Completion) → FineCompletion w old o → FineCompletion w new o
  completion_fine completion.Normal h = tt
  completion_fine (completion.Is v) h = fine_stays w old new g v h
  completion_fine (completion.Refers x) h = reference_fine x h
  completion_fine (completion.Return v) h = fine_stays w old new g v h
  completion_fine completion.Break h = tt
  completion_fine completion.Continue h = tt
  completion_fine (completion.Throw v) h = fine_stays w old new g v h

module _ (fs : List Forest) (w : ℕ) (old new : List PlainCell) (g : Grows w old new) where
  pub place_same : (p : Place) → IsPlace fs w old p → place_of w new p ≡ place_of w old p
  place_same p h = λ i. record { scope = scope_stays w old new g p.scope h.1 i; depth = p.depth }

  form_same : (f : FormFrame) → FineForm fs w old f → form_taken fs w new f ≡ form_taken fs w old f
  form_same (form.SubBase e p) h = λ i. subscript_read (expr_at (forest_at fs p.code) e) (place_same p h.0 i)
  form_same (form.Sub b) h = λ i. after (λ v t. read (seen_stays w old new g b h i) (to_text v) t)
  form_same (form.TargetSubBase e p) h = λ i. subscript_target (expr_at (forest_at fs p.code) e) (place_same p h.0 i)
  form_same (form.TargetSub b) h = λ i. after (λ v t. refer (seen_stays w old new g b h i) (to_text v) t)
  form_same (form.Element a e n p) h = λ i. after (λ v t. put (cell_same w old new g a h.0 i) (index_name n) v t
      (array_parts (cell_same w old new g a h.0 i) (n + 1) (drop (n + 1) (elements_of (expr_at (forest_at fs p.code) e))) (place_same p h.1.0 i)))
  form_same (form.Property a e n p) h = λ i. after (λ v t. property_done (cell_same w old new g a h.0 i)
      (drop n (properties_of (expr_at (forest_at fs p.code) e))) (place_same p h.1.0 i) v t)
  form_same (form.Right op e p) h = λ i. binary_right op (expr_at (forest_at fs p.code) e) (place_same p h.0 i)
  form_same (form.Operate op v d) h = λ i. after (λ u t. operate op (seen_stays w old new g v h i) u d t)
  form_same (form.ConvertedLeft op v d) h = λ i. converted_left op (seen_stays w old new g v h i) d
  form_same (form.ConvertedRight op v) h = λ i. after (λ u t. result (binary op (seen_stays w old new g v h i) u) t)
  form_same (form.Prefix op p) h = λ i. after (λ v t. unary_on op v (place_same p h i) t)
  form_same (form.StepTarget op p) h = λ i. step_target op (place_same p h i)
  form_same (form.StepConverted op r p) h = λ i. step_converted op (reference_same w old new g r.value h.0 i) (place_same p h.1 i)
  form_same (form.AssignTarget op e p) h = λ i. assign_target op (expr_at (forest_at fs p.code) e) (place_same p h.0 i)
  form_same (form.AssignWith a) h = λ i. assign_with a.value.op (reference_same w old new g a.value.of h.0 i) (seen_stays w old new g a.value.has h.1 i) (place_same a.value.place h.2 i)
  form_same (form.Write r p) h = λ i. after (λ v t. write (reference_same w old new g r h.0 i) (place_same p h.1 i) v t (give v))
  form_same (form.And e p) h = λ i. and_right (expr_at (forest_at fs p.code) e) (place_same p h.0 i)
  form_same (form.Or e p) h = λ i. or_right (expr_at (forest_at fs p.code) e) (place_same p h.0 i)
  form_same (form.Choose a b p) h = λ i. choose (expr_at (forest_at fs p.code) a) (expr_at (forest_at fs p.code) b) (place_same p h.0.0 i)
  form_same f h = refl

  statement_same : (f : StatementFrame) → FineStatement fs w old f → statement_taken fs w new f ≡ statement_taken fs w old f
  statement_same (statement.Seq b n p) h = λ i. λ o s. on_normal o s (statements (drop n (block_list (forest_at fs p.code) b)) (place_same p h.0 i) s)
  statement_same (statement.Declared k n p) h = λ i. after (λ v t. declared (drop n (decls_of (stmt_at (forest_at fs p.code) k))) (place_same p h.0 i) v t)
  statement_same (statement.First k n p) h = λ i. after (λ v t. expressions (drop n (first_of (stmt_at (forest_at fs p.code) k))) (place_same p h.0 i) t)
  statement_same (statement.Last k n p) h = λ i. after (λ v t. expressions (drop n (last_of (stmt_at (forest_at fs p.code) k))) (place_same p h.0 i) t)
  statement_same (statement.Branch k p) h = λ i. branch (then_of (stmt_at (forest_at fs p.code) k)) (else_of (stmt_at (forest_at fs p.code) k)) (place_same p h.0 i)
  statement_same (statement.Test k p) h = λ i. loop_test (loop_of (stmt_at (forest_at fs p.code) k)) (place_same p h.0 i)
  statement_same (statement.LoopNext k p) h = λ i. loop_next (loop_of (stmt_at (forest_at fs p.code) k)) (place_same p h.0 i)
  statement_same (statement.ForAgain k p) h = λ i. loop_again (loop_of (stmt_at (forest_at fs p.code) k)) (place_same p h.0 i)
  statement_same (statement.ForInOver k p) h = λ i. for_in_over (variable_of (stmt_at (forest_at fs p.code) k)) (stmt_list (loop_body (stmt_at (forest_at fs p.code) k))) (place_same p h.0 i)
  statement_same (statement.ForInNext l p) h = λ i. for_in_next (seen_stays w old new g l.value.object h.0 i) (variable_of (stmt_at (forest_at fs p.code) l.value.id)) (drop l.value.at l.value.names.items)
      (stmt_list (loop_body (stmt_at (forest_at fs p.code) l.value.id))) (place_same p h.1.0 i)
  statement_same (statement.Switch k p) h = λ i. switch_on (clauses_of (stmt_at (forest_at fs p.code) k)) (place_same p h.0 i)
  statement_same (statement.Case v k n p) h = λ i. clause_tested (seen_stays w old new g v h.0 i) (clauses_of (stmt_at (forest_at fs p.code) k)) (drop n (clauses_of (stmt_at (forest_at fs p.code) k))) (place_same p h.1.0 i)
  statement_same (statement.Caught k p) h = λ i. caught (catch_of (stmt_at (forest_at fs p.code) k)) (place_same p h.0 i)
  statement_same (statement.Finally k p) h = λ i. finally (finally_of (stmt_at (forest_at fs p.code) k)) (place_same p h.0 i)
  statement_same (statement.LastEnd o) h = λ i. last_end (completion_same w old new g o.value h i)
  statement_same f h = refl

  call_same : (f : CallFrame) → FineCallFrame fs w old f → call_taken fs w new f ≡ call_taken fs w old f
  call_same (call.Callee e p) h = λ i. callee (arguments_of (expr_at (forest_at fs p.code) e)) (place_same p h.0 i)
  call_same (call.Argument a) h = λ i. after (λ v t. arguments_then (reference_same w old new g a.value.of h.0 i) (all_same w old new g a.value.args.items h.1 i ++ v ∷ [])
      (drop a.value.next (arguments_of (expr_at (forest_at fs a.value.place.code) a.value.call))) (place_same a.value.place h.2.0 i) t)
  call_same (call.Each c) h = λ i. after (λ v t. each_called (cell_same w old new g c.value.func h.0 i) (drop c.value.next (all_same w old new g c.value.items.items h.1 i)) (seen_stays w old new g c.value.last h.2 i) c.value.depth t)
  call_same (call.Gather k) h = λ i. after (λ v t. call_each (cell_same w old new g k.value.func h.0 i)
      (drop (length (all_same w old new g k.value.results.items h.2 i ++ v ∷ [])) (all_same w old new g k.value.items.items h.1 i))
      (length (all_same w old new g k.value.results.items h.2 i ++ v ∷ [])) (all_same w old new g k.value.results.items h.2 i ++ v ∷ []) k.value.depth t
      (gathered k.value.keep (all_same w old new g k.value.items.items h.1 i)))
  call_same f h = refl

  pub frame_same : (f : Frame) → FineFrame fs w old f → taken fs w new f ≡ taken fs w old f
  frame_same (frame.Form f) h = form_same f h
  frame_same (frame.Statement f) h = statement_same f h
  frame_same (frame.Call f) h = call_same f h

  over_same : (below : List Frame) → FineFrames fs w old below → (k : meaning.Completion → State → Plan) → over fs w new below k ≡ over fs w old below k
  over_same [] h k = refl
  over_same (f ∷ below) h k = over_same below h.1 _ ∙ ap (λ t. over fs w old below (λ o s. plan.and_then (t o s) k)) (frame_same f h.0)

  pub rest_same : (below : List Frame) → FineFrames fs w old below → rest fs w new below ≡ rest fs w old below
  rest_same below h = over_same below h Ret

  -- and what is held stays fine
  pub place_fine : (p : Place) → IsPlace fs w old p → IsPlace fs w new p
  place_fine p h = (h.0, place_stays w old new g p.scope h.1)

  form_fine : (f : FormFrame) → FineForm fs w old f → FineForm fs w new f
  form_fine (form.Dot x) h = tt
  form_fine (form.TargetDot x) h = tt
  form_fine (form.SubBase e p) h = (place_fine p h.0, h.1)
  form_fine (form.Sub b) h = fine_stays w old new g b h
  form_fine (form.TargetSubBase e p) h = (place_fine p h.0, h.1)
  form_fine (form.TargetSub b) h = fine_stays w old new g b h
  form_fine form.Found h = tt
  form_fine (form.Element a e n p) h = (held_stays w old new g a h.0, (place_fine p h.1.0, h.1.1))
  form_fine (form.Property a e n p) h = (held_stays w old new g a h.0, (place_fine p h.1.0, h.1.1))
  form_fine (form.Right op e p) h = (place_fine p h.0, h.1)
  form_fine (form.Operate op v d) h = fine_stays w old new g v h
  form_fine (form.ConvertedLeft op v d) h = fine_stays w old new g v h
  form_fine (form.ConvertedRight op v) h = fine_stays w old new g v h
  form_fine (form.Prefix op p) h = place_fine p h
  form_fine (form.ConvertedPrefix op) h = tt
  form_fine form.Delete h = tt
  form_fine (form.StepTarget op p) h = place_fine p h
  form_fine (form.StepConverted op r p) h = (reference_fine w old new g r.value h.0, place_fine p h.1)
  form_fine (form.AssignTarget op e p) h = (place_fine p h.0, h.1)
  form_fine (form.AssignWith a) h = (reference_fine w old new g a.value.of h.0, fine_stays w old new g a.value.has h.1, place_fine a.value.place h.2)
  form_fine (form.Write r p) h = (reference_fine w old new g r h.0, place_fine p h.1)
  form_fine (form.And e p) h = (place_fine p h.0, h.1)
  form_fine (form.Or e p) h = (place_fine p h.0, h.1)
  form_fine (form.Choose a b p) h = ((place_fine p h.0.0, h.0.1), (place_fine p h.1.0, h.1.1))

  statement_fine : (f : StatementFrame) → FineStatement fs w old f → FineStatement fs w new f
  statement_fine (statement.Seq b n p) h = (place_fine p h.0, h.1)
  statement_fine statement.Only h = tt
  statement_fine (statement.Declared k n p) h = (place_fine p h.0, h.1)
  statement_fine (statement.First k n p) h = (place_fine p h.0, h.1)
  statement_fine (statement.Last k n p) h = (place_fine p h.0, h.1)
  statement_fine (statement.Branch k p) h = (place_fine p h.0, h.1)
  statement_fine (statement.Test k p) h = (place_fine p h.0, h.1)
  statement_fine (statement.LoopNext k p) h = (place_fine p h.0, h.1)
  statement_fine (statement.ForAgain k p) h = (place_fine p h.0, h.1)
  statement_fine (statement.ForInOver k p) h = (place_fine p h.0, h.1)
  statement_fine (statement.ForInNext l p) h = (fine_stays w old new g l.value.object h.0, (place_fine p h.1.0, h.1.1))
  statement_fine statement.ToReturn h = tt
  statement_fine statement.ToThrow h = tt
  statement_fine (statement.Switch k p) h = (place_fine p h.0, h.1)
  statement_fine (statement.Case v k n p) h = (fine_stays w old new g v h.0, (place_fine p h.1.0, h.1.1))
  statement_fine statement.SwitchEnd h = tt
  statement_fine (statement.Caught k p) h = (place_fine p h.0, h.1)
  statement_fine (statement.Finally k p) h = (place_fine p h.0, h.1)
  statement_fine (statement.LastEnd o) h = completion_fine w old new g o.value h

  call_fine : (f : CallFrame) → FineCallFrame fs w old f → FineCallFrame fs w new f
  call_fine (call.Callee e p) h = (place_fine p h.0, h.1)
  call_fine (call.Argument a) h = (reference_fine w old new g a.value.of h.0, all_fine w old new g a.value.args.items h.1, (place_fine a.value.place h.2.0, h.2.1))
  call_fine call.CallEnd h = tt
  call_fine (call.ToPrimitive d) h = tt
  call_fine call.Primitive h = tt
  call_fine call.TextOf h = tt
  call_fine (call.MakeText x) h = tt
  call_fine (call.Each c) h = (held_stays w old new g c.value.func h.0, all_fine w old new g c.value.items.items h.1, fine_stays w old new g c.value.last h.2)
  call_fine (call.Gather k) h = (held_stays w old new g k.value.func h.0, all_fine w old new g k.value.items.items h.1, all_fine w old new g k.value.results.items h.2)

  pub frame_fine : (f : Frame) → FineFrame fs w old f → FineFrame fs w new f
  frame_fine (frame.Form f) h = form_fine f h
  frame_fine (frame.Statement f) h = statement_fine f h
  frame_fine (frame.Call f) h = call_fine f h

  pub frames_fine : (below : List Frame) → FineFrames fs w old below → FineFrames fs w new below
  frames_fine [] h = tt
  frames_fine (f ∷ below) h = (frame_fine f h.0, frames_fine below h.1)

-- frames that are pushed and popped
module _ (fs : List Forest) (w : ℕ) (cells : List PlainCell) where
  pub fine_push : (below : List Frame) (f : Frame) → FineFrames fs w cells below → FineFrame fs w cells f → FineFrames fs w cells (below ++ f ∷ [])
  fine_push [] f h k = (k, tt)
  fine_push (x ∷ below) f h k = (h.0, fine_push below f h.1 k)

  pub fine_pop : (below : List Frame) (f : Frame) → FineFrames fs w cells (below ++ f ∷ []) → FineFrames fs w cells below × FineFrame fs w cells f
  fine_pop [] f h = (tt, h.0)
  fine_pop (x ∷ below) f h = let r = fine_pop below f h.1 in ((h.0, r.0), r.1)
