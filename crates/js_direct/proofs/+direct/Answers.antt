use Rattle.store_cells.specs.declared.value.Value.TheVariants as value
use Rattle.store_cells.specs.declared.value.Number.TheVariants as number
use mir.Val.{of_z, to_z}
use mir.Syntax.{w64}
use Rattle.js_flow.specs.declared.job.Job.TheVariants as job
use Rattle.js_flow.specs.declared.frame.Frame.TheVariants as frame
use Rattle.js_flow.specs.declared.frame.FormFrame.TheVariants as form
use Rattle.js_tree.specs.declared.nodes.AssignOp.TheVariants as assignment
use Rattle.js_flow.specs.declared.job.Reference.TheVariants as reference
use Rattle.widget_meaning.specs.Values as meaning
use Rattle.js_flow.specs.declared.frame.StatementFrame.TheVariants as statement
use Rattle.js_direct.specs.declared.run.Ended.TheVariants as ended
use Rattle.js_flow.specs.declared.frame.CallFrame.TheVariants as call
use Rattle.js_flow.specs.declared.job.Block.TheVariants as block
use Rattle.js_tree.specs.Plain as node
use Rattle.widget_meaning.specs.Statements as statements_2
use Rattle.js_direct.specs.declared.statements.Part.TheVariants as part
use Rattle.permitted_table.specs.declared.native.HostEntry.TheVariants as entry
use Rattle.widget_meaning.specs.Plan as plan
use Rattle.js_tree.specs.declared.nodes.Expr.TheVariants as expr
use Rattle.widget_meaning.specs.Operators as operators
use Rattle.widget_meaning.specs.Scopes as scopes
use Rattle.js_direct.proofs.+direct.Goals as goal
use Rattle.std.proofs.Common.{Bool, List, None, [], ap, arith, drop, if◌then◌else◌, length, refl, rules, subst, suc, sym, true, ℕ, ℤ, ◌++◌, ◌+◌, ◌-◌, ◌<◌, ◌∙◌, ◌∷◌, ◌≡◌}
use Rattle.std.proofs.lemmas.Result.{IfOk-weaker}
use Rattle.js_tree.specs.Forest.{Forest, IsStmt, expr_at, fun_at, plain_expr, plain_form, plain_stmt, plain_stmt_form, stmt_at}
use Rattle.js_tree.specs.declared.nodes.Stmt.{Stmt as StmtNode}
use Rattle.widget_meaning.specs.Costs.{make, pay, scope_cost, throw}
use Rattle.widget_meaning.specs.Expressions.{arguments_then, array_parts, assign_with, base_of, callee, expression, object_parts, refer, target}
use Rattle.widget_meaning.specs.OwnState.{Function, Scope, State, new_array, new_object, plain_object, with_new_scope}
use Rattle.widget_meaning.specs.Plan.{Do, Eval, ForInLoop, Halt, Pass, Plan, Ret, after, and_then, charge}
use Rattle.widget_meaning.specs.Values.{E1, Value}
use Rattle.js_image.specs.Image.{Rest, all_seen, function_in, image, no_rest, seen}
use Rattle.js_image.specs.Plans.{IsScopeMade, made_plan, meant_cause, scope_of, scope_plan}
use Rattle.js_direct.proofs.Adding.{operated_comes, sum_comes}
use Rattle.js_direct.proofs.Reducing.{paid, starts}
use Rattle.js_image.proofs.Units.{kept_then}
use Rattle.js_names.specs.Code.{trees_of}
use Rattle.js_flow.specs.Parts.{HasStmt, IsBlock, arguments_of, block_list, catch_body, catch_of, clauses_of, decls_of, elements_of, else_of, finally_body, finally_of, forest_at, loop_body, loop_of, properties_of, then_of, variable_of}
use Rattle.js_flow.specs.Views.{completion_of, for_in_loop, job_of, name_at, place_of, reference_of}
use Rattle.js_flow.proofs.Stays.{completion_fine, completion_same, place_fine, place_same, reference_fine, reference_same}
use Rattle.js_direct.proofs.Lists.{before_then, goes_both, goes_then, left_no_value, part_goes}
use Rattle.js_direct.proofs.Parts.{before_it, gives, more, part_passes, part_then, part_waits, unit_first}
use Rattle.js_image.proofs.Grown.{fine_stays, held_stays, kept_same, seen_stays}
use Rattle.js_image.specs.Held.{AreFine, ArePairs, IsFine, IsHeld}
use Rattle.js_flow.specs.Fine.{FineAssigning, FineCompletion, FineFrame, FineNames, IsExprAt, IsStmtAt}
use Rattle.js_flow.specs.Frames.{taken}
use Rattle.js_direct.specs.declared.run.Ended.{Ended}
use Rattle.js_direct.specs.Comes.{Comes, ComesTo, IsReady, ended_as, target_as}
use Rattle.js_direct.proofs.FormFrames.{after_store, both_ok, ends_target, expr_stays, frame_waits, gives_at, instead, not_value, other_end, reaches_at, target_ends, target_fine, target_then, value_fine, value_passes, value_ready, value_then}
use Rattle.js_tree.specs.declared.nodes.AssignOp.{AssignOp}
use Rattle.js_flow.specs.Forms.{form_taken, property_done}
use Rattle.js_tree.specs.Trees.{trees}
use Rattle.js_tree.specs.declared.nodes.Expr.{Expr}
use Rattle.js_direct.proofs.Reaching.{at_eval, at_target, found_form, goes_on, goes_past, less_one, no_value, node_same, parts_at}
use Rattle.js_direct.proofs.Handing.{hand_form, hand_ok, hand_target, hands, passes_normal, passes_value, placed_ok}
use Rattle.store_cells.specs.Cells.{Cells, PlainCell}
use Rattle.js_flow.specs.declared.frame.Assigning.{Assigning}
use Rattle.js_flow.specs.Statements.{block_at, clause_tested, declared, loop_again, loop_next}
use Rattle.widget_meaning.specs.Calls.{call_end, enter, invoke, statements}
use Rattle.js_direct.proofs.Sequels.{as_is, end_fine, end_ready, is_end, loop_passes, normal_passes, other_normal, other_value, part_done, part_gives, part_next, passes_paid, passes_then, planned, round, stays, tested, towards_each, towards_paid, towards_then, unit_paid, waits_ok, waits_then, weigh}
use Rattle.js_flow.proofs.Listing.{listed}
use Rattle.std.specs.Prelude.{IfOk, Option, Some, map}
use Rattle.js_tree.specs.declared.nodes.StmtId.{StmtId}
use Rattle.js_direct.proofs.Arguing.{all_there, argued_hands, argued_then, argued_waits_none, callee_hands, callee_there, counted, fewer, more_at, none_there, one_there, other_there, part_ends, refused}
use Rattle.std.specs.Option.{option_map}
use Rattle.store_cells.specs.declared.value.Value.{Value as Value2}
use Rattle.object_store.specs.Owned.{scope_number}
use Rattle.js_calls.proofs.Invoked.{fine_within, function_called, native_called, nothing_called}
use Rattle.js_calls.specs.Called.{FineEntry, entry_plan}
use Rattle.widget_meaning.specs.Meaning.{body}
use Rattle.widget_meaning.proofs.Runs.{and_then_ret}
use Rattle.js_direct.specs.Towards.{Passes, Towards, frame_after, frame_in, part_of}
use Rattle.js_direct.specs.declared.run.Run.{Run}
use Rattle.js_direct.specs.Towards.{IsDecls, IsExprs}
use Rattle.js_direct.proofs.Loops.{IsForWith, after_fine, after_free, after_taken, again_normal, for_declared, for_listed, loop_broken, loop_other, part_fine, part_free, part_taken, pass_is}
use Rattle.js_image.proofs.Hosts.{entry_link}
use Rattle.widget_meaning.specs.Statements.{bodies, branch, caught, choose_case, finally, for_in, for_in_next, for_in_over, from_default, in_catch, last_end, switch_end}
use Rattle.js_direct.proofs.Rarer.{caught_passes, charge_paid, charge_waits, clause_passes, end_waits, names_next, one_name, then_gives}
use Rattle.js_tree.specs.Plain.{CatchAs, Expr as Tree, NoBlock, NoCatch, SomeBlock, Stmt, expr_names, expr_place, stmt_names, stmt_place}
use Rattle.js_image.specs.declared.outcome.Made.{Made}
use Rattle.std.specs.List.{IsDistinct}
use Rattle.std.specs.Str.{bytes_eq}
use Rattle.js_direct.specs.Hands.{WaitsToEnd}
use Rattle.js_flow.specs.declared.job.Completion.{Completion}
use Rattle.js_tree.specs.Lists.{stmt_list}
use Rattle.widget_meaning.specs.Properties.{names_of}
use Rattle.js_flow.specs.declared.frame.ForInNames.{ForInNames}
use Rattle.std.specs.Prelude.{slice_get}
use Rattle.std.proofs.lemmas.List.{length_push}
use Rattle.widget_meaning.specs.Natives.{run_native}
use Rattle.js_values.specs.Answers.{AreFineCalls, IsCarried, IsFineOut, called}
use Rattle.js_values.specs.declared.outcome.NativeOut.{NativeOut}
use Rattle.js_calls.proofs.Pairs.{fine_at}
use Rattle.js_calls.proofs.Repeated.{gather_start, within}
use Rattle.js_calls.specs.Called.{gather_left, given}
use Rattle.js_flow.specs.declared.frame.Gathering.{Gathering}
use Rattle.js_flow.specs.Fine.{FineGathering}
use Rattle.store_natives.specs.Done.{Done}
use Rattle.js_direct.specs.Gathered.{IsMore}
use Rattle.js_direct.proofs.FormFrames.{gives_value}
use Rattle.js_direct.proofs.Gathers.{item_called, item_passes, more_fine, more_goes, next_item}
use Rattle.js_direct.proofs.InPlace.{at_same, native_runs}

pub arrays::array_on-returns-in-Cell-clause-comes : goal.arrays::array_on-returns-in-Cell-clause-comes
arrays::array_on-returns-in-Cell-clause-comes t c =
    let fs = trees_of c.args.here.now.site.now.codes.now.items in
    let w = c.args.here.now.site.now.widget in
    let old = c.args.store.now in
    let mid = c.make.new.store in
    let place = c.args.here.now.at in
    let list = elements_of (expr_at (forest_at fs place.code) c.args.id) in
    let k : Value → State → Plan = λ a t. array_parts a 0 list (place_of w old.cells place) t in
    let todo : State → Plan = λ s. make (new_array 0 []) 0 s k in
    let stays = place_same fs w old.cells mid.cells (c.make.ensures.kept fs tt).grows place c.requires.held.0 in
    IfOk-weaker c.elements_on.result _ _
    (λ h x. before_then fs w old mid c.elements_on.new.store 1 30 todo (array_parts (seen w mid.cells (value.Ref c.in-Cell.array)) 0 list (place_of w mid.cells place)) c.args.run.now c.elements_on.new.run h _
    (λ r. c.in_ok-array.ensures.plan fs r k ∙ ap (λ m. made_plan w mid.cells m k (image fs r w mid)) c.in-Cell.is
    ∙ (λ i. array_parts (seen w mid.cells (value.Ref c.in-Cell.array)) 0 list (sym stays i) (image fs r w mid)))
    x (omega arith))
    c.elements_on.ensures.comes

pub arrays::array_on-returns-in-Stop-clause-comes : goal.arrays::array_on-returns-in-Stop-clause-comes
arrays::array_on-returns-in-Stop-clause-comes t c =
    let fs = trees_of c.args.here.now.site.now.codes.now.items in
    let w = c.args.here.now.site.now.widget in
    let old = c.args.store.now in
    let new = c.make.new.store in
    let place = c.args.here.now.at in
    let list = elements_of (expr_at (forest_at fs place.code) c.args.id) in
    let k : Value → State → Plan = λ a t. array_parts a 0 list (place_of w old.cells place) t in
    IfOk-weaker c.stop.result _ _
    (λ h x. before_it fs w old new 0 30 (λ s. make (new_array 0 []) 0 s k) (λ t. Halt (meant_cause c.in-Stop.cause) t) c.args.run.now c.stop.new.run h _
    (λ r. c.in_ok-array.ensures.plan fs r k ∙ ap (λ m. made_plan w new.cells m k (image fs r w new)) c.in-Stop.is)
    (x fs w new c.args.out.now) (omega arith))
    c.stop.ensures.comes

pub arrays::array_on-returns-in-Cell-clause-kept : goal.arrays::array_on-returns-in-Cell-clause-kept
arrays::array_on-returns-in-Cell-clause-kept t c =
    let fs = trees_of c.args.here.now.site.now.codes.now.items in
    kept_then fs c.args.here.now.site.now.widget c.args.store.now c.make.new.store c.elements_on.new.store (c.make.ensures.kept fs tt) c.elements_on.ensures.kept

pub arrays::elements_on-returns-in_err-how-clause-kept : goal.arrays::elements_on-returns-in_err-how-clause-kept
arrays::elements_on-returns-in_err-how-clause-kept t c =
    kept_then (trees_of c.args.here.now.site.now.codes.now.items) c.args.here.now.site.now.widget c.args.store.now c.elements.store c.element_on.new.store c.elements.invariant.kept c.element_on.ensures.kept

pub arrays::elements_on-elements-preserved : goal.arrays::elements_on-elements-preserved
arrays::elements_on-elements-preserved t c =
    let fs = trees_of c.args.here.now.site.now.codes.now.items in
    let w = c.args.here.now.site.now.widget in
    let old = c.args.store.now in
    let mid = c.elements.store in
    let new = c.element_on.new.store in
    let was = c.elements.invariant in
    let step = c.in_ok-how.ensures in
    let next = step.goes c.in-Is.is in
    record {
      goes = goes_both fs w old mid new _ _ _ c.args.run.now c.elements.run c.element_on.new.run was.goes next;
      ready = (was.ready.0, step.kept.confined was.ready.1, next.none);
      held = (
        held_stays w mid.cells new.cells step.kept.grows c.args.array was.held.0,
        (place_fine fs w mid.cells new.cells step.kept.grows c.args.here.now.at was.held.1.0, was.held.1.1),
      );
      kept = kept_then fs w old mid new was.kept step.kept;
    }

pub arrays::elements_on-returns-in_default-2 : goal.arrays::elements_on-returns-in_default-2
arrays::elements_on-returns-in_default-2 t c =
    let fs = trees_of c.args.here.now.site.now.codes.now.items in
    let w = c.args.here.now.site.now.widget in
    let old = c.args.store.now in
    let mid = c.elements.store in
    let new = c.element_on.new.store in
    let was = c.elements.invariant in
    let step = c.in_ok-how.ensures in
    record {
      comes = goes_then fs w old mid new 1 _ _ c.args.run.now c.elements.run c.element_on.new.run c.in_ok-how.how _ was.goes (step.comes c.in_default-2.not-Is);
      kept = kept_then fs w old mid new was.kept step.kept;
    }

pub arrays::element_on-put_element-requires-clause-ready : goal.arrays::element_on-put_element-requires-clause-ready
arrays::element_on-put_element-requires-clause-ready t c =
    let fs = trees_of c.args.here.now.site.now.codes.now.items in
    let w = c.args.here.now.site.now.widget in
    let old = c.args.store.now in
    let mid = c.operand_on.new.store in
    let place = c.args.here.now.at in
    let p : State → Plan = λ s. Do (job_of fs w old.cells (job.Eval c.args.at.3 place)) s Ret in
    let had = c.args.run.now in
    let has = c.operand_on.new.run in
    let how = c.in_ok-how.how in
    let out = c.operand_on.new.out in
    let part = c.in_ok-how.ensures.comes in
    let kept = c.in_ok-how.ensures.kept in
    value_ready fs w old mid 0 p had has how (ended_as how out) part c.in-Is.is kept c.requires.ready

pub arrays::element_on-put_element-requires-clause-held : goal.arrays::element_on-put_element-requires-clause-held
arrays::element_on-put_element-requires-clause-held t c =
    let fs = trees_of c.args.here.now.site.now.codes.now.items in
    let w = c.args.here.now.site.now.widget in
    let old = c.args.store.now in
    let mid = c.operand_on.new.store in
    let place = c.args.here.now.at in
    let p : State → Plan = λ s. Do (job_of fs w old.cells (job.Eval c.args.at.3 place)) s Ret in
    let had = c.args.run.now in
    let has = c.operand_on.new.run in
    let how = c.in_ok-how.how in
    let out = c.operand_on.new.out in
    let part = c.in_ok-how.ensures.comes in
    let kept = c.in_ok-how.ensures.kept in
    (held_stays w old.cells mid.cells kept.grows c.args.at.0 c.requires.held.0, value_fine fs w old mid 0 p had has how out part c.in-Is.is)

pub arrays::element_on-returns-in-Is-clause-goes : goal.arrays::element_on-returns-in-Is-clause-goes
arrays::element_on-returns-in-Is-clause-goes t c =
    let fs = trees_of c.args.here.now.site.now.codes.now.items in
    let w = c.args.here.now.site.now.widget in
    let old = c.args.store.now in
    let mid = c.operand_on.new.store in
    let place = c.args.here.now.at in
    let p : State → Plan = λ s. Do (job_of fs w old.cells (job.Eval c.args.at.3 place)) s Ret in
    let had = c.args.run.now in
    let has = c.operand_on.new.run in
    let how = c.in_ok-how.how in
    let out = c.operand_on.new.out in
    let part = c.in_ok-how.ensures.comes in
    let kept = c.in_ok-how.ensures.kept in
    let n = c.args.at.2 in
    let all = elements_of (expr_at (forest_at fs place.code) c.args.at.1) in
    let rest = drop (n + 1) all in
    let f = form.Element c.args.at.0 c.args.at.1 n place in
    let fine : IsHeld w old.cells c.args.at.0 × IsExprAt fs w old.cells c.args.at.1 place = (c.requires.held.0, c.requires.held.1) in
    let todo : State → Plan = array_parts (seen w old.cells (value.Ref c.args.at.0)) n (drop n all) (place_of w old.cells place) in
    let first : (s : State) → todo s ≡ and_then (p s) (taken fs w old.cells (frame.Form f)) = λ s. ap (λ l. array_parts (seen w old.cells (value.Ref c.args.at.0)) n l (place_of w old.cells place) s) c.requires.there in
    let new = c.put_element.new.store in
    let grows = c.put_element.ensures.kept.grows in
    let same = seen_stays w mid.cells new.cells grows (value.Ref c.args.at.0) (held_stays w old.cells mid.cells kept.grows c.args.at.0 c.requires.held.0) in
    let stays = place_same fs w mid.cells new.cells grows place (place_fine fs w old.cells mid.cells kept.grows place c.requires.held.1.0) in
    let k : State → Plan = array_parts (seen w mid.cells (value.Ref c.args.at.0)) (n + 1) rest (place_of w mid.cells place) in
    let next : State → Plan = array_parts (seen w new.cells (value.Ref c.args.at.0)) (n + 1) rest (place_of w new.cells place) in
    IfOk-weaker c.put_element.result _ _
    (λ h x t. part_goes fs w old mid new p next todo (frame.Form f) had has c.put_element.new.run how out part c.in-Is.is kept.grows fine (x t).0
    (λ r. first (image fs r w old))
    (λ r. (x t).1 r k ∙ (λ i. array_parts (sym same i) (n + 1) rest (sym stays i) (image fs r w new))))
    c.put_element.ensures.done

pub arrays::element_on-returns-in-Is-clause-comes : goal.arrays::element_on-returns-in-Is-clause-comes
arrays::element_on-returns-in-Is-clause-comes t c =
    let fs = trees_of c.args.here.now.site.now.codes.now.items in
    let w = c.args.here.now.site.now.widget in
    let old = c.args.store.now in
    let mid = c.operand_on.new.store in
    let place = c.args.here.now.at in
    let p : State → Plan = λ s. Do (job_of fs w old.cells (job.Eval c.args.at.3 place)) s Ret in
    let had = c.args.run.now in
    let has = c.operand_on.new.run in
    let how = c.in_ok-how.how in
    let out = c.operand_on.new.out in
    let part = c.in_ok-how.ensures.comes in
    let kept = c.in_ok-how.ensures.kept in
    let n = c.args.at.2 in
    let all = elements_of (expr_at (forest_at fs place.code) c.args.at.1) in
    let rest = drop (n + 1) all in
    let f = form.Element c.args.at.0 c.args.at.1 n place in
    let fine : IsHeld w old.cells c.args.at.0 × IsExprAt fs w old.cells c.args.at.1 place = (c.requires.held.0, c.requires.held.1) in
    let todo : State → Plan = array_parts (seen w old.cells (value.Ref c.args.at.0)) n (drop n all) (place_of w old.cells place) in
    let first : (s : State) → todo s ≡ and_then (p s) (taken fs w old.cells (frame.Form f)) = λ s. ap (λ l. array_parts (seen w old.cells (value.Ref c.args.at.0)) n l (place_of w old.cells place) s) c.requires.there in
    let new = c.put_element.new.store in
    let k : State → Plan = array_parts (seen w mid.cells (value.Ref c.args.at.0)) (n + 1) rest (place_of w mid.cells place) in
    IfOk-weaker c.put_element.result _ _
    (λ h x no. instead fs w old new 1 1 (λ s. and_then (p s) (taken fs w old.cells (frame.Form f))) todo had c.put_element.new.run h _
    (value_then fs w old mid new 0 1 1 p f had has c.put_element.new.run how h out _ part c.in-Is.is kept fine (x no k) (omega arith))
    (λ r. first (image fs r w old)) (omega arith))
    c.put_element.ensures.comes

pub arrays::element_on-returns-in-Is-clause-kept : goal.arrays::element_on-returns-in-Is-clause-kept
arrays::element_on-returns-in-Is-clause-kept t c =
    kept_then (trees_of c.args.here.now.site.now.codes.now.items) c.args.here.now.site.now.widget c.args.store.now c.operand_on.new.store c.put_element.new.store c.in_ok-how.ensures.kept c.put_element.ensures.kept

pub arrays::element_on-returns-in-Left-clause-goes : goal.arrays::element_on-returns-in-Left-clause-goes
arrays::element_on-returns-in-Left-clause-goes t c = IfOk-weaker c.wait.result _ _ (λ h x t. absurd (left_no_value h x t)) c.wait.ensures.left

pub arrays::element_on-returns-in-Left-clause-comes : goal.arrays::element_on-returns-in-Left-clause-comes
arrays::element_on-returns-in-Left-clause-comes t c =
    let fs = trees_of c.args.here.now.site.now.codes.now.items in
    let w = c.args.here.now.site.now.widget in
    let old = c.args.store.now in
    let mid = c.operand_on.new.store in
    let place = c.args.here.now.at in
    let p : State → Plan = λ s. Do (job_of fs w old.cells (job.Eval c.args.at.3 place)) s Ret in
    let had = c.args.run.now in
    let has = c.operand_on.new.run in
    let how = c.in_ok-how.how in
    let out = c.operand_on.new.out in
    let part = c.in_ok-how.ensures.comes in
    let kept = c.in_ok-how.ensures.kept in
    let n = c.args.at.2 in
    let all = elements_of (expr_at (forest_at fs place.code) c.args.at.1) in
    let rest = drop (n + 1) all in
    let f = form.Element c.args.at.0 c.args.at.1 n place in
    let fine : IsHeld w old.cells c.args.at.0 × IsExprAt fs w old.cells c.args.at.1 place = (c.requires.held.0, c.requires.held.1) in
    let todo : State → Plan = array_parts (seen w old.cells (value.Ref c.args.at.0)) n (drop n all) (place_of w old.cells place) in
    let first : (s : State) → todo s ≡ and_then (p s) (taken fs w old.cells (frame.Form f)) = λ s. ap (λ l. array_parts (seen w old.cells (value.Ref c.args.at.0)) n l (place_of w old.cells place) s) c.requires.there in
    IfOk-weaker c.wait.result _ _
    (λ h x no. instead fs w old mid 1 1 (λ s. and_then (p s) (taken fs w old.cells (frame.Form f))) todo had c.wait.new.run h _ x (λ r. first (image fs r w old)) (omega arith))
    (frame_waits fs w c.wait.result old mid 0 1 p (frame.Form f) had has c.wait.new.run how (ended_as how out) (λ (h : Ended). ended_as h out) part c.in-Left.is kept fine (omega arith)
    c.wait.ensures.left c.wait.ensures.waits c.wait.ensures.next c.wait.ensures.units)

pub arrays::element_on-returns-in_default : goal.arrays::element_on-returns-in_default
arrays::element_on-returns-in_default t c =
    let fs = trees_of c.args.here.now.site.now.codes.now.items in
    let w = c.args.here.now.site.now.widget in
    let old = c.args.store.now in
    let mid = c.operand_on.new.store in
    let place = c.args.here.now.at in
    let p : State → Plan = λ s. Do (job_of fs w old.cells (job.Eval c.args.at.3 place)) s Ret in
    let had = c.args.run.now in
    let has = c.operand_on.new.run in
    let how = c.in_ok-how.how in
    let out = c.operand_on.new.out in
    let part = c.in_ok-how.ensures.comes in
    let kept = c.in_ok-how.ensures.kept in
    let n = c.args.at.2 in
    let all = elements_of (expr_at (forest_at fs place.code) c.args.at.1) in
    let rest = drop (n + 1) all in
    let f = form.Element c.args.at.0 c.args.at.1 n place in
    let fine : IsHeld w old.cells c.args.at.0 × IsExprAt fs w old.cells c.args.at.1 place = (c.requires.held.0, c.requires.held.1) in
    let todo : State → Plan = array_parts (seen w old.cells (value.Ref c.args.at.0)) n (drop n all) (place_of w old.cells place) in
    let first : (s : State) → todo s ≡ and_then (p s) (taken fs w old.cells (frame.Form f)) = λ s. ap (λ l. array_parts (seen w old.cells (value.Ref c.args.at.0)) n l (place_of w old.cells place) s) c.requires.there in
    record {
      goes = λ t. absurd (c.in_default.not-Is t);
      comes = λ no. instead fs w old mid 1 1 (λ s. and_then (p s) (taken fs w old.cells (frame.Form f))) todo had has how _
          (value_passes fs w old mid 0 1 p f had has how out part c.in_default.not-Is c.in_default.not-Left kept fine (omega arith))
          (λ r. first (image fs r w old)) (omega arith);
      kept = kept;
    }

pub assigning::assign_on-returns-in-Assign-clause-comes : goal.assigning::assign_on-returns-in-Assign-clause-comes
assigning::assign_on-returns-in-Assign-clause-comes t c =
    let fs = trees_of c.args.here.now.site.now.codes.now.items in
    let w = c.args.here.now.site.now.widget in
    let s = c.args.store.now in
    let j = job_of fs w s.cells (job.Target c.args.parts.0 c.args.here.now.at) in
    let p = λ (o : AssignOp) (t : State). Do j t (form_taken fs w s.cells (form.AssignTarget o c.args.parts.1 c.args.here.now.at)) in
    IfOk-weaker c.assign_plain.result _ _
    (λ how h. instead fs w s c.assign_plain.new.store 30 30 (p assignment.Assign) (p c.args.op) c.args.run.now c.assign_plain.new.run how (ended_as how c.assign_plain.new.out) h
    (λ r. ap (λ (o : AssignOp). p o (image fs r w s)) c.in-Assign.is) (omega arith))
    c.assign_plain.ensures.comes

pub assigning::assign_plain-returns-in-Name-clause-comes : goal.assigning::assign_plain-returns-in-Name-clause-comes
assigning::assign_plain-returns-in-Name-clause-comes t c =
    let fs = trees_of c.args.here.now.site.now.codes.now.items in
    let w = c.args.here.now.site.now.widget in
    let s = c.args.store.now in
    let code = c.args.here.now.at.code in
    let f = trees c.args.here.now.tree.now in
    let node = c.expr.result.now in
    let here = c.requires.tree in
    let pl = place_of w s.cells c.args.here.now.at in
    let j = job_of fs w s.cells (job.Target c.args.parts.0 c.args.here.now.at) in
    let k = form_taken fs w s.cells (form.AssignTarget assignment.Assign c.args.parts.1 c.args.here.now.at) in
    let p = λ (t : State). Do (job_of fs w s.cells (job.Eval c.args.parts.1 c.args.here.now.at)) t (form_taken fs w s.cells (form.Write (reference.Variable c.in-Name.name) c.args.here.now.at)) in
    IfOk-weaker c.assign_name.result _ _
    (λ how h. unit_first fs w s c.assign_name.new.store 1 30 j p k c.args.run.now (record c.args.run.now { units = c.args.run.now.units - 1 }) c.assign_name.new.run how (ended_as how c.assign_name.new.out) (less_one c.args.run.now.units c.if-run-eq0.false)
    (λ x. ap (λ q. and_then q k) (at_target fs code f c.args.parts.0 node here c.expr.ensures.same pl x ∙ ap (λ (e : Expr). target (plain_form (forest_at fs code) e) pl x) c.in-Name.is)) h (omega arith))
    c.assign_name.ensures.comes

pub assigning::assign_by-returns-in-Name-clause-comes : goal.assigning::assign_by-returns-in-Name-clause-comes
assigning::assign_by-returns-in-Name-clause-comes t c =
    let fs = trees_of c.args.here.now.site.now.codes.now.items in
    let w = c.args.here.now.site.now.widget in
    let s = c.args.store.now in
    let code = c.args.here.now.at.code in
    let f = trees c.args.here.now.tree.now in
    let node = c.expr.result.now in
    let here = c.requires.tree in
    let pl = place_of w s.cells c.args.here.now.at in
    let j = job_of fs w s.cells (job.Target c.args.parts.0 c.args.here.now.at) in
    let k = form_taken fs w s.cells (form.AssignTarget c.args.op c.args.parts.1 c.args.here.now.at) in
    let p = k (meaning.Refers (reference_of w s.cells (reference.Variable c.in-Name.name))) in
    IfOk-weaker c.compute_name.result _ _
    (λ how h. unit_first fs w s c.compute_name.new.store 12 30 j p k c.args.run.now (record c.args.run.now { units = c.args.run.now.units - 1 }) c.compute_name.new.run how (ended_as how c.compute_name.new.out) (less_one c.args.run.now.units c.if-run-eq0.false)
    (λ x. ap (λ q. and_then q k) (at_target fs code f c.args.parts.0 node here c.expr.ensures.same pl x ∙ ap (λ (e : Expr). target (plain_form (forest_at fs code) e) pl x) c.in-Name.is)) h (omega arith))
    c.compute_name.ensures.comes

pub assigning::assign_name-write_name-requires-clause-ready : goal.assigning::assign_name-write_name-requires-clause-ready
assigning::assign_name-write_name-requires-clause-ready t c =
    let fs = trees_of c.args.here.now.site.now.codes.now.items in
    let w = c.args.here.now.site.now.widget in
    let s = c.args.store.now in
    value_ready fs w s c.operand_on.new.store 0 (λ t. Do (job_of fs w s.cells (job.Eval c.args.e c.args.here.now.at)) t Ret) c.args.run.now c.operand_on.new.run c.in_ok-other.other _ c.in_ok-other.ensures.comes c.in-Is.is c.operand_on.ensures.kept c.requires.ready

pub assigning::assign_name-write_name-requires-clause-to : goal.assigning::assign_name-write_name-requires-clause-to
assigning::assign_name-write_name-requires-clause-to t c =
    let fs = trees_of c.args.here.now.site.now.codes.now.items in
    let w = c.args.here.now.site.now.widget in
    let s = c.args.store.now in
    place_fine fs w s.cells c.operand_on.new.store.cells c.operand_on.ensures.kept.grows c.args.here.now.at c.requires.held.0

pub assigning::assign_name-write_name-requires-clause-value : goal.assigning::assign_name-write_name-requires-clause-value
assigning::assign_name-write_name-requires-clause-value t c =
    let fs = trees_of c.args.here.now.site.now.codes.now.items in
    let w = c.args.here.now.site.now.widget in
    let s = c.args.store.now in
    value_fine fs w s c.operand_on.new.store 0 (λ t. Do (job_of fs w s.cells (job.Eval c.args.e c.args.here.now.at)) t Ret) c.args.run.now c.operand_on.new.run c.in_ok-other.other c.operand_on.new.out c.in_ok-other.ensures.comes c.in-Is.is

pub assigning::assign_name-returns-in-Is-clause-comes : goal.assigning::assign_name-returns-in-Is-clause-comes
assigning::assign_name-returns-in-Is-clause-comes t c =
    let fs = trees_of c.args.here.now.site.now.codes.now.items in
    let w = c.args.here.now.site.now.widget in
    let s = c.args.store.now in
    IfOk-weaker c.write_name.result _ _
    (λ how h. value_then fs w s c.operand_on.new.store c.write_name.new.store 0 1 1 (λ t. Do (job_of fs w s.cells (job.Eval c.args.e c.args.here.now.at)) t Ret) (form.Write (reference.Variable c.args.name.now) c.args.here.now.at) c.args.run.now c.operand_on.new.run c.operand_on.new.run c.in_ok-other.other how c.operand_on.new.out (ended_as how c.operand_on.new.out)
    c.in_ok-other.ensures.comes c.in-Is.is c.operand_on.ensures.kept (tt, c.requires.held.0) h (omega arith))
    c.write_name.ensures.comes

pub assigning::assign_name-returns-in-Is-clause-kept : goal.assigning::assign_name-returns-in-Is-clause-kept
assigning::assign_name-returns-in-Is-clause-kept t c =
    let fs = trees_of c.args.here.now.site.now.codes.now.items in
    let w = c.args.here.now.site.now.widget in
    let s = c.args.store.now in
    kept_then fs w s c.operand_on.new.store c.write_name.new.store c.operand_on.ensures.kept c.write_name.ensures.kept

pub assigning::assign_name-returns-in_default-clause-comes : goal.assigning::assign_name-returns-in_default-clause-comes
assigning::assign_name-returns-in_default-clause-comes t c =
    let fs = trees_of c.args.here.now.site.now.codes.now.items in
    let w = c.args.here.now.site.now.widget in
    let s = c.args.store.now in
    hand_form fs w c.hand_write.result s c.operand_on.new.store 0 1 (λ t. Do (job_of fs w s.cells (job.Eval c.args.e c.args.here.now.at)) t Ret) (form.Write (reference.Variable c.args.name.now) c.args.here.now.at) c.args.run.now c.operand_on.new.run c.hand_write.new.run c.in_ok-other.other c.operand_on.new.out
    c.in_ok-other.ensures.comes c.in_default.not-Is c.operand_on.ensures.kept (tt, c.requires.held.0) (omega arith) c.hand_write.ensures

pub assigning::assign_reached-assign_value-requires : goal.assigning::assign_reached-assign_value-requires
assigning::assign_reached-assign_value-requires t c = (
  search rules,
  (
    (
        let fs = trees_of c.args.here.now.site.now.codes.now.items in
        let w = c.args.here.now.site.now.widget in
        let s = c.args.store.now in
        value_ready fs w s c.target_on.new.store 0 (λ t. Do (job_of fs w s.cells (job.Target c.args.parts.0 c.args.here.now.at)) t Ret) c.args.run.now c.target_on.new.run c.in_ok-other.other _ c.in_ok-other.ensures.comes c.in-Is.is c.target_on.ensures.kept c.requires.ready
        ),
    (
      (
          let fs = trees_of c.args.here.now.site.now.codes.now.items in
          let w = c.args.here.now.site.now.widget in
          let s = c.args.store.now in (
            expr_stays fs w s.cells c.target_on.new.store.cells c.target_on.ensures.kept.grows c.args.parts.1 c.args.here.now.at c.requires.held.1,
            target_fine fs w s c.target_on.new.store 0 (λ t. Do (job_of fs w s.cells (job.Target c.args.parts.0 c.args.here.now.at)) t Ret) c.args.run.now c.target_on.new.run c.in_ok-other.other c.target_on.new.of c.target_on.new.out c.in_ok-other.ensures.comes c.in-Is.is,
          )
          ),
      c.requires.tree,
    ),
  ),
)

pub assigning::assign_reached-returns-in-Is-clause-comes : goal.assigning::assign_reached-returns-in-Is-clause-comes
assigning::assign_reached-returns-in-Is-clause-comes t c =
    let fs = trees_of c.args.here.now.site.now.codes.now.items in
    let w = c.args.here.now.site.now.widget in
    let s = c.args.store.now in
    IfOk-weaker c.assign_value.result _ _
    (λ how h. target_then fs w s c.target_on.new.store c.assign_value.new.store 0 12 30 (λ t. Do (job_of fs w s.cells (job.Target c.args.parts.0 c.args.here.now.at)) t Ret) (form.AssignTarget c.args.op c.args.parts.1 c.args.here.now.at) c.args.run.now c.target_on.new.run c.assign_value.new.run c.in_ok-other.other how c.target_on.new.of c.target_on.new.out (ended_as how c.assign_value.new.out)
    c.in_ok-other.ensures.comes c.in-Is.is c.target_on.ensures.kept c.requires.held.1 h (omega arith))
    c.assign_value.ensures.comes

pub assigning::assign_reached-returns-in-Is-clause-kept : goal.assigning::assign_reached-returns-in-Is-clause-kept
assigning::assign_reached-returns-in-Is-clause-kept t c =
    let fs = trees_of c.args.here.now.site.now.codes.now.items in
    let w = c.args.here.now.site.now.widget in
    let s = c.args.store.now in
    kept_then fs w s c.target_on.new.store c.assign_value.new.store c.target_on.ensures.kept c.assign_value.ensures.kept

pub assigning::assign_reached-returns-in-Left-clause-comes : goal.assigning::assign_reached-returns-in-Left-clause-comes
assigning::assign_reached-returns-in-Left-clause-comes t c =
    let fs = trees_of c.args.here.now.site.now.codes.now.items in
    let w = c.args.here.now.site.now.widget in
    let s = c.args.store.now in
    frame_waits fs w c.wait_target.result s c.target_on.new.store 0 30 (λ t. Do (job_of fs w s.cells (job.Target c.args.parts.0 c.args.here.now.at)) t Ret) (frame.Form (form.AssignTarget c.args.op c.args.parts.1 c.args.here.now.at)) c.args.run.now c.target_on.new.run c.wait_target.new.run c.in_ok-other.other (target_as c.in_ok-other.other c.target_on.new.of c.target_on.new.out) (λ h. ended_as h c.target_on.new.out)
    c.in_ok-other.ensures.comes c.in-Left.is c.target_on.ensures.kept c.requires.held.1 (omega arith) c.wait_target.ensures.left c.wait_target.ensures.waits c.wait_target.ensures.next c.wait_target.ensures.units

pub assigning::assign_reached-returns-in_default : goal.assigning::assign_reached-returns-in_default
assigning::assign_reached-returns-in_default t c =
    let fs = trees_of c.args.here.now.site.now.codes.now.items in
    let w = c.args.here.now.site.now.widget in
    let s = c.args.store.now in
    record {
      comes = value_passes fs w s c.target_on.new.store 0 30 (λ t. Do (job_of fs w s.cells (job.Target c.args.parts.0 c.args.here.now.at)) t Ret) (form.AssignTarget c.args.op c.args.parts.1 c.args.here.now.at) c.args.run.now c.target_on.new.run c.in_ok-other.other c.target_on.new.out
          (target_ends fs w s c.target_on.new.store 0 (λ t. Do (job_of fs w s.cells (job.Target c.args.parts.0 c.args.here.now.at)) t Ret) c.args.run.now c.target_on.new.run c.in_ok-other.other c.target_on.new.of c.target_on.new.out c.in_ok-other.ensures.comes c.in_default.not-Is) c.in_default.not-Is c.in_default.not-Left c.target_on.ensures.kept c.requires.held.1 (omega arith);
      kept = c.target_on.ensures.kept;
    }

pub assigning::assign_value-returns-in-Assign-clause-comes : goal.assigning::assign_value-returns-in-Assign-clause-comes
assigning::assign_value-returns-in-Assign-clause-comes t c =
    let fs = trees_of c.args.here.now.site.now.codes.now.items in
    let w = c.args.here.now.site.now.widget in
    let s = c.args.store.now in
    let p = λ (o : AssignOp) (t : State). form_taken fs w s.cells (form.AssignTarget o c.args.e c.args.here.now.at) (meaning.Refers (reference_of w s.cells c.args.of.now)) t in
    IfOk-weaker c.assign_written.result _ _
    (λ how h. instead fs w s c.assign_written.new.store 1 12 (p assignment.Assign) (p c.args.op) c.args.run.now c.assign_written.new.run how (ended_as how c.assign_written.new.out) h
    (λ r. ap (λ (o : AssignOp). p o (image fs r w s)) c.in-Assign.is) (omega arith))
    c.assign_written.ensures.comes

pub assigning::assign_written-write_value-requires-clause-ready : goal.assigning::assign_written-write_value-requires-clause-ready
assigning::assign_written-write_value-requires-clause-ready t c =
    let fs = trees_of c.args.here.now.site.now.codes.now.items in
    let w = c.args.here.now.site.now.widget in
    let s = c.args.store.now in
    value_ready fs w s c.operand_on.new.store 0 (λ t. Do (job_of fs w s.cells (job.Eval c.args.e c.args.here.now.at)) t Ret) c.args.run.now c.operand_on.new.run c.in_ok-other.other _ c.in_ok-other.ensures.comes c.in-Is.is c.operand_on.ensures.kept c.requires.ready

pub assigning::assign_written-write_value-requires-clause-to : goal.assigning::assign_written-write_value-requires-clause-to
assigning::assign_written-write_value-requires-clause-to t c =
    let fs = trees_of c.args.here.now.site.now.codes.now.items in
    let w = c.args.here.now.site.now.widget in
    let s = c.args.store.now in (
      reference_fine w s.cells c.operand_on.new.store.cells c.operand_on.ensures.kept.grows c.args.of.now c.requires.held.1,
      place_fine fs w s.cells c.operand_on.new.store.cells c.operand_on.ensures.kept.grows c.args.here.now.at c.requires.held.0.0,
    )

pub assigning::assign_written-write_value-requires-clause-value : goal.assigning::assign_written-write_value-requires-clause-value
assigning::assign_written-write_value-requires-clause-value t c =
    let fs = trees_of c.args.here.now.site.now.codes.now.items in
    let w = c.args.here.now.site.now.widget in
    let s = c.args.store.now in
    value_fine fs w s c.operand_on.new.store 0 (λ t. Do (job_of fs w s.cells (job.Eval c.args.e c.args.here.now.at)) t Ret) c.args.run.now c.operand_on.new.run c.in_ok-other.other c.operand_on.new.out c.in_ok-other.ensures.comes c.in-Is.is

pub assigning::assign_written-returns-in-Is-clause-comes : goal.assigning::assign_written-returns-in-Is-clause-comes
assigning::assign_written-returns-in-Is-clause-comes t c =
    let fs = trees_of c.args.here.now.site.now.codes.now.items in
    let w = c.args.here.now.site.now.widget in
    let s = c.args.store.now in
    IfOk-weaker c.write_value.result _ _
    (λ how h. value_then fs w s c.operand_on.new.store c.write_value.new.store 0 1 1 (λ t. Do (job_of fs w s.cells (job.Eval c.args.e c.args.here.now.at)) t Ret) (form.Write c.args.of.now c.args.here.now.at) c.args.run.now c.operand_on.new.run c.write_value.new.run c.in_ok-other.other how c.operand_on.new.out (ended_as how c.write_value.new.out)
    c.in_ok-other.ensures.comes c.in-Is.is c.operand_on.ensures.kept (c.requires.held.1, c.requires.held.0.0) h (omega arith))
    c.write_value.ensures.comes

pub assigning::assign_written-returns-in-Is-clause-kept : goal.assigning::assign_written-returns-in-Is-clause-kept
assigning::assign_written-returns-in-Is-clause-kept t c =
    let fs = trees_of c.args.here.now.site.now.codes.now.items in
    let w = c.args.here.now.site.now.widget in
    let s = c.args.store.now in
    kept_then fs w s c.operand_on.new.store c.write_value.new.store c.operand_on.ensures.kept c.write_value.ensures.kept

pub assigning::assign_written-returns-in-Left-clause-comes : goal.assigning::assign_written-returns-in-Left-clause-comes
assigning::assign_written-returns-in-Left-clause-comes t c =
    let fs = trees_of c.args.here.now.site.now.codes.now.items in
    let w = c.args.here.now.site.now.widget in
    let s = c.args.store.now in
    frame_waits fs w c.wait_written.result s c.operand_on.new.store 0 1 (λ t. Do (job_of fs w s.cells (job.Eval c.args.e c.args.here.now.at)) t Ret) (frame.Form (form.Write c.args.of.now c.args.here.now.at)) c.args.run.now c.operand_on.new.run c.wait_written.new.run c.in_ok-other.other (ended_as c.in_ok-other.other c.operand_on.new.out) (λ h. ended_as h c.operand_on.new.out)
    c.in_ok-other.ensures.comes c.in-Left.is c.operand_on.ensures.kept (c.requires.held.1, c.requires.held.0.0) (omega arith) c.wait_written.ensures.left c.wait_written.ensures.waits c.wait_written.ensures.next c.wait_written.ensures.units

pub assigning::assign_written-returns-in_default : goal.assigning::assign_written-returns-in_default
assigning::assign_written-returns-in_default t c =
    let fs = trees_of c.args.here.now.site.now.codes.now.items in
    let w = c.args.here.now.site.now.widget in
    let s = c.args.store.now in
    record {
      comes = value_passes fs w s c.operand_on.new.store 0 1 (λ t. Do (job_of fs w s.cells (job.Eval c.args.e c.args.here.now.at)) t Ret) (form.Write c.args.of.now c.args.here.now.at) c.args.run.now c.operand_on.new.run c.in_ok-other.other c.operand_on.new.out c.in_ok-other.ensures.comes c.in_default.not-Is c.in_default.not-Left c.operand_on.ensures.kept (c.requires.held.1, c.requires.held.0.0) (omega arith);
      kept = c.operand_on.ensures.kept;
    }

pub assigning::assign_computed-assign_with-requires : goal.assigning::assign_computed-assign_with-requires
assigning::assign_computed-assign_with-requires t c = (
  search rules,
  (
    search rules,
    (
      ((c.requires.held.0, c.requires.held.1, c.in_ok-has.ensures.fine)),
      c.requires.tree,
    ),
  ),
)

pub assigning::assign_computed-returns-clause-comes : goal.assigning::assign_computed-returns-clause-comes
assigning::assign_computed-returns-clause-comes t c =
    let fs = trees_of c.args.here.now.site.now.codes.now.items in
    let w = c.args.here.now.site.now.widget in
    let s = c.args.store.now in
    let j = job_of fs w s.cells (job.Eval c.args.e c.args.here.now.at) in
    let pl = place_of w s.cells c.args.here.now.at in
    let of = reference_of w s.cells c.args.of.now in
    IfOk-weaker c.assign_with.result _ _
    (λ how h. instead fs w s c.assign_with.new.store 12 12 (λ t. Do j t (assign_with c.args.op of (seen w s.cells c.in_ok-has.has) pl))
    (form_taken fs w s.cells (form.AssignTarget c.args.op c.args.e c.args.here.now.at) (meaning.Refers of)) c.args.run.now c.assign_with.new.run how (ended_as how c.assign_with.new.out) h
    (λ r. (λ i. Do j (image fs r w s) (assign_with c.args.op of (sym (c.in_ok-has.ensures.found r) i) pl))) (omega arith))
    c.assign_with.ensures.comes

pub assigning::assign_with-compute_on-requires-clause-ready : goal.assigning::assign_with-compute_on-requires-clause-ready
assigning::assign_with-compute_on-requires-clause-ready t c =
    let fs = trees_of c.args.here.now.site.now.codes.now.items in
    let w = c.args.here.now.site.now.widget in
    let s = c.args.store.now in
    value_ready fs w s c.operand_on.new.store 0 (λ t. Do (job_of fs w s.cells (job.Eval c.args.by.1 c.args.here.now.at)) t Ret) c.args.run.now c.operand_on.new.run c.in_ok-other.other _ c.in_ok-other.ensures.comes c.in-Is.is c.operand_on.ensures.kept c.requires.ready

pub assigning::assign_with-compute_on-requires-clause-held : goal.assigning::assign_with-compute_on-requires-clause-held
assigning::assign_with-compute_on-requires-clause-held t c =
    let fs = trees_of c.args.here.now.site.now.codes.now.items in
    let w = c.args.here.now.site.now.widget in
    let s = c.args.store.now in
    let to : Assigning = record { op = c.args.by.0; of = c.args.of.now; has = c.args.has.now; place = c.args.here.now.at } in
    let t = c.operand_on.new.store in
    let g = c.operand_on.ensures.kept.grows in
    let held : FineAssigning fs w s.cells to = (c.requires.held.1, c.requires.held.2, c.requires.held.0.0) in (
      reference_fine w s.cells t.cells g to.of held.0,
      fine_stays w s.cells t.cells g to.has held.1,
      value_fine fs w s t 0 (λ t. Do (job_of fs w s.cells (job.Eval c.args.by.1 c.args.here.now.at)) t Ret) c.args.run.now c.operand_on.new.run c.in_ok-other.other c.operand_on.new.out c.in_ok-other.ensures.comes c.in-Is.is,
    )

pub assigning::assign_with-compute_on-requires-clause-place : goal.assigning::assign_with-compute_on-requires-clause-place
assigning::assign_with-compute_on-requires-clause-place t c =
    place_fine (trees_of c.args.here.now.site.now.codes.now.items) c.args.here.now.site.now.widget c.args.store.now.cells c.operand_on.new.store.cells c.operand_on.ensures.kept.grows c.args.here.now.at c.requires.held.0.0

pub assigning::assign_with-returns-in-Is-clause-comes : goal.assigning::assign_with-returns-in-Is-clause-comes
assigning::assign_with-returns-in-Is-clause-comes t c =
    let fs = trees_of c.args.here.now.site.now.codes.now.items in
    let w = c.args.here.now.site.now.widget in
    let s = c.args.store.now in
    let to : Assigning = record { op = c.args.by.0; of = c.args.of.now; has = c.args.has.now; place = c.args.here.now.at } in
    let t = c.operand_on.new.store in
    let g = c.operand_on.ensures.kept.grows in
    let held : FineAssigning fs w s.cells to = (c.requires.held.1, c.requires.held.2, c.requires.held.0.0) in
    let k = λ (x : List PlainCell). assign_with to.op (reference_of w x to.of) (seen w x to.has) (place_of w x to.place) in
    IfOk-weaker c.compute_on.result _ _
    (λ how h. goes_on fs w s t c.compute_on.new.store 0 12 12 (λ t. Do (job_of fs w s.cells (job.Eval c.args.by.1 c.args.here.now.at)) t Ret) (k s.cells) (k t.cells) c.args.run.now c.operand_on.new.run c.compute_on.new.run c.in_ok-other.other how c.operand_on.new.out (ended_as how c.compute_on.new.out)
    c.in_ok-other.ensures.comes c.in-Is.is (λ i. assign_with to.op (sym (reference_same w s.cells t.cells g to.of held.0) i) (sym (seen_stays w s.cells t.cells g to.has held.1) i) (sym (place_same fs w s.cells t.cells g to.place held.2) i)) h (omega arith))
    c.compute_on.ensures.comes

pub assigning::assign_with-returns-in-Is-clause-kept : goal.assigning::assign_with-returns-in-Is-clause-kept
assigning::assign_with-returns-in-Is-clause-kept t c =
    let fs = trees_of c.args.here.now.site.now.codes.now.items in
    let w = c.args.here.now.site.now.widget in
    let s = c.args.store.now in
    kept_then fs w s c.operand_on.new.store c.compute_on.new.store c.operand_on.ensures.kept c.compute_on.ensures.kept

pub assigning::assign_with-returns-in_ok-boxed-in-Left-clause-comes : goal.assigning::assign_with-returns-in_ok-boxed-in-Left-clause-comes
assigning::assign_with-returns-in_ok-boxed-in-Left-clause-comes t c =
    let fs = trees_of c.args.here.now.site.now.codes.now.items in
    let w = c.args.here.now.site.now.widget in
    let s = c.args.store.now in
    let to : Assigning = record { op = c.args.by.0; of = c.args.of.now; has = c.args.has.now; place = c.args.here.now.at } in
    let t = c.operand_on.new.store in
    let g = c.operand_on.ensures.kept.grows in
    let held : FineAssigning fs w s.cells to = (c.requires.held.1, c.requires.held.2, c.requires.held.0.0) in
    let b = c.in_ok-boxed-in-Left.boxed in
    let same = c.in_ok-boxed-in-Left.ensures in
    let j = job_of fs w s.cells (job.Eval c.args.by.1 c.args.here.now.at) in
    let k = λ (a : Assigning). assign_with a.op (reference_of w s.cells a.of) (seen w s.cells a.has) (place_of w s.cells a.place) in
    IfOk-weaker c.wait.result _ _
    (λ how h. instead fs w s t 12 12 (λ x. Do j x (k b.value)) (λ x. Do j x (k to)) c.args.run.now c.wait.new.run how (ended_as how c.operand_on.new.out) h
    (λ r. ap (λ (a : Assigning). Do j (image fs r w s) (k a)) (sym same)) (omega arith))
    (frame_waits fs w c.wait.result s t 0 12 (λ t. Do (job_of fs w s.cells (job.Eval c.args.by.1 c.args.here.now.at)) t Ret) (frame.Form (form.AssignWith b)) c.args.run.now c.operand_on.new.run c.wait.new.run c.in_ok-other.other (ended_as c.in_ok-other.other c.operand_on.new.out) (λ h. ended_as h c.operand_on.new.out)
    c.in_ok-other.ensures.comes c.in-Left.is c.operand_on.ensures.kept (subst (λ (a : Assigning). FineAssigning fs w s.cells a) (sym same) held) (omega arith) c.wait.ensures.left c.wait.ensures.waits c.wait.ensures.next c.wait.ensures.units)

pub assigning::assign_with-returns-in_default : goal.assigning::assign_with-returns-in_default
assigning::assign_with-returns-in_default t c =
    let fs = trees_of c.args.here.now.site.now.codes.now.items in
    let w = c.args.here.now.site.now.widget in
    let s = c.args.store.now in
    let to : Assigning = record { op = c.args.by.0; of = c.args.of.now; has = c.args.has.now; place = c.args.here.now.at } in
    let t = c.operand_on.new.store in
    let g = c.operand_on.ensures.kept.grows in
    let held : FineAssigning fs w s.cells to = (c.requires.held.1, c.requires.held.2, c.requires.held.0.0) in
    let k = λ (x : List PlainCell). assign_with to.op (reference_of w x to.of) (seen w x to.has) (place_of w x to.place) in
    record {
      comes = goes_past fs w s t 0 12 (λ t. Do (job_of fs w s.cells (job.Eval c.args.by.1 c.args.here.now.at)) t Ret) (k s.cells) c.args.run.now c.operand_on.new.run c.in_ok-other.other c.operand_on.new.out c.in_ok-other.ensures.comes c.in_default.not-Is c.in_default.not-Left (λ o x h. no_value o x _ h) (omega arith);
      kept = c.operand_on.ensures.kept;
    }

pub assigning::compute_with-computed_name-requires-clause-ready : goal.assigning::compute_with-computed_name-requires-clause-ready
assigning::compute_with-computed_name-requires-clause-ready t c =
    let fs = trees_of c.args.here.now.site.now.codes.now.items in
    let w = c.args.here.now.site.now.widget in
    let s = c.args.store.now in
    value_ready fs w s c.operand_on.new.store 0 (λ t. Do (job_of fs w s.cells (job.Eval c.args.by.1 c.args.here.now.at)) t Ret) c.args.run.now c.operand_on.new.run c.in_ok-other.other _ c.in_ok-other.ensures.comes c.in-Is.is c.operand_on.ensures.kept c.requires.ready

pub assigning::compute_with-computed_name-requires-clause-held : goal.assigning::compute_with-computed_name-requires-clause-held
assigning::compute_with-computed_name-requires-clause-held t c =
    let fs = trees_of c.args.here.now.site.now.codes.now.items in
    let w = c.args.here.now.site.now.widget in
    let s = c.args.store.now in
    let to : Assigning = record { op = c.args.by.0; of = reference.Variable c.args.name.now; has = c.args.has.now; place = c.args.here.now.at } in
    let t = c.operand_on.new.store in
    let g = c.operand_on.ensures.kept.grows in
    let held : FineAssigning fs w s.cells to = (tt, c.requires.held.1, c.requires.held.0.0) in (
      fine_stays w s.cells t.cells g to.has held.1,
      value_fine fs w s t 0 (λ t. Do (job_of fs w s.cells (job.Eval c.args.by.1 c.args.here.now.at)) t Ret) c.args.run.now c.operand_on.new.run c.in_ok-other.other c.operand_on.new.out c.in_ok-other.ensures.comes c.in-Is.is,
    )

pub assigning::compute_with-computed_name-requires-clause-place : goal.assigning::compute_with-computed_name-requires-clause-place
assigning::compute_with-computed_name-requires-clause-place t c =
    place_fine (trees_of c.args.here.now.site.now.codes.now.items) c.args.here.now.site.now.widget c.args.store.now.cells c.operand_on.new.store.cells c.operand_on.ensures.kept.grows c.args.here.now.at c.requires.held.0.0

pub assigning::compute_with-returns-in-Is-clause-comes : goal.assigning::compute_with-returns-in-Is-clause-comes
assigning::compute_with-returns-in-Is-clause-comes t c =
    let fs = trees_of c.args.here.now.site.now.codes.now.items in
    let w = c.args.here.now.site.now.widget in
    let s = c.args.store.now in
    let to : Assigning = record { op = c.args.by.0; of = reference.Variable c.args.name.now; has = c.args.has.now; place = c.args.here.now.at } in
    let t = c.operand_on.new.store in
    let g = c.operand_on.ensures.kept.grows in
    let held : FineAssigning fs w s.cells to = (tt, c.requires.held.1, c.requires.held.0.0) in
    let k = λ (x : List PlainCell). assign_with to.op (reference_of w x to.of) (seen w x to.has) (place_of w x to.place) in
    IfOk-weaker c.computed_name.result _ _
    (λ how h. goes_on fs w s t c.computed_name.new.store 0 12 12 (λ t. Do (job_of fs w s.cells (job.Eval c.args.by.1 c.args.here.now.at)) t Ret) (k s.cells) (k t.cells) c.args.run.now c.operand_on.new.run c.computed_name.new.run c.in_ok-other.other how c.operand_on.new.out (ended_as how c.computed_name.new.out)
    c.in_ok-other.ensures.comes c.in-Is.is (λ i. assign_with to.op (sym (reference_same w s.cells t.cells g to.of held.0) i) (sym (seen_stays w s.cells t.cells g to.has held.1) i) (sym (place_same fs w s.cells t.cells g to.place held.2) i)) h (omega arith))
    c.computed_name.ensures.comes

pub assigning::compute_with-returns-in-Is-clause-kept : goal.assigning::compute_with-returns-in-Is-clause-kept
assigning::compute_with-returns-in-Is-clause-kept t c =
    let fs = trees_of c.args.here.now.site.now.codes.now.items in
    let w = c.args.here.now.site.now.widget in
    let s = c.args.store.now in
    kept_then fs w s c.operand_on.new.store c.computed_name.new.store c.operand_on.ensures.kept c.computed_name.ensures.kept

pub assigning::compute_with-returns-in_ok-boxed-in-Left-clause-comes : goal.assigning::compute_with-returns-in_ok-boxed-in-Left-clause-comes
assigning::compute_with-returns-in_ok-boxed-in-Left-clause-comes t c =
    let fs = trees_of c.args.here.now.site.now.codes.now.items in
    let w = c.args.here.now.site.now.widget in
    let s = c.args.store.now in
    let to : Assigning = record { op = c.args.by.0; of = reference.Variable c.args.name.now; has = c.args.has.now; place = c.args.here.now.at } in
    let t = c.operand_on.new.store in
    let g = c.operand_on.ensures.kept.grows in
    let held : FineAssigning fs w s.cells to = (tt, c.requires.held.1, c.requires.held.0.0) in
    let b = c.in_ok-boxed-in-Left.boxed in
    let same = c.in_ok-boxed-in-Left.ensures in
    let j = job_of fs w s.cells (job.Eval c.args.by.1 c.args.here.now.at) in
    let k = λ (a : Assigning). assign_with a.op (reference_of w s.cells a.of) (seen w s.cells a.has) (place_of w s.cells a.place) in
    IfOk-weaker c.wait.result _ _
    (λ how h. instead fs w s t 12 12 (λ x. Do j x (k b.value)) (λ x. Do j x (k to)) c.args.run.now c.wait.new.run how (ended_as how c.operand_on.new.out) h
    (λ r. ap (λ (a : Assigning). Do j (image fs r w s) (k a)) (sym same)) (omega arith))
    (frame_waits fs w c.wait.result s t 0 12 (λ t. Do (job_of fs w s.cells (job.Eval c.args.by.1 c.args.here.now.at)) t Ret) (frame.Form (form.AssignWith b)) c.args.run.now c.operand_on.new.run c.wait.new.run c.in_ok-other.other (ended_as c.in_ok-other.other c.operand_on.new.out) (λ h. ended_as h c.operand_on.new.out)
    c.in_ok-other.ensures.comes c.in-Left.is c.operand_on.ensures.kept (subst (λ (a : Assigning). FineAssigning fs w s.cells a) (sym same) held) (omega arith) c.wait.ensures.left c.wait.ensures.waits c.wait.ensures.next c.wait.ensures.units)

pub assigning::compute_with-returns-in_default : goal.assigning::compute_with-returns-in_default
assigning::compute_with-returns-in_default t c =
    let fs = trees_of c.args.here.now.site.now.codes.now.items in
    let w = c.args.here.now.site.now.widget in
    let s = c.args.store.now in
    let to : Assigning = record { op = c.args.by.0; of = reference.Variable c.args.name.now; has = c.args.has.now; place = c.args.here.now.at } in
    let t = c.operand_on.new.store in
    let g = c.operand_on.ensures.kept.grows in
    let held : FineAssigning fs w s.cells to = (tt, c.requires.held.1, c.requires.held.0.0) in
    let k = λ (x : List PlainCell). assign_with to.op (reference_of w x to.of) (seen w x to.has) (place_of w x to.place) in
    record {
      comes = goes_past fs w s t 0 12 (λ t. Do (job_of fs w s.cells (job.Eval c.args.by.1 c.args.here.now.at)) t Ret) (k s.cells) c.args.run.now c.operand_on.new.run c.in_ok-other.other c.operand_on.new.out c.in_ok-other.ensures.comes c.in_default.not-Is c.in_default.not-Left (λ o x h. no_value o x _ h) (omega arith);
      kept = c.operand_on.ensures.kept;
    }

pub assigning::compute_name-compute_any-requires : goal.assigning::compute_name-compute_any-requires
assigning::compute_name-compute_any-requires t c = (search rules, (c.requires.ready, (c.requires.held, c.requires.tree)))

pub assigning::compute_name-compute_any-requires-in-None : goal.assigning::compute_name-compute_any-requires-in-None
assigning::compute_name-compute_any-requires-in-None t c =
    let fs = trees_of c.args.here.now.site.now.codes.now.items in
    let w = c.args.here.now.site.now.widget in (
      search rules,
      (
        (c.requires.ready.0, c.added.ensures.kept.confined c.requires.ready.1, c.requires.ready.2),
        (
          expr_stays fs w c.args.store.now.cells c.added.new.store.cells c.added.ensures.kept.grows c.args.by.1 c.args.here.now.at c.requires.held,
          c.requires.tree,
        ),
      ),
    )

pub assigning::compute_name-added-requires-clause-confined : goal.assigning::compute_name-added-requires-clause-confined
assigning::compute_name-added-requires-clause-confined t c = c.requires.ready.1

pub assigning::compute_name-added-requires-clause-held : goal.assigning::compute_name-added-requires-clause-held
assigning::compute_name-added-requires-clause-held t c = c.requires.held

pub assigning::compute_name-added-requires-clause-tree : goal.assigning::compute_name-added-requires-clause-tree
assigning::compute_name-added-requires-clause-tree t c = c.requires.tree

pub assigning::compute_name-returns-then-run-eq0-clause-comes : goal.assigning::compute_name-returns-then-run-eq0-clause-comes
assigning::compute_name-returns-then-run-eq0-clause-comes t c = c.compute_any.ensures.comes

pub assigning::compute_name-returns-in-Some-clause-comes : goal.assigning::compute_name-returns-in-Some-clause-comes
assigning::compute_name-returns-in-Some-clause-comes t c =
    let fs = trees_of c.args.here.now.site.now.codes.now.items in
    let w = c.args.here.now.site.now.widget in
    let s = c.args.store.now in
    let at = c.args.here.now.at in
    let z = c.in-Some.z in
    let z_same : to_z w64 (of_z w64 z) ≡ z = search rules in
    sum_comes fs w s c.added.new.store 12 (form_taken fs w s.cells (form.AssignTarget c.args.by.0 c.args.by.1 at) (meaning.Refers (reference_of w s.cells (reference.Variable c.args.name.now))))
    c.args.run.now (record c.args.run.now { units = c.args.run.now.units - 1 }) z c.set_value.new.out (c.set_value.ensures ∙ ap (λ (k : ℤ). value.Num (number.Whole k)) z_same) (less_one c.args.run.now.units c.if-run-eq0.false) c.requires.ready.2 c.in-Some.ensures.paid

pub assigning::compute_name-returns-in-None-clause-comes : goal.assigning::compute_name-returns-in-None-clause-comes
assigning::compute_name-returns-in-None-clause-comes t c =
    let fs = trees_of c.args.here.now.site.now.codes.now.items in
    let w = c.args.here.now.site.now.widget in
    let at = c.args.here.now.at in
    IfOk-weaker c.compute_any-in-None.result _ _
    (λ how x. subst (λ (s : Cells). Comes fs w s c.compute_any-in-None.new.store 12 (form_taken fs w s.cells (form.AssignTarget c.args.by.0 c.args.by.1 at) (meaning.Refers (reference_of w s.cells (reference.Variable c.args.name.now)))) c.args.run.now c.compute_any-in-None.new.run how c.compute_any-in-None.new.out) c.in-None.ensures.none x)
    c.compute_any-in-None.ensures.comes

pub assigning::compute_name-returns-then-run-eq0-clause-kept : goal.assigning::compute_name-returns-then-run-eq0-clause-kept
assigning::compute_name-returns-then-run-eq0-clause-kept t c = c.compute_any.ensures.kept

pub assigning::compute_name-returns-in-Some-clause-kept : goal.assigning::compute_name-returns-in-Some-clause-kept
assigning::compute_name-returns-in-Some-clause-kept t c = c.added.ensures.kept

pub assigning::compute_name-returns-in-None-clause-kept : goal.assigning::compute_name-returns-in-None-clause-kept
assigning::compute_name-returns-in-None-clause-kept t c =
    kept_then (trees_of c.args.here.now.site.now.codes.now.items) c.args.here.now.site.now.widget c.args.store.now c.added.new.store c.compute_any-in-None.new.store c.added.ensures.kept c.compute_any-in-None.ensures.kept

pub assigning::compute_any-compute_with-requires : goal.assigning::compute_any-compute_with-requires
assigning::compute_any-compute_with-requires t c =
    let fs = trees_of c.args.here.now.site.now.codes.now.items in
    let w = c.args.here.now.site.now.widget in
    let s = c.args.store.now in (
      search rules,
      (
        c.requires.ready,
        (
          (c.requires.held, subst (λ (v : Value2). IsFine w s.cells v) (sym c.in_ok-share_to.ensures) (c.variable_at.ensures.fine fs w c.requires.ready.1 c.requires.held.0.1)),
          c.requires.tree,
        ),
      ),
    )

pub assigning::compute_any-returns-clause-comes : goal.assigning::compute_any-returns-clause-comes
assigning::compute_any-returns-clause-comes t c =
    let fs = trees_of c.args.here.now.site.now.codes.now.items in
    let w = c.args.here.now.site.now.widget in
    let s = c.args.store.now in
    let j = job_of fs w s.cells (job.Eval c.args.by.1 c.args.here.now.at) in
    let pl = place_of w s.cells c.args.here.now.at in
    let of = reference_of w s.cells (reference.Variable c.args.name.now) in
    let has = c.share_to.new.out in
    let same = λ (r : Rest). ap (λ (v : Value2). seen w s.cells v) c.in_ok-share_to.ensures ∙ c.variable_at.ensures.found fs r w c.args.here.now.at.depth c.requires.ready.1 c.requires.held.0.1 in
    IfOk-weaker c.compute_with.result _ _
    (λ how h. instead fs w s c.compute_with.new.store 12 12 (λ t. Do j t (assign_with c.args.by.0 of (seen w s.cells has) pl))
    (form_taken fs w s.cells (form.AssignTarget c.args.by.0 c.args.by.1 c.args.here.now.at) (meaning.Refers of)) c.args.run.now c.compute_with.new.run how (ended_as how c.compute_with.new.out) h
    (λ r. (λ i. Do j (image fs r w s) (assign_with c.args.by.0 of (sym (same r) i) pl))) (omega arith))
    c.compute_with.ensures.comes

pub blocks::list_on-returns-in_err-how-clause-kept : goal.blocks::list_on-returns-in_err-how-clause-kept
blocks::list_on-returns-in_err-how-clause-kept t c =
    kept_then (trees_of c.args.here.now.site.now.codes.now.items) c.args.here.now.site.now.widget c.args.store.now c.list.store c.exec_on.new.store c.list.invariant.1 c.in_err-how.ensures.kept

pub blocks::list_on-list-preserved : goal.blocks::list_on-list-preserved
blocks::list_on-list-preserved t c =
    let fs = trees_of c.args.here.now.site.now.codes.now.items in
    let w = c.args.here.now.site.now.widget in
    let s0 = c.args.store.now in
    let s1 = c.list.store in
    let s2 = c.exec_on.new.store in
    let p : State → Plan = λ s. Do (job_of fs w s1.cells (job.Exec c.in-Some.id c.args.here.now.at)) s Ret in
    let q : State → Plan = block_at fs w s1.cells c.args.block c.list.n c.args.here.now.at in
    let start : State → Plan = block_at fs w s0.cells c.args.block 0 c.args.here.now.at in
    let f = (frame.Statement (statement.Seq c.args.block (c.list.n + 1) c.args.here.now.at)) in
    let inv = c.list.invariant in
    let kept = c.in_ok-how.ensures.kept in
    let how = c.in_ok-how.how in
    let out = c.exec_on.new.out in
    let held : FineFrame fs w s1.cells f = inv.2 in
    let g = forest_at fs c.args.here.now.at.code in
    let has = subst (λ (o : Option StmtId). HasStmt g (block_list g c.args.block) c.list.n o) c.in-Some.is (listed (stmt_at g) (IsStmt g) c.args.list.now.items c.list.n (block_list g c.args.block) c.requires.list.0 c.requires.list.1 c.statement_in.result c.statement_in.ensures.value c.statement_in.ensures.room) in
    let listed = has.2 in
    let plan : (s : State) → q s ≡ and_then (p s) (taken fs w s1.cells f) = λ s. ap (λ l. statements l (place_of w s1.cells c.args.here.now.at) s) listed in
    let one = as_is fs w s1 s2 0 p c.list.run c.exec_on.new.run how ended.Normal out c.in-Normal.is c.in_ok-how.ensures.comes in (
      towards_each fs w s0 s1 s2 start q (block_at fs w s2.cells c.args.block (c.list.n + 1) c.args.here.now.at) c.args.run.now c.list.run c.exec_on.new.run inv.0
          (part_next fs w s1 s2 0 q p (block_at fs w s2.cells c.args.block (c.list.n + 1) c.args.here.now.at) f c.list.run c.exec_on.new.run ended.Normal (ended_as ended.Normal out) plan one tt kept.grows held (end_ready fs w s1 s2 0 p c.list.run c.exec_on.new.run ended.Normal (ended_as ended.Normal out) one tt inv.0.ready kept) (λ r. refl)),
      kept_then fs w s0 s1 s2 inv.1 kept,
      (place_fine fs w s1.cells s2.cells kept.grows c.args.here.now.at held.0, held.1),
    )

pub blocks::list_on-returns-in_default-2 : goal.blocks::list_on-returns-in_default-2
blocks::list_on-returns-in_default-2 t c =
    let fs = trees_of c.args.here.now.site.now.codes.now.items in
    let w = c.args.here.now.site.now.widget in
    let s0 = c.args.store.now in
    let s1 = c.list.store in
    let s2 = c.exec_on.new.store in
    let p : State → Plan = λ s. Do (job_of fs w s1.cells (job.Exec c.in-Some.id c.args.here.now.at)) s Ret in
    let q : State → Plan = block_at fs w s1.cells c.args.block c.list.n c.args.here.now.at in
    let start : State → Plan = block_at fs w s0.cells c.args.block 0 c.args.here.now.at in
    let f = (frame.Statement (statement.Seq c.args.block (c.list.n + 1) c.args.here.now.at)) in
    let inv = c.list.invariant in
    let kept = c.in_ok-how.ensures.kept in
    let how = c.in_ok-how.how in
    let out = c.exec_on.new.out in
    let held : FineFrame fs w s1.cells f = inv.2 in
    let g = forest_at fs c.args.here.now.at.code in
    let has = subst (λ (o : Option StmtId). HasStmt g (block_list g c.args.block) c.list.n o) c.in-Some.is (listed (stmt_at g) (IsStmt g) c.args.list.now.items c.list.n (block_list g c.args.block) c.requires.list.0 c.requires.list.1 c.statement_in.result c.statement_in.ensures.value c.statement_in.ensures.room) in
    let listed = has.2 in
    let plan : (s : State) → q s ≡ and_then (p s) (taken fs w s1.cells f) = λ s. ap (λ l. statements l (place_of w s1.cells c.args.here.now.at) s) listed in
    record {
      comes = IfOk-weaker c.hand_rest.result _ _
          (λ h x. towards_then fs w s0 s1 s2 1 1 start q c.args.run.now c.list.run c.hand_rest.new.run h (ended_as h out) inv.0 (planned fs w s1 s2 1 q _ c.list.run c.hand_rest.new.run h (ended_as h out) plan x) (omega arith))
          (hand_ok fs w c.hand_rest.result s1 s2 0 1 p f c.list.run c.exec_on.new.run c.hand_rest.new.run how out c.in_ok-how.ensures.comes
          (passes_normal fs w s2.cells f how out (λ t. block_at fs w s2.cells c.args.block (c.list.n + 1) c.args.here.now.at t) c.in_default-2.not-Normal (λ o t. refl)) kept held (omega arith) c.hand_rest.ensures);
      kept = kept_then fs w s0 s1 s2 inv.1 kept;
    }

pub blocks::list_on-returns-clause-comes : goal.blocks::list_on-returns-clause-comes
blocks::list_on-returns-clause-comes t c =
    let fs = trees_of c.args.here.now.site.now.codes.now.items in
    let w = c.args.here.now.site.now.widget in
    let s0 = c.args.store.now in
    let s1 = c.list.store in
    let g = forest_at fs c.args.here.now.at.code in
    let l = block_list g c.args.block in
    let q : State → Plan = block_at fs w s1.cells c.args.block c.list.n c.args.here.now.at in
    let start : State → Plan = block_at fs w s0.cells c.args.block 0 c.args.here.now.at in
    let inv = c.list.invariant in
    let none = subst (λ (o : Option StmtId). HasStmt g l c.list.n o) c.in_default.is (listed (stmt_at g) (IsStmt g) c.args.list.now.items c.list.n l c.requires.list.0 c.requires.list.1 c.statement_in.result c.statement_in.ensures.value c.statement_in.ensures.room) in
    towards_then fs w s0 s1 s1 1 1 start q c.args.run.now c.list.run c.list.run ended.Normal (ended_as ended.Normal c.list.out) inv.0
    (gives fs w s1 s1 1 q c.list.run c.list.run ended.Normal (ended_as ended.Normal c.list.out) tt refl inv.0.ready.2 (λ r. ap (λ x. statements x (place_of w s1.cells c.args.here.now.at) (image fs r w s1)) none) tt (omega arith)) (omega arith)

pub blocks::list_on-returns-in-Return-clause-comes : goal.blocks::list_on-returns-in-Return-clause-comes
blocks::list_on-returns-in-Return-clause-comes t c =
    let fs = trees_of c.args.here.now.site.now.codes.now.items in
    let w = c.args.here.now.site.now.widget in
    let s0 = c.args.store.now in
    let s1 = c.list.store in
    let s2 = c.exec_on.new.store in
    let p : State → Plan = λ s. Do (job_of fs w s1.cells (job.Exec c.in-Some.id c.args.here.now.at)) s Ret in
    let q : State → Plan = block_at fs w s1.cells c.args.block c.list.n c.args.here.now.at in
    let start : State → Plan = block_at fs w s0.cells c.args.block 0 c.args.here.now.at in
    let f = (frame.Statement (statement.Seq c.args.block (c.list.n + 1) c.args.here.now.at)) in
    let inv = c.list.invariant in
    let kept = c.in_ok-how.ensures.kept in
    let how = c.in_ok-how.how in
    let out = c.exec_on.new.out in
    let held : FineFrame fs w s1.cells f = inv.2 in
    let g = forest_at fs c.args.here.now.at.code in
    let has = subst (λ (o : Option StmtId). HasStmt g (block_list g c.args.block) c.list.n o) c.in-Some.is (listed (stmt_at g) (IsStmt g) c.args.list.now.items c.list.n (block_list g c.args.block) c.requires.list.0 c.requires.list.1 c.statement_in.result c.statement_in.ensures.value c.statement_in.ensures.room) in
    let listed = has.2 in
    let plan : (s : State) → q s ≡ and_then (p s) (taken fs w s1.cells f) = λ s. ap (λ l. statements l (place_of w s1.cells c.args.here.now.at) s) listed in
    let one = as_is fs w s1 s2 0 p c.list.run c.exec_on.new.run how ended.Return out c.in-Return.is c.in_ok-how.ensures.comes in
    towards_then fs w s0 s1 s2 1 1 start q c.args.run.now c.list.run c.exec_on.new.run ended.Return (ended_as ended.Return out) inv.0
    (planned fs w s1 s2 1 q _ c.list.run c.exec_on.new.run ended.Return (ended_as ended.Return out) plan
    (part_passes fs w s1 s2 0 1 p f c.list.run c.exec_on.new.run ended.Return (ended_as ended.Return out) one tt kept.grows held (λ t. refl) (omega arith))) (omega arith)

pub blocks::list_on-returns-in-Return-clause-kept : goal.blocks::list_on-returns-in-Return-clause-kept
blocks::list_on-returns-in-Return-clause-kept t c =
    kept_then (trees_of c.args.here.now.site.now.codes.now.items) c.args.here.now.site.now.widget c.args.store.now c.list.store c.exec_on.new.store c.list.invariant.1 c.in_ok-how.ensures.kept

pub blocks::any_on-returns-in_err-how-clause-kept : goal.blocks::any_on-returns-in_err-how-clause-kept
blocks::any_on-returns-in_err-how-clause-kept t c =
    kept_then (trees_of c.args.here.now.site.now.codes.now.items) c.args.here.now.site.now.widget c.args.store.now c.list.store c.exec_on.new.store c.list.invariant.1 c.in_err-how.ensures.kept

pub blocks::any_on-list-preserved : goal.blocks::any_on-list-preserved
blocks::any_on-list-preserved t c =
    let fs = trees_of c.args.here.now.site.now.codes.now.items in
    let w = c.args.here.now.site.now.widget in
    let s0 = c.args.store.now in
    let s1 = c.list.store in
    let s2 = c.exec_on.new.store in
    let p : State → Plan = λ s. Do (job_of fs w s1.cells (job.Exec c.in-Some.listed.id c.args.here.now.at)) s Ret in
    let q : State → Plan = block_at fs w s1.cells c.list.at c.list.n c.args.here.now.at in
    let start : State → Plan = block_at fs w s0.cells c.args.from.0 c.args.from.1 c.args.here.now.at in
    let f = (frame.Statement (statement.Seq c.in-Some.listed.block c.in-Some.listed.next c.args.here.now.at)) in
    let inv = c.list.invariant in
    let kept = c.in_ok-how.ensures.kept in
    let how = c.in_ok-how.how in
    let out = c.exec_on.new.out in
    let held : FineFrame fs w s1.cells f = (inv.2.0, subst (λ g. IsBlock g c.in-Some.listed.block) c.requires.tree c.in-Some.ensures.1) in
    let listed = subst (λ g. drop c.list.n (block_list g c.list.at) ≡ stmt_at g c.in-Some.listed.id ∷ drop c.in-Some.listed.next (block_list g c.in-Some.listed.block)) c.requires.tree c.in-Some.ensures.2 in
    let plan : (s : State) → q s ≡ and_then (p s) (taken fs w s1.cells f) = λ s. ap (λ l. statements l (place_of w s1.cells c.args.here.now.at) s) listed in
    let one = as_is fs w s1 s2 0 p c.list.run c.exec_on.new.run how ended.Normal out c.in-Normal.is c.in_ok-how.ensures.comes in (
      towards_each fs w s0 s1 s2 start q (block_at fs w s2.cells c.in-Some.listed.block c.in-Some.listed.next c.args.here.now.at) c.args.run.now c.list.run c.exec_on.new.run inv.0
          (part_next fs w s1 s2 0 q p (block_at fs w s2.cells c.in-Some.listed.block c.in-Some.listed.next c.args.here.now.at) f c.list.run c.exec_on.new.run ended.Normal (ended_as ended.Normal out) plan one tt kept.grows held (end_ready fs w s1 s2 0 p c.list.run c.exec_on.new.run ended.Normal (ended_as ended.Normal out) one tt inv.0.ready kept) (λ r. refl)),
      kept_then fs w s0 s1 s2 inv.1 kept,
      (place_fine fs w s1.cells s2.cells kept.grows c.args.here.now.at held.0, held.1),
    )

pub blocks::any_on-returns-in-Left-clause-comes : goal.blocks::any_on-returns-in-Left-clause-comes
blocks::any_on-returns-in-Left-clause-comes t c =
    let fs = trees_of c.args.here.now.site.now.codes.now.items in
    let w = c.args.here.now.site.now.widget in
    let s0 = c.args.store.now in
    let s1 = c.list.store in
    let s2 = c.exec_on.new.store in
    let p : State → Plan = λ s. Do (job_of fs w s1.cells (job.Exec c.in-Some.listed.id c.args.here.now.at)) s Ret in
    let q : State → Plan = block_at fs w s1.cells c.list.at c.list.n c.args.here.now.at in
    let start : State → Plan = block_at fs w s0.cells c.args.from.0 c.args.from.1 c.args.here.now.at in
    let f = (frame.Statement (statement.Seq c.in-Some.listed.block c.in-Some.listed.next c.args.here.now.at)) in
    let inv = c.list.invariant in
    let kept = c.in_ok-how.ensures.kept in
    let how = c.in_ok-how.how in
    let out = c.exec_on.new.out in
    let held : FineFrame fs w s1.cells f = (inv.2.0, subst (λ g. IsBlock g c.in-Some.listed.block) c.requires.tree c.in-Some.ensures.1) in
    let listed = subst (λ g. drop c.list.n (block_list g c.list.at) ≡ stmt_at g c.in-Some.listed.id ∷ drop c.in-Some.listed.next (block_list g c.in-Some.listed.block)) c.requires.tree c.in-Some.ensures.2 in
    let plan : (s : State) → q s ≡ and_then (p s) (taken fs w s1.cells f) = λ s. ap (λ l. statements l (place_of w s1.cells c.args.here.now.at) s) listed in
    let one = as_is fs w s1 s2 0 p c.list.run c.exec_on.new.run how ended.Left out c.in-Left.is c.in_ok-how.ensures.comes in
    waits_then fs w c.wait_rest.result s0 s1 s2 0 1 1 start q p f c.args.run.now c.list.run c.exec_on.new.run c.wait_rest.new.run ended.Left (ended_as ended.Left out) _ inv.0 plan one refl kept.grows held
    c.wait_rest.ensures.left c.wait_rest.ensures.waits c.wait_rest.ensures.next c.wait_rest.ensures.units (omega arith) (omega arith)

pub blocks::any_on-returns-in-Left-clause-kept : goal.blocks::any_on-returns-in-Left-clause-kept
blocks::any_on-returns-in-Left-clause-kept t c =
    let fs = trees_of c.args.here.now.site.now.codes.now.items in
    let w = c.args.here.now.site.now.widget in
    let s0 = c.args.store.now in
    let s1 = c.list.store in
    let s2 = c.exec_on.new.store in
    let p : State → Plan = λ s. Do (job_of fs w s1.cells (job.Exec c.in-Some.listed.id c.args.here.now.at)) s Ret in
    let q : State → Plan = block_at fs w s1.cells c.list.at c.list.n c.args.here.now.at in
    let start : State → Plan = block_at fs w s0.cells c.args.from.0 c.args.from.1 c.args.here.now.at in
    let f = (frame.Statement (statement.Seq c.in-Some.listed.block c.in-Some.listed.next c.args.here.now.at)) in
    let inv = c.list.invariant in
    let kept = c.in_ok-how.ensures.kept in
    let how = c.in_ok-how.how in
    let out = c.exec_on.new.out in
    let held : FineFrame fs w s1.cells f = (inv.2.0, subst (λ g. IsBlock g c.in-Some.listed.block) c.requires.tree c.in-Some.ensures.1) in
    let listed = subst (λ g. drop c.list.n (block_list g c.list.at) ≡ stmt_at g c.in-Some.listed.id ∷ drop c.in-Some.listed.next (block_list g c.in-Some.listed.block)) c.requires.tree c.in-Some.ensures.2 in
    let plan : (s : State) → q s ≡ and_then (p s) (taken fs w s1.cells f) = λ s. ap (λ l. statements l (place_of w s1.cells c.args.here.now.at) s) listed in
    kept_then fs w s0 s1 s2 inv.1 kept

pub blocks::any_on-returns-in_default-2 : goal.blocks::any_on-returns-in_default-2
blocks::any_on-returns-in_default-2 t c =
    let fs = trees_of c.args.here.now.site.now.codes.now.items in
    let w = c.args.here.now.site.now.widget in
    let s0 = c.args.store.now in
    let s1 = c.list.store in
    let s2 = c.exec_on.new.store in
    let p : State → Plan = λ s. Do (job_of fs w s1.cells (job.Exec c.in-Some.listed.id c.args.here.now.at)) s Ret in
    let q : State → Plan = block_at fs w s1.cells c.list.at c.list.n c.args.here.now.at in
    let start : State → Plan = block_at fs w s0.cells c.args.from.0 c.args.from.1 c.args.here.now.at in
    let f = (frame.Statement (statement.Seq c.in-Some.listed.block c.in-Some.listed.next c.args.here.now.at)) in
    let inv = c.list.invariant in
    let kept = c.in_ok-how.ensures.kept in
    let how = c.in_ok-how.how in
    let out = c.exec_on.new.out in
    let held : FineFrame fs w s1.cells f = (inv.2.0, subst (λ g. IsBlock g c.in-Some.listed.block) c.requires.tree c.in-Some.ensures.1) in
    let listed = subst (λ g. drop c.list.n (block_list g c.list.at) ≡ stmt_at g c.in-Some.listed.id ∷ drop c.in-Some.listed.next (block_list g c.in-Some.listed.block)) c.requires.tree c.in-Some.ensures.2 in
    let plan : (s : State) → q s ≡ and_then (p s) (taken fs w s1.cells f) = λ s. ap (λ l. statements l (place_of w s1.cells c.args.here.now.at) s) listed in
    record {
      comes = towards_then fs w s0 s1 s2 1 1 start q c.args.run.now c.list.run c.exec_on.new.run how (ended_as how out) inv.0
          (planned fs w s1 s2 1 q _ c.list.run c.exec_on.new.run how (ended_as how out) plan (other_normal fs w s1 s2 0 1 p f (λ t. block_at fs w s2.cells c.in-Some.listed.block c.in-Some.listed.next c.args.here.now.at t) c.list.run c.exec_on.new.run how out c.in_ok-how.ensures.comes c.in_default-2.not-Normal c.in_default-2.not-Left kept.grows held (λ o t. refl) (omega arith))) (omega arith);
      kept = kept_then fs w s0 s1 s2 inv.1 kept;
    }

pub calls::call_on-returns-in-Name-clause-comes : goal.calls::call_on-returns-in-Name-clause-comes
calls::call_on-returns-in-Name-clause-comes t c =
    let fs = trees_of c.args.here.now.site.now.codes.now.items in
    let w = c.args.here.now.site.now.widget in
    let s = c.args.store.now in
    let code = c.args.here.now.at.code in
    let f = trees c.args.here.now.tree.now in
    let node = c.expr.result.now in
    let pl = place_of w s.cells c.args.here.now.at in
    let j = job_of fs w s.cells (job.Target c.args.to c.args.here.now.at) in
    let es = arguments_of (expr_at (forest_at fs code) c.args.id) in
    let k = callee es pl in
    let p = arguments_then (meaning.Variable c.in-Name.name) [] es pl in
    IfOk-weaker c.call_name.result _ _
    (λ how h. unit_first fs w s c.call_name.new.store 5 30 j p k c.args.run.now (record c.args.run.now { units = c.args.run.now.units - 1 }) c.call_name.new.run how (ended_as how c.call_name.new.out) (less_one c.args.run.now.units c.if-run-eq0.false)
    (λ x. ap (λ q. and_then q k) (at_target fs code f c.args.to node c.requires.tree c.expr.ensures.same pl x ∙ ap (λ (e : Expr). target (plain_form (forest_at fs code) e) pl x) c.in-Name.is)) h (omega arith))
    c.call_name.ensures.comes

pub calls::called_name-arguments_on-requires : goal.calls::called_name-arguments_on-requires
calls::called_name-arguments_on-requires t c = (
  search rules,
  (
    (c.requires.ready),
    (
      (c.requires.held),
      (
        c.requires.tree,
        (c.requires.none),
      ),
    ),
  ),
)

pub calls::called_name-variable_on-requires : goal.calls::called_name-variable_on-requires
calls::called_name-variable_on-requires t c = (
  search rules,
  (
    (
        let fs = trees_of c.args.here.now.site.now.codes.now.items in
        let w = c.args.here.now.site.now.widget in
        let old = c.args.store.now in
        let mid = c.arguments_on.new.store in
        let at = c.args.here.now.at in
        let es = arguments_of (expr_at (forest_at fs at.code) c.args.id) in
        let p = place_of w old.cells at in
        let vs = c.arguments_on.new.args.items in
        (c.requires.ready.0, c.arguments_on.ensures.kept.confined c.requires.ready.1, argued_waits_none fs w es p old mid vs c.args.run.now c.arguments_on.new.run c.in_ok-how.how c.arguments_on.new.out c.in_ok-how.ensures.comes c.in-Is.is)
        ),
    (
        let fs = trees_of c.args.here.now.site.now.codes.now.items in
        let w = c.args.here.now.site.now.widget in
        let old = c.args.store.now in
        let mid = c.arguments_on.new.store in
        let at = c.args.here.now.at in
        let es = arguments_of (expr_at (forest_at fs at.code) c.args.id) in
        let p = place_of w old.cells at in
        let vs = c.arguments_on.new.args.items in
        (place_fine fs w old.cells mid.cells c.arguments_on.ensures.kept.grows at c.requires.held.0, c.in_ok-how.ensures.comes.all)
        ),
  ),
)

pub calls::called_name-returns-in-Is-clause-comes : goal.calls::called_name-returns-in-Is-clause-comes
calls::called_name-returns-in-Is-clause-comes t c =
    let fs = trees_of c.args.here.now.site.now.codes.now.items in
    let w = c.args.here.now.site.now.widget in
    let old = c.args.store.now in
    let mid = c.arguments_on.new.store in
    let at = c.args.here.now.at in
    let es = arguments_of (expr_at (forest_at fs at.code) c.args.id) in
    let p = place_of w old.cells at in
    let vs = c.arguments_on.new.args.items in
    IfOk-weaker c.variable_on.result _ _
    (λ how h. argued_then fs w es p old mid vs c.args.run.now c.arguments_on.new.run c.in_ok-how.how c.arguments_on.new.out c.in_ok-how.ensures.comes (meaning.Variable c.args.name.now) (meaning.Variable c.args.name.now) (place_of w mid.cells at) c.variable_on.new.store c.variable_on.new.run how (ended_as how c.variable_on.new.out) c.in-Is.is (refl) (place_same fs w old.cells mid.cells c.arguments_on.ensures.kept.grows at c.requires.held.0) h)
    c.variable_on.ensures.comes

pub calls::called_name-returns-in-Is-clause-kept : goal.calls::called_name-returns-in-Is-clause-kept
calls::called_name-returns-in-Is-clause-kept t c =
    let fs = trees_of c.args.here.now.site.now.codes.now.items in
    let w = c.args.here.now.site.now.widget in
    kept_then fs w c.args.store.now c.arguments_on.new.store c.variable_on.new.store c.arguments_on.ensures.kept c.variable_on.ensures.kept

pub calls::called_name-returns-in_default-clause-comes : goal.calls::called_name-returns-in_default-clause-comes
calls::called_name-returns-in_default-clause-comes t c =
    let fs = trees_of c.args.here.now.site.now.codes.now.items in
    let w = c.args.here.now.site.now.widget in
    let old = c.args.store.now in
    let mid = c.arguments_on.new.store in
    let at = c.args.here.now.at in
    let es = arguments_of (expr_at (forest_at fs at.code) c.args.id) in
    let p = place_of w old.cells at in
    let vs = c.arguments_on.new.args.items in
    argued_hands fs w es p old mid vs c.args.run.now c.arguments_on.new.run c.in_ok-how.how c.arguments_on.new.out c.in_ok-how.ensures.comes
    (meaning.Variable c.args.name.now) (record { of = reference.Variable c.args.name.now; args = c.arguments_on.new.args; call = c.args.id; next = length c.arguments_on.new.args.items + 1; place = at }) (refl) refl refl refl (place_same fs w old.cells mid.cells c.arguments_on.ensures.kept.grows at c.requires.held.0)
    (tt) (place_fine fs w old.cells mid.cells c.arguments_on.ensures.kept.grows at c.requires.held.0, c.requires.held.1) c.hand_named.result c.hand_named.new.run c.in_default.not-Is c.hand_named.ensures

pub calls::called_name-returns-in_default-clause-kept : goal.calls::called_name-returns-in_default-clause-kept
calls::called_name-returns-in_default-clause-kept t c = c.arguments_on.ensures.kept

pub calls::called_name-returns-in_err-how-clause-comes : goal.calls::called_name-returns-in_err-how-clause-comes
calls::called_name-returns-in_err-how-clause-comes t c = refused c.from_residual.result _ c.from_residual.ensures.0

pub calls::called_name-returns-in_err-how-clause-kept : goal.calls::called_name-returns-in_err-how-clause-kept
calls::called_name-returns-in_err-how-clause-kept t c = c.arguments_on.ensures.kept

pub calls::called_any-reached_on-requires : goal.calls::called_any-reached_on-requires
calls::called_any-reached_on-requires t c = (
  search rules,
  (
    (
        let fs = trees_of c.args.here.now.site.now.codes.now.items in
        let w = c.args.here.now.site.now.widget in
        let old = c.args.store.now in
        let p : State → Plan = λ s. Do (job_of fs w old.cells (job.Target c.args.to c.args.here.now.at)) s Ret in
        value_ready fs w old c.target_on.new.store 0 p c.args.run.now c.target_on.new.run c.in_ok-how.how (target_as c.in_ok-how.how c.target_on.new.of c.target_on.new.out) c.in_ok-how.ensures.comes c.in-Is.is c.target_on.ensures.kept c.requires.ready
        ),
    (
      (
          let fs = trees_of c.args.here.now.site.now.codes.now.items in
          let w = c.args.here.now.site.now.widget in
          let old = c.args.store.now in
          let p : State → Plan = λ s. Do (job_of fs w old.cells (job.Target c.args.to c.args.here.now.at)) s Ret in (
            expr_stays fs w old.cells c.target_on.new.store.cells c.target_on.ensures.kept.grows c.args.id c.args.here.now.at c.requires.held.0,
            target_fine fs w old c.target_on.new.store 0 p c.args.run.now c.target_on.new.run c.in_ok-how.how c.target_on.new.of c.target_on.new.out c.in_ok-how.ensures.comes c.in-Is.is,
          )
          ),
      c.requires.tree,
    ),
  ),
)

pub calls::called_any-returns-in-Is-clause-comes : goal.calls::called_any-returns-in-Is-clause-comes
calls::called_any-returns-in-Is-clause-comes t c =
    let fs = trees_of c.args.here.now.site.now.codes.now.items in
    let w = c.args.here.now.site.now.widget in
    let old = c.args.store.now in
    let mid = c.target_on.new.store in
    let p : State → Plan = λ s. Do (job_of fs w old.cells (job.Target c.args.to c.args.here.now.at)) s Ret in
    IfOk-weaker c.reached_on.result _ _
    (λ how h. callee_there fs w old mid p c.args.run.now c.target_on.new.run _ c.target_on.new.of c.target_on.new.out c.args.id c.args.here.now.at c.requires.held.0 c.target_on.ensures.kept
    c.in_ok-how.ensures.comes c.reached_on.new.store c.reached_on.new.run how (ended_as how c.reached_on.new.out) c.in-Is.is h)
    c.reached_on.ensures.comes

pub calls::called_any-returns-in-Is-clause-kept : goal.calls::called_any-returns-in-Is-clause-kept
calls::called_any-returns-in-Is-clause-kept t c =
    kept_then (trees_of c.args.here.now.site.now.codes.now.items) c.args.here.now.site.now.widget c.args.store.now c.target_on.new.store c.reached_on.new.store c.target_on.ensures.kept c.reached_on.ensures.kept

pub calls::called_any-returns-in_default-clause-comes : goal.calls::called_any-returns-in_default-clause-comes
calls::called_any-returns-in_default-clause-comes t c =
    let fs = trees_of c.args.here.now.site.now.codes.now.items in
    let w = c.args.here.now.site.now.widget in
    let old = c.args.store.now in
    let mid = c.target_on.new.store in
    let p : State → Plan = λ s. Do (job_of fs w old.cells (job.Target c.args.to c.args.here.now.at)) s Ret in
    callee_hands fs w old mid p c.args.run.now c.target_on.new.run c.in_ok-how.how c.target_on.new.of c.target_on.new.out c.args.id c.args.here.now.at c.requires.held.0 c.target_on.ensures.kept
    c.in_ok-how.ensures.comes c.hand_callee.result c.hand_callee.new.run c.in_default.not-Is c.hand_callee.ensures

pub calls::called_any-returns-in_default-clause-kept : goal.calls::called_any-returns-in_default-clause-kept
calls::called_any-returns-in_default-clause-kept t c = c.target_on.ensures.kept

pub calls::called_any-target_on-requires : goal.calls::called_any-target_on-requires
calls::called_any-target_on-requires t c = (
  search rules,
  (
    (c.requires.ready),
    (
      (c.requires.held.1),
      c.requires.tree,
    ),
  ),
)

pub calls::called_any-returns-in_err-how-clause-comes : goal.calls::called_any-returns-in_err-how-clause-comes
calls::called_any-returns-in_err-how-clause-comes t c = refused c.from_residual.result _ c.from_residual.ensures.0

pub calls::called_any-returns-in_err-how-clause-kept : goal.calls::called_any-returns-in_err-how-clause-kept
calls::called_any-returns-in_err-how-clause-kept t c = c.target_on.ensures.kept

pub calls::method_on-arguments_on-requires : goal.calls::method_on-arguments_on-requires
calls::method_on-arguments_on-requires t c = (
  search rules,
  (
    (c.requires.ready),
    (
      (c.requires.held.0),
      (
        c.requires.tree,
        (c.requires.none),
      ),
    ),
  ),
)

pub calls::method_on-referred_on-requires : goal.calls::method_on-referred_on-requires
calls::method_on-referred_on-requires t c = (
  search rules,
  (
    (
        let fs = trees_of c.args.here.now.site.now.codes.now.items in
        let w = c.args.here.now.site.now.widget in
        let old = c.args.store.now in
        let mid = c.arguments_on.new.store in
        let at = c.args.here.now.at in
        let es = arguments_of (expr_at (forest_at fs at.code) c.args.id) in
        let p = place_of w old.cells at in
        let vs = c.arguments_on.new.args.items in
        (c.requires.ready.0, c.arguments_on.ensures.kept.confined c.requires.ready.1, argued_waits_none fs w es p old mid vs c.args.run.now c.arguments_on.new.run c.in_ok-how.how c.arguments_on.new.out c.in_ok-how.ensures.comes c.in-Is.is)
        ),
    (
        let fs = trees_of c.args.here.now.site.now.codes.now.items in
        let w = c.args.here.now.site.now.widget in
        let old = c.args.store.now in
        let mid = c.arguments_on.new.store in
        let at = c.args.here.now.at in
        let es = arguments_of (expr_at (forest_at fs at.code) c.args.id) in
        let p = place_of w old.cells at in
        let vs = c.arguments_on.new.args.items in
        (place_fine fs w old.cells mid.cells c.arguments_on.ensures.kept.grows at c.requires.held.0.0, reference_fine w old.cells mid.cells c.arguments_on.ensures.kept.grows c.args.of.now c.requires.held.1, c.in_ok-how.ensures.comes.all)
        ),
  ),
)

pub calls::method_on-returns-in-Is-clause-comes : goal.calls::method_on-returns-in-Is-clause-comes
calls::method_on-returns-in-Is-clause-comes t c =
    let fs = trees_of c.args.here.now.site.now.codes.now.items in
    let w = c.args.here.now.site.now.widget in
    let old = c.args.store.now in
    let mid = c.arguments_on.new.store in
    let at = c.args.here.now.at in
    let es = arguments_of (expr_at (forest_at fs at.code) c.args.id) in
    let p = place_of w old.cells at in
    let vs = c.arguments_on.new.args.items in
    IfOk-weaker c.referred_on.result _ _
    (λ how h. argued_then fs w es p old mid vs c.args.run.now c.arguments_on.new.run c.in_ok-how.how c.arguments_on.new.out c.in_ok-how.ensures.comes (reference_of w old.cells c.args.of.now) (reference_of w mid.cells c.args.of.now) (place_of w mid.cells at) c.referred_on.new.store c.referred_on.new.run how (ended_as how c.referred_on.new.out) c.in-Is.is (reference_same w old.cells mid.cells c.arguments_on.ensures.kept.grows c.args.of.now c.requires.held.1) (place_same fs w old.cells mid.cells c.arguments_on.ensures.kept.grows at c.requires.held.0.0) h)
    c.referred_on.ensures.comes

pub calls::method_on-returns-in-Is-clause-kept : goal.calls::method_on-returns-in-Is-clause-kept
calls::method_on-returns-in-Is-clause-kept t c =
    let fs = trees_of c.args.here.now.site.now.codes.now.items in
    let w = c.args.here.now.site.now.widget in
    kept_then fs w c.args.store.now c.arguments_on.new.store c.referred_on.new.store c.arguments_on.ensures.kept c.referred_on.ensures.kept

pub calls::method_on-returns-in_default-clause-comes : goal.calls::method_on-returns-in_default-clause-comes
calls::method_on-returns-in_default-clause-comes t c =
    let fs = trees_of c.args.here.now.site.now.codes.now.items in
    let w = c.args.here.now.site.now.widget in
    let old = c.args.store.now in
    let mid = c.arguments_on.new.store in
    let at = c.args.here.now.at in
    let es = arguments_of (expr_at (forest_at fs at.code) c.args.id) in
    let p = place_of w old.cells at in
    let vs = c.arguments_on.new.args.items in
    argued_hands fs w es p old mid vs c.args.run.now c.arguments_on.new.run c.in_ok-how.how c.arguments_on.new.out c.in_ok-how.ensures.comes
    (reference_of w old.cells c.args.of.now) (record { of = c.args.of.now; args = c.arguments_on.new.args; call = c.args.id; next = length c.arguments_on.new.args.items + 1; place = at }) (reference_same w old.cells mid.cells c.arguments_on.ensures.kept.grows c.args.of.now c.requires.held.1) refl refl refl (place_same fs w old.cells mid.cells c.arguments_on.ensures.kept.grows at c.requires.held.0.0)
    (reference_fine w old.cells mid.cells c.arguments_on.ensures.kept.grows c.args.of.now c.requires.held.1) (place_fine fs w old.cells mid.cells c.arguments_on.ensures.kept.grows at c.requires.held.0.0, c.requires.held.0.1) c.hand_argument.result c.hand_argument.new.run c.in_default.not-Is c.hand_argument.ensures

pub calls::method_on-returns-in_default-clause-kept : goal.calls::method_on-returns-in_default-clause-kept
calls::method_on-returns-in_default-clause-kept t c = c.arguments_on.ensures.kept

pub calls::method_on-returns-in_err-how-clause-comes : goal.calls::method_on-returns-in_err-how-clause-comes
calls::method_on-returns-in_err-how-clause-comes t c = refused c.from_residual.result _ c.from_residual.ensures.0

pub calls::method_on-returns-in_err-how-clause-kept : goal.calls::method_on-returns-in_err-how-clause-kept
calls::method_on-returns-in_err-how-clause-kept t c = c.arguments_on.ensures.kept

pub calls::arguments_on-arguments-init : goal.calls::arguments_on-arguments-init
calls::arguments_on-arguments-init t c =
    let fs = trees_of c.args.here.now.site.now.codes.now.items in
    let w = c.args.here.now.site.now.widget in
    let old = c.args.store.now in
    let es = arguments_of (expr_at (forest_at fs c.args.here.now.at.code) c.args.id) in
    record {
      argued = none_there fs w es (place_of w old.cells c.args.here.now.at) old c.args.args.now.items c.args.run.now c.requires.none c.requires.ready.2;
      kept = kept_same fs w old old refl;
      counted = sym (ap length c.requires.none);
    }

pub calls::arguments_on-arguments-preserved : goal.calls::arguments_on-arguments-preserved
calls::arguments_on-arguments-preserved t c =
    let fs = trees_of c.args.here.now.site.now.codes.now.items in
    let w = c.args.here.now.site.now.widget in
    let old = c.args.store.now in
    let cur = c.arguments.store in
    let at = c.args.here.now.at in
    let es = arguments_of (expr_at (forest_at fs at.code) c.args.id) in
    let p = place_of w old.cells at in
    let vs = c.arguments.args.items in
    record {
      argued = one_there fs w es p old cur vs c.args.run.now c.arguments.run at c.in-Some.e c.arguments.invariant.argued
          (place_same fs w old.cells cur.cells c.arguments.invariant.kept.grows at c.requires.held.0) (more_at es c.arguments.n vs _ c.arguments.invariant.counted c.in-Some.ensures.2)
          c.operand_on.new.store c.put_argument.new.args.items c.operand_on.new.run c.in_ok-other.other c.operand_on.new.out c.in_ok-other.ensures.comes c.in-Is.is c.operand_on.ensures.kept.grows c.in_ok-put_argument-in-Is.ensures;
      kept = kept_then fs w old cur c.operand_on.new.store c.arguments.invariant.kept c.operand_on.ensures.kept;
      counted = counted c.arguments.n vs c.put_argument.new.args.items c.operand_on.new.out c.arguments.invariant.counted c.in_ok-put_argument-in-Is.ensures;
    }

pub calls::arguments_on-arguments-smaller : goal.calls::arguments_on-arguments-smaller
calls::arguments_on-arguments-smaller t c = fewer _ _ c.arguments.n _ c.in-Some.ensures.2

pub calls::arguments_on-argument_left-requires-clause-call : goal.calls::arguments_on-argument_left-requires-clause-call
calls::arguments_on-argument_left-requires-clause-call t c = c.requires.held.1

pub calls::arguments_on-operand_on-requires : goal.calls::arguments_on-operand_on-requires
calls::arguments_on-operand_on-requires t c = (
  search rules,
  (
    ((c.requires.ready.0, c.arguments.invariant.kept.confined c.requires.ready.1, c.arguments.invariant.argued.waits)),
    (
      (
          let fs = trees_of c.args.here.now.site.now.codes.now.items in
          let w = c.args.here.now.site.now.widget in
          (place_fine fs w c.args.store.now.cells c.arguments.store.cells c.arguments.invariant.kept.grows c.args.here.now.at c.requires.held.0, c.in-Some.ensures.0)
          ),
      c.requires.tree,
    ),
  ),
)

pub calls::arguments_on-returns-in_default-2 : goal.calls::arguments_on-returns-in_default-2
calls::arguments_on-returns-in_default-2 t c =
    let fs = trees_of c.args.here.now.site.now.codes.now.items in
    let w = c.args.here.now.site.now.widget in
    let old = c.args.store.now in
    let cur = c.arguments.store in
    let at = c.args.here.now.at in
    let es = arguments_of (expr_at (forest_at fs at.code) c.args.id) in
    let p = place_of w old.cells at in
    let vs = c.arguments.args.items in
    record {
      comes = other_there fs w es p old cur vs c.args.run.now c.arguments.run at c.in-Some.e c.arguments.invariant.argued
          (place_same fs w old.cells cur.cells c.arguments.invariant.kept.grows at c.requires.held.0) (more_at es c.arguments.n vs _ c.arguments.invariant.counted c.in-Some.ensures.2)
          c.operand_on.new.store vs c.operand_on.new.run c.in_ok-other.other c.operand_on.new.out c.in_ok-other.ensures.comes c.in_default-2.not-Is c.operand_on.ensures.kept.grows refl;
      kept = kept_then fs w old cur c.operand_on.new.store c.arguments.invariant.kept c.operand_on.ensures.kept;
    }

pub calls::arguments_on-returns-in_err-other-clause-kept : goal.calls::arguments_on-returns-in_err-other-clause-kept
calls::arguments_on-returns-in_err-other-clause-kept t c =
    let fs = trees_of c.args.here.now.site.now.codes.now.items in
    let w = c.args.here.now.site.now.widget in
    kept_then fs w c.args.store.now c.arguments.store c.operand_on.new.store c.arguments.invariant.kept c.operand_on.ensures.kept

pub calls::arguments_on-returns-in_err-put_argument-in-Is-clause-kept : goal.calls::arguments_on-returns-in_err-put_argument-in-Is-clause-kept
calls::arguments_on-returns-in_err-put_argument-in-Is-clause-kept t c =
    let fs = trees_of c.args.here.now.site.now.codes.now.items in
    let w = c.args.here.now.site.now.widget in
    kept_then fs w c.args.store.now c.arguments.store c.operand_on.new.store c.arguments.invariant.kept c.operand_on.ensures.kept

pub calls::arguments_on-returns-in_err-other-clause-comes : goal.calls::arguments_on-returns-in_err-other-clause-comes
calls::arguments_on-returns-in_err-other-clause-comes t c = refused c.from_residual.result _ c.from_residual.ensures.0

pub calls::arguments_on-returns-in_err-put_argument-in-Is-clause-comes : goal.calls::arguments_on-returns-in_err-put_argument-in-Is-clause-comes
calls::arguments_on-returns-in_err-put_argument-in-Is-clause-comes t c = refused c.from_residual-in_err-put_argument-in-Is.result _ c.from_residual-in_err-put_argument-in-Is.ensures.0

pub calls::arguments_on-returns-clause-comes : goal.calls::arguments_on-returns-clause-comes
calls::arguments_on-returns-clause-comes t c =
    let fs = trees_of c.args.here.now.site.now.codes.now.items in
    let w = c.args.here.now.site.now.widget in
    let old = c.args.store.now in
    let cur = c.arguments.store in
    let at = c.args.here.now.at in
    let es = arguments_of (expr_at (forest_at fs at.code) c.args.id) in
    let p = place_of w old.cells at in
    let vs = c.arguments.args.items in
    all_there fs w es p old cur vs c.args.run.now c.arguments.run _ c.arguments.invariant.argued (subst (λ (k : ℕ). drop k es ≡ []) c.arguments.invariant.counted c.in_default.ensures)

pub calls::arguments_on-returns-clause-kept : goal.calls::arguments_on-returns-clause-kept
calls::arguments_on-returns-clause-kept t c = c.arguments.invariant.kept

pub calls::variable_on-value_on-requires : goal.calls::variable_on-value_on-requires
calls::variable_on-value_on-requires t c = (
  search rules,
  (
    search rules,
    (
        let fs = trees_of c.args.here.now.site.now.codes.now.items in
        let w = c.args.here.now.site.now.widget in
        let s = c.args.store.now in
        (subst (IsFine w s.cells) (sym c.in_ok-share_to.ensures) (c.variable_at.ensures.fine fs w c.requires.ready.1 c.requires.held.0.1), tt, c.requires.held.1)
        ),
  ),
)

pub calls::variable_on-returns-clause-comes : goal.calls::variable_on-returns-clause-comes
calls::variable_on-returns-clause-comes t c =
    let fs = trees_of c.args.here.now.site.now.codes.now.items in
    let w = c.args.here.now.site.now.widget in
    let s = c.args.store.now in
    let func = c.share_to.new.out in
    let vs = all_seen w s.cells c.args.args.now.items in
    let d = c.args.here.now.at.depth in
    let pl = place_of w s.cells c.args.here.now.at in
    IfOk-weaker c.value_on.result _ _
    (λ how h. after_store fs w s s c.value_on.new.store 4 (invoke (seen w s.cells func) None vs d) (arguments_then (meaning.Variable c.args.name.now) vs [] pl) c.args.run.now c.value_on.new.run how (ended_as how c.value_on.new.out) h
    (λ r. ap (λ u. invoke u None vs d (image fs r w s)) (sym (ap (seen w s.cells) c.in_ok-share_to.ensures ∙ c.variable_at.ensures.found fs r w d c.requires.ready.1 c.requires.held.0.1))))
    c.value_on.ensures.comes

pub calls::referred_on-value_far-requires : goal.calls::referred_on-value_far-requires
calls::referred_on-value_far-requires t c = (
  search rules,
  (
    search rules,
    (
        let fs = trees_of c.args.here.now.site.now.codes.now.items in
        let w = c.args.here.now.site.now.widget in
        let s = c.args.store.now in
        (c.in_ok-func.ensures.fine, c.take_base-this.ensures.fine w s c.requires.held.1, c.requires.held.2)
        ),
  ),
)

pub calls::referred_on-returns-clause-comes : goal.calls::referred_on-returns-clause-comes
calls::referred_on-returns-clause-comes t c =
    let fs = trees_of c.args.here.now.site.now.codes.now.items in
    let w = c.args.here.now.site.now.widget in
    let s = c.args.store.now in
    let func = c.in_ok-func.func in
    let this = option_map (seen w s.cells) c.take_base-this.result in
    let vs = all_seen w s.cells c.args.args.now.items in
    let d = c.args.here.now.at.depth in
    let pl = place_of w s.cells c.args.here.now.at in
    let of = reference_of w s.cells c.args.of.now in
    IfOk-weaker c.value_far.result _ _
    (λ how h. after_store fs w s s c.value_far.new.store 4 (invoke (seen w s.cells func) this vs d) (arguments_then of vs [] pl) c.args.run.now c.value_far.new.run how (ended_as how c.value_far.new.out) h
    (λ r. ap (λ u. invoke u (base_of of) vs d (image fs r w s)) (sym (c.in_ok-func.ensures.found r)) ∙ ap (λ b. invoke (seen w s.cells func) b vs d (image fs r w s)) (sym (c.take_base-this.ensures.base w s))))
    c.value_far.ensures.comes

pub catching::try_on-returns-in-Left-clause-comes : goal.catching::try_on-returns-in-Left-clause-comes
catching::try_on-returns-in-Left-clause-comes t c =
    let fs = trees_of c.args.here.now.site.now.codes.now.items in
    let w = c.args.here.now.site.now.widget in
    let at = c.args.here.now.at in
    let old = c.args.store.now in
    let mid = c.tried_on.new.store in
    let p : State → Plan = λ s. and_then (block_at fs w old.cells (block.Try c.args.id) 0 at s) (taken fs w old.cells (frame.Statement (statement.Caught c.args.id at))) in
    let f = frame.Statement (statement.Finally c.args.id at) in
    let had = c.args.run.now in
    let has = c.tried_on.new.run in
    let how = c.in_ok-how.how in
    let out = c.tried_on.new.out in
    let part = c.in_ok-how.ensures.comes in
    let kept = c.in_ok-how.ensures.kept in
    waits_ok fs w c.wait.result old mid 3 30 p f had has c.wait.new.run how (ended_as how out) out part c.in-Left.is kept.grows c.requires.held
    c.wait.ensures.left c.wait.ensures.waits c.wait.ensures.next c.wait.ensures.units (omega arith)

pub catching::try_on-finally_on-requires : goal.catching::try_on-finally_on-requires
catching::try_on-finally_on-requires t c = (
  search rules,
  (
    (
        let fs = trees_of c.args.here.now.site.now.codes.now.items in
        let w = c.args.here.now.site.now.widget in
        let at = c.args.here.now.at in
        let old = c.args.store.now in
        let mid = c.tried_on.new.store in
        let p : State → Plan = λ s. and_then (block_at fs w old.cells (block.Try c.args.id) 0 at s) (taken fs w old.cells (frame.Statement (statement.Caught c.args.id at))) in
        let f = frame.Statement (statement.Finally c.args.id at) in
        let had = c.args.run.now in
        let has = c.tried_on.new.run in
        let how = c.in_ok-how.how in
        let out = c.tried_on.new.out in
        let part = c.in_ok-how.ensures.comes in
        let kept = c.in_ok-how.ensures.kept in
        let end = is_end how c.in_default.not-Left in
        end_ready fs w old mid 3 p had has how (ended_as how out) part end c.requires.ready kept
        ),
    (
      (
          let fs = trees_of c.args.here.now.site.now.codes.now.items in
          let w = c.args.here.now.site.now.widget in
          let at = c.args.here.now.at in
          let old = c.args.store.now in
          let mid = c.tried_on.new.store in
          let p : State → Plan = λ s. and_then (block_at fs w old.cells (block.Try c.args.id) 0 at s) (taken fs w old.cells (frame.Statement (statement.Caught c.args.id at))) in
          let f = frame.Statement (statement.Finally c.args.id at) in
          let had = c.args.run.now in
          let has = c.tried_on.new.run in
          let how = c.in_ok-how.how in
          let out = c.tried_on.new.out in
          let part = c.in_ok-how.ensures.comes in
          let kept = c.in_ok-how.ensures.kept in
          let end = is_end how c.in_default.not-Left in
          (place_fine fs w old.cells mid.cells kept.grows at c.requires.held.0, c.requires.held.1)
          ),
      (
        c.requires.tree,
        (
            let fs = trees_of c.args.here.now.site.now.codes.now.items in
            let w = c.args.here.now.site.now.widget in
            let at = c.args.here.now.at in
            let old = c.args.store.now in
            let mid = c.tried_on.new.store in
            let p : State → Plan = λ s. and_then (block_at fs w old.cells (block.Try c.args.id) 0 at s) (taken fs w old.cells (frame.Statement (statement.Caught c.args.id at))) in
            let f = frame.Statement (statement.Finally c.args.id at) in
            let had = c.args.run.now in
            let has = c.tried_on.new.run in
            let how = c.in_ok-how.how in
            let out = c.tried_on.new.out in
            let part = c.in_ok-how.ensures.comes in
            let kept = c.in_ok-how.ensures.kept in
            let end = is_end how c.in_default.not-Left in
            (end, end_fine fs w old mid 3 p had has how (ended_as how out) part end)
            ),
      ),
    ),
  ),
)

pub catching::try_on-returns-in_default-clause-comes : goal.catching::try_on-returns-in_default-clause-comes
catching::try_on-returns-in_default-clause-comes t c =
    let fs = trees_of c.args.here.now.site.now.codes.now.items in
    let w = c.args.here.now.site.now.widget in
    let at = c.args.here.now.at in
    let old = c.args.store.now in
    let mid = c.tried_on.new.store in
    let p : State → Plan = λ s. and_then (block_at fs w old.cells (block.Try c.args.id) 0 at s) (taken fs w old.cells (frame.Statement (statement.Caught c.args.id at))) in
    let f = frame.Statement (statement.Finally c.args.id at) in
    let had = c.args.run.now in
    let has = c.tried_on.new.run in
    let how = c.in_ok-how.how in
    let out = c.tried_on.new.out in
    let part = c.in_ok-how.ensures.comes in
    let kept = c.in_ok-how.ensures.kept in
    let end = is_end how c.in_default.not-Left in
    IfOk-weaker c.finally_on.result _ _
    (λ h x. part_then fs w old mid c.finally_on.new.store 3 4 30 p f had has c.finally_on.new.run how h (ended_as how out) (ended_as h c.finally_on.new.out) part end kept.grows c.requires.held x (omega arith))
    c.finally_on.ensures.comes

pub catching::try_on-returns-in_default-clause-kept : goal.catching::try_on-returns-in_default-clause-kept
catching::try_on-returns-in_default-clause-kept t c =
    let fs = trees_of c.args.here.now.site.now.codes.now.items in
    let w = c.args.here.now.site.now.widget in
    let at = c.args.here.now.at in
    let old = c.args.store.now in
    let mid = c.tried_on.new.store in
    let p : State → Plan = λ s. and_then (block_at fs w old.cells (block.Try c.args.id) 0 at s) (taken fs w old.cells (frame.Statement (statement.Caught c.args.id at))) in
    let f = frame.Statement (statement.Finally c.args.id at) in
    let had = c.args.run.now in
    let has = c.tried_on.new.run in
    let how = c.in_ok-how.how in
    let out = c.tried_on.new.out in
    let part = c.in_ok-how.ensures.comes in
    let kept = c.in_ok-how.ensures.kept in
    kept_then fs w old mid c.finally_on.new.store kept c.finally_on.ensures.kept

pub catching::tried_on-returns-in-Left-clause-comes : goal.catching::tried_on-returns-in-Left-clause-comes
catching::tried_on-returns-in-Left-clause-comes t c =
    let fs = trees_of c.args.here.now.site.now.codes.now.items in
    let w = c.args.here.now.site.now.widget in
    let at = c.args.here.now.at in
    let old = c.args.store.now in
    let mid = c.block_on.new.store in
    let p : State → Plan = block_at fs w old.cells (block.Try c.args.id) 0 at in
    let f = frame.Statement (statement.Caught c.args.id at) in
    let had = c.args.run.now in
    let has = c.block_on.new.run in
    let how = c.in_ok-how.how in
    let out = c.block_on.new.out in
    let part = c.in_ok-how.ensures.comes in
    let kept = c.in_ok-how.ensures.kept in
    waits_ok fs w c.wait.result old mid 1 3 p f had has c.wait.new.run how (ended_as how out) out part c.in-Left.is kept.grows c.requires.held
    c.wait.ensures.left c.wait.ensures.waits c.wait.ensures.next c.wait.ensures.units (omega arith)

pub catching::tried_on-caught_on-requires : goal.catching::tried_on-caught_on-requires
catching::tried_on-caught_on-requires t c = (
  search rules,
  (
    (
        let fs = trees_of c.args.here.now.site.now.codes.now.items in
        let w = c.args.here.now.site.now.widget in
        let at = c.args.here.now.at in
        let old = c.args.store.now in
        let mid = c.block_on.new.store in
        let p : State → Plan = block_at fs w old.cells (block.Try c.args.id) 0 at in
        let f = frame.Statement (statement.Caught c.args.id at) in
        let had = c.args.run.now in
        let has = c.block_on.new.run in
        let how = c.in_ok-how.how in
        let out = c.block_on.new.out in
        let part = c.in_ok-how.ensures.comes in
        let kept = c.in_ok-how.ensures.kept in
        let end = is_end how c.in_default.not-Left in
        end_ready fs w old mid 1 p had has how (ended_as how out) part end c.requires.ready kept
        ),
    (
      (
          let fs = trees_of c.args.here.now.site.now.codes.now.items in
          let w = c.args.here.now.site.now.widget in
          let at = c.args.here.now.at in
          let old = c.args.store.now in
          let mid = c.block_on.new.store in
          let p : State → Plan = block_at fs w old.cells (block.Try c.args.id) 0 at in
          let f = frame.Statement (statement.Caught c.args.id at) in
          let had = c.args.run.now in
          let has = c.block_on.new.run in
          let how = c.in_ok-how.how in
          let out = c.block_on.new.out in
          let part = c.in_ok-how.ensures.comes in
          let kept = c.in_ok-how.ensures.kept in
          let end = is_end how c.in_default.not-Left in
          (place_fine fs w old.cells mid.cells kept.grows at c.requires.held.0, c.requires.held.1)
          ),
      (
        c.requires.tree,
        (
            let fs = trees_of c.args.here.now.site.now.codes.now.items in
            let w = c.args.here.now.site.now.widget in
            let at = c.args.here.now.at in
            let old = c.args.store.now in
            let mid = c.block_on.new.store in
            let p : State → Plan = block_at fs w old.cells (block.Try c.args.id) 0 at in
            let f = frame.Statement (statement.Caught c.args.id at) in
            let had = c.args.run.now in
            let has = c.block_on.new.run in
            let how = c.in_ok-how.how in
            let out = c.block_on.new.out in
            let part = c.in_ok-how.ensures.comes in
            let kept = c.in_ok-how.ensures.kept in
            let end = is_end how c.in_default.not-Left in
            (end, end_fine fs w old mid 1 p had has how (ended_as how out) part end)
            ),
      ),
    ),
  ),
)

pub catching::tried_on-returns-in_default-clause-comes : goal.catching::tried_on-returns-in_default-clause-comes
catching::tried_on-returns-in_default-clause-comes t c =
    let fs = trees_of c.args.here.now.site.now.codes.now.items in
    let w = c.args.here.now.site.now.widget in
    let at = c.args.here.now.at in
    let old = c.args.store.now in
    let mid = c.block_on.new.store in
    let p : State → Plan = block_at fs w old.cells (block.Try c.args.id) 0 at in
    let f = frame.Statement (statement.Caught c.args.id at) in
    let had = c.args.run.now in
    let has = c.block_on.new.run in
    let how = c.in_ok-how.how in
    let out = c.block_on.new.out in
    let part = c.in_ok-how.ensures.comes in
    let kept = c.in_ok-how.ensures.kept in
    let end = is_end how c.in_default.not-Left in
    IfOk-weaker c.caught_on.result _ _
    (λ h x. part_then fs w old mid c.caught_on.new.store 1 2 3 p f had has c.caught_on.new.run how h (ended_as how out) (ended_as h c.caught_on.new.out) part end kept.grows c.requires.held x (omega arith))
    c.caught_on.ensures.comes

pub catching::tried_on-returns-in_default-clause-kept : goal.catching::tried_on-returns-in_default-clause-kept
catching::tried_on-returns-in_default-clause-kept t c =
    let fs = trees_of c.args.here.now.site.now.codes.now.items in
    let w = c.args.here.now.site.now.widget in
    let at = c.args.here.now.at in
    let old = c.args.store.now in
    let mid = c.block_on.new.store in
    let p : State → Plan = block_at fs w old.cells (block.Try c.args.id) 0 at in
    let f = frame.Statement (statement.Caught c.args.id at) in
    let had = c.args.run.now in
    let has = c.block_on.new.run in
    let how = c.in_ok-how.how in
    let out = c.block_on.new.out in
    let part = c.in_ok-how.ensures.comes in
    let kept = c.in_ok-how.ensures.kept in
    kept_then fs w old mid c.caught_on.new.store kept c.caught_on.ensures.kept

pub catching::caught_on-thrown_on-requires : goal.catching::caught_on-thrown_on-requires
catching::caught_on-thrown_on-requires t c = (
  search rules,
  (
    c.requires.ready,
    (
      (
          let fs = trees_of c.args.here.now.site.now.codes.now.items in
          let w = c.args.here.now.site.now.widget in
          let at = c.args.here.now.at in
          let old = c.args.store.now in
          let i = stmt_at (forest_at fs at.code) c.args.id in
          let place = place_of w old.cells at in
          (c.requires.held, subst (λ (e : Ended). FineCompletion w old.cells (ended_as e c.args.out.now)) c.in-Threw.is c.requires.end.1)
          ),
      c.requires.tree,
    ),
  ),
)

pub catching::caught_on-returns-in-Threw-clause-comes : goal.catching::caught_on-returns-in-Threw-clause-comes
catching::caught_on-returns-in-Threw-clause-comes t c =
    let fs = trees_of c.args.here.now.site.now.codes.now.items in
    let w = c.args.here.now.site.now.widget in
    let at = c.args.here.now.at in
    let old = c.args.store.now in
    let i = stmt_at (forest_at fs at.code) c.args.id in
    let place = place_of w old.cells at in
    IfOk-weaker c.thrown_on.result _ _
    (λ h x. planned fs w old c.thrown_on.new.store 2 _ _ c.args.run.now c.thrown_on.new.run h (ended_as h c.thrown_on.new.out)
    (λ s. ap (λ (e : Ended). caught (catch_of i) place (completion_of w old.cells (ended_as e c.args.out.now)) s) c.in-Threw.is) x)
    c.thrown_on.ensures.comes

pub catching::caught_on-returns-in_default-clause-comes : goal.catching::caught_on-returns-in_default-clause-comes
catching::caught_on-returns-in_default-clause-comes t c =
    let fs = trees_of c.args.here.now.site.now.codes.now.items in
    let w = c.args.here.now.site.now.widget in
    let at = c.args.here.now.at in
    let old = c.args.store.now in
    let i = stmt_at (forest_at fs at.code) c.args.id in
    let place = place_of w old.cells at in
    let out = c.args.out.now in
    gives fs w old old 2 (λ s. caught (catch_of i) place (completion_of w old.cells (ended_as c.args.how out)) s) c.args.run.now c.args.run.now c.args.how (ended_as c.args.how out) c.requires.end.0 refl c.requires.ready.2
    (λ r. caught_passes (catch_of i) place w old.cells out (image fs r w old) c.args.how c.in_default.not-Threw) c.requires.end.1 (omega arith)

pub catching::thrown_on-returns-in-None-clause-comes : goal.catching::thrown_on-returns-in-None-clause-comes
catching::thrown_on-returns-in-None-clause-comes t c =
    let fs = trees_of c.args.here.now.site.now.codes.now.items in
    let w = c.args.here.now.site.now.widget in
    let at = c.args.here.now.at in
    let old = c.args.store.now in
    let i = stmt_at (forest_at fs at.code) c.args.id in
    let place = place_of w old.cells at in
    let out = c.args.out.now in
    let no : catch_of i ≡ NoCatch = subst (λ (g : Forest). catch_of (stmt_at g c.args.id) ≡ NoCatch) c.requires.tree c.in-None.ensures in
    gives fs w old old 2 (λ s. caught (catch_of i) place (meaning.Throw (seen w old.cells out)) s) c.args.run.now c.args.run.now ended.Threw (ended_as ended.Threw out) tt refl c.requires.ready.2
    (λ r. ap (λ q. caught q place (meaning.Throw (seen w old.cells out)) (image fs r w old)) no) c.requires.held.1 (omega arith)

pub catching::thrown_on-returns-in-Some-clause-comes : goal.catching::thrown_on-returns-in-Some-clause-comes
catching::thrown_on-returns-in-Some-clause-comes t c =
    let fs = trees_of c.args.here.now.site.now.codes.now.items in
    let w = c.args.here.now.site.now.widget in
    let at = c.args.here.now.at in
    let old = c.args.store.now in
    let i = stmt_at (forest_at fs at.code) c.args.id in
    let place = place_of w old.cells at in
    let out = c.args.out.now in
    let name = c.in-Some.name.now in
    let is : catch_of i ≡ CatchAs name (catch_body (catch_of i)) = subst (λ (g : Forest). catch_of (stmt_at g c.args.id) ≡ CatchAs name (catch_body (catch_of (stmt_at g c.args.id)))) c.requires.tree c.in-Some.ensures in
    IfOk-weaker c.catch_on.result _ _
    (λ h x. weigh fs w old c.catch_on.new.store 1 2 _ c.args.run.now c.catch_on.new.run h (ended_as h c.catch_on.new.out)
    (planned fs w old c.catch_on.new.store 1 (λ s. caught (catch_of i) place (meaning.Throw (seen w old.cells out)) s) _ c.args.run.now c.catch_on.new.run h (ended_as h c.catch_on.new.out)
    (λ s. ap (λ q. caught q place (meaning.Throw (seen w old.cells out)) s) is) x) (omega arith))
    c.catch_on.ensures.comes

pub catching::catch_on-make_scope-requires-clause-names : goal.catching::catch_on-make_scope-requires-clause-names
catching::catch_on-make_scope-requires-clause-names t c =
    subst (λ (l : List (List ℕ × Value2)). IsDistinct bytes_eq (map (λ p. p.0) l)) (sym c.in_ok-pairs.ensures.items) (one_name c.in_ok-shared.shared)

pub catching::catch_on-make_scope-requires-clause-values : goal.catching::catch_on-make_scope-requires-clause-values
catching::catch_on-make_scope-requires-clause-values t c =
    let fs = trees_of c.args.here.now.site.now.codes.now.items in
    let w = c.args.here.now.site.now.widget in
    let at = c.args.here.now.at in
    let old = c.args.store.now in
    subst (λ (l : List (List ℕ × Value2)). ArePairs w old.cells l) (sym c.in_ok-pairs.ensures.items) (subst (λ (v : Value2). IsFine w old.cells v) (sym c.take_value-value.ensures.taken) c.requires.held.1, tt)

pub catching::catch_on-returns-in_err-cause-clause-kept : goal.catching::catch_on-returns-in_err-cause-clause-kept
catching::catch_on-returns-in_err-cause-clause-kept t c = c.make_scope.ensures.kept (trees_of c.args.here.now.site.now.codes.now.items)

pub catching::catch_on-returns-in-Stop-clause-kept : goal.catching::catch_on-returns-in-Stop-clause-kept
catching::catch_on-returns-in-Stop-clause-kept t c = c.make_scope.ensures.kept (trees_of c.args.here.now.site.now.codes.now.items)

pub catching::catch_on-catch_in-requires : goal.catching::catch_on-catch_in-requires
catching::catch_on-catch_in-requires t c = (
  search rules,
  (
    (
        let fs = trees_of c.args.here.now.site.now.codes.now.items in
        let w = c.args.here.now.site.now.widget in
        let at = c.args.here.now.at in
        let old = c.args.store.now in
        let new = c.make_scope.new.store in
        let kept = c.make_scope.ensures.kept fs in
        (c.requires.ready.0, kept.confined c.requires.ready.1, c.requires.ready.2)
        ),
    (
      (
          let fs = trees_of c.args.here.now.site.now.codes.now.items in
          let w = c.args.here.now.site.now.widget in
          let at = c.args.here.now.at in
          let old = c.args.store.now in
          let new = c.make_scope.new.store in
          let kept = c.make_scope.ensures.kept fs in
          ((place_fine fs w old.cells new.cells kept.grows at c.requires.held.0.0, c.requires.held.0.1), subst (λ (m : Made). IsScopeMade w new.cells m) c.in-Cell.is c.in_ok-cause.ensures.fine)
          ),
      c.requires.tree,
    ),
  ),
)

pub catching::catch_on-returns-in-Stop-clause-comes : goal.catching::catch_on-returns-in-Stop-clause-comes
catching::catch_on-returns-in-Stop-clause-comes t c =
    let fs = trees_of c.args.here.now.site.now.codes.now.items in
    let w = c.args.here.now.site.now.widget in
    let at = c.args.here.now.at in
    let old = c.args.store.now in
    let new = c.make_scope.new.store in
    let kept = c.make_scope.ensures.kept fs in
    let list = block_list (forest_at fs at.code) (block.Catch c.args.id) in
    let k : ℕ → State → Plan = λ i t. statements list (record { scope = Some i; depth = at.depth }) t in
    let items : c.in_ok-pairs.pairs.items ≡ (c.args.name.now, c.args.out.now) ∷ [] = c.in_ok-pairs.ensures.items ∙ (λ j. (c.in_ok-shared.ensures j, c.take_value-value.ensures.taken j) ∷ []) in
    let as_made : (r : Rest) → in_catch c.args.name.now list (seen w old.cells c.args.out.now) (place_of w old.cells at) (image fs r w old)
    ≡ pay (scope_cost (scope_of w old.cells at.scope c.in_ok-pairs.pairs.items)) (image fs r w old) (λ t. k (length t.own.scopes) (with_new_scope t (scope_of w old.cells at.scope c.in_ok-pairs.pairs.items))) =
    λ r. ap (λ (d : Scope). pay (scope_cost d) (image fs r w old) (λ t. k (length t.own.scopes) (with_new_scope t d))) (ap (scope_of w old.cells at.scope) (sym items)) in
    IfOk-weaker c.stop.result _ _
    (λ h x. before_it fs w old new 0 1 _ _ c.args.run.now c.stop.new.run h _ (λ r. as_made r ∙ (c.in_ok-cause.ensures.plan fs r k ∙ ap (λ m. scope_plan w new.cells m k (image fs r w new)) c.in-Stop.is)) (x fs w new c.take_value-value.new.out) (omega arith))
    c.stop.ensures.comes

pub catching::catch_on-returns-in-Cell-clause-comes : goal.catching::catch_on-returns-in-Cell-clause-comes
catching::catch_on-returns-in-Cell-clause-comes t c =
    let fs = trees_of c.args.here.now.site.now.codes.now.items in
    let w = c.args.here.now.site.now.widget in
    let at = c.args.here.now.at in
    let old = c.args.store.now in
    let new = c.make_scope.new.store in
    let kept = c.make_scope.ensures.kept fs in
    let list = block_list (forest_at fs at.code) (block.Catch c.args.id) in
    let k : ℕ → State → Plan = λ i t. statements list (record { scope = Some i; depth = at.depth }) t in
    let items : c.in_ok-pairs.pairs.items ≡ (c.args.name.now, c.args.out.now) ∷ [] = c.in_ok-pairs.ensures.items ∙ (λ j. (c.in_ok-shared.ensures j, c.take_value-value.ensures.taken j) ∷ []) in
    let as_made : (r : Rest) → in_catch c.args.name.now list (seen w old.cells c.args.out.now) (place_of w old.cells at) (image fs r w old)
    ≡ pay (scope_cost (scope_of w old.cells at.scope c.in_ok-pairs.pairs.items)) (image fs r w old) (λ t. k (length t.own.scopes) (with_new_scope t (scope_of w old.cells at.scope c.in_ok-pairs.pairs.items))) =
    λ r. ap (λ (d : Scope). pay (scope_cost d) (image fs r w old) (λ t. k (length t.own.scopes) (with_new_scope t d))) (ap (scope_of w old.cells at.scope) (sym items)) in
    IfOk-weaker c.catch_in.result _ _
    (λ h x. after_store fs w old new c.catch_in.new.store 1 (block_at fs w new.cells (block.Catch c.args.id) 0 (record at { scope = Some c.in-Cell.scope })) (in_catch c.args.name.now list (seen w old.cells c.args.out.now) (place_of w old.cells at)) c.args.run.now c.catch_in.new.run h (ended_as h c.catch_in.new.out) x (λ r. as_made r ∙ (c.in_ok-cause.ensures.plan fs r k ∙ ap (λ m. scope_plan w new.cells m k (image fs r w new)) c.in-Cell.is)))
    c.catch_in.ensures.comes

pub catching::catch_on-returns-in-Cell-clause-kept : goal.catching::catch_on-returns-in-Cell-clause-kept
catching::catch_on-returns-in-Cell-clause-kept t c =
    let fs = trees_of c.args.here.now.site.now.codes.now.items in
    let w = c.args.here.now.site.now.widget in
    let at = c.args.here.now.at in
    let old = c.args.store.now in
    let new = c.make_scope.new.store in
    let kept = c.make_scope.ensures.kept fs in
    kept_then fs w old new c.catch_in.new.store kept c.catch_in.ensures.kept

pub catching::finally_on-returns-then-not-has_finally-clause-comes : goal.catching::finally_on-returns-then-not-has_finally-clause-comes
catching::finally_on-returns-then-not-has_finally-clause-comes t c =
    let fs = trees_of c.args.here.now.site.now.codes.now.items in
    let w = c.args.here.now.site.now.widget in
    let at = c.args.here.now.at in
    let old = c.args.store.now in
    let i = stmt_at (forest_at fs at.code) c.args.id in
    let place = place_of w old.cells at in
    let out = c.args.out.now in
    let e = ended_as c.args.how out in
    let t : State → Plan = finally (finally_of i) place (completion_of w old.cells e) in
    let no : finally_of i ≡ NoBlock = subst (λ (g : Forest). finally_of (stmt_at g c.args.id) ≡ NoBlock) c.requires.tree (c.has_finally.ensures.no c.if-not-has_finally.true) in
    gives fs w old old 4 t c.args.run.now c.args.run.now c.args.how e c.requires.end.0 refl c.requires.ready.2
    (λ r. ap (λ b. finally b place (completion_of w old.cells e) (image fs r w old)) no) c.requires.end.1 (omega arith)

pub catching::finally_on-returns-in-Normal-clause-comes : goal.catching::finally_on-returns-in-Normal-clause-comes
catching::finally_on-returns-in-Normal-clause-comes t c =
    let fs = trees_of c.args.here.now.site.now.codes.now.items in
    let w = c.args.here.now.site.now.widget in
    let at = c.args.here.now.at in
    let old = c.args.store.now in
    let i = stmt_at (forest_at fs at.code) c.args.id in
    let place = place_of w old.cells at in
    let out = c.args.out.now in
    let e = ended_as c.args.how out in
    let t : State → Plan = finally (finally_of i) place (completion_of w old.cells e) in
    let mid = c.block_on.new.store in
    let had = c.args.run.now in
    let has = c.block_on.new.run in
    let how = c.in_ok-last.last in
    let after = c.block_on.new.out in
    let part = c.in_ok-last.ensures.comes in
    let kept = c.in_ok-last.ensures.kept in
    let p : State → Plan = block_at fs w old.cells (block.Finally c.args.id) 0 at in
    let is : finally_of i ≡ SomeBlock (finally_body (finally_of i)) = subst (λ (g : Forest). finally_of (stmt_at g c.args.id) ≡ SomeBlock (finally_body (finally_of (stmt_at g c.args.id)))) c.requires.tree (c.has_finally.ensures.yes c.if-not-has_finally.false) in
    let plan : (s : State) → t s ≡ and_then (p s) (last_end (completion_of w old.cells e)) = λ s. ap (λ b. finally b place (completion_of w old.cells e) s) is in
    let same : ended_as c.args.how c.take_value-before.result ≡ e = ap (λ v. ended_as c.args.how v) c.take_value-before.ensures.taken in
    let one = as_is fs w old mid 1 p had has how ended.Normal after c.in-Normal.is part in
    let ready = end_ready fs w old mid 1 p had has ended.Normal (ended_as ended.Normal after) one tt c.requires.ready kept in
    let given : ended_as c.args.how c.set_value.new.out ≡ e = ap (λ v. ended_as c.args.how v) (c.set_value.ensures ∙ c.take_value-before.ensures.taken) in
    subst (λ (a : Completion). ComesTo fs w old mid 4 t had has c.args.how a) (sym given)
    (then_gives fs w old mid 1 4 t p (last_end (completion_of w old.cells e)) had has ended.Normal c.args.how (ended_as ended.Normal after) e plan one tt ready c.requires.end.0
    (λ r. ap (λ o. Ret o (image fs r w mid)) (sym (completion_same w old.cells mid.cells kept.grows e c.requires.end.1))) (completion_fine w old.cells mid.cells kept.grows e c.requires.end.1) (omega arith))

pub catching::finally_on-completion-requires : goal.catching::finally_on-completion-requires
catching::finally_on-completion-requires t c = c.requires.end.0

pub catching::finally_on-returns-in-Left-clause-comes : goal.catching::finally_on-returns-in-Left-clause-comes
catching::finally_on-returns-in-Left-clause-comes t c =
    let fs = trees_of c.args.here.now.site.now.codes.now.items in
    let w = c.args.here.now.site.now.widget in
    let at = c.args.here.now.at in
    let old = c.args.store.now in
    let i = stmt_at (forest_at fs at.code) c.args.id in
    let place = place_of w old.cells at in
    let out = c.args.out.now in
    let e = ended_as c.args.how out in
    let t : State → Plan = finally (finally_of i) place (completion_of w old.cells e) in
    let mid = c.block_on.new.store in
    let had = c.args.run.now in
    let has = c.block_on.new.run in
    let how = c.in_ok-last.last in
    let after = c.block_on.new.out in
    let part = c.in_ok-last.ensures.comes in
    let kept = c.in_ok-last.ensures.kept in
    let p : State → Plan = block_at fs w old.cells (block.Finally c.args.id) 0 at in
    let is : finally_of i ≡ SomeBlock (finally_body (finally_of i)) = subst (λ (g : Forest). finally_of (stmt_at g c.args.id) ≡ SomeBlock (finally_body (finally_of (stmt_at g c.args.id)))) c.requires.tree (c.has_finally.ensures.yes c.if-not-has_finally.false) in
    let plan : (s : State) → t s ≡ and_then (p s) (last_end (completion_of w old.cells e)) = λ s. ap (λ b. finally b place (completion_of w old.cells e) s) is in
    let same : ended_as c.args.how c.take_value-before.result ≡ e = ap (λ v. ended_as c.args.how v) c.take_value-before.ensures.taken in
    end_waits fs w c.wait_last.result old mid 1 4 t p e had has c.wait_last.new.run how (ended_as how after) after plan part c.in-Left.is kept.grows c.requires.end.1
    (subst (λ (x : Completion). IfOk c.wait_last.result (λ h. WaitsToEnd has c.wait_last.new.run h x)) (c.completion.ensures ∙ same) c.wait_last.ensures) (omega arith)

pub catching::finally_on-returns-in_default-clause-comes : goal.catching::finally_on-returns-in_default-clause-comes
catching::finally_on-returns-in_default-clause-comes t c =
    let fs = trees_of c.args.here.now.site.now.codes.now.items in
    let w = c.args.here.now.site.now.widget in
    let at = c.args.here.now.at in
    let old = c.args.store.now in
    let i = stmt_at (forest_at fs at.code) c.args.id in
    let place = place_of w old.cells at in
    let out = c.args.out.now in
    let e = ended_as c.args.how out in
    let t : State → Plan = finally (finally_of i) place (completion_of w old.cells e) in
    let mid = c.block_on.new.store in
    let had = c.args.run.now in
    let has = c.block_on.new.run in
    let how = c.in_ok-last.last in
    let after = c.block_on.new.out in
    let part = c.in_ok-last.ensures.comes in
    let kept = c.in_ok-last.ensures.kept in
    let p : State → Plan = block_at fs w old.cells (block.Finally c.args.id) 0 at in
    let is : finally_of i ≡ SomeBlock (finally_body (finally_of i)) = subst (λ (g : Forest). finally_of (stmt_at g c.args.id) ≡ SomeBlock (finally_body (finally_of (stmt_at g c.args.id)))) c.requires.tree (c.has_finally.ensures.yes c.if-not-has_finally.false) in
    let plan : (s : State) → t s ≡ and_then (p s) (last_end (completion_of w old.cells e)) = λ s. ap (λ b. finally b place (completion_of w old.cells e) s) is in
    let same : ended_as c.args.how c.take_value-before.result ≡ e = ap (λ v. ended_as c.args.how v) c.take_value-before.ensures.taken in
    let end = is_end how c.in_default.not-Left in
    then_gives fs w old mid 1 4 t p (last_end (completion_of w old.cells e)) had has how how (ended_as how after) (ended_as how after) plan part end (end_ready fs w old mid 1 p had has how (ended_as how after) part end c.requires.ready kept) end
    (λ r. normal_passes w mid.cells after (image fs r w mid) how (Ret (completion_of w old.cells e) (image fs r w mid)) c.in_default.not-Normal c.in_default.not-Left) (end_fine fs w old mid 1 p had has how (ended_as how after) part end) (omega arith)

pub choosing::switch_on-valued_on-requires : goal.choosing::switch_on-valued_on-requires
choosing::switch_on-valued_on-requires t c = (
  search rules,
  (
    (
        let fs = trees_of c.args.here.now.site.now.codes.now.items in
        let w = c.args.here.now.site.now.widget in
        let at = c.args.here.now.at in
        let old = c.args.store.now in
        let mid = c.operand_on.new.store in
        let p : State → Plan = λ s. Do (job_of fs w old.cells (job.Eval c.args.e at)) s Ret in
        let had = c.args.run.now in
        let has = c.operand_on.new.run in
        let how = c.in_ok-how.how in
        let out = c.operand_on.new.out in
        let part = c.in_ok-how.ensures.comes in
        let kept = c.in_ok-how.ensures.kept in
        value_ready fs w old mid 0 p had has how (ended_as how out) part c.in-Is.is kept c.requires.ready
        ),
    (
      (
          let fs = trees_of c.args.here.now.site.now.codes.now.items in
          let w = c.args.here.now.site.now.widget in
          let at = c.args.here.now.at in
          let old = c.args.store.now in
          let mid = c.operand_on.new.store in
          let p : State → Plan = λ s. Do (job_of fs w old.cells (job.Eval c.args.e at)) s Ret in
          let had = c.args.run.now in
          let has = c.operand_on.new.run in
          let how = c.in_ok-how.how in
          let out = c.operand_on.new.out in
          let part = c.in_ok-how.ensures.comes in
          let kept = c.in_ok-how.ensures.kept in
          ((place_fine fs w old.cells mid.cells kept.grows at c.requires.held.0.0, c.requires.held.0.1), value_fine fs w old mid 0 p had has how out part c.in-Is.is)
          ),
      c.requires.tree,
    ),
  ),
)

pub choosing::switch_on-returns-in-Is-clause-comes : goal.choosing::switch_on-returns-in-Is-clause-comes
choosing::switch_on-returns-in-Is-clause-comes t c =
    let fs = trees_of c.args.here.now.site.now.codes.now.items in
    let w = c.args.here.now.site.now.widget in
    let at = c.args.here.now.at in
    let old = c.args.store.now in
    let mid = c.operand_on.new.store in
    let p : State → Plan = λ s. Do (job_of fs w old.cells (job.Eval c.args.e at)) s Ret in
    let had = c.args.run.now in
    let has = c.operand_on.new.run in
    let how = c.in_ok-how.how in
    let out = c.operand_on.new.out in
    let part = c.in_ok-how.ensures.comes in
    let kept = c.in_ok-how.ensures.kept in
    let one = as_is fs w old mid 0 p had has how ended.Is out c.in-Is.is part in
    IfOk-weaker c.valued_on.result _ _
    (λ h x. part_then fs w old mid c.valued_on.new.store 0 4 30 p (frame.Statement (statement.Switch c.args.id at)) had has c.valued_on.new.run ended.Is h (ended_as ended.Is out) (ended_as h c.valued_on.new.out) one tt kept.grows c.requires.held.0 x (omega arith))
    c.valued_on.ensures.comes

pub choosing::switch_on-returns-in-Is-clause-kept : goal.choosing::switch_on-returns-in-Is-clause-kept
choosing::switch_on-returns-in-Is-clause-kept t c =
    let fs = trees_of c.args.here.now.site.now.codes.now.items in
    let w = c.args.here.now.site.now.widget in
    let at = c.args.here.now.at in
    let old = c.args.store.now in
    let mid = c.operand_on.new.store in
    let p : State → Plan = λ s. Do (job_of fs w old.cells (job.Eval c.args.e at)) s Ret in
    let had = c.args.run.now in
    let has = c.operand_on.new.run in
    let how = c.in_ok-how.how in
    let out = c.operand_on.new.out in
    let part = c.in_ok-how.ensures.comes in
    let kept = c.in_ok-how.ensures.kept in
    kept_then fs w old mid c.valued_on.new.store kept c.valued_on.ensures.kept

pub choosing::switch_on-returns-in_default-clause-comes : goal.choosing::switch_on-returns-in_default-clause-comes
choosing::switch_on-returns-in_default-clause-comes t c =
    let fs = trees_of c.args.here.now.site.now.codes.now.items in
    let w = c.args.here.now.site.now.widget in
    let at = c.args.here.now.at in
    let old = c.args.store.now in
    let mid = c.operand_on.new.store in
    let p : State → Plan = λ s. Do (job_of fs w old.cells (job.Eval c.args.e at)) s Ret in
    let had = c.args.run.now in
    let has = c.operand_on.new.run in
    let how = c.in_ok-how.how in
    let out = c.operand_on.new.out in
    let part = c.in_ok-how.ensures.comes in
    let kept = c.in_ok-how.ensures.kept in
    hand_ok fs w c.hand_switch.result old mid 0 30 p (frame.Statement (statement.Switch c.args.id at)) had has c.hand_switch.new.run how out part
    (passes_value fs w mid.cells (frame.Statement (statement.Switch c.args.id at)) how out (λ v t. taken fs w mid.cells (frame.Statement (statement.Switch c.args.id at)) (meaning.Is v) t) c.in_default.not-Is (λ o t. refl)) kept c.requires.held.0 (omega arith) c.hand_switch.ensures

pub choosing::valued_on-clauses_on-requires : goal.choosing::valued_on-clauses_on-requires
choosing::valued_on-clauses_on-requires t c = (
  search rules,
  (
    c.requires.ready,
    (
      (
          let fs = trees_of c.args.here.now.site.now.codes.now.items in
          let w = c.args.here.now.site.now.widget in
          let at = c.args.here.now.at in
          let old = c.args.store.now in
          (c.requires.held.0, subst (λ v. IsFine w old.cells v) (sym c.take_value-value.ensures.taken) c.requires.held.1)
          ),
      c.requires.tree,
    ),
  ),
)

pub choosing::valued_on-returns-in-Left-clause-comes : goal.choosing::valued_on-returns-in-Left-clause-comes
choosing::valued_on-returns-in-Left-clause-comes t c =
    let fs = trees_of c.args.here.now.site.now.codes.now.items in
    let w = c.args.here.now.site.now.widget in
    let at = c.args.here.now.at in
    let old = c.args.store.now in
    let all = clauses_of (stmt_at (forest_at fs at.code) c.args.id) in
    let f = frame.Statement statement.SwitchEnd in
    let mid = c.clauses_on.new.store in
    let value = c.take_value-value.result in
    let p : State → Plan = λ s. choose_case (seen w old.cells value) all all (place_of w old.cells at) s in
    let t : State → Plan = taken fs w old.cells (frame.Statement (statement.Switch c.args.id at)) (meaning.Is (seen w old.cells c.args.out.now)) in
    let had = c.args.run.now in
    let has = c.clauses_on.new.run in
    let how = c.in_ok-how.how in
    let out = c.clauses_on.new.out in
    let part = c.in_ok-how.ensures.comes in
    let kept = c.in_ok-how.ensures.kept in
    let plan : (s : State) → t s ≡ and_then (p s) (taken fs w old.cells f) = λ s. ap (λ v. and_then (choose_case (seen w old.cells v) all all (place_of w old.cells at) s) switch_end) (sym c.take_value-value.ensures.taken) in
    let one = as_is fs w old mid 2 p had has how ended.Left out c.in-Left.is part in
    IfOk-weaker c.wait.result _ _ (λ h x. planned fs w old mid 4 t _ had c.wait.new.run h (ended_as h out) plan x)
    (waits_ok fs w c.wait.result old mid 2 4 p f had has c.wait.new.run ended.Left (ended_as ended.Left out) out one refl kept.grows tt
    c.wait.ensures.left c.wait.ensures.waits c.wait.ensures.next c.wait.ensures.units (omega arith))

pub choosing::valued_on-switch_end-requires : goal.choosing::valued_on-switch_end-requires
choosing::valued_on-switch_end-requires t c = is_end c.in_ok-how.how c.in_default.not-Left

pub choosing::valued_on-returns : goal.choosing::valued_on-returns
choosing::valued_on-returns t c =
    let fs = trees_of c.args.here.now.site.now.codes.now.items in
    let w = c.args.here.now.site.now.widget in
    let at = c.args.here.now.at in
    let old = c.args.store.now in
    let all = clauses_of (stmt_at (forest_at fs at.code) c.args.id) in
    let f = frame.Statement statement.SwitchEnd in
    let mid = c.clauses_on.new.store in
    let value = c.take_value-value.result in
    let p : State → Plan = λ s. choose_case (seen w old.cells value) all all (place_of w old.cells at) s in
    let t : State → Plan = taken fs w old.cells (frame.Statement (statement.Switch c.args.id at)) (meaning.Is (seen w old.cells c.args.out.now)) in
    let had = c.args.run.now in
    let has = c.clauses_on.new.run in
    let how = c.in_ok-how.how in
    let out = c.clauses_on.new.out in
    let part = c.in_ok-how.ensures.comes in
    let kept = c.in_ok-how.ensures.kept in
    let plan : (s : State) → t s ≡ and_then (p s) (taken fs w old.cells f) = λ s. ap (λ v. and_then (choose_case (seen w old.cells v) all all (place_of w old.cells at) s) switch_end) (sym c.take_value-value.ensures.taken) in
    let end = is_end how c.in_default.not-Left in
    record {
      comes = part_gives fs w old mid 2 4 t p f had has has how c.switch_end.result (ended_as how out) (ended_as c.switch_end.result out) plan part end kept.grows tt c.switch_end.ensures.end refl
          (λ r. sym (c.switch_end.ensures.plan w mid.cells out (image fs r w mid))) (c.switch_end.ensures.fine w mid.cells out (end_fine fs w old mid 2 p had has how (ended_as how out) part end)) (omega arith);
      kept = kept;
    }

pub choosing::clauses_on-returns-in_err-how-clause-kept : goal.choosing::clauses_on-returns-in_err-how-clause-kept
choosing::clauses_on-returns-in_err-how-clause-kept t c =
    let fs = trees_of c.args.here.now.site.now.codes.now.items in
    let w = c.args.here.now.site.now.widget in
    let at = c.args.here.now.at in
    let s0 = c.args.store.now in
    let id = c.args.from.0 in
    let all = clauses_of (stmt_at (forest_at fs at.code) id) in
    let s1 = c.tests.store in
    let v = c.tests.value in
    let start : State → Plan = choose_case (seen w s0.cells c.args.value.now) all (drop c.args.from.1 all) (place_of w s0.cells at) in
    let q : State → Plan = choose_case (seen w s1.cells v) all (drop c.tests.n all) (place_of w s1.cells at) in
    let inv = c.tests.invariant in
    kept_then fs w s0 s1 c.eval_on.new.store inv.1 c.in_err-how.ensures.kept

pub choosing::clauses_on-returns-in_default-2 : goal.choosing::clauses_on-returns-in_default-2
choosing::clauses_on-returns-in_default-2 t c =
    let fs = trees_of c.args.here.now.site.now.codes.now.items in
    let w = c.args.here.now.site.now.widget in
    let at = c.args.here.now.at in
    let s0 = c.args.store.now in
    let id = c.args.from.0 in
    let all = clauses_of (stmt_at (forest_at fs at.code) id) in
    let s1 = c.tests.store in
    let v = c.tests.value in
    let start : State → Plan = choose_case (seen w s0.cells c.args.value.now) all (drop c.args.from.1 all) (place_of w s0.cells at) in
    let q : State → Plan = choose_case (seen w s1.cells v) all (drop c.tests.n all) (place_of w s1.cells at) in
    let inv = c.tests.invariant in
    let s2 = c.eval_on.new.store in
    let next = c.in-Some.next in
    let p : State → Plan = λ s. Do (job_of fs w s1.cells (job.Eval next.test at)) s Ret in
    let f = frame.Statement (statement.Case v id next.at at) in
    let how = c.in_ok-how.how in
    let out = c.eval_on.new.out in
    let part = c.in_ok-how.ensures.comes in
    let kept = c.in_ok-how.ensures.kept in
    let held : FineFrame fs w s1.cells f = (inv.3, inv.2) in
    let goes_as : (s : State) → q s ≡ and_then (p s) (taken fs w s1.cells f) =
    subst (λ (g : Forest). (u : meaning.Value) (x : plan.Place) (s : State) → choose_case u (clauses_of (stmt_at g id)) (drop c.tests.n (clauses_of (stmt_at g id))) x s
    ≡ Do (Eval (expr_at g next.test) x) s (clause_tested u (clauses_of (stmt_at g id)) (drop next.at (clauses_of (stmt_at g id))) x)) c.requires.tree c.in-Some.ensures.2 (seen w s1.cells v) (place_of w s1.cells at) in
    record {
      comes = IfOk-weaker c.hand_case.result _ _
          (λ h x. towards_then fs w s0 s1 s2 2 2 start q c.args.run.now c.tests.run c.hand_case.new.run h (ended_as h out) inv.0 (planned fs w s1 s2 2 q _ c.tests.run c.hand_case.new.run h (ended_as h out) goes_as x) (omega arith))
          (hand_ok fs w c.hand_case.result s1 s2 0 2 p f c.tests.run c.eval_on.new.run c.hand_case.new.run how out part
          (passes_value fs w s2.cells f how out (λ u t. taken fs w s2.cells f (meaning.Is u) t) c.in_default-2.not-Is (λ o t. clause_passes (seen w s2.cells v) all (drop next.at all) (place_of w s2.cells at) o t)) kept held (omega arith) c.hand_case.ensures);
      kept = kept_then fs w s0 s1 s2 inv.1 kept;
    }

pub choosing::clauses_on-any_on-requires : goal.choosing::clauses_on-any_on-requires
choosing::clauses_on-any_on-requires t c = (
  search rules,
  (
    (
        let fs = trees_of c.args.here.now.site.now.codes.now.items in
        let w = c.args.here.now.site.now.widget in
        let at = c.args.here.now.at in
        let s0 = c.args.store.now in
        let id = c.args.from.0 in
        let all = clauses_of (stmt_at (forest_at fs at.code) id) in
        let s1 = c.tests.store in
        let v = c.tests.value in
        let start : State → Plan = choose_case (seen w s0.cells c.args.value.now) all (drop c.args.from.1 all) (place_of w s0.cells at) in
        let q : State → Plan = choose_case (seen w s1.cells v) all (drop c.tests.n all) (place_of w s1.cells at) in
        let inv = c.tests.invariant in
        let s2 = c.eval_on.new.store in
        let next = c.in-Some.next in
        let p : State → Plan = λ s. Do (job_of fs w s1.cells (job.Eval next.test at)) s Ret in
        let f = frame.Statement (statement.Case v id next.at at) in
        let how = c.in_ok-how.how in
        let out = c.eval_on.new.out in
        let part = c.in_ok-how.ensures.comes in
        let kept = c.in_ok-how.ensures.kept in
        let held : FineFrame fs w s1.cells f = (inv.3, inv.2) in
        let goes_as : (s : State) → q s ≡ and_then (p s) (taken fs w s1.cells f) =
        subst (λ (g : Forest). (u : meaning.Value) (x : plan.Place) (s : State) → choose_case u (clauses_of (stmt_at g id)) (drop c.tests.n (clauses_of (stmt_at g id))) x s
        ≡ Do (Eval (expr_at g next.test) x) s (clause_tested u (clauses_of (stmt_at g id)) (drop next.at (clauses_of (stmt_at g id))) x)) c.requires.tree c.in-Some.ensures.2 (seen w s1.cells v) (place_of w s1.cells at) in
        let one = as_is fs w s1 s2 0 p c.tests.run c.eval_on.new.run how ended.Is out c.in-Is.is part in
        let fine_out = end_fine fs w s1 s2 0 p c.tests.run c.eval_on.new.run ended.Is (ended_as ended.Is out) one tt in
        let ready = end_ready fs w s1 s2 0 p c.tests.run c.eval_on.new.run ended.Is (ended_as ended.Is out) one tt inv.0.ready kept in
        let fine_v = fine_stays w s1.cells s2.cells kept.grows v inv.3 in
        let placed : IsStmtAt fs w s2.cells id at = (place_fine fs w s1.cells s2.cells kept.grows at inv.2.0, inv.2.1) in
        let same : c.is_chosen.result ≡ operators.is_same (seen w s2.cells v) (seen w s2.cells out) = c.is_chosen.ensures.same w s2.cells fine_v fine_out in
        let after_test : (s : State) → clause_tested (seen w s2.cells v) all (drop next.at all) (place_of w s2.cells at) (meaning.Is (seen w s2.cells out)) s
        ≡ (if c.is_chosen.result then statements (bodies (drop next.at all)) (place_of w s2.cells at) s else choose_case (seen w s2.cells v) all (drop (next.at + 1) all) (place_of w s2.cells at) s) =
        λ s. subst (λ (g : Forest). (u x : meaning.Value) (y : plan.Place) (s : State) → clause_tested u (clauses_of (stmt_at g id)) (drop next.at (clauses_of (stmt_at g id))) y (meaning.Is x) s
        ≡ (if operators.is_same u x then statements (bodies (drop next.at (clauses_of (stmt_at g id)))) y s else choose_case u (clauses_of (stmt_at g id)) (drop (next.at + 1) (clauses_of (stmt_at g id))) y s))
        c.requires.tree c.in-Some.ensures.3 (seen w s2.cells v) (seen w s2.cells out) (place_of w s2.cells at) s
        ∙ ap (λ (b : Bool). if b then statements (bodies (drop next.at all)) (place_of w s2.cells at) s else choose_case (seen w s2.cells v) all (drop (next.at + 1) all) (place_of w s2.cells at) s) (sym same) in
        ready
        ),
    (
      (
          let fs = trees_of c.args.here.now.site.now.codes.now.items in
          let w = c.args.here.now.site.now.widget in
          let at = c.args.here.now.at in
          let s0 = c.args.store.now in
          let id = c.args.from.0 in
          let all = clauses_of (stmt_at (forest_at fs at.code) id) in
          let s1 = c.tests.store in
          let v = c.tests.value in
          let start : State → Plan = choose_case (seen w s0.cells c.args.value.now) all (drop c.args.from.1 all) (place_of w s0.cells at) in
          let q : State → Plan = choose_case (seen w s1.cells v) all (drop c.tests.n all) (place_of w s1.cells at) in
          let inv = c.tests.invariant in
          let s2 = c.eval_on.new.store in
          let next = c.in-Some.next in
          let p : State → Plan = λ s. Do (job_of fs w s1.cells (job.Eval next.test at)) s Ret in
          let f = frame.Statement (statement.Case v id next.at at) in
          let how = c.in_ok-how.how in
          let out = c.eval_on.new.out in
          let part = c.in_ok-how.ensures.comes in
          let kept = c.in_ok-how.ensures.kept in
          let held : FineFrame fs w s1.cells f = (inv.3, inv.2) in
          let goes_as : (s : State) → q s ≡ and_then (p s) (taken fs w s1.cells f) =
          subst (λ (g : Forest). (u : meaning.Value) (x : plan.Place) (s : State) → choose_case u (clauses_of (stmt_at g id)) (drop c.tests.n (clauses_of (stmt_at g id))) x s
          ≡ Do (Eval (expr_at g next.test) x) s (clause_tested u (clauses_of (stmt_at g id)) (drop next.at (clauses_of (stmt_at g id))) x)) c.requires.tree c.in-Some.ensures.2 (seen w s1.cells v) (place_of w s1.cells at) in
          let one = as_is fs w s1 s2 0 p c.tests.run c.eval_on.new.run how ended.Is out c.in-Is.is part in
          let fine_out = end_fine fs w s1 s2 0 p c.tests.run c.eval_on.new.run ended.Is (ended_as ended.Is out) one tt in
          let ready = end_ready fs w s1 s2 0 p c.tests.run c.eval_on.new.run ended.Is (ended_as ended.Is out) one tt inv.0.ready kept in
          let fine_v = fine_stays w s1.cells s2.cells kept.grows v inv.3 in
          let placed : IsStmtAt fs w s2.cells id at = (place_fine fs w s1.cells s2.cells kept.grows at inv.2.0, inv.2.1) in
          let same : c.is_chosen.result ≡ operators.is_same (seen w s2.cells v) (seen w s2.cells out) = c.is_chosen.ensures.same w s2.cells fine_v fine_out in
          let after_test : (s : State) → clause_tested (seen w s2.cells v) all (drop next.at all) (place_of w s2.cells at) (meaning.Is (seen w s2.cells out)) s
          ≡ (if c.is_chosen.result then statements (bodies (drop next.at all)) (place_of w s2.cells at) s else choose_case (seen w s2.cells v) all (drop (next.at + 1) all) (place_of w s2.cells at) s) =
          λ s. subst (λ (g : Forest). (u x : meaning.Value) (y : plan.Place) (s : State) → clause_tested u (clauses_of (stmt_at g id)) (drop next.at (clauses_of (stmt_at g id))) y (meaning.Is x) s
          ≡ (if operators.is_same u x then statements (bodies (drop next.at (clauses_of (stmt_at g id)))) y s else choose_case u (clauses_of (stmt_at g id)) (drop (next.at + 1) (clauses_of (stmt_at g id))) y s))
          c.requires.tree c.in-Some.ensures.3 (seen w s2.cells v) (seen w s2.cells out) (place_of w s2.cells at) s
          ∙ ap (λ (b : Bool). if b then statements (bodies (drop next.at all)) (place_of w s2.cells at) s else choose_case (seen w s2.cells v) all (drop (next.at + 1) all) (place_of w s2.cells at) s) (sym same) in
          placed
          ),
      c.requires.tree,
    ),
  ),
)

pub choosing::clauses_on-returns-then-is_chosen : goal.choosing::clauses_on-returns-then-is_chosen
choosing::clauses_on-returns-then-is_chosen t c =
    let fs = trees_of c.args.here.now.site.now.codes.now.items in
    let w = c.args.here.now.site.now.widget in
    let at = c.args.here.now.at in
    let s0 = c.args.store.now in
    let id = c.args.from.0 in
    let all = clauses_of (stmt_at (forest_at fs at.code) id) in
    let s1 = c.tests.store in
    let v = c.tests.value in
    let start : State → Plan = choose_case (seen w s0.cells c.args.value.now) all (drop c.args.from.1 all) (place_of w s0.cells at) in
    let q : State → Plan = choose_case (seen w s1.cells v) all (drop c.tests.n all) (place_of w s1.cells at) in
    let inv = c.tests.invariant in
    let s2 = c.eval_on.new.store in
    let next = c.in-Some.next in
    let p : State → Plan = λ s. Do (job_of fs w s1.cells (job.Eval next.test at)) s Ret in
    let f = frame.Statement (statement.Case v id next.at at) in
    let how = c.in_ok-how.how in
    let out = c.eval_on.new.out in
    let part = c.in_ok-how.ensures.comes in
    let kept = c.in_ok-how.ensures.kept in
    let held : FineFrame fs w s1.cells f = (inv.3, inv.2) in
    let goes_as : (s : State) → q s ≡ and_then (p s) (taken fs w s1.cells f) =
    subst (λ (g : Forest). (u : meaning.Value) (x : plan.Place) (s : State) → choose_case u (clauses_of (stmt_at g id)) (drop c.tests.n (clauses_of (stmt_at g id))) x s
    ≡ Do (Eval (expr_at g next.test) x) s (clause_tested u (clauses_of (stmt_at g id)) (drop next.at (clauses_of (stmt_at g id))) x)) c.requires.tree c.in-Some.ensures.2 (seen w s1.cells v) (place_of w s1.cells at) in
    let one = as_is fs w s1 s2 0 p c.tests.run c.eval_on.new.run how ended.Is out c.in-Is.is part in
    let fine_out = end_fine fs w s1 s2 0 p c.tests.run c.eval_on.new.run ended.Is (ended_as ended.Is out) one tt in
    let ready = end_ready fs w s1 s2 0 p c.tests.run c.eval_on.new.run ended.Is (ended_as ended.Is out) one tt inv.0.ready kept in
    let fine_v = fine_stays w s1.cells s2.cells kept.grows v inv.3 in
    let placed : IsStmtAt fs w s2.cells id at = (place_fine fs w s1.cells s2.cells kept.grows at inv.2.0, inv.2.1) in
    let same : c.is_chosen.result ≡ operators.is_same (seen w s2.cells v) (seen w s2.cells out) = c.is_chosen.ensures.same w s2.cells fine_v fine_out in
    let after_test : (s : State) → clause_tested (seen w s2.cells v) all (drop next.at all) (place_of w s2.cells at) (meaning.Is (seen w s2.cells out)) s
    ≡ (if c.is_chosen.result then statements (bodies (drop next.at all)) (place_of w s2.cells at) s else choose_case (seen w s2.cells v) all (drop (next.at + 1) all) (place_of w s2.cells at) s) =
    λ s. subst (λ (g : Forest). (u x : meaning.Value) (y : plan.Place) (s : State) → clause_tested u (clauses_of (stmt_at g id)) (drop next.at (clauses_of (stmt_at g id))) y (meaning.Is x) s
    ≡ (if operators.is_same u x then statements (bodies (drop next.at (clauses_of (stmt_at g id)))) y s else choose_case u (clauses_of (stmt_at g id)) (drop (next.at + 1) (clauses_of (stmt_at g id))) y s))
    c.requires.tree c.in-Some.ensures.3 (seen w s2.cells v) (seen w s2.cells out) (place_of w s2.cells at) s
    ∙ ap (λ (b : Bool). if b then statements (bodies (drop next.at all)) (place_of w s2.cells at) s else choose_case (seen w s2.cells v) all (drop (next.at + 1) all) (place_of w s2.cells at) s) (sym same) in
    let s3 = c.any_on.new.store in
    let goes : State → Plan = block_at fs w s2.cells (block.Clauses id next.at) 0 at in
    record {
      comes = IfOk-weaker c.any_on.result _ _
          (λ h x. towards_then fs w s0 s2 s3 1 2 start goes c.args.run.now c.eval_on.new.run c.any_on.new.run h (ended_as h c.any_on.new.out)
          (towards_each fs w s0 s1 s2 start q goes c.args.run.now c.tests.run c.eval_on.new.run inv.0
          (part_next fs w s1 s2 0 q p goes f c.tests.run c.eval_on.new.run ended.Is (ended_as ended.Is out) goes_as one tt kept.grows held ready
          (λ r. after_test (image fs r w s2) ∙ ap (λ (b : Bool). if b then statements (bodies (drop next.at all)) (place_of w s2.cells at) (image fs r w s2) else choose_case (seen w s2.cells v) all (drop (next.at + 1) all) (place_of w s2.cells at) (image fs r w s2)) c.if-is_chosen.true)))
          x (omega arith))
          c.any_on.ensures.comes;
      kept = kept_then fs w s0 s2 s3 (kept_then fs w s0 s1 s2 inv.1 kept) c.any_on.ensures.kept;
    }

pub choosing::clauses_on-tests-preserved : goal.choosing::clauses_on-tests-preserved
choosing::clauses_on-tests-preserved t c =
    let fs = trees_of c.args.here.now.site.now.codes.now.items in
    let w = c.args.here.now.site.now.widget in
    let at = c.args.here.now.at in
    let s0 = c.args.store.now in
    let id = c.args.from.0 in
    let all = clauses_of (stmt_at (forest_at fs at.code) id) in
    let s1 = c.tests.store in
    let v = c.tests.value in
    let start : State → Plan = choose_case (seen w s0.cells c.args.value.now) all (drop c.args.from.1 all) (place_of w s0.cells at) in
    let q : State → Plan = choose_case (seen w s1.cells v) all (drop c.tests.n all) (place_of w s1.cells at) in
    let inv = c.tests.invariant in
    let s2 = c.eval_on.new.store in
    let next = c.in-Some.next in
    let p : State → Plan = λ s. Do (job_of fs w s1.cells (job.Eval next.test at)) s Ret in
    let f = frame.Statement (statement.Case v id next.at at) in
    let how = c.in_ok-how.how in
    let out = c.eval_on.new.out in
    let part = c.in_ok-how.ensures.comes in
    let kept = c.in_ok-how.ensures.kept in
    let held : FineFrame fs w s1.cells f = (inv.3, inv.2) in
    let goes_as : (s : State) → q s ≡ and_then (p s) (taken fs w s1.cells f) =
    subst (λ (g : Forest). (u : meaning.Value) (x : plan.Place) (s : State) → choose_case u (clauses_of (stmt_at g id)) (drop c.tests.n (clauses_of (stmt_at g id))) x s
    ≡ Do (Eval (expr_at g next.test) x) s (clause_tested u (clauses_of (stmt_at g id)) (drop next.at (clauses_of (stmt_at g id))) x)) c.requires.tree c.in-Some.ensures.2 (seen w s1.cells v) (place_of w s1.cells at) in
    let one = as_is fs w s1 s2 0 p c.tests.run c.eval_on.new.run how ended.Is out c.in-Is.is part in
    let fine_out = end_fine fs w s1 s2 0 p c.tests.run c.eval_on.new.run ended.Is (ended_as ended.Is out) one tt in
    let ready = end_ready fs w s1 s2 0 p c.tests.run c.eval_on.new.run ended.Is (ended_as ended.Is out) one tt inv.0.ready kept in
    let fine_v = fine_stays w s1.cells s2.cells kept.grows v inv.3 in
    let placed : IsStmtAt fs w s2.cells id at = (place_fine fs w s1.cells s2.cells kept.grows at inv.2.0, inv.2.1) in
    let same : c.is_chosen.result ≡ operators.is_same (seen w s2.cells v) (seen w s2.cells out) = c.is_chosen.ensures.same w s2.cells fine_v fine_out in
    let after_test : (s : State) → clause_tested (seen w s2.cells v) all (drop next.at all) (place_of w s2.cells at) (meaning.Is (seen w s2.cells out)) s
    ≡ (if c.is_chosen.result then statements (bodies (drop next.at all)) (place_of w s2.cells at) s else choose_case (seen w s2.cells v) all (drop (next.at + 1) all) (place_of w s2.cells at) s) =
    λ s. subst (λ (g : Forest). (u x : meaning.Value) (y : plan.Place) (s : State) → clause_tested u (clauses_of (stmt_at g id)) (drop next.at (clauses_of (stmt_at g id))) y (meaning.Is x) s
    ≡ (if operators.is_same u x then statements (bodies (drop next.at (clauses_of (stmt_at g id)))) y s else choose_case u (clauses_of (stmt_at g id)) (drop (next.at + 1) (clauses_of (stmt_at g id))) y s))
    c.requires.tree c.in-Some.ensures.3 (seen w s2.cells v) (seen w s2.cells out) (place_of w s2.cells at) s
    ∙ ap (λ (b : Bool). if b then statements (bodies (drop next.at all)) (place_of w s2.cells at) s else choose_case (seen w s2.cells v) all (drop (next.at + 1) all) (place_of w s2.cells at) s) (sym same) in
    let goes : State → Plan = choose_case (seen w s2.cells v) all (drop (next.at + 1) all) (place_of w s2.cells at) in (
      towards_each fs w s0 s1 s2 start q goes c.args.run.now c.tests.run c.eval_on.new.run inv.0
          (part_next fs w s1 s2 0 q p goes f c.tests.run c.eval_on.new.run ended.Is (ended_as ended.Is out) goes_as one tt kept.grows held ready
          (λ r. after_test (image fs r w s2) ∙ ap (λ (b : Bool). if b then statements (bodies (drop next.at all)) (place_of w s2.cells at) (image fs r w s2) else choose_case (seen w s2.cells v) all (drop (next.at + 1) all) (place_of w s2.cells at) (image fs r w s2)) c.if-is_chosen.false)),
      kept_then fs w s0 s1 s2 inv.1 kept,
      placed,
      fine_v,
    )

pub choosing::clauses_on-tests-smaller : goal.choosing::clauses_on-tests-smaller
choosing::clauses_on-tests-smaller t c =
    let fs = trees_of c.args.here.now.site.now.codes.now.items in
    let w = c.args.here.now.site.now.widget in
    let at = c.args.here.now.at in
    let s0 = c.args.store.now in
    let id = c.args.from.0 in
    let all = clauses_of (stmt_at (forest_at fs at.code) id) in
    let s1 = c.tests.store in
    let v = c.tests.value in
    let start : State → Plan = choose_case (seen w s0.cells c.args.value.now) all (drop c.args.from.1 all) (place_of w s0.cells at) in
    let q : State → Plan = choose_case (seen w s1.cells v) all (drop c.tests.n all) (place_of w s1.cells at) in
    let inv = c.tests.invariant in
    let s2 = c.eval_on.new.store in
    let next = c.in-Some.next in
    let p : State → Plan = λ s. Do (job_of fs w s1.cells (job.Eval next.test at)) s Ret in
    let f = frame.Statement (statement.Case v id next.at at) in
    let how = c.in_ok-how.how in
    let out = c.eval_on.new.out in
    let part = c.in_ok-how.ensures.comes in
    let kept = c.in_ok-how.ensures.kept in
    let held : FineFrame fs w s1.cells f = (inv.3, inv.2) in
    let goes_as : (s : State) → q s ≡ and_then (p s) (taken fs w s1.cells f) =
    subst (λ (g : Forest). (u : meaning.Value) (x : plan.Place) (s : State) → choose_case u (clauses_of (stmt_at g id)) (drop c.tests.n (clauses_of (stmt_at g id))) x s
    ≡ Do (Eval (expr_at g next.test) x) s (clause_tested u (clauses_of (stmt_at g id)) (drop next.at (clauses_of (stmt_at g id))) x)) c.requires.tree c.in-Some.ensures.2 (seen w s1.cells v) (place_of w s1.cells at) in
    let one = as_is fs w s1 s2 0 p c.tests.run c.eval_on.new.run how ended.Is out c.in-Is.is part in
    let fine_out = end_fine fs w s1 s2 0 p c.tests.run c.eval_on.new.run ended.Is (ended_as ended.Is out) one tt in
    let ready = end_ready fs w s1 s2 0 p c.tests.run c.eval_on.new.run ended.Is (ended_as ended.Is out) one tt inv.0.ready kept in
    let fine_v = fine_stays w s1.cells s2.cells kept.grows v inv.3 in
    let placed : IsStmtAt fs w s2.cells id at = (place_fine fs w s1.cells s2.cells kept.grows at inv.2.0, inv.2.1) in
    let same : c.is_chosen.result ≡ operators.is_same (seen w s2.cells v) (seen w s2.cells out) = c.is_chosen.ensures.same w s2.cells fine_v fine_out in
    let after_test : (s : State) → clause_tested (seen w s2.cells v) all (drop next.at all) (place_of w s2.cells at) (meaning.Is (seen w s2.cells out)) s
    ≡ (if c.is_chosen.result then statements (bodies (drop next.at all)) (place_of w s2.cells at) s else choose_case (seen w s2.cells v) all (drop (next.at + 1) all) (place_of w s2.cells at) s) =
    λ s. subst (λ (g : Forest). (u x : meaning.Value) (y : plan.Place) (s : State) → clause_tested u (clauses_of (stmt_at g id)) (drop next.at (clauses_of (stmt_at g id))) y (meaning.Is x) s
    ≡ (if operators.is_same u x then statements (bodies (drop next.at (clauses_of (stmt_at g id)))) y s else choose_case u (clauses_of (stmt_at g id)) (drop (next.at + 1) (clauses_of (stmt_at g id))) y s))
    c.requires.tree c.in-Some.ensures.3 (seen w s2.cells v) (seen w s2.cells out) (place_of w s2.cells at) s
    ∙ ap (λ (b : Bool). if b then statements (bodies (drop next.at all)) (place_of w s2.cells at) s else choose_case (seen w s2.cells v) all (drop (next.at + 1) all) (place_of w s2.cells at) s) (sym same) in
    omega (arith, one.near)

pub choosing::clauses_on-any_on-requires-2 : goal.choosing::clauses_on-any_on-requires-2
choosing::clauses_on-any_on-requires-2 t c = (
  search rules,
  (
    (
        let fs = trees_of c.args.here.now.site.now.codes.now.items in
        let w = c.args.here.now.site.now.widget in
        let at = c.args.here.now.at in
        let s0 = c.args.store.now in
        let id = c.args.from.0 in
        let all = clauses_of (stmt_at (forest_at fs at.code) id) in
        let s1 = c.tests.store in
        let v = c.tests.value in
        let start : State → Plan = choose_case (seen w s0.cells c.args.value.now) all (drop c.args.from.1 all) (place_of w s0.cells at) in
        let q : State → Plan = choose_case (seen w s1.cells v) all (drop c.tests.n all) (place_of w s1.cells at) in
        let inv = c.tests.invariant in
        inv.0.ready
        ),
    (
      (
          let fs = trees_of c.args.here.now.site.now.codes.now.items in
          let w = c.args.here.now.site.now.widget in
          let at = c.args.here.now.at in
          let s0 = c.args.store.now in
          let id = c.args.from.0 in
          let all = clauses_of (stmt_at (forest_at fs at.code) id) in
          let s1 = c.tests.store in
          let v = c.tests.value in
          let start : State → Plan = choose_case (seen w s0.cells c.args.value.now) all (drop c.args.from.1 all) (place_of w s0.cells at) in
          let q : State → Plan = choose_case (seen w s1.cells v) all (drop c.tests.n all) (place_of w s1.cells at) in
          let inv = c.tests.invariant in
          inv.2
          ),
      c.requires.tree,
    ),
  ),
)

pub choosing::clauses_on-returns-clause-comes : goal.choosing::clauses_on-returns-clause-comes
choosing::clauses_on-returns-clause-comes t c =
    let fs = trees_of c.args.here.now.site.now.codes.now.items in
    let w = c.args.here.now.site.now.widget in
    let at = c.args.here.now.at in
    let s0 = c.args.store.now in
    let id = c.args.from.0 in
    let all = clauses_of (stmt_at (forest_at fs at.code) id) in
    let s1 = c.tests.store in
    let v = c.tests.value in
    let start : State → Plan = choose_case (seen w s0.cells c.args.value.now) all (drop c.args.from.1 all) (place_of w s0.cells at) in
    let q : State → Plan = choose_case (seen w s1.cells v) all (drop c.tests.n all) (place_of w s1.cells at) in
    let inv = c.tests.invariant in
    let goes : State → Plan = block_at fs w s1.cells (block.Clauses id c.default_at-last.result) 0 at in
    let last = subst (λ (g : Forest). from_default (clauses_of (stmt_at g id)) (clauses_of (stmt_at g id)) ≡ bodies (drop c.default_at-last.result (clauses_of (stmt_at g id)))) c.requires.tree c.default_at-last.ensures in
    let goes_as : (s : State) → q s ≡ goes s = λ s.
    subst (λ (g : Forest). (u : meaning.Value) (x : plan.Place) (s : State) → choose_case u (clauses_of (stmt_at g id)) (drop c.tests.n (clauses_of (stmt_at g id))) x s ≡ statements (from_default (clauses_of (stmt_at g id)) (clauses_of (stmt_at g id))) x s)
    c.requires.tree (rw c.in_default.is at c.next_test.ensures) (seen w s1.cells v) (place_of w s1.cells at) s
    ∙ ap (λ l. statements l (place_of w s1.cells at) s) last in
    IfOk-weaker c.any_on-2.result _ _
    (λ h x. towards_then fs w s0 s1 c.any_on-2.new.store 1 2 start q c.args.run.now c.tests.run c.any_on-2.new.run h (ended_as h c.any_on-2.new.out) inv.0
    (planned fs w s1 c.any_on-2.new.store 1 q goes c.tests.run c.any_on-2.new.run h (ended_as h c.any_on-2.new.out) goes_as x) (omega arith))
    c.any_on-2.ensures.comes

pub choosing::clauses_on-returns-clause-kept : goal.choosing::clauses_on-returns-clause-kept
choosing::clauses_on-returns-clause-kept t c =
    let fs = trees_of c.args.here.now.site.now.codes.now.items in
    let w = c.args.here.now.site.now.widget in
    let at = c.args.here.now.at in
    let s0 = c.args.store.now in
    let id = c.args.from.0 in
    let all = clauses_of (stmt_at (forest_at fs at.code) id) in
    let s1 = c.tests.store in
    let v = c.tests.value in
    let start : State → Plan = choose_case (seen w s0.cells c.args.value.now) all (drop c.args.from.1 all) (place_of w s0.cells at) in
    let q : State → Plan = choose_case (seen w s1.cells v) all (drop c.tests.n all) (place_of w s1.cells at) in
    let inv = c.tests.invariant in
    kept_then fs w s0 s1 c.any_on-2.new.store inv.1 c.any_on-2.ensures.kept

pub entering::value_on-callee-requires : goal.entering::value_on-callee-requires
entering::value_on-callee-requires t c = fine_within c.args.site.now.widget c.args.store.now.cells c.args.func.now c.requires.held.0

pub entering::value_on-returns-in-Function-clause-comes : goal.entering::value_on-returns-in-Function-clause-comes
entering::value_on-returns-in-Function-clause-comes t c =
    let fs = trees_of c.args.site.now.codes.now.items in
    let w = c.args.site.now.widget in
    let s = c.args.store.now in
    let func = seen w s.cells c.args.func.now in
    let this = option_map (seen w s.cells) c.args.this.now in
    let vs = all_seen w s.cells c.args.args.now.items in
    let d = c.args.depth in
    let f = c.in-Function.parts in
    let kind = Function (function_in fs f.code f.fun f.declared) (option_map (scope_number w s.cells) f.scope) in
    IfOk-weaker c.enter_on.result _ _
    (λ how h. after_store fs w s s c.enter_on.new.store 4 _ (invoke func this vs d) c.args.run.now c.enter_on.new.run how (ended_as how c.enter_on.new.out) h
    (λ r. function_called (image fs r w s) this vs d func kind (c.in-Function.ensures.called fs r w c.requires.held.0)
    ∙ ap (λ (l : List Value2). enter kind func (all_seen w s.cells l) (suc d) (image fs r w s)) (sym c.as_slice.ensures)))
    c.enter_on.ensures.comes

pub entering::value_on-returns-in-Native-clause-comes : goal.entering::value_on-returns-in-Native-clause-comes
entering::value_on-returns-in-Native-clause-comes t c =
    let fs = trees_of c.args.site.now.codes.now.items in
    let w = c.args.site.now.widget in
    let s = c.args.store.now in
    let func = seen w s.cells c.args.func.now in
    let this = option_map (seen w s.cells) c.args.this.now in
    let vs = all_seen w s.cells c.args.args.now.items in
    let d = c.args.depth in
    IfOk-weaker c.native_on.result _ _
    (λ how h. after_store fs w s s c.native_on.new.store 4 _ (invoke func this vs d) c.args.run.now c.native_on.new.run how (ended_as how c.native_on.new.out) (more fs w s c.native_on.new.store 0 4 _ c.args.run.now c.native_on.new.run how (ended_as how c.native_on.new.out) h (omega arith))
    (λ r. native_called (image fs r w s) this vs d func c.in-Native.which (c.in-Native.ensures.called fs r w c.requires.held.0)))
    c.native_on.ensures.comes

pub entering::value_on-returns-in-Nothing-clause-comes : goal.entering::value_on-returns-in-Nothing-clause-comes
entering::value_on-returns-in-Nothing-clause-comes t c =
    let fs = trees_of c.args.site.now.codes.now.items in
    let w = c.args.site.now.widget in
    let s = c.args.store.now in
    let func = seen w s.cells c.args.func.now in
    let this = option_map (seen w s.cells) c.args.this.now in
    let vs = all_seen w s.cells c.args.args.now.items in
    let d = c.args.depth in
    IfOk-weaker c.throw.result _ _
    (λ how h. after_store fs w s s c.throw.new.store 4 _ (invoke func this vs d) c.args.run.now c.throw.new.run how (ended_as how c.throw.new.out) (more fs w s c.throw.new.store 1 4 _ c.args.run.now c.throw.new.run how (ended_as how c.throw.new.out) h (omega arith))
    (λ r. nothing_called (image fs r w s) this vs d func (c.in-Nothing.ensures.called fs r w c.requires.held.0)))
    c.throw.ensures.comes

pub entering::value_on-enter_on-requires : goal.entering::value_on-enter_on-requires
entering::value_on-enter_on-requires t c = (
  search rules,
  (
    (c.requires.ready),
    (
      (c.in-Function.ensures.fine (trees_of c.args.site.now.codes.now.items) c.args.site.now.widget c.requires.ready.1 c.requires.held.0),
      ((c.requires.held.0, subst (AreFine c.args.site.now.widget c.args.store.now.cells) (sym c.as_slice.ensures) c.requires.held.2)),
    ),
  ),
)

pub entering::value_on-native_on-requires : goal.entering::value_on-native_on-requires
entering::value_on-native_on-requires t c = (
  search rules,
  (
    (c.requires.ready),
    ((c.requires.held.1, c.requires.held.2)),
  ),
)

pub entering::value_on-throw-requires : goal.entering::value_on-throw-requires
entering::value_on-throw-requires t c = record { ready = c.requires.ready }

pub entering::value_on-returns-in-Function-clause-kept : goal.entering::value_on-returns-in-Function-clause-kept
entering::value_on-returns-in-Function-clause-kept t c = c.enter_on.ensures.kept

pub entering::value_on-returns-in-Native-clause-kept : goal.entering::value_on-returns-in-Native-clause-kept
entering::value_on-returns-in-Native-clause-kept t c = c.native_on.ensures.kept

pub entering::value_on-returns-in-Nothing-clause-kept : goal.entering::value_on-returns-in-Nothing-clause-kept
entering::value_on-returns-in-Nothing-clause-kept t c = c.throw.ensures.kept

pub entering::enter_on-returns-in-Stop-clause-comes : goal.entering::enter_on-returns-in-Stop-clause-comes
entering::enter_on-returns-in-Stop-clause-comes t c =
    let fs = trees_of c.args.site.now.codes.now.items in
    let w = c.args.site.now.widget in
    let mid = c.entered.new.store in
    IfOk-weaker c.stop.result _ _
    (λ how h. before_it fs w c.args.store.now mid 0 4 _ _ c.args.run.now c.stop.new.run how (ended_as how c.args.out.now)
    (λ r. sym (ap (λ e. entry_plan fs w mid.cells c.args.parts.fun e (image fs r w mid)) (sym c.in-Stop.is) ∙ c.in_ok-cause.ensures.plan r))
    (h fs w mid c.args.out.now) (omega arith))
    c.stop.ensures.comes

pub entering::enter_on-body_on-requires : goal.entering::enter_on-body_on-requires
entering::enter_on-body_on-requires t c = (
  search rules,
  (
    ((c.requires.ready.0, c.entered.ensures.kept.confined c.requires.ready.1, c.requires.ready.2)),
    (
      (subst (FineEntry (trees_of c.args.site.now.codes.now.items) c.args.site.now.widget c.entered.new.store.cells c.args.parts.fun) c.in-Body.is c.in_ok-cause.ensures.fine),
      search rules,
    ),
  ),
)

pub entering::enter_on-returns-in-Body-clause-comes : goal.entering::enter_on-returns-in-Body-clause-comes
entering::enter_on-returns-in-Body-clause-comes t c =
    let fs = trees_of c.args.site.now.codes.now.items in
    let w = c.args.site.now.widget in
    let mid = c.entered.new.store in
    IfOk-weaker c.body_on.result _ _
    (λ how h. after_store fs w c.args.store.now mid c.body_on.new.store 4 _ _ c.args.run.now c.body_on.new.run how (ended_as how c.body_on.new.out) h
    (λ r. sym (ap (λ e. entry_plan fs w mid.cells c.args.parts.fun e (image fs r w mid)) (sym c.in-Body.is) ∙ c.in_ok-cause.ensures.plan r)))
    c.body_on.ensures.comes

pub entering::enter_on-returns-in-Body-clause-kept : goal.entering::enter_on-returns-in-Body-clause-kept
entering::enter_on-returns-in-Body-clause-kept t c =
    kept_then (trees_of c.args.site.now.codes.now.items) c.args.site.now.widget c.args.store.now c.entered.new.store c.body_on.new.store c.entered.ensures.kept c.body_on.ensures.kept

pub entering::enter_on-entered-requires-clause-widget : goal.entering::enter_on-entered-requires-clause-widget
entering::enter_on-entered-requires-clause-widget t c = c.requires.ready.0

pub entering::enter_on-entered-requires-clause-confined : goal.entering::enter_on-entered-requires-clause-confined
entering::enter_on-entered-requires-clause-confined t c = c.requires.ready.1

pub entering::enter_on-entered-requires-clause-fun : goal.entering::enter_on-entered-requires-clause-fun
entering::enter_on-entered-requires-clause-fun t c = c.requires.fun

pub entering::enter_on-entered-requires-clause-held : goal.entering::enter_on-entered-requires-clause-held
entering::enter_on-entered-requires-clause-held t c = c.requires.held

pub entering::enter_on-returns-in_err-cause-clause-comes : goal.entering::enter_on-returns-in_err-cause-clause-comes
entering::enter_on-returns-in_err-cause-clause-comes t c = refused c.from_residual.result _ c.from_residual.ensures.0

pub entering::enter_on-returns-in_err-cause-clause-kept : goal.entering::enter_on-returns-in_err-cause-clause-kept
entering::enter_on-returns-in_err-cause-clause-kept t c = c.entered.ensures.kept

pub entering::enter_on-stop-requires : goal.entering::enter_on-stop-requires
entering::enter_on-stop-requires t c = record { waits = c.requires.ready.2 }

pub entering::enter_on-returns-in-Stop-clause-kept : goal.entering::enter_on-returns-in-Stop-clause-kept
entering::enter_on-returns-in-Stop-clause-kept t c = c.entered.ensures.kept

pub entering::body_on-returns-in-Left-clause-comes : goal.entering::body_on-returns-in-Left-clause-comes
entering::body_on-returns-in-Left-clause-comes t c =
    let fs = trees_of c.args.here.now.site.now.codes.now.items in
    let w = c.args.here.now.site.now.widget in
    let old = c.args.store.now in
    let new = c.block_on.new.store in
    let p : State → Plan = block_at fs w old.cells (block.Body c.args.fun) 0 c.args.here.now.at in
    frame_waits fs w c.wait_end.result old new 1 4 p (frame.Call call.CallEnd) c.args.run.now c.block_on.new.run c.wait_end.new.run c.in_ok-how.how
    (ended_as c.in_ok-how.how c.block_on.new.out) (λ how. ended_as how c.block_on.new.out)
    c.in_ok-how.ensures.comes c.in-Left.is c.block_on.ensures.kept tt (omega arith) c.wait_end.ensures.left c.wait_end.ensures.waits c.wait_end.ensures.next c.wait_end.ensures.units

pub entering::body_on-returns-in_default : goal.entering::body_on-returns-in_default
entering::body_on-returns-in_default t c =
    let fs = trees_of c.args.here.now.site.now.codes.now.items in
    let w = c.args.here.now.site.now.widget in
    let old = c.args.store.now in
    let new = c.block_on.new.store in
    let p : State → Plan = block_at fs w old.cells (block.Body c.args.fun) 0 c.args.here.now.at in
    record {
      comes = part_ends fs w old new 1 4 p call_end c.args.run.now c.block_on.new.run c.in_ok-how.how c.call_end.result (ended_as c.in_ok-how.how c.block_on.new.out) (ended_as c.call_end.result c.call_end.new.out)
          c.in_ok-how.ensures.comes (other_end c.in_ok-how.how c.in_default.not-Left) c.call_end.ensures.ended (c.call_end.ensures.end w new) (c.call_end.ensures.fine w new) (omega arith);
      kept = c.block_on.ensures.kept;
    }

pub entering::body_on-block_on-requires : goal.entering::body_on-block_on-requires
entering::body_on-block_on-requires t c = (
  search rules,
  (
    (c.requires.ready),
    (
      (c.requires.held),
      c.requires.tree,
    ),
  ),
)

pub entering::body_on-returns-in_err-how-clause-comes : goal.entering::body_on-returns-in_err-how-clause-comes
entering::body_on-returns-in_err-how-clause-comes t c = refused c.from_residual.result _ c.from_residual.ensures.0

pub entering::body_on-returns-in_err-how-clause-kept : goal.entering::body_on-returns-in_err-how-clause-kept
entering::body_on-returns-in_err-how-clause-kept t c = c.block_on.ensures.kept

pub entering::body_on-returns-in-Left-clause-kept : goal.entering::body_on-returns-in-Left-clause-kept
entering::body_on-returns-in-Left-clause-kept t c = c.block_on.ensures.kept

pub entering::body_on-call_end-requires : goal.entering::body_on-call_end-requires
entering::body_on-call_end-requires t c = other_end c.in_ok-how.how c.in_default.not-Left

pub forms::eval_on-returns-clause-comes : goal.forms::eval_on-returns-clause-comes
forms::eval_on-returns-clause-comes t c =
    let fs = trees_of c.args.here.now.site.now.codes.now.items in
    let w = c.args.here.now.site.now.widget in
    let old = c.args.store.now in
    let new = c.form_on.new.store in
    let j = job_of fs w old.cells (job.Eval c.args.id c.args.here.now.at) in
    IfOk-weaker c.form_on.result _ _
    (λ how h. unit_first fs w old new 30 0 j (body j) Ret c.args.run.now _ c.form_on.new.run how _ (omega (arith, c.if-run-eq0.false)) (λ x. and_then_ret (body j x)) h (omega arith))
    c.form_on.ensures.comes

pub forms::operand_on-name_on-requires-clause-confined : goal.forms::operand_on-name_on-requires-clause-confined
forms::operand_on-name_on-requires-clause-confined t c = c.requires.ready.1

pub forms::operand_on-name_on-requires-clause-place : goal.forms::operand_on-name_on-requires-clause-place
forms::operand_on-name_on-requires-clause-place t c = c.requires.held.0

pub forms::operand_on-returns-in-Name-clause-comes : goal.forms::operand_on-returns-in-Name-clause-comes
forms::operand_on-returns-in-Name-clause-comes t c =
    let fs = trees_of c.args.here.now.site.now.codes.now.items in
    let w = c.args.here.now.site.now.widget in
    let s = c.args.store.now in
    let code = c.args.here.now.at.code in
    let f = trees c.args.here.now.tree.now in
    let pl = place_of w s.cells c.args.here.now.at in
    let j = job_of fs w s.cells (job.Eval c.args.id c.args.here.now.at) in
    let has = record c.args.run.now { units = c.args.run.now.units - 1 } in
    IfOk-weaker c.name_on.result _ _
    (λ how h. unit_first fs w s s 30 0 j (expression (node.Name c.in-Name.name) pl) Ret c.args.run.now has has how (ended_as how c.name_on.new.out) (less_one c.args.run.now.units c.if-run-eq0.false)
    (λ x. and_then_ret (body j x) ∙ at_eval fs code f c.args.id c.expr.result.now c.requires.tree c.expr.ensures.same pl x ∙ ap (λ (e : Expr). expression (plain_form (forest_at fs code) e) pl x) c.in-Name.is) (h has c.requires.ready.2) (omega arith))
    c.name_on.ensures.comes

pub forms::operand_on-returns-in-Num-clause-comes : goal.forms::operand_on-returns-in-Num-clause-comes
forms::operand_on-returns-in-Num-clause-comes t c =
    let fs = trees_of c.args.here.now.site.now.codes.now.items in
    let w = c.args.here.now.site.now.widget in
    let s = c.args.store.now in
    let code = c.args.here.now.at.code in
    let f = trees c.args.here.now.tree.now in
    let pl = place_of w s.cells c.args.here.now.at in
    let j = job_of fs w s.cells (job.Eval c.args.id c.args.here.now.at) in
    let has = record c.args.run.now { units = c.args.run.now.units - 1 } in
    IfOk-weaker c.number_on.result _ _
    (λ how h. unit_first fs w s s 30 0 j (expression (node.Num c.in-Num.numeral) pl) Ret c.args.run.now has has how (ended_as how c.number_on.new.out) (less_one c.args.run.now.units c.if-run-eq0.false)
    (λ x. and_then_ret (body j x) ∙ at_eval fs code f c.args.id c.expr.result.now c.requires.tree c.expr.ensures.same pl x ∙ ap (λ (e : Expr). expression (plain_form (forest_at fs code) e) pl x) c.in-Num.is) (h has c.requires.ready.2) (omega arith))
    c.number_on.ensures.comes

pub forms::operand_on-returns-in-Binary-clause-comes : goal.forms::operand_on-returns-in-Binary-clause-comes
forms::operand_on-returns-in-Binary-clause-comes t c =
    let fs = trees_of c.args.here.now.site.now.codes.now.items in
    let w = c.args.here.now.site.now.widget in
    let s = c.args.store.now in
    let at = c.args.here.now.at in
    let f = trees c.args.here.now.tree.now in
    let g = forest_at fs at.code in
    let pl = place_of w s.cells at in
    let j = job_of fs w s.cells (job.Eval c.args.id at) in
    let todo : State → Plan = λ x. Do (job_of fs w s.cells (job.Eval c.in-Binary.a at)) x (taken fs w s.cells (frame.Form (form.Right c.in-Binary.op c.in-Binary.b at))) in
    IfOk-weaker c.binary_on.result _ _
    (λ how h. unit_first fs w s c.binary_on.new.store 30 0 j todo Ret c.args.run.now _ c.binary_on.new.run how (ended_as how c.binary_on.new.out) (less_one c.args.run.now.units c.if-run-eq0.false)
    (λ x. and_then_ret (body j x) ∙ at_eval fs at.code f c.args.id c.expr.result.now c.requires.tree c.expr.ensures.same pl x ∙ ap (λ (e : Expr). expression (plain_form g e) pl x) c.in-Binary.is) h (omega arith))
    c.binary_on.ensures.comes

pub forms::operand_on-returns-in-Sub-clause-comes : goal.forms::operand_on-returns-in-Sub-clause-comes
forms::operand_on-returns-in-Sub-clause-comes t c =
    let fs = trees_of c.args.here.now.site.now.codes.now.items in
    let w = c.args.here.now.site.now.widget in
    let s = c.args.store.now in
    let at = c.args.here.now.at in
    let f = trees c.args.here.now.tree.now in
    let g = forest_at fs at.code in
    let pl = place_of w s.cells at in
    let j = job_of fs w s.cells (job.Eval c.args.id at) in
    let todo : State → Plan = λ x. Do (job_of fs w s.cells (job.Eval c.in-Sub.e at)) x (taken fs w s.cells (frame.Form (form.SubBase c.in-Sub.index at))) in
    IfOk-weaker c.sub_on.result _ _
    (λ how h. unit_first fs w s c.sub_on.new.store 30 0 j todo Ret c.args.run.now _ c.sub_on.new.run how (ended_as how c.sub_on.new.out) (less_one c.args.run.now.units c.if-run-eq0.false)
    (λ x. and_then_ret (body j x) ∙ at_eval fs at.code f c.args.id c.expr.result.now c.requires.tree c.expr.ensures.same pl x ∙ ap (λ (e : Expr). expression (plain_form g e) pl x) c.in-Sub.is) h (omega arith))
    c.sub_on.ensures.comes

pub forms::operand_on-returns-in-Dot-clause-comes : goal.forms::operand_on-returns-in-Dot-clause-comes
forms::operand_on-returns-in-Dot-clause-comes t c =
    let fs = trees_of c.args.here.now.site.now.codes.now.items in
    let w = c.args.here.now.site.now.widget in
    let s = c.args.store.now in
    let at = c.args.here.now.at in
    let f = trees c.args.here.now.tree.now in
    let g = forest_at fs at.code in
    let pl = place_of w s.cells at in
    let j = job_of fs w s.cells (job.Eval c.args.id at) in
    let todo : State → Plan = λ x. Do (job_of fs w s.cells (job.Eval c.in-Dot.e at)) x (taken fs w s.cells (frame.Form (form.Dot c.in-Dot.name))) in
    IfOk-weaker c.dot_on.result _ _
    (λ how h. unit_first fs w s c.dot_on.new.store 30 0 j todo Ret c.args.run.now _ c.dot_on.new.run how (ended_as how c.dot_on.new.out) (less_one c.args.run.now.units c.if-run-eq0.false)
    (λ x. and_then_ret (body j x) ∙ at_eval fs at.code f c.args.id c.expr.result.now c.requires.tree c.expr.ensures.same pl x ∙ ap (λ (e : Expr). expression (plain_form g e) pl x) c.in-Dot.is) h (omega arith))
    c.dot_on.ensures.comes

pub forms::operand_on-returns-in-Call-clause-comes : goal.forms::operand_on-returns-in-Call-clause-comes
forms::operand_on-returns-in-Call-clause-comes t c =
    let fs = trees_of c.args.here.now.site.now.codes.now.items in
    let w = c.args.here.now.site.now.widget in
    let s = c.args.store.now in
    let at = c.args.here.now.at in
    let f = trees c.args.here.now.tree.now in
    let g = forest_at fs at.code in
    let pl = place_of w s.cells at in
    let j = job_of fs w s.cells (job.Eval c.args.id at) in
    let i = expr_at g c.args.id in
    let asked : Tree → State → Plan = λ e x. Do (plan.Target (expr_at g c.in-Call.callee) pl) x (callee (arguments_of e) pl) in
    let todo : State → Plan = asked i in
    IfOk-weaker c.call_on.result _ _
    (λ how h. unit_first fs w s c.call_on.new.store 30 0 j todo Ret c.args.run.now _ c.call_on.new.run how (ended_as how c.call_on.new.out) (less_one c.args.run.now.units c.if-run-eq0.false)
    (λ x. and_then_ret (body j x) ∙ at_eval fs at.code f c.args.id c.expr.result.now c.requires.tree c.expr.ensures.same pl x ∙ ap (λ (e : Expr). expression (plain_form g e) pl x) c.in-Call.is
    ∙ ap (λ (e : Tree). asked e x) (ap (λ (n : Expr). plain_expr g n (expr_place i) (expr_names i)) (sym c.in-Call.is)
    ∙ node_same fs at.code f c.args.id c.expr.result.now c.requires.tree c.expr.ensures.same)) h (omega arith))
    c.call_on.ensures.comes

pub forms::operand_on-returns-in-Assign-clause-comes : goal.forms::operand_on-returns-in-Assign-clause-comes
forms::operand_on-returns-in-Assign-clause-comes t c =
    let fs = trees_of c.args.here.now.site.now.codes.now.items in
    let w = c.args.here.now.site.now.widget in
    let s = c.args.store.now in
    let at = c.args.here.now.at in
    let f = trees c.args.here.now.tree.now in
    let g = forest_at fs at.code in
    let pl = place_of w s.cells at in
    let j = job_of fs w s.cells (job.Eval c.args.id at) in
    let todo : State → Plan = λ x. Do (job_of fs w s.cells (job.Target c.in-Assign.to at)) x (taken fs w s.cells (frame.Form (form.AssignTarget c.in-Assign.op c.in-Assign.e at))) in
    IfOk-weaker c.assign_on.result _ _
    (λ how h. unit_first fs w s c.assign_on.new.store 30 0 j todo Ret c.args.run.now _ c.assign_on.new.run how (ended_as how c.assign_on.new.out) (less_one c.args.run.now.units c.if-run-eq0.false)
    (λ x. and_then_ret (body j x) ∙ at_eval fs at.code f c.args.id c.expr.result.now c.requires.tree c.expr.ensures.same pl x ∙ ap (λ (e : Expr). expression (plain_form g e) pl x) c.in-Assign.is) h (omega arith))
    c.assign_on.ensures.comes

pub forms::operand_on-returns-in-Some-clause-comes : goal.forms::operand_on-returns-in-Some-clause-comes
forms::operand_on-returns-in-Some-clause-comes t c =
    let fs = trees_of c.args.here.now.site.now.codes.now.items in
    let w = c.args.here.now.site.now.widget in
    let s = c.args.store.now in
    let at = c.args.here.now.at in
    let f = trees c.args.here.now.tree.now in
    let g = forest_at fs at.code in
    let pl = place_of w s.cells at in
    let j = job_of fs w s.cells (job.Eval c.args.id at) in
    let y = c.in-Some.y in
    let same : to_z w64 (of_z w64 y) ≡ y = search rules in
    operated_comes fs w s 0 2 (omega arith) (λ x. Do j x Ret) c.args.run.now (record c.args.run.now { units = c.args.run.now.units - 2 }) c.set_value.new.out (value.Num (number.Whole y)) (c.set_value.ensures ∙ ap (λ (k : ℤ). value.Num (number.Whole k)) same) (omega (arith, c.in-Some.ensures.units)) c.requires.ready.2
    (λ r. let x = image fs r w s in paid 1 j x Ret _ (starts 1 _ _ _
    (and_then_ret (body j x) ∙ at_eval fs at.code f c.args.id c.expr.result.now c.requires.tree c.expr.ensures.same pl x ∙ ap (λ (e : Expr). expression (plain_form g e) pl x) c.in-Unary.is) (c.in-Some.ensures.paid r))) tt

pub forms::operand_on-overflow_sub-run-in-Some : goal.forms::operand_on-overflow_sub-run-in-Some
forms::operand_on-overflow_sub-run-in-Some t c = omega (arith, c.in-Some.ensures.units)

pub forms::condition_on-compared-requires-clause-confined : goal.forms::condition_on-compared-requires-clause-confined
forms::condition_on-compared-requires-clause-confined t c = c.requires.ready.1

pub forms::condition_on-overflow_sub-run : goal.forms::condition_on-overflow_sub-run
forms::condition_on-overflow_sub-run t c = omega (arith, c.in-Some.ensures.units)

pub forms::condition_on-returns-in-Some-clause-comes : goal.forms::condition_on-returns-in-Some-clause-comes
forms::condition_on-returns-in-Some-clause-comes t c =
    let fs = trees_of c.args.here.now.site.now.codes.now.items in
    let w = c.args.here.now.site.now.widget in
    let s = c.args.store.now in
    let j = job_of fs w s.cells (job.Eval c.args.id c.args.here.now.at) in
    operated_comes fs w s 0 3 (omega arith) (λ x. Do j x Ret) c.args.run.now (record c.args.run.now { units = c.args.run.now.units - 3 }) c.set_value.new.out (value.Bool c.in-Some.told) c.set_value.ensures (omega (arith, c.in-Some.ensures.units)) c.requires.ready.2 c.in-Some.ensures.paid tt

pub forms::form_on-returns-in-Name-clause-comes : goal.forms::form_on-returns-in-Name-clause-comes
forms::form_on-returns-in-Name-clause-comes t c =
    let fs = trees_of c.args.here.now.site.now.codes.now.items in
    let w = c.args.here.now.site.now.widget in
    let old = c.args.store.now in
    let at = c.args.here.now.at in
    let f = trees c.args.here.now.tree.now in
    let g = forest_at fs at.code in
    let pl = place_of w old.cells at in
    let whole : State → Plan = body (job_of fs w old.cells (job.Eval c.args.id at)) in
    IfOk-weaker c.name_on.result _ _
    (λ h x. instead fs w old old 30 30 (expression (node.Name c.in-Name.name) pl) whole c.args.run.now c.args.run.now h _ (x c.args.run.now c.requires.ready.2)
    (λ r. at_eval fs at.code f c.args.id c.expr.result.now c.requires.tree c.expr.ensures.same pl (image fs r w old)
    ∙ ap (λ (e : Expr). expression (plain_form g e) pl (image fs r w old)) c.in-Name.is) (omega arith))
    c.name_on.ensures.comes

pub forms::form_on-returns-in-Num-clause-comes : goal.forms::form_on-returns-in-Num-clause-comes
forms::form_on-returns-in-Num-clause-comes t c =
    let fs = trees_of c.args.here.now.site.now.codes.now.items in
    let w = c.args.here.now.site.now.widget in
    let old = c.args.store.now in
    let at = c.args.here.now.at in
    let f = trees c.args.here.now.tree.now in
    let g = forest_at fs at.code in
    let pl = place_of w old.cells at in
    let whole : State → Plan = body (job_of fs w old.cells (job.Eval c.args.id at)) in
    IfOk-weaker c.number_on.result _ _
    (λ h x. instead fs w old old 30 30 (expression (node.Num c.in-Num.numeral) pl) whole c.args.run.now c.args.run.now h _ (x c.args.run.now c.requires.ready.2)
    (λ r. at_eval fs at.code f c.args.id c.expr.result.now c.requires.tree c.expr.ensures.same pl (image fs r w old)
    ∙ ap (λ (e : Expr). expression (plain_form g e) pl (image fs r w old)) c.in-Num.is) (omega arith))
    c.number_on.ensures.comes

pub forms::form_on-returns-in-Str-clause-comes : goal.forms::form_on-returns-in-Str-clause-comes
forms::form_on-returns-in-Str-clause-comes t c =
    let fs = trees_of c.args.here.now.site.now.codes.now.items in
    let w = c.args.here.now.site.now.widget in
    let old = c.args.store.now in
    let at = c.args.here.now.at in
    let f = trees c.args.here.now.tree.now in
    let g = forest_at fs at.code in
    let pl = place_of w old.cells at in
    let whole : State → Plan = body (job_of fs w old.cells (job.Eval c.args.id at)) in
    IfOk-weaker c.text_on.result _ _
    (λ h x. instead fs w old old 30 30 (expression (node.Str c.in-Str.text) pl) whole c.args.run.now c.args.run.now h _ (x c.args.run.now c.requires.ready.2)
    (λ r. at_eval fs at.code f c.args.id c.expr.result.now c.requires.tree c.expr.ensures.same pl (image fs r w old)
    ∙ ap (λ (e : Expr). expression (plain_form g e) pl (image fs r w old)) c.in-Str.is) (omega arith))
    c.text_on.ensures.comes

pub forms::form_on-returns-in-Word-clause-comes : goal.forms::form_on-returns-in-Word-clause-comes
forms::form_on-returns-in-Word-clause-comes t c =
    let fs = trees_of c.args.here.now.site.now.codes.now.items in
    let w = c.args.here.now.site.now.widget in
    let old = c.args.store.now in
    let at = c.args.here.now.at in
    let f = trees c.args.here.now.tree.now in
    let g = forest_at fs at.code in
    let pl = place_of w old.cells at in
    let whole : State → Plan = body (job_of fs w old.cells (job.Eval c.args.id at)) in
    IfOk-weaker c.word_on.result _ _
    (λ h x. instead fs w old old 30 30 (expression (node.Constant c.in-Word.word) pl) whole c.args.run.now c.args.run.now h _ (x c.args.run.now c.requires.ready.2)
    (λ r. at_eval fs at.code f c.args.id c.expr.result.now c.requires.tree c.expr.ensures.same pl (image fs r w old)
    ∙ ap (λ (e : Expr). expression (plain_form g e) pl (image fs r w old)) c.in-Word.is) (omega arith))
    c.word_on.ensures.comes

pub forms::form_on-returns-in-Dot-clause-comes : goal.forms::form_on-returns-in-Dot-clause-comes
forms::form_on-returns-in-Dot-clause-comes t c =
    let fs = trees_of c.args.here.now.site.now.codes.now.items in
    let w = c.args.here.now.site.now.widget in
    let old = c.args.store.now in
    let at = c.args.here.now.at in
    let f = trees c.args.here.now.tree.now in
    let g = forest_at fs at.code in
    let pl = place_of w old.cells at in
    let whole : State → Plan = body (job_of fs w old.cells (job.Eval c.args.id at)) in
    let todo : State → Plan = λ s. Do (job_of fs w old.cells (job.Eval c.in-Dot.e at)) s (taken fs w old.cells (frame.Form (form.Dot c.in-Dot.name))) in
    IfOk-weaker c.dot_on.result _ _
    (λ h x. instead fs w old c.dot_on.new.store 30 30 todo whole c.args.run.now c.dot_on.new.run h _ x
    (λ r. at_eval fs at.code f c.args.id c.expr.result.now c.requires.tree c.expr.ensures.same pl (image fs r w old)
    ∙ ap (λ (e : Expr). expression (plain_form g e) pl (image fs r w old)) c.in-Dot.is) (omega arith))
    c.dot_on.ensures.comes

pub forms::form_on-returns-in-Binary-clause-comes : goal.forms::form_on-returns-in-Binary-clause-comes
forms::form_on-returns-in-Binary-clause-comes t c =
    let fs = trees_of c.args.here.now.site.now.codes.now.items in
    let w = c.args.here.now.site.now.widget in
    let old = c.args.store.now in
    let at = c.args.here.now.at in
    let f = trees c.args.here.now.tree.now in
    let g = forest_at fs at.code in
    let pl = place_of w old.cells at in
    let whole : State → Plan = body (job_of fs w old.cells (job.Eval c.args.id at)) in
    let todo : State → Plan = λ s. Do (job_of fs w old.cells (job.Eval c.in-Binary.a at)) s (taken fs w old.cells (frame.Form (form.Right c.in-Binary.op c.in-Binary.b at))) in
    IfOk-weaker c.binary_on.result _ _
    (λ h x. instead fs w old c.binary_on.new.store 30 30 todo whole c.args.run.now c.binary_on.new.run h _ x
    (λ r. at_eval fs at.code f c.args.id c.expr.result.now c.requires.tree c.expr.ensures.same pl (image fs r w old)
    ∙ ap (λ (e : Expr). expression (plain_form g e) pl (image fs r w old)) c.in-Binary.is) (omega arith))
    c.binary_on.ensures.comes

pub forms::form_on-returns-in-Call-clause-comes : goal.forms::form_on-returns-in-Call-clause-comes
forms::form_on-returns-in-Call-clause-comes t c =
    let fs = trees_of c.args.here.now.site.now.codes.now.items in
    let w = c.args.here.now.site.now.widget in
    let old = c.args.store.now in
    let at = c.args.here.now.at in
    let f = trees c.args.here.now.tree.now in
    let g = forest_at fs at.code in
    let pl = place_of w old.cells at in
    let whole : State → Plan = body (job_of fs w old.cells (job.Eval c.args.id at)) in
    let i = expr_at g c.args.id in
    let asked : Tree → State → Plan = λ e s. Do (plan.Target (expr_at g c.in-Call.callee) pl) s (callee (arguments_of e) pl) in
    IfOk-weaker c.call_on.result _ _
    (λ h x. instead fs w old c.call_on.new.store 30 30 (asked i) whole c.args.run.now c.call_on.new.run h _ x
    (λ r. at_eval fs at.code f c.args.id c.expr.result.now c.requires.tree c.expr.ensures.same pl (image fs r w old)
    ∙ ap (λ (e : Expr). expression (plain_form g e) pl (image fs r w old)) c.in-Call.is
    ∙ ap (λ (e : Tree). asked e (image fs r w old)) (ap (λ (n : Expr). plain_expr g n (expr_place i) (expr_names i)) (sym c.in-Call.is)
    ∙ node_same fs at.code f c.args.id c.expr.result.now c.requires.tree c.expr.ensures.same)) (omega arith))
    c.call_on.ensures.comes

pub forms::form_on-returns-in-Assign-clause-comes : goal.forms::form_on-returns-in-Assign-clause-comes
forms::form_on-returns-in-Assign-clause-comes t c =
    let fs = trees_of c.args.here.now.site.now.codes.now.items in
    let w = c.args.here.now.site.now.widget in
    let old = c.args.store.now in
    let at = c.args.here.now.at in
    let f = trees c.args.here.now.tree.now in
    let g = forest_at fs at.code in
    let pl = place_of w old.cells at in
    let whole : State → Plan = body (job_of fs w old.cells (job.Eval c.args.id at)) in
    let todo : State → Plan = λ s. Do (job_of fs w old.cells (job.Target c.in-Assign.to at)) s (taken fs w old.cells (frame.Form (form.AssignTarget c.in-Assign.op c.in-Assign.e at))) in
    IfOk-weaker c.assign_on.result _ _
    (λ h x. instead fs w old c.assign_on.new.store 30 30 todo whole c.args.run.now c.assign_on.new.run h _ x
    (λ r. at_eval fs at.code f c.args.id c.expr.result.now c.requires.tree c.expr.ensures.same pl (image fs r w old)
    ∙ ap (λ (e : Expr). expression (plain_form g e) pl (image fs r w old)) c.in-Assign.is) (omega arith))
    c.assign_on.ensures.comes

pub forms::form_on-returns-in-Step-clause-comes : goal.forms::form_on-returns-in-Step-clause-comes
forms::form_on-returns-in-Step-clause-comes t c =
    let fs = trees_of c.args.here.now.site.now.codes.now.items in
    let w = c.args.here.now.site.now.widget in
    let old = c.args.store.now in
    let at = c.args.here.now.at in
    let f = trees c.args.here.now.tree.now in
    let g = forest_at fs at.code in
    let pl = place_of w old.cells at in
    let whole : State → Plan = body (job_of fs w old.cells (job.Eval c.args.id at)) in
    let todo : State → Plan = λ s. Do (job_of fs w old.cells (job.Target c.in-Step.to at)) s (taken fs w old.cells (frame.Form (form.StepTarget c.in-Step.op at))) in
    IfOk-weaker c.step_on.result _ _
    (λ h x. instead fs w old c.step_on.new.store 30 30 todo whole c.args.run.now c.step_on.new.run h _ x
    (λ r. at_eval fs at.code f c.args.id c.expr.result.now c.requires.tree c.expr.ensures.same pl (image fs r w old)
    ∙ ap (λ (e : Expr). expression (plain_form g e) pl (image fs r w old)) c.in-Step.is) (omega arith))
    c.step_on.ensures.comes

pub forms::form_on-returns-in-Sub-clause-comes : goal.forms::form_on-returns-in-Sub-clause-comes
forms::form_on-returns-in-Sub-clause-comes t c =
    let fs = trees_of c.args.here.now.site.now.codes.now.items in
    let w = c.args.here.now.site.now.widget in
    let old = c.args.store.now in
    let at = c.args.here.now.at in
    let f = trees c.args.here.now.tree.now in
    let g = forest_at fs at.code in
    let pl = place_of w old.cells at in
    let whole : State → Plan = body (job_of fs w old.cells (job.Eval c.args.id at)) in
    let todo : State → Plan = λ s. Do (job_of fs w old.cells (job.Eval c.in-Sub.e at)) s (taken fs w old.cells (frame.Form (form.SubBase c.in-Sub.index at))) in
    IfOk-weaker c.sub_on.result _ _
    (λ h x. instead fs w old c.sub_on.new.store 30 30 todo whole c.args.run.now c.sub_on.new.run h _ x
    (λ r. at_eval fs at.code f c.args.id c.expr.result.now c.requires.tree c.expr.ensures.same pl (image fs r w old)
    ∙ ap (λ (e : Expr). expression (plain_form g e) pl (image fs r w old)) c.in-Sub.is) (omega arith))
    c.sub_on.ensures.comes

pub forms::form_on-returns-in-And-clause-comes : goal.forms::form_on-returns-in-And-clause-comes
forms::form_on-returns-in-And-clause-comes t c =
    let fs = trees_of c.args.here.now.site.now.codes.now.items in
    let w = c.args.here.now.site.now.widget in
    let old = c.args.store.now in
    let at = c.args.here.now.at in
    let f = trees c.args.here.now.tree.now in
    let g = forest_at fs at.code in
    let pl = place_of w old.cells at in
    let whole : State → Plan = body (job_of fs w old.cells (job.Eval c.args.id at)) in
    let todo : State → Plan = λ s. Do (job_of fs w old.cells (job.Eval c.in-And.a at)) s (taken fs w old.cells (frame.Form (form.And c.in-And.b at))) in
    IfOk-weaker c.and_on.result _ _
    (λ h x. instead fs w old c.and_on.new.store 30 30 todo whole c.args.run.now c.and_on.new.run h _ x
    (λ r. at_eval fs at.code f c.args.id c.expr.result.now c.requires.tree c.expr.ensures.same pl (image fs r w old)
    ∙ ap (λ (e : Expr). expression (plain_form g e) pl (image fs r w old)) c.in-And.is) (omega arith))
    c.and_on.ensures.comes

pub forms::form_on-returns-in-Or-clause-comes : goal.forms::form_on-returns-in-Or-clause-comes
forms::form_on-returns-in-Or-clause-comes t c =
    let fs = trees_of c.args.here.now.site.now.codes.now.items in
    let w = c.args.here.now.site.now.widget in
    let old = c.args.store.now in
    let at = c.args.here.now.at in
    let f = trees c.args.here.now.tree.now in
    let g = forest_at fs at.code in
    let pl = place_of w old.cells at in
    let whole : State → Plan = body (job_of fs w old.cells (job.Eval c.args.id at)) in
    let todo : State → Plan = λ s. Do (job_of fs w old.cells (job.Eval c.in-Or.a at)) s (taken fs w old.cells (frame.Form (form.Or c.in-Or.b at))) in
    IfOk-weaker c.or_on.result _ _
    (λ h x. instead fs w old c.or_on.new.store 30 30 todo whole c.args.run.now c.or_on.new.run h _ x
    (λ r. at_eval fs at.code f c.args.id c.expr.result.now c.requires.tree c.expr.ensures.same pl (image fs r w old)
    ∙ ap (λ (e : Expr). expression (plain_form g e) pl (image fs r w old)) c.in-Or.is) (omega arith))
    c.or_on.ensures.comes

pub forms::form_on-returns-in-Cond-clause-comes : goal.forms::form_on-returns-in-Cond-clause-comes
forms::form_on-returns-in-Cond-clause-comes t c =
    let fs = trees_of c.args.here.now.site.now.codes.now.items in
    let w = c.args.here.now.site.now.widget in
    let old = c.args.store.now in
    let at = c.args.here.now.at in
    let f = trees c.args.here.now.tree.now in
    let g = forest_at fs at.code in
    let pl = place_of w old.cells at in
    let whole : State → Plan = body (job_of fs w old.cells (job.Eval c.args.id at)) in
    let todo : State → Plan = λ s. Do (job_of fs w old.cells (job.Eval c.in-Cond.a at)) s (taken fs w old.cells (frame.Form (form.Choose c.in-Cond.b c.in-Cond.c at))) in
    IfOk-weaker c.choose_on.result _ _
    (λ h x. instead fs w old c.choose_on.new.store 30 30 todo whole c.args.run.now c.choose_on.new.run h _ x
    (λ r. at_eval fs at.code f c.args.id c.expr.result.now c.requires.tree c.expr.ensures.same pl (image fs r w old)
    ∙ ap (λ (e : Expr). expression (plain_form g e) pl (image fs r w old)) c.in-Cond.is) (omega arith))
    c.choose_on.ensures.comes

pub forms::form_on-returns-in-Function-clause-comes : goal.forms::form_on-returns-in-Function-clause-comes
forms::form_on-returns-in-Function-clause-comes t c =
    let fs = trees_of c.args.here.now.site.now.codes.now.items in
    let w = c.args.here.now.site.now.widget in
    let old = c.args.store.now in
    let at = c.args.here.now.at in
    let f = trees c.args.here.now.tree.now in
    let g = forest_at fs at.code in
    let pl = place_of w old.cells at in
    let whole : State → Plan = body (job_of fs w old.cells (job.Eval c.args.id at)) in
    let todo : State → Plan = expression (node.Function (fun_at g c.in-Function.fun)) pl in
    IfOk-weaker c.function_on.result _ _
    (λ h x. instead fs w old c.function_on.new.store 30 30 todo whole c.args.run.now c.function_on.new.run h _ x
    (λ r. at_eval fs at.code f c.args.id c.expr.result.now c.requires.tree c.expr.ensures.same pl (image fs r w old)
    ∙ ap (λ (e : Expr). expression (plain_form g e) pl (image fs r w old)) c.in-Function.is) (omega arith))
    c.function_on.ensures.comes

pub forms::form_on-returns-in-Array-clause-comes : goal.forms::form_on-returns-in-Array-clause-comes
forms::form_on-returns-in-Array-clause-comes t c =
    let fs = trees_of c.args.here.now.site.now.codes.now.items in
    let w = c.args.here.now.site.now.widget in
    let old = c.args.store.now in
    let at = c.args.here.now.at in
    let f = trees c.args.here.now.tree.now in
    let g = forest_at fs at.code in
    let pl = place_of w old.cells at in
    let whole : State → Plan = body (job_of fs w old.cells (job.Eval c.args.id at)) in
    let i = expr_at g c.args.id in
    let made : Tree → State → Plan = λ e s. make (new_array 0 []) 0 s (λ a t. array_parts a 0 (elements_of e) pl t) in
    IfOk-weaker c.array_on.result _ _
    (λ h x. instead fs w old c.array_on.new.store 30 30 (made i) whole c.args.run.now c.array_on.new.run h _ x
    (λ r. at_eval fs at.code f c.args.id c.expr.result.now c.requires.tree c.expr.ensures.same pl (image fs r w old)
    ∙ ap (λ (e : Expr). expression (plain_form g e) pl (image fs r w old)) c.in-Array.is
    ∙ ap (λ (e : Tree). made e (image fs r w old)) (ap (λ (n : Expr). plain_expr g n (expr_place i) (expr_names i)) (sym c.in-Array.is)
    ∙ node_same fs at.code f c.args.id c.expr.result.now c.requires.tree c.expr.ensures.same)) (omega arith))
    c.array_on.ensures.comes

pub forms::form_on-returns-in-Object-clause-comes : goal.forms::form_on-returns-in-Object-clause-comes
forms::form_on-returns-in-Object-clause-comes t c =
    let fs = trees_of c.args.here.now.site.now.codes.now.items in
    let w = c.args.here.now.site.now.widget in
    let old = c.args.store.now in
    let at = c.args.here.now.at in
    let f = trees c.args.here.now.tree.now in
    let g = forest_at fs at.code in
    let pl = place_of w old.cells at in
    let whole : State → Plan = body (job_of fs w old.cells (job.Eval c.args.id at)) in
    let i = expr_at g c.args.id in
    let made : Tree → State → Plan = λ e s. make (plain_object []) 0 s (λ a t. object_parts a (properties_of e) pl t) in
    IfOk-weaker c.object_on.result _ _
    (λ h x. instead fs w old c.object_on.new.store 30 30 (made i) whole c.args.run.now c.object_on.new.run h _ x
    (λ r. at_eval fs at.code f c.args.id c.expr.result.now c.requires.tree c.expr.ensures.same pl (image fs r w old)
    ∙ ap (λ (e : Expr). expression (plain_form g e) pl (image fs r w old)) c.in-Object.is
    ∙ ap (λ (e : Tree). made e (image fs r w old)) (ap (λ (n : Expr). plain_expr g n (expr_place i) (expr_names i)) (sym c.in-Object.is)
    ∙ node_same fs at.code f c.args.id c.expr.result.now c.requires.tree c.expr.ensures.same)) (omega arith))
    c.object_on.ensures.comes

pub forms::unary_form-returns-then-takes_target-clause-comes : goal.forms::unary_form-returns-then-takes_target-clause-comes
forms::unary_form-returns-then-takes_target-clause-comes t c =
    let fs = trees_of c.args.here.now.site.now.codes.now.items in
    let w = c.args.here.now.site.now.widget in
    let old = c.args.store.now in
    let place = c.args.here.now.at in
    let todo : State → Plan = λ s. Do (job_of fs w old.cells (job.Target c.args.parts.1 place)) s (form_taken fs w old.cells form.Delete) in
    IfOk-weaker c.delete_on.result _ _
    (λ h x. instead fs w old c.delete_on.new.store 30 30 todo (body (job_of fs w old.cells (job.Eval c.args.id place))) c.args.run.now c.delete_on.new.run h _ x
    (λ r. (λ i. c.requires.same i (image fs r w old))
    ∙ c.takes_target.ensures.yes c.if-takes_target.true (expr_at (forest_at fs place.code) c.args.parts.1) (place_of w old.cells place) (image fs r w old)) (omega arith))
    c.delete_on.ensures.comes

pub forms::unary_form-returns-clause-comes : goal.forms::unary_form-returns-clause-comes
forms::unary_form-returns-clause-comes t c =
    let fs = trees_of c.args.here.now.site.now.codes.now.items in
    let w = c.args.here.now.site.now.widget in
    let old = c.args.store.now in
    let place = c.args.here.now.at in
    let todo : State → Plan = λ s. Do (job_of fs w old.cells (job.Eval c.args.parts.1 place)) s (taken fs w old.cells (frame.Form (form.Prefix c.args.parts.0 place))) in
    IfOk-weaker c.unary_on.result _ _
    (λ h x. instead fs w old c.unary_on.new.store 30 30 todo (body (job_of fs w old.cells (job.Eval c.args.id place))) c.args.run.now c.unary_on.new.run h _ x
    (λ r. (λ i. c.requires.same i (image fs r w old))
    ∙ c.takes_target.ensures.no c.if-takes_target.false (expr_at (forest_at fs place.code) c.args.parts.1) (place_of w old.cells place) (image fs r w old)) (omega arith))
    c.unary_on.ensures.comes

pub looping::again_on-returns-in-None-clause-comes : goal.looping::again_on-returns-in-None-clause-comes
looping::again_on-returns-in-None-clause-comes t c =
    let fs = trees_of c.args.here.now.site.now.codes.now.items in
    let w = c.args.here.now.site.now.widget in
    let s0 = c.args.store.now in
    let s1 = c.test_on.new.store in
    let s2 = c.passes_by.new.store in
    let start : State → Plan = taken fs w s0.cells (frame.Statement (statement.ForAgain c.args.id c.args.here.now.at)) meaning.Normal in
    let again : State → Plan = λ s. Do (job_of fs w s1.cells (job.Pass c.args.id c.args.here.now.at)) s Ret in
    let done : Towards fs w s0 s1 start again c.args.run.now c.test_on.new.run = subst (λ (e : Option Ended). Passes fs w s0 s1 1 start again c.args.run.now c.test_on.new.run e c.test_on.new.out) c.in-None.is c.in_ok-test_on.ensures.passes in
    IfOk-weaker c.passes_by.result _ _ (λ h x. towards_then fs w s0 s1 s2 0 1 start again c.args.run.now c.test_on.new.run c.passes_by.new.run h (ended_as h c.passes_by.new.out) done x (omega arith)) c.passes_by.ensures.comes

pub looping::again_on-returns-in-None-clause-kept : goal.looping::again_on-returns-in-None-clause-kept
looping::again_on-returns-in-None-clause-kept t c =
    let fs = trees_of c.args.here.now.site.now.codes.now.items in
    let w = c.args.here.now.site.now.widget in
    let s0 = c.args.store.now in
    let s1 = c.test_on.new.store in
    let s2 = c.passes_by.new.store in
    let start : State → Plan = taken fs w s0.cells (frame.Statement (statement.ForAgain c.args.id c.args.here.now.at)) meaning.Normal in
    let again : State → Plan = λ s. Do (job_of fs w s1.cells (job.Pass c.args.id c.args.here.now.at)) s Ret in
    kept_then fs w s0 s1 s2 c.in_ok-test_on.ensures.kept c.passes_by.ensures.kept

pub looping::tested_on-returns-in-Is-clause-passes : goal.looping::tested_on-returns-in-Is-clause-passes
looping::tested_on-returns-in-Is-clause-passes t c =
    let fs = trees_of c.args.here.now.site.now.codes.now.items in
    let w = c.args.here.now.site.now.widget in
    let old = c.args.store.now in
    let mid = c.condition_on.new.store in
    let p : State → Plan = λ s. Do (job_of fs w old.cells (job.Eval c.args.e c.args.here.now.at)) s Ret in
    let had = c.args.run.now in
    let has = c.condition_on.new.run in
    let how = c.in_ok-how.how in
    let out = c.condition_on.new.out in
    let part = c.in_ok-how.ensures.comes in
    let kept = c.in_ok-how.ensures.kept in
    let f = (frame.Statement (statement.Test c.args.id c.args.here.now.at)) in
    let again : State → Plan = λ s. Do (job_of fs w mid.cells (job.Pass c.args.id c.args.here.now.at)) s Ret in
    let one = as_is fs w old mid 0 p had has how ended.Is out c.in-Is.is part in
    tested fs w c.over.result old mid p again c.args.id c.args.here.now.at had has out _ one kept.grows c.requires.held.0 (end_ready fs w old mid 0 p had has ended.Is (ended_as ended.Is out) one tt c.requires.ready kept) (c.over.ensures w mid.cells) (λ s. refl)

pub looping::tested_on-returns-in_ok-hand_test-in_default-clause-passes : goal.looping::tested_on-returns-in_ok-hand_test-in_default-clause-passes
looping::tested_on-returns-in_ok-hand_test-in_default-clause-passes t c =
    let fs = trees_of c.args.here.now.site.now.codes.now.items in
    let w = c.args.here.now.site.now.widget in
    let old = c.args.store.now in
    let mid = c.condition_on.new.store in
    let p : State → Plan = λ s. Do (job_of fs w old.cells (job.Eval c.args.e c.args.here.now.at)) s Ret in
    let had = c.args.run.now in
    let has = c.condition_on.new.run in
    let how = c.in_ok-how.how in
    let out = c.condition_on.new.out in
    let part = c.in_ok-how.ensures.comes in
    let kept = c.in_ok-how.ensures.kept in
    let f = (frame.Statement (statement.Test c.args.id c.args.here.now.at)) in
    let again : State → Plan = λ s. Do (job_of fs w mid.cells (job.Pass c.args.id c.args.here.now.at)) s Ret in
    let t = c.in_ok-hand_test-in_default in
    hands fs w old mid 0 1 p f had has c.hand_test.new.run t.field-0 out how part
    (passes_value fs w mid.cells f how out (λ v t. statements_2.loop_test (loop_of (stmt_at (forest_at fs c.args.here.now.at.code) c.args.id)) (place_of w mid.cells c.args.here.now.at) (meaning.Is v) t) c.in_default.not-Is (λ o t. refl)) kept c.requires.held.0 (omega arith) t.ensures

pub looping::passes_by-returns-in_err-how-clause-kept : goal.looping::passes_by-returns-in_err-how-clause-kept
looping::passes_by-returns-in_err-how-clause-kept t c =
    let fs = trees_of c.args.here.now.site.now.codes.now.items in
    let w = c.args.here.now.site.now.widget in
    let s0 = c.args.store.now in
    let s1 = c.passes.store in
    let s2 = c.pass_on.new.store in
    let start : State → Plan = λ s. Do (job_of fs w s0.cells (job.Pass c.args.id c.args.here.now.at)) s Ret in
    let again : State → Plan = λ s. Do (job_of fs w s1.cells (job.Pass c.args.id c.args.here.now.at)) s Ret in
    let more : State → Plan = λ s. Do (job_of fs w s2.cells (job.Pass c.args.id c.args.here.now.at)) s Ret in
    let inv = c.passes.invariant in
    kept_then fs w s0 s1 s2 inv.1 c.in_err-how.ensures.kept

pub looping::passes_by-returns-in-Some-clause-comes : goal.looping::passes_by-returns-in-Some-clause-comes
looping::passes_by-returns-in-Some-clause-comes t c =
    let fs = trees_of c.args.here.now.site.now.codes.now.items in
    let w = c.args.here.now.site.now.widget in
    let s0 = c.args.store.now in
    let s1 = c.passes.store in
    let s2 = c.pass_on.new.store in
    let start : State → Plan = λ s. Do (job_of fs w s0.cells (job.Pass c.args.id c.args.here.now.at)) s Ret in
    let again : State → Plan = λ s. Do (job_of fs w s1.cells (job.Pass c.args.id c.args.here.now.at)) s Ret in
    let more : State → Plan = λ s. Do (job_of fs w s2.cells (job.Pass c.args.id c.args.here.now.at)) s Ret in
    let inv = c.passes.invariant in
    towards_then fs w s0 s1 s2 0 0 start again c.args.run.now c.passes.run c.pass_on.new.run c.in-Some.how (ended_as c.in-Some.how c.pass_on.new.out) inv.0
    (subst (λ (e : Option Ended). Passes fs w s1 s2 0 again more c.passes.run c.pass_on.new.run e c.pass_on.new.out) c.in-Some.is c.in_ok-how.ensures.passes) (omega arith)

pub looping::passes_by-returns-in-Some-clause-kept : goal.looping::passes_by-returns-in-Some-clause-kept
looping::passes_by-returns-in-Some-clause-kept t c =
    let fs = trees_of c.args.here.now.site.now.codes.now.items in
    let w = c.args.here.now.site.now.widget in
    let s0 = c.args.store.now in
    let s1 = c.passes.store in
    let s2 = c.pass_on.new.store in
    let start : State → Plan = λ s. Do (job_of fs w s0.cells (job.Pass c.args.id c.args.here.now.at)) s Ret in
    let again : State → Plan = λ s. Do (job_of fs w s1.cells (job.Pass c.args.id c.args.here.now.at)) s Ret in
    let more : State → Plan = λ s. Do (job_of fs w s2.cells (job.Pass c.args.id c.args.here.now.at)) s Ret in
    let inv = c.passes.invariant in
    kept_then fs w s0 s1 s2 inv.1 c.in_ok-how.ensures.kept

pub looping::passes_by-returns-clause-comes : goal.looping::passes_by-returns-clause-comes
looping::passes_by-returns-clause-comes t c =
    let fs = trees_of c.args.here.now.site.now.codes.now.items in
    let w = c.args.here.now.site.now.widget in
    let s0 = c.args.store.now in
    let s1 = c.passes.store in
    let start : State → Plan = λ s. Do (job_of fs w s0.cells (job.Pass c.args.id c.args.here.now.at)) s Ret in
    let again : State → Plan = λ s. Do (job_of fs w s1.cells (job.Pass c.args.id c.args.here.now.at)) s Ret in
    let inv = c.passes.invariant in
    IfOk-weaker c.leave_job.result _ _
    (λ h k. towards_then fs w s0 s1 s1 0 0 start again c.args.run.now c.passes.run c.leave_job.new.run h (ended_as h c.passes.out) inv.0 (k fs w s1 c.passes.out inv.2) (omega arith))
    c.leave_job.ensures.comes

pub looping::passes_by-passes-preserved : goal.looping::passes_by-passes-preserved
looping::passes_by-passes-preserved t c =
    let fs = trees_of c.args.here.now.site.now.codes.now.items in
    let w = c.args.here.now.site.now.widget in
    let s0 = c.args.store.now in
    let s1 = c.passes.store in
    let s2 = c.pass_on.new.store in
    let start : State → Plan = λ s. Do (job_of fs w s0.cells (job.Pass c.args.id c.args.here.now.at)) s Ret in
    let again : State → Plan = λ s. Do (job_of fs w s1.cells (job.Pass c.args.id c.args.here.now.at)) s Ret in
    let more : State → Plan = λ s. Do (job_of fs w s2.cells (job.Pass c.args.id c.args.here.now.at)) s Ret in
    let inv = c.passes.invariant in
    let kept = c.in_ok-how.ensures.kept in (
      towards_each fs w s0 s1 s2 start again more c.args.run.now c.passes.run c.pass_on.new.run inv.0
          (subst (λ (e : Option Ended). Passes fs w s1 s2 0 again more c.passes.run c.pass_on.new.run e c.pass_on.new.out) c.in_default.is c.in_ok-how.ensures.passes),
      kept_then fs w s0 s1 s2 inv.1 kept,
      (place_fine fs w s1.cells s2.cells kept.grows c.args.here.now.at inv.2.0, inv.2.1),
    )

pub looping::pass_on-returns-in-Normal-clause-passes : goal.looping::pass_on-returns-in-Normal-clause-passes
looping::pass_on-returns-in-Normal-clause-passes t c =
    let fs = trees_of c.args.here.now.site.now.codes.now.items in
    let w = c.args.here.now.site.now.widget in
    let old = c.args.store.now in
    let mid = c.looped_on.new.store in
    let had = c.args.run.now in
    let paid : Run = record { units = had.units - 1; waits = had.waits; next = had.next } in
    let has = c.looped_on.new.run in
    let out = c.looped_on.new.out in
    let i = stmt_at (forest_at fs c.args.here.now.at.code) c.args.id in
    let l = place_of w old.cells c.args.here.now.at in
    let j = job_of fs w old.cells (job.Pass c.args.id c.args.here.now.at) in
    let f = frame.Statement (statement.LoopNext c.args.id c.args.here.now.at) in
    let p : State → Plan = block_at fs w old.cells (block.Loop c.args.id) 0 c.args.here.now.at in
    let both : State → Plan = λ s. and_then (p s) (taken fs w old.cells f) in
    let first : Towards fs w old old (λ s. Do j s Ret) both had paid = unit_paid fs w old j both had paid c.requires.ready (omega (arith, c.requires.unit)) (λ x. and_then_ret (body j x) ∙ pass_is i l x) in
    let given = c.in_ok-how.ensures.comes in
    let kept = c.in_ok-how.ensures.kept in
    let how = c.in_ok-how.how in
    let done = towards_each fs w old old mid _ _ _ had paid has first (round fs w old mid p c.args.id c.args.here.now.at paid has how out given c.in-Normal.is c.requires.ready kept c.requires.held) in
    IfOk-weaker c.next_on.result _ _ (λ o x. passes_paid fs w o old mid c.next_on.new.store 2 0 _ _ _ had has c.next_on.new.run c.next_on.new.out done x (omega (arith, given.units, c.requires.unit)) (omega arith)) c.next_on.ensures.passes

pub looping::pass_on-returns-in-Normal-clause-kept : goal.looping::pass_on-returns-in-Normal-clause-kept
looping::pass_on-returns-in-Normal-clause-kept t c =
    let fs = trees_of c.args.here.now.site.now.codes.now.items in
    let w = c.args.here.now.site.now.widget in
    let old = c.args.store.now in
    let mid = c.looped_on.new.store in
    let had = c.args.run.now in
    let paid : Run = record { units = had.units - 1; waits = had.waits; next = had.next } in
    let has = c.looped_on.new.run in
    let out = c.looped_on.new.out in
    let i = stmt_at (forest_at fs c.args.here.now.at.code) c.args.id in
    let l = place_of w old.cells c.args.here.now.at in
    let j = job_of fs w old.cells (job.Pass c.args.id c.args.here.now.at) in
    let f = frame.Statement (statement.LoopNext c.args.id c.args.here.now.at) in
    let p : State → Plan = block_at fs w old.cells (block.Loop c.args.id) 0 c.args.here.now.at in
    let both : State → Plan = λ s. and_then (p s) (taken fs w old.cells f) in
    let first : Towards fs w old old (λ s. Do j s Ret) both had paid = unit_paid fs w old j both had paid c.requires.ready (omega (arith, c.requires.unit)) (λ x. and_then_ret (body j x) ∙ pass_is i l x) in
    let given = c.in_ok-how.ensures.comes in
    let kept = c.in_ok-how.ensures.kept in
    let how = c.in_ok-how.how in
    kept_then fs w old mid c.next_on.new.store kept c.next_on.ensures.kept

pub looping::pass_on-returns-in-Break-clause-passes : goal.looping::pass_on-returns-in-Break-clause-passes
looping::pass_on-returns-in-Break-clause-passes t c =
    let fs = trees_of c.args.here.now.site.now.codes.now.items in
    let w = c.args.here.now.site.now.widget in
    let old = c.args.store.now in
    let mid = c.looped_on.new.store in
    let had = c.args.run.now in
    let paid : Run = record { units = had.units - 1; waits = had.waits; next = had.next } in
    let has = c.looped_on.new.run in
    let out = c.looped_on.new.out in
    let i = stmt_at (forest_at fs c.args.here.now.at.code) c.args.id in
    let l = place_of w old.cells c.args.here.now.at in
    let j = job_of fs w old.cells (job.Pass c.args.id c.args.here.now.at) in
    let f = frame.Statement (statement.LoopNext c.args.id c.args.here.now.at) in
    let p : State → Plan = block_at fs w old.cells (block.Loop c.args.id) 0 c.args.here.now.at in
    let both : State → Plan = λ s. and_then (p s) (taken fs w old.cells f) in
    let first : Towards fs w old old (λ s. Do j s Ret) both had paid = unit_paid fs w old j both had paid c.requires.ready (omega (arith, c.requires.unit)) (λ x. and_then_ret (body j x) ∙ pass_is i l x) in
    let given = c.in_ok-how.ensures.comes in
    let kept = c.in_ok-how.ensures.kept in
    let how = c.in_ok-how.how in
    let one = as_is fs w old mid 1 p paid has how ended.Break out c.in-Break.is given in
    towards_paid fs w old old mid 1 0 (λ s. Do j s Ret) both had paid has ended.Normal (ended_as ended.Normal out)
    first (part_gives fs w old mid 1 1 both p f paid has has ended.Break ended.Normal (ended_as ended.Break out) (ended_as ended.Normal out) (λ s. refl) one tt kept.grows c.requires.held tt refl
    (λ r. loop_broken (loop_of i) (place_of w mid.cells c.args.here.now.at) (image fs r w mid)) tt (omega arith)) (omega (arith, c.requires.unit)) (omega arith)

pub looping::pass_on-returns-in_ok-wait_next-in-Left-clause-passes : goal.looping::pass_on-returns-in_ok-wait_next-in-Left-clause-passes
looping::pass_on-returns-in_ok-wait_next-in-Left-clause-passes t c =
    let fs = trees_of c.args.here.now.site.now.codes.now.items in
    let w = c.args.here.now.site.now.widget in
    let old = c.args.store.now in
    let mid = c.looped_on.new.store in
    let had = c.args.run.now in
    let paid : Run = record { units = had.units - 1; waits = had.waits; next = had.next } in
    let has = c.looped_on.new.run in
    let out = c.looped_on.new.out in
    let i = stmt_at (forest_at fs c.args.here.now.at.code) c.args.id in
    let l = place_of w old.cells c.args.here.now.at in
    let j = job_of fs w old.cells (job.Pass c.args.id c.args.here.now.at) in
    let f = frame.Statement (statement.LoopNext c.args.id c.args.here.now.at) in
    let p : State → Plan = block_at fs w old.cells (block.Loop c.args.id) 0 c.args.here.now.at in
    let both : State → Plan = λ s. and_then (p s) (taken fs w old.cells f) in
    let first : Towards fs w old old (λ s. Do j s Ret) both had paid = unit_paid fs w old j both had paid c.requires.ready (omega (arith, c.requires.unit)) (λ x. and_then_ret (body j x) ∙ pass_is i l x) in
    let given = c.in_ok-how.ensures.comes in
    let kept = c.in_ok-how.ensures.kept in
    let how = c.in_ok-how.how in
    let one = as_is fs w old mid 1 p paid has how ended.Left out c.in-Left.is given in
    towards_paid fs w old old mid 5 0 (λ s. Do j s Ret) both had paid c.wait_next.new.run c.in_ok-wait_next-in-Left.field-0 (ended_as c.in_ok-wait_next-in-Left.field-0 out)
    first (
    part_waits fs w old mid 1 5 p f paid has c.wait_next.new.run ended.Left c.in_ok-wait_next-in-Left.field-0 (ended_as ended.Left out) (ended_as c.in_ok-wait_next-in-Left.field-0 out) one refl kept.grows c.requires.held
    c.in_ok-wait_next-in-Left.ensures.units c.in_ok-wait_next-in-Left.ensures.next c.in_ok-wait_next-in-Left.ensures.waits c.in_ok-wait_next-in-Left.ensures.left (omega arith)
    ) (omega (arith, c.requires.unit)) (omega arith)

pub looping::pass_on-returns-in_default-clause-passes : goal.looping::pass_on-returns-in_default-clause-passes
looping::pass_on-returns-in_default-clause-passes t c =
    let fs = trees_of c.args.here.now.site.now.codes.now.items in
    let w = c.args.here.now.site.now.widget in
    let old = c.args.store.now in
    let mid = c.looped_on.new.store in
    let had = c.args.run.now in
    let paid : Run = record { units = had.units - 1; waits = had.waits; next = had.next } in
    let has = c.looped_on.new.run in
    let out = c.looped_on.new.out in
    let i = stmt_at (forest_at fs c.args.here.now.at.code) c.args.id in
    let l = place_of w old.cells c.args.here.now.at in
    let j = job_of fs w old.cells (job.Pass c.args.id c.args.here.now.at) in
    let f = frame.Statement (statement.LoopNext c.args.id c.args.here.now.at) in
    let p : State → Plan = block_at fs w old.cells (block.Loop c.args.id) 0 c.args.here.now.at in
    let both : State → Plan = λ s. and_then (p s) (taken fs w old.cells f) in
    let first : Towards fs w old old (λ s. Do j s Ret) both had paid = unit_paid fs w old j both had paid c.requires.ready (omega (arith, c.requires.unit)) (λ x. and_then_ret (body j x) ∙ pass_is i l x) in
    let given = c.in_ok-how.ensures.comes in
    let kept = c.in_ok-how.ensures.kept in
    let how = c.in_ok-how.how in
    towards_paid fs w old old mid 1 0 (λ s. Do j s Ret) both had paid has how (ended_as how out)
    first (part_passes fs w old mid 1 1 p f paid has how (ended_as how out) given (is_end how c.in_default.not-Left) kept.grows c.requires.held
    (λ t. loop_other (loop_of i) (place_of w mid.cells c.args.here.now.at) (completion_of w mid.cells (ended_as how out)) t
    ∙ loop_passes w mid.cells out t how (loop_next (loop_of i) (place_of w mid.cells c.args.here.now.at) meaning.Normal t) c.in_default.not-Normal c.in_default.not-Continue c.in_default.not-Break c.in_default.not-Left) (omega arith)) (omega (arith, c.requires.unit)) (omega arith)

pub looping::next_on-returns-in-Normal-clause-passes : goal.looping::next_on-returns-in-Normal-clause-passes
looping::next_on-returns-in-Normal-clause-passes t c =
    let fs = trees_of c.args.here.now.site.now.codes.now.items in
    let w = c.args.here.now.site.now.widget in
    let old = c.args.store.now in
    let mid = c.expressions_on.new.store in
    let had = c.args.run.now in
    let has = c.expressions_on.new.run in
    let how = c.in_ok-how.how in
    let out = c.expressions_on.new.out in
    let given = c.in_ok-how.ensures.comes in
    let kept = c.in_ok-how.ensures.kept in
    let i = stmt_at (forest_at fs c.args.here.now.at.code) c.args.id in
    let p : State → Plan = statements_2.expressions (part_of part.Last i) (place_of w old.cells c.args.here.now.at) in
    let f = frame.Statement (statement.ForAgain c.args.id c.args.here.now.at) in
    let one = as_is fs w old mid 1 p had has how ended.Normal out c.in-Normal.is given in
    let done = part_done fs w old mid 1 p (taken fs w mid.cells f meaning.Normal) f had has ended.Normal (ended_as ended.Normal out) one tt kept.grows c.requires.held (end_ready fs w old mid 1 p had has ended.Normal (ended_as ended.Normal out) one tt c.requires.ready kept) (λ r. refl) in
    IfOk-weaker c.test_on.result _ _ (λ o x. passes_then fs w o old mid c.test_on.new.store 1 2 _ _ _ had has c.test_on.new.run _ done x (omega arith)) c.test_on.ensures.passes

pub looping::next_on-returns-in-Normal-clause-kept : goal.looping::next_on-returns-in-Normal-clause-kept
looping::next_on-returns-in-Normal-clause-kept t c =
    let fs = trees_of c.args.here.now.site.now.codes.now.items in
    let w = c.args.here.now.site.now.widget in
    let old = c.args.store.now in
    let mid = c.expressions_on.new.store in
    let had = c.args.run.now in
    let has = c.expressions_on.new.run in
    let how = c.in_ok-how.how in
    let out = c.expressions_on.new.out in
    let given = c.in_ok-how.ensures.comes in
    let kept = c.in_ok-how.ensures.kept in
    let i = stmt_at (forest_at fs c.args.here.now.at.code) c.args.id in
    let p : State → Plan = statements_2.expressions (part_of part.Last i) (place_of w old.cells c.args.here.now.at) in
    let f = frame.Statement (statement.ForAgain c.args.id c.args.here.now.at) in
    kept_then fs w old mid c.test_on.new.store kept c.test_on.ensures.kept

pub looping::next_on-returns-in_ok-wait_again-in-Left-clause-passes : goal.looping::next_on-returns-in_ok-wait_again-in-Left-clause-passes
looping::next_on-returns-in_ok-wait_again-in-Left-clause-passes t c =
    let fs = trees_of c.args.here.now.site.now.codes.now.items in
    let w = c.args.here.now.site.now.widget in
    let old = c.args.store.now in
    let mid = c.expressions_on.new.store in
    let had = c.args.run.now in
    let has = c.expressions_on.new.run in
    let how = c.in_ok-how.how in
    let out = c.expressions_on.new.out in
    let given = c.in_ok-how.ensures.comes in
    let kept = c.in_ok-how.ensures.kept in
    let i = stmt_at (forest_at fs c.args.here.now.at.code) c.args.id in
    let p : State → Plan = statements_2.expressions (part_of part.Last i) (place_of w old.cells c.args.here.now.at) in
    let f = frame.Statement (statement.ForAgain c.args.id c.args.here.now.at) in
    let one = as_is fs w old mid 1 p had has how ended.Left out c.in-Left.is given in
    part_waits fs w old mid 1 2 p f had has c.wait_again.new.run ended.Left c.in_ok-wait_again-in-Left.field-0 (ended_as ended.Left out) (ended_as c.in_ok-wait_again-in-Left.field-0 out) one refl kept.grows c.requires.held
    c.in_ok-wait_again-in-Left.ensures.units c.in_ok-wait_again-in-Left.ensures.next c.in_ok-wait_again-in-Left.ensures.waits c.in_ok-wait_again-in-Left.ensures.left (omega arith)

pub looping::next_on-returns-in_default : goal.looping::next_on-returns-in_default
looping::next_on-returns-in_default t c =
    let fs = trees_of c.args.here.now.site.now.codes.now.items in
    let w = c.args.here.now.site.now.widget in
    let old = c.args.store.now in
    let mid = c.expressions_on.new.store in
    let had = c.args.run.now in
    let has = c.expressions_on.new.run in
    let how = c.in_ok-how.how in
    let out = c.expressions_on.new.out in
    let given = c.in_ok-how.ensures.comes in
    let kept = c.in_ok-how.ensures.kept in
    let i = stmt_at (forest_at fs c.args.here.now.at.code) c.args.id in
    let p : State → Plan = statements_2.expressions (part_of part.Last i) (place_of w old.cells c.args.here.now.at) in
    let f = frame.Statement (statement.ForAgain c.args.id c.args.here.now.at) in
    record {
      passes = other_normal fs w old mid 1 2 p f (λ t. loop_again (loop_of i) (place_of w mid.cells c.args.here.now.at) meaning.Normal t) had has how out given c.in_default.not-Normal c.in_default.not-Left kept.grows c.requires.held (again_normal (loop_of i) (place_of w mid.cells c.args.here.now.at)) (omega arith);
      kept = kept;
    }

pub looping::expressions_on-returns-in_err-how-clause-kept : goal.looping::expressions_on-returns-in_err-how-clause-kept
looping::expressions_on-returns-in_err-how-clause-kept t c =
    let fs = trees_of c.args.here.now.site.now.codes.now.items in
    let w = c.args.here.now.site.now.widget in
    kept_then fs w c.args.store.now c.list.store c.operand_on.new.store c.list.invariant.1 c.in_err-how.ensures.kept

pub looping::expressions_on-list-preserved : goal.looping::expressions_on-list-preserved
looping::expressions_on-list-preserved t c =
    let fs = trees_of c.args.here.now.site.now.codes.now.items in
    let w = c.args.here.now.site.now.widget in
    let s0 = c.args.store.now in
    let s1 = c.list.store in
    let s2 = c.operand_on.new.store in
    let i = stmt_at (forest_at fs c.args.here.now.at.code) c.args.id in
    let es = part_of c.args.part i in
    let p : State → Plan = λ s. Do (job_of fs w s1.cells (job.Eval c.in-Some.e c.args.here.now.at)) s Ret in
    let q : State → Plan = statements_2.expressions (drop c.list.n es) (place_of w s1.cells c.args.here.now.at) in
    let start : State → Plan = statements_2.expressions es (place_of w s0.cells c.args.here.now.at) in
    let goes : State → Plan = statements_2.expressions (drop (c.list.n + 1) es) (place_of w s2.cells c.args.here.now.at) in
    let f = (frame.Statement (frame_in c.args.part c.args.id (c.list.n + 1) c.args.here.now.at)) in
    let inv = c.list.invariant in
    let kept = c.in_ok-how.ensures.kept in
    let how = c.in_ok-how.how in
    let out = c.operand_on.new.out in
    let held : FineFrame fs w s1.cells f = part_fine fs w s1.cells c.args.part c.args.id (c.list.n + 1) c.args.here.now.at inv.2 in
    let listed = subst (λ (g : Forest). drop c.list.n (part_of c.args.part (stmt_at g c.args.id)) ≡ expr_at g c.in-Some.e ∷ drop (c.list.n + 1) (part_of c.args.part (stmt_at g c.args.id))) c.requires.tree c.in-Some.ensures.2 in
    let plan : (s : State) → q s ≡ and_then (p s) (taken fs w s1.cells f) = λ s. ap (λ l. statements_2.expressions l (place_of w s1.cells c.args.here.now.at) s) listed
    ∙ sym (λ k. Do (job_of fs w s1.cells (job.Eval c.in-Some.e c.args.here.now.at)) s (λ o t. part_taken fs w s1.cells c.args.part c.args.id (c.list.n + 1) c.args.here.now.at o t k)) in
    let one = as_is fs w s1 s2 0 p c.list.run c.operand_on.new.run how ended.Is out c.in-Is.is c.in_ok-how.ensures.comes in (
      towards_each fs w s0 s1 s2 start q goes c.args.run.now c.list.run c.operand_on.new.run inv.0
          (part_next fs w s1 s2 0 q p goes f c.list.run c.operand_on.new.run ended.Is (ended_as ended.Is out) plan one tt kept.grows held (end_ready fs w s1 s2 0 p c.list.run c.operand_on.new.run ended.Is (ended_as ended.Is out) one tt inv.0.ready kept)
          (λ r. part_taken fs w s2.cells c.args.part c.args.id (c.list.n + 1) c.args.here.now.at (completion_of w s2.cells (ended_as ended.Is out)) (image fs r w s2))),
      kept_then fs w s0 s1 s2 inv.1 kept,
      (place_fine fs w s1.cells s2.cells kept.grows c.args.here.now.at inv.2.0, inv.2.1),
    )

pub looping::expressions_on-returns-in-Left-clause-comes : goal.looping::expressions_on-returns-in-Left-clause-comes
looping::expressions_on-returns-in-Left-clause-comes t c =
    let fs = trees_of c.args.here.now.site.now.codes.now.items in
    let w = c.args.here.now.site.now.widget in
    let s0 = c.args.store.now in
    let s1 = c.list.store in
    let s2 = c.operand_on.new.store in
    let i = stmt_at (forest_at fs c.args.here.now.at.code) c.args.id in
    let es = part_of c.args.part i in
    let p : State → Plan = λ s. Do (job_of fs w s1.cells (job.Eval c.in-Some.e c.args.here.now.at)) s Ret in
    let q : State → Plan = statements_2.expressions (drop c.list.n es) (place_of w s1.cells c.args.here.now.at) in
    let start : State → Plan = statements_2.expressions es (place_of w s0.cells c.args.here.now.at) in
    let goes : State → Plan = statements_2.expressions (drop (c.list.n + 1) es) (place_of w s2.cells c.args.here.now.at) in
    let f = (frame.Statement (frame_in c.args.part c.args.id (c.list.n + 1) c.args.here.now.at)) in
    let inv = c.list.invariant in
    let kept = c.in_ok-how.ensures.kept in
    let how = c.in_ok-how.how in
    let out = c.operand_on.new.out in
    let held : FineFrame fs w s1.cells f = part_fine fs w s1.cells c.args.part c.args.id (c.list.n + 1) c.args.here.now.at inv.2 in
    let listed = subst (λ (g : Forest). drop c.list.n (part_of c.args.part (stmt_at g c.args.id)) ≡ expr_at g c.in-Some.e ∷ drop (c.list.n + 1) (part_of c.args.part (stmt_at g c.args.id))) c.requires.tree c.in-Some.ensures.2 in
    let plan : (s : State) → q s ≡ and_then (p s) (taken fs w s1.cells f) = λ s. ap (λ l. statements_2.expressions l (place_of w s1.cells c.args.here.now.at) s) listed
    ∙ sym (λ k. Do (job_of fs w s1.cells (job.Eval c.in-Some.e c.args.here.now.at)) s (λ o t. part_taken fs w s1.cells c.args.part c.args.id (c.list.n + 1) c.args.here.now.at o t k)) in
    let one = as_is fs w s1 s2 0 p c.list.run c.operand_on.new.run how ended.Left out c.in-Left.is c.in_ok-how.ensures.comes in
    waits_then fs w c.wait_part.result s0 s1 s2 0 1 1 start q p f c.args.run.now c.list.run c.operand_on.new.run c.wait_part.new.run ended.Left (ended_as ended.Left out) _ inv.0 plan one refl kept.grows held
    c.wait_part.ensures.left c.wait_part.ensures.waits c.wait_part.ensures.next c.wait_part.ensures.units (omega (arith, part_free c.args.part c.args.id (c.list.n + 1) c.args.here.now.at)) (omega arith)

pub looping::expressions_on-returns-in-Left-clause-kept : goal.looping::expressions_on-returns-in-Left-clause-kept
looping::expressions_on-returns-in-Left-clause-kept t c =
    let fs = trees_of c.args.here.now.site.now.codes.now.items in
    let w = c.args.here.now.site.now.widget in
    let s0 = c.args.store.now in
    let s1 = c.list.store in
    let s2 = c.operand_on.new.store in
    let i = stmt_at (forest_at fs c.args.here.now.at.code) c.args.id in
    let es = part_of c.args.part i in
    let p : State → Plan = λ s. Do (job_of fs w s1.cells (job.Eval c.in-Some.e c.args.here.now.at)) s Ret in
    let q : State → Plan = statements_2.expressions (drop c.list.n es) (place_of w s1.cells c.args.here.now.at) in
    let start : State → Plan = statements_2.expressions es (place_of w s0.cells c.args.here.now.at) in
    let goes : State → Plan = statements_2.expressions (drop (c.list.n + 1) es) (place_of w s2.cells c.args.here.now.at) in
    let f = (frame.Statement (frame_in c.args.part c.args.id (c.list.n + 1) c.args.here.now.at)) in
    let inv = c.list.invariant in
    let kept = c.in_ok-how.ensures.kept in
    let how = c.in_ok-how.how in
    let out = c.operand_on.new.out in
    let held : FineFrame fs w s1.cells f = part_fine fs w s1.cells c.args.part c.args.id (c.list.n + 1) c.args.here.now.at inv.2 in
    let listed = subst (λ (g : Forest). drop c.list.n (part_of c.args.part (stmt_at g c.args.id)) ≡ expr_at g c.in-Some.e ∷ drop (c.list.n + 1) (part_of c.args.part (stmt_at g c.args.id))) c.requires.tree c.in-Some.ensures.2 in
    let plan : (s : State) → q s ≡ and_then (p s) (taken fs w s1.cells f) = λ s. ap (λ l. statements_2.expressions l (place_of w s1.cells c.args.here.now.at) s) listed
    ∙ sym (λ k. Do (job_of fs w s1.cells (job.Eval c.in-Some.e c.args.here.now.at)) s (λ o t. part_taken fs w s1.cells c.args.part c.args.id (c.list.n + 1) c.args.here.now.at o t k)) in
    kept_then fs w s0 s1 s2 inv.1 kept

pub looping::expressions_on-returns-in_default-2 : goal.looping::expressions_on-returns-in_default-2
looping::expressions_on-returns-in_default-2 t c =
    let fs = trees_of c.args.here.now.site.now.codes.now.items in
    let w = c.args.here.now.site.now.widget in
    let s0 = c.args.store.now in
    let s1 = c.list.store in
    let s2 = c.operand_on.new.store in
    let i = stmt_at (forest_at fs c.args.here.now.at.code) c.args.id in
    let es = part_of c.args.part i in
    let p : State → Plan = λ s. Do (job_of fs w s1.cells (job.Eval c.in-Some.e c.args.here.now.at)) s Ret in
    let q : State → Plan = statements_2.expressions (drop c.list.n es) (place_of w s1.cells c.args.here.now.at) in
    let start : State → Plan = statements_2.expressions es (place_of w s0.cells c.args.here.now.at) in
    let goes : State → Plan = statements_2.expressions (drop (c.list.n + 1) es) (place_of w s2.cells c.args.here.now.at) in
    let f = (frame.Statement (frame_in c.args.part c.args.id (c.list.n + 1) c.args.here.now.at)) in
    let inv = c.list.invariant in
    let kept = c.in_ok-how.ensures.kept in
    let how = c.in_ok-how.how in
    let out = c.operand_on.new.out in
    let held : FineFrame fs w s1.cells f = part_fine fs w s1.cells c.args.part c.args.id (c.list.n + 1) c.args.here.now.at inv.2 in
    let listed = subst (λ (g : Forest). drop c.list.n (part_of c.args.part (stmt_at g c.args.id)) ≡ expr_at g c.in-Some.e ∷ drop (c.list.n + 1) (part_of c.args.part (stmt_at g c.args.id))) c.requires.tree c.in-Some.ensures.2 in
    let plan : (s : State) → q s ≡ and_then (p s) (taken fs w s1.cells f) = λ s. ap (λ l. statements_2.expressions l (place_of w s1.cells c.args.here.now.at) s) listed
    ∙ sym (λ k. Do (job_of fs w s1.cells (job.Eval c.in-Some.e c.args.here.now.at)) s (λ o t. part_taken fs w s1.cells c.args.part c.args.id (c.list.n + 1) c.args.here.now.at o t k)) in
    record {
      comes = towards_then fs w s0 s1 s2 1 1 start q c.args.run.now c.list.run c.operand_on.new.run how (ended_as how out) inv.0
          (planned fs w s1 s2 1 q _ c.list.run c.operand_on.new.run how (ended_as how out) plan (other_value fs w s1 s2 0 1 p f (λ v t. goes t) c.list.run c.operand_on.new.run how out c.in_ok-how.ensures.comes c.in_default-2.not-Is c.in_default-2.not-Left kept.grows held (part_taken fs w s2.cells c.args.part c.args.id (c.list.n + 1) c.args.here.now.at) (omega arith))) (omega arith);
      kept = kept_then fs w s0 s1 s2 inv.1 kept;
    }

pub names::for_in_on-over_on-requires : goal.names::for_in_on-over_on-requires
names::for_in_on-over_on-requires t c = (
  search rules,
  (
    (
        let fs = trees_of c.args.here.now.site.now.codes.now.items in
        let w = c.args.here.now.site.now.widget in
        let at = c.args.here.now.at in
        let old = c.args.store.now in
        let mid = c.operand_on.new.store in
        let p : State → Plan = λ s. Do (job_of fs w old.cells (job.Eval c.args.e at)) s Ret in
        let had = c.args.run.now in
        let has = c.operand_on.new.run in
        let how = c.in_ok-how.how in
        let out = c.operand_on.new.out in
        let part = c.in_ok-how.ensures.comes in
        let kept = c.in_ok-how.ensures.kept in
        value_ready fs w old mid 0 p had has how (ended_as how out) part c.in-Is.is kept c.requires.ready
        ),
    (
      (
          let fs = trees_of c.args.here.now.site.now.codes.now.items in
          let w = c.args.here.now.site.now.widget in
          let at = c.args.here.now.at in
          let old = c.args.store.now in
          let mid = c.operand_on.new.store in
          let p : State → Plan = λ s. Do (job_of fs w old.cells (job.Eval c.args.e at)) s Ret in
          let had = c.args.run.now in
          let has = c.operand_on.new.run in
          let how = c.in_ok-how.how in
          let out = c.operand_on.new.out in
          let part = c.in_ok-how.ensures.comes in
          let kept = c.in_ok-how.ensures.kept in
          ((place_fine fs w old.cells mid.cells kept.grows at c.requires.held.0.0, c.requires.held.0.1), value_fine fs w old mid 0 p had has how out part c.in-Is.is)
          ),
      c.requires.tree,
    ),
  ),
)

pub names::for_in_on-returns-in-Is-clause-comes : goal.names::for_in_on-returns-in-Is-clause-comes
names::for_in_on-returns-in-Is-clause-comes t c =
    let fs = trees_of c.args.here.now.site.now.codes.now.items in
    let w = c.args.here.now.site.now.widget in
    let at = c.args.here.now.at in
    let old = c.args.store.now in
    let mid = c.operand_on.new.store in
    let p : State → Plan = λ s. Do (job_of fs w old.cells (job.Eval c.args.e at)) s Ret in
    let had = c.args.run.now in
    let has = c.operand_on.new.run in
    let how = c.in_ok-how.how in
    let out = c.operand_on.new.out in
    let part = c.in_ok-how.ensures.comes in
    let kept = c.in_ok-how.ensures.kept in
    let one = as_is fs w old mid 0 p had has how ended.Is out c.in-Is.is part in
    IfOk-weaker c.over_on.result _ _
    (λ h x. part_then fs w old mid c.over_on.new.store 0 4 30 p (frame.Statement (statement.ForInOver c.args.id at)) had has c.over_on.new.run ended.Is h (ended_as ended.Is out) (ended_as h c.over_on.new.out) one tt kept.grows c.requires.held.0 x (omega arith))
    c.over_on.ensures.comes

pub names::for_in_on-returns-in-Is-clause-kept : goal.names::for_in_on-returns-in-Is-clause-kept
names::for_in_on-returns-in-Is-clause-kept t c =
    let fs = trees_of c.args.here.now.site.now.codes.now.items in
    let w = c.args.here.now.site.now.widget in
    let at = c.args.here.now.at in
    let old = c.args.store.now in
    let mid = c.operand_on.new.store in
    let p : State → Plan = λ s. Do (job_of fs w old.cells (job.Eval c.args.e at)) s Ret in
    let had = c.args.run.now in
    let has = c.operand_on.new.run in
    let how = c.in_ok-how.how in
    let out = c.operand_on.new.out in
    let part = c.in_ok-how.ensures.comes in
    let kept = c.in_ok-how.ensures.kept in
    kept_then fs w old mid c.over_on.new.store kept c.over_on.ensures.kept

pub names::for_in_on-returns-in_default-clause-comes : goal.names::for_in_on-returns-in_default-clause-comes
names::for_in_on-returns-in_default-clause-comes t c =
    let fs = trees_of c.args.here.now.site.now.codes.now.items in
    let w = c.args.here.now.site.now.widget in
    let at = c.args.here.now.at in
    let old = c.args.store.now in
    let mid = c.operand_on.new.store in
    let p : State → Plan = λ s. Do (job_of fs w old.cells (job.Eval c.args.e at)) s Ret in
    let had = c.args.run.now in
    let has = c.operand_on.new.run in
    let how = c.in_ok-how.how in
    let out = c.operand_on.new.out in
    let part = c.in_ok-how.ensures.comes in
    let kept = c.in_ok-how.ensures.kept in
    hand_ok fs w c.hand_object.result old mid 0 30 p (frame.Statement (statement.ForInOver c.args.id at)) had has c.hand_object.new.run how out part
    (passes_value fs w mid.cells (frame.Statement (statement.ForInOver c.args.id at)) how out (λ v t. taken fs w mid.cells (frame.Statement (statement.ForInOver c.args.id at)) (meaning.Is v) t) c.in_default.not-Is (λ o t. refl)) kept c.requires.held.0 (omega arith) c.hand_object.ensures

pub names::over_on-returns-then-is_nothing-clause-comes : goal.names::over_on-returns-then-is_nothing-clause-comes
names::over_on-returns-then-is_nothing-clause-comes t c =
    let fs = trees_of c.args.here.now.site.now.codes.now.items in
    let w = c.args.here.now.site.now.widget in
    let at = c.args.here.now.at in
    let old = c.args.store.now in
    let i = stmt_at (forest_at fs at.code) c.args.id in
    let place = place_of w old.cells at in
    let x = variable_of i in
    let b = stmt_list (loop_body i) in
    let v = c.args.out.now in
    let yes : meaning.is_nothing (seen w old.cells v) ≡ true = sym (c.is_nothing.ensures w old.cells) ∙ c.if-is_nothing.true in
    IfOk-weaker c.throw.result _ _
    (λ h k. weigh fs w old c.throw.new.store 1 4 _ c.args.run.now c.throw.new.run h (ended_as h c.throw.new.out)
    (planned fs w old c.throw.new.store 1 (for_in_over x b place (meaning.Is (seen w old.cells v))) (throw E1) c.args.run.now c.throw.new.run h (ended_as h c.throw.new.out)
    (λ s. ap (λ (t : Bool). if t then throw E1 s else charge (length (names_of s (seen w old.cells v))) s (for_in (seen w old.cells v) x (names_of s (seen w old.cells v)) b place s)) yes) k) (omega arith))
    c.throw.ensures.comes

pub names::over_on-listed_on-requires : goal.names::over_on-listed_on-requires
names::over_on-listed_on-requires t c = (
  search rules,
  (
    c.requires.ready,
    (
      (
          let fs = trees_of c.args.here.now.site.now.codes.now.items in
          let w = c.args.here.now.site.now.widget in
          let at = c.args.here.now.at in
          let old = c.args.store.now in
          let i = stmt_at (forest_at fs at.code) c.args.id in
          let place = place_of w old.cells at in
          let x = variable_of i in
          let b = stmt_list (loop_body i) in
          (c.requires.held.0, subst (λ (u : Value2). IsFine w old.cells u) (sym c.take_value-object.ensures.taken) c.requires.held.1)
          ),
      (
        (
            let fs = trees_of c.args.here.now.site.now.codes.now.items in
            let w = c.args.here.now.site.now.widget in
            let at = c.args.here.now.at in
            let old = c.args.store.now in
            let i = stmt_at (forest_at fs at.code) c.args.id in
            let place = place_of w old.cells at in
            let x = variable_of i in
            let b = stmt_list (loop_body i) in
            ap (λ (u : Value2). meaning.is_nothing (seen w old.cells u)) c.take_value-object.ensures.taken ∙ (sym (c.is_nothing.ensures w old.cells) ∙ c.if-is_nothing.false)
            ),
        c.requires.tree,
      ),
    ),
  ),
)

pub names::over_on-returns-clause-comes : goal.names::over_on-returns-clause-comes
names::over_on-returns-clause-comes t c =
    let fs = trees_of c.args.here.now.site.now.codes.now.items in
    let w = c.args.here.now.site.now.widget in
    let at = c.args.here.now.at in
    let old = c.args.store.now in
    let i = stmt_at (forest_at fs at.code) c.args.id in
    let place = place_of w old.cells at in
    let x = variable_of i in
    let b = stmt_list (loop_body i) in
    IfOk-weaker c.listed_on.result _ _
    (λ h k. planned fs w old c.listed_on.new.store 4 (for_in_over x b place (meaning.Is (seen w old.cells c.args.out.now))) _ c.args.run.now c.listed_on.new.run h (ended_as h c.listed_on.new.out)
    (λ s. ap (λ (u : Value2). for_in_over x b place (meaning.Is (seen w old.cells u)) s) (sym c.take_value-object.ensures.taken)) k)
    c.listed_on.ensures.comes

pub names::listed_on-names_on-requires : goal.names::listed_on-names_on-requires
names::listed_on-names_on-requires t c = (
  search rules,
  (
    (
        let fs = trees_of c.args.here.now.site.now.codes.now.items in
        let w = c.args.here.now.site.now.widget in
        let at = c.args.here.now.at in
        let old = c.args.store.now in
        let i = stmt_at (forest_at fs at.code) c.args.id in
        let place = place_of w old.cells at in
        let x = variable_of i in
        let b = stmt_list (loop_body i) in
        let v = seen w old.cells c.args.object in
        let box = c.in_ok-listed.listed in
        let is = c.in_ok-listed.ensures.ok in
        let count = c.len-count.result in
        let f = frame.Statement (statement.ForInNext box at) in
        let t : State → Plan = for_in_over x b place (meaning.Is v) in
        let q : State → Plan = taken fs w old.cells f meaning.Normal in
        let held : FineNames fs w old.cells box.value at = subst (λ (u : ForInNames). FineNames fs w old.cells u at) (sym is) (c.requires.held.1, c.requires.held.0) in
        let first : (r : Rest) → t (image fs r w old) ≡ charge count (image fs r w old) (q (image fs r w old)) = λ r.
        let s = image fs r w old in
        let n = c.in_ok-names.ensures fs r w c.requires.ready.1 c.requires.held.1 in
        let k : count ≡ length (names_of s v) = omega (arith, c.len-count.ensures, ap length n) in
        sym (ap (λ (u : ForInNames). charge count s (for_in (seen w old.cells u.object) (variable_of (stmt_at (forest_at fs at.code) u.id)) (drop u.at u.names.items) (stmt_list (loop_body (stmt_at (forest_at fs at.code) u.id))) place s)) is
        ∙ ((λ j. charge (k j) s (for_in v x (n j) b place s))
        ∙ sym (ap (λ (y : Bool). if y then throw E1 s else charge (length (names_of s v)) s (for_in v x (names_of s v) b place s)) c.requires.some))) in
        let mid = c.is_paid.new.run in
        let yes = c.is_paid.ensures.yes c.if-is_paid.true in
        let ready : IsReady fs w old mid = (c.requires.ready.0, c.requires.ready.1, ap (λ l. l.items) yes.2 ∙ c.requires.ready.2) in
        ready
        ),
    (
      (
          let fs = trees_of c.args.here.now.site.now.codes.now.items in
          let w = c.args.here.now.site.now.widget in
          let at = c.args.here.now.at in
          let old = c.args.store.now in
          let i = stmt_at (forest_at fs at.code) c.args.id in
          let place = place_of w old.cells at in
          let x = variable_of i in
          let b = stmt_list (loop_body i) in
          let v = seen w old.cells c.args.object in
          let box = c.in_ok-listed.listed in
          let is = c.in_ok-listed.ensures.ok in
          let count = c.len-count.result in
          let f = frame.Statement (statement.ForInNext box at) in
          let t : State → Plan = for_in_over x b place (meaning.Is v) in
          let q : State → Plan = taken fs w old.cells f meaning.Normal in
          let held : FineNames fs w old.cells box.value at = subst (λ (u : ForInNames). FineNames fs w old.cells u at) (sym is) (c.requires.held.1, c.requires.held.0) in
          let first : (r : Rest) → t (image fs r w old) ≡ charge count (image fs r w old) (q (image fs r w old)) = λ r.
          let s = image fs r w old in
          let n = c.in_ok-names.ensures fs r w c.requires.ready.1 c.requires.held.1 in
          let k : count ≡ length (names_of s v) = omega (arith, c.len-count.ensures, ap length n) in
          sym (ap (λ (u : ForInNames). charge count s (for_in (seen w old.cells u.object) (variable_of (stmt_at (forest_at fs at.code) u.id)) (drop u.at u.names.items) (stmt_list (loop_body (stmt_at (forest_at fs at.code) u.id))) place s)) is
          ∙ ((λ j. charge (k j) s (for_in v x (n j) b place s))
          ∙ sym (ap (λ (y : Bool). if y then throw E1 s else charge (length (names_of s v)) s (for_in v x (names_of s v) b place s)) c.requires.some))) in
          held
          ),
      c.requires.tree,
    ),
  ),
)

pub names::listed_on-returns-then-is_paid-clause-comes : goal.names::listed_on-returns-then-is_paid-clause-comes
names::listed_on-returns-then-is_paid-clause-comes t c =
    let fs = trees_of c.args.here.now.site.now.codes.now.items in
    let w = c.args.here.now.site.now.widget in
    let at = c.args.here.now.at in
    let old = c.args.store.now in
    let i = stmt_at (forest_at fs at.code) c.args.id in
    let place = place_of w old.cells at in
    let x = variable_of i in
    let b = stmt_list (loop_body i) in
    let v = seen w old.cells c.args.object in
    let box = c.in_ok-listed.listed in
    let is = c.in_ok-listed.ensures.ok in
    let count = c.len-count.result in
    let f = frame.Statement (statement.ForInNext box at) in
    let t : State → Plan = for_in_over x b place (meaning.Is v) in
    let q : State → Plan = taken fs w old.cells f meaning.Normal in
    let held : FineNames fs w old.cells box.value at = subst (λ (u : ForInNames). FineNames fs w old.cells u at) (sym is) (c.requires.held.1, c.requires.held.0) in
    let first : (r : Rest) → t (image fs r w old) ≡ charge count (image fs r w old) (q (image fs r w old)) = λ r.
    let s = image fs r w old in
    let n = c.in_ok-names.ensures fs r w c.requires.ready.1 c.requires.held.1 in
    let k : count ≡ length (names_of s v) = omega (arith, c.len-count.ensures, ap length n) in
    sym (ap (λ (u : ForInNames). charge count s (for_in (seen w old.cells u.object) (variable_of (stmt_at (forest_at fs at.code) u.id)) (drop u.at u.names.items) (stmt_list (loop_body (stmt_at (forest_at fs at.code) u.id))) place s)) is
    ∙ ((λ j. charge (k j) s (for_in v x (n j) b place s))
    ∙ sym (ap (λ (y : Bool). if y then throw E1 s else charge (length (names_of s v)) s (for_in v x (names_of s v) b place s)) c.requires.some))) in
    let mid = c.is_paid.new.run in
    let yes = c.is_paid.ensures.yes c.if-is_paid.true in
    let ready : IsReady fs w old mid = (c.requires.ready.0, c.requires.ready.1, ap (λ l. l.items) yes.2 ∙ c.requires.ready.2) in
    IfOk-weaker c.names_on.result _ _
    (λ h k. towards_then fs w old old c.names_on.new.store 1 4 t q c.args.run.now mid c.names_on.new.run h (ended_as h c.names_on.new.out) (charge_paid fs w old t q c.args.run.now mid count first yes.0 yes.1 ready) k (omega arith))
    c.names_on.ensures.comes

pub names::listed_on-returns-clause-comes : goal.names::listed_on-returns-clause-comes
names::listed_on-returns-clause-comes t c =
    let fs = trees_of c.args.here.now.site.now.codes.now.items in
    let w = c.args.here.now.site.now.widget in
    let at = c.args.here.now.at in
    let old = c.args.store.now in
    let i = stmt_at (forest_at fs at.code) c.args.id in
    let place = place_of w old.cells at in
    let x = variable_of i in
    let b = stmt_list (loop_body i) in
    let v = seen w old.cells c.args.object in
    let box = c.in_ok-listed.listed in
    let is = c.in_ok-listed.ensures.ok in
    let count = c.len-count.result in
    let f = frame.Statement (statement.ForInNext box at) in
    let t : State → Plan = for_in_over x b place (meaning.Is v) in
    let q : State → Plan = taken fs w old.cells f meaning.Normal in
    let held : FineNames fs w old.cells box.value at = subst (λ (u : ForInNames). FineNames fs w old.cells u at) (sym is) (c.requires.held.1, c.requires.held.0) in
    let first : (r : Rest) → t (image fs r w old) ≡ charge count (image fs r w old) (q (image fs r w old)) = λ r.
    let s = image fs r w old in
    let n = c.in_ok-names.ensures fs r w c.requires.ready.1 c.requires.held.1 in
    let k : count ≡ length (names_of s v) = omega (arith, c.len-count.ensures, ap length n) in
    sym (ap (λ (u : ForInNames). charge count s (for_in (seen w old.cells u.object) (variable_of (stmt_at (forest_at fs at.code) u.id)) (drop u.at u.names.items) (stmt_list (loop_body (stmt_at (forest_at fs at.code) u.id))) place s)) is
    ∙ ((λ j. charge (k j) s (for_in v x (n j) b place s))
    ∙ sym (ap (λ (y : Bool). if y then throw E1 s else charge (length (names_of s v)) s (for_in v x (names_of s v) b place s)) c.requires.some))) in
    let mid = c.is_paid.new.run in
    let no = c.is_paid.ensures.no c.if-is_paid.false in
    charge_waits fs w c.wait.result old 4 count t f c.args.run.now mid c.wait.new.run c.args.out.now first (ap (λ l. l.items) no.1 ∙ c.requires.ready.2) no.0 no.2 held (omega arith)
    c.wait.ensures.left c.wait.ensures.waits c.wait.ensures.next c.wait.ensures.units

pub names::names_on-leave_job-requires : goal.names::names_on-leave_job-requires
names::names_on-leave_job-requires t c =
    let fs = trees_of c.args.here.now.site.now.codes.now.items in
    let w = c.args.here.now.site.now.widget in
    let at = c.args.here.now.at in
    let s0 = c.args.store.now in
    let s1 = c.passes.store in
    let l = c.passes.names in
    let place = place_of w s1.cells at in
    let i = stmt_at (forest_at fs at.code) l.value.id in
    let x = variable_of i in
    let b = stmt_list (loop_body i) in
    let had = c.args.run.now in
    let run = c.passes.run in
    let start : State → Plan = taken fs w s0.cells (frame.Statement (statement.ForInNext c.args.names at)) meaning.Normal in
    let q : State → Plan = taken fs w s1.cells (frame.Statement (statement.ForInNext l at)) meaning.Normal in
    let inv = c.passes.invariant in
    let fine = subst (λ (u : ForInNames). IsFine w s1.cells u.object) (sym c.deref.ensures) inv.2.0 in
    record { waits = inv.0.ready.2 }

pub names::names_on-returns-then-run-eq0-clause-comes : goal.names::names_on-returns-then-run-eq0-clause-comes
names::names_on-returns-then-run-eq0-clause-comes t c =
    let fs = trees_of c.args.here.now.site.now.codes.now.items in
    let w = c.args.here.now.site.now.widget in
    let at = c.args.here.now.at in
    let s0 = c.args.store.now in
    let s1 = c.passes.store in
    let l = c.passes.names in
    let place = place_of w s1.cells at in
    let i = stmt_at (forest_at fs at.code) l.value.id in
    let x = variable_of i in
    let b = stmt_list (loop_body i) in
    let had = c.args.run.now in
    let run = c.passes.run in
    let start : State → Plan = taken fs w s0.cells (frame.Statement (statement.ForInNext c.args.names at)) meaning.Normal in
    let q : State → Plan = taken fs w s1.cells (frame.Statement (statement.ForInNext l at)) meaning.Normal in
    let inv = c.passes.invariant in
    let fine = subst (λ (u : ForInNames). IsFine w s1.cells u.object) (sym c.deref.ensures) inv.2.0 in
    let n = c.in-Some.at in
    let box = c.at_name-names.result in
    let less : n < length l.value.names.items = subst (λ (u : ForInNames). n < length u.names.items) c.deref.ensures (c.in-Some.ensures fs no_rest w [] [] place inv.0.ready.1 fine).0 in
    let j = job_of fs w s1.cells (job.PassIn box at) in
    let goes : (r : Rest) → q (image fs r w s1) ≡ Do j (image fs r w s1) Ret = λ r.
    subst (λ (u : ForInNames). for_in (seen w s1.cells u.object) x (drop u.at u.names.items) b place (image fs r w s1) ≡ Do (Pass (ForInLoop (seen w s1.cells u.object) x (name_at u.names.items n) (drop (suc n) u.names.items) b) place) (image fs r w s1) Ret)
    c.deref.ensures (c.in-Some.ensures fs r w x b place inv.0.ready.1 fine).1
    ∙ ap (λ (u : ForInNames). Do (Pass (for_in_loop fs w s1.cells u at.code) place) (image fs r w s1) Ret) (sym c.at_name-names.ensures) in
    let held : FineNames fs w s1.cells box.value at × (box.value.at < length box.value.names.items) =
    subst (λ (u : ForInNames). FineNames fs w s1.cells u at × (u.at < length u.names.items)) (sym c.at_name-names.ensures) (inv.2, less) in
    let asked : State → Plan = λ s. Do j s Ret in
    let to_job : Towards fs w s0 s1 start asked had run = towards_each fs w s0 s1 s1 start q asked had run run inv.0 (stays fs w s1 s1 q asked run run inv.0.ready refl goes) in
    IfOk-weaker c.leave_job.result _ _
    (λ h k. towards_then fs w s0 s1 s1 0 1 start asked had run c.leave_job.new.run h (ended_as h c.passes.out) to_job (k fs w s1 c.passes.out held) (omega arith))
    c.leave_job.ensures.comes

pub names::names_on-returns-then-run-eq0-clause-kept : goal.names::names_on-returns-then-run-eq0-clause-kept
names::names_on-returns-then-run-eq0-clause-kept t c =
    let fs = trees_of c.args.here.now.site.now.codes.now.items in
    let w = c.args.here.now.site.now.widget in
    let at = c.args.here.now.at in
    let s0 = c.args.store.now in
    let s1 = c.passes.store in
    let l = c.passes.names in
    let place = place_of w s1.cells at in
    let i = stmt_at (forest_at fs at.code) l.value.id in
    let x = variable_of i in
    let b = stmt_list (loop_body i) in
    let had = c.args.run.now in
    let run = c.passes.run in
    let start : State → Plan = taken fs w s0.cells (frame.Statement (statement.ForInNext c.args.names at)) meaning.Normal in
    let q : State → Plan = taken fs w s1.cells (frame.Statement (statement.ForInNext l at)) meaning.Normal in
    let inv = c.passes.invariant in
    let fine = subst (λ (u : ForInNames). IsFine w s1.cells u.object) (sym c.deref.ensures) inv.2.0 in
    inv.1

pub names::names_on-pass_in_on-requires : goal.names::names_on-pass_in_on-requires
names::names_on-pass_in_on-requires t c = (
  search rules,
  (
    (
        let fs = trees_of c.args.here.now.site.now.codes.now.items in
        let w = c.args.here.now.site.now.widget in
        let at = c.args.here.now.at in
        let s0 = c.args.store.now in
        let s1 = c.passes.store in
        let l = c.passes.names in
        let place = place_of w s1.cells at in
        let i = stmt_at (forest_at fs at.code) l.value.id in
        let x = variable_of i in
        let b = stmt_list (loop_body i) in
        let had = c.args.run.now in
        let run = c.passes.run in
        let start : State → Plan = taken fs w s0.cells (frame.Statement (statement.ForInNext c.args.names at)) meaning.Normal in
        let q : State → Plan = taken fs w s1.cells (frame.Statement (statement.ForInNext l at)) meaning.Normal in
        let inv = c.passes.invariant in
        let fine = subst (λ (u : ForInNames). IsFine w s1.cells u.object) (sym c.deref.ensures) inv.2.0 in
        inv.0.ready
        ),
    (
      (
          let fs = trees_of c.args.here.now.site.now.codes.now.items in
          let w = c.args.here.now.site.now.widget in
          let at = c.args.here.now.at in
          let s0 = c.args.store.now in
          let s1 = c.passes.store in
          let l = c.passes.names in
          let place = place_of w s1.cells at in
          let i = stmt_at (forest_at fs at.code) l.value.id in
          let x = variable_of i in
          let b = stmt_list (loop_body i) in
          let had = c.args.run.now in
          let run = c.passes.run in
          let start : State → Plan = taken fs w s0.cells (frame.Statement (statement.ForInNext c.args.names at)) meaning.Normal in
          let q : State → Plan = taken fs w s1.cells (frame.Statement (statement.ForInNext l at)) meaning.Normal in
          let inv = c.passes.invariant in
          let fine = subst (λ (u : ForInNames). IsFine w s1.cells u.object) (sym c.deref.ensures) inv.2.0 in
          let n = c.in-Some.at in
          let box = c.at_name-names.result in
          let less : n < length l.value.names.items = subst (λ (u : ForInNames). n < length u.names.items) c.deref.ensures (c.in-Some.ensures fs no_rest w [] [] place inv.0.ready.1 fine).0 in
          let j = job_of fs w s1.cells (job.PassIn box at) in
          let goes : (r : Rest) → q (image fs r w s1) ≡ Do j (image fs r w s1) Ret = λ r.
          subst (λ (u : ForInNames). for_in (seen w s1.cells u.object) x (drop u.at u.names.items) b place (image fs r w s1) ≡ Do (Pass (ForInLoop (seen w s1.cells u.object) x (name_at u.names.items n) (drop (suc n) u.names.items) b) place) (image fs r w s1) Ret)
          c.deref.ensures (c.in-Some.ensures fs r w x b place inv.0.ready.1 fine).1
          ∙ ap (λ (u : ForInNames). Do (Pass (for_in_loop fs w s1.cells u at.code) place) (image fs r w s1) Ret) (sym c.at_name-names.ensures) in
          let held : FineNames fs w s1.cells box.value at × (box.value.at < length box.value.names.items) =
          subst (λ (u : ForInNames). FineNames fs w s1.cells u at × (u.at < length u.names.items)) (sym c.at_name-names.ensures) (inv.2, less) in
          let asked : State → Plan = λ s. Do j s Ret in
          let to_job : Towards fs w s0 s1 start asked had run = towards_each fs w s0 s1 s1 start q asked had run run inv.0 (stays fs w s1 s1 q asked run run inv.0.ready refl goes) in
          subst (λ (u : ForInNames). FineNames fs w s1.cells u at × (u.at < length u.names.items)) (sym c.deref-in-Some.ensures) held
          ),
      c.requires.tree,
    ),
  ),
)

pub names::names_on-returns-in_err-how-clause-kept : goal.names::names_on-returns-in_err-how-clause-kept
names::names_on-returns-in_err-how-clause-kept t c =
    let fs = trees_of c.args.here.now.site.now.codes.now.items in
    let w = c.args.here.now.site.now.widget in
    let at = c.args.here.now.at in
    let s0 = c.args.store.now in
    let s1 = c.passes.store in
    let l = c.passes.names in
    let place = place_of w s1.cells at in
    let i = stmt_at (forest_at fs at.code) l.value.id in
    let x = variable_of i in
    let b = stmt_list (loop_body i) in
    let had = c.args.run.now in
    let run = c.passes.run in
    let start : State → Plan = taken fs w s0.cells (frame.Statement (statement.ForInNext c.args.names at)) meaning.Normal in
    let q : State → Plan = taken fs w s1.cells (frame.Statement (statement.ForInNext l at)) meaning.Normal in
    let inv = c.passes.invariant in
    let fine = subst (λ (u : ForInNames). IsFine w s1.cells u.object) (sym c.deref.ensures) inv.2.0 in
    kept_then fs w s0 s1 c.pass_in_on.new.store inv.1 c.in_err-how.ensures.kept

pub names::names_on-behind-names-requires : goal.names::names_on-behind-names-requires
names::names_on-behind-names-requires t c =
    let fs = trees_of c.args.here.now.site.now.codes.now.items in
    let w = c.args.here.now.site.now.widget in
    let at = c.args.here.now.at in
    let s0 = c.args.store.now in
    let s1 = c.passes.store in
    let l = c.passes.names in
    let place = place_of w s1.cells at in
    let i = stmt_at (forest_at fs at.code) l.value.id in
    let x = variable_of i in
    let b = stmt_list (loop_body i) in
    let had = c.args.run.now in
    let run = c.passes.run in
    let start : State → Plan = taken fs w s0.cells (frame.Statement (statement.ForInNext c.args.names at)) meaning.Normal in
    let q : State → Plan = taken fs w s1.cells (frame.Statement (statement.ForInNext l at)) meaning.Normal in
    let inv = c.passes.invariant in
    let fine = subst (λ (u : ForInNames). IsFine w s1.cells u.object) (sym c.deref.ensures) inv.2.0 in
    let n = c.in-Some.at in
    let box = c.at_name-names.result in
    let less : n < length l.value.names.items = subst (λ (u : ForInNames). n < length u.names.items) c.deref.ensures (c.in-Some.ensures fs no_rest w [] [] place inv.0.ready.1 fine).0 in
    let j = job_of fs w s1.cells (job.PassIn box at) in
    let goes : (r : Rest) → q (image fs r w s1) ≡ Do j (image fs r w s1) Ret = λ r.
    subst (λ (u : ForInNames). for_in (seen w s1.cells u.object) x (drop u.at u.names.items) b place (image fs r w s1) ≡ Do (Pass (ForInLoop (seen w s1.cells u.object) x (name_at u.names.items n) (drop (suc n) u.names.items) b) place) (image fs r w s1) Ret)
    c.deref.ensures (c.in-Some.ensures fs r w x b place inv.0.ready.1 fine).1
    ∙ ap (λ (u : ForInNames). Do (Pass (for_in_loop fs w s1.cells u at.code) place) (image fs r w s1) Ret) (sym c.at_name-names.ensures) in
    let held : FineNames fs w s1.cells box.value at × (box.value.at < length box.value.names.items) =
    subst (λ (u : ForInNames). FineNames fs w s1.cells u at × (u.at < length u.names.items)) (sym c.at_name-names.ensures) (inv.2, less) in
    let asked : State → Plan = λ s. Do j s Ret in
    let to_job : Towards fs w s0 s1 start asked had run = towards_each fs w s0 s1 s1 start q asked had run run inv.0 (stays fs w s1 s1 q asked run run inv.0.ready refl goes) in
    held.1

pub names::names_on-passes-preserved : goal.names::names_on-passes-preserved
names::names_on-passes-preserved t c =
    let fs = trees_of c.args.here.now.site.now.codes.now.items in
    let w = c.args.here.now.site.now.widget in
    let at = c.args.here.now.at in
    let s0 = c.args.store.now in
    let s1 = c.passes.store in
    let l = c.passes.names in
    let place = place_of w s1.cells at in
    let i = stmt_at (forest_at fs at.code) l.value.id in
    let x = variable_of i in
    let b = stmt_list (loop_body i) in
    let had = c.args.run.now in
    let run = c.passes.run in
    let start : State → Plan = taken fs w s0.cells (frame.Statement (statement.ForInNext c.args.names at)) meaning.Normal in
    let q : State → Plan = taken fs w s1.cells (frame.Statement (statement.ForInNext l at)) meaning.Normal in
    let inv = c.passes.invariant in
    let fine = subst (λ (u : ForInNames). IsFine w s1.cells u.object) (sym c.deref.ensures) inv.2.0 in
    let n = c.in-Some.at in
    let box = c.at_name-names.result in
    let less : n < length l.value.names.items = subst (λ (u : ForInNames). n < length u.names.items) c.deref.ensures (c.in-Some.ensures fs no_rest w [] [] place inv.0.ready.1 fine).0 in
    let j = job_of fs w s1.cells (job.PassIn box at) in
    let goes : (r : Rest) → q (image fs r w s1) ≡ Do j (image fs r w s1) Ret = λ r.
    subst (λ (u : ForInNames). for_in (seen w s1.cells u.object) x (drop u.at u.names.items) b place (image fs r w s1) ≡ Do (Pass (ForInLoop (seen w s1.cells u.object) x (name_at u.names.items n) (drop (suc n) u.names.items) b) place) (image fs r w s1) Ret)
    c.deref.ensures (c.in-Some.ensures fs r w x b place inv.0.ready.1 fine).1
    ∙ ap (λ (u : ForInNames). Do (Pass (for_in_loop fs w s1.cells u at.code) place) (image fs r w s1) Ret) (sym c.at_name-names.ensures) in
    let held : FineNames fs w s1.cells box.value at × (box.value.at < length box.value.names.items) =
    subst (λ (u : ForInNames). FineNames fs w s1.cells u at × (u.at < length u.names.items)) (sym c.at_name-names.ensures) (inv.2, less) in
    let asked : State → Plan = λ s. Do j s Ret in
    let to_job : Towards fs w s0 s1 start asked had run = towards_each fs w s0 s1 s1 start q asked had run run inv.0 (stays fs w s1 s1 q asked run run inv.0.ready refl goes) in
    let mid : Run = record run { units = run.units - 1 } in
    let s2 = c.pass_in_on.new.store in
    let last = c.pass_in_on.new.run in
    let how = c.in_ok-how.how in
    let out = c.pass_in_on.new.out in
    let part = c.in_ok-how.ensures.comes in
    let kept = c.in_ok-how.ensures.kept in
    let v = c.deref-in-Some.result.now in
    let is = sym c.deref-in-Some.ensures in
    let g = stmt_at (forest_at fs at.code) in
    let p : State → Plan = λ s. statements (stmt_list (loop_body (g v.id))) place (scopes.assign s place (variable_of (g v.id)) (meaning.Text (name_at v.names.items v.at))) in
    let rest = c.behind-names.result in
    let same = sym c.behind-names.ensures in
    let f = frame.Statement (statement.ForInNext rest at) in
    let body_is : (s : State) → body j s ≡ and_then (p s) (taken fs w s1.cells f) = λ s k.
    and_then (statements (stmt_list (loop_body (g (is k).id))) place (scopes.assign s place (variable_of (g (is k).id)) (meaning.Text (name_at (is k).names.items (is k).at))))
    (for_in_next (seen w s1.cells (same k).object) (variable_of (g (same k).id)) (drop (same k).at (same k).names.items) (stmt_list (loop_body (g (same k).id))) place) in
    let left : FineNames fs w s1.cells rest.value at = subst (λ (u : ForInNames). FineNames fs w s1.cells u at) same held.0 in
    let to_body : Towards fs w s0 s1 start (body j) had mid = towards_each fs w s0 s1 s1 start asked (body j) had run mid to_job
    (unit_paid fs w s1 j (body j) run mid inv.0.ready (omega (arith, c.if-run-eq0.false)) (λ s. and_then_ret (body j s))) in (
      towards_each fs w s0 s1 s2 start (body j) (taken fs w s2.cells f meaning.Normal) had mid last to_body (names_next fs w s1 s2 (body j) p rest at mid last how out body_is part c.in-Normal.is inv.0.ready kept left),
      kept_then fs w s0 s1 s2 inv.1 kept,
      (fine_stays w s1.cells s2.cells kept.grows rest.value.object left.0, (place_fine fs w s1.cells s2.cells kept.grows at left.1.0, left.1.1)),
    )

pub names::names_on-passes-smaller : goal.names::names_on-passes-smaller
names::names_on-passes-smaller t c =
    let fs = trees_of c.args.here.now.site.now.codes.now.items in
    let w = c.args.here.now.site.now.widget in
    let at = c.args.here.now.at in
    let s0 = c.args.store.now in
    let s1 = c.passes.store in
    let l = c.passes.names in
    let place = place_of w s1.cells at in
    let i = stmt_at (forest_at fs at.code) l.value.id in
    let x = variable_of i in
    let b = stmt_list (loop_body i) in
    let had = c.args.run.now in
    let run = c.passes.run in
    let start : State → Plan = taken fs w s0.cells (frame.Statement (statement.ForInNext c.args.names at)) meaning.Normal in
    let q : State → Plan = taken fs w s1.cells (frame.Statement (statement.ForInNext l at)) meaning.Normal in
    let inv = c.passes.invariant in
    let fine = subst (λ (u : ForInNames). IsFine w s1.cells u.object) (sym c.deref.ensures) inv.2.0 in
    omega (arith, c.in_ok-how.ensures.comes.units, c.if-run-eq0.false)

pub names::names_on-returns-in-Break-clause-comes : goal.names::names_on-returns-in-Break-clause-comes
names::names_on-returns-in-Break-clause-comes t c =
    let fs = trees_of c.args.here.now.site.now.codes.now.items in
    let w = c.args.here.now.site.now.widget in
    let at = c.args.here.now.at in
    let s0 = c.args.store.now in
    let s1 = c.passes.store in
    let l = c.passes.names in
    let place = place_of w s1.cells at in
    let i = stmt_at (forest_at fs at.code) l.value.id in
    let x = variable_of i in
    let b = stmt_list (loop_body i) in
    let had = c.args.run.now in
    let run = c.passes.run in
    let start : State → Plan = taken fs w s0.cells (frame.Statement (statement.ForInNext c.args.names at)) meaning.Normal in
    let q : State → Plan = taken fs w s1.cells (frame.Statement (statement.ForInNext l at)) meaning.Normal in
    let inv = c.passes.invariant in
    let fine = subst (λ (u : ForInNames). IsFine w s1.cells u.object) (sym c.deref.ensures) inv.2.0 in
    let n = c.in-Some.at in
    let box = c.at_name-names.result in
    let less : n < length l.value.names.items = subst (λ (u : ForInNames). n < length u.names.items) c.deref.ensures (c.in-Some.ensures fs no_rest w [] [] place inv.0.ready.1 fine).0 in
    let j = job_of fs w s1.cells (job.PassIn box at) in
    let goes : (r : Rest) → q (image fs r w s1) ≡ Do j (image fs r w s1) Ret = λ r.
    subst (λ (u : ForInNames). for_in (seen w s1.cells u.object) x (drop u.at u.names.items) b place (image fs r w s1) ≡ Do (Pass (ForInLoop (seen w s1.cells u.object) x (name_at u.names.items n) (drop (suc n) u.names.items) b) place) (image fs r w s1) Ret)
    c.deref.ensures (c.in-Some.ensures fs r w x b place inv.0.ready.1 fine).1
    ∙ ap (λ (u : ForInNames). Do (Pass (for_in_loop fs w s1.cells u at.code) place) (image fs r w s1) Ret) (sym c.at_name-names.ensures) in
    let held : FineNames fs w s1.cells box.value at × (box.value.at < length box.value.names.items) =
    subst (λ (u : ForInNames). FineNames fs w s1.cells u at × (u.at < length u.names.items)) (sym c.at_name-names.ensures) (inv.2, less) in
    let asked : State → Plan = λ s. Do j s Ret in
    let to_job : Towards fs w s0 s1 start asked had run = towards_each fs w s0 s1 s1 start q asked had run run inv.0 (stays fs w s1 s1 q asked run run inv.0.ready refl goes) in
    let mid : Run = record run { units = run.units - 1 } in
    let s2 = c.pass_in_on.new.store in
    let last = c.pass_in_on.new.run in
    let how = c.in_ok-how.how in
    let out = c.pass_in_on.new.out in
    let part = c.in_ok-how.ensures.comes in
    let kept = c.in_ok-how.ensures.kept in
    let v = c.deref-in-Some.result.now in
    let is = sym c.deref-in-Some.ensures in
    let g = stmt_at (forest_at fs at.code) in
    let p : State → Plan = λ s. statements (stmt_list (loop_body (g v.id))) place (scopes.assign s place (variable_of (g v.id)) (meaning.Text (name_at v.names.items v.at))) in
    let rest = c.behind-names.result in
    let same = sym c.behind-names.ensures in
    let f = frame.Statement (statement.ForInNext rest at) in
    let body_is : (s : State) → body j s ≡ and_then (p s) (taken fs w s1.cells f) = λ s k.
    and_then (statements (stmt_list (loop_body (g (is k).id))) place (scopes.assign s place (variable_of (g (is k).id)) (meaning.Text (name_at (is k).names.items (is k).at))))
    (for_in_next (seen w s1.cells (same k).object) (variable_of (g (same k).id)) (drop (same k).at (same k).names.items) (stmt_list (loop_body (g (same k).id))) place) in
    let left : FineNames fs w s1.cells rest.value at = subst (λ (u : ForInNames). FineNames fs w s1.cells u at) same held.0 in
    let to_body : Towards fs w s0 s1 start (body j) had mid = towards_each fs w s0 s1 s1 start asked (body j) had run mid to_job
    (unit_paid fs w s1 j (body j) run mid inv.0.ready (omega (arith, c.if-run-eq0.false)) (λ s. and_then_ret (body j s))) in
    let one = as_is fs w s1 s2 1 p mid last how ended.Break out c.in-Break.is part in
    towards_then fs w s0 s1 s2 1 1 start (body j) had mid last ended.Normal (ended_as ended.Normal out) to_body
    (part_gives fs w s1 s2 1 1 (body j) p f mid last last ended.Break ended.Normal (ended_as ended.Break out) (ended_as ended.Normal out) body_is one tt kept.grows left tt refl (λ r. refl) tt (omega arith)) (omega arith)

pub names::names_on-returns-in-Break-clause-kept : goal.names::names_on-returns-in-Break-clause-kept
names::names_on-returns-in-Break-clause-kept t c =
    let fs = trees_of c.args.here.now.site.now.codes.now.items in
    let w = c.args.here.now.site.now.widget in
    let at = c.args.here.now.at in
    let s0 = c.args.store.now in
    let s1 = c.passes.store in
    let l = c.passes.names in
    let place = place_of w s1.cells at in
    let i = stmt_at (forest_at fs at.code) l.value.id in
    let x = variable_of i in
    let b = stmt_list (loop_body i) in
    let had = c.args.run.now in
    let run = c.passes.run in
    let start : State → Plan = taken fs w s0.cells (frame.Statement (statement.ForInNext c.args.names at)) meaning.Normal in
    let q : State → Plan = taken fs w s1.cells (frame.Statement (statement.ForInNext l at)) meaning.Normal in
    let inv = c.passes.invariant in
    let fine = subst (λ (u : ForInNames). IsFine w s1.cells u.object) (sym c.deref.ensures) inv.2.0 in
    kept_then fs w s0 s1 c.pass_in_on.new.store inv.1 c.in_ok-how.ensures.kept

pub names::names_on-returns-in_default-how : goal.names::names_on-returns-in_default-how
names::names_on-returns-in_default-how t c =
    let fs = trees_of c.args.here.now.site.now.codes.now.items in
    let w = c.args.here.now.site.now.widget in
    let at = c.args.here.now.at in
    let s0 = c.args.store.now in
    let s1 = c.passes.store in
    let l = c.passes.names in
    let place = place_of w s1.cells at in
    let i = stmt_at (forest_at fs at.code) l.value.id in
    let x = variable_of i in
    let b = stmt_list (loop_body i) in
    let had = c.args.run.now in
    let run = c.passes.run in
    let start : State → Plan = taken fs w s0.cells (frame.Statement (statement.ForInNext c.args.names at)) meaning.Normal in
    let q : State → Plan = taken fs w s1.cells (frame.Statement (statement.ForInNext l at)) meaning.Normal in
    let inv = c.passes.invariant in
    let fine = subst (λ (u : ForInNames). IsFine w s1.cells u.object) (sym c.deref.ensures) inv.2.0 in
    let n = c.in-Some.at in
    let box = c.at_name-names.result in
    let less : n < length l.value.names.items = subst (λ (u : ForInNames). n < length u.names.items) c.deref.ensures (c.in-Some.ensures fs no_rest w [] [] place inv.0.ready.1 fine).0 in
    let j = job_of fs w s1.cells (job.PassIn box at) in
    let goes : (r : Rest) → q (image fs r w s1) ≡ Do j (image fs r w s1) Ret = λ r.
    subst (λ (u : ForInNames). for_in (seen w s1.cells u.object) x (drop u.at u.names.items) b place (image fs r w s1) ≡ Do (Pass (ForInLoop (seen w s1.cells u.object) x (name_at u.names.items n) (drop (suc n) u.names.items) b) place) (image fs r w s1) Ret)
    c.deref.ensures (c.in-Some.ensures fs r w x b place inv.0.ready.1 fine).1
    ∙ ap (λ (u : ForInNames). Do (Pass (for_in_loop fs w s1.cells u at.code) place) (image fs r w s1) Ret) (sym c.at_name-names.ensures) in
    let held : FineNames fs w s1.cells box.value at × (box.value.at < length box.value.names.items) =
    subst (λ (u : ForInNames). FineNames fs w s1.cells u at × (u.at < length u.names.items)) (sym c.at_name-names.ensures) (inv.2, less) in
    let asked : State → Plan = λ s. Do j s Ret in
    let to_job : Towards fs w s0 s1 start asked had run = towards_each fs w s0 s1 s1 start q asked had run run inv.0 (stays fs w s1 s1 q asked run run inv.0.ready refl goes) in
    let mid : Run = record run { units = run.units - 1 } in
    let s2 = c.pass_in_on.new.store in
    let last = c.pass_in_on.new.run in
    let how = c.in_ok-how.how in
    let out = c.pass_in_on.new.out in
    let part = c.in_ok-how.ensures.comes in
    let kept = c.in_ok-how.ensures.kept in
    let v = c.deref-in-Some.result.now in
    let is = sym c.deref-in-Some.ensures in
    let g = stmt_at (forest_at fs at.code) in
    let p : State → Plan = λ s. statements (stmt_list (loop_body (g v.id))) place (scopes.assign s place (variable_of (g v.id)) (meaning.Text (name_at v.names.items v.at))) in
    let rest = c.behind-names.result in
    let same = sym c.behind-names.ensures in
    let f = frame.Statement (statement.ForInNext rest at) in
    let body_is : (s : State) → body j s ≡ and_then (p s) (taken fs w s1.cells f) = λ s k.
    and_then (statements (stmt_list (loop_body (g (is k).id))) place (scopes.assign s place (variable_of (g (is k).id)) (meaning.Text (name_at (is k).names.items (is k).at))))
    (for_in_next (seen w s1.cells (same k).object) (variable_of (g (same k).id)) (drop (same k).at (same k).names.items) (stmt_list (loop_body (g (same k).id))) place) in
    let left : FineNames fs w s1.cells rest.value at = subst (λ (u : ForInNames). FineNames fs w s1.cells u at) same held.0 in
    let to_body : Towards fs w s0 s1 start (body j) had mid = towards_each fs w s0 s1 s1 start asked (body j) had run mid to_job
    (unit_paid fs w s1 j (body j) run mid inv.0.ready (omega (arith, c.if-run-eq0.false)) (λ s. and_then_ret (body j s))) in
    record {
      comes = IfOk-weaker c.hand_names.result _ _
          (λ h k. towards_paid fs w s0 s1 s2 2 1 start (body j) had mid c.hand_names.new.run h (ended_as h out) to_body (planned fs w s1 s2 2 (body j) _ mid c.hand_names.new.run h (ended_as h out) body_is k) (omega (arith, inv.0.units, c.if-run-eq0.false)) (omega arith))
          (hand_ok fs w c.hand_names.result s1 s2 1 2 p f mid last c.hand_names.new.run how out part (λ t no_left. loop_passes w s2.cells out t how _ c.in_default-how.not-Normal c.in_default-how.not-Continue c.in_default-how.not-Break no_left) kept left (omega arith) c.hand_names.ensures);
      kept = kept_then fs w s0 s1 s2 inv.1 kept;
    }

pub names::names_on-returns-clause-comes : goal.names::names_on-returns-clause-comes
names::names_on-returns-clause-comes t c =
    let fs = trees_of c.args.here.now.site.now.codes.now.items in
    let w = c.args.here.now.site.now.widget in
    let at = c.args.here.now.at in
    let s0 = c.args.store.now in
    let s1 = c.passes.store in
    let l = c.passes.names in
    let place = place_of w s1.cells at in
    let i = stmt_at (forest_at fs at.code) l.value.id in
    let x = variable_of i in
    let b = stmt_list (loop_body i) in
    let had = c.args.run.now in
    let run = c.passes.run in
    let start : State → Plan = taken fs w s0.cells (frame.Statement (statement.ForInNext c.args.names at)) meaning.Normal in
    let q : State → Plan = taken fs w s1.cells (frame.Statement (statement.ForInNext l at)) meaning.Normal in
    let inv = c.passes.invariant in
    let fine = subst (λ (u : ForInNames). IsFine w s1.cells u.object) (sym c.deref.ensures) inv.2.0 in
    let none : (r : Rest) → q (image fs r w s1) ≡ Ret meaning.Normal (image fs r w s1) = λ r.
    subst (λ (u : ForInNames). for_in (seen w s1.cells u.object) x (drop u.at u.names.items) b place (image fs r w s1) ≡ Ret meaning.Normal (image fs r w s1)) c.deref.ensures
    (rw c.in_default.is at (c.next_name.ensures fs r w x b place inv.0.ready.1 fine)) in
    towards_then fs w s0 s1 s1 1 1 start q had run run ended.Normal (ended_as ended.Normal c.passes.out) inv.0
    (gives fs w s1 s1 1 q run run ended.Normal (ended_as ended.Normal c.passes.out) tt refl inv.0.ready.2 none tt (omega arith)) (omega arith)

pub names::names_on-returns-clause-kept : goal.names::names_on-returns-clause-kept
names::names_on-returns-clause-kept t c =
    let fs = trees_of c.args.here.now.site.now.codes.now.items in
    let w = c.args.here.now.site.now.widget in
    let at = c.args.here.now.at in
    let s0 = c.args.store.now in
    let s1 = c.passes.store in
    let l = c.passes.names in
    let place = place_of w s1.cells at in
    let i = stmt_at (forest_at fs at.code) l.value.id in
    let x = variable_of i in
    let b = stmt_list (loop_body i) in
    let had = c.args.run.now in
    let run = c.passes.run in
    let start : State → Plan = taken fs w s0.cells (frame.Statement (statement.ForInNext c.args.names at)) meaning.Normal in
    let q : State → Plan = taken fs w s1.cells (frame.Statement (statement.ForInNext l at)) meaning.Normal in
    let inv = c.passes.invariant in
    let fine = subst (λ (u : ForInNames). IsFine w s1.cells u.object) (sym c.deref.ensures) inv.2.0 in
    inv.1

pub names::pass_in_on-block_on-requires : goal.names::pass_in_on-block_on-requires
names::pass_in_on-block_on-requires t c = (
  search rules,
  (
    (
        let fs = trees_of c.args.here.now.site.now.codes.now.items in
        let w = c.args.here.now.site.now.widget in
        let at = c.args.here.now.at in
        let old = c.args.store.now in
        let f = forest_at fs at.code in
        let new = c.assign.new.store in
        let v = c.args.names.now in
        let grows = (c.assign.ensures.kept fs c.requires.ready.1).grows in
        let place : place_of w new.cells at ≡ place_of w old.cells at = place_same fs w old.cells new.cells grows at c.requires.held.0.1.0 in
        let x : c.in_ok-variable.variable ≡ variable_of (stmt_at f v.id) = c.in_ok-variable.ensures ∙ ap (λ (g : Forest). variable_of (stmt_at g v.id)) c.requires.tree in
        let n : c.in_ok-name.name ≡ name_at v.names.items v.at = c.in_ok-name.ensures in
        let todo : State → Plan = λ s. statements (stmt_list (loop_body (stmt_at f v.id))) (place_of w old.cells at) (scopes.assign s (place_of w old.cells at) (variable_of (stmt_at f v.id)) (meaning.Text (name_at v.names.items v.at))) in
        (c.requires.ready.0, (c.assign.ensures.kept fs c.requires.ready.1).confined c.requires.ready.1, c.requires.ready.2)
        ),
    (
      (
          let fs = trees_of c.args.here.now.site.now.codes.now.items in
          let w = c.args.here.now.site.now.widget in
          let at = c.args.here.now.at in
          let old = c.args.store.now in
          let f = forest_at fs at.code in
          let new = c.assign.new.store in
          let v = c.args.names.now in
          let grows = (c.assign.ensures.kept fs c.requires.ready.1).grows in
          let place : place_of w new.cells at ≡ place_of w old.cells at = place_same fs w old.cells new.cells grows at c.requires.held.0.1.0 in
          let x : c.in_ok-variable.variable ≡ variable_of (stmt_at f v.id) = c.in_ok-variable.ensures ∙ ap (λ (g : Forest). variable_of (stmt_at g v.id)) c.requires.tree in
          let n : c.in_ok-name.name ≡ name_at v.names.items v.at = c.in_ok-name.ensures in
          let todo : State → Plan = λ s. statements (stmt_list (loop_body (stmt_at f v.id))) (place_of w old.cells at) (scopes.assign s (place_of w old.cells at) (variable_of (stmt_at f v.id)) (meaning.Text (name_at v.names.items v.at))) in
          (place_fine fs w old.cells new.cells grows at c.requires.held.0.1.0, c.requires.held.0.1.1)
          ),
      c.requires.tree,
    ),
  ),
)

pub names::pass_in_on-returns-clause-comes : goal.names::pass_in_on-returns-clause-comes
names::pass_in_on-returns-clause-comes t c =
    let fs = trees_of c.args.here.now.site.now.codes.now.items in
    let w = c.args.here.now.site.now.widget in
    let at = c.args.here.now.at in
    let old = c.args.store.now in
    let f = forest_at fs at.code in
    let new = c.assign.new.store in
    let v = c.args.names.now in
    let grows = (c.assign.ensures.kept fs c.requires.ready.1).grows in
    let place : place_of w new.cells at ≡ place_of w old.cells at = place_same fs w old.cells new.cells grows at c.requires.held.0.1.0 in
    let x : c.in_ok-variable.variable ≡ variable_of (stmt_at f v.id) = c.in_ok-variable.ensures ∙ ap (λ (g : Forest). variable_of (stmt_at g v.id)) c.requires.tree in
    let n : c.in_ok-name.name ≡ name_at v.names.items v.at = c.in_ok-name.ensures in
    let todo : State → Plan = λ s. statements (stmt_list (loop_body (stmt_at f v.id))) (place_of w old.cells at) (scopes.assign s (place_of w old.cells at) (variable_of (stmt_at f v.id)) (meaning.Text (name_at v.names.items v.at))) in
    IfOk-weaker c.block_on.result _ _
    (λ h k. after_store fs w old new c.block_on.new.store 1 (block_at fs w new.cells (block.Loop v.id) 0 at) todo c.args.run.now c.block_on.new.run h (ended_as h c.block_on.new.out) k
    (λ r. let s : image fs r w new ≡ scopes.assign (image fs r w old) (place_of w old.cells at) (variable_of (stmt_at f v.id)) (meaning.Text (name_at v.names.items v.at)) =
    c.assign.ensures.plan fs r at.depth c.requires.ready.1 ∙ (λ j. scopes.assign (image fs r w old) (place_of w old.cells at) (x j) (meaning.Text (n j))) in
    sym (λ j. statements (stmt_list (loop_body (stmt_at f v.id))) (place j) (s j))))
    c.block_on.ensures.comes

pub names::pass_in_on-returns-clause-kept : goal.names::pass_in_on-returns-clause-kept
names::pass_in_on-returns-clause-kept t c =
    let fs = trees_of c.args.here.now.site.now.codes.now.items in
    let w = c.args.here.now.site.now.widget in
    let at = c.args.here.now.at in
    let old = c.args.store.now in
    let f = forest_at fs at.code in
    let new = c.assign.new.store in
    let v = c.args.names.now in
    let grows = (c.assign.ensures.kept fs c.requires.ready.1).grows in
    let place : place_of w new.cells at ≡ place_of w old.cells at = place_same fs w old.cells new.cells grows at c.requires.held.0.1.0 in
    let x : c.in_ok-variable.variable ≡ variable_of (stmt_at f v.id) = c.in_ok-variable.ensures ∙ ap (λ (g : Forest). variable_of (stmt_at g v.id)) c.requires.tree in
    let n : c.in_ok-name.name ≡ name_at v.names.items v.at = c.in_ok-name.ensures in
    let todo : State → Plan = λ s. statements (stmt_list (loop_body (stmt_at f v.id))) (place_of w old.cells at) (scopes.assign s (place_of w old.cells at) (variable_of (stmt_at f v.id)) (meaning.Text (name_at v.names.items v.at))) in
    kept_then fs w old new c.block_on.new.store (c.assign.ensures.kept fs c.requires.ready.1) c.block_on.ensures.kept

pub objects::object_on-returns-in-Cell-clause-comes : goal.objects::object_on-returns-in-Cell-clause-comes
objects::object_on-returns-in-Cell-clause-comes t c =
    let fs = trees_of c.args.here.now.site.now.codes.now.items in
    let w = c.args.here.now.site.now.widget in
    let old = c.args.store.now in
    let mid = c.make.new.store in
    let place = c.args.here.now.at in
    let list = properties_of (expr_at (forest_at fs place.code) c.args.id) in
    let e : seen w old.cells (value.Ref c.host-proto.result) ≡ meaning.Host entry.ObjectPrototype = ap (λ i. seen w old.cells (value.Ref i)) c.host-proto.ensures.place ∙ entry_link w old.cells c.lawful.ensures entry.ObjectPrototype in
    let k : Value → State → Plan = λ a t. object_parts a list (place_of w old.cells place) t in
    let todo : State → Plan = λ s. make (plain_object []) 0 s k in
    let stays = place_same fs w old.cells mid.cells (c.make.ensures.kept fs tt).grows place c.requires.held.0 in
    IfOk-weaker c.properties_on.result _ _
    (λ h x. before_then fs w old mid c.properties_on.new.store 1 30 todo (object_parts (seen w mid.cells (value.Ref c.in-Cell.object)) list (place_of w mid.cells place)) c.args.run.now c.properties_on.new.run h _
    (λ r. (λ i. make (new_object (sym e i) []) 0 (image fs r w old) k) ∙ c.in_ok-object.ensures.plan fs r k ∙ ap (λ m. made_plan w mid.cells m k (image fs r w mid)) c.in-Cell.is
    ∙ (λ i. object_parts (seen w mid.cells (value.Ref c.in-Cell.object)) list (sym stays i) (image fs r w mid)))
    x (omega arith))
    c.properties_on.ensures.comes

pub objects::object_on-returns-in-Stop-clause-comes : goal.objects::object_on-returns-in-Stop-clause-comes
objects::object_on-returns-in-Stop-clause-comes t c =
    let fs = trees_of c.args.here.now.site.now.codes.now.items in
    let w = c.args.here.now.site.now.widget in
    let old = c.args.store.now in
    let new = c.make.new.store in
    let place = c.args.here.now.at in
    let list = properties_of (expr_at (forest_at fs place.code) c.args.id) in
    let e : seen w old.cells (value.Ref c.host-proto.result) ≡ meaning.Host entry.ObjectPrototype = ap (λ i. seen w old.cells (value.Ref i)) c.host-proto.ensures.place ∙ entry_link w old.cells c.lawful.ensures entry.ObjectPrototype in
    let k : Value → State → Plan = λ a t. object_parts a list (place_of w old.cells place) t in
    IfOk-weaker c.stop.result _ _
    (λ h x. before_it fs w old new 0 30 (λ s. make (plain_object []) 0 s k) (λ t. Halt (meant_cause c.in-Stop.cause) t) c.args.run.now c.stop.new.run h _
    (λ r. (λ i. make (new_object (sym e i) []) 0 (image fs r w old) k) ∙ c.in_ok-object.ensures.plan fs r k ∙ ap (λ m. made_plan w new.cells m k (image fs r w new)) c.in-Stop.is)
    (x fs w new c.args.out.now) (omega arith))
    c.stop.ensures.comes

pub objects::object_on-returns-in-Cell-clause-kept : goal.objects::object_on-returns-in-Cell-clause-kept
objects::object_on-returns-in-Cell-clause-kept t c =
    let fs = trees_of c.args.here.now.site.now.codes.now.items in
    kept_then fs c.args.here.now.site.now.widget c.args.store.now c.make.new.store c.properties_on.new.store (c.make.ensures.kept fs tt) c.properties_on.ensures.kept

pub objects::properties_on-returns-in_err-how-clause-kept : goal.objects::properties_on-returns-in_err-how-clause-kept
objects::properties_on-returns-in_err-how-clause-kept t c =
    kept_then (trees_of c.args.here.now.site.now.codes.now.items) c.args.here.now.site.now.widget c.args.store.now c.properties.store c.property_part_on.new.store c.properties.invariant.kept c.property_part_on.ensures.kept

pub objects::properties_on-properties-preserved : goal.objects::properties_on-properties-preserved
objects::properties_on-properties-preserved t c =
    let fs = trees_of c.args.here.now.site.now.codes.now.items in
    let w = c.args.here.now.site.now.widget in
    let old = c.args.store.now in
    let mid = c.properties.store in
    let new = c.property_part_on.new.store in
    let was = c.properties.invariant in
    let step = c.in_ok-how.ensures in
    let next = step.goes c.in-Is.is in
    record {
      goes = goes_both fs w old mid new _ _ _ c.args.run.now c.properties.run c.property_part_on.new.run was.goes next;
      ready = (was.ready.0, step.kept.confined was.ready.1, next.none);
      held = (
        held_stays w mid.cells new.cells step.kept.grows c.args.object was.held.0,
        (place_fine fs w mid.cells new.cells step.kept.grows c.args.here.now.at was.held.1.0, was.held.1.1),
      );
      kept = kept_then fs w old mid new was.kept step.kept;
    }

pub objects::properties_on-returns-in_default-2 : goal.objects::properties_on-returns-in_default-2
objects::properties_on-returns-in_default-2 t c =
    let fs = trees_of c.args.here.now.site.now.codes.now.items in
    let w = c.args.here.now.site.now.widget in
    let old = c.args.store.now in
    let mid = c.properties.store in
    let new = c.property_part_on.new.store in
    let was = c.properties.invariant in
    let step = c.in_ok-how.ensures in
    record {
      comes = goes_then fs w old mid new 1 _ _ c.args.run.now c.properties.run c.property_part_on.new.run c.in_ok-how.how _ was.goes (step.comes c.in_default-2.not-Is);
      kept = kept_then fs w old mid new was.kept step.kept;
    }

pub objects::property_part_on-put_property-requires-clause-ready : goal.objects::property_part_on-put_property-requires-clause-ready
objects::property_part_on-put_property-requires-clause-ready t c =
    let fs = trees_of c.args.here.now.site.now.codes.now.items in
    let w = c.args.here.now.site.now.widget in
    let old = c.args.store.now in
    let mid = c.operand_on.new.store in
    let place = c.args.here.now.at in
    let p : State → Plan = λ s. Do (job_of fs w old.cells (job.Eval c.args.part.now.1 place)) s Ret in
    let had = c.args.run.now in
    let has = c.operand_on.new.run in
    let how = c.in_ok-how.how in
    let out = c.operand_on.new.out in
    let part = c.in_ok-how.ensures.comes in
    let kept = c.in_ok-how.ensures.kept in
    value_ready fs w old mid 0 p had has how (ended_as how out) part c.in-Is.is kept c.requires.ready

pub objects::property_part_on-put_property-requires-clause-held : goal.objects::property_part_on-put_property-requires-clause-held
objects::property_part_on-put_property-requires-clause-held t c =
    let fs = trees_of c.args.here.now.site.now.codes.now.items in
    let w = c.args.here.now.site.now.widget in
    let old = c.args.store.now in
    let mid = c.operand_on.new.store in
    let place = c.args.here.now.at in
    let p : State → Plan = λ s. Do (job_of fs w old.cells (job.Eval c.args.part.now.1 place)) s Ret in
    let had = c.args.run.now in
    let has = c.operand_on.new.run in
    let how = c.in_ok-how.how in
    let out = c.operand_on.new.out in
    let part = c.in_ok-how.ensures.comes in
    let kept = c.in_ok-how.ensures.kept in
    (held_stays w old.cells mid.cells kept.grows c.args.at.0 c.requires.held.0, value_fine fs w old mid 0 p had has how out part c.in-Is.is)

pub objects::property_part_on-returns-in-Is-clause-goes : goal.objects::property_part_on-returns-in-Is-clause-goes
objects::property_part_on-returns-in-Is-clause-goes t c =
    let fs = trees_of c.args.here.now.site.now.codes.now.items in
    let w = c.args.here.now.site.now.widget in
    let old = c.args.store.now in
    let mid = c.operand_on.new.store in
    let place = c.args.here.now.at in
    let p : State → Plan = λ s. Do (job_of fs w old.cells (job.Eval c.args.part.now.1 place)) s Ret in
    let had = c.args.run.now in
    let has = c.operand_on.new.run in
    let how = c.in_ok-how.how in
    let out = c.operand_on.new.out in
    let part = c.in_ok-how.ensures.comes in
    let kept = c.in_ok-how.ensures.kept in
    let n = c.args.at.2 in
    let all = properties_of (expr_at (forest_at fs place.code) c.args.at.1) in
    let rest = drop (n + 1) all in
    let f = form.Property c.args.at.0 c.args.at.1 n place in
    let fine : IsHeld w old.cells c.args.at.0 × IsExprAt fs w old.cells c.args.at.1 place = (c.requires.held.0, c.requires.held.1) in
    let todo : State → Plan = object_parts (seen w old.cells (value.Ref c.args.at.0)) (drop n all) (place_of w old.cells place) in
    let first : (s : State) → todo s ≡ and_then (p s) (taken fs w old.cells (frame.Form f)) = λ s. ap (λ l. object_parts (seen w old.cells (value.Ref c.args.at.0)) l (place_of w old.cells place) s) c.requires.there
    ∙ sym (ap (λ l. Do (job_of fs w old.cells (job.Eval c.args.part.now.1 place)) s (after (λ v t. property_done (seen w old.cells (value.Ref c.args.at.0)) l (place_of w old.cells place) v t))) c.requires.there) in
    let new = c.put_property.new.store in
    let grows = c.put_property.ensures.kept.grows in
    let same = seen_stays w mid.cells new.cells grows (value.Ref c.args.at.0) (held_stays w old.cells mid.cells kept.grows c.args.at.0 c.requires.held.0) in
    let stays = place_same fs w mid.cells new.cells grows place (place_fine fs w old.cells mid.cells kept.grows place c.requires.held.1.0) in
    let k : State → Plan = object_parts (seen w mid.cells (value.Ref c.args.at.0)) rest (place_of w mid.cells place) in
    let next : State → Plan = object_parts (seen w new.cells (value.Ref c.args.at.0)) rest (place_of w new.cells place) in
    IfOk-weaker c.put_property.result _ _
    (λ h x t. part_goes fs w old mid new p next todo (frame.Form f) had has c.put_property.new.run how out part c.in-Is.is kept.grows fine (x t).0
    (λ r. first (image fs r w old))
    (λ r. ap (λ l. property_done (seen w mid.cells (value.Ref c.args.at.0)) l (place_of w mid.cells place) (seen w mid.cells out) (image fs r w mid)) c.requires.there
    ∙ (x t).1 r k ∙ (λ i. object_parts (sym same i) rest (sym stays i) (image fs r w new))))
    c.put_property.ensures.done

pub objects::property_part_on-returns-in-Is-clause-comes : goal.objects::property_part_on-returns-in-Is-clause-comes
objects::property_part_on-returns-in-Is-clause-comes t c =
    let fs = trees_of c.args.here.now.site.now.codes.now.items in
    let w = c.args.here.now.site.now.widget in
    let old = c.args.store.now in
    let mid = c.operand_on.new.store in
    let place = c.args.here.now.at in
    let p : State → Plan = λ s. Do (job_of fs w old.cells (job.Eval c.args.part.now.1 place)) s Ret in
    let had = c.args.run.now in
    let has = c.operand_on.new.run in
    let how = c.in_ok-how.how in
    let out = c.operand_on.new.out in
    let part = c.in_ok-how.ensures.comes in
    let kept = c.in_ok-how.ensures.kept in
    let n = c.args.at.2 in
    let all = properties_of (expr_at (forest_at fs place.code) c.args.at.1) in
    let rest = drop (n + 1) all in
    let f = form.Property c.args.at.0 c.args.at.1 n place in
    let fine : IsHeld w old.cells c.args.at.0 × IsExprAt fs w old.cells c.args.at.1 place = (c.requires.held.0, c.requires.held.1) in
    let todo : State → Plan = object_parts (seen w old.cells (value.Ref c.args.at.0)) (drop n all) (place_of w old.cells place) in
    let first : (s : State) → todo s ≡ and_then (p s) (taken fs w old.cells (frame.Form f)) = λ s. ap (λ l. object_parts (seen w old.cells (value.Ref c.args.at.0)) l (place_of w old.cells place) s) c.requires.there
    ∙ sym (ap (λ l. Do (job_of fs w old.cells (job.Eval c.args.part.now.1 place)) s (after (λ v t. property_done (seen w old.cells (value.Ref c.args.at.0)) l (place_of w old.cells place) v t))) c.requires.there) in
    let new = c.put_property.new.store in
    let k : State → Plan = object_parts (seen w mid.cells (value.Ref c.args.at.0)) rest (place_of w mid.cells place) in
    IfOk-weaker c.put_property.result _ _
    (λ h x no. instead fs w old new 1 1 (λ s. and_then (p s) (taken fs w old.cells (frame.Form f))) todo had c.put_property.new.run h _
    (value_then fs w old mid new 0 1 1 p f had has c.put_property.new.run how h out _ part c.in-Is.is kept fine
    (instead fs w mid new 1 1 _ (λ s. property_done (seen w mid.cells (value.Ref c.args.at.0)) (drop n all) (place_of w mid.cells place) (seen w mid.cells out) s) has c.put_property.new.run h _ (x no k)
    (λ r. ap (λ l. property_done (seen w mid.cells (value.Ref c.args.at.0)) l (place_of w mid.cells place) (seen w mid.cells out) (image fs r w mid)) c.requires.there) (omega arith)) (omega arith))
    (λ r. first (image fs r w old)) (omega arith))
    c.put_property.ensures.comes

pub objects::property_part_on-returns-in-Is-clause-kept : goal.objects::property_part_on-returns-in-Is-clause-kept
objects::property_part_on-returns-in-Is-clause-kept t c =
    kept_then (trees_of c.args.here.now.site.now.codes.now.items) c.args.here.now.site.now.widget c.args.store.now c.operand_on.new.store c.put_property.new.store c.in_ok-how.ensures.kept c.put_property.ensures.kept

pub objects::property_part_on-returns-in-Left-clause-goes : goal.objects::property_part_on-returns-in-Left-clause-goes
objects::property_part_on-returns-in-Left-clause-goes t c = IfOk-weaker c.wait.result _ _ (λ h x t. absurd (left_no_value h x t)) c.wait.ensures.left

pub objects::property_part_on-returns-in-Left-clause-comes : goal.objects::property_part_on-returns-in-Left-clause-comes
objects::property_part_on-returns-in-Left-clause-comes t c =
    let fs = trees_of c.args.here.now.site.now.codes.now.items in
    let w = c.args.here.now.site.now.widget in
    let old = c.args.store.now in
    let mid = c.operand_on.new.store in
    let place = c.args.here.now.at in
    let p : State → Plan = λ s. Do (job_of fs w old.cells (job.Eval c.args.part.now.1 place)) s Ret in
    let had = c.args.run.now in
    let has = c.operand_on.new.run in
    let how = c.in_ok-how.how in
    let out = c.operand_on.new.out in
    let part = c.in_ok-how.ensures.comes in
    let kept = c.in_ok-how.ensures.kept in
    let n = c.args.at.2 in
    let all = properties_of (expr_at (forest_at fs place.code) c.args.at.1) in
    let rest = drop (n + 1) all in
    let f = form.Property c.args.at.0 c.args.at.1 n place in
    let fine : IsHeld w old.cells c.args.at.0 × IsExprAt fs w old.cells c.args.at.1 place = (c.requires.held.0, c.requires.held.1) in
    let todo : State → Plan = object_parts (seen w old.cells (value.Ref c.args.at.0)) (drop n all) (place_of w old.cells place) in
    let first : (s : State) → todo s ≡ and_then (p s) (taken fs w old.cells (frame.Form f)) = λ s. ap (λ l. object_parts (seen w old.cells (value.Ref c.args.at.0)) l (place_of w old.cells place) s) c.requires.there
    ∙ sym (ap (λ l. Do (job_of fs w old.cells (job.Eval c.args.part.now.1 place)) s (after (λ v t. property_done (seen w old.cells (value.Ref c.args.at.0)) l (place_of w old.cells place) v t))) c.requires.there) in
    IfOk-weaker c.wait.result _ _
    (λ h x no. instead fs w old mid 1 1 (λ s. and_then (p s) (taken fs w old.cells (frame.Form f))) todo had c.wait.new.run h _ x (λ r. first (image fs r w old)) (omega arith))
    (frame_waits fs w c.wait.result old mid 0 1 p (frame.Form f) had has c.wait.new.run how (ended_as how out) (λ (h : Ended). ended_as h out) part c.in-Left.is kept fine (omega arith)
    c.wait.ensures.left c.wait.ensures.waits c.wait.ensures.next c.wait.ensures.units)

pub objects::property_part_on-returns-in_default : goal.objects::property_part_on-returns-in_default
objects::property_part_on-returns-in_default t c =
    let fs = trees_of c.args.here.now.site.now.codes.now.items in
    let w = c.args.here.now.site.now.widget in
    let old = c.args.store.now in
    let mid = c.operand_on.new.store in
    let place = c.args.here.now.at in
    let p : State → Plan = λ s. Do (job_of fs w old.cells (job.Eval c.args.part.now.1 place)) s Ret in
    let had = c.args.run.now in
    let has = c.operand_on.new.run in
    let how = c.in_ok-how.how in
    let out = c.operand_on.new.out in
    let part = c.in_ok-how.ensures.comes in
    let kept = c.in_ok-how.ensures.kept in
    let n = c.args.at.2 in
    let all = properties_of (expr_at (forest_at fs place.code) c.args.at.1) in
    let rest = drop (n + 1) all in
    let f = form.Property c.args.at.0 c.args.at.1 n place in
    let fine : IsHeld w old.cells c.args.at.0 × IsExprAt fs w old.cells c.args.at.1 place = (c.requires.held.0, c.requires.held.1) in
    let todo : State → Plan = object_parts (seen w old.cells (value.Ref c.args.at.0)) (drop n all) (place_of w old.cells place) in
    let first : (s : State) → todo s ≡ and_then (p s) (taken fs w old.cells (frame.Form f)) = λ s. ap (λ l. object_parts (seen w old.cells (value.Ref c.args.at.0)) l (place_of w old.cells place) s) c.requires.there
    ∙ sym (ap (λ l. Do (job_of fs w old.cells (job.Eval c.args.part.now.1 place)) s (after (λ v t. property_done (seen w old.cells (value.Ref c.args.at.0)) l (place_of w old.cells place) v t))) c.requires.there) in
    record {
      goes = λ t. absurd (c.in_default.not-Is t);
      comes = λ no. instead fs w old mid 1 1 (λ s. and_then (p s) (taken fs w old.cells (frame.Form f))) todo had has how _
          (value_passes fs w old mid 0 1 p f had has how out part c.in_default.not-Is c.in_default.not-Left kept fine (omega arith))
          (λ r. first (image fs r w old)) (omega arith);
      kept = kept;
    }

pub operators::binary_on-computed-requires-clause-confined : goal.operators::binary_on-computed-requires-clause-confined
operators::binary_on-computed-requires-clause-confined t c = c.requires.ready.1

pub operators::binary_on-computed-requires-clause-held : goal.operators::binary_on-computed-requires-clause-held
operators::binary_on-computed-requires-clause-held t c = c.requires.held

pub operators::binary_on-computed-requires-clause-tree : goal.operators::binary_on-computed-requires-clause-tree
operators::binary_on-computed-requires-clause-tree t c = c.requires.tree

pub operators::binary_on-overflow_sub-run : goal.operators::binary_on-overflow_sub-run
operators::binary_on-overflow_sub-run t c = omega (arith, c.in-Some.ensures.units)

pub operators::binary_on-returns-in-Some-clause-comes : goal.operators::binary_on-returns-in-Some-clause-comes
operators::binary_on-returns-in-Some-clause-comes t c =
    let fs = trees_of c.args.here.now.site.now.codes.now.items in
    let w = c.args.here.now.site.now.widget in
    let s = c.args.store.now in
    let at = c.args.here.now.at in
    operated_comes fs w s 30 2 (omega arith) (λ x. Do (job_of fs w s.cells (job.Eval c.args.parts.0 at)) x (taken fs w s.cells (frame.Form (form.Right c.args.op c.args.parts.1 at))))
    c.args.run.now (record c.args.run.now { units = c.args.run.now.units - 2 }) c.set_value.new.out c.in-Some.value c.set_value.ensures (omega (arith, c.in-Some.ensures.units)) c.requires.ready.2 c.in-Some.ensures.paid c.in-Some.ensures.fine

pub operators::binary_with-right_on-requires : goal.operators::binary_with-right_on-requires
operators::binary_with-right_on-requires t c = (
  search rules,
  (
    (
        let fs = trees_of c.args.here.now.site.now.codes.now.items in
        let w = c.args.here.now.site.now.widget in
        let old = c.args.store.now in
        let mid = c.operand_on.new.store in
        let p : State → Plan = λ s. Do (job_of fs w old.cells (job.Eval c.args.parts.0 c.args.here.now.at)) s Ret in
        let had = c.args.run.now in
        let has = c.operand_on.new.run in
        let how = c.in_ok-how.how in
        let out = c.operand_on.new.out in
        let part = c.in_ok-how.ensures.comes in
        let kept = c.in_ok-how.ensures.kept in
        value_ready fs w old mid 0 p had has how (ended_as how out) part c.in-Is.is kept c.requires.ready
        ),
    (
      (
          let fs = trees_of c.args.here.now.site.now.codes.now.items in
          let w = c.args.here.now.site.now.widget in
          let old = c.args.store.now in
          let mid = c.operand_on.new.store in
          let p : State → Plan = λ s. Do (job_of fs w old.cells (job.Eval c.args.parts.0 c.args.here.now.at)) s Ret in
          let had = c.args.run.now in
          let has = c.operand_on.new.run in
          let how = c.in_ok-how.how in
          let out = c.operand_on.new.out in
          let part = c.in_ok-how.ensures.comes in
          let kept = c.in_ok-how.ensures.kept in
          ((place_fine fs w old.cells mid.cells kept.grows c.args.here.now.at c.requires.held.1.0, c.requires.held.1.1), value_fine fs w old mid 0 p had has how out part c.in-Is.is)
          ),
      c.requires.tree,
    ),
  ),
)

pub operators::binary_with-returns-in-Is-clause-comes : goal.operators::binary_with-returns-in-Is-clause-comes
operators::binary_with-returns-in-Is-clause-comes t c =
    let fs = trees_of c.args.here.now.site.now.codes.now.items in
    let w = c.args.here.now.site.now.widget in
    let old = c.args.store.now in
    let mid = c.operand_on.new.store in
    let p : State → Plan = λ s. Do (job_of fs w old.cells (job.Eval c.args.parts.0 c.args.here.now.at)) s Ret in
    let had = c.args.run.now in
    let has = c.operand_on.new.run in
    let how = c.in_ok-how.how in
    let out = c.operand_on.new.out in
    let part = c.in_ok-how.ensures.comes in
    let kept = c.in_ok-how.ensures.kept in
    (IfOk-weaker c.right_on.result _ _
    (λ h x. value_then fs w old mid c.right_on.new.store 0 8 30 p (form.Right c.args.op c.args.parts.1 c.args.here.now.at) had has c.right_on.new.run how h out _ part c.in-Is.is kept c.requires.held.1 x (omega arith))
    c.right_on.ensures.comes)

pub operators::binary_with-returns-in-Is-clause-kept : goal.operators::binary_with-returns-in-Is-clause-kept
operators::binary_with-returns-in-Is-clause-kept t c =
    kept_then (trees_of c.args.here.now.site.now.codes.now.items) c.args.here.now.site.now.widget c.args.store.now c.operand_on.new.store c.right_on.new.store c.in_ok-how.ensures.kept c.right_on.ensures.kept

pub operators::binary_with-returns-in_default-clause-comes : goal.operators::binary_with-returns-in_default-clause-comes
operators::binary_with-returns-in_default-clause-comes t c =
    let fs = trees_of c.args.here.now.site.now.codes.now.items in
    let w = c.args.here.now.site.now.widget in
    let old = c.args.store.now in
    let mid = c.operand_on.new.store in
    let p : State → Plan = λ s. Do (job_of fs w old.cells (job.Eval c.args.parts.0 c.args.here.now.at)) s Ret in
    let had = c.args.run.now in
    let has = c.operand_on.new.run in
    let how = c.in_ok-how.how in
    let out = c.operand_on.new.out in
    let part = c.in_ok-how.ensures.comes in
    let kept = c.in_ok-how.ensures.kept in
    placed_ok c.hand_right.result (λ h v. Comes fs w old mid 30 (λ s. and_then (p s) (form_taken fs w old.cells (form.Right c.args.op c.args.parts.1 c.args.here.now.at))) had c.hand_right.new.run h v) out c.hand_right.new.out c.hand_right.ensures.value
    (hand_form fs w c.hand_right.result old mid 0 30 p (form.Right c.args.op c.args.parts.1 c.args.here.now.at) had has c.hand_right.new.run how out part c.in_default.not-Is kept c.requires.held.1 (omega arith) c.hand_right.ensures.hands)

pub operators::right_on-operate_on-requires-clause-ready : goal.operators::right_on-operate_on-requires-clause-ready
operators::right_on-operate_on-requires-clause-ready t c =
    let fs = trees_of c.args.here.now.site.now.codes.now.items in
    let w = c.args.here.now.site.now.widget in
    let old = c.args.store.now in
    let mid = c.operand_on.new.store in
    let p : State → Plan = λ s. Do (job_of fs w old.cells (job.Eval c.args.e c.args.here.now.at)) s Ret in
    let had = c.args.run.now in
    let has = c.operand_on.new.run in
    let how = c.in_ok-how.how in
    let out = c.operand_on.new.out in
    let part = c.in_ok-how.ensures.comes in
    let kept = c.in_ok-how.ensures.kept in
    value_ready fs w old mid 0 p had has how (ended_as how out) part c.in-Is.is kept c.requires.ready

pub operators::right_on-operate_on-requires-clause-held : goal.operators::right_on-operate_on-requires-clause-held
operators::right_on-operate_on-requires-clause-held t c =
    let fs = trees_of c.args.here.now.site.now.codes.now.items in
    let w = c.args.here.now.site.now.widget in
    let old = c.args.store.now in
    let mid = c.operand_on.new.store in
    let p : State → Plan = λ s. Do (job_of fs w old.cells (job.Eval c.args.e c.args.here.now.at)) s Ret in
    let had = c.args.run.now in
    let has = c.operand_on.new.run in
    let how = c.in_ok-how.how in
    let out = c.operand_on.new.out in
    let part = c.in_ok-how.ensures.comes in
    let kept = c.in_ok-how.ensures.kept in
    (fine_stays w old.cells mid.cells kept.grows c.args.left.now c.requires.held.1, value_fine fs w old mid 0 p had has how out part c.in-Is.is)

pub operators::right_on-returns-in-Is-clause-comes : goal.operators::right_on-returns-in-Is-clause-comes
operators::right_on-returns-in-Is-clause-comes t c =
    let fs = trees_of c.args.here.now.site.now.codes.now.items in
    let w = c.args.here.now.site.now.widget in
    let old = c.args.store.now in
    let mid = c.operand_on.new.store in
    let p : State → Plan = λ s. Do (job_of fs w old.cells (job.Eval c.args.e c.args.here.now.at)) s Ret in
    let had = c.args.run.now in
    let has = c.operand_on.new.run in
    let how = c.in_ok-how.how in
    let out = c.operand_on.new.out in
    let part = c.in_ok-how.ensures.comes in
    let kept = c.in_ok-how.ensures.kept in
    let fine = c.requires.held.1 in
    (IfOk-weaker c.operate_on.result _ _
    (λ h x. value_then fs w old mid c.operate_on.new.store 0 8 8 p (form.Operate c.args.op c.args.left.now c.args.here.now.at.depth) had has c.operate_on.new.run how h out _ part c.in-Is.is kept fine x (omega arith))
    c.operate_on.ensures.comes)

pub operators::right_on-returns-in-Is-clause-kept : goal.operators::right_on-returns-in-Is-clause-kept
operators::right_on-returns-in-Is-clause-kept t c =
    kept_then (trees_of c.args.here.now.site.now.codes.now.items) c.args.here.now.site.now.widget c.args.store.now c.operand_on.new.store c.operate_on.new.store c.in_ok-how.ensures.kept c.operate_on.ensures.kept

pub operators::right_on-returns-in_default-clause-comes : goal.operators::right_on-returns-in_default-clause-comes
operators::right_on-returns-in_default-clause-comes t c =
    let fs = trees_of c.args.here.now.site.now.codes.now.items in
    let w = c.args.here.now.site.now.widget in
    let old = c.args.store.now in
    let mid = c.operand_on.new.store in
    let p : State → Plan = λ s. Do (job_of fs w old.cells (job.Eval c.args.e c.args.here.now.at)) s Ret in
    let had = c.args.run.now in
    let has = c.operand_on.new.run in
    let how = c.in_ok-how.how in
    let out = c.operand_on.new.out in
    let part = c.in_ok-how.ensures.comes in
    let kept = c.in_ok-how.ensures.kept in
    let fine = c.requires.held.1 in
    hand_form fs w c.hand_operate.result old mid 0 8 p (form.Operate c.args.op c.args.left.now c.args.here.now.at.depth) had has c.hand_operate.new.run how out part c.in_default.not-Is kept fine (omega arith) c.hand_operate.ensures

pub operators::and_on-and_right-requires : goal.operators::and_on-and_right-requires
operators::and_on-and_right-requires t c = (
  search rules,
  (
    (
        let fs = trees_of c.args.here.now.site.now.codes.now.items in
        let w = c.args.here.now.site.now.widget in
        let old = c.args.store.now in
        let mid = c.operand_on.new.store in
        let p : State → Plan = λ s. Do (job_of fs w old.cells (job.Eval c.args.parts.0 c.args.here.now.at)) s Ret in
        let had = c.args.run.now in
        let has = c.operand_on.new.run in
        let how = c.in_ok-how.how in
        let out = c.operand_on.new.out in
        let part = c.in_ok-how.ensures.comes in
        let kept = c.in_ok-how.ensures.kept in
        value_ready fs w old mid 0 p had has how (ended_as how out) part c.in-Is.is kept c.requires.ready
        ),
    (
      (
          let fs = trees_of c.args.here.now.site.now.codes.now.items in
          let w = c.args.here.now.site.now.widget in
          let old = c.args.store.now in
          let mid = c.operand_on.new.store in
          let p : State → Plan = λ s. Do (job_of fs w old.cells (job.Eval c.args.parts.0 c.args.here.now.at)) s Ret in
          let had = c.args.run.now in
          let has = c.operand_on.new.run in
          let how = c.in_ok-how.how in
          let out = c.operand_on.new.out in
          let part = c.in_ok-how.ensures.comes in
          let kept = c.in_ok-how.ensures.kept in
          ((place_fine fs w old.cells mid.cells kept.grows c.args.here.now.at c.requires.held.1.0, c.requires.held.1.1), value_fine fs w old mid 0 p had has how out part c.in-Is.is)
          ),
      c.requires.tree,
    ),
  ),
)

pub operators::and_on-returns-in-Is-clause-comes : goal.operators::and_on-returns-in-Is-clause-comes
operators::and_on-returns-in-Is-clause-comes t c =
    let fs = trees_of c.args.here.now.site.now.codes.now.items in
    let w = c.args.here.now.site.now.widget in
    let old = c.args.store.now in
    let mid = c.operand_on.new.store in
    let p : State → Plan = λ s. Do (job_of fs w old.cells (job.Eval c.args.parts.0 c.args.here.now.at)) s Ret in
    let had = c.args.run.now in
    let has = c.operand_on.new.run in
    let how = c.in_ok-how.how in
    let out = c.operand_on.new.out in
    let part = c.in_ok-how.ensures.comes in
    let kept = c.in_ok-how.ensures.kept in
    (IfOk-weaker c.and_right.result _ _
    (λ h x. value_then fs w old mid c.and_right.new.store 0 1 30 p (form.And c.args.parts.1 c.args.here.now.at) had has c.and_right.new.run how h out _ part c.in-Is.is kept c.requires.held.1 x (omega arith))
    c.and_right.ensures.comes)

pub operators::and_on-returns-in-Is-clause-kept : goal.operators::and_on-returns-in-Is-clause-kept
operators::and_on-returns-in-Is-clause-kept t c =
    kept_then (trees_of c.args.here.now.site.now.codes.now.items) c.args.here.now.site.now.widget c.args.store.now c.operand_on.new.store c.and_right.new.store c.in_ok-how.ensures.kept c.and_right.ensures.kept

pub operators::and_on-returns-in_default-clause-comes : goal.operators::and_on-returns-in_default-clause-comes
operators::and_on-returns-in_default-clause-comes t c =
    let fs = trees_of c.args.here.now.site.now.codes.now.items in
    let w = c.args.here.now.site.now.widget in
    let old = c.args.store.now in
    let mid = c.operand_on.new.store in
    let p : State → Plan = λ s. Do (job_of fs w old.cells (job.Eval c.args.parts.0 c.args.here.now.at)) s Ret in
    let had = c.args.run.now in
    let has = c.operand_on.new.run in
    let how = c.in_ok-how.how in
    let out = c.operand_on.new.out in
    let part = c.in_ok-how.ensures.comes in
    let kept = c.in_ok-how.ensures.kept in
    hand_form fs w c.hand_and.result old mid 0 30 p (form.And c.args.parts.1 c.args.here.now.at) had has c.hand_and.new.run how out part c.in_default.not-Is kept c.requires.held.1 (omega arith) c.hand_and.ensures

pub operators::or_on-or_right-requires : goal.operators::or_on-or_right-requires
operators::or_on-or_right-requires t c = (
  search rules,
  (
    (
        let fs = trees_of c.args.here.now.site.now.codes.now.items in
        let w = c.args.here.now.site.now.widget in
        let old = c.args.store.now in
        let mid = c.operand_on.new.store in
        let p : State → Plan = λ s. Do (job_of fs w old.cells (job.Eval c.args.parts.0 c.args.here.now.at)) s Ret in
        let had = c.args.run.now in
        let has = c.operand_on.new.run in
        let how = c.in_ok-how.how in
        let out = c.operand_on.new.out in
        let part = c.in_ok-how.ensures.comes in
        let kept = c.in_ok-how.ensures.kept in
        value_ready fs w old mid 0 p had has how (ended_as how out) part c.in-Is.is kept c.requires.ready
        ),
    (
      (
          let fs = trees_of c.args.here.now.site.now.codes.now.items in
          let w = c.args.here.now.site.now.widget in
          let old = c.args.store.now in
          let mid = c.operand_on.new.store in
          let p : State → Plan = λ s. Do (job_of fs w old.cells (job.Eval c.args.parts.0 c.args.here.now.at)) s Ret in
          let had = c.args.run.now in
          let has = c.operand_on.new.run in
          let how = c.in_ok-how.how in
          let out = c.operand_on.new.out in
          let part = c.in_ok-how.ensures.comes in
          let kept = c.in_ok-how.ensures.kept in
          ((place_fine fs w old.cells mid.cells kept.grows c.args.here.now.at c.requires.held.1.0, c.requires.held.1.1), value_fine fs w old mid 0 p had has how out part c.in-Is.is)
          ),
      c.requires.tree,
    ),
  ),
)

pub operators::or_on-returns-in-Is-clause-comes : goal.operators::or_on-returns-in-Is-clause-comes
operators::or_on-returns-in-Is-clause-comes t c =
    let fs = trees_of c.args.here.now.site.now.codes.now.items in
    let w = c.args.here.now.site.now.widget in
    let old = c.args.store.now in
    let mid = c.operand_on.new.store in
    let p : State → Plan = λ s. Do (job_of fs w old.cells (job.Eval c.args.parts.0 c.args.here.now.at)) s Ret in
    let had = c.args.run.now in
    let has = c.operand_on.new.run in
    let how = c.in_ok-how.how in
    let out = c.operand_on.new.out in
    let part = c.in_ok-how.ensures.comes in
    let kept = c.in_ok-how.ensures.kept in
    (IfOk-weaker c.or_right.result _ _
    (λ h x. value_then fs w old mid c.or_right.new.store 0 1 30 p (form.Or c.args.parts.1 c.args.here.now.at) had has c.or_right.new.run how h out _ part c.in-Is.is kept c.requires.held.1 x (omega arith))
    c.or_right.ensures.comes)

pub operators::or_on-returns-in-Is-clause-kept : goal.operators::or_on-returns-in-Is-clause-kept
operators::or_on-returns-in-Is-clause-kept t c =
    kept_then (trees_of c.args.here.now.site.now.codes.now.items) c.args.here.now.site.now.widget c.args.store.now c.operand_on.new.store c.or_right.new.store c.in_ok-how.ensures.kept c.or_right.ensures.kept

pub operators::or_on-returns-in_default-clause-comes : goal.operators::or_on-returns-in_default-clause-comes
operators::or_on-returns-in_default-clause-comes t c =
    let fs = trees_of c.args.here.now.site.now.codes.now.items in
    let w = c.args.here.now.site.now.widget in
    let old = c.args.store.now in
    let mid = c.operand_on.new.store in
    let p : State → Plan = λ s. Do (job_of fs w old.cells (job.Eval c.args.parts.0 c.args.here.now.at)) s Ret in
    let had = c.args.run.now in
    let has = c.operand_on.new.run in
    let how = c.in_ok-how.how in
    let out = c.operand_on.new.out in
    let part = c.in_ok-how.ensures.comes in
    let kept = c.in_ok-how.ensures.kept in
    hand_form fs w c.hand_or.result old mid 0 30 p (form.Or c.args.parts.1 c.args.here.now.at) had has c.hand_or.new.run how out part c.in_default.not-Is kept c.requires.held.1 (omega arith) c.hand_or.ensures

pub operators::choose_on-chosen_on-requires : goal.operators::choose_on-chosen_on-requires
operators::choose_on-chosen_on-requires t c = (
  search rules,
  (
    (
        let fs = trees_of c.args.here.now.site.now.codes.now.items in
        let w = c.args.here.now.site.now.widget in
        let old = c.args.store.now in
        let mid = c.condition_on.new.store in
        let p : State → Plan = λ s. Do (job_of fs w old.cells (job.Eval c.args.parts.0 c.args.here.now.at)) s Ret in
        let had = c.args.run.now in
        let has = c.condition_on.new.run in
        let how = c.in_ok-how.how in
        let out = c.condition_on.new.out in
        let part = c.in_ok-how.ensures.comes in
        let kept = c.in_ok-how.ensures.kept in
        value_ready fs w old mid 0 p had has how (ended_as how out) part c.in-Is.is kept c.requires.ready
        ),
    (
      (
          let fs = trees_of c.args.here.now.site.now.codes.now.items in
          let w = c.args.here.now.site.now.widget in
          let old = c.args.store.now in
          let mid = c.condition_on.new.store in
          let p : State → Plan = λ s. Do (job_of fs w old.cells (job.Eval c.args.parts.0 c.args.here.now.at)) s Ret in
          let had = c.args.run.now in
          let has = c.condition_on.new.run in
          let how = c.in_ok-how.how in
          let out = c.condition_on.new.out in
          let part = c.in_ok-how.ensures.comes in
          let kept = c.in_ok-how.ensures.kept in
          ((place_fine fs w old.cells mid.cells kept.grows c.args.here.now.at c.requires.held.1.0, c.requires.held.1.1), (place_fine fs w old.cells mid.cells kept.grows c.args.here.now.at c.requires.held.2.0, c.requires.held.2.1), value_fine fs w old mid 0 p had has how out part c.in-Is.is)
          ),
      c.requires.tree,
    ),
  ),
)

pub operators::choose_on-returns-in-Is-clause-comes : goal.operators::choose_on-returns-in-Is-clause-comes
operators::choose_on-returns-in-Is-clause-comes t c =
    let fs = trees_of c.args.here.now.site.now.codes.now.items in
    let w = c.args.here.now.site.now.widget in
    let old = c.args.store.now in
    let mid = c.condition_on.new.store in
    let p : State → Plan = λ s. Do (job_of fs w old.cells (job.Eval c.args.parts.0 c.args.here.now.at)) s Ret in
    let had = c.args.run.now in
    let has = c.condition_on.new.run in
    let how = c.in_ok-how.how in
    let out = c.condition_on.new.out in
    let part = c.in_ok-how.ensures.comes in
    let kept = c.in_ok-how.ensures.kept in
    (IfOk-weaker c.chosen_on.result _ _
    (λ h x. value_then fs w old mid c.chosen_on.new.store 0 1 30 p (form.Choose c.args.parts.1 c.args.parts.2 c.args.here.now.at) had has c.chosen_on.new.run how h out _ part c.in-Is.is kept (c.requires.held.1, c.requires.held.2) x (omega arith))
    c.chosen_on.ensures.comes)

pub operators::choose_on-returns-in-Is-clause-kept : goal.operators::choose_on-returns-in-Is-clause-kept
operators::choose_on-returns-in-Is-clause-kept t c =
    kept_then (trees_of c.args.here.now.site.now.codes.now.items) c.args.here.now.site.now.widget c.args.store.now c.condition_on.new.store c.chosen_on.new.store c.in_ok-how.ensures.kept c.chosen_on.ensures.kept

pub operators::choose_on-returns-in_default-clause-comes : goal.operators::choose_on-returns-in_default-clause-comes
operators::choose_on-returns-in_default-clause-comes t c =
    let fs = trees_of c.args.here.now.site.now.codes.now.items in
    let w = c.args.here.now.site.now.widget in
    let old = c.args.store.now in
    let mid = c.condition_on.new.store in
    let p : State → Plan = λ s. Do (job_of fs w old.cells (job.Eval c.args.parts.0 c.args.here.now.at)) s Ret in
    let had = c.args.run.now in
    let has = c.condition_on.new.run in
    let how = c.in_ok-how.how in
    let out = c.condition_on.new.out in
    let part = c.in_ok-how.ensures.comes in
    let kept = c.in_ok-how.ensures.kept in
    hand_form fs w c.hand_choose.result old mid 0 30 p (form.Choose c.args.parts.1 c.args.parts.2 c.args.here.now.at) had has c.hand_choose.new.run how out part c.in_default.not-Is kept (c.requires.held.1, c.requires.held.2) (omega arith) c.hand_choose.ensures

pub operators::unary_on-prefix_on-requires-clause-ready : goal.operators::unary_on-prefix_on-requires-clause-ready
operators::unary_on-prefix_on-requires-clause-ready t c =
    let fs = trees_of c.args.here.now.site.now.codes.now.items in
    let w = c.args.here.now.site.now.widget in
    let old = c.args.store.now in
    let mid = c.operand_on.new.store in
    let p : State → Plan = λ s. Do (job_of fs w old.cells (job.Eval c.args.e c.args.here.now.at)) s Ret in
    let had = c.args.run.now in
    let has = c.operand_on.new.run in
    let how = c.in_ok-how.how in
    let out = c.operand_on.new.out in
    let part = c.in_ok-how.ensures.comes in
    let kept = c.in_ok-how.ensures.kept in
    value_ready fs w old mid 0 p had has how (ended_as how out) part c.in-Is.is kept c.requires.ready

pub operators::unary_on-prefix_on-requires-clause-held : goal.operators::unary_on-prefix_on-requires-clause-held
operators::unary_on-prefix_on-requires-clause-held t c =
    let fs = trees_of c.args.here.now.site.now.codes.now.items in
    let w = c.args.here.now.site.now.widget in
    let old = c.args.store.now in
    let mid = c.operand_on.new.store in
    let p : State → Plan = λ s. Do (job_of fs w old.cells (job.Eval c.args.e c.args.here.now.at)) s Ret in
    let had = c.args.run.now in
    let has = c.operand_on.new.run in
    let how = c.in_ok-how.how in
    let out = c.operand_on.new.out in
    let part = c.in_ok-how.ensures.comes in
    let kept = c.in_ok-how.ensures.kept in
    (place_fine fs w old.cells mid.cells kept.grows c.args.here.now.at c.requires.held.0, value_fine fs w old mid 0 p had has how out part c.in-Is.is)

pub operators::unary_on-returns-in-Is-clause-comes : goal.operators::unary_on-returns-in-Is-clause-comes
operators::unary_on-returns-in-Is-clause-comes t c =
    let fs = trees_of c.args.here.now.site.now.codes.now.items in
    let w = c.args.here.now.site.now.widget in
    let old = c.args.store.now in
    let mid = c.operand_on.new.store in
    let p : State → Plan = λ s. Do (job_of fs w old.cells (job.Eval c.args.e c.args.here.now.at)) s Ret in
    let had = c.args.run.now in
    let has = c.operand_on.new.run in
    let how = c.in_ok-how.how in
    let out = c.operand_on.new.out in
    let part = c.in_ok-how.ensures.comes in
    let kept = c.in_ok-how.ensures.kept in
    (IfOk-weaker c.prefix_on.result _ _
    (λ h x. value_then fs w old mid c.prefix_on.new.store 0 4 30 p (form.Prefix c.args.op c.args.here.now.at) had has c.prefix_on.new.run how h out _ part c.in-Is.is kept c.requires.held.0 x (omega arith))
    c.prefix_on.ensures.comes)

pub operators::unary_on-returns-in-Is-clause-kept : goal.operators::unary_on-returns-in-Is-clause-kept
operators::unary_on-returns-in-Is-clause-kept t c =
    kept_then (trees_of c.args.here.now.site.now.codes.now.items) c.args.here.now.site.now.widget c.args.store.now c.operand_on.new.store c.prefix_on.new.store c.in_ok-how.ensures.kept c.prefix_on.ensures.kept

pub operators::unary_on-returns-in_default-clause-comes : goal.operators::unary_on-returns-in_default-clause-comes
operators::unary_on-returns-in_default-clause-comes t c =
    let fs = trees_of c.args.here.now.site.now.codes.now.items in
    let w = c.args.here.now.site.now.widget in
    let old = c.args.store.now in
    let mid = c.operand_on.new.store in
    let p : State → Plan = λ s. Do (job_of fs w old.cells (job.Eval c.args.e c.args.here.now.at)) s Ret in
    let had = c.args.run.now in
    let has = c.operand_on.new.run in
    let how = c.in_ok-how.how in
    let out = c.operand_on.new.out in
    let part = c.in_ok-how.ensures.comes in
    let kept = c.in_ok-how.ensures.kept in
    hand_form fs w c.hand_prefix.result old mid 0 30 p (form.Prefix c.args.op c.args.here.now.at) had has c.hand_prefix.new.run how out part c.in_default.not-Is kept c.requires.held.0 (omega arith) c.hand_prefix.ensures

pub properties::dot_on-read_on-requires-clause-ready : goal.properties::dot_on-read_on-requires-clause-ready
properties::dot_on-read_on-requires-clause-ready t c =
    let fs = trees_of c.args.here.now.site.now.codes.now.items in
    let w = c.args.here.now.site.now.widget in
    let old = c.args.store.now in
    let mid = c.operand_on.new.store in
    let p : State → Plan = λ s. Do (job_of fs w old.cells (job.Eval c.args.e c.args.here.now.at)) s Ret in
    let had = c.args.run.now in
    let has = c.operand_on.new.run in
    let how = c.in_ok-how.how in
    let out = c.operand_on.new.out in
    let part = c.in_ok-how.ensures.comes in
    let kept = c.in_ok-how.ensures.kept in
    value_ready fs w old mid 0 p had has how (ended_as how out) part c.in-Is.is kept c.requires.ready

pub properties::dot_on-read_on-requires-clause-held : goal.properties::dot_on-read_on-requires-clause-held
properties::dot_on-read_on-requires-clause-held t c =
    let fs = trees_of c.args.here.now.site.now.codes.now.items in
    let w = c.args.here.now.site.now.widget in
    let old = c.args.store.now in
    let mid = c.operand_on.new.store in
    let p : State → Plan = λ s. Do (job_of fs w old.cells (job.Eval c.args.e c.args.here.now.at)) s Ret in
    let had = c.args.run.now in
    let has = c.operand_on.new.run in
    let how = c.in_ok-how.how in
    let out = c.operand_on.new.out in
    let part = c.in_ok-how.ensures.comes in
    let kept = c.in_ok-how.ensures.kept in
    value_fine fs w old mid 0 p had has how out part c.in-Is.is

pub properties::dot_on-returns-in-Is-clause-comes : goal.properties::dot_on-returns-in-Is-clause-comes
properties::dot_on-returns-in-Is-clause-comes t c =
    let fs = trees_of c.args.here.now.site.now.codes.now.items in
    let w = c.args.here.now.site.now.widget in
    let old = c.args.store.now in
    let mid = c.operand_on.new.store in
    let p : State → Plan = λ s. Do (job_of fs w old.cells (job.Eval c.args.e c.args.here.now.at)) s Ret in
    let had = c.args.run.now in
    let has = c.operand_on.new.run in
    let how = c.in_ok-how.how in
    let out = c.operand_on.new.out in
    let part = c.in_ok-how.ensures.comes in
    let kept = c.in_ok-how.ensures.kept in
    (IfOk-weaker c.read_on.result _ _
    (λ h x. value_then fs w old mid c.read_on.new.store 0 1 30 p (form.Dot c.args.name.now) had has c.read_on.new.run how h out _ part c.in-Is.is kept tt x (omega arith))
    c.read_on.ensures.comes)

pub properties::dot_on-returns-in-Is-clause-kept : goal.properties::dot_on-returns-in-Is-clause-kept
properties::dot_on-returns-in-Is-clause-kept t c =
    kept_then (trees_of c.args.here.now.site.now.codes.now.items) c.args.here.now.site.now.widget c.args.store.now c.operand_on.new.store c.read_on.new.store c.in_ok-how.ensures.kept c.read_on.ensures.kept

pub properties::dot_on-returns-in_default-clause-comes : goal.properties::dot_on-returns-in_default-clause-comes
properties::dot_on-returns-in_default-clause-comes t c =
    let fs = trees_of c.args.here.now.site.now.codes.now.items in
    let w = c.args.here.now.site.now.widget in
    let old = c.args.store.now in
    let mid = c.operand_on.new.store in
    let p : State → Plan = λ s. Do (job_of fs w old.cells (job.Eval c.args.e c.args.here.now.at)) s Ret in
    let had = c.args.run.now in
    let has = c.operand_on.new.run in
    let how = c.in_ok-how.how in
    let out = c.operand_on.new.out in
    let part = c.in_ok-how.ensures.comes in
    let kept = c.in_ok-how.ensures.kept in
    hand_form fs w c.hand_dot.result old mid 0 30 p (form.Dot c.args.name.now) had has c.hand_dot.new.run how out part c.in_default.not-Is kept tt (omega arith) c.hand_dot.ensures

pub properties::subscript_on-named_on-requires-clause-ready : goal.properties::subscript_on-named_on-requires-clause-ready
properties::subscript_on-named_on-requires-clause-ready t c =
    let fs = trees_of c.args.here.now.site.now.codes.now.items in
    let w = c.args.here.now.site.now.widget in
    let old = c.args.store.now in
    let mid = c.operand_on.new.store in
    let p : State → Plan = λ s. Do (job_of fs w old.cells (job.Eval c.args.index c.args.here.now.at)) s Ret in
    let had = c.args.run.now in
    let has = c.operand_on.new.run in
    let how = c.in_ok-how.how in
    let out = c.operand_on.new.out in
    let part = c.in_ok-how.ensures.comes in
    let kept = c.in_ok-how.ensures.kept in
    value_ready fs w old mid 0 p had has how (ended_as how out) part c.in-Is.is kept c.requires.ready

pub properties::subscript_on-named_on-requires-clause-held : goal.properties::subscript_on-named_on-requires-clause-held
properties::subscript_on-named_on-requires-clause-held t c =
    let fs = trees_of c.args.here.now.site.now.codes.now.items in
    let w = c.args.here.now.site.now.widget in
    let old = c.args.store.now in
    let mid = c.operand_on.new.store in
    let p : State → Plan = λ s. Do (job_of fs w old.cells (job.Eval c.args.index c.args.here.now.at)) s Ret in
    let had = c.args.run.now in
    let has = c.operand_on.new.run in
    let how = c.in_ok-how.how in
    let out = c.operand_on.new.out in
    let part = c.in_ok-how.ensures.comes in
    let kept = c.in_ok-how.ensures.kept in
    (fine_stays w old.cells mid.cells kept.grows c.args.base.now c.requires.held.1, value_fine fs w old mid 0 p had has how out part c.in-Is.is)

pub properties::subscript_on-returns-in-Is-clause-comes : goal.properties::subscript_on-returns-in-Is-clause-comes
properties::subscript_on-returns-in-Is-clause-comes t c =
    let fs = trees_of c.args.here.now.site.now.codes.now.items in
    let w = c.args.here.now.site.now.widget in
    let old = c.args.store.now in
    let mid = c.operand_on.new.store in
    let p : State → Plan = λ s. Do (job_of fs w old.cells (job.Eval c.args.index c.args.here.now.at)) s Ret in
    let had = c.args.run.now in
    let has = c.operand_on.new.run in
    let how = c.in_ok-how.how in
    let out = c.operand_on.new.out in
    let part = c.in_ok-how.ensures.comes in
    let kept = c.in_ok-how.ensures.kept in
    let fine = c.requires.held.1 in
    (IfOk-weaker c.named_on.result _ _
    (λ h x. value_then fs w old mid c.named_on.new.store 0 1 1 p (form.Sub c.args.base.now) had has c.named_on.new.run how h out _ part c.in-Is.is kept fine x (omega arith))
    c.named_on.ensures.comes)

pub properties::subscript_on-returns-in-Is-clause-kept : goal.properties::subscript_on-returns-in-Is-clause-kept
properties::subscript_on-returns-in-Is-clause-kept t c =
    kept_then (trees_of c.args.here.now.site.now.codes.now.items) c.args.here.now.site.now.widget c.args.store.now c.operand_on.new.store c.named_on.new.store c.in_ok-how.ensures.kept c.named_on.ensures.kept

pub properties::subscript_on-returns-in_default-clause-comes : goal.properties::subscript_on-returns-in_default-clause-comes
properties::subscript_on-returns-in_default-clause-comes t c =
    let fs = trees_of c.args.here.now.site.now.codes.now.items in
    let w = c.args.here.now.site.now.widget in
    let old = c.args.store.now in
    let mid = c.operand_on.new.store in
    let p : State → Plan = λ s. Do (job_of fs w old.cells (job.Eval c.args.index c.args.here.now.at)) s Ret in
    let had = c.args.run.now in
    let has = c.operand_on.new.run in
    let how = c.in_ok-how.how in
    let out = c.operand_on.new.out in
    let part = c.in_ok-how.ensures.comes in
    let kept = c.in_ok-how.ensures.kept in
    let fine = c.requires.held.1 in
    hand_form fs w c.hand_sub.result old mid 0 1 p (form.Sub c.args.base.now) had has c.hand_sub.new.run how out part c.in_default.not-Is kept fine (omega arith) c.hand_sub.ensures

pub statements::exec_on-returns-clause-comes : goal.statements::exec_on-returns-clause-comes
statements::exec_on-returns-clause-comes t c =
    let fs = trees_of c.args.here.now.site.now.codes.now.items in
    let w = c.args.here.now.site.now.widget in
    let old = c.args.store.now in
    let new = c.begun_on.new.store in
    let j = job_of fs w old.cells (job.Exec c.args.id c.args.here.now.at) in
    IfOk-weaker c.begun_on.result _ _
    (λ how h. unit_first fs w old new 30 0 j (body j) Ret c.args.run.now _ c.begun_on.new.run how _ (omega (arith, c.if-run-eq0.false)) (λ x. and_then_ret (body j x)) h (omega arith))
    c.begun_on.ensures.comes

pub statements::ending_on-returns-in-Is-clause-comes : goal.statements::ending_on-returns-in-Is-clause-comes
statements::ending_on-returns-in-Is-clause-comes t c =
    let fs = trees_of c.args.here.now.site.now.codes.now.items in
    let w = c.args.here.now.site.now.widget in
    let old = c.args.store.now in
    let mid = c.operand_on.new.store in
    let p : State → Plan = λ s. Do (job_of fs w old.cells (job.Eval c.args.e c.args.here.now.at)) s Ret in
    let had = c.args.run.now in
    let has = c.operand_on.new.run in
    let how = c.in_ok-how.how in
    let out = c.operand_on.new.out in
    let part = c.in_ok-how.ensures.comes in
    let kept = c.in_ok-how.ensures.kept in
    let f = frame.Statement (frame_after c.args.after) in
    let one = as_is fs w old mid 0 p had has how ended.Is out c.in-Is.is part in
    part_gives fs w old mid 0 30 _ p f had has has ended.Is c.ended_after.result (ended_as ended.Is out) (ended_as c.ended_after.result c.ended_after.new.out) (λ s. refl) one tt kept.grows (after_fine fs w old.cells c.args.after) c.ended_after.ensures.how refl
    (λ r. c.ended_after.ensures.plan fs w mid.cells (image fs r w mid)) (c.ended_after.ensures.fine w mid.cells (end_fine fs w old mid 0 p had has ended.Is (ended_as ended.Is out) one tt)) (omega arith)

pub statements::ending_on-returns-in_default-clause-comes : goal.statements::ending_on-returns-in_default-clause-comes
statements::ending_on-returns-in_default-clause-comes t c =
    let fs = trees_of c.args.here.now.site.now.codes.now.items in
    let w = c.args.here.now.site.now.widget in
    let old = c.args.store.now in
    let mid = c.operand_on.new.store in
    let p : State → Plan = λ s. Do (job_of fs w old.cells (job.Eval c.args.e c.args.here.now.at)) s Ret in
    let had = c.args.run.now in
    let has = c.operand_on.new.run in
    let how = c.in_ok-how.how in
    let out = c.operand_on.new.out in
    let part = c.in_ok-how.ensures.comes in
    let kept = c.in_ok-how.ensures.kept in
    let f = frame.Statement (frame_after c.args.after) in
    hand_ok fs w c.hand_ending.result old mid 0 30 p f had has c.hand_ending.new.run how out part (passes_value fs w mid.cells f how out (λ v t. taken fs w mid.cells f (meaning.Is v) t) c.in_default.not-Is (after_taken fs w mid.cells c.args.after)) kept (after_fine fs w old.cells c.args.after) (omega (arith, after_free c.args.after)) c.hand_ending.ensures

pub statements::if_on-branch_on-requires : goal.statements::if_on-branch_on-requires
statements::if_on-branch_on-requires t c = (
  search rules,
  (
    (
        let fs = trees_of c.args.here.now.site.now.codes.now.items in
        let w = c.args.here.now.site.now.widget in
        let old = c.args.store.now in
        let mid = c.condition_on.new.store in
        let p : State → Plan = λ s. Do (job_of fs w old.cells (job.Eval c.args.e c.args.here.now.at)) s Ret in
        let had = c.args.run.now in
        let has = c.condition_on.new.run in
        let how = c.in_ok-how.how in
        let out = c.condition_on.new.out in
        let part = c.in_ok-how.ensures.comes in
        let kept = c.in_ok-how.ensures.kept in
        let one = as_is fs w old mid 0 p had has how ended.Is out c.in-Is.is part in
        end_ready fs w old mid 0 p had has ended.Is (ended_as ended.Is out) one tt c.requires.ready kept
        ),
    (
      (
          let fs = trees_of c.args.here.now.site.now.codes.now.items in
          let w = c.args.here.now.site.now.widget in
          let old = c.args.store.now in
          let mid = c.condition_on.new.store in
          let p : State → Plan = λ s. Do (job_of fs w old.cells (job.Eval c.args.e c.args.here.now.at)) s Ret in
          let had = c.args.run.now in
          let has = c.condition_on.new.run in
          let how = c.in_ok-how.how in
          let out = c.condition_on.new.out in
          let part = c.in_ok-how.ensures.comes in
          let kept = c.in_ok-how.ensures.kept in
          (place_fine fs w old.cells mid.cells kept.grows c.args.here.now.at c.requires.held.0.0, c.requires.held.0.1)
          ),
      c.requires.tree,
    ),
  ),
)

pub statements::if_on-returns-in-Is-clause-comes : goal.statements::if_on-returns-in-Is-clause-comes
statements::if_on-returns-in-Is-clause-comes t c =
    let fs = trees_of c.args.here.now.site.now.codes.now.items in
    let w = c.args.here.now.site.now.widget in
    let old = c.args.store.now in
    let mid = c.condition_on.new.store in
    let p : State → Plan = λ s. Do (job_of fs w old.cells (job.Eval c.args.e c.args.here.now.at)) s Ret in
    let had = c.args.run.now in
    let has = c.condition_on.new.run in
    let how = c.in_ok-how.how in
    let out = c.condition_on.new.out in
    let part = c.in_ok-how.ensures.comes in
    let kept = c.in_ok-how.ensures.kept in
    let one = as_is fs w old mid 0 p had has how ended.Is out c.in-Is.is part in
    IfOk-weaker c.branch_on.result _ _
    (λ h x. part_then fs w old mid c.branch_on.new.store 0 1 30 p (frame.Statement (statement.Branch c.args.id c.args.here.now.at)) had has c.branch_on.new.run ended.Is h (ended_as ended.Is out) (ended_as h c.branch_on.new.out) one tt kept.grows c.requires.held.0 x (omega arith))
    c.branch_on.ensures.comes

pub statements::if_on-returns-in-Is-clause-kept : goal.statements::if_on-returns-in-Is-clause-kept
statements::if_on-returns-in-Is-clause-kept t c =
    let fs = trees_of c.args.here.now.site.now.codes.now.items in
    let w = c.args.here.now.site.now.widget in
    let old = c.args.store.now in
    let mid = c.condition_on.new.store in
    let p : State → Plan = λ s. Do (job_of fs w old.cells (job.Eval c.args.e c.args.here.now.at)) s Ret in
    let had = c.args.run.now in
    let has = c.condition_on.new.run in
    let how = c.in_ok-how.how in
    let out = c.condition_on.new.out in
    let part = c.in_ok-how.ensures.comes in
    let kept = c.in_ok-how.ensures.kept in
    kept_then fs w old mid c.branch_on.new.store kept c.branch_on.ensures.kept

pub statements::if_on-returns-in_default-clause-comes : goal.statements::if_on-returns-in_default-clause-comes
statements::if_on-returns-in_default-clause-comes t c =
    let fs = trees_of c.args.here.now.site.now.codes.now.items in
    let w = c.args.here.now.site.now.widget in
    let old = c.args.store.now in
    let mid = c.condition_on.new.store in
    let p : State → Plan = λ s. Do (job_of fs w old.cells (job.Eval c.args.e c.args.here.now.at)) s Ret in
    let had = c.args.run.now in
    let has = c.condition_on.new.run in
    let how = c.in_ok-how.how in
    let out = c.condition_on.new.out in
    let part = c.in_ok-how.ensures.comes in
    let kept = c.in_ok-how.ensures.kept in
    let i = stmt_at (forest_at fs c.args.here.now.at.code) c.args.id in
    hand_ok fs w c.hand_branch.result old mid 0 30 p (frame.Statement (statement.Branch c.args.id c.args.here.now.at)) had has c.hand_branch.new.run how out part (passes_value fs w mid.cells (frame.Statement (statement.Branch c.args.id c.args.here.now.at)) how out (λ v t. branch (then_of i) (else_of i) (place_of w mid.cells c.args.here.now.at) (meaning.Is v) t) c.in_default.not-Is (λ o t. refl)) kept c.requires.held.0 (omega arith) c.hand_branch.ensures

pub statements::declared_on-returns-in-Normal-clause-comes : goal.statements::declared_on-returns-in-Normal-clause-comes
statements::declared_on-returns-in-Normal-clause-comes t c =
    let fs = trees_of c.args.here.now.site.now.codes.now.items in
    let w = c.args.here.now.site.now.widget in
    let old = c.args.store.now in
    let mid = c.declarations_on.new.store in
    let had = c.args.run.now in
    let has = c.declarations_on.new.run in
    let how = c.in_ok-how.how in
    let out = c.declarations_on.new.out in
    let given = c.in_ok-how.ensures.comes in
    let kept = c.in_ok-how.ensures.kept in
    let i = stmt_at (forest_at fs c.args.here.now.at.code) c.args.id in
    let p : State → Plan = statements_2.declarations (decls_of i) (place_of w old.cells c.args.here.now.at) in
    let f = frame.Statement (statement.ForAgain c.args.id c.args.here.now.at) in
    let one = as_is fs w old mid 1 p had has how ended.Normal out c.in-Normal.is given in
    let done = part_done fs w old mid 1 p (taken fs w mid.cells f meaning.Normal) f had has ended.Normal (ended_as ended.Normal out) one tt kept.grows c.requires.held (end_ready fs w old mid 1 p had has ended.Normal (ended_as ended.Normal out) one tt c.requires.ready kept) (λ r. refl) in
    IfOk-weaker c.again_on.result _ _ (λ h x. towards_then fs w old mid c.again_on.new.store 1 30 _ _ had has c.again_on.new.run h _ done x (omega arith)) c.again_on.ensures.comes

pub statements::declared_on-returns-in-Normal-clause-kept : goal.statements::declared_on-returns-in-Normal-clause-kept
statements::declared_on-returns-in-Normal-clause-kept t c =
    let fs = trees_of c.args.here.now.site.now.codes.now.items in
    let w = c.args.here.now.site.now.widget in
    let old = c.args.store.now in
    let mid = c.declarations_on.new.store in
    let had = c.args.run.now in
    let has = c.declarations_on.new.run in
    let how = c.in_ok-how.how in
    let out = c.declarations_on.new.out in
    let given = c.in_ok-how.ensures.comes in
    let kept = c.in_ok-how.ensures.kept in
    let i = stmt_at (forest_at fs c.args.here.now.at.code) c.args.id in
    let p : State → Plan = statements_2.declarations (decls_of i) (place_of w old.cells c.args.here.now.at) in
    let f = frame.Statement (statement.ForAgain c.args.id c.args.here.now.at) in
    kept_then fs w old mid c.again_on.new.store kept c.again_on.ensures.kept

pub statements::declared_on-returns-in-Left-clause-comes : goal.statements::declared_on-returns-in-Left-clause-comes
statements::declared_on-returns-in-Left-clause-comes t c =
    let fs = trees_of c.args.here.now.site.now.codes.now.items in
    let w = c.args.here.now.site.now.widget in
    let old = c.args.store.now in
    let mid = c.declarations_on.new.store in
    let had = c.args.run.now in
    let has = c.declarations_on.new.run in
    let how = c.in_ok-how.how in
    let out = c.declarations_on.new.out in
    let given = c.in_ok-how.ensures.comes in
    let kept = c.in_ok-how.ensures.kept in
    let i = stmt_at (forest_at fs c.args.here.now.at.code) c.args.id in
    let p : State → Plan = statements_2.declarations (decls_of i) (place_of w old.cells c.args.here.now.at) in
    let f = frame.Statement (statement.ForAgain c.args.id c.args.here.now.at) in
    let one = as_is fs w old mid 1 p had has how ended.Left out c.in-Left.is given in
    waits_ok fs w c.wait_again.result old mid 1 30 p f had has c.wait_again.new.run ended.Left (ended_as ended.Left out) out one refl kept.grows c.requires.held
    c.wait_again.ensures.left c.wait_again.ensures.waits c.wait_again.ensures.next c.wait_again.ensures.units (omega arith)

pub statements::declared_on-returns-in_default : goal.statements::declared_on-returns-in_default
statements::declared_on-returns-in_default t c =
    let fs = trees_of c.args.here.now.site.now.codes.now.items in
    let w = c.args.here.now.site.now.widget in
    let old = c.args.store.now in
    let mid = c.declarations_on.new.store in
    let had = c.args.run.now in
    let has = c.declarations_on.new.run in
    let how = c.in_ok-how.how in
    let out = c.declarations_on.new.out in
    let given = c.in_ok-how.ensures.comes in
    let kept = c.in_ok-how.ensures.kept in
    let i = stmt_at (forest_at fs c.args.here.now.at.code) c.args.id in
    let p : State → Plan = statements_2.declarations (decls_of i) (place_of w old.cells c.args.here.now.at) in
    let f = frame.Statement (statement.ForAgain c.args.id c.args.here.now.at) in
    record {
      comes = other_normal fs w old mid 1 30 p f (λ t. loop_again (loop_of i) (place_of w mid.cells c.args.here.now.at) meaning.Normal t) had has how out given c.in_default.not-Normal c.in_default.not-Left kept.grows c.requires.held (again_normal (loop_of i) (place_of w mid.cells c.args.here.now.at)) (omega arith);
      kept = kept;
    }

pub statements::listed_on-returns-in-Normal-clause-comes : goal.statements::listed_on-returns-in-Normal-clause-comes
statements::listed_on-returns-in-Normal-clause-comes t c =
    let fs = trees_of c.args.here.now.site.now.codes.now.items in
    let w = c.args.here.now.site.now.widget in
    let old = c.args.store.now in
    let mid = c.expressions_on.new.store in
    let had = c.args.run.now in
    let has = c.expressions_on.new.run in
    let how = c.in_ok-how.how in
    let out = c.expressions_on.new.out in
    let given = c.in_ok-how.ensures.comes in
    let kept = c.in_ok-how.ensures.kept in
    let i = stmt_at (forest_at fs c.args.here.now.at.code) c.args.id in
    let p : State → Plan = statements_2.expressions (part_of part.First i) (place_of w old.cells c.args.here.now.at) in
    let f = frame.Statement (statement.ForAgain c.args.id c.args.here.now.at) in
    let one = as_is fs w old mid 1 p had has how ended.Normal out c.in-Normal.is given in
    let done = part_done fs w old mid 1 p (taken fs w mid.cells f meaning.Normal) f had has ended.Normal (ended_as ended.Normal out) one tt kept.grows c.requires.held (end_ready fs w old mid 1 p had has ended.Normal (ended_as ended.Normal out) one tt c.requires.ready kept) (λ r. refl) in
    IfOk-weaker c.again_on.result _ _ (λ h x. towards_then fs w old mid c.again_on.new.store 1 30 _ _ had has c.again_on.new.run h _ done x (omega arith)) c.again_on.ensures.comes

pub statements::listed_on-returns-in-Normal-clause-kept : goal.statements::listed_on-returns-in-Normal-clause-kept
statements::listed_on-returns-in-Normal-clause-kept t c =
    let fs = trees_of c.args.here.now.site.now.codes.now.items in
    let w = c.args.here.now.site.now.widget in
    let old = c.args.store.now in
    let mid = c.expressions_on.new.store in
    let had = c.args.run.now in
    let has = c.expressions_on.new.run in
    let how = c.in_ok-how.how in
    let out = c.expressions_on.new.out in
    let given = c.in_ok-how.ensures.comes in
    let kept = c.in_ok-how.ensures.kept in
    let i = stmt_at (forest_at fs c.args.here.now.at.code) c.args.id in
    let p : State → Plan = statements_2.expressions (part_of part.First i) (place_of w old.cells c.args.here.now.at) in
    let f = frame.Statement (statement.ForAgain c.args.id c.args.here.now.at) in
    kept_then fs w old mid c.again_on.new.store kept c.again_on.ensures.kept

pub statements::listed_on-returns-in-Left-clause-comes : goal.statements::listed_on-returns-in-Left-clause-comes
statements::listed_on-returns-in-Left-clause-comes t c =
    let fs = trees_of c.args.here.now.site.now.codes.now.items in
    let w = c.args.here.now.site.now.widget in
    let old = c.args.store.now in
    let mid = c.expressions_on.new.store in
    let had = c.args.run.now in
    let has = c.expressions_on.new.run in
    let how = c.in_ok-how.how in
    let out = c.expressions_on.new.out in
    let given = c.in_ok-how.ensures.comes in
    let kept = c.in_ok-how.ensures.kept in
    let i = stmt_at (forest_at fs c.args.here.now.at.code) c.args.id in
    let p : State → Plan = statements_2.expressions (part_of part.First i) (place_of w old.cells c.args.here.now.at) in
    let f = frame.Statement (statement.ForAgain c.args.id c.args.here.now.at) in
    let one = as_is fs w old mid 1 p had has how ended.Left out c.in-Left.is given in
    waits_ok fs w c.wait_again.result old mid 1 30 p f had has c.wait_again.new.run ended.Left (ended_as ended.Left out) out one refl kept.grows c.requires.held
    c.wait_again.ensures.left c.wait_again.ensures.waits c.wait_again.ensures.next c.wait_again.ensures.units (omega arith)

pub statements::listed_on-returns-in_default : goal.statements::listed_on-returns-in_default
statements::listed_on-returns-in_default t c =
    let fs = trees_of c.args.here.now.site.now.codes.now.items in
    let w = c.args.here.now.site.now.widget in
    let old = c.args.store.now in
    let mid = c.expressions_on.new.store in
    let had = c.args.run.now in
    let has = c.expressions_on.new.run in
    let how = c.in_ok-how.how in
    let out = c.expressions_on.new.out in
    let given = c.in_ok-how.ensures.comes in
    let kept = c.in_ok-how.ensures.kept in
    let i = stmt_at (forest_at fs c.args.here.now.at.code) c.args.id in
    let p : State → Plan = statements_2.expressions (part_of part.First i) (place_of w old.cells c.args.here.now.at) in
    let f = frame.Statement (statement.ForAgain c.args.id c.args.here.now.at) in
    record {
      comes = other_normal fs w old mid 1 30 p f (λ t. loop_again (loop_of i) (place_of w mid.cells c.args.here.now.at) meaning.Normal t) had has how out given c.in_default.not-Normal c.in_default.not-Left kept.grows c.requires.held (again_normal (loop_of i) (place_of w mid.cells c.args.here.now.at)) (omega arith);
      kept = kept;
    }

pub statements::declarations_on-returns-in_err-how-clause-kept : goal.statements::declarations_on-returns-in_err-how-clause-kept
statements::declarations_on-returns-in_err-how-clause-kept t c =
    let fs = trees_of c.args.here.now.site.now.codes.now.items in
    let w = c.args.here.now.site.now.widget in
    kept_then fs w c.args.store.now c.list.store c.eval_on.new.store c.list.invariant.1 c.in_err-how.ensures.kept

pub statements::declarations_on-declare-requires-clause-confined : goal.statements::declarations_on-declare-requires-clause-confined
statements::declarations_on-declare-requires-clause-confined t c =
    let fs = trees_of c.args.here.now.site.now.codes.now.items in
    let w = c.args.here.now.site.now.widget in
    let s0 = c.args.store.now in
    let s1 = c.list.store in
    let s2 = c.eval_on.new.store in
    let ds = decls_of (stmt_at (forest_at fs c.args.here.now.at.code) c.args.id) in
    let at = c.in-Some.valued.at in
    let p : State → Plan = λ s. Do (job_of fs w s1.cells (job.Eval c.in-Some.valued.init c.args.here.now.at)) s Ret in
    let q : State → Plan = statements_2.declarations (drop c.list.n ds) (place_of w s1.cells c.args.here.now.at) in
    let start : State → Plan = statements_2.declarations ds (place_of w s0.cells c.args.here.now.at) in
    let f = frame.Statement (statement.Declared c.args.id at c.args.here.now.at) in
    let inv = c.list.invariant in
    let kept = c.in_ok-how.ensures.kept in
    let how = c.in_ok-how.how in
    let out = c.eval_on.new.out in
    let plan : (s : State) → q s ≡ and_then (p s) (taken fs w s1.cells f) =
    subst (λ (g : Forest). (x : plan.Place) (s : State) → statements_2.declarations (drop c.list.n (decls_of (stmt_at g c.args.id))) x s ≡ Do (Eval (expr_at g c.in-Some.valued.init) x) s (after (λ u t. declared (drop at (decls_of (stmt_at g c.args.id))) x u t))) c.requires.tree c.in-Some.ensures.2 (place_of w s1.cells c.args.here.now.at) in
    kept.confined inv.0.ready.1

pub statements::declarations_on-declare-requires-clause-held : goal.statements::declarations_on-declare-requires-clause-held
statements::declarations_on-declare-requires-clause-held t c =
    let fs = trees_of c.args.here.now.site.now.codes.now.items in
    let w = c.args.here.now.site.now.widget in
    let s0 = c.args.store.now in
    let s1 = c.list.store in
    let s2 = c.eval_on.new.store in
    let ds = decls_of (stmt_at (forest_at fs c.args.here.now.at.code) c.args.id) in
    let at = c.in-Some.valued.at in
    let p : State → Plan = λ s. Do (job_of fs w s1.cells (job.Eval c.in-Some.valued.init c.args.here.now.at)) s Ret in
    let q : State → Plan = statements_2.declarations (drop c.list.n ds) (place_of w s1.cells c.args.here.now.at) in
    let start : State → Plan = statements_2.declarations ds (place_of w s0.cells c.args.here.now.at) in
    let f = frame.Statement (statement.Declared c.args.id at c.args.here.now.at) in
    let inv = c.list.invariant in
    let kept = c.in_ok-how.ensures.kept in
    let how = c.in_ok-how.how in
    let out = c.eval_on.new.out in
    let plan : (s : State) → q s ≡ and_then (p s) (taken fs w s1.cells f) =
    subst (λ (g : Forest). (x : plan.Place) (s : State) → statements_2.declarations (drop c.list.n (decls_of (stmt_at g c.args.id))) x s ≡ Do (Eval (expr_at g c.in-Some.valued.init) x) s (after (λ u t. declared (drop at (decls_of (stmt_at g c.args.id))) x u t))) c.requires.tree c.in-Some.ensures.2 (place_of w s1.cells c.args.here.now.at) in
    let one = as_is fs w s1 s2 0 p c.list.run c.eval_on.new.run how ended.Is out c.in-Is.is c.in_ok-how.ensures.comes in
    ((place_fine fs w s1.cells s2.cells kept.grows c.args.here.now.at inv.2.0, inv.2.1), subst (λ v. IsFine w s2.cells v) (sym c.take_value.ensures.taken) (end_fine fs w s1 s2 0 p c.list.run c.eval_on.new.run ended.Is (ended_as ended.Is out) one tt))

pub statements::declarations_on-list-preserved : goal.statements::declarations_on-list-preserved
statements::declarations_on-list-preserved t c =
    let fs = trees_of c.args.here.now.site.now.codes.now.items in
    let w = c.args.here.now.site.now.widget in
    let s0 = c.args.store.now in
    let s1 = c.list.store in
    let s2 = c.eval_on.new.store in
    let ds = decls_of (stmt_at (forest_at fs c.args.here.now.at.code) c.args.id) in
    let at = c.in-Some.valued.at in
    let p : State → Plan = λ s. Do (job_of fs w s1.cells (job.Eval c.in-Some.valued.init c.args.here.now.at)) s Ret in
    let q : State → Plan = statements_2.declarations (drop c.list.n ds) (place_of w s1.cells c.args.here.now.at) in
    let start : State → Plan = statements_2.declarations ds (place_of w s0.cells c.args.here.now.at) in
    let f = frame.Statement (statement.Declared c.args.id at c.args.here.now.at) in
    let inv = c.list.invariant in
    let kept = c.in_ok-how.ensures.kept in
    let how = c.in_ok-how.how in
    let out = c.eval_on.new.out in
    let plan : (s : State) → q s ≡ and_then (p s) (taken fs w s1.cells f) =
    subst (λ (g : Forest). (x : plan.Place) (s : State) → statements_2.declarations (drop c.list.n (decls_of (stmt_at g c.args.id))) x s ≡ Do (Eval (expr_at g c.in-Some.valued.init) x) s (after (λ u t. declared (drop at (decls_of (stmt_at g c.args.id))) x u t))) c.requires.tree c.in-Some.ensures.2 (place_of w s1.cells c.args.here.now.at) in
    let one = as_is fs w s1 s2 0 p c.list.run c.eval_on.new.run how ended.Is out c.in-Is.is c.in_ok-how.ensures.comes in
    let s3 = c.declare.new.store in
    let ready = end_ready fs w s1 s2 0 p c.list.run c.eval_on.new.run ended.Is (ended_as ended.Is out) one tt inv.0.ready kept in
    let last = c.declare.ensures.kept in
    let done : State → Plan = λ s. declared (drop at ds) (place_of w s2.cells c.args.here.now.at) (seen w s2.cells out) s in
    let goes : State → Plan = statements_2.declarations (drop (at + 1) ds) (place_of w s3.cells c.args.here.now.at) in (
      towards_each fs w s0 s2 s3 start done goes c.args.run.now c.eval_on.new.run c.eval_on.new.run
          (towards_each fs w s0 s1 s2 start q done c.args.run.now c.list.run c.eval_on.new.run inv.0
          (part_next fs w s1 s2 0 q p done f c.list.run c.eval_on.new.run ended.Is (ended_as ended.Is out) plan one tt kept.grows inv.2 ready (λ r. refl)))
          (stays fs w s2 s3 done goes c.eval_on.new.run c.eval_on.new.run (ready.0, last.confined ready.1, ready.2) refl
          (λ r. sym (ap (λ v. declared (drop at ds) (place_of w s2.cells c.args.here.now.at) (seen w s2.cells v) (image fs r w s2)) c.take_value.ensures.taken) ∙ c.declare.ensures.plan r)),
      kept_then fs w s0 s2 s3 (kept_then fs w s0 s1 s2 inv.1 kept) last,
      (place_fine fs w s2.cells s3.cells last.grows c.args.here.now.at (place_fine fs w s1.cells s2.cells kept.grows c.args.here.now.at inv.2.0), inv.2.1),
    )

pub statements::declarations_on-returns-in-Left-clause-comes : goal.statements::declarations_on-returns-in-Left-clause-comes
statements::declarations_on-returns-in-Left-clause-comes t c =
    let fs = trees_of c.args.here.now.site.now.codes.now.items in
    let w = c.args.here.now.site.now.widget in
    let s0 = c.args.store.now in
    let s1 = c.list.store in
    let s2 = c.eval_on.new.store in
    let ds = decls_of (stmt_at (forest_at fs c.args.here.now.at.code) c.args.id) in
    let at = c.in-Some.valued.at in
    let p : State → Plan = λ s. Do (job_of fs w s1.cells (job.Eval c.in-Some.valued.init c.args.here.now.at)) s Ret in
    let q : State → Plan = statements_2.declarations (drop c.list.n ds) (place_of w s1.cells c.args.here.now.at) in
    let start : State → Plan = statements_2.declarations ds (place_of w s0.cells c.args.here.now.at) in
    let f = frame.Statement (statement.Declared c.args.id at c.args.here.now.at) in
    let inv = c.list.invariant in
    let kept = c.in_ok-how.ensures.kept in
    let how = c.in_ok-how.how in
    let out = c.eval_on.new.out in
    let plan : (s : State) → q s ≡ and_then (p s) (taken fs w s1.cells f) =
    subst (λ (g : Forest). (x : plan.Place) (s : State) → statements_2.declarations (drop c.list.n (decls_of (stmt_at g c.args.id))) x s ≡ Do (Eval (expr_at g c.in-Some.valued.init) x) s (after (λ u t. declared (drop at (decls_of (stmt_at g c.args.id))) x u t))) c.requires.tree c.in-Some.ensures.2 (place_of w s1.cells c.args.here.now.at) in
    let one = as_is fs w s1 s2 0 p c.list.run c.eval_on.new.run how ended.Left out c.in-Left.is c.in_ok-how.ensures.comes in
    waits_then fs w c.wait_declared.result s0 s1 s2 0 1 1 start q p f c.args.run.now c.list.run c.eval_on.new.run c.wait_declared.new.run ended.Left (ended_as ended.Left out) _ inv.0 plan one refl kept.grows inv.2
    c.wait_declared.ensures.left c.wait_declared.ensures.waits c.wait_declared.ensures.next c.wait_declared.ensures.units (omega arith) (omega arith)

pub statements::declarations_on-returns-in-Left-clause-kept : goal.statements::declarations_on-returns-in-Left-clause-kept
statements::declarations_on-returns-in-Left-clause-kept t c =
    let fs = trees_of c.args.here.now.site.now.codes.now.items in
    let w = c.args.here.now.site.now.widget in
    let s0 = c.args.store.now in
    let s1 = c.list.store in
    let s2 = c.eval_on.new.store in
    let ds = decls_of (stmt_at (forest_at fs c.args.here.now.at.code) c.args.id) in
    let at = c.in-Some.valued.at in
    let p : State → Plan = λ s. Do (job_of fs w s1.cells (job.Eval c.in-Some.valued.init c.args.here.now.at)) s Ret in
    let q : State → Plan = statements_2.declarations (drop c.list.n ds) (place_of w s1.cells c.args.here.now.at) in
    let start : State → Plan = statements_2.declarations ds (place_of w s0.cells c.args.here.now.at) in
    let f = frame.Statement (statement.Declared c.args.id at c.args.here.now.at) in
    let inv = c.list.invariant in
    let kept = c.in_ok-how.ensures.kept in
    let how = c.in_ok-how.how in
    let out = c.eval_on.new.out in
    let plan : (s : State) → q s ≡ and_then (p s) (taken fs w s1.cells f) =
    subst (λ (g : Forest). (x : plan.Place) (s : State) → statements_2.declarations (drop c.list.n (decls_of (stmt_at g c.args.id))) x s ≡ Do (Eval (expr_at g c.in-Some.valued.init) x) s (after (λ u t. declared (drop at (decls_of (stmt_at g c.args.id))) x u t))) c.requires.tree c.in-Some.ensures.2 (place_of w s1.cells c.args.here.now.at) in
    kept_then fs w s0 s1 s2 inv.1 kept

pub statements::declarations_on-returns-in_default-2 : goal.statements::declarations_on-returns-in_default-2
statements::declarations_on-returns-in_default-2 t c =
    let fs = trees_of c.args.here.now.site.now.codes.now.items in
    let w = c.args.here.now.site.now.widget in
    let s0 = c.args.store.now in
    let s1 = c.list.store in
    let s2 = c.eval_on.new.store in
    let ds = decls_of (stmt_at (forest_at fs c.args.here.now.at.code) c.args.id) in
    let at = c.in-Some.valued.at in
    let p : State → Plan = λ s. Do (job_of fs w s1.cells (job.Eval c.in-Some.valued.init c.args.here.now.at)) s Ret in
    let q : State → Plan = statements_2.declarations (drop c.list.n ds) (place_of w s1.cells c.args.here.now.at) in
    let start : State → Plan = statements_2.declarations ds (place_of w s0.cells c.args.here.now.at) in
    let f = frame.Statement (statement.Declared c.args.id at c.args.here.now.at) in
    let inv = c.list.invariant in
    let kept = c.in_ok-how.ensures.kept in
    let how = c.in_ok-how.how in
    let out = c.eval_on.new.out in
    let plan : (s : State) → q s ≡ and_then (p s) (taken fs w s1.cells f) =
    subst (λ (g : Forest). (x : plan.Place) (s : State) → statements_2.declarations (drop c.list.n (decls_of (stmt_at g c.args.id))) x s ≡ Do (Eval (expr_at g c.in-Some.valued.init) x) s (after (λ u t. declared (drop at (decls_of (stmt_at g c.args.id))) x u t))) c.requires.tree c.in-Some.ensures.2 (place_of w s1.cells c.args.here.now.at) in
    record {
      comes = towards_then fs w s0 s1 s2 1 1 start q c.args.run.now c.list.run c.eval_on.new.run how (ended_as how out) inv.0
          (planned fs w s1 s2 1 q _ c.list.run c.eval_on.new.run how (ended_as how out) plan (other_value fs w s1 s2 0 1 p f (λ v t. declared (drop at ds) (place_of w s2.cells c.args.here.now.at) v t) c.list.run c.eval_on.new.run how out c.in_ok-how.ensures.comes c.in_default-2.not-Is c.in_default-2.not-Left kept.grows inv.2 (λ o t. refl) (omega arith))) (omega arith);
      kept = kept_then fs w s0 s1 s2 inv.1 kept;
    }

pub statements::statement_on-returns-then-declares-clause-comes : goal.statements::statement_on-returns-then-declares-clause-comes
statements::statement_on-returns-then-declares-clause-comes t c =
    let fs = trees_of c.args.here.now.site.now.codes.now.items in
    let w = c.args.here.now.site.now.widget in
    let old = c.args.store.now in
    let at = c.args.here.now.at in
    let f = forest_at fs at.code in
    let pl = place_of w old.cells at in
    let i = stmt_at f c.args.id in
    let kind : IsForWith IsDecls i = subst (λ (u : Stmt). IsForWith IsDecls u) c.requires.node
    (subst (λ (n : StmtNode). IsForWith IsDecls (plain_stmt f n (stmt_place i) (stmt_names i))) (sym c.in-For.is) (c.declares.ensures.yes c.if-declares.true f)) in
    let todo : State → Plan = λ s. and_then (statements_2.declarations (decls_of i) pl s) (taken fs w old.cells (frame.Statement (statement.ForAgain c.args.id at))) in
    IfOk-weaker c.declared_on.result _ _
    (λ h x. instead fs w old c.declared_on.new.store 30 30 todo (statements_2.statement (plain_stmt_form f c.args.node.now) pl) c.args.run.now c.declared_on.new.run h _ x
    (λ r. ap (λ (u : Stmt). body (plan.Exec u pl) (image fs r w old)) c.requires.node ∙ for_declared i pl (image fs r w old) kind) (omega arith))
    c.declared_on.ensures.comes

pub statements::statement_on-returns-else-declares-clause-comes : goal.statements::statement_on-returns-else-declares-clause-comes
statements::statement_on-returns-else-declares-clause-comes t c =
    let fs = trees_of c.args.here.now.site.now.codes.now.items in
    let w = c.args.here.now.site.now.widget in
    let old = c.args.store.now in
    let at = c.args.here.now.at in
    let f = forest_at fs at.code in
    let pl = place_of w old.cells at in
    let i = stmt_at f c.args.id in
    let kind : IsForWith IsExprs i = subst (λ (u : Stmt). IsForWith IsExprs u) c.requires.node
    (subst (λ (n : StmtNode). IsForWith IsExprs (plain_stmt f n (stmt_place i) (stmt_names i))) (sym c.in-For.is) (c.declares.ensures.no c.if-declares.false f)) in
    let todo : State → Plan = λ s. and_then (statements_2.expressions (part_of part.First i) pl s) (taken fs w old.cells (frame.Statement (statement.ForAgain c.args.id at))) in
    IfOk-weaker c.listed_on.result _ _
    (λ h x. instead fs w old c.listed_on.new.store 30 30 todo (statements_2.statement (plain_stmt_form f c.args.node.now) pl) c.args.run.now c.listed_on.new.run h _ x
    (λ r. ap (λ (u : Stmt). body (plan.Exec u pl) (image fs r w old)) c.requires.node ∙ for_listed i pl (image fs r w old) kind) (omega arith))
    c.listed_on.ensures.comes

pub stepping::step_on-returns-in-Name-clause-comes : goal.stepping::step_on-returns-in-Name-clause-comes
stepping::step_on-returns-in-Name-clause-comes t c =
    let fs = trees_of c.args.here.now.site.now.codes.now.items in
    let w = c.args.here.now.site.now.widget in
    let s = c.args.store.now in
    let code = c.args.here.now.at.code in
    let f = trees c.args.here.now.tree.now in
    let node = c.expr.result.now in
    let here = c.requires.tree in
    let pl = place_of w s.cells c.args.here.now.at in
    let j = job_of fs w s.cells (job.Target c.args.to c.args.here.now.at) in
    let k = form_taken fs w s.cells (form.StepTarget c.args.op c.args.here.now.at) in
    let p = k (meaning.Refers (meaning.Variable c.in-Name.name)) in
    IfOk-weaker c.step_name.result _ _
    (λ how h. unit_first fs w s c.step_name.new.store 4 30 j p k c.args.run.now (record c.args.run.now { units = c.args.run.now.units - 1 }) c.step_name.new.run how (ended_as how c.step_name.new.out) (less_one c.args.run.now.units c.if-run-eq0.false)
    (λ x. ap (λ q. and_then q k) (at_target fs code f c.args.to node here c.expr.ensures.same pl x ∙ ap (λ (e : Expr). target (plain_form (forest_at fs code) e) pl x) c.in-Name.is)) h (omega arith))
    c.step_name.ensures.comes

pub stepping::step_reached-step_target-requires-clause-ready : goal.stepping::step_reached-step_target-requires-clause-ready
stepping::step_reached-step_target-requires-clause-ready t c =
    let fs = trees_of c.args.here.now.site.now.codes.now.items in
    let w = c.args.here.now.site.now.widget in
    let s = c.args.store.now in
    value_ready fs w s c.target_on.new.store 0 (λ t. Do (job_of fs w s.cells (job.Target c.args.to c.args.here.now.at)) t Ret) c.args.run.now c.target_on.new.run c.in_ok-other.other _ c.in_ok-other.ensures.comes c.in-Is.is c.target_on.ensures.kept c.requires.ready

pub stepping::step_reached-step_target-requires-clause-held : goal.stepping::step_reached-step_target-requires-clause-held
stepping::step_reached-step_target-requires-clause-held t c =
    let fs = trees_of c.args.here.now.site.now.codes.now.items in
    let w = c.args.here.now.site.now.widget in
    let s = c.args.store.now in (
      target_fine fs w s c.target_on.new.store 0 (λ t. Do (job_of fs w s.cells (job.Target c.args.to c.args.here.now.at)) t Ret) c.args.run.now c.target_on.new.run c.in_ok-other.other c.target_on.new.of c.target_on.new.out c.in_ok-other.ensures.comes c.in-Is.is,
      place_fine fs w s.cells c.target_on.new.store.cells c.target_on.ensures.kept.grows c.args.here.now.at c.requires.held.0,
    )

pub stepping::step_reached-returns-in-Is-clause-comes : goal.stepping::step_reached-returns-in-Is-clause-comes
stepping::step_reached-returns-in-Is-clause-comes t c =
    let fs = trees_of c.args.here.now.site.now.codes.now.items in
    let w = c.args.here.now.site.now.widget in
    let s = c.args.store.now in
    IfOk-weaker c.step_target.result _ _
    (λ how h. target_then fs w s c.target_on.new.store c.step_target.new.store 0 4 30 (λ t. Do (job_of fs w s.cells (job.Target c.args.to c.args.here.now.at)) t Ret) (form.StepTarget c.args.op c.args.here.now.at) c.args.run.now c.target_on.new.run c.step_target.new.run c.in_ok-other.other how c.target_on.new.of c.target_on.new.out (ended_as how c.step_target.new.out)
    c.in_ok-other.ensures.comes c.in-Is.is c.target_on.ensures.kept c.requires.held.0 h (omega arith))
    c.step_target.ensures.comes

pub stepping::step_reached-returns-in-Is-clause-kept : goal.stepping::step_reached-returns-in-Is-clause-kept
stepping::step_reached-returns-in-Is-clause-kept t c =
    let fs = trees_of c.args.here.now.site.now.codes.now.items in
    let w = c.args.here.now.site.now.widget in
    let s = c.args.store.now in
    kept_then fs w s c.target_on.new.store c.step_target.new.store c.target_on.ensures.kept c.step_target.ensures.kept

pub stepping::step_reached-returns-in_default-clause-comes : goal.stepping::step_reached-returns-in_default-clause-comes
stepping::step_reached-returns-in_default-clause-comes t c =
    let fs = trees_of c.args.here.now.site.now.codes.now.items in
    let w = c.args.here.now.site.now.widget in
    let s = c.args.store.now in
    hand_form fs w c.hand_step.result s c.target_on.new.store 0 30 (λ t. Do (job_of fs w s.cells (job.Target c.args.to c.args.here.now.at)) t Ret) (form.StepTarget c.args.op c.args.here.now.at) c.args.run.now c.target_on.new.run c.hand_step.new.run c.in_ok-other.other c.target_on.new.out
    (target_ends fs w s c.target_on.new.store 0 (λ t. Do (job_of fs w s.cells (job.Target c.args.to c.args.here.now.at)) t Ret) c.args.run.now c.target_on.new.run c.in_ok-other.other c.target_on.new.of c.target_on.new.out c.in_ok-other.ensures.comes c.in_default.not-Is) c.in_default.not-Is c.target_on.ensures.kept c.requires.held.0 (omega arith) c.hand_step.ensures

pub targets::target_on-returns-then-run-eq0-clause-comes : goal.targets::target_on-returns-then-run-eq0-clause-comes
targets::target_on-returns-then-run-eq0-clause-comes t c =
    let fs = trees_of c.args.here.now.site.now.codes.now.items in
    let w = c.args.here.now.site.now.widget in
    let s = c.args.store.now in
    let p = λ (t : State). Do (job_of fs w s.cells (job.Target c.args.id c.args.here.now.at)) t Ret in
    IfOk-weaker c.leave_job.result _ _
    (λ how h. ends_target fs w s s 0 p c.args.run.now c.leave_job.new.run how c.args.of.now c.args.out.now (h.0 fs w s c.args.out.now c.requires.held) (not_value how h.1))
    (both_ok c.leave_job.result _ _ c.leave_job.ensures.comes c.leave_job.ensures.left)

pub targets::target_on-returns-clause-comes : goal.targets::target_on-returns-clause-comes
targets::target_on-returns-clause-comes t c =
    let fs = trees_of c.args.here.now.site.now.codes.now.items in
    let w = c.args.here.now.site.now.widget in
    let s = c.args.store.now in
    let j = job_of fs w s.cells (job.Target c.args.id c.args.here.now.at) in
    IfOk-weaker c.target_of.result _ _
    (λ how h. unit_first fs w s c.target_of.new.store 31 0 j (body j) Ret c.args.run.now (record c.args.run.now { units = c.args.run.now.units - 1 }) c.target_of.new.run how (target_as how c.target_of.new.of c.target_of.new.out) (less_one c.args.run.now.units c.if-run-eq0.false) (λ x. and_then_ret (body j x)) h (omega arith))
    c.target_of.ensures.comes

pub targets::target_on-returns-clause-paid : goal.targets::target_on-returns-clause-paid
targets::target_on-returns-clause-paid t c =
    let fs = trees_of c.args.here.now.site.now.codes.now.items in
    let w = c.args.here.now.site.now.widget in
    let s = c.args.store.now in
    IfOk-weaker c.target_of.result _ _ (λ how h some deep. omega (arith, h.units, some)) c.target_of.ensures.comes

pub targets::target_of-dot_target-requires : goal.targets::target_of-dot_target-requires
targets::target_of-dot_target-requires t c = (
  search rules,
  (
    search rules,
    (
      (
          let fs = trees_of c.args.here.now.site.now.codes.now.items in
          let w = c.args.here.now.site.now.widget in
          let s = c.args.store.now in
          let code = c.args.here.now.at.code in
          let f = trees c.args.here.now.tree.now in
          let node = c.expr.result.now in
          let here = c.requires.tree in
          let pl = place_of w s.cells c.args.here.now.at in
          (c.requires.held.0, parts_at fs code f node (expr.Dot c.in-Dot.e c.in-Dot.name) here c.in-Dot.is c.expr.ensures.parts)
          ),
      c.requires.tree,
    ),
  ),
)

pub targets::target_of-sub_target-requires : goal.targets::target_of-sub_target-requires
targets::target_of-sub_target-requires t c = (
  search rules,
  (
    search rules,
    (
      (
          let fs = trees_of c.args.here.now.site.now.codes.now.items in
          let w = c.args.here.now.site.now.widget in
          let s = c.args.store.now in
          let code = c.args.here.now.at.code in
          let f = trees c.args.here.now.tree.now in
          let node = c.expr.result.now in
          let here = c.requires.tree in
          let pl = place_of w s.cells c.args.here.now.at in
          let parts = parts_at fs code f node (expr.Sub c.in-Sub.e c.in-Sub.index) here c.in-Sub.is c.expr.ensures.parts in
          ((c.requires.held.0, parts.0), (c.requires.held.0, parts.1))
          ),
      c.requires.tree,
    ),
  ),
)

pub targets::target_of-returns-in-Name-clause-comes : goal.targets::target_of-returns-in-Name-clause-comes
targets::target_of-returns-in-Name-clause-comes t c =
    let fs = trees_of c.args.here.now.site.now.codes.now.items in
    let w = c.args.here.now.site.now.widget in
    let s = c.args.store.now in
    let code = c.args.here.now.at.code in
    let f = trees c.args.here.now.tree.now in
    let node = c.expr.result.now in
    let here = c.requires.tree in
    let pl = place_of w s.cells c.args.here.now.at in
    IfOk-weaker c.name_target.result _ _
    (λ how h. reaches_at fs w s 31 (body (job_of fs w s.cells (job.Target c.args.id c.args.here.now.at))) c.args.run.now how (reference.Variable c.in-Name.name) c.name_target.new.of c.args.out.now h.0 h.1 c.requires.ready.2
    (λ r. at_target fs code f c.args.id node here c.expr.ensures.same pl (image fs r w s) ∙ ap (λ (e : Expr). target (plain_form (forest_at fs code) e) pl (image fs r w s)) c.in-Name.is) tt (omega arith))
    (both_ok c.name_target.result _ _ c.name_target.ensures.is c.name_target.ensures.place)

pub targets::target_of-returns-in-Dot-clause-comes : goal.targets::target_of-returns-in-Dot-clause-comes
targets::target_of-returns-in-Dot-clause-comes t c =
    let fs = trees_of c.args.here.now.site.now.codes.now.items in
    let w = c.args.here.now.site.now.widget in
    let s = c.args.store.now in
    let code = c.args.here.now.at.code in
    let f = trees c.args.here.now.tree.now in
    let node = c.expr.result.now in
    let here = c.requires.tree in
    let pl = place_of w s.cells c.args.here.now.at in
    IfOk-weaker c.dot_target.result _ _
    (λ how h. instead fs w s c.dot_target.new.store 31 31 (λ t. Do (job_of fs w s.cells (job.Eval c.in-Dot.e c.args.here.now.at)) t (form_taken fs w s.cells (form.TargetDot c.in-Dot.name))) (body (job_of fs w s.cells (job.Target c.args.id c.args.here.now.at))) c.args.run.now c.dot_target.new.run how (target_as how c.dot_target.new.of c.dot_target.new.out) h
    (λ r. at_target fs code f c.args.id node here c.expr.ensures.same pl (image fs r w s) ∙ ap (λ (e : Expr). target (plain_form (forest_at fs code) e) pl (image fs r w s)) c.in-Dot.is) (omega arith))
    c.dot_target.ensures.comes

pub targets::target_of-returns-in-Sub-clause-comes : goal.targets::target_of-returns-in-Sub-clause-comes
targets::target_of-returns-in-Sub-clause-comes t c =
    let fs = trees_of c.args.here.now.site.now.codes.now.items in
    let w = c.args.here.now.site.now.widget in
    let s = c.args.store.now in
    let code = c.args.here.now.at.code in
    let f = trees c.args.here.now.tree.now in
    let node = c.expr.result.now in
    let here = c.requires.tree in
    let pl = place_of w s.cells c.args.here.now.at in
    IfOk-weaker c.sub_target.result _ _
    (λ how h. instead fs w s c.sub_target.new.store 31 31 (λ t. Do (job_of fs w s.cells (job.Eval c.in-Sub.e c.args.here.now.at)) t (form_taken fs w s.cells (form.TargetSubBase c.in-Sub.index c.args.here.now.at))) (body (job_of fs w s.cells (job.Target c.args.id c.args.here.now.at))) c.args.run.now c.sub_target.new.run how (target_as how c.sub_target.new.of c.sub_target.new.out) h
    (λ r. at_target fs code f c.args.id node here c.expr.ensures.same pl (image fs r w s) ∙ ap (λ (e : Expr). target (plain_form (forest_at fs code) e) pl (image fs r w s)) c.in-Sub.is) (omega arith))
    c.sub_target.ensures.comes

pub targets::target_of-returns-in_default : goal.targets::target_of-returns-in_default
targets::target_of-returns-in_default t c =
    let fs = trees_of c.args.here.now.site.now.codes.now.items in
    let w = c.args.here.now.site.now.widget in
    let s = c.args.store.now in
    let code = c.args.here.now.at.code in
    let f = trees c.args.here.now.tree.now in
    let node = c.expr.result.now in
    let here = c.requires.tree in
    let pl = place_of w s.cells c.args.here.now.at in
    let k = form_taken fs w s.cells form.Found in
    record {
      comes = IfOk-weaker c.found_target.result _ _
          (λ how h. instead fs w s c.found_target.new.store 31 31 (λ t. and_then (body (job_of fs w s.cells (job.Eval c.args.id c.args.here.now.at)) t) k) (body (job_of fs w s.cells (job.Target c.args.id c.args.here.now.at))) c.args.run.now c.found_target.new.run how (target_as how c.found_target.new.of c.found_target.new.out) h
          (λ r. at_target fs code f c.args.id node here c.expr.ensures.same pl (image fs r w s)
          ∙ (found_form (forest_at fs code) node pl (image fs r w s) c.in_default.not-Name c.in_default.not-Dot c.in_default.not-Sub
          ∙ ap (λ q. and_then q k) (sym (at_eval fs code f c.args.id node here c.expr.ensures.same pl (image fs r w s))))) (omega arith))
          c.found_target.ensures.comes;
      kept = c.found_target.ensures.kept;
    }

pub targets::dot_target-refer_on-requires-clause-ready : goal.targets::dot_target-refer_on-requires-clause-ready
targets::dot_target-refer_on-requires-clause-ready t c =
    let fs = trees_of c.args.here.now.site.now.codes.now.items in
    let w = c.args.here.now.site.now.widget in
    let s = c.args.store.now in
    value_ready fs w s c.operand_on.new.store 0 (λ t. Do (job_of fs w s.cells (job.Eval c.args.e c.args.here.now.at)) t Ret) c.args.run.now c.operand_on.new.run c.in_ok-other.other _ c.in_ok-other.ensures.comes c.in-Is.is c.operand_on.ensures.kept c.requires.ready

pub targets::dot_target-refer_on-requires-clause-held : goal.targets::dot_target-refer_on-requires-clause-held
targets::dot_target-refer_on-requires-clause-held t c =
    let fs = trees_of c.args.here.now.site.now.codes.now.items in
    let w = c.args.here.now.site.now.widget in
    let s = c.args.store.now in
    value_fine fs w s c.operand_on.new.store 0 (λ t. Do (job_of fs w s.cells (job.Eval c.args.e c.args.here.now.at)) t Ret) c.args.run.now c.operand_on.new.run c.in_ok-other.other c.operand_on.new.out c.in_ok-other.ensures.comes c.in-Is.is

pub targets::dot_target-returns-in_ok-share-in-Is-clause-comes : goal.targets::dot_target-returns-in_ok-share-in-Is-clause-comes
targets::dot_target-returns-in_ok-share-in-Is-clause-comes t c =
    let fs = trees_of c.args.here.now.site.now.codes.now.items in
    let w = c.args.here.now.site.now.widget in
    let s = c.args.store.now in
    let t = c.operand_on.new.store in
    let v = seen w t.cells c.operand_on.new.out in
    IfOk-weaker c.refer_on.result _ _
    (λ how h. value_then fs w s t c.refer_on.new.store 0 1 31 (λ t. Do (job_of fs w s.cells (job.Eval c.args.e c.args.here.now.at)) t Ret) (form.TargetDot c.args.name.now) c.args.run.now c.operand_on.new.run c.refer_on.new.run c.in_ok-other.other how c.operand_on.new.out (target_as how c.refer_on.new.of c.refer_on.new.out)
    c.in_ok-other.ensures.comes c.in-Is.is c.operand_on.ensures.kept tt
    (instead fs w t c.refer_on.new.store 1 1 (refer v c.in_ok-share-in-Is.field-0) (refer v c.args.name.now) c.operand_on.new.run c.refer_on.new.run how (target_as how c.refer_on.new.of c.refer_on.new.out) h
    (λ r. ap (λ (x : List ℕ). refer v x (image fs r w t)) (sym c.in_ok-share-in-Is.ensures)) (omega arith)) (omega arith))
    c.refer_on.ensures.comes

pub targets::dot_target-returns-in_ok-share-in-Is-clause-kept : goal.targets::dot_target-returns-in_ok-share-in-Is-clause-kept
targets::dot_target-returns-in_ok-share-in-Is-clause-kept t c =
    let fs = trees_of c.args.here.now.site.now.codes.now.items in
    let w = c.args.here.now.site.now.widget in
    let s = c.args.store.now in
    kept_then fs w s c.operand_on.new.store c.refer_on.new.store c.operand_on.ensures.kept c.refer_on.ensures.kept

pub targets::dot_target-returns-in_default-clause-comes : goal.targets::dot_target-returns-in_default-clause-comes
targets::dot_target-returns-in_default-clause-comes t c =
    let fs = trees_of c.args.here.now.site.now.codes.now.items in
    let w = c.args.here.now.site.now.widget in
    let s = c.args.store.now in
    hand_target fs w c.hand_dot.result s c.operand_on.new.store 0 31 (λ t. Do (job_of fs w s.cells (job.Eval c.args.e c.args.here.now.at)) t Ret) (form.TargetDot c.args.name.now) c.args.run.now c.operand_on.new.run c.hand_dot.new.run c.in_ok-other.other c.args.of.now c.operand_on.new.out c.in_ok-other.ensures.comes c.in_default.not-Is c.operand_on.ensures.kept tt (omega arith) c.hand_dot.ensures

pub targets::sub_target-index_target-requires : goal.targets::sub_target-index_target-requires
targets::sub_target-index_target-requires t c = (
  search rules,
  (
    (
        let fs = trees_of c.args.here.now.site.now.codes.now.items in
        let w = c.args.here.now.site.now.widget in
        let s = c.args.store.now in
        value_ready fs w s c.operand_on.new.store 0 (λ t. Do (job_of fs w s.cells (job.Eval c.args.parts.0 c.args.here.now.at)) t Ret) c.args.run.now c.operand_on.new.run c.in_ok-other.other _ c.in_ok-other.ensures.comes c.in-Is.is c.operand_on.ensures.kept c.requires.ready
        ),
    (
      (
          let fs = trees_of c.args.here.now.site.now.codes.now.items in
          let w = c.args.here.now.site.now.widget in
          let s = c.args.store.now in (
            expr_stays fs w s.cells c.operand_on.new.store.cells c.operand_on.ensures.kept.grows c.args.parts.1 c.args.here.now.at c.requires.held.1,
            value_fine fs w s c.operand_on.new.store 0 (λ t. Do (job_of fs w s.cells (job.Eval c.args.parts.0 c.args.here.now.at)) t Ret) c.args.run.now c.operand_on.new.run c.in_ok-other.other c.operand_on.new.out c.in_ok-other.ensures.comes c.in-Is.is,
          )
          ),
      c.requires.tree,
    ),
  ),
)

pub targets::sub_target-returns-in-Is-clause-comes : goal.targets::sub_target-returns-in-Is-clause-comes
targets::sub_target-returns-in-Is-clause-comes t c =
    let fs = trees_of c.args.here.now.site.now.codes.now.items in
    let w = c.args.here.now.site.now.widget in
    let s = c.args.store.now in
    IfOk-weaker c.index_target.result _ _
    (λ how h. value_then fs w s c.operand_on.new.store c.index_target.new.store 0 1 31 (λ t. Do (job_of fs w s.cells (job.Eval c.args.parts.0 c.args.here.now.at)) t Ret) (form.TargetSubBase c.args.parts.1 c.args.here.now.at) c.args.run.now c.operand_on.new.run c.index_target.new.run c.in_ok-other.other how c.operand_on.new.out (target_as how c.index_target.new.of c.index_target.new.out)
    c.in_ok-other.ensures.comes c.in-Is.is c.operand_on.ensures.kept c.requires.held.1 h (omega arith))
    c.index_target.ensures.comes

pub targets::sub_target-returns-in-Is-clause-kept : goal.targets::sub_target-returns-in-Is-clause-kept
targets::sub_target-returns-in-Is-clause-kept t c =
    let fs = trees_of c.args.here.now.site.now.codes.now.items in
    let w = c.args.here.now.site.now.widget in
    let s = c.args.store.now in
    kept_then fs w s c.operand_on.new.store c.index_target.new.store c.operand_on.ensures.kept c.index_target.ensures.kept

pub targets::sub_target-returns-in_default-clause-comes : goal.targets::sub_target-returns-in_default-clause-comes
targets::sub_target-returns-in_default-clause-comes t c =
    let fs = trees_of c.args.here.now.site.now.codes.now.items in
    let w = c.args.here.now.site.now.widget in
    let s = c.args.store.now in
    hand_target fs w c.hand_base.result s c.operand_on.new.store 0 31 (λ t. Do (job_of fs w s.cells (job.Eval c.args.parts.0 c.args.here.now.at)) t Ret) (form.TargetSubBase c.args.parts.1 c.args.here.now.at) c.args.run.now c.operand_on.new.run c.hand_base.new.run c.in_ok-other.other c.args.of.now c.operand_on.new.out c.in_ok-other.ensures.comes c.in_default.not-Is c.operand_on.ensures.kept c.requires.held.1 (omega arith) c.hand_base.ensures

pub targets::index_target-index_of_target-requires : goal.targets::index_target-index_of_target-requires
targets::index_target-index_of_target-requires t c = (
  search rules,
  (
    search rules,
    (
      (
          let fs = trees_of c.args.here.now.site.now.codes.now.items in
          let w = c.args.here.now.site.now.widget in
          let s = c.args.store.now in
          (c.requires.held.0, subst (λ (v : Value2). IsFine w s.cells v) (sym c.take_value-base.ensures.taken) c.requires.held.1)
          ),
      c.requires.tree,
    ),
  ),
)

pub targets::index_target-returns-clause-comes : goal.targets::index_target-returns-clause-comes
targets::index_target-returns-clause-comes t c =
    let fs = trees_of c.args.here.now.site.now.codes.now.items in
    let w = c.args.here.now.site.now.widget in
    let s = c.args.store.now in
    IfOk-weaker c.index_of_target.result _ _
    (λ how h. instead fs w s c.index_of_target.new.store 1 1 (λ t. Do (job_of fs w s.cells (job.Eval c.args.index c.args.here.now.at)) t (form_taken fs w s.cells (form.TargetSub c.take_value-base.result)))
    (λ t. Do (job_of fs w s.cells (job.Eval c.args.index c.args.here.now.at)) t (form_taken fs w s.cells (form.TargetSub c.args.out.now))) c.args.run.now c.index_of_target.new.run how (target_as how c.index_of_target.new.of c.index_of_target.new.out) h
    (λ r. ap (λ (v : Value2). Do (job_of fs w s.cells (job.Eval c.args.index c.args.here.now.at)) (image fs r w s) (form_taken fs w s.cells (form.TargetSub v))) (sym c.take_value-base.ensures.taken)) (omega arith))
    c.index_of_target.ensures.comes

pub targets::index_of_target-refer_by-requires-clause-ready : goal.targets::index_of_target-refer_by-requires-clause-ready
targets::index_of_target-refer_by-requires-clause-ready t c =
    let fs = trees_of c.args.here.now.site.now.codes.now.items in
    let w = c.args.here.now.site.now.widget in
    let s = c.args.store.now in
    value_ready fs w s c.operand_on.new.store 0 (λ t. Do (job_of fs w s.cells (job.Eval c.args.index c.args.here.now.at)) t Ret) c.args.run.now c.operand_on.new.run c.in_ok-other.other _ c.in_ok-other.ensures.comes c.in-Is.is c.operand_on.ensures.kept c.requires.ready

pub targets::index_of_target-refer_by-requires-clause-held : goal.targets::index_of_target-refer_by-requires-clause-held
targets::index_of_target-refer_by-requires-clause-held t c =
    let fs = trees_of c.args.here.now.site.now.codes.now.items in
    let w = c.args.here.now.site.now.widget in
    let s = c.args.store.now in
    fine_stays w s.cells c.operand_on.new.store.cells c.operand_on.ensures.kept.grows c.args.base.now c.requires.held.1

pub targets::index_of_target-returns-in-Is-clause-comes : goal.targets::index_of_target-returns-in-Is-clause-comes
targets::index_of_target-returns-in-Is-clause-comes t c =
    let fs = trees_of c.args.here.now.site.now.codes.now.items in
    let w = c.args.here.now.site.now.widget in
    let s = c.args.store.now in
    IfOk-weaker c.refer_by.result _ _
    (λ how h. value_then fs w s c.operand_on.new.store c.refer_by.new.store 0 1 1 (λ t. Do (job_of fs w s.cells (job.Eval c.args.index c.args.here.now.at)) t Ret) (form.TargetSub c.args.base.now) c.args.run.now c.operand_on.new.run c.refer_by.new.run c.in_ok-other.other how c.operand_on.new.out (target_as how c.refer_by.new.of c.refer_by.new.out)
    c.in_ok-other.ensures.comes c.in-Is.is c.operand_on.ensures.kept c.requires.held.1 h (omega arith))
    c.refer_by.ensures.comes

pub targets::index_of_target-returns-in-Is-clause-kept : goal.targets::index_of_target-returns-in-Is-clause-kept
targets::index_of_target-returns-in-Is-clause-kept t c =
    let fs = trees_of c.args.here.now.site.now.codes.now.items in
    let w = c.args.here.now.site.now.widget in
    let s = c.args.store.now in
    kept_then fs w s c.operand_on.new.store c.refer_by.new.store c.operand_on.ensures.kept c.refer_by.ensures.kept

pub targets::index_of_target-returns-in-Left-clause-comes : goal.targets::index_of_target-returns-in-Left-clause-comes
targets::index_of_target-returns-in-Left-clause-comes t c =
    let fs = trees_of c.args.here.now.site.now.codes.now.items in
    let w = c.args.here.now.site.now.widget in
    let s = c.args.store.now in
    frame_waits fs w c.wait.result s c.operand_on.new.store 0 1 (λ t. Do (job_of fs w s.cells (job.Eval c.args.index c.args.here.now.at)) t Ret) (frame.Form (form.TargetSub c.args.base.now)) c.args.run.now c.operand_on.new.run c.wait.new.run c.in_ok-other.other (ended_as c.in_ok-other.other c.operand_on.new.out) (λ h. target_as h c.args.of.now c.operand_on.new.out)
    c.in_ok-other.ensures.comes c.in-Left.is c.operand_on.ensures.kept c.requires.held.1 (omega arith) c.wait.ensures.left
    (subst (λ (v : Value2). IfOk c.wait.result (λ h. c.wait.new.run.waits.items ≡ c.operand_on.new.run.waits.items ++ frame.Form (form.TargetSub v) ∷ [])) c.take_value.ensures.taken c.wait.ensures.waits) c.wait.ensures.next c.wait.ensures.units

pub targets::index_of_target-returns-in_default : goal.targets::index_of_target-returns-in_default
targets::index_of_target-returns-in_default t c =
    let fs = trees_of c.args.here.now.site.now.codes.now.items in
    let w = c.args.here.now.site.now.widget in
    let s = c.args.store.now in
    record {
      comes = ends_target fs w s c.operand_on.new.store 1 (λ t. and_then (Do (job_of fs w s.cells (job.Eval c.args.index c.args.here.now.at)) t Ret) (form_taken fs w s.cells (form.TargetSub c.args.base.now))) c.args.run.now c.operand_on.new.run c.in_ok-other.other c.args.of.now c.operand_on.new.out
          (value_passes fs w s c.operand_on.new.store 0 1 (λ t. Do (job_of fs w s.cells (job.Eval c.args.index c.args.here.now.at)) t Ret) (form.TargetSub c.args.base.now) c.args.run.now c.operand_on.new.run c.in_ok-other.other c.operand_on.new.out c.in_ok-other.ensures.comes c.in_default.not-Is c.in_default.not-Left c.operand_on.ensures.kept c.requires.held.1 (omega arith)) c.in_default.not-Is;
      kept = c.operand_on.ensures.kept;
    }

pub targets::found_target-returns-in-Is-clause-comes : goal.targets::found_target-returns-in-Is-clause-comes
targets::found_target-returns-in-Is-clause-comes t c =
    let fs = trees_of c.args.here.now.site.now.codes.now.items in
    let w = c.args.here.now.site.now.widget in
    let s = c.args.store.now in
    let t = c.form_on.new.store in
    let v = c.form_on.new.out in
    let same = c.set_reference.ensures ∙ ap reference.Found c.take_value.ensures.taken in
    value_then fs w s t t 30 1 31 (body (job_of fs w s.cells (job.Eval c.args.id c.args.here.now.at))) form.Found c.args.run.now c.form_on.new.run c.form_on.new.run c.in_ok-other.other ended.Is v (target_as ended.Is c.set_reference.new.of c.take_value.new.out)
    c.in_ok-other.ensures.comes c.in-Is.is c.form_on.ensures.kept tt
    (gives_at fs w t 1 (λ x. Ret (meaning.Refers (meaning.Found (seen w t.cells v))) x) c.form_on.new.run (reference.Found v) c.set_reference.new.of c.take_value.new.out same
    (value_ready fs w s t 30 (body (job_of fs w s.cells (job.Eval c.args.id c.args.here.now.at))) c.args.run.now c.form_on.new.run c.in_ok-other.other (ended_as c.in_ok-other.other v) c.in_ok-other.ensures.comes c.in-Is.is c.form_on.ensures.kept c.requires.ready).2
    (λ r. refl) (value_fine fs w s t 30 (body (job_of fs w s.cells (job.Eval c.args.id c.args.here.now.at))) c.args.run.now c.form_on.new.run c.in_ok-other.other v c.in_ok-other.ensures.comes c.in-Is.is) (omega arith)) (omega arith)

pub targets::found_target-returns-in-Left-clause-comes : goal.targets::found_target-returns-in-Left-clause-comes
targets::found_target-returns-in-Left-clause-comes t c =
    let fs = trees_of c.args.here.now.site.now.codes.now.items in
    let w = c.args.here.now.site.now.widget in
    let s = c.args.store.now in
    frame_waits fs w c.wait.result s c.form_on.new.store 30 31 (body (job_of fs w s.cells (job.Eval c.args.id c.args.here.now.at))) (frame.Form (form.Found)) c.args.run.now c.form_on.new.run c.wait.new.run c.in_ok-other.other (ended_as c.in_ok-other.other c.form_on.new.out) (λ h. target_as h c.args.of.now c.form_on.new.out)
    c.in_ok-other.ensures.comes c.in-Left.is c.form_on.ensures.kept tt (omega arith) c.wait.ensures.left c.wait.ensures.waits c.wait.ensures.next c.wait.ensures.units

pub targets::found_target-returns-in_default : goal.targets::found_target-returns-in_default
targets::found_target-returns-in_default t c =
    let fs = trees_of c.args.here.now.site.now.codes.now.items in
    let w = c.args.here.now.site.now.widget in
    let s = c.args.store.now in
    record {
      comes = ends_target fs w s c.form_on.new.store 31 (λ t. and_then ((body (job_of fs w s.cells (job.Eval c.args.id c.args.here.now.at))) t) (form_taken fs w s.cells (form.Found))) c.args.run.now c.form_on.new.run c.in_ok-other.other c.args.of.now c.form_on.new.out
          (value_passes fs w s c.form_on.new.store 30 31 (body (job_of fs w s.cells (job.Eval c.args.id c.args.here.now.at))) (form.Found) c.args.run.now c.form_on.new.run c.in_ok-other.other c.form_on.new.out c.in_ok-other.ensures.comes c.in_default.not-Is c.in_default.not-Left c.form_on.ensures.kept tt (omega arith)) c.in_default.not-Is;
      kept = c.form_on.ensures.kept;
    }

pub properties::sub_with-subscript_on-requires : goal.properties::sub_with-subscript_on-requires
properties::sub_with-subscript_on-requires t c = (
  search rules,
  (
    (
        let fs = trees_of c.args.here.now.site.now.codes.now.items in
        let w = c.args.here.now.site.now.widget in
        let old = c.args.store.now in
        let mid = c.operand_on.new.store in
        let p : State → Plan = λ s. Do (job_of fs w old.cells (job.Eval c.args.parts.0 c.args.here.now.at)) s Ret in
        let had = c.args.run.now in
        let has = c.operand_on.new.run in
        let how = c.in_ok-how.how in
        let out = c.operand_on.new.out in
        let part = c.in_ok-how.ensures.comes in
        let kept = c.in_ok-how.ensures.kept in
        value_ready fs w old mid 0 p had has how (ended_as how out) part c.in-Is.is kept c.requires.ready
        ),
    (
      (
          let fs = trees_of c.args.here.now.site.now.codes.now.items in
          let w = c.args.here.now.site.now.widget in
          let old = c.args.store.now in
          let mid = c.operand_on.new.store in
          let p : State → Plan = λ s. Do (job_of fs w old.cells (job.Eval c.args.parts.0 c.args.here.now.at)) s Ret in
          let had = c.args.run.now in
          let has = c.operand_on.new.run in
          let how = c.in_ok-how.how in
          let out = c.operand_on.new.out in
          let part = c.in_ok-how.ensures.comes in
          let kept = c.in_ok-how.ensures.kept in
          ((place_fine fs w old.cells mid.cells kept.grows c.args.here.now.at c.requires.held.1.0, c.requires.held.1.1), value_fine fs w old mid 0 p had has how out part c.in-Is.is)
          ),
      c.requires.tree,
    ),
  ),
)

pub properties::sub_with-returns-in-Is-clause-comes : goal.properties::sub_with-returns-in-Is-clause-comes
properties::sub_with-returns-in-Is-clause-comes t c =
    let fs = trees_of c.args.here.now.site.now.codes.now.items in
    let w = c.args.here.now.site.now.widget in
    let old = c.args.store.now in
    let mid = c.operand_on.new.store in
    let p : State → Plan = λ s. Do (job_of fs w old.cells (job.Eval c.args.parts.0 c.args.here.now.at)) s Ret in
    let had = c.args.run.now in
    let has = c.operand_on.new.run in
    let how = c.in_ok-how.how in
    let out = c.operand_on.new.out in
    let part = c.in_ok-how.ensures.comes in
    let kept = c.in_ok-how.ensures.kept in
    (IfOk-weaker c.subscript_on.result _ _
    (λ h x. value_then fs w old mid c.subscript_on.new.store 0 1 30 p (form.SubBase c.args.parts.1 c.args.here.now.at) had has c.subscript_on.new.run how h out _ part c.in-Is.is kept c.requires.held.1 x (omega arith))
    c.subscript_on.ensures.comes)

pub properties::sub_with-returns-in-Is-clause-kept : goal.properties::sub_with-returns-in-Is-clause-kept
properties::sub_with-returns-in-Is-clause-kept t c =
    kept_then (trees_of c.args.here.now.site.now.codes.now.items) c.args.here.now.site.now.widget c.args.store.now c.operand_on.new.store c.subscript_on.new.store c.in_ok-how.ensures.kept c.subscript_on.ensures.kept

pub properties::sub_with-returns-in_default-clause-comes : goal.properties::sub_with-returns-in_default-clause-comes
properties::sub_with-returns-in_default-clause-comes t c =
    let fs = trees_of c.args.here.now.site.now.codes.now.items in
    let w = c.args.here.now.site.now.widget in
    let old = c.args.store.now in
    let mid = c.operand_on.new.store in
    let p : State → Plan = λ s. Do (job_of fs w old.cells (job.Eval c.args.parts.0 c.args.here.now.at)) s Ret in
    let had = c.args.run.now in
    let has = c.operand_on.new.run in
    let how = c.in_ok-how.how in
    let out = c.operand_on.new.out in
    let part = c.in_ok-how.ensures.comes in
    let kept = c.in_ok-how.ensures.kept in
    placed_ok c.hand_base.result (λ h v. Comes fs w old mid 30 (λ s. and_then (p s) (form_taken fs w old.cells (form.SubBase c.args.parts.1 c.args.here.now.at))) had c.hand_base.new.run h v) out c.hand_base.new.out c.hand_base.ensures.value
    (hand_form fs w c.hand_base.result old mid 0 30 p (form.SubBase c.args.parts.1 c.args.here.now.at) had has c.hand_base.new.run how out part c.in_default.not-Is kept c.requires.held.1 (omega arith) c.hand_base.ensures.hands)

pub targets::deleted_on-remove_on-requires-clause-ready : goal.targets::deleted_on-remove_on-requires-clause-ready
targets::deleted_on-remove_on-requires-clause-ready t c =
    let fs = trees_of c.args.here.now.site.now.codes.now.items in
    let w = c.args.here.now.site.now.widget in
    let at = c.args.here.now.at in
    let old = c.args.store.now in
    let mid = c.target_on.new.store in
    let p : State → Plan = λ s. Do (job_of fs w old.cells (job.Target c.args.e at)) s Ret in
    let had = c.args.run.now in
    let has = c.target_on.new.run in
    let how = c.in_ok-other.other in
    let of = c.target_on.new.of in
    let out = c.target_on.new.out in
    let part = c.in_ok-other.ensures.comes in
    let kept = c.in_ok-other.ensures.kept in
    value_ready fs w old mid 0 p had has how (target_as how of out) part c.in-Is.is kept c.requires.ready

pub targets::deleted_on-remove_on-requires-clause-held : goal.targets::deleted_on-remove_on-requires-clause-held
targets::deleted_on-remove_on-requires-clause-held t c =
    let fs = trees_of c.args.here.now.site.now.codes.now.items in
    let w = c.args.here.now.site.now.widget in
    let at = c.args.here.now.at in
    let old = c.args.store.now in
    let mid = c.target_on.new.store in
    let p : State → Plan = λ s. Do (job_of fs w old.cells (job.Target c.args.e at)) s Ret in
    let had = c.args.run.now in
    let has = c.target_on.new.run in
    let how = c.in_ok-other.other in
    let of = c.target_on.new.of in
    let out = c.target_on.new.out in
    let part = c.in_ok-other.ensures.comes in
    let kept = c.in_ok-other.ensures.kept in
    target_fine fs w old mid 0 p had has how of out part c.in-Is.is

pub targets::deleted_on-returns-in-Is-clause-comes : goal.targets::deleted_on-returns-in-Is-clause-comes
targets::deleted_on-returns-in-Is-clause-comes t c =
    let fs = trees_of c.args.here.now.site.now.codes.now.items in
    let w = c.args.here.now.site.now.widget in
    let at = c.args.here.now.at in
    let old = c.args.store.now in
    let mid = c.target_on.new.store in
    let p : State → Plan = λ s. Do (job_of fs w old.cells (job.Target c.args.e at)) s Ret in
    let had = c.args.run.now in
    let has = c.target_on.new.run in
    let how = c.in_ok-other.other in
    let of = c.target_on.new.of in
    let out = c.target_on.new.out in
    let part = c.in_ok-other.ensures.comes in
    let kept = c.in_ok-other.ensures.kept in
    IfOk-weaker c.remove_on.result _ _
    (λ h x. target_then fs w old mid c.remove_on.new.store 0 1 30 p form.Delete had has c.remove_on.new.run how h of out (ended_as h c.remove_on.new.out) part c.in-Is.is kept tt x (omega arith))
    c.remove_on.ensures.comes

pub targets::deleted_on-returns-in-Is-clause-kept : goal.targets::deleted_on-returns-in-Is-clause-kept
targets::deleted_on-returns-in-Is-clause-kept t c =
    let fs = trees_of c.args.here.now.site.now.codes.now.items in
    let w = c.args.here.now.site.now.widget in
    let at = c.args.here.now.at in
    let old = c.args.store.now in
    let mid = c.target_on.new.store in
    let p : State → Plan = λ s. Do (job_of fs w old.cells (job.Target c.args.e at)) s Ret in
    let had = c.args.run.now in
    let has = c.target_on.new.run in
    let how = c.in_ok-other.other in
    let of = c.target_on.new.of in
    let out = c.target_on.new.out in
    let part = c.in_ok-other.ensures.comes in
    let kept = c.in_ok-other.ensures.kept in
    kept_then fs w old mid c.remove_on.new.store kept c.remove_on.ensures.kept

pub targets::deleted_on-returns-in_default-clause-comes : goal.targets::deleted_on-returns-in_default-clause-comes
targets::deleted_on-returns-in_default-clause-comes t c =
    let fs = trees_of c.args.here.now.site.now.codes.now.items in
    let w = c.args.here.now.site.now.widget in
    let at = c.args.here.now.at in
    let old = c.args.store.now in
    let mid = c.target_on.new.store in
    let p : State → Plan = λ s. Do (job_of fs w old.cells (job.Target c.args.e at)) s Ret in
    let had = c.args.run.now in
    let has = c.target_on.new.run in
    let how = c.in_ok-other.other in
    let of = c.target_on.new.of in
    let out = c.target_on.new.out in
    let part = c.in_ok-other.ensures.comes in
    let kept = c.in_ok-other.ensures.kept in
    hand_form fs w c.hand_delete.result old mid 0 30 p form.Delete had has c.hand_delete.new.run how out (target_ends fs w old mid 0 p had has how of out part c.in_default.not-Is) c.in_default.not-Is kept tt (omega arith) c.hand_delete.ensures

pub natives::native_on-call-requires-clause-confined : goal.natives::native_on-call-requires-clause-confined
natives::native_on-call-requires-clause-confined t c = (trees_of c.args.site.now.codes.now.items, c.requires.ready.1)

pub natives::native_on-call-requires-clause-held : goal.natives::native_on-call-requires-clause-held
natives::native_on-call-requires-clause-held t c = (c.requires.held.0, subst (AreFine c.args.site.now.widget c.args.store.now.cells) (sym c.as_slice.ensures) c.requires.held.1)

pub natives::native_on-given_on-requires : goal.natives::native_on-given_on-requires
natives::native_on-given_on-requires t c = (
  search rules,
  (
    (c.requires.ready.0, (c.call.ensures.kept (trees_of c.args.site.now.codes.now.items)).confined c.requires.ready.1, c.requires.ready.2),
    (let done = rw c.in-Some.is at c.in_ok-found.ensures.done in (done.fine, done.carried)),
  ),
)

pub natives::native_on-returns-then-run-eq0-clause-comes : goal.natives::native_on-returns-then-run-eq0-clause-comes
natives::native_on-returns-then-run-eq0-clause-comes t c =
    IfOk-weaker c.native_far.result _ _
    (λ how h. h (trees_of c.args.site.now.codes.now.items) c.args.site.now.widget c.args.store.now c.args.out.now c.requires.held.0 c.requires.held.1)
    c.native_far.ensures.comes

pub natives::native_on-returns-then-run-eq0-clause-kept : goal.natives::native_on-returns-then-run-eq0-clause-kept
natives::native_on-returns-then-run-eq0-clause-kept t c = kept_same (trees_of c.args.site.now.codes.now.items) c.args.site.now.widget c.args.store.now c.args.store.now refl

pub natives::native_on-returns-in_err-found-clause-kept : goal.natives::native_on-returns-in_err-found-clause-kept
natives::native_on-returns-in_err-found-clause-kept t c = c.call.ensures.kept (trees_of c.args.site.now.codes.now.items)

pub natives::native_on-returns-in-None-clause-comes : goal.natives::native_on-returns-in-None-clause-comes
natives::native_on-returns-in-None-clause-comes t c =
    let fs = trees_of c.args.site.now.codes.now.items in
    let w = c.args.site.now.widget in
    let s = c.args.store.now in
    IfOk-weaker c.native_far-in-None.result _ _
    (λ how h. at_same fs w s c.call.new.store 0 _ c.args.run.now c.native_far-in-None.new.run how (ended_as how c.args.out.now) (rw c.in-None.is at c.in_ok-found.ensures.none).0
    (h fs w s c.args.out.now c.requires.held.0 c.requires.held.1))
    c.native_far-in-None.ensures.comes

pub natives::native_on-returns-in-None-clause-kept : goal.natives::native_on-returns-in-None-clause-kept
natives::native_on-returns-in-None-clause-kept t c = c.call.ensures.kept (trees_of c.args.site.now.codes.now.items)

pub natives::native_on-returns-in-Some-clause-comes : goal.natives::native_on-returns-in-Some-clause-comes
natives::native_on-returns-in-Some-clause-comes t c =
    let fs = trees_of c.args.site.now.codes.now.items in
    let w = c.args.site.now.widget in
    let s = c.args.store.now in
    let t = c.call.new.store in
    let this = option_map (seen w s.cells) c.args.this.now in
    let vs = all_seen w s.cells c.args.args.now.items in
    let before = c.new-meter.result.left in
    let left = c.call.new.meter.left in
    let found = c.in-Some.found in
    let done : Done w s t before left (run_native c.args.which this vs) found = subst (λ (l : List Value2). Done w s t before left (run_native c.args.which this (all_seen w s.cells l)) found) c.as_slice.ensures (rw c.in-Some.is at c.in_ok-found.ensures.done) in
    let mid = record c.args.run.now { units = c.left-run.result } in
    IfOk-weaker c.given_on.result _ _
    (λ how h. native_runs fs w s t c.given_on.new.store c.args.which this vs c.args.depth before left found done c.requires.ready.1 c.args.run.now mid c.given_on.new.run how (ended_as how c.given_on.new.out)
    (omega (arith, ap (λ m. m.left) c.new-meter.ensures, c.if-run-eq0.false)) (sym c.left-run.ensures.value) (h (λ n. n)))
    c.given_on.ensures.comes

pub natives::native_on-returns-in-Some-clause-kept : goal.natives::native_on-returns-in-Some-clause-kept
natives::native_on-returns-in-Some-clause-kept t c = kept_then (trees_of c.args.site.now.codes.now.items) c.args.site.now.widget c.args.store.now c.call.new.store c.given_on.new.store (c.call.ensures.kept (trees_of c.args.site.now.codes.now.items)) c.given_on.ensures.kept

pub natives::given_on-returns-in-Value-clause-comes : goal.natives::given_on-returns-in-Value-clause-comes
natives::given_on-returns-in-Value-clause-comes t c =
    let fs = trees_of c.args.site.now.codes.now.items in
    let w = c.args.site.now.widget in
    let s = c.args.store.now in
    λ node. subst (λ (v : Value2). Comes fs w s s 15 (given w s.cells node c.args.depth c.args.found) c.args.run.now c.args.run.now ended.Is v) (sym c.set_value.ensures)
    (gives_value fs w s s 15 (given w s.cells node c.args.depth c.args.found) c.args.run.now c.in-Value.value c.requires.ready.2
    (λ r. ap (λ (o : NativeOut). given w s.cells node c.args.depth o (image fs r w s)) c.in-Value.is)
    (subst (λ (o : NativeOut). IsFineOut w s.cells o) c.in-Value.is c.requires.held.0) (omega arith))

pub natives::given_on-returns-in_default-clause-comes : goal.natives::given_on-returns-in_default-clause-comes
natives::given_on-returns-in_default-clause-comes t c = c.given_by_frames.ensures.comes

pub natives::given_on-returns-in-Value-clause-kept : goal.natives::given_on-returns-in-Value-clause-kept
natives::given_on-returns-in-Value-clause-kept t c = kept_same (trees_of c.args.site.now.codes.now.items) c.args.site.now.widget c.args.store.now c.args.store.now refl

pub natives::given_on-returns-in_default-clause-kept : goal.natives::given_on-returns-in_default-clause-kept
natives::given_on-returns-in_default-clause-kept t c = c.given_by_frames.ensures.kept

pub natives::given_on-called_on-requires : goal.natives::given_on-called_on-requires
natives::given_on-called_on-requires t c = (
  search rules,
  (
    (c.requires.ready),
    (subst (λ (o : NativeOut). IsFineOut c.args.site.now.widget c.args.store.now.cells o × IsCarried o) c.in-Call.is c.requires.held),
  ),
)

pub natives::given_on-returns-in-Call-clause-comes : goal.natives::given_on-returns-in-Call-clause-comes
natives::given_on-returns-in-Call-clause-comes t c =
    let fs = trees_of c.args.site.now.codes.now.items in
    let w = c.args.site.now.widget in
    let s = c.args.store.now in
    let u = c.called_on.new.store in
    IfOk-weaker c.called_on.result _ _
    (λ how h node. subst (λ (o : NativeOut). Comes fs w s u 15 (given w s.cells node c.args.depth o) c.args.run.now c.called_on.new.run how c.called_on.new.out) (sym c.in-Call.is) (h node))
    c.called_on.ensures.comes

pub natives::given_on-returns-in-Call-clause-kept : goal.natives::given_on-returns-in-Call-clause-kept
natives::given_on-returns-in-Call-clause-kept t c = c.called_on.ensures.kept

pub natives::called_on-gather_on-requires : goal.natives::called_on-gather_on-requires
natives::called_on-gather_on-requires t c = (
  search rules,
  (
    (c.requires.ready),
    (
        let w = c.args.site.now.widget in
        let s = c.args.store.now in
        let fine = subst (AreFineCalls w s.cells) c.in-Gather.is c.requires.held.0 in
        subst (FineGathering w s.cells) (sym c.in_ok-new-in-Gather.ensures.ok) (fine.0, fine.1, subst (AreFine w s.cells) (sym c.new.ensures.items) tt)
        ),
  ),
)

pub natives::called_on-returns-in_ok-new-in-Gather-clause-comes : goal.natives::called_on-returns-in_ok-new-in-Gather-clause-comes
natives::called_on-returns-in_ok-new-in-Gather-clause-comes t c =
    let fs = trees_of c.args.site.now.codes.now.items in
    let w = c.args.site.now.widget in
    let s = c.args.store.now in
    let u = c.gather_on.new.store in
    let ok = c.in_ok-new-in-Gather.ensures.ok in
    let g = c.in_ok-new-in-Gather.field-0.value in
    IfOk-weaker c.gather_on.result _ _
    (λ how h node. instead fs w s u 15 15 (gather_left w s.cells g) (called (seen w s.cells) node c.args.depth c.args.plan) c.args.run.now c.gather_on.new.run how _ h
    (λ r. ap (λ p. called (seen w s.cells) node c.args.depth p (image fs r w s)) c.in-Gather.is
    ∙ sym (gather_start w s.cells (image fs r w s) g c.in-Gather.func c.in-Gather.items.items c.in-Gather.keep c.args.depth
    (ap (λ g. g.func) ok) (ap (λ g. g.items.items) ok) (ap (λ g. g.results.items) ok ∙ c.new.ensures.items) (ap (λ g. g.keep) ok ∙ c.kept.ensures) (ap (λ g. g.depth) ok)))
    (omega arith))
    c.gather_on.ensures.comes

pub natives::called_on-returns-in_ok-new-in-Gather-clause-kept : goal.natives::called_on-returns-in_ok-new-in-Gather-clause-kept
natives::called_on-returns-in_ok-new-in-Gather-clause-kept t c = c.gather_on.ensures.kept

pub natives::called_on-returns-in_default-clause-comes : goal.natives::called_on-returns-in_default-clause-comes
natives::called_on-returns-in_default-clause-comes t c = c.given_by_frames.ensures.comes

pub natives::called_on-returns-in_default-clause-kept : goal.natives::called_on-returns-in_default-clause-kept
natives::called_on-returns-in_default-clause-kept t c = c.given_by_frames.ensures.kept

pub gathering::gather_on-item_on-requires : goal.gathering::gather_on-item_on-requires
gathering::gather_on-item_on-requires t c = (
  search rules,
  (
    (c.items.invariant.ready),
    (
        let w = c.args.site.now.widget in
        let mid = c.items.store in
        let g = c.items.g.value in
        let held = c.items.invariant.held in
        let at = subst (λ (q : Gathering). slice_get q.items.items (length q.results.items) ≡ Some c.in-Some.item) c.deref.ensures (sym c.in_ok-item.ensures ∙ c.in-Some.is) in
        subst (λ (q : Gathering). IsHeld w mid.cells q.func × IsFine w mid.cells c.in-Some.item) (sym c.deref-in-Some.ensures) (held.0, fine_at w mid.cells g.items.items (length g.results.items) c.in-Some.item at held.1)
        ),
  ),
)

pub gathering::gather_on-items-preserved : goal.gathering::gather_on-items-preserved
gathering::gather_on-items-preserved t c =
    let fs = trees_of c.args.site.now.codes.now.items in
    let w = c.args.site.now.widget in
    let old = c.args.store.now in
    let mid = c.items.store in
    let new = c.item_on.new.store in
    let was = c.items.invariant in
    let g = c.items.g in
    let at = subst (λ (q : Gathering). slice_get q.items.items (length q.results.items) ≡ Some c.in-Some.item) c.deref.ensures (sym c.in_ok-item.ensures ∙ c.in-Some.is) in
    let step = c.in_ok-how.ensures in
    let part = subst (λ (q : Gathering). Comes fs w mid new 0 (item_called w mid.cells q c.in-Some.item) c.items.run c.item_on.new.run c.in_ok-how.how c.item_on.new.out) c.deref-in-Some.ensures step.comes in
    let more = subst (λ (v : Value2). IsMore g.value c.in_ok-more-in-Is.more.value v) c.take_value.ensures.taken c.in_ok-more-in-Is.ensures in
    record {
      goes = goes_both fs w old mid new _ _ _ c.args.run.now c.items.run c.item_on.new.run was.goes
          (more_goes fs w mid new g c.in-Some.item at was.held step.kept c.items.run c.item_on.new.run c.in_ok-how.how c.item_on.new.out part c.in_ok-more-in-Is.more.value more c.in-Is.is);
      ready = value_ready fs w mid new 0 (item_called w mid.cells g.value c.in-Some.item) c.items.run c.item_on.new.run c.in_ok-how.how _ part c.in-Is.is step.kept was.ready;
      held = more_fine fs w mid new g c.in-Some.item at was.held step.kept c.items.run c.item_on.new.run c.in_ok-how.how c.item_on.new.out part c.in_ok-more-in-Is.more.value more c.in-Is.is;
      kept = kept_then fs w old mid new was.kept step.kept;
    }

pub gathering::gather_on-items-smaller : goal.gathering::gather_on-items-smaller
gathering::gather_on-items-smaller t c =
    let g = c.items.g.value in
    let at = subst (λ (q : Gathering). slice_get q.items.items (length q.results.items) ≡ Some c.in-Some.item) c.deref.ensures (sym c.in_ok-item.ensures ∙ c.in-Some.is) in
    let more = c.in_ok-more-in-Is.ensures in
    let long = length_push g.results.items c.take_value.result in
    omega (arith, within g.items.items (length g.results.items) c.in-Some.item at, ap (λ xs. length xs.items) more.items, ap (λ xs. length xs) more.results, long)

pub gathering::gather_on-returns-in_err-item-clause-kept : goal.gathering::gather_on-returns-in_err-item-clause-kept
gathering::gather_on-returns-in_err-item-clause-kept t c = c.items.invariant.kept

pub gathering::gather_on-returns-in_err-how-clause-kept : goal.gathering::gather_on-returns-in_err-how-clause-kept
gathering::gather_on-returns-in_err-how-clause-kept t c =
    kept_then (trees_of c.args.site.now.codes.now.items) c.args.site.now.widget c.args.store.now c.items.store c.item_on.new.store c.items.invariant.kept c.item_on.ensures.kept

pub gathering::gather_on-returns-in_err-more-in-Is-clause-kept : goal.gathering::gather_on-returns-in_err-more-in-Is-clause-kept
gathering::gather_on-returns-in_err-more-in-Is-clause-kept t c =
    kept_then (trees_of c.args.site.now.codes.now.items) c.args.site.now.widget c.args.store.now c.items.store c.item_on.new.store c.items.invariant.kept c.item_on.ensures.kept

pub gathering::gather_on-returns-in-Left-clause-comes : goal.gathering::gather_on-returns-in-Left-clause-comes
gathering::gather_on-returns-in-Left-clause-comes t c =
    let fs = trees_of c.args.site.now.codes.now.items in
    let w = c.args.site.now.widget in
    let old = c.args.store.now in
    let mid = c.items.store in
    let new = c.item_on.new.store in
    let was = c.items.invariant in
    let g = c.items.g in
    let at = subst (λ (q : Gathering). slice_get q.items.items (length q.results.items) ≡ Some c.in-Some.item) c.deref.ensures (sym c.in_ok-item.ensures ∙ c.in-Some.is) in
    let step = c.in_ok-how.ensures in
    let how = c.in_ok-how.how in
    let out = c.item_on.new.out in
    let part = subst (λ (q : Gathering). Comes fs w mid new 0 (item_called w mid.cells q c.in-Some.item) c.items.run c.item_on.new.run how out) c.deref-in-Some.ensures step.comes in
    let p : State → Plan = item_called w mid.cells g.value c.in-Some.item in
    let f = frame.Call (call.Gather g) in
    IfOk-weaker c.wait.result _ _
    (λ h x. goes_then fs w old mid new 15 _ (gather_left w mid.cells g.value) c.args.run.now c.items.run c.wait.new.run h _ was.goes
    (instead fs w mid new 1 15 (λ s. and_then (p s) (taken fs w mid.cells f)) (gather_left w mid.cells g.value) c.items.run c.wait.new.run h _ x (λ r. next_item fs w mid.cells (image fs r w mid) g.value c.in-Some.item at) (omega arith)))
    (frame_waits fs w c.wait.result mid new 0 1 p f c.items.run c.item_on.new.run c.wait.new.run how (ended_as how out) (λ (h : Ended). ended_as h out) part c.in-Left.is step.kept was.held (omega arith)
    c.wait.ensures.left c.wait.ensures.waits c.wait.ensures.next c.wait.ensures.units)

pub gathering::gather_on-returns-in-Left-clause-kept : goal.gathering::gather_on-returns-in-Left-clause-kept
gathering::gather_on-returns-in-Left-clause-kept t c =
    kept_then (trees_of c.args.site.now.codes.now.items) c.args.site.now.widget c.args.store.now c.items.store c.item_on.new.store c.items.invariant.kept c.item_on.ensures.kept

pub gathering::gather_on-returns-in_default-2 : goal.gathering::gather_on-returns-in_default-2
gathering::gather_on-returns-in_default-2 t c =
    let fs = trees_of c.args.site.now.codes.now.items in
    let w = c.args.site.now.widget in
    let old = c.args.store.now in
    let mid = c.items.store in
    let new = c.item_on.new.store in
    let was = c.items.invariant in
    let g = c.items.g in
    let at = subst (λ (q : Gathering). slice_get q.items.items (length q.results.items) ≡ Some c.in-Some.item) c.deref.ensures (sym c.in_ok-item.ensures ∙ c.in-Some.is) in
    let step = c.in_ok-how.ensures in
    let how = c.in_ok-how.how in
    let out = c.item_on.new.out in
    let part = subst (λ (q : Gathering). Comes fs w mid new 0 (item_called w mid.cells q c.in-Some.item) c.items.run c.item_on.new.run how out) c.deref-in-Some.ensures step.comes in
    record {
      comes = goes_then fs w old mid new 15 _ _ c.args.run.now c.items.run c.item_on.new.run how _ was.goes
          (item_passes fs w mid new g c.in-Some.item at was.held step.kept c.items.run c.item_on.new.run how out part c.in_default-2.not-Is c.in_default-2.not-Left);
      kept = kept_then fs w old mid new was.kept step.kept;
    }

pub gathering::gather_on-gathered_on-requires-clause-ready : goal.gathering::gather_on-gathered_on-requires-clause-ready
gathering::gather_on-gathered_on-requires-clause-ready t c = c.items.invariant.ready

pub gathering::gather_on-gathered_on-requires-clause-held : goal.gathering::gather_on-gathered_on-requires-clause-held
gathering::gather_on-gathered_on-requires-clause-held t c = c.items.invariant.held

pub gathering::gather_on-returns-clause-comes : goal.gathering::gather_on-returns-clause-comes
gathering::gather_on-returns-clause-comes t c =
    let fs = trees_of c.args.site.now.codes.now.items in
    let w = c.args.site.now.widget in
    IfOk-weaker c.gathered_on.result _ _
    (λ how h. goes_then fs w c.args.store.now c.items.store c.gathered_on.new.store 15 _ _ c.args.run.now c.items.run c.gathered_on.new.run how _ c.items.invariant.goes h)
    c.gathered_on.ensures.comes

pub gathering::gather_on-returns-clause-kept : goal.gathering::gather_on-returns-clause-kept
gathering::gather_on-returns-clause-kept t c =
    kept_then (trees_of c.args.site.now.codes.now.items) c.args.site.now.widget c.args.store.now c.items.store c.gathered_on.new.store c.items.invariant.kept c.gathered_on.ensures.kept

pub gathering::item_on-call_far-requires : goal.gathering::item_on-call_far-requires
gathering::item_on-call_far-requires t c = record { waits = c.requires.ready.2 }

pub gathering::item_on-returns-then-run-eq0-clause-comes : goal.gathering::item_on-returns-then-run-eq0-clause-comes
gathering::item_on-returns-then-run-eq0-clause-comes t c =
    let fs = trees_of c.args.site.now.codes.now.items in
    let w = c.args.site.now.widget in
    let s = c.args.store.now in
    let fine : AreFine w s.cells c.in_ok-args.args.items = subst (AreFine w s.cells) (sym c.in_ok-args.ensures) (c.requires.held.1, (tt, tt)) in
    IfOk-weaker c.call_far.result _ _
    (λ how h. subst (λ vs. Comes fs w s s 0 (λ x. Do (plan.Call (seen w s.cells (value.Ref c.args.g.now.func)) None (all_seen w s.cells vs) c.args.g.now.depth) x Ret) c.args.run.now c.call_far.new.run how c.args.out.now)
    c.in_ok-args.ensures (h fs w s c.args.out.now c.requires.held.0 fine))
    c.call_far.ensures.comes

pub gathering::item_on-value_far-requires : goal.gathering::item_on-value_far-requires
gathering::item_on-value_far-requires t c = (
  search rules,
  (
    (c.requires.ready),
    (
        let w = c.args.site.now.widget in
        let s = c.args.store.now in
        (c.requires.held.0, tt, subst (AreFine w s.cells) (sym c.in_ok-args.ensures) (c.requires.held.1, (tt, tt)))
        ),
  ),
)

pub gathering::item_on-returns-clause-comes : goal.gathering::item_on-returns-clause-comes
gathering::item_on-returns-clause-comes t c =
    let fs = trees_of c.args.site.now.codes.now.items in
    let w = c.args.site.now.widget in
    let s = c.args.store.now in
    let u = c.value_far.new.store in
    let func = seen w s.cells (value.Ref c.args.g.now.func) in
    let d = c.args.g.now.depth in
    let vs = all_seen w s.cells c.in_ok-args.args.items in
    let same = ap (all_seen w s.cells) c.in_ok-args.ensures in
    IfOk-weaker c.value_far.result _ _
    (λ how h. instead fs w s u 0 0 (λ x. Do (plan.Call func None vs d) x Ret) (item_called w s.cells c.args.g.now c.args.item) c.args.run.now c.value_far.new.run how _
    (unit_first fs w s u 4 0 (plan.Call func None vs d) (invoke func None vs d) Ret c.args.run.now _ c.value_far.new.run how _ (less_one c.args.run.now.units c.if-run-eq0.false) (λ x. and_then_ret (invoke func None vs d x)) h (omega arith))
    (λ r. ap (λ l. Do (plan.Call func None l d) (image fs r w s) Ret) (sym same)) (omega arith))
    c.value_far.ensures.comes
