use Rattle.js_flow.specs.declared.job.Job.TheVariants as job
use Rattle.store_cells.specs.declared.value.Value.TheVariants as value
use Rattle.js_flow.specs.declared.frame.Frame.TheVariants as frame
use Rattle.widget_meaning.specs.Values as meaning
use Rattle.js_flow.specs.declared.frame.StatementFrame.TheVariants as statement
use Rattle.js_direct.proofs.+direct.Given as goal
use Rattle.js_flow.specs.Frames.{taken}
use Rattle.std.proofs.Common.{drop, length, ◌*◌, ◌+◌, ◌-◌, ◌≡◌}
use Rattle.js_tree.specs.Forest.{expr_at, stmt_at}
use Rattle.widget_meaning.specs.Expressions.{array_parts, object_parts}
use Rattle.js_image.specs.Image.{seen}
use Rattle.js_image.specs.Held.{IsFine, IsHeld, Kept}
use Rattle.js_names.specs.Code.{trees_of}
use Rattle.js_calls.specs.Called.{gather_left}
use Rattle.js_flow.specs.Fine.{FineGathering, FineNames, IsBlockAt, IsExprAt, IsStmtAt}
use Rattle.js_flow.specs.Parts.{arguments_of, block_list, clauses_of, decls_of, elements_of, forest_at, properties_of}
use Rattle.js_flow.specs.Views.{job_of, place_of}
use Rattle.js_direct.specs.Comes.{IsReady}
use Rattle.js_direct.specs.Goes.{GoesOn}
use Rattle.js_flow.specs.Statements.{block_at}
use Rattle.js_direct.specs.Towards.{Towards, part_of}
use Rattle.js_direct.specs.Argues.{Argued}
use Rattle.widget_meaning.specs.Plan.{Do, Ret}
use Rattle.widget_meaning.specs.Statements.{choose_case, declarations, expressions}

-- by depth, and at one depth along the calls
abbrev pub decreases-arrays::array_on : goal.decreases-arrays::array_on
decreases-arrays::array_on l = 16 * l.deep + 4

abbrev pub decreases-arrays::elements_on : goal.decreases-arrays::elements_on
decreases-arrays::elements_on l = 16 * l.deep + 3

-- the elements before the next one are in the array
abbrev pub invariant-arrays::elements_on-elements : goal.invariant-arrays::elements_on-elements
invariant-arrays::elements_on-elements l =
    record {
      goes : GoesOn (trees_of l.here.site.now.codes.now.items) l.here.site.now.widget l.initial.store l.store
          (array_parts (seen l.here.site.now.widget l.initial.store.cells (value.Ref l.array)) 0 (elements_of (expr_at (forest_at (trees_of l.here.site.now.codes.now.items) l.here.at.code) l.id)) (place_of l.here.site.now.widget l.initial.store.cells l.here.at))
          (array_parts (seen l.here.site.now.widget l.store.cells (value.Ref l.array)) l.n (drop l.n (elements_of (expr_at (forest_at (trees_of l.here.site.now.codes.now.items) l.here.at.code) l.id))) (place_of l.here.site.now.widget l.store.cells l.here.at))
          l.initial.run l.run;
      ready : IsReady (trees_of l.here.site.now.codes.now.items) l.here.site.now.widget l.store l.run;
      held : IsHeld l.here.site.now.widget l.store.cells l.array × IsExprAt (trees_of l.here.site.now.codes.now.items) l.here.site.now.widget l.store.cells l.id l.here.at;
      kept : Kept (trees_of l.here.site.now.codes.now.items) l.here.site.now.widget l.initial.store l.store;
    }

abbrev pub decreases-arrays::elements_on-elements : goal.decreases-arrays::elements_on-elements
decreases-arrays::elements_on-elements l = length (drop l.n (elements_of (expr_at (forest_at (trees_of l.here.site.now.codes.now.items) l.here.at.code) l.id)))

abbrev pub decreases-arrays::element_on : goal.decreases-arrays::element_on
decreases-arrays::element_on l = 16 * l.deep + 2

abbrev pub decreases-assigning::assign_on : goal.decreases-assigning::assign_on
decreases-assigning::assign_on l = 16 * l.deep + 8

abbrev pub decreases-assigning::assign_plain : goal.decreases-assigning::assign_plain
decreases-assigning::assign_plain l = 16 * l.deep + 7

abbrev pub decreases-assigning::assign_by : goal.decreases-assigning::assign_by
decreases-assigning::assign_by l = 16 * l.deep + 7

abbrev pub decreases-assigning::compute_name : goal.decreases-assigning::compute_name
decreases-assigning::compute_name l = 16 * l.deep + 4

abbrev pub decreases-assigning::compute_any : goal.decreases-assigning::compute_any
decreases-assigning::compute_any l = 16 * l.deep + 3

abbrev pub decreases-assigning::compute_with : goal.decreases-assigning::compute_with
decreases-assigning::compute_with l = 16 * l.deep + 2

abbrev pub decreases-assigning::assign_name : goal.decreases-assigning::assign_name
decreases-assigning::assign_name l = 16 * l.deep + 2

abbrev pub decreases-assigning::assign_any : goal.decreases-assigning::assign_any
decreases-assigning::assign_any l = 16 * l.deep + 6

abbrev pub decreases-assigning::assign_reached : goal.decreases-assigning::assign_reached
decreases-assigning::assign_reached l = 16 * l.deep + 5

abbrev pub decreases-assigning::assign_value : goal.decreases-assigning::assign_value
decreases-assigning::assign_value l = 16 * l.deep + 4

abbrev pub decreases-assigning::assign_written : goal.decreases-assigning::assign_written
decreases-assigning::assign_written l = 16 * l.deep + 2

abbrev pub decreases-assigning::assign_computed : goal.decreases-assigning::assign_computed
decreases-assigning::assign_computed l = 16 * l.deep + 3

abbrev pub decreases-assigning::assign_with : goal.decreases-assigning::assign_with
decreases-assigning::assign_with l = 16 * l.deep + 2

abbrev pub decreases-blocks::block_on : goal.decreases-blocks::block_on
decreases-blocks::block_on l = 16 * l.deep + 2

abbrev pub decreases-blocks::list_on : goal.decreases-blocks::list_on
decreases-blocks::list_on l = 16 * l.deep + 1

-- the statements from one on are still to be done
abbrev pub invariant-blocks::list_on-list : goal.invariant-blocks::list_on-list
invariant-blocks::list_on-list l =
    let fs = trees_of l.here.site.now.codes.now.items in
    let w = l.here.site.now.widget in
    Towards fs w l.fn.store l.store (block_at fs w l.fn.store.cells l.fn.block 0 l.here.at) (block_at fs w l.store.cells l.block l.n l.here.at) l.fn.run l.run
    × Kept fs w l.fn.store l.store × IsBlockAt fs w l.store.cells l.block l.here.at

abbrev pub decreases-blocks::list_on-list : goal.decreases-blocks::list_on-list
decreases-blocks::list_on-list l = length l.list.items - l.n

abbrev pub decreases-blocks::any_on : goal.decreases-blocks::any_on
decreases-blocks::any_on l = 16 * l.deep + 1

-- the statements from one on are still to be done
abbrev pub invariant-blocks::any_on-list : goal.invariant-blocks::any_on-list
invariant-blocks::any_on-list l =
    let fs = trees_of l.here.site.now.codes.now.items in
    let w = l.here.site.now.widget in
    Towards fs w l.fn.store l.store (block_at fs w l.fn.store.cells l.fn.from.0 l.fn.from.1 l.here.at) (block_at fs w l.store.cells l.at l.n l.here.at) l.fn.run l.run
    × Kept fs w l.fn.store l.store × IsBlockAt fs w l.store.cells l.at l.here.at

abbrev pub decreases-blocks::any_on-list : goal.decreases-blocks::any_on-list
decreases-blocks::any_on-list l = length (drop l.n (block_list (forest_at (trees_of l.here.site.now.codes.now.items) l.here.at.code) l.at))

abbrev pub decreases-calls::call_on : goal.decreases-calls::call_on
decreases-calls::call_on l = 16 * l.deep + 12

abbrev pub decreases-calls::call_name : goal.decreases-calls::call_name
decreases-calls::call_name l = 16 * l.deep + 8

abbrev pub decreases-calls::called_name : goal.decreases-calls::called_name
decreases-calls::called_name l = 16 * l.deep + 7

abbrev pub decreases-calls::call_any : goal.decreases-calls::call_any
decreases-calls::call_any l = 16 * l.deep + 11

abbrev pub decreases-calls::called_any : goal.decreases-calls::called_any
decreases-calls::called_any l = 16 * l.deep + 10

abbrev pub decreases-calls::reached_on : goal.decreases-calls::reached_on
decreases-calls::reached_on l = 16 * l.deep + 9

abbrev pub decreases-calls::method_on : goal.decreases-calls::method_on
decreases-calls::method_on l = 16 * l.deep + 8

abbrev pub decreases-calls::arguments_on : goal.decreases-calls::arguments_on
decreases-calls::arguments_on l = 16 * l.deep + 2

abbrev pub decreases-calls::arguments_on-arguments : goal.decreases-calls::arguments_on-arguments
decreases-calls::arguments_on-arguments l = length (arguments_of (expr_at (forest_at (trees_of l.here.site.now.codes.now.items) l.here.at.code) l.id)) - l.n

abbrev pub invariant-calls::arguments_on-arguments : goal.invariant-calls::arguments_on-arguments
invariant-calls::arguments_on-arguments l = record {
  argued : Argued (trees_of l.here.site.now.codes.now.items) l.here.site.now.widget (arguments_of (expr_at (forest_at (trees_of l.here.site.now.codes.now.items) l.here.at.code) l.id))
      (place_of l.here.site.now.widget l.fn.store.cells l.here.at) l.fn.store l.store l.args.items l.fn.run l.run;
  kept : Kept (trees_of l.here.site.now.codes.now.items) l.here.site.now.widget l.fn.store l.store;
  counted : l.n ≡ length l.args.items;
}

abbrev pub decreases-calls::variable_on : goal.decreases-calls::variable_on
decreases-calls::variable_on l = 16 * l.deep + 6

abbrev pub decreases-calls::referred_on : goal.decreases-calls::referred_on
decreases-calls::referred_on l = 16 * l.deep + 7

abbrev pub decreases-catching::try_on : goal.decreases-catching::try_on
decreases-catching::try_on l = 16 * l.deep + 8

abbrev pub decreases-catching::tried_on : goal.decreases-catching::tried_on
decreases-catching::tried_on l = 16 * l.deep + 7

abbrev pub decreases-catching::caught_on : goal.decreases-catching::caught_on
decreases-catching::caught_on l = 16 * l.deep + 6

abbrev pub decreases-catching::thrown_on : goal.decreases-catching::thrown_on
decreases-catching::thrown_on l = 16 * l.deep + 5

abbrev pub decreases-catching::catch_on : goal.decreases-catching::catch_on
decreases-catching::catch_on l = 16 * l.deep + 4

abbrev pub decreases-catching::catch_in : goal.decreases-catching::catch_in
decreases-catching::catch_in l = 16 * l.deep + 3

abbrev pub decreases-catching::finally_on : goal.decreases-catching::finally_on
decreases-catching::finally_on l = 16 * l.deep + 3

abbrev pub decreases-choosing::switch_on : goal.decreases-choosing::switch_on
decreases-choosing::switch_on l = 16 * l.deep + 4

abbrev pub decreases-choosing::valued_on : goal.decreases-choosing::valued_on
decreases-choosing::valued_on l = 16 * l.deep + 3

abbrev pub decreases-choosing::clauses_on : goal.decreases-choosing::clauses_on
decreases-choosing::clauses_on l = 16 * l.deep + 2

-- the tests from one on are still to be done
abbrev pub invariant-choosing::clauses_on-tests : goal.invariant-choosing::clauses_on-tests
invariant-choosing::clauses_on-tests l =
    let fs = trees_of l.here.site.now.codes.now.items in
    let w = l.here.site.now.widget in
    let all = clauses_of (stmt_at (forest_at fs l.here.at.code) l.fn.from.0) in
    Towards fs w l.fn.store l.store (choose_case (seen w l.fn.store.cells l.fn.value) all (drop l.fn.from.1 all) (place_of w l.fn.store.cells l.here.at))
    (choose_case (seen w l.store.cells l.value) all (drop l.n all) (place_of w l.store.cells l.here.at)) l.fn.run l.run
    × Kept fs w l.fn.store l.store × IsStmtAt fs w l.store.cells l.fn.from.0 l.here.at × IsFine w l.store.cells l.value

abbrev pub decreases-choosing::clauses_on-tests : goal.decreases-choosing::clauses_on-tests
decreases-choosing::clauses_on-tests l = l.run.units

abbrev pub decreases-entering::value_far : goal.decreases-entering::value_far
decreases-entering::value_far l = 16 * l.deep + 6

abbrev pub decreases-entering::value_on : goal.decreases-entering::value_on
decreases-entering::value_on l = 16 * l.deep + 5

abbrev pub decreases-entering::enter_on : goal.decreases-entering::enter_on
decreases-entering::enter_on l = 16 * l.deep + 4

abbrev pub decreases-entering::body_on : goal.decreases-entering::body_on
decreases-entering::body_on l = 16 * l.deep + 3

abbrev pub decreases-forms::eval_on : goal.decreases-forms::eval_on
decreases-forms::eval_on l = 16 * l.deep + 0

abbrev pub decreases-forms::operand_on : goal.decreases-forms::operand_on
decreases-forms::operand_on l = 16 * l.deep + 1

abbrev pub decreases-forms::condition_on : goal.decreases-forms::condition_on
decreases-forms::condition_on l = 16 * l.deep + 2

abbrev pub decreases-forms::form_on : goal.decreases-forms::form_on
decreases-forms::form_on l = 16 * l.deep + 13

abbrev pub decreases-forms::unary_form : goal.decreases-forms::unary_form
decreases-forms::unary_form l = 16 * l.deep + 3

abbrev pub decreases-looping::again_on : goal.decreases-looping::again_on
decreases-looping::again_on l = 16 * l.deep + 8

abbrev pub decreases-looping::test_on : goal.decreases-looping::test_on
decreases-looping::test_on l = 16 * l.deep + 4

abbrev pub decreases-looping::tested_on : goal.decreases-looping::tested_on
decreases-looping::tested_on l = 16 * l.deep + 3

abbrev pub decreases-looping::passes_on : goal.decreases-looping::passes_on
decreases-looping::passes_on l = 16 * l.deep + 8

abbrev pub decreases-looping::passes_by : goal.decreases-looping::passes_by
decreases-looping::passes_by l = 16 * l.deep + 7

-- another pass is still to be done
abbrev pub invariant-looping::passes_by-passes : goal.invariant-looping::passes_by-passes
invariant-looping::passes_by-passes l =
    let fs = trees_of l.here.site.now.codes.now.items in
    let w = l.here.site.now.widget in
    Towards fs w l.fn.store l.store (λ s. Do (job_of fs w l.fn.store.cells (job.Pass l.id l.here.at)) s Ret) (λ s. Do (job_of fs w l.store.cells (job.Pass l.id l.here.at)) s Ret) l.fn.run l.run
    × Kept fs w l.fn.store l.store × IsStmtAt fs w l.store.cells l.id l.here.at

abbrev pub decreases-looping::passes_by-passes : goal.decreases-looping::passes_by-passes
decreases-looping::passes_by-passes l = l.run.units

abbrev pub decreases-looping::pass_on : goal.decreases-looping::pass_on
decreases-looping::pass_on l = 16 * l.deep + 6

abbrev pub decreases-looping::looped_on : goal.decreases-looping::looped_on
decreases-looping::looped_on l = 16 * l.deep + 3

abbrev pub decreases-looping::next_on : goal.decreases-looping::next_on
decreases-looping::next_on l = 16 * l.deep + 5

abbrev pub decreases-looping::expressions_on : goal.decreases-looping::expressions_on
decreases-looping::expressions_on l = 16 * l.deep + 2

-- the expressions from one on are still to be done
abbrev pub invariant-looping::expressions_on-list : goal.invariant-looping::expressions_on-list
invariant-looping::expressions_on-list l =
    let fs = trees_of l.here.site.now.codes.now.items in
    let w = l.here.site.now.widget in
    let es = part_of l.part (stmt_at (forest_at fs l.here.at.code) l.id) in
    Towards fs w l.fn.store l.store (expressions es (place_of w l.fn.store.cells l.here.at)) (expressions (drop l.n es) (place_of w l.store.cells l.here.at)) l.fn.run l.run
    × Kept fs w l.fn.store l.store × IsStmtAt fs w l.store.cells l.id l.here.at

abbrev pub decreases-looping::expressions_on-list : goal.decreases-looping::expressions_on-list
decreases-looping::expressions_on-list l = length (drop l.n (part_of l.part (stmt_at (forest_at (trees_of l.here.site.now.codes.now.items) l.here.at.code) l.id)))

abbrev pub decreases-names::for_in_on : goal.decreases-names::for_in_on
decreases-names::for_in_on l = 16 * l.deep + 7

abbrev pub decreases-names::over_on : goal.decreases-names::over_on
decreases-names::over_on l = 16 * l.deep + 6

abbrev pub decreases-names::listed_on : goal.decreases-names::listed_on
decreases-names::listed_on l = 16 * l.deep + 5

abbrev pub decreases-names::names_on : goal.decreases-names::names_on
decreases-names::names_on l = 16 * l.deep + 4

abbrev pub decreases-names::pass_in_on : goal.decreases-names::pass_in_on
decreases-names::pass_in_on l = 16 * l.deep + 3

-- the passes from a place on are still to be done
abbrev pub invariant-names::names_on-passes : goal.invariant-names::names_on-passes
invariant-names::names_on-passes l =
    let fs = trees_of l.here.site.now.codes.now.items in
    let w = l.here.site.now.widget in
    Towards fs w l.fn.store l.store (taken fs w l.fn.store.cells (frame.Statement (statement.ForInNext l.fn.names l.here.at)) meaning.Normal)
    (taken fs w l.store.cells (frame.Statement (statement.ForInNext l.names l.here.at)) meaning.Normal) l.fn.run l.run
    × Kept fs w l.fn.store l.store × FineNames fs w l.store.cells l.names.value l.here.at

abbrev pub decreases-names::names_on-passes : goal.decreases-names::names_on-passes
decreases-names::names_on-passes l = l.run.units

abbrev pub decreases-objects::object_on : goal.decreases-objects::object_on
decreases-objects::object_on l = 16 * l.deep + 4

abbrev pub decreases-objects::properties_on : goal.decreases-objects::properties_on
decreases-objects::properties_on l = 16 * l.deep + 3

-- the properties before the next one are in the object
abbrev pub invariant-objects::properties_on-properties : goal.invariant-objects::properties_on-properties
invariant-objects::properties_on-properties l =
    record {
      goes : GoesOn (trees_of l.here.site.now.codes.now.items) l.here.site.now.widget l.initial.store l.store
          (object_parts (seen l.here.site.now.widget l.initial.store.cells (value.Ref l.object)) (properties_of (expr_at (forest_at (trees_of l.here.site.now.codes.now.items) l.here.at.code) l.id)) (place_of l.here.site.now.widget l.initial.store.cells l.here.at))
          (object_parts (seen l.here.site.now.widget l.store.cells (value.Ref l.object)) (drop l.n (properties_of (expr_at (forest_at (trees_of l.here.site.now.codes.now.items) l.here.at.code) l.id))) (place_of l.here.site.now.widget l.store.cells l.here.at))
          l.initial.run l.run;
      ready : IsReady (trees_of l.here.site.now.codes.now.items) l.here.site.now.widget l.store l.run;
      held : IsHeld l.here.site.now.widget l.store.cells l.object × IsExprAt (trees_of l.here.site.now.codes.now.items) l.here.site.now.widget l.store.cells l.id l.here.at;
      kept : Kept (trees_of l.here.site.now.codes.now.items) l.here.site.now.widget l.initial.store l.store;
    }

abbrev pub decreases-objects::properties_on-properties : goal.decreases-objects::properties_on-properties
decreases-objects::properties_on-properties l = length (drop l.n (properties_of (expr_at (forest_at (trees_of l.here.site.now.codes.now.items) l.here.at.code) l.id)))

abbrev pub decreases-objects::property_part_on : goal.decreases-objects::property_part_on
decreases-objects::property_part_on l = 16 * l.deep + 2

abbrev pub decreases-operators::binary_on : goal.decreases-operators::binary_on
decreases-operators::binary_on l = 16 * l.deep + 4

abbrev pub decreases-operators::binary_with : goal.decreases-operators::binary_with
decreases-operators::binary_with l = 16 * l.deep + 3

abbrev pub decreases-operators::right_on : goal.decreases-operators::right_on
decreases-operators::right_on l = 16 * l.deep + 2

abbrev pub decreases-operators::and_on : goal.decreases-operators::and_on
decreases-operators::and_on l = 16 * l.deep + 3

abbrev pub decreases-operators::and_right : goal.decreases-operators::and_right
decreases-operators::and_right l = 16 * l.deep + 2

abbrev pub decreases-operators::or_on : goal.decreases-operators::or_on
decreases-operators::or_on l = 16 * l.deep + 3

abbrev pub decreases-operators::or_right : goal.decreases-operators::or_right
decreases-operators::or_right l = 16 * l.deep + 2

abbrev pub decreases-operators::choose_on : goal.decreases-operators::choose_on
decreases-operators::choose_on l = 16 * l.deep + 3

abbrev pub decreases-operators::chosen_on : goal.decreases-operators::chosen_on
decreases-operators::chosen_on l = 16 * l.deep + 2

abbrev pub decreases-operators::unary_on : goal.decreases-operators::unary_on
decreases-operators::unary_on l = 16 * l.deep + 2

abbrev pub decreases-properties::dot_on : goal.decreases-properties::dot_on
decreases-properties::dot_on l = 16 * l.deep + 2

abbrev pub decreases-properties::sub_on : goal.decreases-properties::sub_on
decreases-properties::sub_on l = 16 * l.deep + 4

abbrev pub decreases-properties::sub_with : goal.decreases-properties::sub_with
decreases-properties::sub_with l = 16 * l.deep + 3

abbrev pub decreases-properties::subscript_on : goal.decreases-properties::subscript_on
decreases-properties::subscript_on l = 16 * l.deep + 2

abbrev pub decreases-statements::exec_on : goal.decreases-statements::exec_on
decreases-statements::exec_on l = 16 * l.deep + 0

abbrev pub decreases-statements::begun_on : goal.decreases-statements::begun_on
decreases-statements::begun_on l = 16 * l.deep + 11

abbrev pub decreases-statements::statement_on : goal.decreases-statements::statement_on
decreases-statements::statement_on l = 16 * l.deep + 10

abbrev pub decreases-statements::ending_on : goal.decreases-statements::ending_on
decreases-statements::ending_on l = 16 * l.deep + 2

abbrev pub decreases-statements::if_on : goal.decreases-statements::if_on
decreases-statements::if_on l = 16 * l.deep + 4

abbrev pub decreases-statements::branch_on : goal.decreases-statements::branch_on
decreases-statements::branch_on l = 16 * l.deep + 3

abbrev pub decreases-statements::declared_on : goal.decreases-statements::declared_on
decreases-statements::declared_on l = 16 * l.deep + 9

abbrev pub decreases-statements::listed_on : goal.decreases-statements::listed_on
decreases-statements::listed_on l = 16 * l.deep + 9

abbrev pub decreases-statements::declarations_on : goal.decreases-statements::declarations_on
decreases-statements::declarations_on l = 16 * l.deep + 1

-- the declarations from one on are still to be done
abbrev pub invariant-statements::declarations_on-list : goal.invariant-statements::declarations_on-list
invariant-statements::declarations_on-list l =
    let fs = trees_of l.here.site.now.codes.now.items in
    let w = l.here.site.now.widget in
    let ds = decls_of (stmt_at (forest_at fs l.here.at.code) l.id) in
    Towards fs w l.fn.store l.store (declarations ds (place_of w l.fn.store.cells l.here.at)) (declarations (drop l.n ds) (place_of w l.store.cells l.here.at)) l.fn.run l.run
    × Kept fs w l.fn.store l.store × IsStmtAt fs w l.store.cells l.id l.here.at

abbrev pub decreases-statements::declarations_on-list : goal.decreases-statements::declarations_on-list
decreases-statements::declarations_on-list l = l.run.units

abbrev pub decreases-stepping::step_on : goal.decreases-stepping::step_on
decreases-stepping::step_on l = 16 * l.deep + 3

abbrev pub decreases-stepping::step_any : goal.decreases-stepping::step_any
decreases-stepping::step_any l = 16 * l.deep + 2

abbrev pub decreases-stepping::step_reached : goal.decreases-stepping::step_reached
decreases-stepping::step_reached l = 16 * l.deep + 1

abbrev pub decreases-targets::delete_on : goal.decreases-targets::delete_on
decreases-targets::delete_on l = 16 * l.deep + 2

abbrev pub decreases-targets::deleted_on : goal.decreases-targets::deleted_on
decreases-targets::deleted_on l = 16 * l.deep + 1

abbrev pub decreases-targets::target_on : goal.decreases-targets::target_on
decreases-targets::target_on l = 16 * l.deep + 0

abbrev pub decreases-targets::target_of : goal.decreases-targets::target_of
decreases-targets::target_of l = 16 * l.deep + 15

abbrev pub decreases-targets::dot_target : goal.decreases-targets::dot_target
decreases-targets::dot_target l = 16 * l.deep + 2

abbrev pub decreases-targets::sub_target : goal.decreases-targets::sub_target
decreases-targets::sub_target l = 16 * l.deep + 4

abbrev pub decreases-targets::index_target : goal.decreases-targets::index_target
decreases-targets::index_target l = 16 * l.deep + 3

abbrev pub decreases-targets::index_of_target : goal.decreases-targets::index_of_target
decreases-targets::index_of_target l = 16 * l.deep + 2

abbrev pub decreases-targets::found_target : goal.decreases-targets::found_target
decreases-targets::found_target l = 16 * l.deep + 14

abbrev pub decreases-natives::native_on : goal.decreases-natives::native_on
decreases-natives::native_on l = 16 * l.deep + 4

abbrev pub decreases-natives::given_on : goal.decreases-natives::given_on
decreases-natives::given_on l = 16 * l.deep + 3

abbrev pub decreases-natives::called_on : goal.decreases-natives::called_on
decreases-natives::called_on l = 16 * l.deep + 2

abbrev pub decreases-gathering::gather_on : goal.decreases-gathering::gather_on
decreases-gathering::gather_on l = 16 * l.deep + 1

-- the items that have results were called with
abbrev pub invariant-gathering::gather_on-items : goal.invariant-gathering::gather_on-items
invariant-gathering::gather_on-items l =
    record {
      goes : GoesOn (trees_of l.site.codes.now.items) l.site.widget l.initial.store l.store (gather_left l.site.widget l.initial.store.cells l.initial.g.value) (gather_left l.site.widget l.store.cells l.g.value) l.initial.run l.run;
      ready : IsReady (trees_of l.site.codes.now.items) l.site.widget l.store l.run;
      held : FineGathering l.site.widget l.store.cells l.g.value;
      kept : Kept (trees_of l.site.codes.now.items) l.site.widget l.initial.store l.store;
    }

abbrev pub decreases-gathering::gather_on-items : goal.decreases-gathering::gather_on-items
decreases-gathering::gather_on-items l = length l.g.value.items.items - length l.g.value.results.items

abbrev pub decreases-gathering::item_on : goal.decreases-gathering::item_on
decreases-gathering::item_on l = 16 * l.deep + 0
