use Rattle.std.proofs.Common.{rules, [], ◌∷◌, ◌++◌, false, refl, ap, sym, ◌∙◌, arith}
use Rattle.std.proofs.lemmas.Result.{err_from_is_err_and}
use Rattle.js_tree.specs.Forest.{expr_at}
use Rattle.js_tree.specs.Trees.{trees}
use Rattle.js_grammar.specs.declared.Sign.TheVariants as sign
use Rattle.js_grammar.specs.Machine.{Wants, Gives, PrimaryAt, Tail, NewTail, Target, Rest, Choice, Commas, expr}
use Rattle.js_cursor.specs.Reads.{lexeme_at}
use Rattle.js_descent.proofs.Joins.{reads_then, reads_in, refuses_then}
use Rattle.js_descent.proofs.Exprs.{same_sign, ready_next, refuses_in, on_in, on_with, paren_refused, paren_unclosed, paren_ends, array_refused, array_unclosed, array_ends, function_refused, function_ends, point_refused, point_reads, square_deep, square_refused, square_unclosed, square_ends, call_refused, call_unclosed, call_ends, new_refused, new_unclosed, new_ends, new_operand_refused, new_with_ends, new_alone_ends, head_ends, tails_end, prefix_deep, prefix_refused, prefix_ends, operand_prefixed, operand_assigned, operand_ends, operand_refused, operators_refused, operators_ends, joined_refused, joined_ends, chain_begin, chain_ends, chain_more, chain_refused, choice_refused, choice_unmarked, choice_third_refused, choice_ends, no_choice, assign_deep, assign_refused, assign_ends, assignment_prefixed, assignment_assigned, assignment_stepped, assignment_unstepped, assignment_refused, comma_refused, comma_ends, commas_end}
use Rattle.js_descent.proofs.ExprLists.{items_none, items_begin, items_refused, items_end, items_more, property_no_key, property_no_colon, property_refused, property_ends, keys_none, keys_begin, keys_refused, keys_end, keys_more, object_refused, object_ends}
use Rattle.js_descent.proofs.Steps.{marked_refused, marked_unmarked, marked_reads, test_unopened, test_deep, test_result, block_unopened, block_deep, block_refused, block_unclosed, block_reads, while_refused, while_body, while_ends, with_refused, with_body, with_ends, if_refused, if_then, if_other, if_ends, do_refused, do_no_while, do_test, do_unmarked, do_ends, if_parts, else_none, else_block, else_if_deep, else_if_refused, else_if_reads, throw_refused, throw_ends, return_refused, return_ends, only_refused, only_ends, var_refused, var_unmarked, var_ends}
use Rattle.js_descent.proofs.Loops.{statements_begin, statements_end, statements_more, statements_refused, labels_left, labels_refused, labels_step, labels_all, decls_begin, decls_unnamed, decl_refused, decls_end, decls_more, body_fun, body_fun_refused, body_stmt, body_stmt_refused}
use Rattle.js_descent.proofs.Codes.{code_unopened, code_deep, code_params, code_unbraced, code_inside, code_ends, decl_unnamed, decl_result, init_none, init_refused, init_value}
use Rattle.js_descent.proofs.Cases.{cases_begin, cases_end, case_refused, case_inside, case_more, default_unmarked, default_inside, default_more, switch_refused, switch_unopened, switch_deep, switch_inside, switch_unclosed, switch_parts, switch_ends}
use Rattle.js_descent.proofs.Fors.{plus_one, for_unopened, for_deep, for_other, for_over, over_refused, over_body, over_ends, vars_refused, vars_unmarked, vars_reads, list_refused, list_unmarked, list_reads, second_none, second_refused, second_reads, third_refused, third_unmarked, third_reads, loop_second, loop_third, loop_block, loop_parts, loop_ends}
use Rattle.std.proofs.lemmas.List.{nil_from_length}
use Rattle.js_descent.proofs.Lists.{stmts_kept_all}
use Rattle.js_descent.proofs.Tries.{caught_unopened, caught_deep, caught_unnamed, caught_unclosed, caught_refused, caught_reads, try_refused, final_refused, final_ends, final_parts, catch_refused, catch_ends, catch_parts, both_refused, both_ends, both_parts}
use Rattle.js_descent.proofs.+parser.Goals as goal

pub expressions::paren-returns-in_err-id : goal.expressions::paren-returns-in_err-id
expressions::paren-returns-in_err-id t c =
    let p = err_from_is_err_and c.from_residual-in_err-id.result c.from_residual-in_err-id.ensures.1 in
    rw (p.1, p.2) (paren_refused _ _ _ _ (trees c.args.tree.now) c.in_ok-inner.ensures.0 c.in_ok-inner.ensures.1 c.requires.here _ c.in_err-id.ensures)

pub expressions::paren-returns-in_err-next : goal.expressions::paren-returns-in_err-next
expressions::paren-returns-in_err-next t c =
    let p = err_from_is_err_and c.from_residual-in_err-next.result c.from_residual-in_err-next.ensures.1 in
    rw (p.1, p.2, c.in_err-next.ensures.0) (paren_unclosed _ _ _ _ _ c.in_ok-inner.ensures.0 c.in_ok-inner.ensures.1 c.requires.here _ _ _ c.in_ok-id.ensures c.in_err-next.ensures.1)

pub expressions::paren-returns : goal.expressions::paren-returns
expressions::paren-returns t c = paren_ends _ _ _ _ _ c.in_ok-inner.ensures.0 c.in_ok-inner.ensures.1 c.requires.here _ _ _ _ c.in_ok-id.ensures c.in_ok-next.ensures.1 c.in_ok-next.ensures.0 c.in_ok-next.ensures.2

pub expressions::array-returns-in_err-list : goal.expressions::array-returns-in_err-list
expressions::array-returns-in_err-list t c =
    let p = err_from_is_err_and c.from_residual-in_err-list.result c.from_residual-in_err-list.ensures.1 in
    rw (p.1, p.2) (array_refused _ _ _ _ (trees c.args.tree.now) c.in_ok-inner.ensures.0 c.in_ok-inner.ensures.1 c.requires.here _ c.in_err-list.ensures)

pub expressions::array-returns-in_err-next : goal.expressions::array-returns-in_err-next
expressions::array-returns-in_err-next t c =
    let p = err_from_is_err_and c.from_residual-in_err-next.result c.from_residual-in_err-next.ensures.1 in
    rw (p.1, p.2, c.in_err-next.ensures.0) (array_unclosed _ _ _ _ _ c.in_ok-inner.ensures.0 c.in_ok-inner.ensures.1 c.requires.here _ _ c.in_ok-list.list.items c.in_ok-list.ensures c.in_err-next.ensures.1)

pub expressions::array-returns : goal.expressions::array-returns
expressions::array-returns t c = array_ends _ _ _ _ _ c.in_ok-inner.ensures.0 c.in_ok-inner.ensures.1 c.requires.here _ _ _ _ c.in_ok-list.list.items _ _ c.in_ok-list.ensures c.in_ok-next.ensures.1 c.in_ok-next.ensures.0 c.in_ok-next.ensures.2 c.place-place.ensures c.add_plain.ensures

pub expressions::object-returns-in_err-list : goal.expressions::object-returns-in_err-list
expressions::object-returns-in_err-list t c =
    let p = err_from_is_err_and c.from_residual-in_err-list.result c.from_residual-in_err-list.ensures.1 in
    rw (p.1, p.2) (object_refused _ _ _ _ (trees c.args.tree.now) c.requires.here c.in_ok-inner.ensures.0 c.in_ok-inner.ensures.1 _ c.in_err-list.ensures)

pub expressions::object-returns : goal.expressions::object-returns
expressions::object-returns t c = object_ends _ _ _ _ _ c.requires.here c.in_ok-inner.ensures.0 c.in_ok-inner.ensures.1 _ _ _ c.in_ok-list.list.items c.in_ok-list.names.items _ _ c.in_ok-list.ensures c.place-place.ensures c.add.ensures

pub expressions::property-returns-in_err-name : goal.expressions::property-returns-in_err-name
expressions::property-returns-in_err-name t c =
    let p = err_from_is_err_and c.from_residual.result c.from_residual.ensures.1 in
    rw (p.1, p.2) (property_no_key _ _ _ _ _ c.requires c.in_err-name.ensures)

pub expressions::property-returns-in_err-first : goal.expressions::property-returns-in_err-first
expressions::property-returns-in_err-first t c =
    let p = err_from_is_err_and c.from_residual-in_err-first.result c.from_residual-in_err-first.ensures.1 in
    rw (p.1, p.2, c.in_err-first.ensures.0) (property_no_colon _ _ _ _ c.requires c.in_ok-name.ensures.2 c.in_ok-name.ensures.1 c.in_err-first.ensures.1)

pub expressions::property-returns-in_err-id : goal.expressions::property-returns-in_err-id
expressions::property-returns-in_err-id t c =
    let p = err_from_is_err_and c.from_residual-in_err-id.result c.from_residual-in_err-id.ensures.1 in
    rw (p.1, p.2) (property_refused _ _ _ _ c.requires c.in_ok-name.ensures.2 _ c.in_ok-first.ensures.1 c.in_ok-first.ensures.0 _ c.in_err-id.ensures)

pub expressions::property-returns : goal.expressions::property-returns
expressions::property-returns t c = property_ends _ _ _ _ c.requires c.in_ok-name.ensures.2 _ c.in_ok-first.ensures.1 c.in_ok-first.ensures.0 _ _ _ _ c.in_ok-name.ensures.0 c.in_ok-id.ensures

pub expressions::keys-returns-in-CloseBrace : goal.expressions::keys-returns-in-CloseBrace
expressions::keys-returns-in-CloseBrace t c = keys_none _ _ _ _ _ _ c.requires c.in-CloseBrace.ensures.here (c.in-CloseBrace.ensures.inside (λ e. cc)) c.new-list.ensures.items c.new-names.ensures.items

pub expressions::keys-keys-init : goal.expressions::keys-keys-init
expressions::keys-keys-init t c = keys_begin _ _ _ _ _ _ _ c.requires c.peek.ensures.here c.in_default.not-CloseBrace c.new-list.ensures.items c.new-names.ensures.items

pub expressions::keys-returns-in_err-name : goal.expressions::keys-returns-in_err-name
expressions::keys-returns-in_err-name t c =
    let p = err_from_is_err_and c.from_residual.result c.from_residual.ensures.1 in
    rw (p.1, p.2) (keys_refused _ _ _ _ _ _ _ _ _ c.keys.invariant c.in_err-name.ensures)

pub expressions::keys-returns-in-CloseBrace-peek : goal.expressions::keys-returns-in-CloseBrace-peek
expressions::keys-returns-in-CloseBrace-peek t c = rw c.in_ok-push.ensures.items (keys_end c.args.depth c.args.script.now c.args.at c.keys.place _ _ _ _ c.keys.list.items c.keys.names.items _ _ c.keys.invariant c.in_ok-name.ensures _ (c.in_ok-push-2.ensures.items ∙ ap (λ p. c.keys.names.items ++ p ∷ []) c.place.ensures) c.in-CloseBrace-peek.ensures.here (c.in-CloseBrace-peek.ensures.inside (λ e. cc)))

pub expressions::keys-keys-preserved : goal.expressions::keys-keys-preserved
expressions::keys-keys-preserved t c = rw c.in_ok-push.ensures.items (keys_more c.args.depth c.args.script.now c.args.at c.keys.place _ _ _ _ c.keys.list.items c.keys.names.items _ _ c.keys.invariant c.in_ok-name.ensures _ (c.in_ok-push-2.ensures.items ∙ ap (λ p. c.keys.names.items ++ p ∷ []) c.place.ensures) c.in-Comma.ensures.here (c.in-Comma.ensures.inside (λ e. cc)))

pub expressions::function-returns-in_err-fun : goal.expressions::function-returns-in_err-fun
expressions::function-returns-in_err-fun t c =
    let p = err_from_is_err_and c.from_residual.result c.from_residual.ensures.1 in
    rw (p.1, p.2) (function_refused _ _ _ _ _ (trees c.args.tree.now) c.requires.ready c.requires.here c.own_name-own.ensures _ c.in_err-fun.ensures)

pub expressions::function-returns : goal.expressions::function-returns
expressions::function-returns t c = function_ends _ _ _ _ _ _ c.requires.ready c.requires.here c.own_name-own.ensures _ _ _ _ _ _ c.in_ok-fun.ensures c.place-place.ensures c.add_plain.ensures

pub expressions::subscript-returns-in_err-inner : goal.expressions::subscript-returns-in_err-inner
expressions::subscript-returns-in_err-inner t c =
    let p = err_from_is_err_and c.from_residual.result c.from_residual.ensures.1 in
    rw (p.1, p.2, c.in_err-inner.ensures.0) (square_deep _ _ _ (expr_at (trees c.args.tree.now) c.args.left) c.requires.ready.in_text c.in_err-inner.ensures.1 c.requires.here)

pub expressions::subscript-returns-in_err-index : goal.expressions::subscript-returns-in_err-index
expressions::subscript-returns-in_err-index t c =
    let p = err_from_is_err_and c.from_residual-in_err-index.result c.from_residual-in_err-index.ensures.1 in
    rw (p.1, p.2) (λ f tail. square_refused _ _ _ _ (expr_at (trees c.args.tree.now) c.args.left) c.requires.here c.in_ok-inner.ensures.0 c.in_ok-inner.ensures.1 f tail _ c.in_err-index.ensures)

pub expressions::subscript-returns-in_err-next : goal.expressions::subscript-returns-in_err-next
expressions::subscript-returns-in_err-next t c =
    let p = err_from_is_err_and c.from_residual-in_err-next.result c.from_residual-in_err-next.ensures.1 in
    rw (p.1, p.2, c.in_err-next.ensures.0) (λ f tail. square_unclosed _ _ _ _ (expr_at (trees c.args.tree.now) c.args.left) c.requires.here c.in_ok-inner.ensures.0 c.in_ok-inner.ensures.1 f tail _ _ _ _ c.in_ok-index.ensures c.in_err-next.ensures.1)

pub expressions::subscript-returns : goal.expressions::subscript-returns
expressions::subscript-returns t c = square_ends _ _ _ _ _ _ _ _ _ c.args.left c.in_ok-index.index _ _ c.requires.left c.requires.here c.in_ok-inner.ensures.0 c.in_ok-inner.ensures.1 c.in_ok-index.ensures c.in_ok-next.ensures.1 c.in_ok-next.ensures.0 c.in_ok-next.ensures.2 c.expr_at-place.ensures c.add_plain.ensures

pub expressions::call-returns-in_err-list : goal.expressions::call-returns-in_err-list
expressions::call-returns-in_err-list t c =
    let p = err_from_is_err_and c.from_residual-in_err-list.result c.from_residual-in_err-list.ensures.1 in
    rw (p.1, p.2) (call_refused _ _ _ _ (expr_at (trees c.args.tree.now) c.args.left) c.requires.here c.in_ok-inner.ensures.0 c.in_ok-inner.ensures.1 _ c.in_err-list.ensures)

pub expressions::call-returns-in_err-next : goal.expressions::call-returns-in_err-next
expressions::call-returns-in_err-next t c =
    let p = err_from_is_err_and c.from_residual-in_err-next.result c.from_residual-in_err-next.ensures.1 in
    rw (p.1, p.2, c.in_err-next.ensures.0) (call_unclosed _ _ _ _ (expr_at (trees c.args.tree.now) c.args.left) c.requires.here c.in_ok-inner.ensures.0 c.in_ok-inner.ensures.1 _ _ _ c.in_ok-list.list.items c.in_ok-list.ensures c.in_err-next.ensures.1)

pub expressions::call-returns : goal.expressions::call-returns
expressions::call-returns t c = call_ends _ _ _ _ _ _ _ _ _ c.args.left c.in_ok-list.list.items _ _ c.requires.left c.requires.here c.in_ok-inner.ensures.0 c.in_ok-inner.ensures.1 c.in_ok-list.ensures c.in_ok-next.ensures.1 c.in_ok-next.ensures.0 c.in_ok-next.ensures.2 c.expr_at-place.ensures c.add_plain.ensures

pub expressions::new_call-returns-in_err-list : goal.expressions::new_call-returns-in_err-list
expressions::new_call-returns-in_err-list t c =
    let p = err_from_is_err_and c.from_residual-in_err-list.result c.from_residual-in_err-list.ensures.1 in
    rw (p.1, p.2) (new_refused _ _ _ _ (expr_at (trees c.args.tree.now) c.args.left) c.requires.here c.in_ok-inner.ensures.0 c.in_ok-inner.ensures.1 _ _ c.in_err-list.ensures)

pub expressions::new_call-returns-in_err-next : goal.expressions::new_call-returns-in_err-next
expressions::new_call-returns-in_err-next t c =
    let p = err_from_is_err_and c.from_residual-in_err-next.result c.from_residual-in_err-next.ensures.1 in
    rw (p.1, p.2, c.in_err-next.ensures.0) (new_unclosed _ _ _ _ (expr_at (trees c.args.tree.now) c.args.left) c.requires.here c.in_ok-inner.ensures.0 c.in_ok-inner.ensures.1 _ _ _ _ c.in_ok-list.list.items c.in_ok-list.ensures c.in_err-next.ensures.1)

pub expressions::new_call-returns : goal.expressions::new_call-returns
expressions::new_call-returns t c = new_ends _ _ _ _ _ _ _ _ _ c.args.left c.in_ok-list.list.items _ _ c.requires.left c.requires.here c.in_ok-inner.ensures.0 c.in_ok-inner.ensures.1 c.in_ok-list.ensures c.in_ok-next.ensures.1 c.in_ok-next.ensures.0 c.in_ok-next.ensures.2 _ c.place-place.ensures c.add_plain.ensures

pub expressions::operand-returns-in_err-left : goal.expressions::operand-returns-in_err-left
expressions::operand-returns-in_err-left t c =
    let p = err_from_is_err_and c.from_residual.result c.from_residual.ensures.1 in
    rw (p.1, p.2) (refuses_in (λ k. Wants (PrimaryAt c.args.depth ∷ k)) _ _ (λ k. (NewTail c.args.depth (lexeme_at c.args.script.now c.args.word)) ∷ k) _ c.in_err-left.ensures)

pub expressions::operand-tails-init : goal.expressions::operand-tails-init
expressions::operand-tails-init t c = record { read = reads_in (λ k. (NewTail c.args.depth (lexeme_at c.args.script.now c.args.word)) ∷ k) c.in_ok-left.ensures; ready = ready_next _ c.requires.ready c.in_ok-left.ensures }

pub expressions::operand-returns-in_err-id-in-Point : goal.expressions::operand-returns-in_err-id-in-Point
expressions::operand-returns-in_err-id-in-Point t c =
    let p = err_from_is_err_and c.from_residual-in_err-id-in-Point.result c.from_residual-in_err-id-in-Point.ensures.1 in
    rw (p.1, p.2) (refuses_then _ c.tails.invariant.read (point_refused _ _ _ (NewTail c.args.depth (lexeme_at c.args.script.now c.args.word)) (expr_at (trees c.tails.tree) c.tails.left) refl c.requires.ready.shallow c.in-Point.ensures.here _ c.in_err-id-in-Point.ensures))

pub expressions::operand-tails-preserved-in-Point : goal.expressions::operand-tails-preserved-in-Point
expressions::operand-tails-preserved-in-Point t c = let more = point_reads _ _ _ (NewTail c.args.depth (lexeme_at c.args.script.now c.args.word)) (expr_at (trees c.tails.tree) c.tails.left) refl c.requires.ready.shallow c.in-Point.ensures.here _ _ _ _ c.in_ok-id-in-Point.ensures in record { read = reads_then c.tails.invariant.read more; ready = ready_next _ c.tails.invariant.ready more }

pub expressions::operand-returns-in_err-id-in-OpenSquare : goal.expressions::operand-returns-in_err-id-in-OpenSquare
expressions::operand-returns-in_err-id-in-OpenSquare t c =
    let p = err_from_is_err_and c.from_residual-in_err-id-in-OpenSquare.result c.from_residual-in_err-id-in-OpenSquare.ensures.1 in
    rw (p.1, p.2) (refuses_then _ c.tails.invariant.read (c.in_err-id-in-OpenSquare.ensures (NewTail c.args.depth (lexeme_at c.args.script.now c.args.word)) refl))

pub expressions::operand-tails-preserved : goal.expressions::operand-tails-preserved
expressions::operand-tails-preserved t c = let more = c.in_ok-id-in-OpenSquare.ensures (NewTail c.args.depth (lexeme_at c.args.script.now c.args.word)) refl in record { read = reads_then c.tails.invariant.read more; ready = ready_next _ c.tails.invariant.ready more }

pub expressions::operand-returns-in_default : goal.expressions::operand-returns-in_default
expressions::operand-returns-in_default t c = record { read = c.tails.invariant.read; stops = (_, c.peek.ensures.here, (c.in_default.not-Point, c.in_default.not-OpenSquare)) }

pub expressions::new_form-returns-in_err-left : goal.expressions::new_form-returns-in_err-left
expressions::new_form-returns-in_err-left t c =
    let p = err_from_is_err_and c.from_residual.result c.from_residual.ensures.1 in
    rw (p.1, p.2) (new_operand_refused _ _ _ (trees c.args.tree.now) c.requires.ready c.requires.here _ c.in_err-left.ensures)

pub expressions::new_form-returns-in-Open : goal.expressions::new_form-returns-in-Open
expressions::new_form-returns-in-Open t c = new_with_ends _ _ _ _ c.requires.ready c.requires.here _ _ _ _ _ c.in_ok-left.ensures c.new_call.ensures

pub expressions::new_form-returns-in_default : goal.expressions::new_form-returns-in_default
expressions::new_form-returns-in_default t c = new_alone_ends _ _ _ _ c.requires.ready c.requires.here _ _ _ _ _ c.new.result.items _ _ c.in_ok-left.ensures c.peek.ensures.here c.in_default.not-Open c.new.ensures.items c.place-place.ensures c.add_plain.ensures

pub expressions::head-returns-in_default : goal.expressions::head-returns-in_default
expressions::head-returns-in_default t c = head_ends _ _ _ _ _ _ _ c.requires.bare.1 c.requires.bare.2 (λ e. c.in_default.not-New (same_sign c.args.script.now c.args.at _ _ c.peek.ensures.here c.requires.bare.1 ∙ e)) c.primary.ensures

pub expressions::left_hand-tails-init : goal.expressions::left_hand-tails-init
expressions::left_hand-tails-init t c = record { read = c.in_ok-left.ensures; ready = ready_next _ c.requires.ready c.in_ok-left.ensures }

pub expressions::left_hand-returns-in_err-id-in-Point : goal.expressions::left_hand-returns-in_err-id-in-Point
expressions::left_hand-returns-in_err-id-in-Point t c =
    let p = err_from_is_err_and c.from_residual-in_err-id-in-Point.result c.from_residual-in_err-id-in-Point.ensures.1 in
    rw (p.1, p.2) (refuses_then _ c.tails.invariant.read (refuses_in (λ k. Gives (expr_at (trees c.tails.tree) c.tails.left) (Tail c.args.depth ∷ k)) _ _ (λ k. Target c.args.depth ∷ k) _ (point_refused _ _ _ (Tail c.args.depth) (expr_at (trees c.tails.tree) c.tails.left) refl c.requires.ready.shallow c.in-Point.ensures.here _ c.in_err-id-in-Point.ensures)))

pub expressions::left_hand-tails-preserved-in-Point : goal.expressions::left_hand-tails-preserved-in-Point
expressions::left_hand-tails-preserved-in-Point t c = let more = reads_in (λ k. Target c.args.depth ∷ k) (point_reads _ _ _ (Tail c.args.depth) (expr_at (trees c.tails.tree) c.tails.left) refl c.requires.ready.shallow c.in-Point.ensures.here _ _ _ _ c.in_ok-id-in-Point.ensures) in record { read = reads_then c.tails.invariant.read more; ready = ready_next _ c.tails.invariant.ready more }

pub expressions::left_hand-returns-in_err-id-in-OpenSquare : goal.expressions::left_hand-returns-in_err-id-in-OpenSquare
expressions::left_hand-returns-in_err-id-in-OpenSquare t c =
    let p = err_from_is_err_and c.from_residual-in_err-id-in-OpenSquare.result c.from_residual-in_err-id-in-OpenSquare.ensures.1 in
    rw (p.1, p.2) (refuses_then _ c.tails.invariant.read (refuses_in (λ k. Gives (expr_at (trees c.tails.tree) c.tails.left) (Tail c.args.depth ∷ k)) _ _ (λ k. Target c.args.depth ∷ k) _ (c.in_err-id-in-OpenSquare.ensures (Tail c.args.depth) refl)))

pub expressions::left_hand-tails-preserved-in-OpenSquare : goal.expressions::left_hand-tails-preserved-in-OpenSquare
expressions::left_hand-tails-preserved-in-OpenSquare t c = let more = reads_in (λ k. Target c.args.depth ∷ k) (c.in_ok-id-in-OpenSquare.ensures (Tail c.args.depth) refl) in record { read = reads_then c.tails.invariant.read more; ready = ready_next _ c.tails.invariant.ready more }

pub expressions::left_hand-returns-in_err-id-in-Open : goal.expressions::left_hand-returns-in_err-id-in-Open
expressions::left_hand-returns-in_err-id-in-Open t c =
    let p = err_from_is_err_and c.from_residual-in_err-id-in-Open.result c.from_residual-in_err-id-in-Open.ensures.1 in
    rw (p.1, p.2) (refuses_then _ c.tails.invariant.read (refuses_in (λ k. Gives (expr_at (trees c.tails.tree) c.tails.left) (Tail c.args.depth ∷ k)) _ _ (λ k. Target c.args.depth ∷ k) _ c.in_err-id-in-Open.ensures))

pub expressions::left_hand-tails-preserved : goal.expressions::left_hand-tails-preserved
expressions::left_hand-tails-preserved t c = let more = reads_in (λ k. Target c.args.depth ∷ k) c.in_ok-id-in-Open.ensures in record { read = reads_then c.tails.invariant.read more; ready = ready_next _ c.tails.invariant.ready more }

pub expressions::left_hand-returns-in_default : goal.expressions::left_hand-returns-in_default
expressions::left_hand-returns-in_default t c = tails_end _ _ _ _ _ _ _ _ _ c.tails.invariant.read c.peek.ensures.here c.in_default.not-Point c.in_default.not-OpenSquare c.in_default.not-Open

pub expressions::prefixed-returns-in_err-inner : goal.expressions::prefixed-returns-in_err-inner
expressions::prefixed-returns-in_err-inner t c =
    let p = err_from_is_err_and c.from_residual.result c.from_residual.ensures.1 in
    rw (p.1, p.2, c.in_err-inner.ensures.0) (prefix_deep _ _ _ 0 _ c.requires.here c.requires.ready.in_text c.in_err-inner.ensures.1)

pub expressions::prefixed-returns-in_err-id : goal.expressions::prefixed-returns-in_err-id
expressions::prefixed-returns-in_err-id t c =
    let p = err_from_is_err_and c.from_residual-in_err-id.result c.from_residual-in_err-id.ensures.1 in
    rw (p.1, p.2) (prefix_refused _ _ _ _ _ c.requires.here c.in_ok-inner.ensures.0 c.in_ok-inner.ensures.1 (trees c.args.tree.now) (trees c.args.tree.now) _ c.in_err-id.ensures)

pub expressions::prefixed-returns : goal.expressions::prefixed-returns
expressions::prefixed-returns t c = prefix_ends _ _ _ _ _ c.requires.here c.in_ok-inner.ensures.0 c.in_ok-inner.ensures.1 _ _ _ _ _ _ _ _ c.in_ok-id.ensures c.place-place.ensures (c.prefix_node.ensures.form (trees c.unary.new.tree)) c.add_plain.ensures

pub expressions::prefixed-add_plain-requires-clause-parts : goal.expressions::prefixed-add_plain-requires-clause-parts
expressions::prefixed-add_plain-requires-clause-parts t c = c.prefix_node.ensures.parts (trees c.unary.new.tree) (c.in_ok-id.ensures (λ k. []) (λ k o d e. refl)).is_in

pub expressions::prefixed-add_plain-requires-clause-room : goal.expressions::prefixed-add_plain-requires-clause-room
expressions::prefixed-add_plain-requires-clause-room t c = let read = c.in_ok-id.ensures (λ k. []) (λ k o d e. refl) in let few = read.few in let inside = read.in_text in omega arith

pub expressions::bare-returns-in_err-left : goal.expressions::bare-returns-in_err-left
expressions::bare-returns-in_err-left t c =
    let p = err_from_is_err_and c.from_residual.result c.from_residual.ensures.1 in
    rw (p.1, p.2) (operand_refused _ _ _ _ c.in_err-left.ensures)

pub expressions::bare-returns-in-Some : goal.expressions::bare-returns-in-Some
expressions::bare-returns-in-Some t c = operand_assigned _ _ _ _ _ _ _ _ _ c.in_ok-left.ensures c.peek.ensures.here c.in-Some.ensures

pub expressions::bare-returns-in-None : goal.expressions::bare-returns-in-None
expressions::bare-returns-in-None t c = operand_ends _ _ _ _ _ _ _ _ _ c.in_ok-left.ensures c.stepped.ensures

pub expressions::bare-stepped-requires-clause-unassigned : goal.expressions::bare-stepped-requires-clause-unassigned
expressions::bare-stepped-requires-clause-unassigned t c = (_, c.peek.ensures.here, sym c.in-None.ensures)

pub expressions::unary-returns-in-Some : goal.expressions::unary-returns-in-Some
expressions::unary-returns-in-Some t c = operand_prefixed _ _ _ _ _ _ c.prefixed.ensures

pub expressions::operators-returns-in_err-left : goal.expressions::operators-returns-in_err-left
expressions::operators-returns-in_err-left t c =
    let p = err_from_is_err_and c.from_residual.result c.from_residual.ensures.1 in
    rw (p.1, p.2) (operators_refused _ _ _ _ _ _ c.in_err-left.ensures)

pub expressions::operators-returns : goal.expressions::operators-returns
expressions::operators-returns t c = operators_ends _ _ _ _ _ _ _ _ _ _ _ c.in_ok-left.ensures c.chain.ensures

pub expressions::joined-returns-in_err-right : goal.expressions::joined-returns-in_err-right
expressions::joined-returns-in_err-right t c =
    let p = err_from_is_err_and c.from_residual.result c.from_residual.ensures.1 in
    rw (p.1, p.2) (λ n lt. joined_refused _ _ _ _ _ c.requires.here c.requires.ready.shallow n lt (expr_at (trees c.args.tree.now) c.args.left) _ _ c.level-limit.ensures.value c.in_err-right.ensures)

pub expressions::joined-returns : goal.expressions::joined-returns
expressions::joined-returns t c = joined_ends _ _ _ _ _ _ _ _ _ _ c.args.left c.in_ok-right.right _ _ _ c.requires.left c.requires.here c.requires.ready.shallow c.level-limit.ensures.value c.in_ok-right.ensures c.expr_at-place.ensures (c.infix_node.ensures.form (trees c.operators.new.tree)) c.add_plain.ensures

pub expressions::joined-add_plain-requires-clause-parts : goal.expressions::joined-add_plain-requires-clause-parts
expressions::joined-add_plain-requires-clause-parts t c = let read = (c.in_ok-right.ensures c.args.operator (expr_at (trees c.args.tree.now) c.args.left)) in c.infix_node.ensures.parts (trees c.operators.new.tree) (read.kept.exprs c.args.left c.requires.left).0 read.is_in

pub expressions::joined-add_plain-requires-clause-room : goal.expressions::joined-add_plain-requires-clause-room
expressions::joined-add_plain-requires-clause-room t c = let read = (c.in_ok-right.ensures c.args.operator (expr_at (trees c.args.tree.now) c.args.left)) in let few = read.few in let inside = read.in_text in omega arith

pub expressions::chain-chain-init : goal.expressions::chain-chain-init
expressions::chain-chain-init t c = chain_begin _ _ _ _ _ _ _ c.requires.ready c.requires.left

pub expressions::chain-returns-in-None : goal.expressions::chain-returns-in-None
expressions::chain-returns-in-None t c = chain_ends _ _ _ _ _ _ _ _ _ _ c.chain.invariant _ c.peek.ensures.here c.in-None.ensures

pub expressions::chain-returns-in_err-id-in-Some : goal.expressions::chain-returns-in_err-id-in-Some
expressions::chain-returns-in_err-id-in-Some t c =
    let p = err_from_is_err_and c.from_residual.result c.from_residual.ensures.1 in
    rw (p.1, p.2) (chain_refused _ _ _ _ _ _ _ _ _ _ c.chain.invariant _ (c.in_err-id-in-Some.ensures _ c.in-Some.ensures.1))

pub expressions::chain-chain-preserved : goal.expressions::chain-chain-preserved
expressions::chain-chain-preserved t c = chain_more _ _ _ _ _ _ _ _ _ _ c.chain.invariant _ _ _ (c.in_ok-id-in-Some.ensures _ c.in-Some.ensures.1)

pub expressions::choice-add_plain-requires-clause-parts : goal.expressions::choice-add_plain-requires-clause-parts
expressions::choice-add_plain-requires-clause-parts t c =
    let chosen = c.in_ok-chosen.ensures in
    let other = c.in_ok-other.ensures in
    ((other.kept.exprs c.args.test (chosen.kept.exprs c.args.test c.requires.left).0).0, (other.kept.exprs c.in_ok-chosen.chosen chosen.is_in).0, other.is_in)

pub expressions::choice-returns-in_err-chosen : goal.expressions::choice-returns-in_err-chosen
expressions::choice-returns-in_err-chosen t c =
    let p = err_from_is_err_and c.from_residual-in_err-chosen.result c.from_residual-in_err-chosen.ensures.1 in
    rw (p.1, p.2) (choice_refused _ _ _ _ _ (expr_at (trees c.args.tree.now) c.args.test) c.requires.here c.in_ok-inner.ensures.0 c.in_ok-inner.ensures.1 _ c.in_err-chosen.ensures)

pub expressions::choice-returns-in_err-first : goal.expressions::choice-returns-in_err-first
expressions::choice-returns-in_err-first t c =
    let p = err_from_is_err_and c.from_residual-in_err-first.result c.from_residual-in_err-first.ensures.1 in
    rw (p.1, p.2, c.in_err-first.ensures.0) (choice_unmarked _ _ _ _ _ (expr_at (trees c.args.tree.now) c.args.test) c.requires.here c.in_ok-inner.ensures.0 c.in_ok-inner.ensures.1 _ _ _ _ c.in_ok-chosen.ensures c.in_err-first.ensures.1)

pub expressions::choice-returns-in_err-other : goal.expressions::choice-returns-in_err-other
expressions::choice-returns-in_err-other t c =
    let p = err_from_is_err_and c.from_residual-in_err-other.result c.from_residual-in_err-other.ensures.1 in
    rw (p.1, p.2) (choice_third_refused _ _ _ _ _ (expr_at (trees c.args.tree.now) c.args.test) c.requires.here c.in_ok-inner.ensures.0 c.in_ok-inner.ensures.1 _ _ _ _ c.in_ok-chosen.ensures _ _ c.in_ok-first.ensures.1 c.in_ok-first.ensures.0 c.in_err-other.ensures)

pub expressions::choice-returns : goal.expressions::choice-returns
expressions::choice-returns t c = choice_ends _ _ _ _ _ _ _ _ _ _ _ _ c.args.test _ _ _ _ c.requires.left c.requires.here c.in_ok-inner.ensures.0 c.in_ok-inner.ensures.1 c.in_ok-chosen.ensures c.in_ok-first.ensures.1 c.in_ok-first.ensures.0 c.in_ok-other.ensures c.expr_at-place.ensures c.add_plain.ensures

pub expressions::conditional-returns-in_err-test : goal.expressions::conditional-returns-in_err-test
expressions::conditional-returns-in_err-test t c =
    let p = err_from_is_err_and c.from_residual.result c.from_residual.ensures.1 in
    rw (p.1, p.2) (refuses_in (λ k. Gives (expr_at (trees c.args.tree.now) c.args.first) (Rest c.args.no_in 10 c.args.depth ∷ k)) _ _ (λ k. Choice c.args.no_in c.args.depth ∷ k) _ c.in_err-test.ensures)

pub expressions::conditional-returns-in-Question : goal.expressions::conditional-returns-in-Question
expressions::conditional-returns-in-Question t c = on_with (λ k. k) _ _ (on_in (λ k. Choice c.args.no_in c.args.depth ∷ k) c.in_ok-test.ensures) c.choice.ensures

pub expressions::conditional-returns-in_default : goal.expressions::conditional-returns-in_default
expressions::conditional-returns-in_default t c = no_choice _ _ _ _ _ _ _ _ _ _ (on_in (λ k. Choice c.args.no_in c.args.depth ∷ k) c.in_ok-test.ensures) c.peek.ensures.here c.in_default.not-Question

pub expressions::assigned-returns-in_err-inner : goal.expressions::assigned-returns-in_err-inner
expressions::assigned-returns-in_err-inner t c =
    let p = err_from_is_err_and c.from_residual.result c.from_residual.ensures.1 in
    rw (p.1, p.2, c.in_err-inner.ensures.0) (assign_deep _ _ _ 0 _ (expr_at (trees c.args.tree.now) c.args.left) _ c.requires.here c.requires.ready.in_text c.in_err-inner.ensures.1)

pub expressions::assigned-returns-in_err-right : goal.expressions::assigned-returns-in_err-right
expressions::assigned-returns-in_err-right t c =
    let p = err_from_is_err_and c.from_residual-in_err-right.result c.from_residual-in_err-right.ensures.1 in
    rw (p.1, p.2) (assign_refused _ _ _ _ _ (expr_at (trees c.args.tree.now) c.args.left) _ c.requires.here c.in_ok-inner.ensures.0 c.in_ok-inner.ensures.1 _ c.in_err-right.ensures)

pub expressions::assigned-returns : goal.expressions::assigned-returns
expressions::assigned-returns t c = assign_ends _ _ _ _ _ _ _ _ _ _ c.args.left _ _ _ c.requires.left c.requires.here c.in_ok-inner.ensures.0 c.in_ok-inner.ensures.1 c.in_ok-right.ensures c.expr_at-place.ensures c.add_plain.ensures

pub expressions::bare_assignment-returns-in_err-left : goal.expressions::bare_assignment-returns-in_err-left
expressions::bare_assignment-returns-in_err-left t c =
    let p = err_from_is_err_and c.from_residual.result c.from_residual.ensures.1 in
    rw (p.1, p.2) (assignment_refused _ _ _ _ _ c.in_err-left.ensures)

pub expressions::bare_assignment-returns-in-Some : goal.expressions::bare_assignment-returns-in-Some
expressions::bare_assignment-returns-in-Some t c = assignment_assigned _ _ _ _ _ _ _ _ _ _ c.in_ok-left.ensures c.assigned.ensures

pub expressions::bare_assignment-returns-in_err-first-in-None : goal.expressions::bare_assignment-returns-in_err-first-in-None
expressions::bare_assignment-returns-in_err-first-in-None t c =
    let p = err_from_is_err_and c.from_residual-in_err-first-in-None.result c.from_residual-in_err-first-in-None.ensures.1 in
    rw (p.1, p.2) (assignment_unstepped _ _ _ _ _ _ _ _ _ c.in_ok-left.ensures c.in_err-first-in-None.ensures)

pub expressions::bare_assignment-returns-in_ok-first-in-None : goal.expressions::bare_assignment-returns-in_ok-first-in-None
expressions::bare_assignment-returns-in_ok-first-in-None t c = assignment_stepped _ _ _ _ _ _ _ _ _ _ _ _ _ c.in_ok-left.ensures c.in_ok-first-in-None.ensures c.conditional.ensures

pub expressions::bare_assignment-stepped-requires-clause-unassigned : goal.expressions::bare_assignment-stepped-requires-clause-unassigned
expressions::bare_assignment-stepped-requires-clause-unassigned t c = (_, c.peek.ensures.here, sym c.in-None.ensures)

pub expressions::assignment-returns-in_err-first-in-Some : goal.expressions::assignment-returns-in_err-first-in-Some
expressions::assignment-returns-in_err-first-in-Some t c =
    let p = err_from_is_err_and c.from_residual.result c.from_residual.ensures.1 in
    rw (p.1, p.2) (assignment_refused _ _ _ _ _ c.in_err-first-in-Some.ensures)

pub expressions::assignment-returns-in_ok-first-in-Some : goal.expressions::assignment-returns-in_ok-first-in-Some
expressions::assignment-returns-in_ok-first-in-Some t c = assignment_prefixed _ _ _ _ _ _ _ _ _ _ c.in_ok-first-in-Some.ensures c.conditional.ensures

pub expressions::comma-returns-in_err-right : goal.expressions::comma-returns-in_err-right
expressions::comma-returns-in_err-right t c =
    let p = err_from_is_err_and c.from_residual.result c.from_residual.ensures.1 in
    rw (p.1, p.2) (comma_refused _ _ _ (expr_at (trees c.args.tree.now) c.args.left) _ c.requires.here c.requires.ready.shallow c.in_err-right.ensures)

pub expressions::comma-returns : goal.expressions::comma-returns
expressions::comma-returns t c = comma_ends _ _ _ _ _ _ _ c.args.left _ _ _ c.requires.left c.requires.here c.requires.ready.shallow c.in_ok-right.ensures c.expr_at-place.ensures c.add_plain.ensures

pub expressions::whole-returns-in_err-left : goal.expressions::whole-returns-in_err-left
expressions::whole-returns-in_err-left t c =
    let p = err_from_is_err_and c.from_residual.result c.from_residual.ensures.1 in
    rw (p.1, p.2) (refuses_in (λ k. Wants (expr false c.args.depth k)) _ _ (λ k. Commas c.args.depth ∷ k) _ c.in_err-left.ensures)

pub expressions::whole-commas-init : goal.expressions::whole-commas-init
expressions::whole-commas-init t c = record { read = reads_in (λ k. Commas c.args.depth ∷ k) c.in_ok-left.ensures; ready = ready_next _ c.requires c.in_ok-left.ensures }

pub expressions::whole-returns-in_err-id-in-Comma : goal.expressions::whole-returns-in_err-id-in-Comma
expressions::whole-returns-in_err-id-in-Comma t c =
    let p = err_from_is_err_and c.from_residual-in_err-id-in-Comma.result c.from_residual-in_err-id-in-Comma.ensures.1 in
    rw (p.1, p.2) (refuses_then _ c.commas.invariant.read c.in_err-id-in-Comma.ensures)

pub expressions::whole-commas-preserved : goal.expressions::whole-commas-preserved
expressions::whole-commas-preserved t c = record { read = reads_then c.commas.invariant.read c.in_ok-id-in-Comma.ensures; ready = ready_next _ c.commas.invariant.ready c.in_ok-id-in-Comma.ensures }

pub expressions::whole-returns-in_default : goal.expressions::whole-returns-in_default
expressions::whole-returns-in_default t c = commas_end _ _ _ _ _ _ _ _ c.commas.invariant.read c.peek.ensures.here c.in_default.not-Comma

pub expressions::some_items-items-init : goal.expressions::some_items-items-init
expressions::some_items-items-init t c = items_begin _ _ _ _ _ _ _ c.requires.ready c.requires.begins.1 c.requires.begins.2.0 c.requires.begins.2.1 c.requires.begins.2.2 c.new-list.ensures.items

pub expressions::some_items-returns-in_err-id : goal.expressions::some_items-returns-in_err-id
expressions::some_items-returns-in_err-id t c =
    let p = err_from_is_err_and c.from_residual.result c.from_residual.ensures.1 in
    rw (p.1, p.2) (items_refused _ _ _ _ _ _ _ _ _ c.items.invariant c.in_err-id.ensures)

pub expressions::some_items-returns-in_default : goal.expressions::some_items-returns-in_default
expressions::some_items-returns-in_default t c = rw c.in_ok-push.ensures.items (items_end _ _ _ _ _ _ _ _ _ _ _ c.items.invariant c.in_ok-id.ensures _ c.peek.ensures.here c.in_default.not-Comma)

pub expressions::some_items-items-preserved : goal.expressions::some_items-items-preserved
expressions::some_items-items-preserved t c = rw c.in_ok-push.ensures.items (items_more _ _ _ _ _ _ _ _ _ _ _ c.items.invariant c.in_ok-id.ensures c.in-Comma.ensures.here (c.in-Comma.ensures.inside (λ e. cc)))

pub expressions::items-returns-in-Close : goal.expressions::items-returns-in-Close
expressions::items-returns-in-Close t c = items_none _ _ _ _ _ _ sign.Close c.requires c.in-Close.ensures.here (λ k x. refl) c.new.ensures.items

pub expressions::items-returns-in-CloseSquare : goal.expressions::items-returns-in-CloseSquare
expressions::items-returns-in-CloseSquare t c = items_none _ _ _ _ _ _ sign.CloseSquare c.requires c.in-CloseSquare.ensures.here (λ k x. refl) c.new-in-CloseSquare.ensures.items

pub expressions::items-returns-in-Semicolon : goal.expressions::items-returns-in-Semicolon
expressions::items-returns-in-Semicolon t c = items_none _ _ _ _ _ _ sign.Semicolon c.requires c.in-Semicolon.ensures.here (λ k x. refl) c.new-in-Semicolon.ensures.items

pub expressions::joined-expr_at-place-requires : goal.expressions::joined-expr_at-place-requires
expressions::joined-expr_at-place-requires t c = let read = (c.in_ok-right.ensures c.args.operator (expr_at (trees c.args.tree.now) c.args.left)) in (read.kept.exprs c.args.left c.requires.left).0

pub expressions::operators-chain-requires : goal.expressions::operators-chain-requires
expressions::operators-chain-requires t c =
    let read = c.in_ok-left.ensures (λ k. []) (λ k o d e. refl) in
    (search rules, (ready_next _ c.requires.ready read, (read.is_in, c.requires.limit)))

pub expressions::operand-tails-smaller : goal.expressions::operand-tails-smaller
expressions::operand-tails-smaller t c = let more = c.in_ok-id-in-OpenSquare.ensures (NewTail c.args.depth (lexeme_at c.args.script.now c.args.word)) refl in let later = more.later in let inside = more.in_text in omega arith

pub expressions::left_hand-tails-smaller-in-OpenSquare : goal.expressions::left_hand-tails-smaller-in-OpenSquare
expressions::left_hand-tails-smaller-in-OpenSquare t c = let more = c.in_ok-id-in-OpenSquare.ensures (Tail c.args.depth) refl in let later = more.later in let inside = more.in_text in omega arith

pub statements::marked-returns-in_err-id : goal.statements::marked-returns-in_err-id
statements::marked-returns-in_err-id t c =
    let p = err_from_is_err_and c.from_residual.result c.from_residual.ensures.1 in
    rw (p.1, p.2) (marked_refused _ _ _ (trees c.args.tree.now) _ _ c.in_err-id.ensures)

pub statements::marked-returns-in_err-next : goal.statements::marked-returns-in_err-next
statements::marked-returns-in_err-next t c =
    let p = err_from_is_err_and c.from_residual-in_err-next.result c.from_residual-in_err-next.ensures.1 in
    rw (p.1, p.2, c.in_err-next.ensures.0) (marked_unmarked _ _ _ (trees c.args.tree.now) _ _ _ _ c.in_ok-id.ensures c.in_err-next.ensures.1)

pub statements::marked-returns : goal.statements::marked-returns
statements::marked-returns t c = marked_reads _ _ _ _ _ _ _ _ c.in_ok-id.ensures _ c.in_ok-next.ensures.0 c.in_ok-next.ensures.1 c.in_ok-next.ensures.2

pub statements::test-returns-in_err-first : goal.statements::test-returns-in_err-first
statements::test-returns-in_err-first t c =
    let p = err_from_is_err_and c.from_residual.result c.from_residual.ensures.1 in
    rw (p.1, p.2, c.in_err-first.ensures.0) (test_unopened _ _ _ _ c.requires c.in_err-first.ensures.1)

pub statements::test-returns-in_err-inner : goal.statements::test-returns-in_err-inner
statements::test-returns-in_err-inner t c =
    let p = err_from_is_err_and c.from_residual-in_err-inner.result c.from_residual-in_err-inner.ensures.1 in
    rw (p.1, p.2, c.in_err-inner.ensures.0) (test_deep _ _ _ _ c.requires c.in_ok-first.ensures.1 c.in_err-inner.ensures.1)

pub statements::test-returns : goal.statements::test-returns
statements::test-returns t c = test_result _ _ _ _ c.requires c.in_ok-first.ensures.1 _ _ c.in_ok-first.ensures.0 c.in_ok-inner.ensures.0 c.in_ok-inner.ensures.1 _ _ c.marked.ensures

pub statements::statements-list-init : goal.statements::statements-list-init
statements::statements-list-init t c = rw c.new-list.ensures.items (statements_begin _ _ _ _ c.requires)

pub statements::statements-returns-then-ends_list : goal.statements::statements-returns-then-ends_list
statements::statements-returns-then-ends_list t c = statements_end _ _ _ _ _ _ _ c.list.invariant _ c.peek.ensures.here (sym c.if-ends_list.ensures)

pub statements::statements-returns-in_err-id : goal.statements::statements-returns-in_err-id
statements::statements-returns-in_err-id t c =
    let p = err_from_is_err_and c.from_residual.result c.from_residual.ensures.1 in
    rw (p.1, p.2) (statements_refused _ _ _ _ _ _ _ c.list.invariant _ c.peek.ensures.here (sym c.if-ends_list.ensures) _ c.in_err-id.ensures)

pub statements::statements-list-preserved : goal.statements::statements-list-preserved
statements::statements-list-preserved t c = rw c.in_ok-push.ensures.items (statements_more _ _ _ _ _ _ _ c.list.invariant _ c.peek.ensures.here (sym c.if-ends_list.ensures) _ _ _ c.in_ok-id.ensures)

pub statements::block-returns-in_err-first : goal.statements::block-returns-in_err-first
statements::block-returns-in_err-first t c =
    let p = err_from_is_err_and c.from_residual.result c.from_residual.ensures.1 in
    rw (p.1, p.2, c.in_err-first.ensures.0) (block_unopened _ _ _ _ c.requires c.in_err-first.ensures.1)

pub statements::block-returns-in_err-inner : goal.statements::block-returns-in_err-inner
statements::block-returns-in_err-inner t c =
    let p = err_from_is_err_and c.from_residual-in_err-inner.result c.from_residual-in_err-inner.ensures.1 in
    rw (p.1, p.2, c.in_err-inner.ensures.0) (block_deep _ _ _ _ c.requires c.in_ok-first.ensures.1 c.in_err-inner.ensures.1)

pub statements::block-returns-in_err-list : goal.statements::block-returns-in_err-list
statements::block-returns-in_err-list t c =
    let p = err_from_is_err_and c.from_residual-in_err-list.result c.from_residual-in_err-list.ensures.1 in
    rw (p.1, p.2) (block_refused _ _ _ _ c.requires c.in_ok-first.ensures.1 _ _ c.in_ok-first.ensures.0 c.in_ok-inner.ensures.0 c.in_ok-inner.ensures.1 _ c.in_err-list.ensures)

pub statements::block-returns-in_err-next : goal.statements::block-returns-in_err-next
statements::block-returns-in_err-next t c =
    let p = err_from_is_err_and c.from_residual-in_err-next.result c.from_residual-in_err-next.ensures.1 in
    rw (p.1, p.2, c.in_err-next.ensures.0) (block_unclosed _ _ _ _ c.requires c.in_ok-first.ensures.1 _ _ c.in_ok-first.ensures.0 c.in_ok-inner.ensures.0 c.in_ok-inner.ensures.1 _ _ _ c.in_ok-list.ensures c.in_err-next.ensures.1)

pub statements::block-returns : goal.statements::block-returns
statements::block-returns t c = block_reads _ _ _ _ c.requires c.in_ok-first.ensures.1 _ _ c.in_ok-first.ensures.0 c.in_ok-inner.ensures.0 c.in_ok-inner.ensures.1 _ _ _ c.in_ok-list.ensures _ c.in_ok-next.ensures.0 c.in_ok-next.ensures.1 c.in_ok-next.ensures.2

pub statements::statement-returns-in_err-id : goal.statements::statement-returns-in_err-id
statements::statement-returns-in_err-id t c =
    let p = err_from_is_err_and c.from_residual-in_err-id.result c.from_residual-in_err-id.ensures.1 in
    rw (p.1, p.2) (labels_refused _ _ _ _ _ _ c.requires.shallow c.in_ok-labels.ensures c.in_err-id.ensures)

pub statements::statement-labels-init : goal.statements::statement-labels-init
statements::statement-labels-init t c = labels_left _ _ _ _ _ _ _ _ _ c.requires c.in_ok-labels.ensures c.in_ok-id.ensures

pub statements::unlabelled-returns-in_default : goal.statements::unlabelled-returns-in_default
statements::unlabelled-returns-in_default t c = c.expression_statement.ensures

pub statements::while_statement-returns-in_err-test : goal.statements::while_statement-returns-in_err-test
statements::while_statement-returns-in_err-test t c =
    let p = err_from_is_err_and c.from_residual.result c.from_residual.ensures.1 in
    rw (p.1, p.2) (while_refused _ _ _ _ c.requires.ready c.requires.here _ c.in_err-test.ensures)

pub statements::while_statement-returns-in_err-body : goal.statements::while_statement-returns-in_err-body
statements::while_statement-returns-in_err-body t c =
    let p = err_from_is_err_and c.from_residual-in_err-body.result c.from_residual-in_err-body.ensures.1 in
    rw (p.1, p.2) (while_body _ _ _ _ c.requires.ready c.requires.here _ _ _ c.in_ok-test.ensures _ c.in_err-body.ensures)

pub statements::while_statement-returns : goal.statements::while_statement-returns
statements::while_statement-returns t c = while_ends _ _ _ _ c.requires.ready c.requires.here _ _ _ c.in_ok-test.ensures _ _ _ _ _ c.in_ok-body.ensures c.add_statement.ensures

pub statements::with_statement-returns-in_err-object : goal.statements::with_statement-returns-in_err-object
statements::with_statement-returns-in_err-object t c =
    let p = err_from_is_err_and c.from_residual.result c.from_residual.ensures.1 in
    rw (p.1, p.2) (with_refused _ _ _ _ c.requires.ready c.requires.here _ c.in_err-object.ensures)

pub statements::with_statement-returns-in_err-body : goal.statements::with_statement-returns-in_err-body
statements::with_statement-returns-in_err-body t c =
    let p = err_from_is_err_and c.from_residual-in_err-body.result c.from_residual-in_err-body.ensures.1 in
    rw (p.1, p.2) (with_body _ _ _ _ c.requires.ready c.requires.here _ _ _ c.in_ok-object.ensures _ c.in_err-body.ensures)

pub statements::with_statement-returns : goal.statements::with_statement-returns
statements::with_statement-returns t c = with_ends _ _ _ _ c.requires.ready c.requires.here _ _ _ c.in_ok-object.ensures _ _ _ _ _ c.in_ok-body.ensures c.add_statement.ensures

pub statements::if_statement-returns-in_err-test : goal.statements::if_statement-returns-in_err-test
statements::if_statement-returns-in_err-test t c =
    let p = err_from_is_err_and c.from_residual.result c.from_residual.ensures.1 in
    rw (p.1, p.2) (if_refused _ _ _ _ c.requires.ready c.requires.here _ c.in_err-test.ensures)

pub statements::if_statement-returns-in_err-then : goal.statements::if_statement-returns-in_err-then
statements::if_statement-returns-in_err-then t c =
    let p = err_from_is_err_and c.from_residual-in_err-then.result c.from_residual-in_err-then.ensures.1 in
    rw (p.1, p.2) (if_then _ _ _ _ c.requires.ready c.requires.here _ _ _ c.in_ok-test.ensures _ c.in_err-then.ensures)

pub statements::if_statement-returns-in_err-other : goal.statements::if_statement-returns-in_err-other
statements::if_statement-returns-in_err-other t c =
    let p = err_from_is_err_and c.from_residual-in_err-other.result c.from_residual-in_err-other.ensures.1 in
    rw (p.1, p.2) (if_other _ _ _ _ c.requires.ready c.requires.here _ _ _ c.in_ok-test.ensures _ _ _ c.in_ok-then.ensures _ c.in_err-other.ensures)

pub statements::if_statement-returns : goal.statements::if_statement-returns
statements::if_statement-returns t c = if_ends _ _ _ _ c.requires.ready c.requires.here _ _ _ c.in_ok-test.ensures _ _ _ c.in_ok-then.ensures _ _ _ _ _ c.in_ok-other.ensures c.add_statement.ensures

pub statements::do_statement-returns-in_err-body : goal.statements::do_statement-returns-in_err-body
statements::do_statement-returns-in_err-body t c =
    let p = err_from_is_err_and c.from_residual.result c.from_residual.ensures.1 in
    rw (p.1, p.2) (do_refused _ _ _ _ c.requires.ready c.requires.here _ c.in_err-body.ensures)

pub statements::do_statement-returns-in_err-first : goal.statements::do_statement-returns-in_err-first
statements::do_statement-returns-in_err-first t c =
    let p = err_from_is_err_and c.from_residual-in_err-first.result c.from_residual-in_err-first.ensures.1 in
    rw (p.1, p.2, c.in_err-first.ensures.0) (do_no_while _ _ _ _ c.requires.ready c.requires.here _ _ _ c.in_ok-body.ensures c.in_err-first.ensures.1)

pub statements::do_statement-returns-in_err-test : goal.statements::do_statement-returns-in_err-test
statements::do_statement-returns-in_err-test t c =
    let p = err_from_is_err_and c.from_residual-in_err-test.result c.from_residual-in_err-test.ensures.1 in
    rw (p.1, p.2) (do_test _ _ _ _ c.requires.ready c.requires.here _ _ _ c.in_ok-body.ensures _ c.in_ok-first.ensures.0 c.in_ok-first.ensures.1 c.in_ok-first.ensures.2 _ c.in_err-test.ensures)

pub statements::do_statement-returns-in_err-next : goal.statements::do_statement-returns-in_err-next
statements::do_statement-returns-in_err-next t c =
    let p = err_from_is_err_and c.from_residual-in_err-next.result c.from_residual-in_err-next.ensures.1 in
    rw (p.1, p.2, c.in_err-next.ensures.0) (do_unmarked _ _ _ _ c.requires.ready c.requires.here _ _ _ c.in_ok-body.ensures _ c.in_ok-first.ensures.0 c.in_ok-first.ensures.1 c.in_ok-first.ensures.2 _ _ _ c.in_ok-test.ensures c.in_err-next.ensures.1)

pub statements::do_statement-returns : goal.statements::do_statement-returns
statements::do_statement-returns t c = do_ends _ _ _ _ c.requires.ready c.requires.here _ _ _ c.in_ok-body.ensures _ c.in_ok-first.ensures.0 c.in_ok-first.ensures.1 c.in_ok-first.ensures.2 _ _ _ c.in_ok-test.ensures _ _ _ c.in_ok-next.ensures.0 c.in_ok-next.ensures.1 c.in_ok-next.ensures.2 c.add_statement.ensures

pub statements::else_part-returns-in_default : goal.statements::else_part-returns-in_default
statements::else_part-returns-in_default t c = rw c.new.ensures.items (else_none _ _ _ _ _ c.requires c.peek.ensures.here c.in_default.not-Else)

pub statements::else_part-returns-in_err-inner : goal.statements::else_part-returns-in_err-inner
statements::else_part-returns-in_err-inner t c =
    let p = err_from_is_err_and c.from_residual.result c.from_residual.ensures.1 in
    rw (p.1, p.2, c.in_err-inner.ensures.0) (else_if_deep _ _ _ _ c.requires c.in-Else.ensures.here c.in-If.ensures.here (c.in-Else.ensures.inside (λ e. cc)) c.in_err-inner.ensures.1)

pub statements::else_part-returns-in_err-id : goal.statements::else_part-returns-in_err-id
statements::else_part-returns-in_err-id t c =
    let p = err_from_is_err_and c.from_residual-in_err-id.result c.from_residual-in_err-id.ensures.1 in
    rw (p.1, p.2) (else_if_refused _ _ _ _ c.requires c.in-Else.ensures.here c.in-If.ensures.here _ c.in_ok-inner.ensures.0 _ c.in_err-id.ensures)

pub statements::else_part-returns : goal.statements::else_part-returns
statements::else_part-returns t c = else_if_reads _ _ _ _ c.requires c.in-Else.ensures.here c.in-If.ensures.here _ c.in_ok-inner.ensures.0 _ _ _ _ c.in_ok-id.ensures (c.in_ok-push.ensures.items ∙ ap (λ l. l ++ c.in_ok-id.id ∷ []) c.new-list.ensures.items)

pub statements::throw_statement-returns-in_err-id : goal.statements::throw_statement-returns-in_err-id
statements::throw_statement-returns-in_err-id t c =
    let p = err_from_is_err_and c.from_residual.result c.from_residual.ensures.1 in
    rw (p.1, p.2) (throw_refused _ _ _ _ c.requires.ready c.requires.here _ c.in_err-id.ensures)

pub statements::throw_statement-returns : goal.statements::throw_statement-returns
statements::throw_statement-returns t c = throw_ends _ _ _ _ c.requires.ready c.requires.here _ _ _ _ _ c.in_ok-id.ensures c.add_statement.ensures

pub statements::return_statement-returns-in_err-id : goal.statements::return_statement-returns-in_err-id
statements::return_statement-returns-in_err-id t c =
    let p = err_from_is_err_and c.from_residual.result c.from_residual.ensures.1 in
    rw (p.1, p.2) (return_refused _ _ _ _ c.requires.ready c.requires.here _ c.peek.ensures.here c.in_default.not-Semicolon _ c.in_err-id.ensures)

pub statements::return_statement-returns : goal.statements::return_statement-returns
statements::return_statement-returns t c = return_ends _ _ _ _ c.requires.ready c.requires.here _ c.peek.ensures.here c.in_default.not-Semicolon _ _ _ _ _ c.in_ok-id.ensures c.add_statement-2.ensures

pub statements::expression_statement-returns-in_err-id : goal.statements::expression_statement-returns-in_err-id
statements::expression_statement-returns-in_err-id t c =
    let p = err_from_is_err_and c.from_residual.result c.from_residual.ensures.1 in
    rw (p.1, p.2) (only_refused _ _ _ _ c.requires.ready c.requires.begins _ c.in_err-id.ensures)

pub statements::expression_statement-returns : goal.statements::expression_statement-returns
statements::expression_statement-returns t c = only_ends _ _ _ _ c.requires.ready c.requires.begins _ _ _ _ _ c.in_ok-id.ensures c.add_statement.ensures

pub statements::var_statement-returns-in_err-decls : goal.statements::var_statement-returns-in_err-decls
statements::var_statement-returns-in_err-decls t c =
    let p = err_from_is_err_and c.from_residual.result c.from_residual.ensures.1 in
    rw (p.1, p.2) (var_refused _ _ _ _ c.requires.ready c.requires.here _ c.in_err-decls.ensures)

pub statements::var_statement-returns-in_err-next : goal.statements::var_statement-returns-in_err-next
statements::var_statement-returns-in_err-next t c =
    let p = err_from_is_err_and c.from_residual-in_err-next.result c.from_residual-in_err-next.ensures.1 in
    rw (p.1, p.2, c.in_err-next.ensures.0) (var_unmarked _ _ _ _ c.requires.ready c.requires.here _ _ _ c.in_ok-decls.ensures c.in_err-next.ensures.1)

pub statements::var_statement-returns : goal.statements::var_statement-returns
statements::var_statement-returns t c = var_ends _ _ _ _ c.requires.ready c.requires.here _ _ _ c.in_ok-decls.ensures _ _ _ c.in_ok-next.ensures.0 c.in_ok-next.ensures.1 c.in_ok-next.ensures.2 c.add_statement.ensures

pub statements::declarations-returns-in_err-after : goal.statements::declarations-returns-in_err-after
statements::declarations-returns-in_err-after t c =
    let p = err_from_is_err_and c.from_residual.result c.from_residual.ensures.1 in
    rw (p.1, p.2, c.in_err-after.ensures.0) (decls_unnamed _ _ _ _ _ _ _ _ c.list.invariant c.in_err-after.ensures.1)

pub statements::declarations-returns-in_err-init : goal.statements::declarations-returns-in_err-init
statements::declarations-returns-in_err-init t c =
    let p = err_from_is_err_and c.from_residual-in_err-init.result c.from_residual-in_err-init.ensures.1 in
    rw (p.1, p.2) (decl_refused _ _ _ _ _ _ _ _ c.list.invariant _ c.in_ok-after.ensures.0 c.in_ok-after.ensures.2 c.in_ok-after.ensures.1 _ c.in_err-init.ensures)

pub statements::declarations-list-init : goal.statements::declarations-list-init
statements::declarations-list-init t c = rw c.new-list.ensures.items (decls_begin _ _ _ _ _ c.requires)

pub statements::declarations-returns-in_default : goal.statements::declarations-returns-in_default
statements::declarations-returns-in_default t c = rw c.in_ok-push.ensures.items (decls_end _ _ _ _ _ _ _ _ c.list.invariant _ c.in_ok-after.ensures.0 c.in_ok-after.ensures.2 c.in_ok-after.ensures.1 _ _ _ _ c.in_ok-init.ensures c.in_ok-name.ensures c.place.ensures refl _ c.peek.ensures.here c.in_default.not-Comma)

pub statements::declarations-list-preserved : goal.statements::declarations-list-preserved
statements::declarations-list-preserved t c = rw c.in_ok-push.ensures.items (decls_more _ _ _ _ _ _ _ _ c.list.invariant _ c.in_ok-after.ensures.0 c.in_ok-after.ensures.2 c.in_ok-after.ensures.1 _ _ _ _ c.in_ok-init.ensures c.in_ok-name.ensures c.place.ensures refl _ c.in-Comma.ensures.here refl (c.in-Comma.ensures.inside (λ e. cc)))

pub statements::initial-returns-in_default : goal.statements::initial-returns-in_default
statements::initial-returns-in_default t c = init_none _ _ _ _ _ _ c.requires c.peek.ensures.here c.in_default.not-Assign

pub statements::initial-returns-in_err-id : goal.statements::initial-returns-in_err-id
statements::initial-returns-in_err-id t c =
    let p = err_from_is_err_and c.from_residual.result c.from_residual.ensures.1 in
    rw (p.1, p.2) (init_refused _ _ _ _ _ c.requires c.in-Assign.ensures.here _ c.in_err-id.ensures)

pub statements::initial-returns : goal.statements::initial-returns
statements::initial-returns t c = init_value _ _ _ _ _ c.requires c.in-Assign.ensures.here _ _ _ c.in_ok-id.ensures

pub statements::code-returns-in_err-open : goal.statements::code-returns-in_err-open
statements::code-returns-in_err-open t c =
    let p = err_from_is_err_and c.from_residual.result c.from_residual.ensures.1 in
    rw (p.1, p.2, c.in_err-open.ensures.0) (code_unopened _ _ _ _ c.requires.ready _ _ c.in_err-open.ensures.1)

pub statements::code-returns-in_err-inner : goal.statements::code-returns-in_err-inner
statements::code-returns-in_err-inner t c =
    let p = err_from_is_err_and c.from_residual-in_err-inner.result c.from_residual-in_err-inner.ensures.1 in
    rw (p.1, p.2, c.in_err-inner.ensures.0) (code_deep _ _ _ _ c.requires.ready _ _ c.in_ok-open.ensures.1 c.in_err-inner.ensures.1)

pub statements::code-returns-in_err-params : goal.statements::code-returns-in_err-params
statements::code-returns-in_err-params t c =
    let p = err_from_is_err_and c.from_residual-in_err-params.result c.from_residual-in_err-params.ensures.1 in
    rw (p.1, p.2) (code_params _ _ _ _ c.requires.ready _ _ c.in_ok-open.ensures.1 _ _ c.in_ok-open.ensures.0 c.in_ok-inner.ensures.0 c.in_ok-inner.ensures.1 _ c.in_err-params.ensures)

pub statements::code-returns-in_err-first : goal.statements::code-returns-in_err-first
statements::code-returns-in_err-first t c =
    let p = err_from_is_err_and c.from_residual-in_err-first.result c.from_residual-in_err-first.ensures.1 in
    rw (p.1, p.2, c.in_err-first.ensures.0) (code_unbraced _ _ _ _ c.requires.ready _ _ c.in_ok-open.ensures.1 _ _ c.in_ok-open.ensures.0 c.in_ok-inner.ensures.0 c.in_ok-inner.ensures.1 _ _ _ _ c.in_ok-params.ensures c.in_err-first.ensures.1)

pub statements::code-returns-in_err-body : goal.statements::code-returns-in_err-body
statements::code-returns-in_err-body t c =
    let p = err_from_is_err_and c.from_residual-in_err-body.result c.from_residual-in_err-body.ensures.1 in
    rw (p.1, p.2) (code_inside _ _ _ _ c.requires.ready _ _ c.in_ok-open.ensures.1 _ _ c.in_ok-open.ensures.0 c.in_ok-inner.ensures.0 c.in_ok-inner.ensures.1 _ _ _ _ c.in_ok-params.ensures _ c.in_ok-first.ensures.0 c.in_ok-first.ensures.1 c.in_ok-first.ensures.2 _ c.in_err-body.ensures)

pub statements::code-returns : goal.statements::code-returns
statements::code-returns t c = code_ends _ _ _ _ c.requires.ready _ _ c.in_ok-open.ensures.1 _ _ c.in_ok-open.ensures.0 c.in_ok-inner.ensures.0 c.in_ok-inner.ensures.1 _ _ _ _ c.in_ok-params.ensures _ c.in_ok-first.ensures.0 c.in_ok-first.ensures.1 c.in_ok-first.ensures.2 _ _ _ _ _ _ _ _ c.in_ok-body.ensures c.in_ok-places.ensures c.in_ok-name.ensures c.place.ensures c.in_ok-fun.ensures.added

pub statements::declaration-returns : goal.statements::declaration-returns
statements::declaration-returns t c = decl_result _ _ _ _ c.requires.ready c.requires.here c.requires.inside _ c.in_ok-open.ensures.0 c.in_ok-open.ensures.1 c.in_ok-open.ensures.2 _ _ c.code.ensures

pub statements::declaration-returns-in_err-open : goal.statements::declaration-returns-in_err-open
statements::declaration-returns-in_err-open t c =
    let p = err_from_is_err_and c.from_residual.result c.from_residual.ensures.1 in
    rw (p.1, p.2, c.in_err-open.ensures.0) (decl_unnamed _ _ _ _ c.requires.ready c.requires.here c.requires.inside c.in_err-open.ensures.1)

pub statements::do_statement-add_statement-requires-clause-parts : goal.statements::do_statement-add_statement-requires-clause-parts
statements::do_statement-add_statement-requires-clause-parts t c = ((c.in_ok-test.ensures.1).is_in, stmts_kept_all _ _ _ c.in_ok-body.ensures.are_in (c.in_ok-test.ensures.1).walks.kept)

pub statements::if_statement-add_statement-requires-clause-parts : goal.statements::if_statement-add_statement-requires-clause-parts
statements::if_statement-add_statement-requires-clause-parts t c = if_parts _ _ _ _ _ _ _ _ _ _ _ (c.in_ok-test.ensures.1) c.in_ok-then.ensures c.in_ok-other.ensures

pub statements::else_part-returns-in_default-peek : goal.statements::else_part-returns-in_default-peek
statements::else_part-returns-in_default-peek t c = else_block _ _ _ _ c.requires c.in-Else.ensures.here _ _ c.peek-2.ensures.here c.in_default-peek.not-If _ c.block.ensures

pub statements::statement-labels-preserved : goal.statements::statement-labels-preserved
statements::statement-labels-preserved t c = labels_step _ _ _ _ _ _ _ _ _ _ _ _ _ _ c.in-Some.ensures.items c.labels.invariant c.in_ok-text.ensures c.in_ok-outer.ensures

pub statements::statement-returns : goal.statements::statement-returns
statements::statement-returns t c = labels_all _ _ _ _ _ _ _ _ (nil_from_length _ (omega (arith, c.labels.labels.ok, c.in_default.ensures.cases))) c.labels.invariant

pub statements::body-returns-in_err-id-in-Function : goal.statements::body-returns-in_err-id-in-Function
statements::body-returns-in_err-id-in-Function t c =
    let p = err_from_is_err_and c.from_residual.result c.from_residual.ensures.1 in
    rw (p.1, p.2) (body_fun_refused _ _ _ _ _ _ _ _ c.body.invariant _ c.in_err-id-in-Function.ensures)

pub statements::body-body-preserved-in-Function : goal.statements::body-body-preserved-in-Function
statements::body-body-preserved-in-Function t c = rw c.in_ok-push-in-Function.ensures.items (body_fun _ _ _ _ _ _ _ _ c.body.invariant _ _ _ c.in_ok-id-in-Function.ensures)

pub statements::body-returns-in_err-id-in_default : goal.statements::body-returns-in_err-id-in_default
statements::body-returns-in_err-id-in_default t c =
    let p = err_from_is_err_and c.from_residual-in_err-id-in_default.result c.from_residual-in_err-id-in_default.ensures.1 in
    rw (p.1, p.2) (body_stmt_refused _ _ _ _ _ _ _ _ c.body.invariant _ c.peek.ensures.here c.in_default.not-CloseBrace c.in_default.not-Function _ c.in_err-id-in_default.ensures)

pub statements::body-body-preserved : goal.statements::body-body-preserved
statements::body-body-preserved t c = rw c.in_ok-push-in_default.ensures.items (body_stmt _ _ _ _ _ _ _ _ c.body.invariant _ c.peek.ensures.here c.in_default.not-CloseBrace c.in_default.not-Function _ _ _ c.in_ok-id-in_default.ensures)

pub for_loops::for_statement-returns-in_err-first : goal.for_loops::for_statement-returns-in_err-first
for_loops::for_statement-returns-in_err-first t c =
    let p = err_from_is_err_and c.from_residual.result c.from_residual.ensures.1 in
    rw (p.1, p.2, c.in_err-first.ensures.0) (for_unopened _ _ _ _ c.requires.ready c.requires.here c.requires.inside c.in_err-first.ensures.1)

pub for_loops::for_statement-returns-in_err-inner : goal.for_loops::for_statement-returns-in_err-inner
for_loops::for_statement-returns-in_err-inner t c =
    let p = err_from_is_err_and c.from_residual-in_err-inner.result c.from_residual-in_err-inner.ensures.1 in
    rw (p.1, p.2, c.in_err-inner.ensures.0) (for_deep _ _ _ _ c.requires.ready c.requires.here c.requires.inside c.in_ok-first.ensures.1 c.in_err-inner.ensures.1)

pub for_loops::for_statement-returns-in-Some : goal.for_loops::for_statement-returns-in-Some
for_loops::for_statement-returns-in-Some t c = for_over _ _ _ _ c.requires.ready c.requires.here c.requires.inside c.in_ok-first.ensures.1 _ _ c.in_ok-first.ensures.0 c.in_ok-inner.ensures.0 c.in_ok-inner.ensures.1 _ _ _ _ c.in-Some.ensures c.for_in_statement.ensures

pub for_loops::for_statement-returns-in-None : goal.for_loops::for_statement-returns-in-None
for_loops::for_statement-returns-in-None t c = for_other _ _ _ _ c.requires.ready c.requires.here c.requires.inside c.in_ok-first.ensures.1 _ _ c.in_ok-first.ensures.0 c.in_ok-inner.ensures.0 c.in_ok-inner.ensures.1 _ _ c.for_loop.ensures

pub for_loops::for_in_statement-returns-in_err-object : goal.for_loops::for_in_statement-returns-in_err-object
for_loops::for_in_statement-returns-in_err-object t c =
    let p = err_from_is_err_and c.from_residual.result c.from_residual.ensures.1 in
    rw (p.1, p.2) (over_refused _ _ _ _ (trees c.args.tree.now) (plus_one c.args.depth) c.requires.ready.shallow _ _ _ _ c.in_err-object.ensures)

pub for_loops::for_in_statement-returns-in_err-body : goal.for_loops::for_in_statement-returns-in_err-body
for_loops::for_in_statement-returns-in_err-body t c =
    let p = err_from_is_err_and c.from_residual-in_err-body.result c.from_residual-in_err-body.ensures.1 in
    rw (p.1, p.2) (over_body _ _ _ _ _ (plus_one c.args.depth) c.requires.ready.shallow _ _ _ _ _ _ c.in_ok-object.ensures _ c.in_err-body.ensures)

pub for_loops::for_in_statement-returns : goal.for_loops::for_in_statement-returns
for_loops::for_in_statement-returns t c = over_ends _ _ _ _ _ (plus_one c.args.depth) c.requires.ready.shallow _ _ _ _ _ _ c.in_ok-object.ensures _ _ _ _ _ _ c.in_ok-body.ensures c.in_ok-text.ensures c.add_named.ensures

pub for_loops::for_loop-returns-in_err-init : goal.for_loops::for_loop-returns-in_err-init
for_loops::for_loop-returns-in_err-init t c =
    let p = err_from_is_err_and c.from_residual.result c.from_residual.ensures.1 in
    rw (p.1, p.2) (c.in_err-init.ensures (lexeme_at c.args.script.now c.args.at))

pub for_loops::for_loop-returns-in_err-test : goal.for_loops::for_loop-returns-in_err-test
for_loops::for_loop-returns-in_err-test t c =
    let p = err_from_is_err_and c.from_residual-in_err-test.result c.from_residual-in_err-test.ensures.1 in
    rw (p.1, p.2) (loop_second _ _ _ _ _ _ _ _ c.in_ok-init.ensures _ c.in_err-test.ensures)

pub for_loops::for_loop-returns-in_err-steps : goal.for_loops::for_loop-returns-in_err-steps
for_loops::for_loop-returns-in_err-steps t c =
    let p = err_from_is_err_and c.from_residual-in_err-steps.result c.from_residual-in_err-steps.ensures.1 in
    rw (p.1, p.2) (loop_third _ _ _ _ _ _ _ _ c.in_ok-init.ensures _ _ _ c.in_ok-test.ensures _ c.in_err-steps.ensures)

pub for_loops::for_loop-returns-in_err-body : goal.for_loops::for_loop-returns-in_err-body
for_loops::for_loop-returns-in_err-body t c =
    let p = err_from_is_err_and c.from_residual-in_err-body.result c.from_residual-in_err-body.ensures.1 in
    rw (p.1, p.2) (loop_block _ _ _ _ _ _ _ _ c.in_ok-init.ensures _ _ _ c.in_ok-test.ensures _ _ _ c.in_ok-steps.ensures _ c.in_err-body.ensures)

pub for_loops::for_loop-returns : goal.for_loops::for_loop-returns
for_loops::for_loop-returns t c = loop_ends _ _ _ _ _ _ _ _ c.in_ok-init.ensures _ _ _ c.in_ok-test.ensures _ _ _ c.in_ok-steps.ensures _ _ _ c.in_ok-body.ensures _ _ c.add_statement.ensures

pub for_loops::for_loop-add_statement-requires-clause-parts : goal.for_loops::for_loop-add_statement-requires-clause-parts
for_loops::for_loop-add_statement-requires-clause-parts t c = loop_parts _ _ _ _ (lexeme_at c.args.script.now c.args.at) _ _ _ c.in_ok-init.ensures _ _ _ c.in_ok-test.ensures _ _ _ c.in_ok-steps.ensures _ _ _ c.in_ok-body.ensures

pub for_loops::first_part-returns-in_err-decls : goal.for_loops::first_part-returns-in_err-decls
for_loops::first_part-returns-in_err-decls t c =
    let p = err_from_is_err_and c.from_residual.result c.from_residual.ensures.1 in
    rw (p.1, p.2) (vars_refused _ _ _ _ _ (plus_one c.args.depth) c.requires.ready c.requires.other c.in-Var.ensures.here _ c.in_err-decls.ensures)

pub for_loops::first_part-returns-in_err-after : goal.for_loops::first_part-returns-in_err-after
for_loops::first_part-returns-in_err-after t c =
    let p = err_from_is_err_and c.from_residual-in_err-after.result c.from_residual-in_err-after.ensures.1 in
    rw (p.1, p.2, c.in_err-after.ensures.0) (vars_unmarked _ _ _ _ _ (plus_one c.args.depth) c.requires.ready c.requires.other c.in-Var.ensures.here _ c.in_ok-decls.decls _ c.in_ok-decls.ensures c.in_err-after.ensures.1)

pub for_loops::first_part-returns-in-Var : goal.for_loops::first_part-returns-in-Var
for_loops::first_part-returns-in-Var t c = vars_reads _ _ _ _ _ (plus_one c.args.depth) c.requires.ready c.requires.other c.in-Var.ensures.here _ _ _ c.in_ok-decls.ensures _ c.in_ok-after.ensures.0 c.in_ok-after.ensures.1 c.in_ok-after.ensures.2

pub for_loops::first_part-returns-in_err-list : goal.for_loops::first_part-returns-in_err-list
for_loops::first_part-returns-in_err-list t c =
    let p = err_from_is_err_and c.from_residual-in_err-list.result c.from_residual-in_err-list.ensures.1 in
    rw (p.1, p.2) (list_refused _ _ _ _ _ (plus_one c.args.depth) c.requires.ready c.requires.other _ c.peek.ensures.here c.in_default.not-Var _ c.in_err-list.ensures)

pub for_loops::first_part-returns-in_err-next : goal.for_loops::first_part-returns-in_err-next
for_loops::first_part-returns-in_err-next t c =
    let p = err_from_is_err_and c.from_residual-in_err-next.result c.from_residual-in_err-next.ensures.1 in
    rw (p.1, p.2, c.in_err-next.ensures.0) (list_unmarked _ _ _ _ _ (plus_one c.args.depth) c.requires.ready c.requires.other _ c.peek.ensures.here c.in_default.not-Var _ c.in_ok-list.list _ c.in_ok-list.ensures c.in_err-next.ensures.1)

pub for_loops::first_part-returns : goal.for_loops::first_part-returns
for_loops::first_part-returns t c = list_reads _ _ _ _ _ (plus_one c.args.depth) c.requires.ready c.requires.other _ c.peek.ensures.here c.in_default.not-Var _ _ _ c.in_ok-list.ensures _ c.in_ok-next.ensures.0 c.in_ok-next.ensures.1 c.in_ok-next.ensures.2

pub for_loops::second_part-returns-in-Semicolon : goal.for_loops::second_part-returns-in-Semicolon
for_loops::second_part-returns-in-Semicolon t c = second_none _ _ _ _ _ (plus_one c.args.depth) c.requires c.in-Semicolon.ensures.here (c.in-Semicolon.ensures.inside (λ e. cc))

pub for_loops::second_part-returns-in_err-id : goal.for_loops::second_part-returns-in_err-id
for_loops::second_part-returns-in_err-id t c =
    let p = err_from_is_err_and c.from_residual.result c.from_residual.ensures.1 in
    rw (p.1, p.2) (second_refused _ _ _ _ _ (plus_one c.args.depth) c.requires _ c.peek.ensures.here c.in_default.not-Semicolon _ c.in_err-id.ensures)

pub for_loops::second_part-returns : goal.for_loops::second_part-returns
for_loops::second_part-returns t c = second_reads _ _ _ _ _ (plus_one c.args.depth) c.requires _ c.peek.ensures.here c.in_default.not-Semicolon _ _ _ c.in_ok-id.ensures

pub for_loops::third_part-returns-in_err-list : goal.for_loops::third_part-returns-in_err-list
for_loops::third_part-returns-in_err-list t c =
    let p = err_from_is_err_and c.from_residual.result c.from_residual.ensures.1 in
    rw (p.1, p.2) (third_refused _ _ _ _ _ (plus_one c.args.depth) c.requires _ c.in_err-list.ensures)

pub for_loops::third_part-returns-in_err-next : goal.for_loops::third_part-returns-in_err-next
for_loops::third_part-returns-in_err-next t c =
    let p = err_from_is_err_and c.from_residual-in_err-next.result c.from_residual-in_err-next.ensures.1 in
    rw (p.1, p.2, c.in_err-next.ensures.0) (third_unmarked _ _ _ _ _ (plus_one c.args.depth) c.requires _ _ _ c.in_ok-list.ensures c.in_err-next.ensures.1)

pub for_loops::third_part-returns : goal.for_loops::third_part-returns
for_loops::third_part-returns t c = third_reads _ _ _ _ _ (plus_one c.args.depth) c.requires _ _ _ c.in_ok-list.ensures _ c.in_ok-next.ensures.0 c.in_ok-next.ensures.1 c.in_ok-next.ensures.2

pub for_loops::for_in_statement-add_named-requires-clause-parts : goal.for_loops::for_in_statement-add_named-requires-clause-parts
for_loops::for_in_statement-add_named-requires-clause-parts t c = ((c.in_ok-body.ensures.walks.kept.exprs _ c.in_ok-object.ensures.is_in).0, c.in_ok-body.ensures.are_in)

pub switches::switch_statement-returns-in_err-value : goal.switches::switch_statement-returns-in_err-value
switches::switch_statement-returns-in_err-value t c =
    let p = err_from_is_err_and c.from_residual.result c.from_residual.ensures.1 in
    rw (p.1, p.2) (switch_refused _ _ _ _ c.requires.ready c.requires.here _ c.in_err-value.ensures)

pub switches::switch_statement-returns-in_err-first : goal.switches::switch_statement-returns-in_err-first
switches::switch_statement-returns-in_err-first t c =
    let p = err_from_is_err_and c.from_residual-in_err-first.result c.from_residual-in_err-first.ensures.1 in
    rw (p.1, p.2, c.in_err-first.ensures.0) (switch_unopened _ _ _ _ c.requires.ready c.requires.here _ _ _ c.in_ok-value.ensures c.in_err-first.ensures.1)

pub switches::switch_statement-returns-in_err-inner : goal.switches::switch_statement-returns-in_err-inner
switches::switch_statement-returns-in_err-inner t c =
    let p = err_from_is_err_and c.from_residual-in_err-inner.result c.from_residual-in_err-inner.ensures.1 in
    rw (p.1, p.2, c.in_err-inner.ensures.0) (switch_deep _ _ _ _ c.requires.ready c.requires.here _ _ _ c.in_ok-value.ensures c.in_ok-first.ensures.1 c.in_err-inner.ensures.1)

pub switches::switch_statement-returns-in_err-list : goal.switches::switch_statement-returns-in_err-list
switches::switch_statement-returns-in_err-list t c =
    let p = err_from_is_err_and c.from_residual-in_err-list.result c.from_residual-in_err-list.ensures.1 in
    rw (p.1, p.2) (switch_inside _ _ _ _ c.requires.ready c.requires.here _ _ _ c.in_ok-value.ensures c.in_ok-first.ensures.1 _ _ c.in_ok-first.ensures.0 c.in_ok-first.ensures.2 c.in_ok-inner.ensures.0 c.in_ok-inner.ensures.1 _ c.in_err-list.ensures)

pub switches::switch_statement-returns-in_err-next : goal.switches::switch_statement-returns-in_err-next
switches::switch_statement-returns-in_err-next t c =
    let p = err_from_is_err_and c.from_residual-in_err-next.result c.from_residual-in_err-next.ensures.1 in
    rw (p.1, p.2, c.in_err-next.ensures.0) (switch_unclosed _ _ _ _ c.requires.ready c.requires.here _ _ _ c.in_ok-value.ensures c.in_ok-first.ensures.1 _ _ c.in_ok-first.ensures.0 c.in_ok-first.ensures.2 c.in_ok-inner.ensures.0 c.in_ok-inner.ensures.1 _ _ _ c.in_ok-list.ensures c.in_err-next.ensures.1)

pub switches::switch_statement-returns : goal.switches::switch_statement-returns
switches::switch_statement-returns t c = switch_ends _ _ _ _ c.requires.ready c.requires.here _ _ _ c.in_ok-value.ensures c.in_ok-first.ensures.1 _ _ c.in_ok-first.ensures.0 c.in_ok-first.ensures.2 c.in_ok-inner.ensures.0 c.in_ok-inner.ensures.1 _ _ _ c.in_ok-list.ensures _ _ _ c.in_ok-next.ensures.0 c.in_ok-next.ensures.1 c.in_ok-next.ensures.2 c.add_statement.ensures

pub switches::switch_statement-add_statement-requires-clause-parts : goal.switches::switch_statement-add_statement-requires-clause-parts
switches::switch_statement-add_statement-requires-clause-parts t c = switch_parts _ _ _ _ c.requires.ready c.requires.here _ _ _ c.in_ok-value.ensures c.in_ok-first.ensures.1 _ _ c.in_ok-first.ensures.0 c.in_ok-first.ensures.2 c.in_ok-inner.ensures.0 c.in_ok-inner.ensures.1 _ _ _ c.in_ok-list.ensures

pub switches::clauses-clauses-init : goal.switches::clauses-clauses-init
switches::clauses-clauses-init t c = rw c.new-list.ensures.items (cases_begin _ _ _ _ c.requires)

pub switches::clauses-returns-in_err-id-in-Case : goal.switches::clauses-returns-in_err-id-in-Case
switches::clauses-returns-in_err-id-in-Case t c =
    let p = err_from_is_err_and c.from_residual.result c.from_residual.ensures.1 in
    rw (p.1, p.2) (case_refused _ _ _ _ _ _ _ _ c.clauses.invariant _ c.in-Case.ensures.here refl _ c.in_err-id-in-Case.ensures)

pub switches::clauses-returns-in_err-body-in-Case : goal.switches::clauses-returns-in_err-body-in-Case
switches::clauses-returns-in_err-body-in-Case t c =
    let p = err_from_is_err_and c.from_residual-in_err-body-in-Case.result c.from_residual-in_err-body-in-Case.ensures.1 in
    rw (p.1, p.2) (case_inside _ _ _ _ _ _ _ _ c.clauses.invariant _ c.in-Case.ensures.here refl _ _ _ c.in_ok-id-in-Case.ensures _ c.in_err-body-in-Case.ensures)

pub switches::clauses-clauses-preserved-in-Case : goal.switches::clauses-clauses-preserved-in-Case
switches::clauses-clauses-preserved-in-Case t c = rw c.in_ok-push-in-Case.ensures.items (case_more _ _ _ _ _ _ _ _ c.clauses.invariant _ c.in-Case.ensures.here refl _ _ _ c.in_ok-id-in-Case.ensures _ _ _ c.in_ok-body-in-Case.ensures refl)

pub switches::clauses-returns-in_err-first-in-Default : goal.switches::clauses-returns-in_err-first-in-Default
switches::clauses-returns-in_err-first-in-Default t c =
    let p = err_from_is_err_and c.from_residual-in_err-first-in-Default.result c.from_residual-in_err-first-in-Default.ensures.1 in
    rw (p.1, p.2, c.in_err-first-in-Default.ensures.0) (default_unmarked _ _ _ _ _ _ _ _ c.clauses.invariant _ c.in-Default.ensures.here refl c.if-default.false (c.in-Default.ensures.inside (λ e. cc)) c.in_err-first-in-Default.ensures.1)

pub switches::clauses-returns-in_err-body-in-Default : goal.switches::clauses-returns-in_err-body-in-Default
switches::clauses-returns-in_err-body-in-Default t c =
    let p = err_from_is_err_and c.from_residual-in_err-body-in-Default.result c.from_residual-in_err-body-in-Default.ensures.1 in
    rw (p.1, p.2) (default_inside _ _ _ _ _ _ _ _ c.clauses.invariant _ c.in-Default.ensures.here refl c.if-default.false _ c.in_ok-first-in-Default.ensures.0 c.in_ok-first-in-Default.ensures.1 c.in_ok-first-in-Default.ensures.2 _ c.in_err-body-in-Default.ensures)

pub switches::clauses-clauses-preserved : goal.switches::clauses-clauses-preserved
switches::clauses-clauses-preserved t c = rw c.in_ok-push-in-Default.ensures.items (default_more _ _ _ _ _ _ _ _ c.clauses.invariant _ c.in-Default.ensures.here refl c.if-default.false _ c.in_ok-first-in-Default.ensures.0 c.in_ok-first-in-Default.ensures.1 c.in_ok-first-in-Default.ensures.2 _ _ _ c.in_ok-body-in-Default.ensures refl)

pub switches::clauses-returns-in_default : goal.switches::clauses-returns-in_default
switches::clauses-returns-in_default t c = cases_end _ _ _ _ _ _ _ _ c.clauses.invariant _ c.peek.ensures.here c.in_default.not-Case c.in_default.not-Default

pub branches::catch_part-returns-in_err-name : goal.branches::catch_part-returns-in_err-name
branches::catch_part-returns-in_err-name t c =
    let p = err_from_is_err_and c.from_residual.result c.from_residual.ensures.1 in
    rw (p.1, p.2, c.in_err-name.ensures.0) (λ w ss. caught_unopened _ _ _ _ c.requires w ss c.in_err-name.ensures.1)

pub branches::catch_part-returns-in_err-deeper : goal.branches::catch_part-returns-in_err-deeper
branches::catch_part-returns-in_err-deeper t c =
    let p = err_from_is_err_and c.from_residual-in_err-deeper.result c.from_residual-in_err-deeper.ensures.1 in
    rw (p.1, p.2, c.in_err-deeper.ensures.0) (λ w ss. caught_deep _ _ _ _ c.requires w ss c.in_ok-name.ensures.1 c.in_err-deeper.ensures.1)

pub branches::catch_part-returns-in_err-close : goal.branches::catch_part-returns-in_err-close
branches::catch_part-returns-in_err-close t c =
    let p = err_from_is_err_and c.from_residual-in_err-close.result c.from_residual-in_err-close.ensures.1 in
    rw (p.1, p.2, c.in_err-close.ensures.0) (λ w ss. caught_unnamed _ _ _ _ c.requires w ss c.in_ok-name.ensures.1 (omega (arith, c.in_ok-deeper.ensures.0, c.in_ok-deeper.ensures.1)) _ c.in_ok-name.ensures.0 c.in_ok-name.ensures.2 c.in_err-close.ensures.1)

pub branches::catch_part-returns-in_err-first : goal.branches::catch_part-returns-in_err-first
branches::catch_part-returns-in_err-first t c =
    let p = err_from_is_err_and c.from_residual-in_err-first.result c.from_residual-in_err-first.ensures.1 in
    rw (p.1, p.2, c.in_err-first.ensures.0) (λ w ss. caught_unclosed _ _ _ _ c.requires w ss c.in_ok-name.ensures.1 (omega (arith, c.in_ok-deeper.ensures.0, c.in_ok-deeper.ensures.1)) _ c.in_ok-name.ensures.0 c.in_ok-name.ensures.2 c.in_ok-close.ensures.1 _ c.in_ok-close.ensures.0 c.in_ok-close.ensures.2 c.in_err-first.ensures.1)

pub branches::catch_part-returns-in_err-list : goal.branches::catch_part-returns-in_err-list
branches::catch_part-returns-in_err-list t c =
    let p = err_from_is_err_and c.from_residual-in_err-list.result c.from_residual-in_err-list.ensures.1 in
    rw (p.1, p.2) (λ w ss. caught_refused _ _ _ _ c.requires w ss c.in_ok-name.ensures.1 (omega (arith, c.in_ok-deeper.ensures.0, c.in_ok-deeper.ensures.1)) _ c.in_ok-name.ensures.0 c.in_ok-name.ensures.2 c.in_ok-close.ensures.1 _ c.in_ok-close.ensures.0 c.in_ok-close.ensures.2 c.in_ok-first.ensures.1 _ c.in_ok-first.ensures.0 c.in_ok-first.ensures.2 _ c.in_err-list.ensures)

pub branches::catch_part-returns : goal.branches::catch_part-returns
branches::catch_part-returns t c = caught_reads _ _ _ _ c.requires c.in_ok-name.ensures.1 (omega (arith, c.in_ok-deeper.ensures.0, c.in_ok-deeper.ensures.1)) _ c.in_ok-name.ensures.0 c.in_ok-name.ensures.2 c.in_ok-close.ensures.1 _ c.in_ok-close.ensures.0 c.in_ok-close.ensures.2 c.in_ok-first.ensures.1 _ c.in_ok-first.ensures.0 c.in_ok-first.ensures.2 _ _ _ c.in_ok-list.ensures

pub branches::try_statement-returns-in_err-body : goal.branches::try_statement-returns-in_err-body
branches::try_statement-returns-in_err-body t c =
    let p = err_from_is_err_and c.from_residual.result c.from_residual.ensures.1 in
    rw (p.1, p.2) (try_refused _ _ _ _ c.requires.ready c.requires.here _ c.in_err-body.ensures)

pub branches::try_statement-returns-in_err-name-in-Catch : goal.branches::try_statement-returns-in_err-name-in-Catch
branches::try_statement-returns-in_err-name-in-Catch t c =
    let p = err_from_is_err_and c.from_residual-in_err-name-in-Catch.result c.from_residual-in_err-name-in-Catch.ensures.1 in
    rw (p.1, p.2) (catch_refused _ _ _ _ c.requires.ready c.requires.here _ _ _ c.in_ok-body.ensures c.in-Catch.ensures.here _ c.in_err-name-in-Catch.ensures)

pub branches::try_statement-add_named-requires : goal.branches::try_statement-add_named-requires
branches::try_statement-add_named-requires t c = record { in_text = c.requires.ready.in_text; named = (let inside = c.in_ok-name-in-Catch.ensures.named in omega (arith, inside)); parts = catch_parts _ _ _ _ c.requires.ready c.requires.here _ _ _ c.in_ok-body.ensures c.in-Catch.ensures.here _ _ _ _ c.in_ok-name-in-Catch.ensures; room = (let read = c.in_ok-name-in-Catch.ensures in let body = c.in_ok-body.ensures in omega (arith, read.walks.few, read.walks.in_text, body.walks.few, c.requires.ready.few, c.requires.ready.short)) }

pub branches::try_statement-returns-in_default-peek : goal.branches::try_statement-returns-in_default-peek
branches::try_statement-returns-in_default-peek t c = catch_ends _ _ _ _ c.requires.ready c.requires.here _ _ _ c.in_ok-body.ensures c.in-Catch.ensures.here _ _ _ _ c.in_ok-name-in-Catch.ensures _ c.in_ok-text-in-Catch.ensures _ _ c.peek-in-Catch.ensures.here c.in_default-peek.not-Finally _ c.add_named.ensures

pub branches::try_statement-returns-in_err-last-in-Catch : goal.branches::try_statement-returns-in_err-last-in-Catch
branches::try_statement-returns-in_err-last-in-Catch t c =
    let p = err_from_is_err_and c.from_residual-in_err-last-in-Catch.result c.from_residual-in_err-last-in-Catch.ensures.1 in
    rw (p.1, p.2) (both_refused _ _ _ _ c.requires.ready c.requires.here _ _ _ c.in_ok-body.ensures c.in-Catch.ensures.here _ _ _ _ c.in_ok-name-in-Catch.ensures c.in-Finally-peek.ensures.here _ c.in_err-last-in-Catch.ensures)

pub branches::try_statement-add_named-requires-in-Catch-clause-parts : goal.branches::try_statement-add_named-requires-in-Catch-clause-parts
branches::try_statement-add_named-requires-in-Catch-clause-parts t c = both_parts _ _ _ _ c.requires.ready c.requires.here _ _ _ c.in_ok-body.ensures c.in-Catch.ensures.here _ _ _ _ c.in_ok-name-in-Catch.ensures c.in-Finally-peek.ensures.here _ _ _ c.in_ok-last-in-Catch.ensures

pub branches::try_statement-returns-in_err-last-in-Finally : goal.branches::try_statement-returns-in_err-last-in-Finally
branches::try_statement-returns-in_err-last-in-Finally t c =
    let p = err_from_is_err_and c.from_residual-in_err-last-in-Finally.result c.from_residual-in_err-last-in-Finally.ensures.1 in
    rw (p.1, p.2) (final_refused _ _ _ _ c.requires.ready c.requires.here _ _ _ c.in_ok-body.ensures c.in-Finally.ensures.here _ c.in_err-last-in-Finally.ensures)

pub branches::try_statement-add_statement-requires-clause-parts : goal.branches::try_statement-add_statement-requires-clause-parts
branches::try_statement-add_statement-requires-clause-parts t c = final_parts _ _ _ _ c.requires.ready c.requires.here _ _ _ c.in_ok-body.ensures c.in-Finally.ensures.here _ _ _ c.in_ok-last-in-Finally.ensures

pub branches::try_statement-returns-in_ok-last-in-Catch : goal.branches::try_statement-returns-in_ok-last-in-Catch
branches::try_statement-returns-in_ok-last-in-Catch t c = both_ends _ _ _ _ c.requires.ready c.requires.here _ _ _ c.in_ok-body.ensures c.in-Catch.ensures.here _ _ _ _ c.in_ok-name-in-Catch.ensures c.in-Finally-peek.ensures.here _ c.in_ok-text-in-Catch.ensures _ _ _ _ _ c.in_ok-last-in-Catch.ensures c.add_named-in-Catch.ensures

pub branches::try_statement-returns-in_ok-last-in-Finally : goal.branches::try_statement-returns-in_ok-last-in-Finally
branches::try_statement-returns-in_ok-last-in-Finally t c = final_ends _ _ _ _ c.requires.ready c.requires.here _ _ _ c.in_ok-body.ensures c.in-Finally.ensures.here _ _ _ _ _ c.in_ok-last-in-Finally.ensures c.add_statement.ensures
