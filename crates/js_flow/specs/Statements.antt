-- What the frames of statements have still to do, each by its row of the meaning.
use Rattle.std.specs.Prelude.{ℕ, List, [], ◌∷◌, drop}
use Rattle.js_tree.specs.Plain.{OptionalExpr}
use Rattle.js_tree.specs.Lists.{stmt_list}
use Rattle.js_tree.specs.Forest.{Forest, stmt_at}
use Rattle.store_cells.specs.Cells.{PlainCell}
use Rattle.widget_meaning.specs.Values as meaning
use Rattle.widget_meaning.specs.Values.{Value, Completion}
use Rattle.widget_meaning.specs.OwnState.{State}
use Rattle.widget_meaning.specs.Plan as plan
use Rattle.widget_meaning.specs.Plan.{Do, Loop, Plan, Ret, after, on_normal}
use Rattle.widget_meaning.specs.Scopes.{assign}
use Rattle.widget_meaning.specs.Calls.{statements}
use Rattle.widget_meaning.specs.Statements.{Case, branch, case_tested, caught, declarations, do_next, expressions, finally, for_again, for_in_next, for_in_over, for_next, last_end, loop_test, switch_end, switch_on, while_next}
use Rattle.js_image.specs.Image.{seen}
use Rattle.js_flow.specs.declared.job.Block.{Block}
use Rattle.js_flow.specs.declared.job.Place.{Place}
use Rattle.js_flow.specs.declared.frame.StatementFrame.{StatementFrame}
use Rattle.js_flow.specs.declared.frame.StatementFrame.TheVariants as frame
use Rattle.js_flow.specs.Parts.{block_list, catch_of, clauses_of, decls_of, else_of, finally_of, first_of, forest_at, last_of, loop_body, loop_of, then_of, variable_of}
use Rattle.js_flow.specs.Views.{completion_of, place_of}

-- the declaration at the head of these has its value: it is written, and then come those after it
abbrev pub declared : List (List ℕ × OptionalExpr) → plan.Place → Value → State → Plan
declared [] p v t = Ret meaning.Normal t
declared (d ∷ ds) p v t = declarations ds p (assign t p d.0 v)

-- after the body of a loop
abbrev pub loop_next : Loop → plan.Place → Completion → State → Plan
loop_next (plan.WhileLoop e b) = while_next e b
loop_next (plan.DoLoop b e) = do_next b e
loop_next (plan.ForLoop test next b) = for_next test next b
loop_next (plan.ForInLoop v x y ys b) = for_in_next v x ys b

-- after the first part and the last part of a loop: its test
abbrev pub loop_again : Loop → plan.Place → Completion → State → Plan
loop_again (plan.WhileLoop e b) p o s = on_normal o s (Do (plan.Eval e p) s (loop_test (plan.WhileLoop e b) p))
loop_again (plan.DoLoop b e) p o s = on_normal o s (Do (plan.Eval e p) s (loop_test (plan.DoLoop b e) p))
loop_again (plan.ForLoop test next b) p o s = for_again test next b p o s
loop_again (plan.ForInLoop v x y ys b) p o s = Ret o s

-- after the test of the clause at the head of these
abbrev pub clause_tested : Value → List Case → List Case → plan.Place → Completion → State → Plan
clause_tested v all [] p o s = Ret o s
clause_tested v all (c ∷ cs) p o s = case_tested v all c.1 cs p o s

module _ (fs : List Forest) (w : ℕ) (cells : List PlainCell) where
  -- the statements of a block at a place, from a number on
  abbrev pub block_at : Block → ℕ → Place → State → Plan
  block_at b n p s = statements (drop n (block_list (forest_at fs p.code) b)) (place_of w cells p) s

  -- what a frame does with how its part ended
  abbrev pub statement_taken : StatementFrame → Completion → State → Plan
  statement_taken (frame.Seq b n p) = λ o s. on_normal o s (block_at b n p s)
  statement_taken frame.Only = after (λ v t. Ret meaning.Normal t)
  statement_taken (frame.Declared i n p) = after (λ v t. declared (drop n (decls_of (stmt_at (forest_at fs p.code) i))) (place_of w cells p) v t)
  statement_taken (frame.First i n p) = after (λ v t. expressions (drop n (first_of (stmt_at (forest_at fs p.code) i))) (place_of w cells p) t)
  statement_taken (frame.Last i n p) = after (λ v t. expressions (drop n (last_of (stmt_at (forest_at fs p.code) i))) (place_of w cells p) t)
  statement_taken (frame.Branch i p) =
      branch (then_of (stmt_at (forest_at fs p.code) i)) (else_of (stmt_at (forest_at fs p.code) i)) (place_of w cells p)
  statement_taken (frame.Test i p) = loop_test (loop_of (stmt_at (forest_at fs p.code) i)) (place_of w cells p)
  statement_taken (frame.LoopNext i p) = loop_next (loop_of (stmt_at (forest_at fs p.code) i)) (place_of w cells p)
  statement_taken (frame.ForAgain i p) = loop_again (loop_of (stmt_at (forest_at fs p.code) i)) (place_of w cells p)
  statement_taken (frame.ForInOver i p) =
      for_in_over (variable_of (stmt_at (forest_at fs p.code) i)) (stmt_list (loop_body (stmt_at (forest_at fs p.code) i))) (place_of w cells p)
  statement_taken (frame.ForInNext l p) =
      for_in_next (seen w cells l.value.object) (variable_of (stmt_at (forest_at fs p.code) l.value.id)) (drop l.value.at l.value.names.items)
      (stmt_list (loop_body (stmt_at (forest_at fs p.code) l.value.id))) (place_of w cells p)
  statement_taken frame.ToReturn = after (λ v t. Ret (meaning.Return v) t)
  statement_taken frame.ToThrow = after (λ v t. Ret (meaning.Throw v) t)
  statement_taken (frame.Switch i p) = switch_on (clauses_of (stmt_at (forest_at fs p.code) i)) (place_of w cells p)
  statement_taken (frame.Case v i n p) =
      clause_tested (seen w cells v) (clauses_of (stmt_at (forest_at fs p.code) i)) (drop n (clauses_of (stmt_at (forest_at fs p.code) i))) (place_of w cells p)
  statement_taken frame.SwitchEnd = switch_end
  statement_taken (frame.Caught i p) = caught (catch_of (stmt_at (forest_at fs p.code) i)) (place_of w cells p)
  statement_taken (frame.Finally i p) = finally (finally_of (stmt_at (forest_at fs p.code) i)) (place_of w cells p)
  statement_taken (frame.LastEnd o) = last_end (completion_of w cells o.value)
