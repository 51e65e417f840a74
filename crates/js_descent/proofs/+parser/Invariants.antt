use Rattle.std.proofs.Common.{◌+◌, ◌-◌, ◌*◌, ◌∷◌, length}
use Rattle.js_tree.specs.Forest.{expr_at}
use Rattle.js_tree.specs.Trees.{trees}
use Rattle.js_grammar.specs.Tables.{level_of}
use Rattle.js_grammar.specs.Machine.{Wants, Gives, PrimaryAt, UnaryAt, Tail, NewTail, Target, Rest, Commas, whole}
use Rattle.js_cursor.specs.Reads.{lexeme_at}
use Rattle.js_descent.specs.Rows.{Reads, IsReady}
use Rattle.js_descent.proofs.Exprs.{ChainSoFar}
use Rattle.js_descent.proofs.ExprLists.{ItemsSoFar, KeysSoFar}
use Rattle.js_descent.proofs.Loops.{StatementsSoFar, DeclsSoFar, LabelsLeft, BodySoFar, CasesSoFar}
use Rattle.js_descent.proofs.+parser.Given as goal

-- by depth, and at one depth along the calls
abbrev pub decreases-statements::code : goal.decreases-statements::code
decreases-statements::code l = 100 * (201 - l.depth) + 1

abbrev pub decreases-expressions::function : goal.decreases-expressions::function
decreases-expressions::function l = 100 * (201 - l.depth) + 2

abbrev pub decreases-expressions::paren : goal.decreases-expressions::paren
decreases-expressions::paren l = 100 * (201 - l.depth) + 2

abbrev pub decreases-expressions::array : goal.decreases-expressions::array
decreases-expressions::array l = 100 * (201 - l.depth) + 2

abbrev pub decreases-expressions::object : goal.decreases-expressions::object
decreases-expressions::object l = 100 * (201 - l.depth) + 2

abbrev pub decreases-expressions::primary : goal.decreases-expressions::primary
decreases-expressions::primary l = 100 * (201 - l.depth) + 3

abbrev pub decreases-expressions::subscript : goal.decreases-expressions::subscript
decreases-expressions::subscript l = 100 * (201 - l.depth) + 2

abbrev pub decreases-expressions::call : goal.decreases-expressions::call
decreases-expressions::call l = 100 * (201 - l.depth) + 2

abbrev pub decreases-expressions::new_call : goal.decreases-expressions::new_call
decreases-expressions::new_call l = 100 * (201 - l.depth) + 2

abbrev pub decreases-expressions::operand : goal.decreases-expressions::operand
decreases-expressions::operand l = 100 * (201 - l.depth) + 4

abbrev pub decreases-expressions::new_form : goal.decreases-expressions::new_form
decreases-expressions::new_form l = 100 * (201 - l.depth) + 5

abbrev pub decreases-expressions::head : goal.decreases-expressions::head
decreases-expressions::head l = 100 * (201 - l.depth) + 6

abbrev pub decreases-expressions::left_hand : goal.decreases-expressions::left_hand
decreases-expressions::left_hand l = 100 * (201 - l.depth) + 7

abbrev pub decreases-expressions::prefixed : goal.decreases-expressions::prefixed
decreases-expressions::prefixed l = 100 * (201 - l.depth) + 1

abbrev pub decreases-expressions::unary : goal.decreases-expressions::unary
decreases-expressions::unary l = 100 * (201 - l.depth) + 9

abbrev pub decreases-expressions::bare : goal.decreases-expressions::bare
decreases-expressions::bare l = 100 * (201 - l.depth) + 8

abbrev pub decreases-expressions::bare_assignment : goal.decreases-expressions::bare_assignment
decreases-expressions::bare_assignment l = 100 * (201 - l.depth) + 43

abbrev pub decreases-expressions::some_items : goal.decreases-expressions::some_items
decreases-expressions::some_items l = 100 * (201 - l.depth) + 46

abbrev pub decreases-expressions::operators : goal.decreases-expressions::operators
decreases-expressions::operators l = 100 * (201 - l.depth) + (12 + 3 * l.limit)

abbrev pub decreases-expressions::joined : goal.decreases-expressions::joined
decreases-expressions::joined l = 100 * (201 - l.depth) + (13 + 3 * level_of l.operator)

abbrev pub decreases-expressions::chain : goal.decreases-expressions::chain
decreases-expressions::chain l = 100 * (201 - l.depth) + (11 + 3 * l.limit)

abbrev pub decreases-expressions::choice : goal.decreases-expressions::choice
decreases-expressions::choice l = 100 * (201 - l.depth) + 1

abbrev pub decreases-expressions::conditional : goal.decreases-expressions::conditional
decreases-expressions::conditional l = 100 * (201 - l.depth) + 42

abbrev pub decreases-expressions::assigned : goal.decreases-expressions::assigned
decreases-expressions::assigned l = 100 * (201 - l.depth) + 1

abbrev pub decreases-expressions::assignment : goal.decreases-expressions::assignment
decreases-expressions::assignment l = 100 * (201 - l.depth) + 44

abbrev pub decreases-expressions::comma : goal.decreases-expressions::comma
decreases-expressions::comma l = 100 * (201 - l.depth) + 45

abbrev pub decreases-expressions::whole : goal.decreases-expressions::whole
decreases-expressions::whole l = 100 * (201 - l.depth) + 46

abbrev pub decreases-expressions::items : goal.decreases-expressions::items
decreases-expressions::items l = 100 * (201 - l.depth) + 47

abbrev pub decreases-expressions::property : goal.decreases-expressions::property
decreases-expressions::property l = 100 * (201 - l.depth) + 45

abbrev pub decreases-expressions::keys : goal.decreases-expressions::keys
decreases-expressions::keys l = 100 * (201 - l.depth) + 46

abbrev pub invariant-expressions::operand-tails : goal.invariant-expressions::operand-tails
invariant-expressions::operand-tails l = record {
  read : Reads (λ k. Wants (PrimaryAt l.depth ∷ NewTail l.depth (lexeme_at l.script l.word) ∷ k)) (λ k. NewTail l.depth (lexeme_at l.script l.word) ∷ k) l.script l.fn.at (trees l.fn.tree) (trees l.tree) l.left l.place;
  ready : IsReady l.script l.place l.depth (trees l.tree);
}

abbrev pub decreases-expressions::operand-tails : goal.decreases-expressions::operand-tails
decreases-expressions::operand-tails l = length l.script - l.place

abbrev pub invariant-expressions::left_hand-tails : goal.invariant-expressions::left_hand-tails
invariant-expressions::left_hand-tails l = record {
  read : Reads (λ k. Wants (UnaryAt l.depth ∷ k)) (λ k. Tail l.depth ∷ Target l.depth ∷ k) l.script l.fn.at (trees l.fn.tree) (trees l.tree) l.left l.place;
  ready : IsReady l.script l.place l.depth (trees l.tree);
}

abbrev pub decreases-expressions::left_hand-tails : goal.decreases-expressions::left_hand-tails
decreases-expressions::left_hand-tails l = length l.script - l.place

abbrev pub invariant-expressions::chain-chain : goal.invariant-expressions::chain-chain
invariant-expressions::chain-chain l = ChainSoFar (λ k. Gives (expr_at (trees l.fn.tree) l.fn.first) (Rest l.no_in l.limit l.depth ∷ k)) l.no_in l.limit l.depth l.script l.fn.at l.place (trees l.fn.tree) (trees l.tree) l.left

abbrev pub decreases-expressions::chain-chain : goal.decreases-expressions::chain-chain
decreases-expressions::chain-chain l = length l.script - l.place

abbrev pub invariant-expressions::whole-commas : goal.invariant-expressions::whole-commas
invariant-expressions::whole-commas l = record {
  read : Reads (λ k. Wants (whole l.depth k)) (λ k. Commas l.depth ∷ k) l.script l.fn.at (trees l.fn.tree) (trees l.tree) l.left l.place;
  ready : IsReady l.script l.place l.depth (trees l.tree);
}

abbrev pub decreases-expressions::whole-commas : goal.decreases-expressions::whole-commas
decreases-expressions::whole-commas l = length l.script - l.place

abbrev pub invariant-expressions::some_items-items : goal.invariant-expressions::some_items-items
invariant-expressions::some_items-items l = ItemsSoFar l.no_in l.depth l.script l.fn.at l.place (trees l.fn.tree) (trees l.tree) l.list.items

abbrev pub decreases-expressions::some_items-items : goal.decreases-expressions::some_items-items
decreases-expressions::some_items-items l = length l.script - l.place

abbrev pub invariant-expressions::keys-keys : goal.invariant-expressions::keys-keys
invariant-expressions::keys-keys l = KeysSoFar l.depth l.script l.fn.at l.place (trees l.fn.tree) (trees l.tree) l.list.items l.names.items

abbrev pub decreases-expressions::keys-keys : goal.decreases-expressions::keys-keys
decreases-expressions::keys-keys l = length l.script - l.place

abbrev pub decreases-statements::marked : goal.decreases-statements::marked
decreases-statements::marked l = 100 * (201 - l.depth) + 50

abbrev pub decreases-statements::test : goal.decreases-statements::test
decreases-statements::test l = 100 * (201 - l.depth) + 51

abbrev pub decreases-statements::statements : goal.decreases-statements::statements
decreases-statements::statements l = 100 * (201 - l.depth) + 61

abbrev pub decreases-statements::block : goal.decreases-statements::block
decreases-statements::block l = 100 * (201 - l.depth) + 51

abbrev pub decreases-statements::statement : goal.decreases-statements::statement
decreases-statements::statement l = 100 * (201 - l.depth) + 60

abbrev pub decreases-statements::unlabelled : goal.decreases-statements::unlabelled
decreases-statements::unlabelled l = 100 * (201 - l.depth) + 59

abbrev pub decreases-statements::while_statement : goal.decreases-statements::while_statement
decreases-statements::while_statement l = 100 * (201 - l.depth) + 55

abbrev pub decreases-statements::with_statement : goal.decreases-statements::with_statement
decreases-statements::with_statement l = 100 * (201 - l.depth) + 55

abbrev pub decreases-statements::do_statement : goal.decreases-statements::do_statement
decreases-statements::do_statement l = 100 * (201 - l.depth) + 55

abbrev pub decreases-statements::if_statement : goal.decreases-statements::if_statement
decreases-statements::if_statement l = 100 * (201 - l.depth) + 56

abbrev pub decreases-statements::else_part : goal.decreases-statements::else_part
decreases-statements::else_part l = 100 * (201 - l.depth) + 54

abbrev pub decreases-statements::throw_statement : goal.decreases-statements::throw_statement
decreases-statements::throw_statement l = 100 * (201 - l.depth) + 55

abbrev pub decreases-statements::return_statement : goal.decreases-statements::return_statement
decreases-statements::return_statement l = 100 * (201 - l.depth) + 55

abbrev pub decreases-statements::var_statement : goal.decreases-statements::var_statement
decreases-statements::var_statement l = 100 * (201 - l.depth) + 55

abbrev pub decreases-statements::expression_statement : goal.decreases-statements::expression_statement
decreases-statements::expression_statement l = 100 * (201 - l.depth) + 55

abbrev pub decreases-statements::declarations : goal.decreases-statements::declarations
decreases-statements::declarations l = 100 * (201 - l.depth) + 51

abbrev pub decreases-statements::initial : goal.decreases-statements::initial
decreases-statements::initial l = 100 * (201 - l.depth) + 50

abbrev pub decreases-statements::declaration : goal.decreases-statements::declaration
decreases-statements::declaration l = 100 * (201 - l.depth) + 2

abbrev pub decreases-statements::body : goal.decreases-statements::body
decreases-statements::body l = 100 * (201 - l.depth) + 62

abbrev pub decreases-for_loops::for_statement : goal.decreases-for_loops::for_statement
decreases-for_loops::for_statement l = 100 * (201 - l.depth) + 58

abbrev pub decreases-for_loops::for_in_statement : goal.decreases-for_loops::for_in_statement
decreases-for_loops::for_in_statement l = 100 * (201 - l.depth) + 57

abbrev pub decreases-for_loops::for_loop : goal.decreases-for_loops::for_loop
decreases-for_loops::for_loop l = 100 * (201 - l.depth) + 57

abbrev pub decreases-for_loops::first_part : goal.decreases-for_loops::first_part
decreases-for_loops::first_part l = 100 * (201 - l.depth) + 53

abbrev pub decreases-for_loops::second_part : goal.decreases-for_loops::second_part
decreases-for_loops::second_part l = 100 * (201 - l.depth) + 53

abbrev pub decreases-for_loops::third_part : goal.decreases-for_loops::third_part
decreases-for_loops::third_part l = 100 * (201 - l.depth) + 53

abbrev pub decreases-switches::switch_statement : goal.decreases-switches::switch_statement
decreases-switches::switch_statement l = 100 * (201 - l.depth) + 58

abbrev pub decreases-switches::clauses : goal.decreases-switches::clauses
decreases-switches::clauses l = 100 * (201 - l.depth) + 65

abbrev pub invariant-statements::statements-list : goal.invariant-statements::statements-list
invariant-statements::statements-list l = StatementsSoFar l.script l.fn.at l.place l.depth (trees l.fn.tree) (trees l.tree) l.list.items

abbrev pub decreases-statements::statements-list : goal.decreases-statements::statements-list
decreases-statements::statements-list l = length l.script - l.place

abbrev pub invariant-statements::statement-labels : goal.invariant-statements::statement-labels
invariant-statements::statement-labels l = LabelsLeft l.script l.fn.at l.next l.depth (trees l.fn.tree) (trees l.tree) l.labels.items l.id

abbrev pub decreases-statements::statement-labels : goal.decreases-statements::statement-labels
decreases-statements::statement-labels l = length l.labels.items

abbrev pub invariant-statements::declarations-list : goal.invariant-statements::declarations-list
invariant-statements::declarations-list l = DeclsSoFar l.no_in l.script l.fn.at l.place l.depth (trees l.fn.tree) (trees l.tree) l.list.items

abbrev pub decreases-statements::declarations-list : goal.decreases-statements::declarations-list
decreases-statements::declarations-list l = length l.script - l.place

abbrev pub invariant-statements::body-body : goal.invariant-statements::body-body
invariant-statements::body-body l = BodySoFar l.script l.fn.at l.place l.depth (trees l.fn.tree) (trees l.tree) l.list.items l.funs.items

abbrev pub decreases-statements::body-body : goal.decreases-statements::body-body
decreases-statements::body-body l = length l.script - l.place

abbrev pub invariant-switches::clauses-clauses : goal.invariant-switches::clauses-clauses
invariant-switches::clauses-clauses l = CasesSoFar l.script l.fn.at l.place l.depth (trees l.fn.tree) (trees l.tree) l.list.items l.default

abbrev pub decreases-switches::clauses-clauses : goal.decreases-switches::clauses-clauses
decreases-switches::clauses-clauses l = length l.script - l.place

abbrev pub decreases-branches::catch_part : goal.decreases-branches::catch_part
decreases-branches::catch_part l = 100 * (201 - l.depth) + 52

abbrev pub decreases-branches::try_statement : goal.decreases-branches::try_statement
decreases-branches::try_statement l = 100 * (201 - l.depth) + 55
