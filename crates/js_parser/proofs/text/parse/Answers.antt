use Rattle.js_parser.proofs.Answered.{answered_tree, answered_only, answered_refused, answered_place}
use Rattle.js_parser.proofs.text.parse.Goals as goal

pub returns-in-Ok-clause-tree : goal.returns-in-Ok-clause-tree
returns-in-Ok-clause-tree c = answered_tree _ _ c.in_ok-script.ensures _ _ c.in-Ok.ensures.1 c.set_program.ensures.program

pub returns-in-Ok-clause-only : goal.returns-in-Ok-clause-only
returns-in-Ok-clause-only c = answered_only _ _ c.in_ok-script.ensures _ _ c.in-Ok.ensures.1 c.set_program.ensures.program

pub returns-clause-only : goal.returns-clause-only
returns-clause-only c = answered_refused _ _ c.in_ok-script.ensures _ _ c.in-Err.ensures c.fault_of.ensures

pub returns-clause-place : goal.returns-clause-place
returns-clause-place c = answered_place _ _ c.in_ok-script.ensures _ _ c.in-Err.ensures c.fault_of.ensures
