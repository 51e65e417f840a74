use Rattle.js_pieces.specs.Costs.{clauses_cost}
use Rattle.js_pieces.specs.Tidy.{clauses_tokens}
use Rattle.js_pieces.proofs.Stacks.{pushes_none}
use Rattle.js_pieces.proofs.Steps.{no_items, split_item, clauses_step}
use Rattle.js_pieces.proofs.expand.expand_clauses.Goals as goal

pub returns-in-empty : goal.returns-in-empty
unfolding clauses_tokens clauses_cost
returns-in-empty c = λ f h. rw (no_items c.args.clauses.now c.in-empty.len_below) (pushes_none f _ _)

pub returns-in-len1-up : goal.returns-in-len1-up
returns-in-len1-up c = λ f h. clauses_step c.push_all.result f _ _ c.args.clauses.now _ c.clause-item.result c.deref.result.now (split_item c.args.clauses.now c.clause-item.result c.in-len1-up.len_at_least c.clause-item.is) c.deref.ensures.value h (c.push_all.ensures f)
