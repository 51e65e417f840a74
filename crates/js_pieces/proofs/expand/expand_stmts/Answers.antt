use Rattle.js_pieces.specs.Costs.{stmts_cost}
use Rattle.js_pieces.specs.Tidy.{stmts_tokens}
use Rattle.js_pieces.proofs.Stacks.{pushes_none}
use Rattle.js_pieces.proofs.Steps.{no_items, split_first, stmts_step}
use Rattle.js_pieces.proofs.expand.expand_stmts.Goals as goal

pub returns-in-empty : goal.returns-in-empty
unfolding stmts_tokens stmts_cost
returns-in-empty c = λ f h. rw (no_items c.args.ids.now c.in-empty.len_below) (pushes_none f _ _)

pub returns-in-len1-up : goal.returns-in-len1-up
returns-in-len1-up c = λ f h. stmts_step c.push_all.result f _ _ c.args.ids.now _ _ (split_first c.args.ids.now _ c.in-len1-up.len_at_least) h (c.push_all.ensures f)
