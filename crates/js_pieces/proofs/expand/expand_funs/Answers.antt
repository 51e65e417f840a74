use Rattle.js_pieces.specs.Costs.{funs_cost}
use Rattle.js_pieces.specs.Tidy.{funs_tokens}
use Rattle.js_pieces.proofs.Stacks.{pushes_none}
use Rattle.js_pieces.proofs.Steps.{no_items, split_first, funs_step}
use Rattle.js_pieces.proofs.expand.expand_funs.Goals as goal

pub returns-in-empty : goal.returns-in-empty
unfolding funs_tokens funs_cost
returns-in-empty c = λ f h. rw (no_items c.args.ids.now c.in-empty.len_below) (pushes_none f _ _)

pub returns-in-len1-up : goal.returns-in-len1-up
returns-in-len1-up c = λ f h. funs_step c.push_all.result f _ _ c.args.ids.now _ _ (split_first c.args.ids.now _ c.in-len1-up.len_at_least) h (c.push_all.ensures f)
