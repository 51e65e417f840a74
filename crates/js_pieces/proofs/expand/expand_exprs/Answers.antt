use Rattle.std.proofs.Common.{ap}
use Rattle.js_tree.specs.Forest.{exprs_at}
use Rattle.js_pieces.specs.Costs.{exprs_cost}
use Rattle.js_pieces.specs.Tidy.{exprs_tokens}
use Rattle.js_pieces.proofs.Steps.{no_items, nothing_listed, split_first, exprs_step}
use Rattle.js_pieces.proofs.expand.expand_exprs.Goals as goal

pub returns-in-empty : goal.returns-in-empty
unfolding exprs_tokens exprs_cost
returns-in-empty c = λ f h. nothing_listed f c.args.begun _ _ _ (ap (λ l. exprs_tokens (exprs_at f l)) (no_items c.args.ids.now c.in-empty.len_below))

pub returns-in_ok-push_all-in-len1-up : goal.returns-in_ok-push_all-in-len1-up
returns-in_ok-push_all-in-len1-up c = λ f h. exprs_step c.push_comma.result f c.args.begun _ _ _ (c.push_comma.ensures f) c.args.ids.now _ _ (split_first c.args.ids.now _ c.in-len1-up.len_at_least) h (c.in_ok-push_all-in-len1-up.ensures f)
