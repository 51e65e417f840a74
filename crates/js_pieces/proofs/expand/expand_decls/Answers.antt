use Rattle.std.proofs.Common.{ap}
use Rattle.js_tree.specs.Forest.{decls_at}
use Rattle.js_pieces.specs.Costs.{decls_cost}
use Rattle.js_pieces.specs.Tidy.{decls_tokens}
use Rattle.js_pieces.proofs.Steps.{no_items, nothing_listed, split_item, decls_step}
use Rattle.js_pieces.proofs.expand.expand_decls.Goals as goal

pub returns-in-empty : goal.returns-in-empty
unfolding decls_tokens decls_cost
returns-in-empty c = λ f h. nothing_listed f c.args.begun _ _ _ (ap (λ l. decls_tokens (decls_at f l)) (no_items c.args.decls.now c.in-empty.len_below))

pub returns-in_ok-push_all-in-len1-up : goal.returns-in_ok-push_all-in-len1-up
returns-in_ok-push_all-in-len1-up c = λ f h. decls_step c.push_comma.result f c.args.begun _ _ _ (c.push_comma.ensures f) c.args.decls.now _ _ (split_item c.args.decls.now c.decl-item.result c.in-len1-up.len_at_least c.decl-item.is) h (c.in_ok-push_all-in-len1-up.ensures f)
