use Rattle.js_pieces.proofs.Steps.{split_item, names_step}
use Rattle.js_pieces.proofs.expand.expand_names.Goals as goal

pub returns-in_ok-push_all-in-len1-up : goal.returns-in_ok-push_all-in-len1-up
returns-in_ok-push_all-in-len1-up c = λ f. names_step c.push_comma.result f c.args.begun _ _ _ (c.push_comma.ensures f) c.args.texts.now _ _ (split_item c.args.texts.now c.text-item.result c.in-len1-up.len_at_least c.text-item.is) (c.in_ok-push_all-in-len1-up.ensures f)
