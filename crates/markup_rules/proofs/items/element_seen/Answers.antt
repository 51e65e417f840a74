use Rattle.std.proofs.Common.{refl}
use Rattle.markup_rules.proofs.Nodes.{seen_element}
use Rattle.markup_rules.proofs.items.element_seen.Goals as goal

pub returns : goal.returns
returns c = λ kids. seen_element _ c.args.tag.now c.args.attrs.now kids c.args.at refl c.is_word-is_div.ensures c.is_word-is_script.ensures c.is_own_script-is_own_script.ensures
