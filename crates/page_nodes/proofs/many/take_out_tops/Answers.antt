use Rattle.std.proofs.Common.{rules}
use Rattle.std.specs.Prelude.{is_some}
use Rattle.std.proofs.lemmas.Fn.{filter_same}
use Rattle.page_nodes.specs.Entries.{at, entries}
use Rattle.page_nodes.proofs.many.take_out_tops.Goals as goal

pub returns-clause-items : goal.returns-clause-items
returns-clause-items c = filter_same _ (λ x. is_some (at (entries c.args.rows.now.items) x).parent) _ (λ x b g h. search rules) _ _ c.retain.ensures.filtered
