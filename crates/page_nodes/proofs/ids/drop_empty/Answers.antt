use Rattle.std.proofs.Common.{sym, ◌∙◌}
use Rattle.page_nodes.proofs.Tables.{empty_dropped, no_numbers}
use Rattle.page_nodes.proofs.ids.drop_empty.Goals as goal

pub returns-then-is_empty : goal.returns-then-is_empty
returns-then-is_empty c = empty_dropped c.args.lists.now c.swap_remove.new.self c.args.id.now (sym c.list_of.ensures ∙ no_numbers c.list_of.result.now (sym c.is_empty.ensures ∙ c.if-is_empty.true)) c.swap_remove.ensures.updates.0
