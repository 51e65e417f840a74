use Rattle.std.proofs.Common.{arith, ap, ◌∙◌, length}
use Rattle.std.proofs.lemmas.List.{with_items_is}
use Rattle.page_nodes.specs.Entries.{Entry, entry_of}
use Rattle.page_nodes.specs.Many.{backward, put_off}
use Rattle.page_nodes.proofs.Lists.{entries_set, entry_read, entries_long}
use Rattle.page_nodes.proofs.many.turn_children.Goals as goal

pub returns : goal.returns
returns c = entries_set _ _ _ _
    (ap (λ l. record (entry_of c.index_mut.result.now) { children = l }) (with_items_is c.index_mut.result.now.children c.turn_in.new.list (omega (arith, c.turn_in.auto.list, c.deref_mut.ensures.len, ap length c.deref_mut.ensures.value)) ∙ c.turn_in.ensures ∙ ap (λ l. put_off c.args.place c.args.first (backward c.args.first l)) c.deref_mut.ensures.value)
    ∙ ap (λ (k : Entry). record k { children = put_off c.args.place c.args.first (backward c.args.first k.children) }) (entry_read c.args.rows.now.items c.args.parent _ (omega (arith, entries_long c.args.rows.now.items)) c.index_mut.ensures.value))
