use Rattle.std.proofs.Common.{arith, ap, ◌∙◌}
use Rattle.tree_ops.specs.Labels.{with_attribute}
use Rattle.page_nodes.specs.Entries.{Entry, entry_of}
use Rattle.page_nodes.proofs.Lists.{entries_set, entries_same, entry_read, entries_long, match_more}
use Rattle.page_nodes.proofs.links.set_attribute.Goals as goal

pub returns : goal.returns
returns c =
    let here = entry_read c.args.rows.now.items c.args.node _ (omega (arith, entries_long c.args.rows.now.items)) c.index_mut.ensures.value in
    match_more c.set_attribute.result _ _ _ _
    (λ e. entries_set _ _ _ _ (ap (λ l. record (entry_of c.index_mut.result.now) { label = l }) e ∙ ap (λ (k : Entry). record k { label = with_attribute c.args.name.now c.args.value k.label }) here))
    (λ e. entries_same _ _ _ (ap (λ l. record (entry_of c.index_mut.result.now) { label = l }) e ∙ here))
    c.set_attribute.ensures
