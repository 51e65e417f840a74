use Rattle.std.proofs.Common.{arith, ap, ◌∙◌, Some}
use Rattle.page_nodes.specs.Entries.{Entry, minus, before, listed, distinct, entry_of}
use Rattle.page_nodes.proofs.Lists.{entries_set, entry_read, entries_long}
use Rattle.page_nodes.proofs.links.swap_child.Goals as goal

pub write_over-requires : goal.write_over-requires
write_over-requires c =
    let e = ap (λ (k : Entry). k.children) (entry_read c.args.rows.now.items c.args.parent _ (omega (arith, entries_long c.args.rows.now.items)) c.index_mut.ensures.value) in
    record {
      listed = ap (listed c.args.old) e ∙ c.requires.listed;
      once = ap distinct e ∙ c.requires.once;
      other = c.requires.other;
    }

pub returns : goal.returns
returns c = entries_set _ _ _ _ (ap (λ l. record (entry_of c.index_mut.result.now) { children = l }) c.write_over.ensures.items ∙ ap (λ (k : Entry). record k { children = minus c.args.old (before (Some c.args.old) c.args.new k.children) }) (entry_read c.args.rows.now.items c.args.parent _ (omega (arith, entries_long c.args.rows.now.items)) c.index_mut.ensures.value))
