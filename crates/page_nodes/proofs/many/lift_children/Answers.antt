use Rattle.std.proofs.Common.{[], arith, ap, cond, eqb, set, ◌∙◌}
use Rattle.page_nodes.specs.Entries.{Entry, entry_of}
use Rattle.page_nodes.specs.Room.{room_in, room_at}
use Rattle.page_nodes.proofs.Lists.{entries_set, entry_read, entries_long, room_lifted}
use Rattle.page_nodes.proofs.many.lift_children.Goals as goal

pub returns-clause-links : goal.returns-clause-links
returns-clause-links c = entries_set _ _ _ _ (ap (λ v. record (entry_of c.index_mut.result.now) { children = v.items }) c.replace.ensures.after ∙ ap (λ l. record (entry_of c.index_mut.result.now) { children = l }) c.new-none.ensures.items ∙ ap (λ (k : Entry). record k { children = [] }) (entry_read c.args.rows.now.items c.args.parent _ (omega (arith, entries_long c.args.rows.now.items)) c.index_mut.ensures.value))

pub returns-clause-room : goal.returns-clause-room
returns-clause-room c = λ t.
    let r = record c.index_mut.result.now { children = c.replace.new.dest } in
    ap (λ v. cond (eqb t c.args.parent) (room_in v) (room_at (set c.args.rows.now.items c.args.parent r) t)) c.replace.ensures.value
    ∙ room_lifted c.args.rows.now.items c.args.parent t r c.index_mut.result.now (omega (arith, entries_long c.args.rows.now.items)) c.index_mut.ensures.value
