use Rattle.std.proofs.Common.{arith, ap, ◌∙◌, ◌<◌, length, sym, subst, ◌≤◌, eq-eqb, cond, refl}
use Rattle.page_nodes.specs.Room.{room_in, room_at}
use Rattle.page_nodes.specs.Entries.{entry_of}
use Rattle.page_nodes.proofs.Lists.{entries_same, entry_read, entries_long, room_set, ok_more}
use Rattle.page_nodes.proofs.links.reserve_children.Goals as goal

pub returns-clause-links : goal.returns-clause-links
returns-clause-links c = entries_same _ _ _ (ap (λ l. record (entry_of c.index_mut.result.now) { children = l }) c.reserve.ensures.items ∙ entry_read c.args.rows.now.items c.args.parent _ (omega (arith, entries_long c.args.rows.now.items)) c.index_mut.ensures.value)

pub returns-clause-room : goal.returns-clause-room
returns-clause-room c =
    let lt : c.args.parent < length c.args.rows.now.items = omega (arith, entries_long c.args.rows.now.items) in
    let e = room_set c.args.rows.now.items c.args.parent c.args.parent (record c.index_mut.result.now { children = c.reserve.new.self }) lt ∙ ap (λ b. cond b (room_in c.reserve.new.self) (room_at c.args.rows.now.items c.args.parent)) (eq-eqb c.args.parent c.args.parent refl) in
    ok_more _ _ _ c.reserve.ensures.ok (λ h. subst (λ y. c.args.count ≤ y) (sym e) (omega (arith, h, c.reserve.ensures.len)))
