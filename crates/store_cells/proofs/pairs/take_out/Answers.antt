use Rattle.std.proofs.Common.{ap, ◌∙◌, subst, sym, eqb}
use Rattle.std.specs.Map.{remove_entry}
use Rattle.store_cells.specs.Holes.{IsFull}
use Rattle.store_cells.specs.Numbered.{live}
use Rattle.store_cells.proofs.Live.{full_remove, hole_is, live_distinct, live_remove, live_without, name_is}
use Rattle.store_cells.proofs.pairs.take_out.Goals as goal

pub returns-then-n-ge-FIRST_HOLE-clause-done : goal.returns-then-n-ge-FIRST_HOLE-clause-done
returns-then-n-ge-FIRST_HOLE-clause-done c = live_without c.args.n c.args.table.now.entries (hole_is c.args.n c.if-n-ge-FIRST_HOLE.true)

pub returns-then-n-ge-FIRST_HOLE-clause-distinct : goal.returns-then-n-ge-FIRST_HOLE-clause-distinct
returns-then-n-ge-FIRST_HOLE-clause-distinct c = live_distinct c.args.table.now.entries c.len-len.ensures.distinct

pub returns-then-dig-clause-distinct : goal.returns-then-dig-clause-distinct
returns-then-dig-clause-distinct c = live_distinct c.args.table.now.entries c.len-len.ensures.distinct

pub returns-else-dig-clause-full : goal.returns-else-dig-clause-full
returns-else-dig-clause-full c =
    let es = c.args.table.now.entries in
    let same = c.dig.ensures.same c.if-dig.false in
    subst (IsFull c.args.holes.now) (sym (c.shift_remove.ensures ∙ ap (remove_entry (eqb c.args.n)) same)) (full_remove c.args.n c.args.holes.now es (name_is c.args.n c.if-n-ge-FIRST_HOLE.false) c.requires)

pub returns-else-dig-clause-done : goal.returns-else-dig-clause-done
returns-else-dig-clause-done c =
    let es = c.args.table.now.entries in
    let same = c.dig.ensures.same c.if-dig.false in
    ap live (c.shift_remove.ensures ∙ ap (remove_entry (eqb c.args.n)) same) ∙ live_remove c.args.n es (name_is c.args.n c.if-n-ge-FIRST_HOLE.false)

pub returns-else-dig-clause-distinct : goal.returns-else-dig-clause-distinct
returns-else-dig-clause-distinct c = live_distinct c.args.table.now.entries c.len-len.ensures.distinct
