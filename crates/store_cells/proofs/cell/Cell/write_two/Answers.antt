use Rattle.std.proofs.Common.{◌≡◌, ◌-◌, ◌∙◌, ℕ, List, ap, arith, eqb, suc}
use Rattle.indexmap.specs.IndexMap.{insert_entry}
use Rattle.store_cells.specs.declared.value.Value.{Value}
use Rattle.store_cells.specs.Arrays.{is_reference}
use Rattle.store_cells.specs.Numbered.{element_recounted, live, noted, numbered_two, recounted, refers_at}
use Rattle.store_cells.proofs.Live.{name_is, written_full, written_live}
use Rattle.store_cells.proofs.cell.Cell.write_two.Goals as goal

pub invariant_of-self-2 : goal.invariant_of-self-2
invariant_of-self-2 c =
    let s = c.self.inside in
    let one = written_full s.holes c.args.n c.args.value s.table.entries c.insert.new.self.entries (name_is c.args.n c.if-n-ge-FIRST_HOLE.false) (c.in-Ok.ensures.entries ∙ ap (λ es. insert_entry eqb es c.args.n c.args.value) c.in_ok-reserve.ensures.entries) c.self.invariant in
    written_full s.holes c.args.m c.args.other c.insert.new.self.entries c.insert-2.new.self.entries (name_is c.args.m c.if-m-ge-FIRST_HOLE.false) c.in-Ok-insert.ensures.entries one

pub returns-clause-ok : goal.returns-clause-ok
returns-clause-ok c =
    let s = c.self.inside in
    let p = written_live c.args.n c.args.value s.table.entries c.insert.new.self.entries (name_is c.args.n c.if-n-ge-FIRST_HOLE.false) (c.in-Ok.ensures.entries ∙ ap (λ es. insert_entry eqb es c.args.n c.args.value) c.in_ok-reserve.ensures.entries) in
    let r = written_live c.args.m c.args.other c.insert.new.self.entries c.insert-2.new.self.entries (name_is c.args.m c.if-m-ge-FIRST_HOLE.false) c.in-Ok-insert.ensures.entries ∙ ap (λ es. insert_entry eqb es c.args.m c.args.other) p in
    let end : suc (c.args.end - 1) ≡ c.args.end = omega (arith, c.if-end-eq0.false) in
    let q = c.in_ok-note.ensures.ok ∙ ap (λ k. noted k c.args.n s.elements) end in
    let k = c.recounted-count.ensures ∙ ap (λ (es : List (ℕ × Value)). recounted (refers_at c.args.n (live es)) (is_reference c.args.value) s.references) c.in_ok-reserve.ensures.entries ∙ ap (λ e. element_recounted e (refers_at c.args.n (live s.table.entries)) (is_reference c.args.value) s.references) end in
    (λ j. record { head = s.head; elements = q j; references = k j; entries = r j }) ∙ ap (numbered_two c.args.n c.args.value c.args.m c.args.other c.args.end) c.self.view_is
