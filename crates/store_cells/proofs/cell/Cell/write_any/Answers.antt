use Rattle.std.proofs.Common.{◌∙◌, ℕ, List, ap, eqb, suc}
use Rattle.indexmap.specs.IndexMap.{insert_entry}
use Rattle.store_cells.specs.declared.value.Value.{Value}
use Rattle.store_cells.specs.Arrays.{is_reference}
use Rattle.store_cells.specs.Numbered.{live, numbered_written, recounted, refers_at}
use Rattle.store_cells.proofs.Live.{name_is, written_full, written_live}
use Rattle.store_cells.proofs.cell.Cell.write_any.Goals as goal

pub invariant_of-self-2 : goal.invariant_of-self-2
invariant_of-self-2 c = written_full c.self.inside.holes c.args.n c.args.value c.self.inside.table.entries c.insert.new.self.entries (name_is c.args.n c.requires.name) (c.in-Ok.ensures.entries ∙ ap (λ es. insert_entry eqb es c.args.n c.args.value) c.in_ok-reserve.ensures.entries) c.self.invariant

pub returns-clause-ok : goal.returns-clause-ok
returns-clause-ok c =
    let s = c.self.inside in
    let p = written_live c.args.n c.args.value s.table.entries c.insert.new.self.entries (name_is c.args.n c.requires.name) (c.in-Ok.ensures.entries ∙ ap (λ es. insert_entry eqb es c.args.n c.args.value) c.in_ok-reserve.ensures.entries) in
    let q = c.in_ok-note.ensures.ok in
    let r = c.recounted-count.ensures ∙ ap (λ (es : List (ℕ × Value)). recounted (refers_at c.args.n (live es)) (is_reference c.args.value) s.references) c.in_ok-reserve.ensures.entries in
    (λ j. record { head = s.head; elements = q j; references = r j; entries = p j }) ∙ ap (numbered_written c.args.n c.args.value (suc c.args.at)) c.self.view_is
