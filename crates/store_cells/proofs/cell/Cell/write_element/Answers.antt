use Rattle.std.proofs.Common.{◌≡◌, ◌∙◌, Some, ap, arith, false, suc, sym}
use Rattle.std.specs.Prelude.{IfSome}
use Rattle.store_cells.specs.Arrays.{is_reference}
use Rattle.store_cells.specs.Numbered.{live, noted, numbered_written, recounted, refers_at}
use Rattle.store_cells.proofs.Live.{name_is, written_full, written_live}
use Rattle.store_cells.proofs.cell.Cell.write_element.Goals as goal

pub set-requires : goal.set-requires
set-requires c = rw c.in-Some.is at c.plain_place.ensures.place

pub invariant_of-self : goal.invariant_of-self
invariant_of-self c = written_full c.self.inside.holes c.args.n c.args.value c.self.inside.table.entries c.set.new.self.entries (name_is c.args.n c.requires.name) c.set.ensures c.self.invariant

pub returns-in-Some-clause-ok : goal.returns-in-Some-clause-ok
returns-in-Some-clause-ok c =
    let s = c.self.inside in
    let n = c.args.n in
    let p = written_live n c.args.value s.table.entries c.set.new.self.entries (name_is n c.requires.name) c.set.ensures in
    let kept = rw c.in-Some.is at c.plain_place.ensures.noted in
    let had = rw c.in-Some.is at c.plain_place.ensures.plain in
    let has : is_reference c.args.value ≡ false = sym c.is_reference.ensures ∙ c.if-is_reference.false in
    let same : s.references ≡ recounted false false s.references = omega arith in
    let count : s.references ≡ recounted (refers_at n (live s.table.entries)) (is_reference c.args.value) s.references = same ∙ (λ j. recounted (sym had j) (sym has j) s.references) in
    (λ j. record { head = s.head; elements = sym kept j; references = count j; entries = p j }) ∙ ap (numbered_written n c.args.value (suc c.args.at)) c.self.view_is
