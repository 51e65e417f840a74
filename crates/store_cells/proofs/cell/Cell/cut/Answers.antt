use Rattle.std.proofs.Common.{◌≡◌, ◌∙◌, ap, length, subst, sym}
use Rattle.store_cells.specs.Numbered.{NumberedCell, found_in, numbered_cut, references_in}
use Rattle.store_cells.specs.Shape.{IsIndexed, Known}
use Rattle.store_cells.proofs.cell.Cell.cut.Goals as goal

pub returns : goal.returns
returns c = λ names known indexed counted.
    let s = c.self.inside in
    let k = subst (λ (x : NumberedCell). Known (length names) x.entries) (sym c.self.view_is) known in
    let i = subst (λ (x : NumberedCell). IsIndexed names (found_in x.elements) x.entries) (sym c.self.view_is) indexed in
    let n = subst (λ (x : NumberedCell). x.references ≡ references_in names x.entries) (sym c.self.view_is) counted in
    let p = c.cut.ensures.entries names k i in
    let q = c.cut.ensures.elements in
    let r = c.cut.ensures.count names k i n ∙ ap (references_in names) p in
    (λ j. record { head = s.head; elements = q j; references = r j; entries = p j }) ∙ ap (numbered_cut names c.args.n) c.self.view_is
