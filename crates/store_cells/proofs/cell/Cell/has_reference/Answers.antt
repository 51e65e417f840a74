use Rattle.std.proofs.Common.{◌≡◌, ◌<◌, ap, arith, rules, subst, sym, true, ◌∙◌}
use Rattle.store_cells.specs.Cells.{is_array}
use Rattle.store_cells.specs.Holes.{IsNonePast}
use Rattle.store_cells.specs.Numbered.{NumberedCell, found_in, references_in}
use Rattle.store_cells.proofs.Referring.{none_refers, one_refers}
use Rattle.store_cells.proofs.cell.Cell.has_reference.Goals as goal

pub returns-then-self-eq0 : goal.returns-then-self-eq0
returns-then-self-eq0 c =
    let array : c.is_array.result ≡ true = search (rules, c.if-not-is_array.false) in
    let is : is_array c.args.self.now.head.form ≡ true = sym (ap (λ (x : NumberedCell). is_array x.head.form) c.self.view_is) ∙ sym c.is_array.ensures ∙ array in
    let none : c.args.self.now.references ≡ 0 = sym (ap (λ (x : NumberedCell). x.references) c.self.view_is) ∙ c.if-self-eq0.true in
    none_refers c.args.names.now c.args.n c.args.self.now.entries (sym (c.requires is).1 ∙ none)

pub returns-then-are_below : goal.returns-then-are_below
returns-then-are_below c =
    let array : c.is_array.result ≡ true = search (rules, c.if-not-is_array.false) in
    let is : is_array c.args.self.now.head.form ≡ true = sym (ap (λ (x : NumberedCell). is_array x.head.form) c.self.view_is) ∙ sym c.is_array.ensures ∙ array in
    let same : c.self.inside.references ≡ references_in c.args.names.now c.args.self.now.entries = ap (λ (x : NumberedCell). x.references) c.self.view_is ∙ (c.requires is).1 in
    let some : 0 < references_in c.args.names.now c.args.self.now.entries = omega (arith, same, c.if-self-eq0.false) in
    let past : IsNonePast c.args.n c.args.self.now.elements = subst (λ (x : NumberedCell). IsNonePast c.args.n x.elements) c.self.view_is (c.are_below.ensures c.if-are_below.true) in
    c.if-are_below.true ∙ one_refers c.args.names.now c.args.n (found_in c.args.self.now.elements) past.found c.args.self.now.entries (c.requires is).0.noted some
