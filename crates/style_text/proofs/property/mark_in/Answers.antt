use Rattle.std.proofs.Common.{◌≡◌, ◌∙◌, ap, List, [], ℕ, ◌||◌, false, get_or, Bor}
use Rattle.std.proofs.lemmas.List.{get_or_default}
use Rattle.style_text.proofs.Marks.{mark_read, mark_written}
use Rattle.style_text.proofs.property.mark_in.Goals as goal

pub words-preserved : goal.words-preserved
words-preserved c = λ used h.
    let none : Bor (List ℕ) = record { ref_ptr = (0, 0); now = [] } in
    let r : Bor (List ℕ) = get_or c.args.table.now c.words.i none in
    let e : r ≡ get_or c.args.table.now c.words.i r = get_or_default c.args.table.now c.words.i none r c.words-test.true in
    let inv = c.words.invariant used h in
    mark_written (λ (row : Bor (List ℕ)). used row.now) _ c.args.table.now c.words.marks c.words.i r _ c.words-test.true e inv
    (ap (λ b. b || c.spells.result) (ap (λ l. get_or l c.words.i false) inv ∙ mark_read (λ (row : Bor (List ℕ)). used row.now) _ c.args.table.now c.words.i r c.words-test.true e)
    ∙ ap (λ b. used r.now || b) c.spells.ensures)
