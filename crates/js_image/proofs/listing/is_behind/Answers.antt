use Rattle.std.proofs.Common.{◌<◌, ◌∙◌, ap, arith, get_or, length, List, ℕ, subst, sym}
use Rattle.std.specs.List.{AllByRecursion, list_any}
use Rattle.js_image.specs.Elements.{is_listed_in}
use Rattle.js_image.proofs.ForIn.{all_at, any_here, any_nowhere, lists_at}
use Rattle.js_image.proofs.listing.is_behind.Goals as goal

pub returns-then-lists : goal.returns-then-lists
returns-then-lists c =
    let cells = c.args.store.now.cells in
    let name = c.args.name.now in
    let items = c.deref-cell-items.result.now in
    let k = c.loop-cell.cell-index in
    let same = c.deref-cell-items.ensures.value in
    let lt : k < length items = omega (arith, c.loop-cell-test.true, ap length same) in
    let within = all_at (length cells) items k (subst (λ (l : List ℕ). AllByRecursion (λ i. i < length cells) l) (sym same) c.requires) lt in
    sym (any_here (is_listed_in cells name) items k lt (sym (lists_at cells (get_or items k 0) name c.lists.result within c.lists.ensures) ∙ c.if-lists.true)) ∙ ap (list_any (is_listed_in cells name)) same

pub returns : goal.returns
returns c =
    let items = c.args.behind.now.items in
    let same = c.deref-cell-items.ensures.value in
    sym (any_nowhere (is_listed_in c.args.store.now.cells c.args.name.now) items (λ k lt. c.loop-cell.invariant k (omega (arith, lt, c.loop-cell-test.false, ap length same, c.loop-cell.auto.cell-index-end))))
