use Rattle.std.proofs.Common.{arith, refl}
use Rattle.js_image.proofs.Grown.{kept_same}
use Rattle.page_build.proofs.Raws.{counted_more, raws_added}
use Rattle.page_build.proofs.growing.add_nodes.Goals as goal

pub overflow_sub-many : goal.overflow_sub-many
overflow_sub-many c = omega (arith, c.made-before.ensures.exact, c.made.ensures.exact, counted_more _ _ _ _ _ c.in_ok-id.ensures.added)

pub returns-clause-raws : goal.returns-clause-raws
returns-clause-raws c =
    raws_added c.args.store.now c.add_cells.new.store c.add_cells.ensures.kept c.args.page.now c.add_plain.new.page c.in_ok-id.id c.args.owner _ c.in_ok-id.ensures.added
    (λ n le lt. c.in_ok-add_cells.ensures.there n le (omega (arith, lt, c.made-before.ensures.exact, c.made.ensures.exact, counted_more _ _ _ _ _ c.in_ok-id.ensures.added)))

pub returns-in_err-id-clause-kept : goal.returns-in_err-id-clause-kept
returns-in_err-id-clause-kept c = λ fs w. kept_same fs w c.args.store.now c.args.store.now refl
