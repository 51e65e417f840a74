use Rattle.std.proofs.Common.{arith, refl}
use Rattle.page_image.proofs.Results.{if_either}
use Rattle.page_build.specs.Homes.{HaveRaws}
use Rattle.page_build.proofs.Raws.{raws_added, raws_more}
use Rattle.page_build.proofs.spares.add_loose.Goals as goal

pub returns-clause-raws : goal.returns-clause-raws
returns-clause-raws c =
    let s = c.args.store.now in
    let t = c.add_cells_before.new.store in
    let kept = c.add_cells_before.ensures.kept in
    if_either c.add_plain.result _ _ (HaveRaws s c.args.page.now → HaveRaws t c.add_plain.new.page)
    (λ id added. raws_added s t kept c.args.page.now c.add_plain.new.page id c.args.owner _ added (λ n le lt. c.in_ok-add_cells_before.ensures.there n (omega (arith, le, added.number)) (omega (arith, lt, added.number))))
    (λ e. raws_more s t kept c.args.page.now c.add_plain.new.page e)
    c.add_plain.ensures.added c.add_plain.ensures.unchanged

pub returns-in_err-add_cells_before-clause-raws : goal.returns-in_err-add_cells_before-clause-raws
returns-in_err-add_cells_before-clause-raws c = raws_more c.args.store.now c.add_cells_before.new.store c.add_cells_before.ensures.kept c.args.page.now c.args.page.now refl
