use Rattle.std.proofs.Common.{arith, refl, subst}
use Rattle.js_image.proofs.Grown.{kept_same}
use Rattle.page_image.proofs.Results.{if_either, if_ok_then, err_then}
use Rattle.page_build.specs.Layout.{IsLot, Own}
use Rattle.page_build.specs.Standing.{HostJoins}
use Rattle.page_build.proofs.Hosted.{host_joins}
use Rattle.page_build.proofs.Coming.{host_spare, markup_here, same_host_joins, same_page}
use Rattle.page_build.proofs.spares.add_spare_div.Goals as goal

pub returns-clause-lot : goal.returns-clause-lot
returns-clause-lot c = if_ok_then c.add_loose.result _ _ (λ id added. subst (λ t. IsLot c.add_loose.new.page (Own t) id) c.in_ok-plain.ensures (markup_here c.args.page.now c.add_loose.new.page id _ added)) c.add_loose.ensures.added

pub returns-clause-spare : goal.returns-clause-spare
returns-clause-spare c = if_ok_then c.add_loose.result _ _ (λ id added. host_spare c.args.page.now c.add_loose.new.page id _ added) c.add_loose.ensures.added

pub returns-clause-page : goal.returns-clause-page
returns-clause-page c =
    if_either c.add_loose.result _ _ (HostJoins c.args.page.now c.add_loose.new.page)
    (λ id added. host_joins c.args.page.now c.add_loose.new.page id _ c.add_loose.ensures.roots added)
    (λ e. same_host_joins c.args.page.now c.add_loose.new.page (same_page c.args.page.now c.add_loose.new.page c.add_loose.ensures.roots e))
    c.add_loose.ensures.added c.add_loose.ensures.unchanged

pub returns-clause-unchanged : goal.returns-clause-unchanged
returns-clause-unchanged c = err_then c.add_loose.result _ _ (λ e. same_page c.args.page.now c.add_loose.new.page c.add_loose.ensures.roots e) c.add_loose.ensures.unchanged

pub returns-in_err-plain-clause-page : goal.returns-in_err-plain-clause-page
returns-in_err-plain-clause-page c = same_host_joins c.args.page.now c.args.page.now (record { same = refl; roots = λ v lt. refl })

pub returns-in_err-plain-clause-kept : goal.returns-in_err-plain-clause-kept
returns-in_err-plain-clause-kept c = λ fs v. kept_same fs v c.args.store.now c.args.store.now refl

pub returns-clause-fresh : goal.returns-clause-fresh
returns-clause-fresh c = if_ok_then c.add_loose.result _ _ (λ id added. omega (arith, added.number)) c.add_loose.ensures.added
