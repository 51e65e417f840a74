use Rattle.std.proofs.Common.{ap, arith, length}
use Rattle.plain_tree.specs.Plains.{unplaced}
use Rattle.page_image.proofs.Pages.{is_widget}
use Rattle.page_image.proofs.Results.{err_holds}
use Rattle.page_build.proofs.Coming.{same_joins, same_page, spare_here, spare_home, spare_joins, spare_may_be, spare_root}
use Rattle.page_build.proofs.Raws.{raws_same}
use Rattle.page_build.proofs.spares.add_spare_root.Goals as goal

pub add_loose-requires-clause-owner : goal.add_loose-requires-clause-owner
add_loose-requires-clause-owner c = is_widget c.args.w c.requires.widget

pub add_loose-requires-clause-room : goal.add_loose-requires-clause-room
add_loose-requires-clause-room c = λ e. cc

pub make_root-requires-clause-free : goal.make_root-requires-clause-free
make_root-requires-clause-free c = spare_may_be (unplaced c.args.body.now) c.one_tree.ensures c.args.w c.requires.widget c.args.page.now c.add_loose.new.page c.requires.away c.in_ok-id.id c.add_loose.ensures.roots c.in_ok-id.ensures.added

pub returns-clause-home : goal.returns-clause-home
returns-clause-home c = spare_home (unplaced c.args.body.now) c.one_tree.ensures c.args.w c.requires.widget c.args.page.now c.add_loose.new.page c.make_root.new.self c.requires.away c.in_ok-id.id c.add_loose.ensures.roots c.in_ok-id.ensures.added c.make_root.ensures.same c.make_root.ensures.becomes

pub returns-clause-root : goal.returns-clause-root
returns-clause-root c = spare_root (unplaced c.args.body.now) c.one_tree.ensures c.args.w c.requires.widget c.args.page.now c.add_loose.new.page c.make_root.new.self c.requires.away c.in_ok-id.id c.add_loose.ensures.roots c.in_ok-id.ensures.added c.make_root.ensures.same c.make_root.ensures.becomes

pub returns-clause-spare : goal.returns-clause-spare
returns-clause-spare c = spare_here (unplaced c.args.body.now) c.one_tree.ensures c.args.w c.requires.widget c.args.page.now c.add_loose.new.page c.make_root.new.self c.requires.away c.in_ok-id.id c.add_loose.ensures.roots c.in_ok-id.ensures.added c.make_root.ensures.same c.make_root.ensures.becomes

pub returns-clause-page : goal.returns-clause-page
returns-clause-page c = spare_joins (unplaced c.args.body.now) c.one_tree.ensures c.args.w c.requires.widget c.args.page.now c.add_loose.new.page c.make_root.new.self c.requires.away c.in_ok-id.id c.add_loose.ensures.roots c.in_ok-id.ensures.added c.make_root.ensures.same c.make_root.ensures.becomes

pub returns-clause-raws : goal.returns-clause-raws
returns-clause-raws c = λ raws. raws_same c.add_loose.new.store c.add_loose.new.page c.make_root.new.self (ap length c.make_root.ensures.same) (c.add_loose.ensures.raws raws)

pub returns-in_err-id-clause-unchanged : goal.returns-in_err-id-clause-unchanged
returns-in_err-id-clause-unchanged c = err_holds c.from_residual.result _ _ c.from_residual.ensures.1 (same_page c.args.page.now c.add_loose.new.page c.add_loose.ensures.roots c.in_err-id.ensures.unchanged)

pub returns-in_err-id-clause-page : goal.returns-in_err-id-clause-page
returns-in_err-id-clause-page c = same_joins c.args.page.now c.add_loose.new.page (same_page c.args.page.now c.add_loose.new.page c.add_loose.ensures.roots c.in_err-id.ensures.unchanged) c.args.w

pub returns-clause-fresh : goal.returns-clause-fresh
returns-clause-fresh c = omega (arith, c.in_ok-id.ensures.added.number)
