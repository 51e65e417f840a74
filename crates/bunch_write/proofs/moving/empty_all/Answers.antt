use Rattle.std.proofs.Common.{ap, refl, ◌∙◌, get_or}
use Rattle.std.specs.List.{fold}
use Rattle.page_image.specs.Image.{forest, number}
use Rattle.native_image.proofs.Keeping.{home_stays, nodes_same, nodes_then, page_keeps, host_here}
use Rattle.native_image.proofs.Lists.{element_in, folded_more, mapped_whole}
use Rattle.bunch_write.specs.Trees.{emptied_in}
use Rattle.page_image.proofs.Hosting.{host_then}
use Rattle.bunch_write.proofs.moving.empty_all.Goals as goal

pub each-init : goal.each-init
each-init c = record { image = refl; kept = nodes_same c.args.page.now; others = λ v lt ne. refl; host = host_here c.args.page.now }

pub empty-requires-clause-home : goal.empty-requires-clause-home
empty-requires-clause-home c = home_stays c.args.w.index c.args.w.small c.args.page.now c.each.page (page_keeps c.args.w.index c.args.page.now c.each.page c.each.invariant.kept c.each.invariant.others) c.requires.home

pub empty-requires-clause-own : goal.empty-requires-clause-own
empty-requires-clause-own c = c.each.invariant.kept.owners c.args.w.index _ ∙ c.requires.own _ (element_in c.args.list.now c.each.node-index c.each-test.true)

pub each-preserved : goal.each-preserved
each-preserved c =
    let w = c.args.w.index in
    let mid = c.each.page in
    let m = get_or c.args.list.now c.each.node-index 0 in
    record {
      image = folded_more emptied_in (forest c.args.page.now w) (number c.args.page.now w) (forest mid w) (forest c.empty.new.page w) c.args.list.now c.each.node-index (number mid w m) c.each-test.true (c.each.invariant.kept.numbers w m) c.each.invariant.image c.empty.ensures.image;
      kept = nodes_then c.args.page.now mid c.empty.new.page c.each.invariant.kept c.empty.ensures.kept;
      others = λ v lt ne. c.empty.ensures.others v lt ne ∙ c.each.invariant.others v lt ne;
      host = host_then c.args.page.now mid c.empty.new.page c.each.invariant.host c.empty.ensures.host;
    }

pub returns-clause-image : goal.returns-clause-image
returns-clause-image c = c.each.invariant.image ∙ ap (fold emptied_in (forest c.args.page.now c.args.w.index)) (mapped_whole (number c.args.page.now c.args.w.index) c.args.list.now c.each.node-index c.each-test.false)
