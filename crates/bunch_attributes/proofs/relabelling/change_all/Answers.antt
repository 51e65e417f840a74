use Rattle.std.proofs.Common.{ap, refl, ◌∙◌, get_or}
use Rattle.std.specs.List.{fold}
use Rattle.page_image.specs.Image.{forest, number, relabel_in}
use Rattle.page_image.specs.Targets.{is_text_at}
use Rattle.native_image.proofs.Keeping.{home_stays, nodes_same, nodes_then, page_keeps, host_here}
use Rattle.native_image.proofs.Lists.{element_in, folded_more, mapped_whole}
use Rattle.bunch_attributes.specs.Labels.{meant}
use Rattle.bunch_attributes.proofs.Relabelled.{kind_stays}
use Rattle.page_image.proofs.Hosting.{host_then}
use Rattle.bunch_attributes.proofs.relabelling.change_all.Goals as goal

pub each-init : goal.each-init
each-init c = record { same = refl; image = refl; kept = nodes_same c.args.page.now; others = λ v lt ne. refl; host = host_here c.args.page.now; elements = c.requires.elements }

pub change_node-requires-clause-home : goal.change_node-requires-clause-home
change_node-requires-clause-home c = home_stays c.args.w.index c.args.w.small c.args.page.now c.each.page (page_keeps c.args.w.index c.args.page.now c.each.page c.each.invariant.kept c.each.invariant.others) c.requires.home

pub change_node-requires-clause-own : goal.change_node-requires-clause-own
change_node-requires-clause-own c = c.each.invariant.kept.owners c.args.w.index _ ∙ c.requires.own _ (element_in c.args.list.now c.each.node-index c.each-test.true)

pub change_node-requires-clause-element : goal.change_node-requires-clause-element
change_node-requires-clause-element c = c.each.invariant.elements _ (element_in c.args.list.now c.each.node-index c.each-test.true)

pub each-preserved : goal.each-preserved
each-preserved c =
    let w = c.args.w.index in
    let mid = c.each.page in
    let new = c.change_node.new.page in
    let m = get_or c.args.list.now c.each.node-index 0 in
    let changed = c.in_ok-change_node.ensures.image ∙ ap (λ f. relabel_in f (forest mid w) (number mid w m)) c.each.invariant.same in
    record {
      same = c.change_node.ensures.same ∙ c.each.invariant.same;
      image = folded_more (relabel_in (meant c.args.change.now)) (forest c.args.page.now w) (number c.args.page.now w) (forest mid w) (forest new w) c.args.list.now c.each.node-index (number mid w m) c.each-test.true (c.each.invariant.kept.numbers w m) c.each.invariant.image changed;
      kept = nodes_then c.args.page.now mid new c.each.invariant.kept c.change_node.ensures.kept;
      others = λ v lt ne. c.change_node.ensures.others v lt ne ∙ c.each.invariant.others v lt ne;
      host = host_then c.args.page.now mid new c.each.invariant.host c.change_node.ensures.host;
      elements = λ n e.
          ap (λ k. is_text_at (forest new w) k) (c.change_node.ensures.kept.numbers w n)
          ∙ ap (λ ts. is_text_at ts (number mid w n)) changed
          ∙ kind_stays c.args.change.now (number mid w m) (number mid w n) (forest mid w)
          ∙ c.each.invariant.elements n e;
    }

pub returns-clause-image : goal.returns-clause-image
returns-clause-image c = c.each.invariant.image ∙ ap (fold (relabel_in (meant c.args.change.now)) (forest c.args.page.now c.args.w.index)) (mapped_whole (number c.args.page.now c.args.w.index) c.args.list.now c.each.node-index c.each-test.false)

pub returns-clause-kept : goal.returns-clause-kept
returns-clause-kept c = c.each.invariant.kept

pub returns-clause-others : goal.returns-clause-others
returns-clause-others c = c.each.invariant.others

pub returns-in_err-change_node-clause-kept : goal.returns-in_err-change_node-clause-kept
returns-in_err-change_node-clause-kept c = nodes_then c.args.page.now c.each.page c.change_node.new.page c.each.invariant.kept c.change_node.ensures.kept

pub returns-in_err-change_node-clause-others : goal.returns-in_err-change_node-clause-others
returns-in_err-change_node-clause-others c = λ v lt ne. c.change_node.ensures.others v lt ne ∙ c.each.invariant.others v lt ne

pub returns-clause-host : goal.returns-clause-host
returns-clause-host c = c.each.invariant.host

pub returns-in_err-change_node-clause-host : goal.returns-in_err-change_node-clause-host
returns-in_err-change_node-clause-host c = host_then c.args.page.now c.each.page c.change_node.new.page c.each.invariant.host c.change_node.ensures.host
