use Rattle.std.proofs.Common.{get_or, [], sym, ap, ◌∙◌}
use Rattle.std.specs.List.{filter_map}
use Rattle.widget_meaning.specs.PageForms.{once}
use Rattle.widget_meaning.specs.Trees.{parent}
use Rattle.page_image.specs.Image.{number}
use Rattle.bunch_read.specs.Finding.{added}
use Rattle.bunch_read.proofs.Opened.{once_more}
use Rattle.bunch_read.proofs.Lists.{element_in, mapped_whole}
use Rattle.bunch_read.proofs.finding.parents.Goals as goal

pub keep_parent-requires-clause-own : goal.keep_parent-requires-clause-own
keep_parent-requires-clause-own c = c.requires _ (element_in c.args.list.now c.each.node-index c.each-test.true)

pub keep_parent-requires-clause-same : goal.keep_parent-requires-clause-same
keep_parent-requires-clause-same c = c.each.invariant.same

pub keep_parent-requires-clause-found : goal.keep_parent-requires-clause-found
keep_parent-requires-clause-found c = c.each.invariant.apart

pub each-preserved : goal.each-preserved
each-preserved c =
    let p = c.args.page.now in
    let w = c.args.w in
    record {
      same = c.in_ok-keep_parent.ensures.same;
      image = λ s there.
          c.in_ok-keep_parent.ensures.image s there
          ∙ ap (λ l. added l (parent (number p w (get_or c.args.list.now c.each.node-index 0)) s.own.forest)) (c.each.invariant.image s there)
          ∙ sym (once_more (number p w) (λ n. parent n s.own.forest) c.args.list.now c.each.node-index c.each-test.true);
      apart = c.in_ok-keep_parent.ensures.found;
    }

pub returns-clause-image : goal.returns-clause-image
returns-clause-image c = λ s there. c.each.invariant.image s there ∙ ap (λ l. once [] (filter_map (λ n. parent n s.own.forest) l)) (mapped_whole (number c.args.page.now c.args.w) c.args.list.now c.each.node-index c.each-test.false)

pub returns-clause-apart : goal.returns-clause-apart
returns-clause-apart c = c.each.invariant.apart
