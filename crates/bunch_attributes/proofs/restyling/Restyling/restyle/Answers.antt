use Rattle.std.proofs.Common.{codes, ap, ◌∙◌}
use Rattle.std.specs.Prelude.{option_and_then, option_copied}
use Rattle.tree_ops.specs.Labels.{attribute_of, with_attribute}
use Rattle.widget_meaning.specs.BunchWrites.{styled}
use Rattle.page_nodes.specs.Entries.{at}
use Rattle.page_tree.specs.Pages.{nodes}
use Rattle.page_image.specs.Image.{forest, number, relabel_in}
use Rattle.page_image.proofs.Looks.{label_at}
use Rattle.page_image.proofs.Results.{ok_then}
use Rattle.native_image.proofs.Keeping.{host_here, nodes_same}
use Rattle.bunch_attributes.proofs.Pairs.{relabel_same, restyled_is}
use Rattle.bunch_attributes.proofs.restyling.Restyling.restyle.Goals as goal

pub returns-clause-image : goal.returns-clause-image
returns-clause-image c =
    let p = c.args.page.now in
    let w = c.args.w.index in
    let n = c.args.node in
    let how = c.args.self.now in
    let x = (at (nodes p) n).label in
    let here = label_at p w n c.requires.own in
    ok_then c.set_attr.result _ _
    (λ e. e
    ∙ ap (λ k. relabel_in (with_attribute k c.in_ok-text.text) (forest p w) (number p w n)) c.made_of.new.self.named
    ∙ relabel_same (with_attribute (codes "style") c.in_ok-text.text) (styled how.property how.value) (forest p w) (number p w n) x here
    (ap (λ o. with_attribute (codes "style") o x) c.in_ok-text.ensures.made
    ∙ restyled_is how.property how.value (option_copied c.attr_of_word.result) x (c.attr_of_word.ensures ∙ ap (option_and_then (attribute_of (codes "style"))) here)))
    c.set_attr.ensures.image

pub returns-in_err-text-clause-kept : goal.returns-in_err-text-clause-kept
returns-in_err-text-clause-kept c = nodes_same c.args.page.now

pub returns-in_err-text-clause-host : goal.returns-in_err-text-clause-host
returns-in_err-text-clause-host c = host_here c.args.page.now
