use Rattle.std.proofs.Common.{map, ap, sym, ◌∙◌}
use Rattle.std.specs.Prelude.{◌&&◌, not}
use Rattle.page_image.specs.Image.{forest, number}
use Rattle.page_image.specs.Targets.{takes}
use Rattle.native_image.proofs.Lists.{has_own}
use Rattle.bunch_write.proofs.moving.may_take.Goals as goal

pub returns-then-has_node : goal.returns-then-has_node
returns-then-has_node c =
    let p = c.args.page.now in
    let w = c.args.w.index in
    sym (ap (λ b. not b && takes (forest p w) (map (number p w) c.args.news.now) (number p w c.args.above))
    (has_own p w c.args.news.now c.args.node c.requires.news c.requires.own ∙ sym c.has_node.ensures ∙ c.if-has_node.true))

pub returns : goal.returns
returns c =
    let p = c.args.page.now in
    let w = c.args.w.index in
    c.may_append.ensures
    ∙ sym (ap (λ b. not b && takes (forest p w) (map (number p w) c.args.news.now) (number p w c.args.above))
    (has_own p w c.args.news.now c.args.node c.requires.news c.requires.own ∙ sym c.has_node.ensures ∙ c.if-has_node.false))
