use Rattle.std.proofs.Common.{map, ap, sym, subst, ◌∙◌, false}
use Rattle.std.specs.Option.{option_map_or}
use Rattle.query_grammar.specs.Renumbering.{renumbered}
use Rattle.page_image.specs.Held.{OptionIn}
use Rattle.page_image.specs.Image.{forest, number, owns}
use Rattle.bunch_write.specs.Trees.{may_take}
use Rattle.bunch_write.proofs.moving.may_replace.Goals as goal

pub may_take-requires-clause-above : goal.may_take-requires-clause-above
may_take-requires-clause-above c = subst (OptionIn (owns c.args.page.now c.args.w.index)) c.in-Some.is c.parent.ensures.own

pub returns-in-Some : goal.returns-in-Some
returns-in-Some c =
    let p = c.args.page.now in
    let w = c.args.w.index in
    c.may_take.ensures
    ∙ ap (λ o. option_map_or (may_take (forest p w) (map (number p w) c.args.news.now) (number p w c.args.node)) o false) (ap (renumbered (number p w)) (sym c.in-Some.is) ∙ c.parent.ensures.image)

pub returns-in-None : goal.returns-in-None
returns-in-None c =
    let p = c.args.page.now in
    let w = c.args.w.index in
    ap (λ o. option_map_or (may_take (forest p w) (map (number p w) c.args.news.now) (number p w c.args.node)) o false) (ap (renumbered (number p w)) (sym c.in-None.is) ∙ c.parent.ensures.image)
