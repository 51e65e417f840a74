use Rattle.std.proofs.Common.{[], sym, ap, ◌∙◌}
use Rattle.std.specs.Prelude.{option_copied, unwrap_or}
use Rattle.bunch_trees.specs.Values.{is_closed_tag}
use Rattle.bunch_trees.proofs.Tagged.{closed_is, none_closed}
use Rattle.bunch_trees.proofs.valuing.is_closed.Goals as goal

pub returns-in-Some : goal.returns-in-Some
returns-in-Some c = λ s there.
    c.is_closed_tag.ensures
    ∙ ap (λ o. is_closed_tag (unwrap_or (option_copied o) [])) (sym c.in-Some.is)
    ∙ closed_is c.args.page.now c.args.w.index s there c.args.node (option_copied c.tag.result) c.tag.ensures

pub returns-in-None : goal.returns-in-None
returns-in-None c = λ s there.
    sym none_closed
    ∙ ap (λ o. is_closed_tag (unwrap_or (option_copied o) [])) (sym c.in-None.is)
    ∙ closed_is c.args.page.now c.args.w.index s there c.args.node (option_copied c.tag.result) c.tag.ensures
