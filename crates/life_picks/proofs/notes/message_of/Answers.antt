use Rattle.std.proofs.Common.{ap, ◌∙◌}
use Rattle.std.proofs.lemmas.Result.{IfOk-weaker}
use Rattle.store_cells.specs.declared.value.Value.TheVariants as value
use Rattle.widget_meaning.specs.Properties.{own_property}
use Rattle.js_image.specs.Image.{image, seen}
use Rattle.life_picks.specs.Picking.{own_text_in}
use Rattle.life_picks.proofs.notes.message_of.Goals as goal

pub returns : goal.returns
returns c =
    IfOk-weaker c.own_text.result _ _
    (λ t e fs r confined. e fs r confined ∙ ap (λ x. own_text_in (own_property (image fs r c.args.w c.args.store.now) (seen c.args.w c.args.store.now.cells (value.Ref c.args.object)) x)) c.in_ok-key.ensures)
    c.own_text.ensures
