use Rattle.std.proofs.Common.{sym, ap, ◌∙◌}
use Rattle.store_cells.specs.declared.value.Value.TheVariants as value
use Rattle.js_image.specs.Image.{image, seen}
use Rattle.life_picks.specs.Picking.{text_in}
use Rattle.life_picks.proofs.Texts.{own_is_found}
use Rattle.life_picks.proofs.notes.own_text.Goals as goal

pub returns : goal.returns
returns c = λ fs r confined.
    c.text_of.ensures c.args.w c.args.store.now.cells
    ∙ (ap text_in (c.in_ok-get.ensures.found fs r c.args.w confined c.requires.held)
    ∙ own_is_found (image fs r c.args.w c.args.store.now) (seen c.args.w c.args.store.now.cells (value.Ref c.args.object)) c.args.name.now
    (sym (c.has_own.ensures fs r c.args.w confined c.requires.held) ∙ c.if-not-has_own.false))
