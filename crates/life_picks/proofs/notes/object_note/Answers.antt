use Rattle.std.proofs.Common.{◌∙◌}
use Rattle.std.proofs.lemmas.Result.{IfOk-weaker}
use Rattle.js_image.specs.Image.{image}
use Rattle.life_picks.proofs.Texts.{object_note, own_seen}
use Rattle.life_picks.proofs.notes.object_note.Goals as goal

pub returns : goal.returns
returns c =
    let w = c.args.w in
    let cells = c.args.store.now.cells in
    let own = own_seen w cells c.args.object c.lawful.ensures c.requires.held c.requires.held.0 c.owner.result c.owner.ensures c.in_default.not-Host in
    IfOk-weaker c.note_by.result _ _
    (λ t e fs r confined. e ∙ object_note w cells c.args.object (image fs r w c.args.store.now) own c.in_ok-name.name c.in_ok-message.message (c.in_ok-name.ensures fs r confined) (c.in_ok-message.ensures fs r confined))
    c.note_by.ensures
