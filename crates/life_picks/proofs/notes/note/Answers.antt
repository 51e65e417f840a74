use Rattle.std.proofs.Common.{sym, ap, ◌∙◌, None}
use Rattle.std.proofs.lemmas.Result.{on_ok_weaker}
use Rattle.widget_meaning.specs.Turns.{noted}
use Rattle.js_image.specs.Image.{image, seen}
use Rattle.native_image.specs.Image.{beside}
use Rattle.native_image.proofs.Joint.{rest}
use Rattle.life_queue.specs.Lives.{outside, own_of, trees_in}
use Rattle.life_picks.proofs.Texts.{note_same}
use Rattle.life_picks.proofs.notes.note.Goals as goal

pub returns-clause-noted : goal.returns-clause-noted
returns-clause-noted c =
    let h = c.args.shared.now in
    let w = c.args.id.index in
    let a = c.args.life.now in
    let r = rest w c.args.id.small (outside a) (beside h.store h.page a.widget.around None) in
    on_ok_weaker c.keep_note.result
    (λ n s e. n ∙ ap (λ t. noted t (own_of h w a)) (c.in_ok-text.ensures (trees_in h) r c.requires.fine.confined ∙ sym (note_same s (image (trees_in h) r w h.store) e (seen w h.store.cells c.args.value.now))))
    c.keep_note.ensures.noted
