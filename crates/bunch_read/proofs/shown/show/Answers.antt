use Rattle.std.proofs.Common.{None, Some, length, refl, sym, ◌∙◌}
use Rattle.std.proofs.lemmas.List.{length-map}
use Rattle.store_cells.specs.Cells.{own_count}
use Rattle.widget_meaning.specs.BunchReads.{give_page_text, show}
use Rattle.page_image.specs.Image.{number}
use Rattle.native_image.specs.Handed.{numbers, state}
use Rattle.native_image.proofs.Joint.{image_shows}
use Rattle.native_image.proofs.Reading.{reads_by, reads_free, reads_memory}
use Rattle.bunch_read.proofs.Reading.{shown_gives, small}
use Rattle.bunch_read.proofs.shown.show.Goals as goal

pub returns-in-Some : goal.returns-in-Some
returns-in-Some c =
    let h = c.args.shared.now in
    let v = c.args.widget.now in
    let w = v.id.index in
    let ns = numbers h v c.args.list.now in
    let n = length c.args.list.now in
    let t = c.in-Some.text in
    reads_by h v c.requires.sound c.give_page_text.new.store c.args.meter.now c.give_page_text.new.meter
    (λ d s. show c.args.method ns s) (λ d s. give_page_text n t s) c.give_page_text.result c.give_page_text.ensures.fires
    (λ fs x d. let s = state h v fs x in
    shown_gives c.args.method c.requires.other s ns n (length-map c.args.list.now (number h.page w)) (Some t) (sym c.in-Some.is ∙ c.in_ok-text.ensures (own_count w h.store.cells) s (image_shows w fs x h.store h.page v.around v.bubbled c.requires.sound.holds)))
    (c.give_page_text.ensures.native n (small n n refl c.requires.nodes.few))

pub returns-in-None : goal.returns-in-None
returns-in-None c =
    let h = c.args.shared.now in
    let v = c.args.widget.now in
    let w = v.id.index in
    let ns = numbers h v c.args.list.now in
    reads_free h v c.requires.sound c.args.meter.now (λ d s. show c.args.method ns s) _ tt (λ w k. tt)
    (λ fs x d. let s = state h v fs x in
    shown_gives c.args.method c.requires.other s ns (length ns) refl None (sym c.in-None.is ∙ c.in_ok-text.ensures (own_count w h.store.cells) s (image_shows w fs x h.store h.page v.around v.bubbled c.requires.sound.holds)))

pub returns-in_err-text : goal.returns-in_err-text
returns-in_err-text c = reads_memory c.args.shared.now c.args.widget.now c.requires.sound c.args.meter.now c.args.meter.now _ c.from_residual.result c.from_residual.ensures.0
