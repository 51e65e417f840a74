use Rattle.std.proofs.Common.{length, refl, sym, ap, ◌∙◌, codes, false}
use Rattle.std.specs.Prelude.{◌||◌, not}
use Rattle.std.proofs.lemmas.List.{length-map}
use Rattle.style_text.specs.Styles.{is_listed}
use Rattle.widget_meaning.specs.BunchReads.{first_attribute, get_style, give_page_text}
use Rattle.widget_meaning.specs.Costs.{want}
use Rattle.widget_meaning.specs.Styles.{style_pairs, style_value}
use Rattle.widget_meaning.specs.Values.{E4, to_text}
use Rattle.page_image.specs.Image.{number}
use Rattle.native_image.specs.Handed.{numbers, sees, state}
use Rattle.native_image.proofs.Reading.{reads_by, reads_free, reads_memory}
use Rattle.bunch_read.proofs.Reading.{small}
use Rattle.bunch_read.proofs.styles.get_style.Goals as goal

pub returns-then-is_object : goal.returns-then-is_object
returns-then-is_object c =
    let h = c.args.shared.now in
    let v = c.args.widget.now in
    let w = v.id.index in
    let ns = numbers h v c.args.list.now in
    let u = sees h v c.args.property.now in
    reads_free h v c.requires.sound c.args.meter.now (λ d s. get_style ns u s) _ tt (λ w k. tt)
    (λ fs x d. let s = state h v fs x in ap (λ t. want E4 (not (t || false)) s (want E4 (is_listed (to_text u)) s (give_page_text (length ns) (style_value (style_pairs (first_attribute s ns (codes "style"))) (to_text u)) s))) (sym (c.is_object.ensures.object w h.store.cells) ∙ c.if-is_object.true))

pub returns-then-not-property_listed : goal.returns-then-not-property_listed
returns-then-not-property_listed c =
    let h = c.args.shared.now in
    let v = c.args.widget.now in
    let w = v.id.index in
    let ns = numbers h v c.args.list.now in
    let u = sees h v c.args.property.now in
    reads_free h v c.requires.sound c.args.meter.now (λ d s. get_style ns u s) _ tt (λ w k. tt)
    (λ fs x d.
    let s = state h v fs x in
    ap (λ t. want E4 (not (t || false)) s (want E4 (is_listed (to_text u)) s (give_page_text (length ns) (style_value (style_pairs (first_attribute s ns (codes "style"))) (to_text u)) s))) (sym (c.is_object.ensures.object w h.store.cells) ∙ c.if-is_object.false)
    ∙ ap (λ t. want E4 t s (give_page_text (length ns) (style_value (style_pairs (first_attribute s ns (codes "style"))) (to_text u)) s)) (ap is_listed (sym (c.in_ok-name.ensures w h.store.cells)) ∙ sym c.property_listed.ensures ∙ c.if-not-property_listed.true))

pub returns : goal.returns
returns c =
    let h = c.args.shared.now in
    let v = c.args.widget.now in
    let w = v.id.index in
    let ns = numbers h v c.args.list.now in
    let u = sees h v c.args.property.now in
    let t = c.in_ok-text.text in
    reads_by h v c.requires.sound c.give_page_text.new.store c.args.meter.now c.give_page_text.new.meter
    (λ d s. get_style ns u s) (λ d s. give_page_text (length c.args.list.now) t s) c.give_page_text.result c.give_page_text.ensures.fires
    (λ fs x d.
    let s = state h v fs x in
    ap (λ t. want E4 (not (t || false)) s (want E4 (is_listed (to_text u)) s (give_page_text (length ns) (style_value (style_pairs (first_attribute s ns (codes "style"))) (to_text u)) s))) (sym (c.is_object.ensures.object w h.store.cells) ∙ c.if-is_object.false)
    ∙ ap (λ t. want E4 t s (give_page_text (length ns) (style_value (style_pairs (first_attribute s ns (codes "style"))) (to_text u)) s)) (ap is_listed (sym (c.in_ok-name.ensures w h.store.cells)) ∙ sym c.property_listed.ensures ∙ c.if-not-property_listed.false)
    ∙ (λ j. give_page_text (length-map c.args.list.now (number h.page w) j) (style_value (style_pairs (sym (c.in_ok-style.ensures s refl) j)) (sym (c.in_ok-name.ensures w h.store.cells) j)) s)
    ∙ ap (λ t. give_page_text (length c.args.list.now) t s) (sym c.in_ok-text.ensures))
    (c.give_page_text.ensures.native (length c.args.list.now) (small (length c.args.list.now) (length c.args.list.now) refl c.requires.nodes.few))

pub returns-in_err-name : goal.returns-in_err-name
returns-in_err-name c = reads_memory c.args.shared.now c.args.widget.now c.requires.sound c.args.meter.now c.args.meter.now _ c.from_residual.result c.from_residual.ensures.0

pub returns-in_err-style : goal.returns-in_err-style
returns-in_err-style c = reads_memory c.args.shared.now c.args.widget.now c.requires.sound c.args.meter.now c.args.meter.now _ c.from_residual-in_err-style.result c.from_residual-in_err-style.ensures.0

pub returns-in_err-text : goal.returns-in_err-text
returns-in_err-text c = reads_memory c.args.shared.now c.args.widget.now c.requires.sound c.args.meter.now c.args.meter.now _ c.from_residual-in_err-text.result c.from_residual-in_err-text.ensures.0
