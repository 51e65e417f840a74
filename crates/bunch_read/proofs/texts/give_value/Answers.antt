use Rattle.std.proofs.Common.{◌+◌, [], length, refl, sym, ap, ◌∙◌}
use Rattle.widget_meaning.specs.BunchReads as means
use Rattle.widget_meaning.specs.Costs.{give, make_text}
use Rattle.widget_meaning.specs.Plan.{charge}
use Rattle.widget_meaning.specs.Values.{Text}
use Rattle.page_image.specs.Image.{number}
use Rattle.native_image.specs.Handed.{parts, state}
use Rattle.native_image.proofs.Meeting.{no_outside}
use Rattle.native_image.proofs.Reading.{after, reads_lacking, reads_made, reads_memory}
use Rattle.bunch_read.specs.Values.{value_plan}
use Rattle.bunch_read.proofs.Reading.{both_counted, small}
use Rattle.bunch_read.proofs.texts.give_value.Goals as goal

pub returns-in_ok-text-in-Ok : goal.returns-in_ok-text-in-Ok
returns-in_ok-text-in-Ok c =
    let h = c.args.shared.now in
    let v = c.args.widget.now in
    let n = number h.page v.id.index c.args.node in
    let s0 = state h v [] no_outside in
    let u = means.value_of s0 n in
    let t = c.in_ok-text-in-Ok.text in
    let k = c.in-Ok.ensures.ok (c.args.count + length u) (both_counted c.args.count c.value_len.result c.saturating_add-extra.result c.args.count (length u) (small c.args.count c.args.count refl c.requires.few) (c.value_len.ensures s0 refl) c.saturating_add-extra.ensures) in
    let new = c.make_text.new.store in
    reads_made h v new (c.args.count + length u) (λ d s. value_plan c.args.count (means.value_of s n) s) (λ d s. make_text t s (give (Text t))) c.args.meter.now c.take.new.meter k.0 k.1
    (λ fs x d.
    let s = state h v fs x in
    ap (λ t. value_plan c.args.count t s) (sym (c.in_ok-text-in-Ok.ensures s refl))
    ∙ ap (λ y. charge (c.args.count + length y) s (make_text t s (give (Text t)))) (c.in_ok-text-in-Ok.ensures s0 refl))
    _ c.requires.sound c.make_text.ensures.ends.kept
    (c.make_text.ensures.ends, c.make_text.ensures.fires v.id.index (parts (after h new) v))

pub returns-in-Err : goal.returns-in-Err
returns-in-Err c =
    let h = c.args.shared.now in
    let v = c.args.widget.now in
    let n = number h.page v.id.index c.args.node in
    let s0 = state h v [] no_outside in
    let u = means.value_of s0 n in
    reads_lacking h v c.requires.sound (c.args.count + length u) (λ d s. value_plan c.args.count (means.value_of s n) s) (λ d s. make_text u s (give (Text u))) c.args.meter.now c.take.new.meter c.in-Err.ensures.same
    (c.in-Err.ensures.err (c.args.count + length u) (both_counted c.args.count c.value_len.result c.saturating_add-extra.result c.args.count (length u) (small c.args.count c.args.count refl c.requires.few) (c.value_len.ensures s0 refl) c.saturating_add-extra.ensures))
    (λ fs x d. refl)

pub returns-in_err-text-in-Ok : goal.returns-in_err-text-in-Ok
returns-in_err-text-in-Ok c = reads_memory c.args.shared.now c.args.widget.now c.requires.sound c.args.meter.now c.take.new.meter _ c.from_residual.result c.from_residual.ensures.0
