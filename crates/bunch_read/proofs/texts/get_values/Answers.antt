use Rattle.std.proofs.Common.{◌+◌, length, map, refl}
use Rattle.widget_meaning.specs.BunchReads as means
use Rattle.widget_meaning.specs.NativeForms.{give_texts}
use Rattle.page_image.specs.Image.{number}
use Rattle.native_image.specs.Handed.{parts, state}
use Rattle.native_image.proofs.Reading.{after, reads_lacking, reads_made, reads_memory}
use Rattle.bunch_read.specs.Values.{all_units}
use Rattle.bunch_read.proofs.Reading.{both_counted, small, units_fit}
use Rattle.bunch_read.proofs.Valued.{get_values_is, if_both, page_state}
use Rattle.bunch_read.proofs.texts.get_values.Goals as goal

pub values_len-units-requires : goal.values_len-units-requires
values_len-units-requires c = c.requires.nodes.own

pub values_of-requires : goal.values_of-requires
values_of-requires c = c.requires.nodes.own

pub give_texts-requires : goal.give_texts-requires
give_texts-requires c = c.in_ok-values-in-Ok.ensures.fine c.args.widget.now.id.index c.args.shared.now.store.cells

pub returns-in_ok-values-in-Ok : goal.returns-in_ok-values-in-Ok
returns-in_ok-values-in-Ok c =
    let h = c.args.shared.now in
    let v = c.args.widget.now in
    let f = number h.page v.id.index in
    let s0 = page_state h.page v.id.index in
    let ns = map f c.args.list.now in
    let ts = map (means.value_of s0) ns in
    let n = length c.args.list.now + all_units s0 ns in
    let k = c.in-Ok.ensures.ok n (both_counted (length c.args.list.now) c.values_len-units.result c.saturating_add.result (length c.args.list.now) (all_units s0 ns) (small (length c.args.list.now) (length c.args.list.now) refl c.requires.nodes.few) (c.values_len-units.ensures s0 refl) c.saturating_add.ensures) in
    let new = c.give_texts.new.store in
    reads_made h v new n (λ d s. means.get_values ns s) (λ d s. give_texts ts s) c.args.meter.now c.take.new.meter k.0 k.1
    (λ fs x d. get_values_is (state h v fs x) f c.args.list.now)
    c.give_texts.result c.requires.sound c.give_texts.ensures.kept
    (if_both c.give_texts.result _ _ _
    (λ o e fires. (
      e ts (c.in_ok-values-in-Ok.ensures.texts s0 refl) (units_fit c.values_len-units.result (all_units s0 ns) (length c.args.list.now) c.args.meter.now.left c.take.new.meter.left c.args.meter.now.spent (c.values_len-units.ensures s0 refl) k.0 c.left-left.ensures.room),
      fires v.id.index (parts (after h new) v),
    ))
    c.give_texts.ensures.ends c.give_texts.ensures.fires)

pub returns-in-Err : goal.returns-in-Err
returns-in-Err c =
    let h = c.args.shared.now in
    let v = c.args.widget.now in
    let f = number h.page v.id.index in
    let s0 = page_state h.page v.id.index in
    let ns = map f c.args.list.now in
    let n = length c.args.list.now + all_units s0 ns in
    reads_lacking h v c.requires.sound n (λ d s. means.get_values ns s) (λ d s. give_texts (map (means.value_of s0) ns) s) c.args.meter.now c.take.new.meter c.in-Err.ensures.same
    (c.in-Err.ensures.err n (both_counted (length c.args.list.now) c.values_len-units.result c.saturating_add.result (length c.args.list.now) (all_units s0 ns) (small (length c.args.list.now) (length c.args.list.now) refl c.requires.nodes.few) (c.values_len-units.ensures s0 refl) c.saturating_add.ensures))
    (λ fs x d. get_values_is (state h v fs x) f c.args.list.now)

pub returns-in_err-values-in-Ok : goal.returns-in_err-values-in-Ok
returns-in_err-values-in-Ok c = reads_memory c.args.shared.now c.args.widget.now c.requires.sound c.args.meter.now c.take.new.meter _ c.from_residual.result c.from_residual.ensures.0
