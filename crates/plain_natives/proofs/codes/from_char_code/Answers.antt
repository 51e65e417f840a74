use Rattle.std.proofs.Common.{ℕ, List, sym, ap, ◌∙◌, map, sum_by}
use Rattle.widget_meaning.specs.Values as meaning
use Rattle.widget_meaning.specs.Values.{to_number}
use Rattle.widget_meaning.specs.Plan.{Halt, charge}
use Rattle.widget_meaning.specs.NativeForms as forms
use Rattle.widget_meaning.specs.GlobalNatives as globals
use Rattle.js_image.specs.Image.{all_seen, image}
use Rattle.js_image.specs.declared.outcome.StopCause.TheVariants as cause
use Rattle.native_common.proofs.Meeting.{refines_same}
use Rattle.plain_natives.proofs.Exits.{stops, wants}
use Rattle.std.proofs.Common.{if◌then◌else◌}
use Rattle.plain_natives.proofs.codes.from_char_code.Goals as goal

pub returns-then-any_left-clause-native : goal.returns-then-any_left-clause-native
returns-then-any_left-clause-native c =
    stops c.args.w.index c.args.store.now (λ d s. globals.from_char_code (all_seen c.args.w.index c.args.store.now.cells c.args.args.now) s) cause.Number (sum_by globals.units_read (all_seen c.args.w.index c.args.store.now.cells c.args.args.now)) c.all_units_read-extra.result c.args.meter.now c.charged.new.meter c.charged.result
    (λ plan m. c.charged.ensures c.args.w.index c.args.store.now plan m) (c.all_units_read-extra.ensures c.args.w.index c.args.store.now.cells)
    (λ fs r d. wants (all_seen c.args.w.index c.args.store.now.cells c.args.args.now) (image fs r c.args.w.index c.args.store.now) _ (sym c.if-any_object.false ∙ c.any_object.ensures c.args.w.index c.args.store.now.cells)
    ∙ ap (λ b. if b then charge (sum_by globals.units_read (all_seen c.args.w.index c.args.store.now.cells c.args.args.now)) (image fs r c.args.w.index c.args.store.now) (Halt meaning.Number (image fs r c.args.w.index c.args.store.now)) else forms.give_text (sum_by globals.units_read (all_seen c.args.w.index c.args.store.now.cells c.args.args.now)) (map globals.code_of (map to_number (all_seen c.args.w.index c.args.store.now.cells c.args.args.now))) (image fs r c.args.w.index c.args.store.now)) (sym (c.any_left.ensures c.args.w.index c.args.store.now.cells) ∙ c.if-any_left.true))

pub returns-clause-native : goal.returns-clause-native
returns-clause-native c =
    refines_same c.args.w.index c.args.store.now c.give_text.new.store (λ d s. globals.from_char_code (all_seen c.args.w.index c.args.store.now.cells c.args.args.now) s) (λ d s. forms.give_text (sum_by globals.units_read (all_seen c.args.w.index c.args.store.now.cells c.args.args.now)) c.in_ok-text.text s) c.give_text.result c.args.meter.now c.give_text.new.meter
    (λ fs r d. wants (all_seen c.args.w.index c.args.store.now.cells c.args.args.now) (image fs r c.args.w.index c.args.store.now) _ (sym c.if-any_object.false ∙ c.any_object.ensures c.args.w.index c.args.store.now.cells)
    ∙ ap (λ b. if b then charge (sum_by globals.units_read (all_seen c.args.w.index c.args.store.now.cells c.args.args.now)) (image fs r c.args.w.index c.args.store.now) (Halt meaning.Number (image fs r c.args.w.index c.args.store.now)) else forms.give_text (sum_by globals.units_read (all_seen c.args.w.index c.args.store.now.cells c.args.args.now)) (map globals.code_of (map to_number (all_seen c.args.w.index c.args.store.now.cells c.args.args.now))) (image fs r c.args.w.index c.args.store.now)) (sym (c.any_left.ensures c.args.w.index c.args.store.now.cells) ∙ c.if-any_left.false)
    ∙ ap (λ (t : List ℕ). forms.give_text (sum_by globals.units_read (all_seen c.args.w.index c.args.store.now.cells c.args.args.now)) t (image fs r c.args.w.index c.args.store.now)) (sym (c.in_ok-text.ensures c.args.w.index c.args.store.now.cells)))
    (c.give_text.ensures (sum_by globals.units_read (all_seen c.args.w.index c.args.store.now.cells c.args.args.now)) (c.all_units_read-extra.ensures c.args.w.index c.args.store.now.cells))
