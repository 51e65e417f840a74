use Rattle.std.proofs.Common.{◌≡◌, refl, sym, ap, ◌∙◌, pos, rules}
use mir.Val.{of_z, to_z}
use mir.Syntax.{w64}
use Rattle.js_image.specs.declared.outcome.Fault.TheVariants as fault
use Rattle.native_common.proofs.Meeting.{ends_same, refines_free}
use Rattle.store_cells.specs.declared.value.Value.TheVariants as value
use Rattle.widget_meaning.specs.Values as meaning
use Rattle.widget_meaning.specs.Costs as costs
use Rattle.widget_meaning.specs.PrototypeNatives as prototypes
use Rattle.js_image.specs.Image.{image, seen}
use Rattle.js_values.specs.Operands.{plain}
use Rattle.js_image.specs.declared.outcome.StopCause.TheVariants as cause
use Rattle.plain_natives.proofs.Exits.{optional_not, stops, throws, wants_one}
use Rattle.text_methods.proofs.RadixPlans.{radix_given, radix_refused}
use Rattle.text_methods.proofs.prototypes.in_radix.Goals as goal

pub returns-in_default-clause-native : goal.returns-in_default-clause-native
returns-in_default-clause-native c =
    stops c.args.w.index c.args.store.now (λ d s. prototypes.in_radix (plain (value.Num c.args.n)) (seen c.args.w.index c.args.store.now.cells c.args.radix.now) s) cause.Number 0 0 c.args.meter.now c.charged.new.meter c.charged.result
    (λ plan m. c.charged.ensures c.args.w.index c.args.store.now plan m) refl
    (λ fs r d. wants_one (seen c.args.w.index c.args.store.now.cells c.args.radix.now) (image fs r c.args.w.index c.args.store.now) _ (sym c.if-is_object.false ∙ c.is_object.ensures.object c.args.w.index c.args.store.now.cells)
    ∙ optional_not (pos 10) (seen c.args.w.index c.args.store.now.cells c.args.radix.now) 0 (image fs r c.args.w.index c.args.store.now) (λ z. costs.want meaning.E7 (prototypes.is_radix z) (image fs r c.args.w.index c.args.store.now) (prototypes.give_made (prototypes.number_text (plain (value.Num c.args.n)) z) (image fs r c.args.w.index c.args.store.now))) (sym c.in_default.is ∙ c.optional_number.ensures c.args.w.index c.args.store.now.cells))

pub returns-in_ok-text-in-Some-valid_radix-clause-native : goal.returns-in_ok-text-in-Some-valid_radix-clause-native
returns-in_ok-text-in-Some-valid_radix-clause-native c =
    let w = c.args.w.index in let old = c.args.store.now in let radix = seen w old.cells c.args.radix.now in
    let n = plain (value.Num c.args.n) in
    let same : to_z w64 (of_z w64 c.in-Some.r) ≡ c.in-Some.r = search rules in
    let given = c.in-Some-valid_radix.ensures in
    refines_free w old c.make_text.new.store (λ d s. prototypes.in_radix n radix s) c.make_text.result c.args.meter.now
    (ends_same w old c.make_text.new.store (λ d s. prototypes.in_radix n radix s) (λ d s. costs.make_text c.in_ok-text-in-Some-valid_radix.text s (costs.give (meaning.Text c.in_ok-text-in-Some-valid_radix.text))) c.make_text.result
    (λ fs r d. radix_given n radix (image fs r w old) c.in-Some.r c.in-Some-valid_radix.base c.in_ok-text-in-Some-valid_radix.text (sym c.if-is_object.false ∙ c.is_object.ensures.object w old.cells) (c.in-Some.ensures w old.cells) (ap prototypes.is_radix (sym same) ∙ given.0) (given.1 ∙ same) c.in_ok-text-in-Some-valid_radix.ensures)
    c.make_text.ensures)

pub returns-in-None-clause-native : goal.returns-in-None-clause-native
returns-in-None-clause-native c =
    let w = c.args.w.index in let old = c.args.store.now in let radix = seen w old.cells c.args.radix.now in
    let n = plain (value.Num c.args.n) in
    let same : to_z w64 (of_z w64 c.in-Some.r) ≡ c.in-Some.r = search rules in
    throws w old (λ d s. prototypes.in_radix n radix s) fault.E7 c.args.meter.now
    (λ fs r d. radix_refused n radix (image fs r w old) c.in-Some.r (sym c.if-is_object.false ∙ c.is_object.ensures.object w old.cells) (c.in-Some.ensures w old.cells) (ap prototypes.is_radix (sym same) ∙ c.in-None.ensures))
