use Rattle.std.proofs.Common.{ap, ◌∙◌, true, false, None}
use Rattle.widget_meaning.specs.Values.{nth}
use Rattle.widget_meaning.specs.GlobalNatives as globals
use Rattle.js_image.specs.Image.{all_seen, image, seen}
use Rattle.native_common.proofs.Meeting.{refines_same, ok_refines_same}
use Rattle.plain_natives.proofs.Exits.{nth_is, ok_at}
use Rattle.plain_natives.proofs.conversions.global_native.Goals as goal

pub returns-in-BooleanOf-clause-native : goal.returns-in-BooleanOf-clause-native
returns-in-BooleanOf-clause-native c =
    refines_same c.args.w.index c.args.store.now c.args.store.now (globals.global_native c.args.which None (all_seen c.args.w.index c.args.store.now.cells c.args.args.now)) (λ d t. globals.boolean_of (seen c.args.w.index c.args.store.now.cells c.nth-first.result.now) t) c.boolean.result c.args.meter.now c.boolean.new.meter
    (λ fs r d. ap (λ x. globals.global_native x None (all_seen c.args.w.index c.args.store.now.cells c.args.args.now) d (image fs r c.args.w.index c.args.store.now)) c.in-BooleanOf.is
    ∙ ap (λ v. globals.boolean_of v (image fs r c.args.w.index c.args.store.now)) (nth_is c.args.w.index c.args.store.now.cells c.args.args.now 0 c.nth-first.result.now c.nth-first.ensures))
    (c.boolean.ensures c.args.w.index c.args.store.now)

pub returns-in-NumberOf-clause-native : goal.returns-in-NumberOf-clause-native
returns-in-NumberOf-clause-native c =
    refines_same c.args.w.index c.args.store.now c.args.store.now (globals.global_native c.args.which None (all_seen c.args.w.index c.args.store.now.cells c.args.args.now)) (λ d t. globals.number_of (all_seen c.args.w.index c.args.store.now.cells c.args.args.now) t) c.number_native.result c.args.meter.now c.number_native.new.meter
    (λ fs r d. ap (λ x. globals.global_native x None (all_seen c.args.w.index c.args.store.now.cells c.args.args.now) d (image fs r c.args.w.index c.args.store.now)) c.in-NumberOf.is)
    (c.number_native.ensures c.args.w.index c.args.store.now)

pub returns-in-IsNaN-clause-native : goal.returns-in-IsNaN-clause-native
returns-in-IsNaN-clause-native c =
    refines_same c.args.w.index c.args.store.now c.args.store.now (globals.global_native c.args.which None (all_seen c.args.w.index c.args.store.now.cells c.args.args.now)) (λ d t. globals.of_number (seen c.args.w.index c.args.store.now.cells c.nth-first.result.now) (globals.nan_or_not true) t) c.nan_or_not.result c.args.meter.now c.nan_or_not.new.meter
    (λ fs r d. ap (λ x. globals.global_native x None (all_seen c.args.w.index c.args.store.now.cells c.args.args.now) d (image fs r c.args.w.index c.args.store.now)) c.in-IsNaN.is
    ∙ ap (λ v. globals.of_number v (globals.nan_or_not true) (image fs r c.args.w.index c.args.store.now)) (nth_is c.args.w.index c.args.store.now.cells c.args.args.now 0 c.nth-first.result.now c.nth-first.ensures))
    (c.nan_or_not.ensures c.args.w.index c.args.store.now)

pub returns-in-IsFinite-clause-native : goal.returns-in-IsFinite-clause-native
returns-in-IsFinite-clause-native c =
    refines_same c.args.w.index c.args.store.now c.args.store.now (globals.global_native c.args.which None (all_seen c.args.w.index c.args.store.now.cells c.args.args.now)) (λ d t. globals.of_number (seen c.args.w.index c.args.store.now.cells c.nth-first.result.now) (globals.nan_or_not false) t) c.nan_or_not-in-IsFinite.result c.args.meter.now c.nan_or_not-in-IsFinite.new.meter
    (λ fs r d. ap (λ x. globals.global_native x None (all_seen c.args.w.index c.args.store.now.cells c.args.args.now) d (image fs r c.args.w.index c.args.store.now)) c.in-IsFinite.is
    ∙ ap (λ v. globals.of_number v (globals.nan_or_not false) (image fs r c.args.w.index c.args.store.now)) (nth_is c.args.w.index c.args.store.now.cells c.args.args.now 0 c.nth-first.result.now c.nth-first.ensures))
    (c.nan_or_not-in-IsFinite.ensures c.args.w.index c.args.store.now)

pub returns-in-StringOf-clause-native : goal.returns-in-StringOf-clause-native
returns-in-StringOf-clause-native c =
    ok_refines_same c.args.w.index c.args.store.now c.string_native.new.store (globals.global_native c.args.which None (all_seen c.args.w.index c.args.store.now.cells c.args.args.now)) (λ d s. globals.string_native (all_seen c.args.w.index c.args.store.now.cells c.args.args.now) d s) c.string_native.result c.args.meter.now c.string_native.new.meter
    (λ fs r d. ap (λ x. globals.global_native x None (all_seen c.args.w.index c.args.store.now.cells c.args.args.now) d (image fs r c.args.w.index c.args.store.now)) c.in-StringOf.is)
    c.string_native.ensures.native

pub returns-clause-native : goal.returns-clause-native
returns-clause-native c =
    ok_refines_same c.args.w.index c.args.store.now c.from_char_code.new.store (globals.global_native c.args.which None (all_seen c.args.w.index c.args.store.now.cells c.args.args.now)) (λ d s. globals.from_char_code (all_seen c.args.w.index c.args.store.now.cells c.args.args.now) s) c.from_char_code.result c.args.meter.now c.from_char_code.new.meter
    (λ fs r d. ap (λ x. globals.global_native x None (all_seen c.args.w.index c.args.store.now.cells c.args.args.now) d (image fs r c.args.w.index c.args.store.now)) c.in-FromCharCode.is)
    c.from_char_code.ensures.native

pub returns-in-ParseInt-clause-native : goal.returns-in-ParseInt-clause-native
returns-in-ParseInt-clause-native c =
    ok_at c.parse_int.result c.args.w.index c.args.store.now c.args.meter.now c.parse_int.new.meter (globals.global_native c.args.which None (all_seen c.args.w.index c.args.store.now.cells c.args.args.now)) (λ w s d t. globals.parse_int (seen w s.cells c.nth-first.result.now) (seen w s.cells c.nth-second.result.now) t)
    (λ fs r d. ap (λ x. globals.global_native x None (all_seen c.args.w.index c.args.store.now.cells c.args.args.now) d (image fs r c.args.w.index c.args.store.now)) c.in-ParseInt.is
    ∙ ap (λ v. globals.parse_int v (nth 1 (all_seen c.args.w.index c.args.store.now.cells c.args.args.now)) (image fs r c.args.w.index c.args.store.now)) (nth_is c.args.w.index c.args.store.now.cells c.args.args.now 0 c.nth-first.result.now c.nth-first.ensures)
    ∙ ap (λ v. globals.parse_int (seen c.args.w.index c.args.store.now.cells c.nth-first.result.now) v (image fs r c.args.w.index c.args.store.now)) (nth_is c.args.w.index c.args.store.now.cells c.args.args.now 1 c.nth-second.result.now c.nth-second.ensures))
    c.parse_int.ensures
