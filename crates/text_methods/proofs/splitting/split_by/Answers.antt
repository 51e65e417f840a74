use Rattle.std.proofs.Common.{◌≡◌, ℕ, ◌+◌, ◌<◌, ◌^◌, List, sym, ap, ◌∙◌, length, sum_by, arith, rules}
use Rattle.widget_meaning.specs.Values.{to_text}
use Rattle.widget_meaning.specs.Plan.{charge}
use Rattle.widget_meaning.specs.NativeForms as forms
use Rattle.widget_meaning.specs.TextNatives as texts
use Rattle.js_image.specs.Image.{image, seen}
use Rattle.native_common.specs.Numbers.{counted}
use Rattle.native_common.proofs.Meeting.{ok_charged, ok_ends_same, ok_refines_same}
use Rattle.plain_natives.proofs.Exits.{wants_one}
use Rattle.text_methods.proofs.SplitPlans.{asked_is, few_units, split_is}
use Rattle.text_methods.proofs.splitting.split_by.Goals as goal

pub overflow_cast-made : goal.overflow_cast-made
overflow_cast-made c =
    let ps = c.in_ok-parts.parts.items in
    let n = c.text_len.result + (c.text_len-2.result + sum_by length ps) in
    let made : c.units_in-made.result ≡ counted (sum_by length ps) = c.units_in-made.ensures ∙ ap (λ (l : List (List ℕ)). counted (sum_by length l)) c.deref.ensures.value in
    let asked = asked_is c.text_len.result c.text_len-2.result (sum_by length ps) c.saturating_add-read.result c.units_in-made.result c.saturating_add-extra.result (omega (arith, c.saturating_add-read.ensures)) made (omega (arith, c.saturating_add-extra.ensures)) in
    let paid = c.in-Ok.ensures.ok n asked in
    let few : c.args.meter.now.left < 2 ^ 32 = omega (arith, c.left-left.type_inv, c.left-left.ensures.value) in
    let f = few_units n (sum_by length ps) c.args.meter.now.left c.take.new.meter.left c.units_in-made.result paid.0 few (omega arith) made in
    search (rules, f.1)

pub give_texts-requires : goal.give_texts-requires
give_texts-requires c =
    let ps = c.in_ok-parts.parts.items in
    let n = c.text_len.result + (c.text_len-2.result + sum_by length ps) in
    let made : c.units_in-made.result ≡ counted (sum_by length ps) = c.units_in-made.ensures ∙ ap (λ (l : List (List ℕ)). counted (sum_by length l)) c.deref.ensures.value in
    let asked = asked_is c.text_len.result c.text_len-2.result (sum_by length ps) c.saturating_add-read.result c.units_in-made.result c.saturating_add-extra.result (omega (arith, c.saturating_add-read.ensures)) made (omega (arith, c.saturating_add-extra.ensures)) in
    let paid = c.in-Ok.ensures.ok n asked in
    let few : c.args.meter.now.left < 2 ^ 32 = omega (arith, c.left-left.type_inv, c.left-left.ensures.value) in
    (few_units n (sum_by length ps) c.args.meter.now.left c.take.new.meter.left c.units_in-made.result paid.0 few (omega arith) made).0

pub returns-in-Ok-clause-native : goal.returns-in-Ok-clause-native
returns-in-Ok-clause-native c =
    let w = c.args.w.index in let old = c.args.store.now in let v = seen w old.cells c.args.x.now in
    let separator : c.in_ok-separator.separator ≡ to_text v = c.in_ok-separator.ensures w old.cells in
    let ps = c.in_ok-parts.parts.items in
    let all = texts.pieces (to_text v) c.args.t.now in
    let parts : ps ≡ all = c.in_ok-parts.ensures ∙ (λ j. texts.pieces (separator j) (c.units.ensures j)) in
    let made : c.units_in-made.result ≡ counted (sum_by length ps) = c.units_in-made.ensures ∙ ap (λ (l : List (List ℕ)). counted (sum_by length l)) c.deref.ensures.value in
    let first : c.text_len.result ≡ length c.args.t.now = c.text_len.ensures.exact in
    let second : c.text_len-2.result ≡ length (to_text v) = c.text_len-2.ensures.exact ∙ ap (λ (us : List ℕ). length us) separator in
    let total : sum_by length ps ≡ sum_by length all = ap (λ (l : List (List ℕ)). sum_by length l) parts in
    let n = length c.args.t.now + (length (to_text v) + sum_by length all) in
    let asked : c.saturating_add-extra.result ≡ counted n =
    asked_is c.text_len.result c.text_len-2.result (sum_by length ps) c.saturating_add-read.result c.units_in-made.result c.saturating_add-extra.result (omega (arith, c.saturating_add-read.ensures)) made (omega (arith, c.saturating_add-extra.ensures))
    ∙ (λ j. counted (first j + (second j + total j))) in
    let t = c.in-Ok.ensures.ok n asked in
    ok_refines_same w old c.give_texts.new.store (λ d s. texts.split c.args.t.now v s) (λ d s. charge n s (forms.give_texts all s)) c.give_texts.result c.args.meter.now c.take.new.meter
    (λ fs r d. split_is w old.cells c.args.t.now c.args.x.now (image fs r w old) c.requires
    ∙ wants_one v (image fs r w old) (charge n (image fs r w old) (forms.give_texts all (image fs r w old))) (sym c.if-is_object.false ∙ c.is_object.ensures.object w old.cells))
    (ok_charged w old c.give_texts.new.store n (λ d s. forms.give_texts all s) c.give_texts.result c.args.meter.now c.take.new.meter t.0 t.1
    (ok_ends_same w old c.give_texts.new.store (λ d s. forms.give_texts all s) (λ d s. forms.give_texts ps s) c.give_texts.result
    (λ fs r d. ap (λ (l : List (List ℕ)). forms.give_texts l (image fs r w old)) (sym parts)) c.give_texts.ensures.native))
