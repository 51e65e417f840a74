use Rattle.std.proofs.Common.{◌≡◌, ℕ, List, ◌+◌, ◌∙◌, ap, arith, length, refl, sym}
use Rattle.std.specs.List.{join_by}
use Rattle.widget_meaning.specs.Values.{Text}
use Rattle.widget_meaning.specs.Costs.{give, make_text}
use Rattle.widget_meaning.specs.NativeForms.{elements, give_text}
use Rattle.widget_meaning.specs.ListNatives.{joined_text}
use Rattle.widget_meaning.specs.OwnState.{State}
use Rattle.js_image.specs.Image.{all_seen, image}
use Rattle.native_common.proofs.Meeting.{refines_same}
use Rattle.list_methods.specs.Arrays.{number}
use Rattle.list_methods.proofs.Meeting.{refines_each, refines_short}
use Rattle.list_methods.proofs.joining.give_joined.Goals as goal

pub returns-then-joining-most-clause-native : goal.returns-then-joining-most-clause-native
returns-then-joining-most-clause-native c = λ n is.
    let old = c.args.store.now in
    let text : State → List ℕ = λ s. join_by joined_text c.args.joining.separator (elements s (number c.args.w.index old c.args.array) c.args.array.len) in
    refines_short c.args.w.index old old (λ s. n s + length (text s)) (λ d s. make_text (text s) s (give (Text (text s)))) c.args.meter.now c.args.meter.now (λ fs r. omega (arith, is fs r, c.left-most.ensures.value)) refl refl

pub returns-in-None-clause-native : goal.returns-in-None-clause-native
returns-in-None-clause-native c = λ n is.
    let w = c.args.w.index in
    let old = c.args.store.now in
    let text : State → List ℕ = λ s. join_by joined_text c.args.joining.separator (elements s (number w old c.args.array) c.args.array.len) in
    let long = rw c.in-None.is at (c.in_ok-joined.ensures w old.cells) in
    refines_short w old old (λ s. n s + length (text s)) (λ d s. make_text (text s) s (give (Text (text s)))) c.args.meter.now c.args.meter.now
    (λ fs r.
    let same : length (join_by joined_text c.args.joining.separator (all_seen w old.cells c.deref.result.now)) ≡ length (text (image fs r w old)) = ap (λ l. length (join_by joined_text c.args.joining.separator l)) (ap (all_seen w old.cells) c.deref.ensures.value ∙ c.in_ok-values.ensures.seen fs r) in
    omega (arith, long, same, c.left-most.ensures.value)) refl refl

pub returns-clause-native : goal.returns-clause-native
returns-clause-native c = λ n is.
    let w = c.args.w.index in
    let old = c.args.store.now in
    let new = c.give_text.new.store in
    let text : State → List ℕ = λ s. join_by joined_text c.args.joining.separator (elements s (number w old c.args.array) c.args.array.len) in
    let made = c.in_ok-text-in-Some.text in
    let units = rw c.in-Some.is at (c.in_ok-joined.ensures w old.cells) in
    refines_same w old new (λ d s. give_text (n s) (text s) s) (λ d s. give_text (n s) made s) c.give_text.result c.args.meter.now c.give_text.new.meter
    (λ fs r d. ap (λ t. give_text (n (image fs r w old)) t (image fs r w old)) (ap (join_by joined_text c.args.joining.separator) (sym (ap (all_seen w old.cells) c.deref.ensures.value ∙ c.in_ok-values.ensures.seen fs r)) ∙ sym units ∙ sym c.in_ok-text-in-Some.ensures))
    (refines_each w old new n c.args.joining.asked (λ m d s. give_text m made s) c.args.meter.now c.give_text.new.meter c.give_text.result is c.give_text.ensures)
