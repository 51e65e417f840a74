use Rattle.std.proofs.Common.{ℤ, sym, ap, ◌∙◌, subst, is_some, None, Some, rules}
use Rattle.std.specs.Int.{w64}
use Rattle.std.proofs.lemmas.Int.{to_z-of_z}
use mir.Val.{SFits}
use Rattle.widget_meaning.specs.Values as meaning
use Rattle.widget_meaning.specs.Values.{Undefined}
use Rattle.widget_meaning.specs.Costs.{give, want}
use Rattle.widget_meaning.specs.AdsafeNatives.{later, later_in, with_timer}
use Rattle.js_image.specs.Image.{image, seen}
use Rattle.adsafe_object.specs.Ends.{EndsNoted}
use Rattle.adsafe_object.proofs.Noting.{later_is, room_to, timed, too_many}
use Rattle.adsafe_object.proofs.Timing.{refused, started, unasked}
use Rattle.adsafe_object.proofs.notes.later.Goals as goal

pub returns-in_default-clause-native : goal.returns-in_default-clause-native
returns-in_default-clause-native c = λ log posts.
    refused c.args.store.now c.args.w.index c.args.waiting c.args.func.now c.args.ms.now log posts c.args.asked.now c.requires.unasked _ (λ fs r few.
    ap (λ b. want meaning.E4 b (image fs r c.args.w.index c.args.store.now) (later_in (seen c.args.w.index c.args.store.now.cells c.args.func.now) (seen c.args.w.index c.args.store.now.cells c.args.ms.now) (image fs r c.args.w.index c.args.store.now)))
    (c.own_function.ensures.function fs r c.args.w.index c.requires.func ∙ ap is_some c.in_default.is))

pub returns-in_default-milliseconds-clause-native : goal.returns-in_default-milliseconds-clause-native
returns-in_default-milliseconds-clause-native c = λ log posts.
    refused c.args.store.now c.args.w.index c.args.waiting c.args.func.now c.args.ms.now log posts c.args.asked.now c.requires.unasked _ (λ fs r few.
    ap (λ b. want meaning.E4 b (image fs r c.args.w.index c.args.store.now) (later_in (seen c.args.w.index c.args.store.now.cells c.args.func.now) (seen c.args.w.index c.args.store.now.cells c.args.ms.now) (image fs r c.args.w.index c.args.store.now)))
    (c.own_function.ensures.function fs r c.args.w.index c.requires.func ∙ ap is_some c.in-Some.is)
    ∙ later_is (seen c.args.w.index c.args.store.now.cells c.args.func.now) (seen c.args.w.index c.args.store.now.cells c.args.ms.now) (image fs r c.args.w.index c.args.store.now)
    ∙ ap (λ z. timed z (seen c.args.w.index c.args.store.now.cells c.args.func.now) (image fs r c.args.w.index c.args.store.now)) (c.milliseconds.ensures c.args.w.index c.args.store.now.cells ∙ c.in_default-milliseconds.is))

pub returns-then-waiting-ge-MOST_TIMERS-clause-native : goal.returns-then-waiting-ge-MOST_TIMERS-clause-native
returns-then-waiting-ge-MOST_TIMERS-clause-native c = λ log posts.
    refused c.args.store.now c.args.w.index c.args.waiting c.args.func.now c.args.ms.now log posts c.args.asked.now c.requires.unasked _ (λ fs r few.
    ap (λ b. want meaning.E4 b (image fs r c.args.w.index c.args.store.now) (later_in (seen c.args.w.index c.args.store.now.cells c.args.func.now) (seen c.args.w.index c.args.store.now.cells c.args.ms.now) (image fs r c.args.w.index c.args.store.now)))
    (c.own_function.ensures.function fs r c.args.w.index c.requires.func ∙ ap is_some c.in-Some.is)
    ∙ later_is (seen c.args.w.index c.args.store.now.cells c.args.func.now) (seen c.args.w.index c.args.store.now.cells c.args.ms.now) (image fs r c.args.w.index c.args.store.now)
    ∙ ap (λ z. timed z (seen c.args.w.index c.args.store.now.cells c.args.func.now) (image fs r c.args.w.index c.args.store.now)) (c.milliseconds.ensures c.args.w.index c.args.store.now.cells ∙ c.in-Some-milliseconds.is)
    ∙ too_many (seen c.args.w.index c.args.store.now.cells c.args.func.now) c.in-Some-milliseconds.ms (image fs r c.args.w.index c.args.store.now) c.args.waiting few c.if-waiting-ge-MOST_TIMERS.true)

pub returns-clause-native : goal.returns-clause-native
returns-clause-native c = λ log posts.
    let fits : SFits w64 c.in-Some-milliseconds.ms = search rules in
    subst (λ (z : ℤ). EndsNoted c.args.w.index c.args.waiting c.args.store.now c.args.store.now (record { log = log; posts = posts; asked = None }) (record { log = log; posts = posts; asked = Some (c.in-Some.cell, z) })
    (λ d s. later (seen c.args.w.index c.args.store.now.cells c.args.func.now) (seen c.args.w.index c.args.store.now.cells c.args.ms.now) s) _) (sym (to_z-of_z w64 c.in-Some-milliseconds.ms fits))
    (started c.args.store.now c.args.w.index c.args.waiting c.args.func.now c.args.ms.now log posts c.in-Some.cell c.in-Some-milliseconds.ms (λ fs r few.
    ap (λ b. want meaning.E4 b (image fs r c.args.w.index c.args.store.now) (later_in (seen c.args.w.index c.args.store.now.cells c.args.func.now) (seen c.args.w.index c.args.store.now.cells c.args.ms.now) (image fs r c.args.w.index c.args.store.now)))
    (c.own_function.ensures.function fs r c.args.w.index c.requires.func ∙ ap is_some c.in-Some.is)
    ∙ later_is (seen c.args.w.index c.args.store.now.cells c.args.func.now) (seen c.args.w.index c.args.store.now.cells c.args.ms.now) (image fs r c.args.w.index c.args.store.now)
    ∙ ap (λ z. timed z (seen c.args.w.index c.args.store.now.cells c.args.func.now) (image fs r c.args.w.index c.args.store.now)) (c.milliseconds.ensures c.args.w.index c.args.store.now.cells ∙ c.in-Some-milliseconds.is)
    ∙ room_to (seen c.args.w.index c.args.store.now.cells c.args.func.now) c.in-Some-milliseconds.ms (image fs r c.args.w.index c.args.store.now) c.args.waiting few c.if-waiting-ge-MOST_TIMERS.false
    ∙ ap (λ f. give Undefined (with_timer (image fs r c.args.w.index c.args.store.now) f c.in-Some-milliseconds.ms)) (c.in-Some.ensures.cell c.args.w.index c.requires.func)))

pub returns-in_default-clause-own : goal.returns-in_default-clause-own
returns-in_default-clause-own c = unasked c.args.w.index c.args.store.now.cells c.args.asked.now c.requires.unasked

pub returns-in_default-milliseconds-clause-own : goal.returns-in_default-milliseconds-clause-own
returns-in_default-milliseconds-clause-own c = unasked c.args.w.index c.args.store.now.cells c.args.asked.now c.requires.unasked

pub returns-then-waiting-ge-MOST_TIMERS-clause-own : goal.returns-then-waiting-ge-MOST_TIMERS-clause-own
returns-then-waiting-ge-MOST_TIMERS-clause-own c = unasked c.args.w.index c.args.store.now.cells c.args.asked.now c.requires.unasked

pub returns-clause-own : goal.returns-clause-own
returns-clause-own c = c.in-Some.ensures.own c.args.w.index c.requires.func
