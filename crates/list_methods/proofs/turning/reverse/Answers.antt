use Rattle.std.proofs.Common.{refl, reverse}
use Rattle.std.proofs.lemmas.Result.{IfOk-weaker}
use Rattle.widget_meaning.specs.Values.{Own}
use Rattle.widget_meaning.specs.ListChanges.{change, list_extra}
use Rattle.widget_meaning.specs.NativeForms.{elements}
use Rattle.js_image.specs.Image.{all_seen}
use Rattle.list_methods.specs.Arrays.{number}
use Rattle.list_methods.proofs.Meeting.{refines_taken, refines_wanting}
use Rattle.list_methods.proofs.turning.reverse.Goals as goal

pub returns-in-Ok-clause-native : goal.returns-in-Ok-clause-native
returns-in-Ok-clause-native c =
    let w = c.args.w.index in
    let old = c.args.store.now in
    let n = number w old c.args.array in
    let len = c.args.array.len in
    let vs = all_seen w old.cells c.args.args.now in
    IfOk-weaker c.turn.result _ _ (λ o h. refines_taken w old c.turn.new.store (λ s. list_extra len vs s) c.extra-asked.result c.extra-asked.ensures (λ d s. change n (reverse (elements s n len)) (Own n) s) c.args.meter.now c.take.new.meter o c.in-Ok.ensures.ok h) c.turn.ensures.native

pub returns-in-Err-clause-native : goal.returns-in-Err-clause-native
returns-in-Err-clause-native c =
    let w = c.args.w.index in
    let old = c.args.store.now in
    let n = number w old c.args.array in
    let len = c.args.array.len in
    let vs = all_seen w old.cells c.args.args.now in
    refines_wanting w old old (λ s. list_extra len vs s) c.extra-asked.result c.extra-asked.ensures (λ d s. change n (reverse (elements s n len)) (Own n) s) c.args.meter.now c.take.new.meter c.in-Err.ensures.err c.in-Err.ensures.same refl
