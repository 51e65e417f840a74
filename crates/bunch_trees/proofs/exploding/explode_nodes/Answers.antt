use Rattle.std.proofs.Common.{map, length, sym, subst}
use Rattle.std.proofs.lemmas.Result.{IfOk-weaker}
use Rattle.js_values.specs.Fuel.{Fuel}
use Rattle.js_values.specs.declared.outcome.NativeOut.TheVariants as native
use Rattle.widget_meaning.specs.Plan.{charge}
use Rattle.page_image.specs.Image.{number}
use Rattle.native_image.specs.Image.{beside}
use Rattle.native_image.specs.Refines.{RefinesAt}
use Rattle.native_image.proofs.Keeping.{keeps_here}
use Rattle.native_image.proofs.Meeting.{at_charged, at_lacking}
use Rattle.native_image.proofs.Working.{few_counted}
use Rattle.bunch_trees.specs.Explodes.{explode_paid}
use Rattle.bunch_trees.proofs.exploding.explode_nodes.Goals as goal

pub explode_weighed-requires-clause-sound : goal.explode_weighed-requires-clause-sound
explode_weighed-requires-clause-sound c = c.requires.sound

pub returns-in-Ok-clause-native : goal.returns-in-Ok-clause-native
returns-in-Ok-clause-native c = λ l b sound.
    let w = c.args.w.index in
    let p = c.args.page.now in
    let ns = map (number p w) c.args.nodes.now in
    let taken = c.in-Ok.ensures.ok (length ns) (few_counted (number p w) c.args.nodes.now c.requires.nodes.few) in
    IfOk-weaker c.explode_weighed.result _ _
    (λ o ends. at_charged w (beside c.args.store.now p l b) (beside c.explode_weighed.new.store p l b) (length ns) (λ d u. explode_paid ns u) o c.args.meter.now c.take.new.meter taken.0 taken.1 ends)
    (c.explode_weighed.ensures.ends l b sound)

pub returns-in-Ok-clause-kept : goal.returns-in-Ok-clause-kept
returns-in-Ok-clause-kept c = c.explode_weighed.ensures.kept

pub returns-in-Err-clause-native : goal.returns-in-Err-clause-native
returns-in-Err-clause-native c = λ l b sound.
    let w = c.args.w.index in
    let p = c.args.page.now in
    let h = beside c.args.store.now p l b in
    let ns = map (number p w) c.args.nodes.now in
    subst (λ (k : Fuel). RefinesAt w h h c.args.meter.now k (λ d u. charge (length ns) u (explode_paid ns u)) native.OutOfFuel) (sym c.in-Err.ensures.same)
    (at_lacking w h (length ns) (λ d u. explode_paid ns u) c.args.meter.now sound (c.in-Err.ensures.err (length ns) (few_counted (number p w) c.args.nodes.now c.requires.nodes.few)))

pub returns-in-Err-clause-kept : goal.returns-in-Err-clause-kept
returns-in-Err-clause-kept c = λ l sound. keeps_here c.args.w.index c.args.store.now c.args.page.now l sound.holds
