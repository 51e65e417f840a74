use Rattle.std.proofs.Common.{◌∷◌, [], true, false, map, sym, subst, ◌∙◌}
use Rattle.std.specs.List.{list_all}
use Rattle.std.proofs.lemmas.Result.{IfOk-weaker}
use Rattle.plain_tree.specs.Trees.{size}
use Rattle.widget_meaning.specs.BunchWrites.{is_target}
use Rattle.widget_meaning.specs.PageForms.{root}
use Rattle.widget_meaning.specs.Plan.{charge}
use Rattle.widget_meaning.specs.Values.{E10}
use Rattle.js_image.specs.declared.outcome.Fault.TheVariants as fault
use Rattle.js_values.specs.Fuel.{Fuel}
use Rattle.js_values.specs.declared.outcome.NativeOut.TheVariants as native
use Rattle.page_image.specs.Copies.{trees_at}
use Rattle.page_image.specs.Image.{forest, number}
use Rattle.page_image.specs.Targets.{takes}
use Rattle.native_image.specs.Image.{beside, image}
use Rattle.native_image.specs.Refines.{RefinesAt}
use Rattle.native_image.proofs.Keeping.{keeps_here}
use Rattle.native_image.proofs.Meeting.{at_charged, at_lacking, at_same}
use Rattle.native_image.proofs.Wants.{unwanted, wanted}
use Rattle.native_image.proofs.Working.{at_thrown}
use Rattle.bunch_trees.specs.Appends.{root_paid, root_plan}
use Rattle.bunch_trees.proofs.Roots.{alone_all}
use Rattle.bunch_trees.proofs.rooted.append_to_root.Goals as goal

pub root_of-root-requires : goal.root_of-root-requires
root_of-root-requires c = c.requires.sound.1.holds.home

pub may_append-requires-clause-home : goal.may_append-requires-clause-home
may_append-requires-clause-home c = c.requires.sound.1.holds.home

pub may_append-requires-clause-target : goal.may_append-requires-clause-target
may_append-requires-clause-target c = c.root_of-root.ensures.own

pub under_root-requires-clause-sound : goal.under_root-requires-clause-sound
under_root-requires-clause-sound c = c.requires.sound

pub returns-then-not-may_append-clause-native : goal.returns-then-not-may_append-clause-native
returns-then-not-may_append-clause-native c = λ l b sound.
    let w = c.args.w.index in
    let p = c.args.page.now in
    let h = beside c.args.store.now p l b in
    let ms = map (number p w) c.args.news.now in
    let n = size (trees_at p w c.args.news.now) in
    at_thrown w h (λ d u. root_plan ms u) fault.E10 c.args.meter.now sound
    (λ fs x d.
    let u = image fs x w h in
    unwanted E10 (list_all (is_target u ms) (root ∷ [])) u (charge n u (root_paid ms u))
    (alone_all (takes (forest p w) ms) (number p w c.root_of-root.result) false c.root_of-root.ensures.first (sym c.may_append.ensures ∙ c.if-not-may_append.true)))

pub returns-then-not-may_append-clause-kept : goal.returns-then-not-may_append-clause-kept
returns-then-not-may_append-clause-kept c = λ l sound. keeps_here c.args.w.index c.args.store.now c.args.page.now l sound.holds

pub returns-in-Ok-clause-native : goal.returns-in-Ok-clause-native
returns-in-Ok-clause-native c = λ l b sound.
    let w = c.args.w.index in
    let p = c.args.page.now in
    let h = beside c.args.store.now p l b in
    let new = beside c.under_root.new.store c.under_root.new.page l b in
    let ms = map (number p w) c.args.news.now in
    let n = size (trees_at p w c.args.news.now) in
    let taken = c.in-Ok.ensures.ok n c.measure_all-extent.ensures.nodes in
    IfOk-weaker c.under_root.result _ _
    (λ o ends.
    at_same w h new (λ d u. root_plan ms u) (λ d u. charge n u (root_paid ms u)) o c.args.meter.now c.take.new.meter
    (λ fs x d.
    let u = image fs x w h in
    wanted E10 (list_all (is_target u ms) (root ∷ [])) u (charge n u (root_paid ms u))
    (alone_all (takes (forest p w) ms) (number p w c.root_of-root.result) true c.root_of-root.ensures.first (sym c.may_append.ensures ∙ c.if-not-may_append.false)))
    (at_charged w h new n (λ d u. root_paid ms u) o c.args.meter.now c.take.new.meter taken.0 taken.1 ends))
    (c.under_root.ensures.ends l b sound)

pub returns-in-Ok-clause-kept : goal.returns-in-Ok-clause-kept
returns-in-Ok-clause-kept c = c.under_root.ensures.kept

pub returns-in-Err-clause-native : goal.returns-in-Err-clause-native
returns-in-Err-clause-native c = λ l b sound.
    let w = c.args.w.index in
    let p = c.args.page.now in
    let h = beside c.args.store.now p l b in
    let ms = map (number p w) c.args.news.now in
    let n = size (trees_at p w c.args.news.now) in
    at_same w h h (λ d u. root_plan ms u) (λ d u. charge n u (root_paid ms u)) native.OutOfFuel c.args.meter.now c.take.new.meter
    (λ fs x d.
    let u = image fs x w h in
    wanted E10 (list_all (is_target u ms) (root ∷ [])) u (charge n u (root_paid ms u))
    (alone_all (takes (forest p w) ms) (number p w c.root_of-root.result) true c.root_of-root.ensures.first (sym c.may_append.ensures ∙ c.if-not-may_append.false)))
    (subst (λ (k : Fuel). RefinesAt w h h c.args.meter.now k (λ d u. charge n u (root_paid ms u)) native.OutOfFuel) (sym c.in-Err.ensures.same)
    (at_lacking w h n (λ d u. root_paid ms u) c.args.meter.now sound (c.in-Err.ensures.err n c.measure_all-extent.ensures.nodes)))

pub returns-in-Err-clause-kept : goal.returns-in-Err-clause-kept
returns-in-Err-clause-kept c = λ l sound. keeps_here c.args.w.index c.args.store.now c.args.page.now l sound.holds
