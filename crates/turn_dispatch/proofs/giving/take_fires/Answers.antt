use Rattle.std.proofs.Common.{◌≡◌, ◌+◌, ◌<◌, length, arith, ap, ◌∙◌, refl, subst, sym}
use Rattle.std.specs.Prelude.{get_or}
use Rattle.widget_meaning.specs.Values.{Undefined}
use Rattle.widget_meaning.specs.Dispatch.{dispatch}
use Rattle.widget_meaning.specs.Plan.{and_then}
use Rattle.page_image.specs.Image.{number}
use Rattle.turn_dispatch.specs.declared.level.Firing.{Firing}
use Rattle.turn_dispatch.specs.declared.level.Level.TheVariants as level
use Rattle.turn_dispatch.specs.Levels.{fires_on}
use Rattle.turn_dispatch.specs.Took.{took_plan}
use Rattle.turn_dispatch.specs.Turns.{bubbled_of, outside_of, turn_image}
use Rattle.turn_dispatch.proofs.Stays.{level_fine, level_same}
use Rattle.turn_dispatch.proofs.Taken.{by_value, fires_next, taken_back}
use Rattle.turn_dispatch.proofs.giving.take_fires.Goals as goal

pub returns-clause-taken : goal.returns-clause-taken
returns-clause-taken c =
    let w = c.args.site.now.id.index in
    let p = c.args.site.now.page.now in
    let l = c.args.site.now.around.now in
    let old = c.args.store.now in
    let new = c.fire.new.store in
    let f = c.args.at.0.value in
    let n = c.args.at.1 in
    let t = c.in_ok-took.took in
    let ds = c.args.calls.now.dispatches.items in
    let grows = c.fire.ensures.kept.kept.grows in
    let next = level.Fires c.args.at.0 (n + 1) in
    let v = by_value w old.cells c.args.how (sym c.is_value.ensures ∙ c.if-not-is_value.false) in
    let lt : n < length f.nodes.items = omega (arith, c.if-next-len.false, c.len.ensures, ap (λ (g : Firing). length g.nodes.items) c.deref.ensures) in
    taken_back w p l old new c.args.calls.now (record { levels = c.push.new.self; dispatches = c.args.calls.now.dispatches }) c.fire.ensures.kept (level.Fires c.args.at.0 n) next c.args.how t c.in_ok-push.ensures.items
    (λ fs x lev.
    let s = turn_image fs x w old p l ds in
    let u = turn_image fs x w new p l ds in
    let fired = subst (λ (g : Firing). dispatch g.kind (number p w (get_or g.nodes.items n 0)) Undefined g.depth s ≡ took_plan fs w new.cells p t u) c.deref-2.ensures (c.in_ok-took.ensures.next.plan fs (outside_of x ds) (bubbled_of ds)) in
    let stay = level_same w old.cells new.cells grows p p (λ m h. refl) fs next lev in
    ap (λ o. fires_on w old.cells p f n o s) v.1 ∙ (fires_next w old.cells p f n v.0 s lt ∙ (λ j. and_then (fired j) (sym stay j))))
    (λ fs lev. (c.in_ok-took.ensures.next.fine fs, level_fine w old.cells new.cells grows p p (λ m h. refl) (λ m h. h) fs next lev))
    (omega (arith, c.in_ok-took.ensures.next.near)) (λ g. omega (arith, lt))
