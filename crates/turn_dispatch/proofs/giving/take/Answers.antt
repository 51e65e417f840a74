use Rattle.std.proofs.Common.{[], arith, ap, ◌∙◌, refl, subst}
use Rattle.std.proofs.lemmas.Result.{IfOk-weaker}
use Rattle.js_flow.specs.Views.{completion_of}
use Rattle.native_image.specs.Image.{beside}
use Rattle.native_image.proofs.Joint.{rest, store_lift}
use Rattle.turn_dispatch.specs.declared.level.Level.{Level}
use Rattle.turn_dispatch.specs.Levels.{level_taken}
use Rattle.turn_dispatch.specs.Took.{took_plan}
use Rattle.turn_dispatch.specs.Turns.{bubbled_of, outside_of, turn_image}
use Rattle.turn_dispatch.specs.Waiting.{FineLevel}
use Rattle.turn_dispatch.specs.Weights.{level_free, level_weight}
use Rattle.turn_dispatch.proofs.Kept.{sound_of, sound_same}
use Rattle.turn_dispatch.proofs.Taken.{taken_on}
use Rattle.turn_dispatch.proofs.giving.take.Goals as goal

pub returns-in-Keeps-clause-taken : goal.returns-in-Keeps-clause-taken
returns-in-Keeps-clause-taken c =
    let w = c.args.site.now.id.index in
    let p = c.args.site.now.page.now in
    let l = c.args.site.now.around.now in
    let old = c.args.store.now in
    let new = c.keeps.new.store in
    let how = completion_of w old.cells c.args.how in
    let ds = c.args.calls.now.dispatches.items in
    IfOk-weaker c.keeps.result _ _
    (λ t h. taken_on w p l old new c.args.calls.now c.args.calls.now (sound_of w p old new c.keeps.ensures.kept) c.args.level c.args.how t refl
    (λ fs x lev.
    let s = turn_image fs x w old p l ds in
    ap (λ (v : Level). level_taken fs w old.cells p v how s) c.in-Keeps.is
    ∙ (h.plan fs p (rest w c.args.site.now.id.small (outside_of x ds) (beside old p l (bubbled_of ds)))
    ∙ ap (took_plan fs w new.cells p t) (store_lift w old new p l c.requires.sound.holds (c.keeps.ensures.kept []).grows c.args.site.now.id.small fs (outside_of x ds) (bubbled_of ds))))
    (λ fs lev. h.fine fs p) (omega (arith, h.near)) (omega (arith, ap level_weight c.in-Keeps.is)))
    c.keeps.ensures.next

pub returns-in-Keeps-clause-kept : goal.returns-in-Keeps-clause-kept
returns-in-Keeps-clause-kept c = sound_of c.args.site.now.id.index c.args.site.now.page.now c.args.store.now c.keeps.new.store c.keeps.ensures.kept

pub returns-in-Waits-clause-taken : goal.returns-in-Waits-clause-taken
returns-in-Waits-clause-taken c =
    let w = c.args.site.now.id.index in
    let p = c.args.site.now.page.now in
    let l = c.args.site.now.around.now in
    let s = c.args.store.now in
    let how = completion_of w s.cells c.args.how in
    let ds = c.args.calls.now.dispatches.items in
    taken_on w p l s s c.args.calls.now c.args.calls.now (sound_same w p s) c.args.level c.args.how c.waits.result refl
    (λ fs x lev. ap (λ (v : Level). level_taken fs w s.cells p v how (turn_image fs x w s p l ds)) c.in-Waits.is ∙ c.waits.ensures.plan fs w s.cells p (turn_image fs x w s p l ds))
    (λ fs lev. c.waits.ensures.fine fs w s p (subst (FineLevel fs w s.cells p) c.in-Waits.is lev) c.requires.how)
    (omega (arith, c.waits.ensures.near, ap level_free c.in-Waits.is)) (omega (arith, ap level_weight c.in-Waits.is))
