use Rattle.std.proofs.Common.{[], ◌∷◌, ◌++◌, refl, sym, ◌∙◌, subst, arith}
use Rattle.widget_meaning.specs.Alone.{library_plan}
use Rattle.turn_dispatch.specs.declared.level.Level.TheVariants as level
use Rattle.life_laws.proofs.Begins.{library_begins, library_passes}
use Rattle.life_queue.specs.declared.life.Life.{Life}
use Rattle.life_queue.specs.declared.life.Work.TheVariants as work
use Rattle.life_queue.specs.Lives.{function_of, own_of, text_with, trees_in, works_of}
use Rattle.life_queue.specs.Fine.{KeepsLife}
use Rattle.life_queue.specs.Taken.{Takes}
use Rattle.life_queue.proofs.Keeps.{keeps_life, keeps_stored, same_life}
use Rattle.life_queue.proofs.Passing.{counted, starts, takes_passed, takes_start}
use Rattle.life_queue.proofs.Rests.{no_stop, stop_there}
use Rattle.life_queue.proofs.Scripts.{lib_stays, library_so, rested}
use Rattle.life_queue.proofs.works.take_library.Goals as goal

pub returns-then-is_some-clause-taken : goal.returns-then-is_some-clause-taken
returns-then-is_some-clause-taken c =
    let h = c.args.shared.now in
    let a = c.args.life.now in
    let stop = stop_there a.records.stop (sym c.is_some.ensures ∙ c.if-is_some.true) in
    takes_passed h h c.args.id.index (work.Library c.args.script.now) a a c.requires.rests
    (library_passes (own_of h c.args.id.index a) (text_with c.args.script.now.name (function_of (trees_in h) c.args.script.now)) stop.0 (works_of h c.args.id.index a) stop.1)
    c.requires.fine (omega arith) (omega arith)

pub returns-then-is_some-clause-kept : goal.returns-then-is_some-clause-kept
returns-then-is_some-clause-kept c = keeps_life c.args.id.index c.args.shared.now c.args.life.now c.args.life.now c.requires.fine.sound.holds (same_life c.args.life.now)

pub returns-in_err-share-clause-kept : goal.returns-in_err-share-clause-kept
returns-in_err-share-clause-kept c = keeps_life c.args.id.index c.args.shared.now c.args.life.now c.args.life.now c.requires.fine.sound.holds (same_life c.args.life.now)

pub returns-in_err-push-clause-kept : goal.returns-in_err-push-clause-kept
returns-in_err-push-clause-kept c = keeps_life c.args.id.index c.args.shared.now c.args.life.now c.args.life.now c.requires.fine.sound.holds (same_life c.args.life.now)

pub returns-in_err-doing-clause-kept : goal.returns-in_err-doing-clause-kept
returns-in_err-doing-clause-kept c = keeps_stored c.args.id.index c.args.shared.now c.open_script.new.store c.args.life.now c.args.life.now c.requires.fine.sound.holds (c.open_script.ensures.kept (trees_in c.args.shared.now) c.requires.script) (same_life c.args.life.now)

pub open_script-requires-clause-args : goal.open_script-requires-clause-args
open_script-requires-clause-args c = (c.requires.fine.lib.held, tt)

pub open_script-requires-clause-script : goal.open_script-requires-clause-script
open_script-requires-clause-script c = (trees_in c.args.shared.now, c.requires.script)

pub returns-clause-kept : goal.returns-clause-kept
returns-clause-kept c =
    let h = c.args.shared.now in
    let a = c.args.life.now in
    subst (λ (b : Life). KeepsLife c.args.id.index h (record h { store = c.open_script.new.store }) a b) (sym c.begin.ensures)
    (keeps_stored c.args.id.index h c.open_script.new.store a _ c.requires.fine.sound.holds (c.open_script.ensures.kept (trees_in h) c.requires.script) (record { widget = refl; slot = refl; accepted = refl }))

pub returns-clause-taken : goal.returns-clause-taken
returns-clause-taken c =
    let w = c.args.id.index in
    let h = c.args.shared.now in
    let a = c.args.life.now in
    let script = c.args.script.now in
    let f = function_of (trees_in h) script in
    let new = c.open_script.new.store in
    let kept = c.open_script.ensures.kept (trees_in h) c.requires.script in
    subst (λ (b : Life). Takes h (record h { store = new }) w (work.Library script) a b) (sym c.begin.ensures)
    (takes_start h h (record h { store = new }) w (work.Library script) (library_plan script.name f) a a _
    (library_begins (own_of h w a) (text_with script.name f) script.name f (works_of h w a) (no_stop a.records.stop (sym c.is_some.ensures ∙ c.if-is_some.false)) refl)
    (starts h w a new h.page (library_plan script.name f) c.in_ok-doing.doing _ (level.Keeps a.lib script.name ∷ []) []
    (c.in_ok-push.ensures.items ∙ (λ j. c.new-levels.ensures.items j ++ level.Keeps a.lib (c.in_ok-share.ensures j) ∷ []))
    c.new.ensures.items
    (rested h w a new c.requires.rests c.requires.fine kept) c.requires.room
    (library_so (trees_in h) w c.args.id.small h.page h.store new a.widget.around (counted h w a new h.page) c.requires.fine.sound kept.grows a c.requires.fine.lib script.name f c.in_ok-doing.doing _ refl
    (λ r levels. c.in_ok-doing.ensures.plan (trees_in h) h.page r levels))
    (c.in_ok-doing.ensures.fine (trees_in h) h.page)
    ((lib_stays w h.store new a kept.grows c.requires.fine.lib).held, tt))
    (omega arith) (omega arith))
