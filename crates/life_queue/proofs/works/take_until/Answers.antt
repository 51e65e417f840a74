use Rattle.std.proofs.Common.{◌≡◌, [], ◌+◌, ◌-◌, refl, sym, ap, ◌∙◌, subst, arith, map}
use Rattle.widget_meaning.specs.Items.{timer_plan}
use Rattle.widget_meaning.proofs.Runs.{and_then_ret}
use Rattle.store_cells.specs.Cells.{own_count}
use Rattle.page_image.specs.Around.{timer_of}
use Rattle.turn_dispatch.proofs.Stays.{own_held}
use Rattle.life_queue.specs.declared.life.Life.{Life}
use Rattle.life_queue.specs.declared.life.Work.TheVariants as work
use Rattle.life_queue.specs.Lives.{trees_in, work_of}
use Rattle.life_queue.specs.Fine.{KeepsLife}
use Rattle.life_queue.specs.Taken.{Takes}
use Rattle.life_queue.proofs.Keeps.{keeps_life, same_life}
use Rattle.life_queue.proofs.Passing.{starts, takes_passed, takes_start}
use Rattle.life_queue.proofs.Rests.{no_stop, stop_there}
use Rattle.life_queue.proofs.Timed.{due_own, timed_fine, timed_keeps, timed_rested, timer_so, until_dropped, until_passes, until_starts}
use Rattle.life_queue.proofs.works.take_until.Goals as goal

pub returns-then-turns-eq0-clause-kept : goal.returns-then-turns-eq0-clause-kept
returns-then-turns-eq0-clause-kept c = keeps_life c.args.id.index c.args.shared.now c.args.life.now c.args.life.now c.requires.fine.sound.holds (same_life c.args.life.now)

pub returns-then-is_some-clause-kept : goal.returns-then-is_some-clause-kept
returns-then-is_some-clause-kept c = keeps_life c.args.id.index c.args.shared.now c.args.life.now c.args.life.now c.requires.fine.sound.holds (same_life c.args.life.now)

pub returns-then-is_some-clause-taken : goal.returns-then-is_some-clause-taken
returns-then-is_some-clause-taken c =
    let h = c.args.shared.now in
    let a = c.args.life.now in
    let stop = stop_there a.records.stop (sym c.is_some.ensures ∙ c.if-is_some.true) in
    takes_passed h h c.args.id.index (work.Until c.args.left.0 c.args.left.1) a a c.requires.rests
    (until_dropped h c.args.id.index a c.args.left.0 c.args.left.1 c.if-turns-eq0.false stop.0 stop.1)
    c.requires.fine (omega arith) (omega arith)

pub returns-in_err-task-in-Some-clause-kept : goal.returns-in_err-task-in-Some-clause-kept
returns-in_err-task-in-Some-clause-kept c =
    timed_keeps c.args.shared.now c.args.id.index c.args.life.now c.requires.fine.sound c.due.new.self c.args.left.1 c.due.result c.due.ensures.due c.due.ensures.left c.due.ensures.clock c.due.ensures.kept c.due.ensures.focus _ refl refl refl

pub returns-in_err-push_front-in-Some-clause-kept : goal.returns-in_err-push_front-in-Some-clause-kept
returns-in_err-push_front-in-Some-clause-kept c =
    timed_keeps c.args.shared.now c.args.id.index c.args.life.now c.requires.fine.sound c.due.new.self c.args.left.1 c.due.result c.due.ensures.due c.due.ensures.left c.due.ensures.clock c.due.ensures.kept c.due.ensures.focus _ refl refl refl

pub returns-in-None-clause-kept : goal.returns-in-None-clause-kept
returns-in-None-clause-kept c =
    timed_keeps c.args.shared.now c.args.id.index c.args.life.now c.requires.fine.sound c.due.new.self c.args.left.1 c.due.result c.due.ensures.due c.due.ensures.left c.due.ensures.clock c.due.ensures.kept c.due.ensures.focus _ refl refl refl

pub returns-in-None-clause-taken : goal.returns-in-None-clause-taken
returns-in-None-clause-taken c =
    let h = c.args.shared.now in
    let w = c.args.id.index in
    let a = c.args.life.now in
    let live = no_stop a.records.stop (sym c.is_some.ensures ∙ c.if-is_some.false) in
    takes_passed h h w (work.Until c.args.left.0 c.args.left.1) a _ c.requires.rests
    (until_passes h w a c.requires.fine.sound c.due.new.self c.args.left.1 c.due.result c.due.ensures.due c.due.ensures.left c.due.ensures.clock c.due.ensures.kept c.due.ensures.focus c.args.left.0 c.if-turns-eq0.false live c.in-None.is)
    (timed_fine h w a c.requires.fine.sound c.due.new.self c.args.left.1 c.due.result c.due.ensures.due c.due.ensures.left c.due.ensures.clock c.due.ensures.kept c.due.ensures.focus c.requires.rests c.requires.fine)
    (omega arith) (omega arith)

pub returns-in_ok-push_front-in-Some-clause-kept : goal.returns-in_ok-push_front-in-Some-clause-kept
returns-in_ok-push_front-in-Some-clause-kept c =
    subst (λ (b : Life). KeepsLife c.args.id.index c.args.shared.now c.args.shared.now c.args.life.now b) (sym c.begin.ensures)
    (timed_keeps c.args.shared.now c.args.id.index c.args.life.now c.requires.fine.sound c.due.new.self c.args.left.1 c.due.result c.due.ensures.due c.due.ensures.left c.due.ensures.clock c.due.ensures.kept c.due.ensures.focus _ refl refl refl)

pub returns-in_ok-push_front-in-Some-clause-taken : goal.returns-in_ok-push_front-in-Some-clause-taken
returns-in_ok-push_front-in-Some-clause-taken c =
    let h = c.args.shared.now in
    let w = c.args.id.index in
    let a = c.args.life.now in
    let t = c.in-Some.timer in
    let live = no_stop a.records.stop (sym c.is_some.ensures ∙ c.if-is_some.false) in
    let own = due_own h w a c.requires.fine.sound c.due.new.self c.args.left.1 c.due.result c.due.ensures.due c.due.ensures.left c.due.ensures.clock c.due.ensures.kept c.due.ensures.focus t c.in-Some.is in
    let queue = c.in_ok-push_front-in-Some.ensures.items in
    let room : c.args.left.0 - 1 + 1 ≡ c.args.left.0 = omega (arith, c.if-turns-eq0.false) in
    let rested = timed_rested h w a c.requires.fine.sound c.due.new.self c.args.left.1 c.due.result c.due.ensures.due c.due.ensures.left c.due.ensures.clock c.due.ensures.kept c.due.ensures.focus c.requires.rests c.requires.fine (c.args.left.0 - 1) (record a { queue = c.push_front.new.self }) queue (omega (arith, room, c.requires.room)) in
    let b : Life = record a { widget = record a.widget { around = c.due.new.self }; queue = c.push_front.new.self } in
    subst (λ (b : Life). Takes h h w (work.Until c.args.left.0 c.args.left.1) a b) (sym c.begin.ensures)
    (takes_start h h h w (work.Until c.args.left.0 c.args.left.1) (timer_plan (timer_of (own_count w h.store.cells) t)) a b _
    (until_starts h w a c.requires.fine.sound c.due.new.self c.args.left.1 c.due.result c.due.ensures.due c.due.ensures.left c.due.ensures.clock c.due.ensures.kept c.due.ensures.focus c.args.left.0 c.if-turns-eq0.false live t c.in-Some.is b refl (ap (map (work_of (trees_in h))) queue))
    (starts h w b h.store h.page _ _ _ [] [] c.new.ensures.items c.new-in-Some.ensures.items rested.0 (omega (arith, rested.1, room, c.requires.room))
    (timer_so h w c.args.id.small b t own c.in_ok-task-in-Some.task.value c.in_ok-task-in-Some.ensures.plan ∙ sym (and_then_ret _))
    (c.in_ok-task-in-Some.ensures.fine (trees_in h) h.store h.page (own_held w h.store.cells t.func own)) tt)
    (omega (arith, room, ap (map (work_of (trees_in h))) queue)) (omega (arith, rested.1, room)))
