use Rattle.std.proofs.Common.{List, [], ◌∷◌, ◌++◌, ap, ◌∙◌, refl}
use Rattle.turn_dispatch.specs.declared.level.Level.{Level}
use Rattle.turn_dispatch.specs.declared.level.Level.TheVariants as level
use Rattle.turn_dispatch.proofs.Kept.{sound_same}
use Rattle.turn_steps.specs.Turning.{forests}
use Rattle.turn_steps.proofs.Answering.{fire_answered, fired_fine}
use Rattle.turn_steps.proofs.Kept.{keeps_sound}
use Rattle.turn_steps.proofs.carrying.fire.Goals as goal

pub give-requires-clause-levels : goal.give-requires-clause-levels
give-requires-clause-levels c =
    let h = c.args.shared.now in
    let F = forests h in (
      F,
      fired_fine F c.args.widget.now.id.index h.store.cells h.page c.args.calls.now.levels.items c.args.task c.in_ok-firing.firing c.args.firing c.push-2.new.self.items c.in_ok-firing.ensures.ok
          (c.in_ok-push-2.ensures.items ∙ ap (λ (ls : List Level). ls ++ level.Fires c.in_ok-firing.firing 0 ∷ []) c.in_ok-push.ensures.items)
          c.requires.task c.requires.frames c.requires.awaits c.requires.firing c.requires.levels,
    )

pub returns-clause-answered : goal.returns-clause-answered
returns-clause-answered c =
    let h = c.args.shared.now in
    let F = forests h in
    let v = c.args.widget.now in
    let e = c.in_ok-push-2.ensures.items ∙ ap (λ (ls : List Level). ls ++ level.Fires c.in_ok-firing.firing 0 ∷ []) c.in_ok-push.ensures.items in
    fire_answered h v c.args.widget.now.id.small c.requires.widget c.args.calls.now c.give.new.calls c.requires.levels c.give.new.store c.args.task c.in_ok-firing.firing c.args.firing c.push-2.new.self.items c.in_ok-doing.doing c.in_ok-firing.ensures.ok e
    (fired_fine F v.id.index h.store.cells h.page c.args.calls.now.levels.items c.args.task c.in_ok-firing.firing c.args.firing c.push-2.new.self.items c.in_ok-firing.ensures.ok e c.requires.task c.requires.frames c.requires.awaits c.requires.firing c.requires.levels)
    c.in_ok-doing.ensures.plan c.in_ok-doing.ensures.fine c.in_ok-doing.ensures.near

pub returns-clause-fine : goal.returns-clause-fine
returns-clause-fine c = record {
  confined = c.give.ensures.kept.confined (forests c.args.shared.now) c.requires.widget.confined;
  sound = c.give.ensures.sound c.args.widget.now.around c.requires.widget.sound;
}

pub returns-in_err-doing-clause-kept : goal.returns-in_err-doing-clause-kept
returns-in_err-doing-clause-kept c =
    let h = c.args.shared.now in
    let v = c.args.widget.now in
    record { turn = keeps_sound (forests h) v.id.index h.store c.give.new.store h.page v.around c.requires.widget.sound (record { sound = c.give.ensures.sound; kept = c.give.ensures.kept }); number = refl; codes = refl }

pub returns-clause-kept : goal.returns-clause-kept
returns-clause-kept c =
    let h = c.args.shared.now in
    let v = c.args.widget.now in
    record { turn = keeps_sound (forests h) v.id.index h.store c.give.new.store h.page v.around c.requires.widget.sound (record { sound = c.give.ensures.sound; kept = c.give.ensures.kept }); number = refl; codes = refl }

pub returns-in_err-firing-clause-kept : goal.returns-in_err-firing-clause-kept
returns-in_err-firing-clause-kept c =
    let h = c.args.shared.now in
    let v = c.args.widget.now in
    record { turn = keeps_sound (forests h) v.id.index h.store h.store h.page v.around c.requires.widget.sound (sound_same v.id.index h.page h.store); number = refl; codes = refl }

pub returns-in_err-push-clause-kept : goal.returns-in_err-push-clause-kept
returns-in_err-push-clause-kept c =
    let h = c.args.shared.now in
    let v = c.args.widget.now in
    record { turn = keeps_sound (forests h) v.id.index h.store h.store h.page v.around c.requires.widget.sound (sound_same v.id.index h.page h.store); number = refl; codes = refl }

pub returns-in_err-push-2-clause-kept : goal.returns-in_err-push-2-clause-kept
returns-in_err-push-2-clause-kept c =
    let h = c.args.shared.now in
    let v = c.args.widget.now in
    record { turn = keeps_sound (forests h) v.id.index h.store h.store h.page v.around c.requires.widget.sound (sound_same v.id.index h.page h.store); number = refl; codes = refl }
