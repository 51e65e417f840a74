use Rattle.std.proofs.Common.{ℕ, ◌<◌, ap, ◌∙◌, refl, subst, sym}
use Rattle.js_flow.specs.declared.task.Control.TheVariants as control
use Rattle.js_flow.specs.Free.{free}
use Rattle.js_image.specs.Held.{Kept}
use Rattle.turn_dispatch.specs.Task.{Task}
use Rattle.turn_dispatch.specs.Answered.{IsFineAfter, IsFineTask}
use Rattle.native_image.proofs.Joint.{sound_grows}
use Rattle.page_image.specs.Image.{number, owns}
use Rattle.turn_dispatch.proofs.Stays.{levels_fine}
use Rattle.turn_steps.specs.Turning.{forests}
use Rattle.turn_steps.proofs.Answering.{plan_told, resume_answered, waits}
use Rattle.turn_steps.proofs.Kept.{keeps_kept, keeps_sound, keeps_then}
use Rattle.turn_steps.proofs.carrying.resume_task.Goals as goal

pub returns-in_err-stepped-clause-kept : goal.returns-in_err-stepped-clause-kept
returns-in_err-stepped-clause-kept c =
    let h = c.args.shared.now in
    let F = forests h in
    let v = c.args.widget.now in
    let w = v.id.index in
    let s = h.store in
    let p = h.page in
    let l = v.around in
    let mid = c.resume.new.store in
    let e = waits c.deref_mut-2.result.now c.wait.new.task c.deref_mut.result.now c.args.task.value c.args.answer.0 c.deref_mut-2.ensures.value c.wait.ensures c.deref_mut.ensures.value in
    let same = ap (λ (t : Task). t.widget) e ∙ c.requires.task in
    let kept = subst (λ n. Kept F n s mid) same c.resume.ensures.kept in
    let sound = sound_grows w s mid p l c.requires.widget.sound kept.grows (kept.nodes (owns p w) c.requires.widget.sound.holds.bunches) in
    record { turn = keeps_kept F w s mid p l c.requires.widget.sound.holds kept; number = refl; codes = refl }

pub resume-requires-clause-held : goal.resume-requires-clause-held
resume-requires-clause-held c =
    let F = forests c.args.shared.now in
    let s = c.args.shared.now.store in
    let e = waits c.deref_mut-2.result.now c.wait.new.task c.deref_mut.result.now c.args.task.value c.args.answer.0 c.deref_mut-2.ensures.value c.wait.ensures c.deref_mut.ensures.value in
    subst (λ (t : Task). IsFineTask F t.widget s t) (sym e)
    (subst (λ (n : ℕ). IsFineTask F n s (record c.args.task.value { control = control.Waits c.args.answer.0 })) (sym c.requires.task) (tt, c.requires.frames, c.requires.awaits))

pub follow-requires-clause-sound : goal.follow-requires-clause-sound
follow-requires-clause-sound c =
    let h = c.args.shared.now in
    let F = forests h in
    let v = c.args.widget.now in
    let w = v.id.index in
    let s = h.store in
    let p = h.page in
    let l = v.around in
    let mid = c.resume.new.store in
    let e = waits c.deref_mut-2.result.now c.wait.new.task c.deref_mut.result.now c.args.task.value c.args.answer.0 c.deref_mut-2.ensures.value c.wait.ensures c.deref_mut.ensures.value in
    let same = ap (λ (t : Task). t.widget) e ∙ c.requires.task in
    let kept = subst (λ n. Kept F n s mid) same c.resume.ensures.kept in
    let sound = sound_grows w s mid p l c.requires.widget.sound kept.grows (kept.nodes (owns p w) c.requires.widget.sound.holds.bunches) in
    sound

pub follow-requires-clause-levels : goal.follow-requires-clause-levels
follow-requires-clause-levels c =
    let h = c.args.shared.now in
    let F = forests h in
    let v = c.args.widget.now in
    let w = v.id.index in
    let s = h.store in
    let p = h.page in
    let l = v.around in
    let mid = c.resume.new.store in
    let e = waits c.deref_mut-2.result.now c.wait.new.task c.deref_mut.result.now c.args.task.value c.args.answer.0 c.deref_mut-2.ensures.value c.wait.ensures c.deref_mut.ensures.value in
    let same = ap (λ (t : Task). t.widget) e ∙ c.requires.task in
    let kept = subst (λ n. Kept F n s mid) same c.resume.ensures.kept in
    let sound = sound_grows w s mid p l c.requires.widget.sound kept.grows (kept.nodes (owns p w) c.requires.widget.sound.holds.bunches) in
    (F, levels_fine w s.cells mid.cells kept.grows p p (λ n k. refl) (λ n k. k) F c.args.calls.now.levels.items c.requires.levels, subst (λ n. IsFineAfter F n mid c.resume.new.task c.in_ok-stepped.stepped) same c.in_ok-stepped.ensures.held)

pub returns-clause-answered : goal.returns-clause-answered
returns-clause-answered c =
    let h = c.args.shared.now in
    let F = forests h in
    let v = c.args.widget.now in
    let w = v.id.index in
    let s = h.store in
    let p = h.page in
    let l = v.around in
    let mid = c.resume.new.store in
    let e = waits c.deref_mut-2.result.now c.wait.new.task c.deref_mut.result.now c.args.task.value c.args.answer.0 c.deref_mut-2.ensures.value c.wait.ensures c.deref_mut.ensures.value in
    let same = ap (λ (t : Task). t.widget) e ∙ c.requires.task in
    let kept = subst (λ n. Kept F n s mid) same c.resume.ensures.kept in
    let sound = sound_grows w s mid p l c.requires.widget.sound kept.grows (kept.nodes (owns p w) c.requires.widget.sound.holds.bunches) in
    let u = c.resume.new.task in
    resume_answered h v c.args.widget.now.id.small c.requires.widget c.args.calls.now c.follow.new.calls c.requires.levels mid c.follow.new.store c.args.task.value u c.args.answer.0 c.args.answer.1 c.in_ok-stepped.stepped c.in_ok-doing.doing kept.grows
    (λ r. plan_told F s mid c.deref_mut-2.result.now c.args.task.value u c.args.answer.0 w c.args.answer.1 c.in_ok-stepped.stepped e c.requires.task c.in_ok-stepped.ensures.plan r (number p w))
    (subst (λ (t : Task). free u.control u.frames.list.items < free t.control t.frames.list.items) e c.in_ok-stepped.ensures.near)
    (c.resume.ensures.widget ∙ same)
    (subst (λ n. IsFineAfter F n mid u c.in_ok-stepped.stepped) same c.in_ok-stepped.ensures.held)
    c.in_ok-doing.ensures.followed

pub returns-clause-fine : goal.returns-clause-fine
returns-clause-fine c =
    let h = c.args.shared.now in
    let F = forests h in
    let v = c.args.widget.now in
    let w = v.id.index in
    let s = h.store in
    let p = h.page in
    let l = v.around in
    let mid = c.resume.new.store in
    let e = waits c.deref_mut-2.result.now c.wait.new.task c.deref_mut.result.now c.args.task.value c.args.answer.0 c.deref_mut-2.ensures.value c.wait.ensures c.deref_mut.ensures.value in
    let same = ap (λ (t : Task). t.widget) e ∙ c.requires.task in
    let kept = subst (λ n. Kept F n s mid) same c.resume.ensures.kept in
    let sound = sound_grows w s mid p l c.requires.widget.sound kept.grows (kept.nodes (owns p w) c.requires.widget.sound.holds.bunches) in
    record { confined = c.follow.ensures.kept.kept.confined F (kept.confined c.requires.widget.confined); sound = c.follow.ensures.kept.sound l sound }

pub returns-in_err-doing-clause-kept : goal.returns-in_err-doing-clause-kept
returns-in_err-doing-clause-kept c =
    let h = c.args.shared.now in
    let F = forests h in
    let v = c.args.widget.now in
    let w = v.id.index in
    let s = h.store in
    let p = h.page in
    let l = v.around in
    let mid = c.resume.new.store in
    let e = waits c.deref_mut-2.result.now c.wait.new.task c.deref_mut.result.now c.args.task.value c.args.answer.0 c.deref_mut-2.ensures.value c.wait.ensures c.deref_mut.ensures.value in
    let same = ap (λ (t : Task). t.widget) e ∙ c.requires.task in
    let kept = subst (λ n. Kept F n s mid) same c.resume.ensures.kept in
    let sound = sound_grows w s mid p l c.requires.widget.sound kept.grows (kept.nodes (owns p w) c.requires.widget.sound.holds.bunches) in
    record { turn = keeps_then F w s mid c.follow.new.store p p p l l (keeps_kept F w s mid p l c.requires.widget.sound.holds kept) (keeps_sound F w mid c.follow.new.store p l sound c.follow.ensures.kept); number = refl; codes = refl }

pub returns-clause-kept : goal.returns-clause-kept
returns-clause-kept c =
    let h = c.args.shared.now in
    let F = forests h in
    let v = c.args.widget.now in
    let w = v.id.index in
    let s = h.store in
    let p = h.page in
    let l = v.around in
    let mid = c.resume.new.store in
    let e = waits c.deref_mut-2.result.now c.wait.new.task c.deref_mut.result.now c.args.task.value c.args.answer.0 c.deref_mut-2.ensures.value c.wait.ensures c.deref_mut.ensures.value in
    let same = ap (λ (t : Task). t.widget) e ∙ c.requires.task in
    let kept = subst (λ n. Kept F n s mid) same c.resume.ensures.kept in
    let sound = sound_grows w s mid p l c.requires.widget.sound kept.grows (kept.nodes (owns p w) c.requires.widget.sound.holds.bunches) in
    record { turn = keeps_then F w s mid c.follow.new.store p p p l l (keeps_kept F w s mid p l c.requires.widget.sound.holds kept) (keeps_sound F w mid c.follow.new.store p l sound c.follow.ensures.kept); number = refl; codes = refl }
