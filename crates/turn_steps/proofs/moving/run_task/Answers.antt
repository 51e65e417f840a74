use Rattle.std.proofs.Common.{◌≡◌, ℕ, ◌-◌, ◌<◌, ◌≤◌, Box, Global, arith, ap, ◌∙◌, false, refl, subst, sym, true}
use Rattle.widget_meaning.specs.Meaning.{run_plan}
use Rattle.js_image.specs.Held.{IsConfined, Kept}
use Rattle.js_image.specs.Image.{Rest, image}
use Rattle.js_flow.specs.Free.{free}
use Rattle.js_flow.specs.Todo.{Follows, IsGoing, Strides}
use Rattle.js_values.specs.Answers.{out_of_fuel}
use Rattle.js_values.specs.Fuel.{Fuel}
use Rattle.native_image.specs.Image.{Outside}
use Rattle.turn_dispatch.specs.Task.{Task}
use Rattle.turn_dispatch.specs.Answered.{IsFineAfter, IsFineTask, machine, remaining, remaining_after}
use Rattle.turn_dispatch.specs.declared.level.Doing.{Doing}
use Rattle.turn_dispatch.specs.declared.level.Doing.TheVariants as doing
use Rattle.turn_dispatch.specs.Weights.{doing_free}
use Rattle.turn_steps.specs.Steps.{IsFollowed, IsStepped, doing_in}
use Rattle.turn_steps.specs.Turning.{forests, state_in}
use Rattle.turn_steps.proofs.Followed.{short_followed}
use Rattle.turn_steps.proofs.Kept.{keeps_kept, keeps_sound, keeps_then}
use Rattle.turn_steps.proofs.Stepped.{by_short, levels_stay, not_short, runs_fine, short_in, sound_stays, task_strides}
use Rattle.turn_steps.proofs.moving.run_task.Goals as goal

false_true : false ≡ true → ⊥
false_true e = cc

pub stride-requires-clause-going : goal.stride-requires-clause-going
stride-requires-clause-going c =
    let fine = runs_fine c.args.shared.now c.args.widget.now.id.index c.args.turn.now.doing c.in-Runs.task c.in-Runs.is c.requires.turn.doing in
    subst (λ (t : Task). IsGoing t.control) (sym c.deref_mut.ensures.value) fine.going

pub stride-requires-clause-widget : goal.stride-requires-clause-widget
stride-requires-clause-widget c =
    let fine = runs_fine c.args.shared.now c.args.widget.now.id.index c.args.turn.now.doing c.in-Runs.task c.in-Runs.is c.requires.turn.doing in
    subst (λ (n : ℕ). n < 32) (sym (ap (λ (t : Task). t.widget) c.deref_mut.ensures.value ∙ fine.widget)) c.args.widget.now.id.small

pub stride-requires-clause-confined : goal.stride-requires-clause-confined
stride-requires-clause-confined c =
    let h = c.args.shared.now in
    let fine = runs_fine h c.args.widget.now.id.index c.args.turn.now.doing c.in-Runs.task c.in-Runs.is c.requires.turn.doing in
    subst (λ (n : ℕ). IsConfined (forests h) n h.store) (sym (ap (λ (t : Task). t.widget) c.deref_mut.ensures.value ∙ fine.widget)) c.requires.widget.confined

pub stride-requires-clause-held : goal.stride-requires-clause-held
stride-requires-clause-held c =
    let h = c.args.shared.now in
    let F = forests h in
    let task = c.in-Runs.task in
    let fine = runs_fine h c.args.widget.now.id.index c.args.turn.now.doing task c.in-Runs.is c.requires.turn.doing in
    subst (λ (t : Task). IsFineTask F t.widget h.store t) (sym c.deref_mut.ensures.value)
    (subst (λ (n : ℕ). IsFineTask F n h.store task.value) (sym fine.widget) (fine.control, fine.frames, fine.call))

pub follow-requires-clause-sound : goal.follow-requires-clause-sound
follow-requires-clause-sound c =
    let h = c.args.shared.now in
    let F = forests h in
    let v = c.args.widget.now in
    let w = v.id.index in
    let t = c.args.turn.now in
    let old = h.store in
    let mid = c.stride.new.store in
    let task = c.in-Runs.task in
    let at = c.deref_mut.ensures.value in
    let fine = runs_fine h w t.doing task c.in-Runs.is c.requires.turn.doing in
    let mine : c.deref_mut.result.now.widget ≡ w = ap (λ (x : Task). x.widget) at ∙ fine.widget in
    let kept = subst (λ (n : ℕ). Kept F n old mid) mine c.stride.ensures.kept in
    sound_stays h v c.args.widget.now.id.small mid mid t.calls t.calls c.requires.widget c.requires.turn.levels kept

pub follow-requires-clause-levels : goal.follow-requires-clause-levels
follow-requires-clause-levels c =
    let h = c.args.shared.now in
    let F = forests h in
    let v = c.args.widget.now in
    let w = v.id.index in
    let t = c.args.turn.now in
    let old = h.store in
    let mid = c.stride.new.store in
    let task = c.in-Runs.task in
    let at = c.deref_mut.ensures.value in
    let fine = runs_fine h w t.doing task c.in-Runs.is c.requires.turn.doing in
    let mine : c.deref_mut.result.now.widget ≡ w = ap (λ (x : Task). x.widget) at ∙ fine.widget in
    let kept = subst (λ (n : ℕ). Kept F n old mid) mine c.stride.ensures.kept in
    let ended : Box Task Global = record task { value = c.stride.new.task } in
    let taken : c.take_task-task.result ≡ ended = c.take_task-task.ensures ended refl in
    let held = subst (λ (n : ℕ). IsFineAfter F n mid c.stride.new.task c.in_ok-stepped.stepped) mine c.in_ok-stepped.ensures.held in (
      F,
      levels_stay h v c.args.widget.now.id.small mid mid t.calls t.calls c.requires.widget c.requires.turn.levels kept,
      subst (λ (x : Box Task Global). IsFineAfter F w mid x.value c.in_ok-stepped.stepped) (sym taken) held,
    )

pub follow-requires-clause-follows : goal.follow-requires-clause-follows
follow-requires-clause-follows c =
    let ended : Box Task Global = record c.in-Runs.task { value = c.stride.new.task } in
    subst (λ (x : Box Task Global). Follows (machine c.in_ok-stepped.stepped) x.value.control) (sym (c.take_task-task.ensures ended refl)) c.in_ok-stepped.ensures.follows

pub returns-then-is_short-clause-stepped : goal.returns-then-is_short-clause-stepped
returns-then-is_short-clause-stepped c =
    let h = c.args.shared.now in
    let F = forests h in
    let v = c.args.widget.now in
    let w = v.id.index in
    let t = c.args.turn.now in
    let old = h.store in
    let mid = c.stride.new.store in
    let task = c.in-Runs.task in
    let at = c.deref_mut.ensures.value in
    let fine = runs_fine h w t.doing task c.in-Runs.is c.requires.turn.doing in
    let mine : c.deref_mut.result.now.widget ≡ w = ap (λ (x : Task). x.widget) at ∙ fine.widget in
    let kept = subst (λ (n : ℕ). Kept F n old mid) mine c.stride.ensures.kept in
    let u = c.stride.new.task in
    let k = c.in_ok-stepped.stepped in
    let all = t.left in
    let has = c.left-turn.result in
    let meter : c.new-meter.result.left ≡ all = ap (λ (q : Fuel). q.left) c.new-meter.ensures in
    let left : has ≡ c.stride.new.meter.left = c.left-turn.ensures.value in
    let less : has ≤ all = omega (arith, c.stride.ensures.spends.0, meter, left) in
    let cost : c.new-meter.result.left - c.stride.new.meter.left ≡ all - has = omega (arith, meter, left) in
    let strides : (r : Rest) → Strides c.args.units (all - has) (remaining F w old c.deref_mut.result.now r) (remaining_after F w mid u k r) = subst (λ (m : ℕ). (r : Rest) → Strides c.args.units m (remaining F w old c.deref_mut.result.now r) (remaining_after F w mid u k r)) cost
    (subst (λ (n : ℕ). (r : Rest) → Strides c.args.units (c.new-meter.result.left - c.stride.new.meter.left) (remaining F n old c.deref_mut.result.now r) (remaining_after F n mid u k r)) mine c.in_ok-stepped.ensures.strides) in
    let held = subst (λ (n : ℕ). IsFineAfter F n mid u k) mine c.in_ok-stepped.ensures.held in
    let same = c.stride.ensures.widget ∙ mine in
    let ended : Box Task Global = record task { value = u } in
    let new = record h { store = mid } in
    let is = sym c.is_short.ensures ∙ c.if-is_short.true in
    let stay = levels_stay h v c.args.widget.now.id.small mid mid t.calls t.calls c.requires.widget c.requires.turn.levels kept in
    let followed = short_followed w h.page v.around mid t.calls ended k is c.in_ok-stepped.ensures.follows in
    let fine_new = followed.fine F same held stay in
    let moved = λ (x : Outside). task_strides h v c.args.widget.now.id.small mid mid t.calls t.calls c.requires.widget c.requires.turn.levels kept x c.args.units (all - has) task.value c.deref_mut.result.now u k (doing.Runs ended) at strides followed in record {
      strides = λ x. subst (λ (d : Doing). Strides c.args.units (all - has) (doing_in x h v t.calls d) (doing_in x new v t.calls (doing.Runs ended))) (sym c.in-Runs.is) (moved x);
      spends = less;
      fine = record { doing = fine_new.0; levels = fine_new.1 };
      cut = λ e ge x. short_in new v c.args.widget.now.id.small t.calls 0 x ended
          (by_short ((r : Rest) → run_plan 0 (remaining F w mid u r) ≡ out_of_fuel (image F r w mid) 0) k is
          (λ q. subst (λ (n : ℕ). (r : Rest) → run_plan 0 (remaining F n mid u r) ≡ out_of_fuel (image F r n mid) 0) mine (c.in_ok-stepped.ensures.cut q).1)
          (λ q. let f = c.in_ok-stepped.ensures.fuel q in absurd (omega (arith, f.0, ge, cost))));
      stop = λ e lt x. subst (λ (n : ℕ). run_plan n (doing_in x new v t.calls (doing.Runs ended)) ≡ out_of_fuel (state_in x new v t.calls.dispatches.items) n) (sym left)
          (short_in new v c.args.widget.now.id.small t.calls c.stride.new.meter.left x ended
          (by_short ((r : Rest) → run_plan c.stride.new.meter.left (remaining F w mid u r) ≡ out_of_fuel (image F r w mid) c.stride.new.meter.left) k is
          (λ q. let f = c.in_ok-stepped.ensures.cut q in absurd (omega (arith, f.0, lt, cost)))
          (λ q. subst (λ (n : ℕ). (r : Rest) → run_plan c.stride.new.meter.left (remaining F n mid u r) ≡ out_of_fuel (image F r n mid) c.stride.new.meter.left) mine (c.in_ok-stepped.ensures.fuel q).1)));
      nearer = λ e. absurd (false_true (sym e));
    }

pub returns-then-is_short-clause-fine : goal.returns-then-is_short-clause-fine
returns-then-is_short-clause-fine c =
    let h = c.args.shared.now in
    let F = forests h in
    let v = c.args.widget.now in
    let w = v.id.index in
    let t = c.args.turn.now in
    let old = h.store in
    let mid = c.stride.new.store in
    let task = c.in-Runs.task in
    let at = c.deref_mut.ensures.value in
    let fine = runs_fine h w t.doing task c.in-Runs.is c.requires.turn.doing in
    let mine : c.deref_mut.result.now.widget ≡ w = ap (λ (x : Task). x.widget) at ∙ fine.widget in
    let kept = subst (λ (n : ℕ). Kept F n old mid) mine c.stride.ensures.kept in
    record {
      confined = kept.confined c.requires.widget.confined;
      sound = sound_stays h v c.args.widget.now.id.small mid mid t.calls t.calls c.requires.widget c.requires.turn.levels kept;
    }

pub returns-then-is_short-clause-kept : goal.returns-then-is_short-clause-kept
returns-then-is_short-clause-kept c =
    let h = c.args.shared.now in
    let F = forests h in
    let v = c.args.widget.now in
    let w = v.id.index in
    let t = c.args.turn.now in
    let old = h.store in
    let mid = c.stride.new.store in
    let task = c.in-Runs.task in
    let at = c.deref_mut.ensures.value in
    let fine = runs_fine h w t.doing task c.in-Runs.is c.requires.turn.doing in
    let mine : c.deref_mut.result.now.widget ≡ w = ap (λ (x : Task). x.widget) at ∙ fine.widget in
    let kept = subst (λ (n : ℕ). Kept F n old mid) mine c.stride.ensures.kept in
    record { turn = keeps_kept F w old mid h.page v.around c.requires.widget.sound.holds kept; number = refl; codes = refl }

pub returns-clause-stepped : goal.returns-clause-stepped
returns-clause-stepped c =
    let h = c.args.shared.now in
    let F = forests h in
    let v = c.args.widget.now in
    let w = v.id.index in
    let t = c.args.turn.now in
    let old = h.store in
    let mid = c.stride.new.store in
    let task = c.in-Runs.task in
    let at = c.deref_mut.ensures.value in
    let fine = runs_fine h w t.doing task c.in-Runs.is c.requires.turn.doing in
    let mine : c.deref_mut.result.now.widget ≡ w = ap (λ (x : Task). x.widget) at ∙ fine.widget in
    let kept = subst (λ (n : ℕ). Kept F n old mid) mine c.stride.ensures.kept in
    let u = c.stride.new.task in
    let k = c.in_ok-stepped.stepped in
    let all = t.left in
    let has = c.left-turn.result in
    let meter : c.new-meter.result.left ≡ all = ap (λ (q : Fuel). q.left) c.new-meter.ensures in
    let left : has ≡ c.stride.new.meter.left = c.left-turn.ensures.value in
    let less : has ≤ all = omega (arith, c.stride.ensures.spends.0, meter, left) in
    let cost : c.new-meter.result.left - c.stride.new.meter.left ≡ all - has = omega (arith, meter, left) in
    let strides : (r : Rest) → Strides c.args.units (all - has) (remaining F w old c.deref_mut.result.now r) (remaining_after F w mid u k r) = subst (λ (m : ℕ). (r : Rest) → Strides c.args.units m (remaining F w old c.deref_mut.result.now r) (remaining_after F w mid u k r)) cost
    (subst (λ (n : ℕ). (r : Rest) → Strides c.args.units (c.new-meter.result.left - c.stride.new.meter.left) (remaining F n old c.deref_mut.result.now r) (remaining_after F n mid u k r)) mine c.in_ok-stepped.ensures.strides) in
    let held = subst (λ (n : ℕ). IsFineAfter F n mid u k) mine c.in_ok-stepped.ensures.held in
    let same = c.stride.ensures.widget ∙ mine in
    let ended : Box Task Global = record task { value = c.stride.new.task } in
    let taken : c.take_task-task.result ≡ ended = c.take_task-task.ensures ended refl in
    let s = c.follow.new.store in
    let new = record h { store = s } in
    let d = c.in_ok-doing.doing in
    let a = c.follow.new.calls in
    let is = sym c.is_short.ensures ∙ c.if-is_short.false in
    let over = not_short k is in
    let near_now = c.in_ok-stepped.ensures.near over.0 over.1 in
    let weight = ap (λ (q : Task). free q.control q.frames.list.items) at in
    let was = ap (λ (q : Doing). doing_free q) c.in-Runs.is in
    let followed = subst (λ (x : Box Task Global). IsFollowed w h.page v.around mid s t.calls a x.value k d) taken c.in_ok-doing.ensures.followed in
    let stay = levels_stay h v c.args.widget.now.id.small mid s t.calls a c.requires.widget c.requires.turn.levels kept in
    let fine_new = followed.fine F same held stay in
    let moved = λ (x : Outside). task_strides h v c.args.widget.now.id.small mid s t.calls a c.requires.widget c.requires.turn.levels kept x c.args.units (all - has) task.value c.deref_mut.result.now u k d at strides followed in
    subst (λ (q : Doing). IsStepped c.args.units h new v v t (record { doing = q; calls = a; left = has }) false) (sym c.put.ensures) (record {
      strides = λ x. subst (λ (q : Doing). Strides c.args.units (all - has) (doing_in x h v t.calls q) (doing_in x new v a d)) (sym c.in-Runs.is) (moved x);
      spends = less;
      fine = record { doing = fine_new.0; levels = fine_new.1 };
      cut = λ e. absurd (false_true e);
      stop = λ e. absurd (false_true e);
      nearer = λ e. omega (arith, near_now, followed.near, weight, was, meter, left);
    })

pub returns-clause-fine : goal.returns-clause-fine
returns-clause-fine c =
    let h = c.args.shared.now in
    let F = forests h in
    let v = c.args.widget.now in
    let w = v.id.index in
    let t = c.args.turn.now in
    let old = h.store in
    let mid = c.stride.new.store in
    let task = c.in-Runs.task in
    let at = c.deref_mut.ensures.value in
    let fine = runs_fine h w t.doing task c.in-Runs.is c.requires.turn.doing in
    let mine : c.deref_mut.result.now.widget ≡ w = ap (λ (x : Task). x.widget) at ∙ fine.widget in
    let kept = subst (λ (n : ℕ). Kept F n old mid) mine c.stride.ensures.kept in
    let sound = sound_stays h v c.args.widget.now.id.small mid mid t.calls t.calls c.requires.widget c.requires.turn.levels kept in record {
      confined = c.follow.ensures.kept.kept.confined F (kept.confined c.requires.widget.confined);
      sound = c.follow.ensures.kept.sound v.around sound;
    }

pub returns-clause-kept : goal.returns-clause-kept
returns-clause-kept c =
    let h = c.args.shared.now in
    let F = forests h in
    let v = c.args.widget.now in
    let w = v.id.index in
    let t = c.args.turn.now in
    let old = h.store in
    let mid = c.stride.new.store in
    let task = c.in-Runs.task in
    let at = c.deref_mut.ensures.value in
    let fine = runs_fine h w t.doing task c.in-Runs.is c.requires.turn.doing in
    let mine : c.deref_mut.result.now.widget ≡ w = ap (λ (x : Task). x.widget) at ∙ fine.widget in
    let kept = subst (λ (n : ℕ). Kept F n old mid) mine c.stride.ensures.kept in
    let sound = sound_stays h v c.args.widget.now.id.small mid mid t.calls t.calls c.requires.widget c.requires.turn.levels kept in
    record { turn = keeps_then F w old mid c.follow.new.store h.page h.page h.page v.around v.around (keeps_kept F w old mid h.page v.around c.requires.widget.sound.holds kept) (keeps_sound F w mid c.follow.new.store h.page v.around sound c.follow.ensures.kept); number = refl; codes = refl }

pub returns-in_err-doing-clause-kept : goal.returns-in_err-doing-clause-kept
returns-in_err-doing-clause-kept c =
    let h = c.args.shared.now in
    let F = forests h in
    let v = c.args.widget.now in
    let w = v.id.index in
    let t = c.args.turn.now in
    let old = h.store in
    let mid = c.stride.new.store in
    let task = c.in-Runs.task in
    let at = c.deref_mut.ensures.value in
    let fine = runs_fine h w t.doing task c.in-Runs.is c.requires.turn.doing in
    let mine : c.deref_mut.result.now.widget ≡ w = ap (λ (x : Task). x.widget) at ∙ fine.widget in
    let kept = subst (λ (n : ℕ). Kept F n old mid) mine c.stride.ensures.kept in
    let sound = sound_stays h v c.args.widget.now.id.small mid mid t.calls t.calls c.requires.widget c.requires.turn.levels kept in
    record { turn = keeps_then F w old mid c.follow.new.store h.page h.page h.page v.around v.around (keeps_kept F w old mid h.page v.around c.requires.widget.sound.holds kept) (keeps_sound F w mid c.follow.new.store h.page v.around sound c.follow.ensures.kept); number = refl; codes = refl }

pub returns-in_err-stepped-clause-kept : goal.returns-in_err-stepped-clause-kept
returns-in_err-stepped-clause-kept c =
    let h = c.args.shared.now in
    let F = forests h in
    let v = c.args.widget.now in
    let w = v.id.index in
    let t = c.args.turn.now in
    let old = h.store in
    let mid = c.stride.new.store in
    let task = c.in-Runs.task in
    let at = c.deref_mut.ensures.value in
    let fine = runs_fine h w t.doing task c.in-Runs.is c.requires.turn.doing in
    let mine : c.deref_mut.result.now.widget ≡ w = ap (λ (x : Task). x.widget) at ∙ fine.widget in
    let kept = subst (λ (n : ℕ). Kept F n old mid) mine c.stride.ensures.kept in
    record { turn = keeps_kept F w old mid h.page v.around c.requires.widget.sound.holds kept; number = refl; codes = refl }
