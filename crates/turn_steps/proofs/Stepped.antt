-- A step of a task, over what waits.
use Rattle.std.proofs.Common.{◌≡◌, ℕ, ◌<◌, Box, Global, false, true, ap, ◌∙◌, refl, subst, sym}
use Rattle.store_cells.specs.Cells.{Cells}
use Rattle.widget_meaning.specs.Plan.{and_then}
use Rattle.widget_meaning.specs.Meaning.{run_plan}
use Rattle.js_image.specs.Held.{Kept}
use Rattle.js_image.specs.Image.{Rest, image}
use Rattle.js_flow.specs.Todo.{IsOver, Strides, after_step}
use Rattle.js_values.specs.Answers.{out_of_fuel}
use Rattle.turn_dispatch.specs.Stepped.{Stepped}
use Rattle.turn_dispatch.specs.Stepped.TheVariants as stepped
use Rattle.turn_dispatch.specs.Stop.TheVariants as stop
use Rattle.turn_dispatch.specs.Task.{Task}
use Rattle.turn_dispatch.specs.Answered.{IsFuelStop, IsWent, machine, remaining, remaining_after}
use Rattle.page_image.specs.Image.{owns}
use Rattle.native_image.specs.Sound.{IsSound}
use Rattle.native_image.specs.Image.{Outside, beside}
use Rattle.native_image.proofs.Joint.{rest, sound_grows, store_lift}
use Rattle.natives.specs.Reach.{with_notes}
use Rattle.turn_dispatch.specs.declared.level.Doing.{Doing}
use Rattle.turn_dispatch.specs.declared.level.Doing.TheVariants as doing
use Rattle.turn_dispatch.specs.Held.{FineDoing, FineTask}
use Rattle.turn_dispatch.specs.Levels.{levels_rest, turn_plan}
use Rattle.turn_dispatch.specs.declared.calls.Calls.{Calls}
use Rattle.native_image.specs.declared.handed.Shared.{Shared}
use Rattle.native_image.specs.declared.handed.Widget.{Widget}
use Rattle.turn_dispatch.specs.Turns.{bubbled_of, outside_of, turn_image}
use Rattle.turn_dispatch.specs.Waiting.{FineLevels}
use Rattle.turn_dispatch.proofs.Stays.{levels_fine, levels_same}
use Rattle.turn_steps.specs.Steps.{IsFollowed, doing_in, is_short}
use Rattle.turn_steps.specs.Turning.{FineWidget, forests, state_in}
use Rattle.turn_steps.proofs.Moved.{short_over}
use Rattle.turn_steps.proofs.Strided.{strides_is, strides_over}

no_true : false ≡ true → ⊥
no_true e = cc

-- what the store does not hold of the widget's state
abbrev pub rest_in : (h : Shared) (v : Widget) → v.id.index < 32 → Calls → Outside → Rest
rest_in h v lt b x =
    let ds = b.dispatches.items in
    rest v.id.index lt (outside_of (with_notes v.log.items v.posts.items x) ds) (beside h.store h.page v.around (bubbled_of ds))

-- the want of fuel of a task, over what waits
pub short_in : (h : Shared) (v : Widget) (lt : v.id.index < 32) (b : Calls) (g : ℕ) (x : Outside) (t : Box Task Global)
    → ((r : Rest) → run_plan g (remaining (forests h) v.id.index h.store t.value r) ≡ out_of_fuel (image (forests h) r v.id.index h.store) g)
    → run_plan g (doing_in x h v b (doing.Runs t)) ≡ out_of_fuel (state_in x h v b.dispatches.items) g
short_in h v lt b g x t lacks =
    short_over g (state_in x h v b.dispatches.items) (remaining (forests h) v.id.index h.store t.value (rest_in h v lt b x)) (levels_rest (forests h) v.id.index h.store.cells h.page b.levels.items)
    (lacks (rest_in h v lt b x))

module _ (old : Shared) (v : Widget) (lt : v.id.index < 32) (mid new : Cells) (before after : Calls) (fine : FineWidget old v) (levels : FineLevels (forests old) v.id.index old.store.cells old.page before.levels.items) (kept : Kept (forests old) v.id.index old.store mid) where
  -- what waits is still the widget's
  pub levels_stay : FineLevels (forests old) v.id.index mid.cells old.page before.levels.items
  levels_stay = levels_fine v.id.index old.store.cells mid.cells kept.grows old.page old.page (λ n h. refl) (λ n h. h) (forests old) before.levels.items levels

  -- what is sound stays so
  pub sound_stays : IsSound v.id.index mid old.page v.around
  sound_stays = sound_grows v.id.index old.store mid old.page v.around fine.sound kept.grows (kept.nodes (owns old.page v.id.index) fine.sound.holds.bunches)

  -- steps of a task, which is at first this one
  pub task_strides : (x : Outside) (n c : ℕ) (a t u : Task) (k : Stepped) (d : Doing) → t ≡ a
      → ((r : Rest) → Strides n c (remaining (forests old) v.id.index old.store t r) (remaining_after (forests old) v.id.index mid u k r))
      → IsFollowed v.id.index old.page v.around mid new before after u k d
      → Strides n c (and_then (remaining (forests old) v.id.index old.store a (rest_in old v lt before x)) (levels_rest (forests old) v.id.index old.store.cells old.page before.levels.items))
      (turn_plan (forests old) v.id.index new.cells old.page d after.levels.items (turn_image (forests old) (with_notes v.log.items v.posts.items x) v.id.index new old.page v.around after.dispatches.items))
  task_strides x n c a t u k d at strides followed =
      let fs = forests old in
      let w = v.id.index in
      let ds = before.dispatches.items in
      let y = with_notes v.log.items v.posts.items x in
      let r = rest_in old v lt before x in
      let below = levels_rest fs w old.store.cells old.page before.levels.items in
      let lifted = store_lift w old.store mid old.page v.around fine.sound.holds kept.grows lt fs (outside_of y ds) (bubbled_of ds) in
      let same = levels_same w old.store.cells mid.cells kept.grows old.page old.page (λ n h. refl) fs before.levels.items levels in
      strides_is n c (and_then (remaining fs w old.store t r) below) (and_then (remaining_after fs w mid u k r) below) _ _
      (ap (λ (q : Task). and_then (remaining fs w old.store q r) below) (sym at))
      ((λ j. and_then (after_step fs w mid.cells (machine k) u.control u.frames.list.items (lifted j)) (sym same j)) ∙ followed.plan fs y levels_stay)
      (strides_over n c _ _ below (strides r))

-- what a task that wants fuel answered
pub by_short : (P : Type 0) (k : Stepped) → is_short k ≡ true → (IsWent k → P) → (IsFuelStop k → P) → P
by_short P stepped.Went e f g = f tt
by_short P (stepped.Stop stop.Fuel) e f g = g tt
by_short P (stepped.Stop (stop.Due q)) e f g = absurd (no_true e)
by_short P (stepped.Native n) e f g = absurd (no_true e)
by_short P (stepped.Done o) e f g = absurd (no_true e)
by_short P (stepped.Threw o) e f g = absurd (no_true e)

-- and one that does not
pub not_short : (k : Stepped) → is_short k ≡ false → IsOver (machine k) × (IsFuelStop k → ⊥)
not_short stepped.Went e = absurd (no_true (sym e))
not_short (stepped.Stop stop.Fuel) e = absurd (no_true (sym e))
not_short (stepped.Stop (stop.Due q)) e = (tt, λ h. h)
not_short (stepped.Native n) e = (tt, λ h. h)
not_short (stepped.Done o) e = (tt, λ h. h)
not_short (stepped.Threw o) e = (tt, λ h. h)

-- a task that runs is the widget's
pub runs_fine : (h : Shared) (w : ℕ) (d : Doing) (t : Box Task Global) → d ≡ doing.Runs t → FineDoing (forests h) w h.store h.page d → FineTask (forests h) w h.store h.page t.value
runs_fine h w d t e fine = subst (FineDoing (forests h) w h.store h.page) e fine

-- the task that was taken out is the one that was there
abbrev task_of : Box Task Global → Doing → Box Task Global
task_of t (doing.Runs u) = u
task_of t d = t

pub same_task : (d : Doing) (t u : Box Task Global) → d ≡ doing.Runs t → d ≡ doing.Runs u → t ≡ u
same_task d t u e f = sym (ap (task_of t) e) ∙ ap (task_of t) f
