-- A native that a turn carries out.
use Rattle.std.specs.Prelude.{◌≡◌, ℕ, ◌+◌, ◌*◌, ◌<◌, ◌≤◌, Bool, true, false, List, None}
use Rattle.page_image.specs.Image.{number}
use Rattle.widget_meaning.specs.Plan.{and_then}
use Rattle.js_calls.specs.Called.{given}
use Rattle.js_flow.specs.Free.{frames_free, native_free}
use Rattle.js_flow.specs.Frames.{rest}
use Rattle.js_image.specs.Image.{seen}
use Rattle.turn_dispatch.specs.Task.{Task}
use Rattle.js_values.specs.Answers.{Answers, IsFineOut, IsOutOfFuel}
use Rattle.js_values.specs.Fuel.{Fuel}
use Rattle.js_values.specs.declared.outcome.NativeOut.{NativeOut}
use Rattle.js_values.specs.declared.outcome.NativeOut.TheVariants as native
use Rattle.js_values.specs.declared.outcome.Plan.TheVariants as calls
use Rattle.js_flow.specs.declared.job.NativeCall.{NativeCall}
use Rattle.native_image.specs.Image.{Outside, beside}
use Rattle.native_image.specs.Refines.{FiresAtOwn}
use Rattle.natives.specs.Refines.{plan_of}
use Rattle.turn_dispatch.specs.declared.level.Doing.{Doing}
use Rattle.turn_dispatch.specs.Held.{FineDoing}
use Rattle.turn_dispatch.specs.Levels.{levels_rest}
use Rattle.turn_dispatch.specs.declared.calls.Calls.{Calls}
use Rattle.turn_dispatch.specs.Waiting.{FineLevels}
use Rattle.turn_dispatch.specs.Weights.{doing_free, levels_free}
use Rattle.native_image.specs.declared.handed.Shared.{Shared}
use Rattle.native_image.specs.declared.handed.Widget.{Widget}
use Rattle.turn_steps.specs.Steps.{doing_in}
use Rattle.turn_steps.specs.Turning.{forests, state_in}

-- whether an answer is that fuel is wanting
abbrev pub is_wanting : NativeOut → Bool
is_wanting native.OutOfFuel = true
is_wanting o = false

-- whether an answer asks for handlers
abbrev pub is_fire : NativeOut → Bool
is_fire (native.Call (calls.Fire kind nodes last)) = true
is_fire o = false

-- What a native answers at the state of the widget in its turn, with these dispatches open before and after it: what the meaning gives, of what is the widget's; and where fuel is wanting all is as it was.
pub record IsPerformed (old new : Shared) (v u : Widget) (before after : List Bool) (had has : Fuel) (call : NativeCall) (o : NativeOut) : Type 0 where
  pub answer : (x : Outside) (d : ℕ) → Answers (seen v.id.index new.store.cells) (number new.page v.id.index) d (plan_of v.id.index old.store.cells call d (state_in x old v before)) (state_in x old v before) o (state_in x new u after) had.left has.left
  pub fine : IsFineOut v.id.index new.store.cells o
  pub fires : FiresAtOwn v.id.index (beside new.store new.page u.around None) o
  pub spends : has.left ≤ had.left
  pub unpaid : IsOutOfFuel o → (has ≡ had) × (new.store ≡ old.store) × (new.page ≡ old.page) × ((x : Outside) → state_in x new u after ≡ state_in x old v before)

-- What a native gave goes on for the task that waits for it: what is still to do then is what the turn does, of what is the widget's, and less may be done without fuel.
pub record IsAnswered (old new : Shared) (v : Widget) (before after : Calls) (t : Task) (depth : ℕ) (o : NativeOut) (d : Doing) : Type 0 where
  pub plan : (x : Outside) →
      and_then (and_then (given v.id.index old.store.cells (number old.page v.id.index) depth o (state_in x old v before.dispatches.items)) (rest (forests old) v.id.index old.store.cells t.frames.list.items)) (levels_rest (forests old) v.id.index old.store.cells old.page before.levels.items)
      ≡ doing_in x new v after d
  pub fine : FineDoing (forests new) v.id.index new.store new.page d × FineLevels (forests new) v.id.index new.store.cells new.page after.levels.items
  pub near : doing_free d + levels_free after.levels.items < 2 * (native_free + frames_free t.frames.list.items) + levels_free before.levels.items
