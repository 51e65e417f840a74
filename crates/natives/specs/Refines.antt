-- When a native carries out its plan at the whole state of its owner. Plans are given by call depth and state.
use Rattle.std.specs.Prelude.{◌≡◌, ℕ, ◌+◌, List, IfOk, Result}
use Rattle.code_units.specs.declared.memory.Memory.{Memory}
use Rattle.std.specs.Option.{option_map}
use Rattle.js_tree.specs.Forest.{Forest}
use Rattle.store_cells.specs.Cells.{PlainCell}
use Rattle.page_image.specs.Image.{number}
use Rattle.widget_meaning.specs.Natives.{run_native}
use Rattle.widget_meaning.specs.OwnState.{State}
use Rattle.widget_meaning.specs.Plan.{Plan}
use Rattle.js_flow.specs.declared.job.NativeCall.{NativeCall}
use Rattle.js_image.specs.Held.{IsConfined}
use Rattle.js_image.specs.Image.{all_seen, seen}
use Rattle.js_values.specs.Answers.{Answers, IsFineOut, IsOutOfFuel}
use Rattle.js_values.specs.Fuel.{Fuel}
use Rattle.js_values.specs.declared.outcome.NativeOut.{NativeOut}
use Rattle.native_image.specs.Image.{Outside}
use Rattle.native_image.specs.Refines.{FiresAtOwn}
use Rattle.native_image.specs.Sound.{IsSound, KeepsAll}
use Rattle.native_image.specs.declared.handed.Shared.{Shared}
use Rattle.native_image.specs.declared.handed.Widget.{Widget}
use Rattle.natives.specs.Reach.{Reach, reach_of, state}

-- the meaning of a native that is called, by call depth
abbrev pub plan_of : ℕ → List PlainCell → NativeCall → ℕ → State → Plan
plan_of w cells c d s = run_native c.which (option_map (seen w cells) c.this) (all_seen w cells c.args.items) d s

-- An answer refines a plan of widget w, with all that a native may change and the fuel before and after it. It is what the plan gives, where the widget was confined, for every rest of its state and every call depth; it is of what the widget may hold, and the nodes at which handlers are asked for are its own; all fuel that was taken was spent; nothing changed where fuel is wanting; and store, page and loop are sound.
pub record RefinesWhole (w : ℕ) (old new : Reach) (had has : Fuel) (plan : ℕ → State → Plan) (o : NativeOut) : Type 0 where
  pub answer : (fs : List Forest) (x : Outside) (d : ℕ) → IsConfined fs w old.parts.store
      → Answers (seen w new.parts.store.cells) (number new.parts.page w) d (plan d (state fs x w old)) (state fs x w old) o (state fs x w new) had.left has.left
  pub fine : IsFineOut w new.parts.store.cells o
  pub fires : FiresAtOwn w new.parts o
  pub spent : has.left + has.spent ≡ had.left + had.spent
  pub unpaid : IsOutOfFuel o → (new ≡ old) × (has ≡ had)
  pub sound : IsSound w new.parts.store new.parts.page new.parts.around

-- What comes of a native of a widget: an answer refines its plan; after want of memory too what a call keeps is kept, the code is as it was, and the widget is the same one.
pub record CarriesOut (old new : Shared) (v u : Widget) (had has : Fuel) (plan : ℕ → State → Plan) (r : Result NativeOut Memory) : Type 0 where
  pub refines : IfOk r (RefinesWhole v.id.index (reach_of old v) (reach_of new u) had has plan)
  pub kept : KeepsAll v.id.index old.store new.store old.page new.page u.around
  pub codes : new.codes ≡ old.codes
  pub id : u.id ≡ v.id
