-- How the call of a task ends: by a value or a throw.
use Rattle.std.specs.Prelude.{ℕ, ◌≤◌, List}
use Rattle.js_tree.specs.Forest.{Forest}
use Rattle.store_cells.specs.Cells.{Cells, PlainCell}
use Rattle.widget_meaning.specs.Values as meaning
use Rattle.widget_meaning.specs.OwnState.{State}
use Rattle.plan_ends.specs.Ends.{ByValue, Ends, Way, Yields}
use Rattle.js_image.specs.Image.{Rest, image}
use Rattle.js_image.specs.Held.{IsFine}
use Rattle.js_flow.specs.declared.frame.Frame.{Frame}
use Rattle.js_flow.specs.declared.job.Completion.{Completion}
use Rattle.js_flow.specs.declared.job.Completion.TheVariants as completion
use Rattle.js_flow.specs.declared.job.Next.{Next}
use Rattle.js_flow.specs.declared.job.Next.TheVariants as next
use Rattle.js_flow.specs.declared.task.Control.{Control}
use Rattle.js_flow.specs.declared.task.Control.TheVariants as control
use Rattle.js_flow.specs.declared.task.Stepped.{Stepped}
use Rattle.js_flow.specs.declared.task.Stepped.TheVariants as stepped
use Rattle.js_flow.specs.Frames.{rest}
use Rattle.js_flow.specs.Free.{control_free, native_free}
use Rattle.js_flow.specs.Todo.{todo}

-- a value or a throw
abbrev pub IsCallEnd : Completion → Type 0
IsCallEnd (completion.Is v) = Unit {0}
IsCallEnd (completion.Throw v) = Unit {0}
IsCallEnd _ = ⊥

-- of what the widget may hold
abbrev pub FineEnd : ℕ → List PlainCell → Completion → Type 0
FineEnd w cells (completion.Is v) = IsFine w cells v
FineEnd w cells (completion.Throw v) = IsFine w cells v
FineEnd w cells _ = ⊥

-- where the call is over, it ended so
abbrev pub EndsSo : Stepped → Type 0
EndsSo (stepped.Done o) = IsCallEnd o
EndsSo _ = Unit {0}

-- what a native that is asked for says
abbrev pub IfNative : Stepped → Type 0 → Type 0
IfNative (stepped.Native n) P = P
IfNative _ P = Unit {0}

-- a native is next
abbrev pub IsNative : Next → Type 0
IsNative (next.Native c) = Unit {0}
IsNative _ = ⊥

module _ (fs : List Forest) (w : ℕ) where
  -- what frames have still to do comes to a value or a throw, whatever a form gives them in a way, in each state
  abbrev pub Awaits : List PlainCell → Way → List Frame → Type 0
  Awaits cells way frames = (o : meaning.Completion) (t : State) → Ends way o → Yields ByValue (rest fs w cells frames o t)

  -- what a task has still to do comes to a value or a throw; a job that has begun is no native
  abbrev pub EndsCall : Cells → Control → List Frame → Type 0
  EndsCall s (control.Waits d) frames = Awaits s.cells ByValue frames
  EndsCall s control.Over frames = Unit {0}
  EndsCall s c frames = ((r : Rest) → Yields ByValue (todo fs w s.cells c frames (image fs r w s))) × (control_free c ≤ native_free)
