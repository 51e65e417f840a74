-- How the end of a part is handed on.
use Rattle.std.specs.Prelude.{◌≡◌, [], ◌∷◌, ◌++◌}
use Rattle.std.specs.Global.{Box}
use Rattle.js_flow.specs.declared.frame.Frame.{Frame}
use Rattle.js_flow.specs.declared.frame.Frame.TheVariants as frame
use Rattle.js_flow.specs.declared.frame.StatementFrame.TheVariants as statement
use Rattle.js_flow.specs.declared.job.Completion.{Completion}
use Rattle.js_direct.specs.declared.run.Ended.{Ended}
use Rattle.js_direct.specs.declared.run.Ended.TheVariants as ended
use Rattle.js_direct.specs.declared.run.Run.{Run}

-- it is handed on as it is; where the part is suspended, this frame waits for it
pub record HandsOn (had has : Run) (how given : Ended) (f : Frame) : Type 0 where
  pub is : given ≡ how
  pub waits : how ≡ ended.Left → has.waits.items ≡ had.waits.items ++ f ∷ []
  pub next : has.next ≡ had.next
  pub units : has.units ≡ had.units
  pub none : (how ≡ ended.Left → ⊥) → has ≡ had

-- an end waits for a `finally`
pub record WaitsToEnd (had has : Run) (how : Ended) (e : Completion) : Type 0 where
  pub left : how ≡ ended.Left
  pub box : Box Completion
  pub holds : box.value ≡ e
  pub waits : has.waits.items ≡ had.waits.items ++ frame.Statement (statement.LastEnd box) ∷ []
  pub next : has.next ≡ had.next
  pub units : has.units ≡ had.units
