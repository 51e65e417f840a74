-- The arguments of a call, one after the other, whatever is called.
use Rattle.std.specs.Prelude.{◌≡◌, ℕ, ◌+◌, ◌*◌, ◌-◌, ◌≤◌, List, [], ◌∷◌, ◌++◌, drop, length}
use Rattle.std.specs.Global.{Box}
use Rattle.js_tree.specs.Plain.{Expr}
use Rattle.js_tree.specs.Forest.{Forest}
use Rattle.store_cells.specs.Cells.{Cells, PlainCell}
use Rattle.store_cells.specs.declared.value.Value.{Value}
use Rattle.widget_meaning.specs.Values as meaning
use Rattle.widget_meaning.specs.OwnState.{State}
use Rattle.widget_meaning.specs.Plan as plan
use Rattle.widget_meaning.specs.Plan.{Plan, Ret, after, and_then}
use Rattle.widget_meaning.specs.Expressions.{arguments_then}
use Rattle.js_image.specs.Image.{Rest, all_seen, image}
use Rattle.js_image.specs.Held.{AreFine}
use Rattle.js_flow.specs.declared.frame.Argument.{Argument}
use Rattle.js_flow.specs.declared.frame.CallFrame.TheVariants as call
use Rattle.js_flow.specs.declared.frame.Frame.TheVariants as frame
use Rattle.js_flow.specs.Views.{completion_of}
use Rattle.js_direct.specs.Reduces.{Reduces}
use Rattle.js_direct.specs.Comes.{FineCame, came, came_free, ended_as}
use Rattle.js_direct.specs.declared.run.Ended.{Ended}
use Rattle.js_direct.specs.declared.run.Ended.TheVariants as ended
use Rattle.js_direct.specs.declared.run.Run.{Run}

module _ (fs : List Forest) (w : ℕ) where
  module _ (es : List Expr) (p : plan.Place) where
    module _ (cells : List PlainCell) (of : meaning.Reference) (vs : List Value) where
      -- behind these arguments another one is carried out: those behind it, and then the call
      abbrev pub argument_then : meaning.Completion → State → Plan
      argument_then = after (λ v t. arguments_then of (all_seen w cells vs ++ v ∷ []) (drop (length vs + 1) es) p t)

      -- what is left to do by how they ended: the call itself, or else one of them is suspended or passes its end
      abbrev pub argued : Ended → Value → Run → State → Plan
      argued ended.Is v r s = arguments_then of (all_seen w cells vs) [] p s
      argued ended.Left v r s = and_then (came fs w cells ended.Left (ended_as ended.Left v) r s) argument_then
      argued how v r s = Ret (completion_of w cells (ended_as how v)) s

    -- a call of any reference goes on by its arguments, of which these are there: so many units were paid
    pub record Argued (old new : Cells) (vs : List Value) (had has : Run) : Type 0 where
      pub units : has.units ≤ had.units
      pub reduces : (of : meaning.Reference) (r : Rest) → Reduces (had.units - has.units) (arguments_then of [] es p (image fs r w old)) (arguments_then of (all_seen w new.cells vs) (drop (length vs) es) p (image fs r w new))
      pub fine : AreFine w new.cells vs
      pub waits : has.waits.items ≡ []

  -- what a run holds by how they ended
  abbrev pub FineArgued : List PlainCell → Ended → Value → Run → Type 0
  FineArgued cells ended.Is v r = r.waits.items ≡ []
  FineArgued cells how v r = FineCame fs w cells how (ended_as how v) r

  -- the same where they ended: all are there, or else one of them is suspended or passes its end
  pub record Argues (es : List Expr) (p : plan.Place) (old new : Cells) (vs : List Value) (had has : Run) (how : Ended) (v : Value) : Type 0 where
    pub units : has.units ≤ had.units
    pub reduces : (of : meaning.Reference) (r : Rest) → Reduces (had.units - has.units) (arguments_then of [] es p (image fs r w old)) (argued es p new.cells of vs how v has (image fs r w new))
    pub all : AreFine w new.cells vs
    pub fine : FineArgued new.cells how v has
    pub near : came_free fs w how has + 31 * has.units ≤ 31 * had.units + 1

-- a call waits for an argument
pub record WaitsFor (had has : Run) (how : Ended) (a : Argument) : Type 0 where
  pub left : how ≡ ended.Left
  pub box : Box Argument
  pub holds : box.value ≡ a
  pub waits : has.waits.items ≡ had.waits.items ++ frame.Call (call.Argument box) ∷ []
  pub next : has.next ≡ had.next
  pub units : has.units ≡ had.units

-- the end of an argument is handed on as it is; where the argument is suspended, the call waits for it
pub record HandsArgument (had has : Run) (how given : Ended) (a : Argument) : Type 0 where
  pub is : given ≡ how
  pub waits : how ≡ ended.Left → WaitsFor had has given a
  pub none : (how ≡ ended.Left → ⊥) → has ≡ had
