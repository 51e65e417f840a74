-- What a form came to: it ended, or it is suspended, and what waits for it is known.
use Rattle.std.specs.Prelude.{◌≡◌, ℕ, ◌+◌, ◌*◌, ◌-◌, ◌<◌, ◌≤◌, List, [], ◌∷◌}
use Rattle.js_tree.specs.Forest.{Forest}
use Rattle.store_cells.specs.Cells.{Cells, PlainCell}
use Rattle.store_cells.specs.declared.value.Value.{Value}
use Rattle.widget_meaning.specs.Values as meaning
use Rattle.widget_meaning.specs.OwnState.{State}
use Rattle.widget_meaning.specs.Plan.{Plan, Ret, and_then}
use Rattle.js_image.specs.Image.{Rest, image}
use Rattle.js_image.specs.Held.{IsConfined}
use Rattle.js_flow.specs.declared.frame.Frame.{Frame}
use Rattle.js_flow.specs.declared.job.Completion.{Completion}
use Rattle.js_flow.specs.declared.job.Completion.TheVariants as completion
use Rattle.js_flow.specs.declared.job.Next.{Next}
use Rattle.js_flow.specs.declared.job.Next.TheVariants as next
use Rattle.js_flow.specs.declared.job.Reference.{Reference}
use Rattle.js_flow.specs.Frames.{next_plan, taken}
use Rattle.js_flow.specs.Fine.{FineCompletion, FineFrames, FineNext}
use Rattle.js_flow.specs.Free.{frames_free, next_free}
use Rattle.js_flow.specs.Views.{completion_of}
use Rattle.js_direct.specs.Reduces.{Reduces}
use Rattle.js_direct.specs.declared.run.Ended.{Ended}
use Rattle.js_direct.specs.declared.run.Ended.TheVariants as ended
use Rattle.js_direct.specs.declared.run.Run.{Run}

-- how a form ended, with the value at the place that its caller gave
abbrev pub ended_as : Ended → Value → Completion
ended_as ended.Normal v = completion.Normal
ended_as ended.Is v = completion.Is v
ended_as ended.Return v = completion.Return v
ended_as ended.Break v = completion.Break
ended_as ended.Continue v = completion.Continue
ended_as ended.Threw v = completion.Throw v
ended_as ended.Left v = completion.Normal

-- how a target ended: by the reference at its place, or as a form does
abbrev pub target_as : Ended → Reference → Value → Completion
target_as ended.Is r v = completion.Refers r
target_as how r v = ended_as how v

-- it ended
abbrev pub IsEnd : Ended → Type 0
IsEnd ended.Left = ⊥
IsEnd _ = Unit {0}

-- a native is next
abbrev pub IsNative : Next → Type 0
IsNative (next.Native c) = Unit {0}
IsNative _ = ⊥

-- a form is suspended before a job, a stop or what costs nothing; a native has a job of its own
abbrev pub FineWith : List Forest → ℕ → List PlainCell → Next → Type 0
FineWith fs w cells (next.Native c) = ⊥
FineWith fs w cells n = FineNext fs w cells n

module _ (fs : List Forest) (w : ℕ) where
  module _ (cells : List PlainCell) where
    -- frames that wait, the innermost first
    abbrev pub outward : List Frame → meaning.Completion → State → Plan
    outward [] o s = Ret o s
    outward (f ∷ frames) o s = and_then (taken fs w cells f o s) (outward frames)

    -- what is left to do
    abbrev pub came : Ended → Completion → Run → State → Plan
    came ended.Left e r s = and_then (next_plan fs w cells r.next s) (outward r.waits.items)
    came how e r s = Ret (completion_of w cells e) s

    -- it holds what the widget may hold
    abbrev pub FineCame : Ended → Completion → Run → Type 0
    FineCame ended.Left e r = FineWith fs w cells r.next × FineFrames fs w cells r.waits.items
    FineCame how e r = FineCompletion w cells e × (r.waits.items ≡ [])

  -- its weight
  abbrev pub came_free : Ended → Run → ℕ
  came_free ended.Left r = next_free r.next + frames_free r.waits.items
  came_free how r = 1

  -- a plan in the old store comes to this in the new one: each unit that was paid, and n, weigh more than what is left
  pub record ComesTo (old new : Cells) (n : ℕ) (p : State → Plan) (had has : Run) (how : Ended) (e : Completion) : Type 0 where
    pub units : has.units ≤ had.units
    pub reduces : (r : Rest) → Reduces (had.units - has.units) (p (image fs r w old)) (came new.cells how e has (image fs r w new))
    pub fine : FineCame new.cells how e has
    pub near : came_free how has + 31 * has.units ≤ 31 * had.units + n

  -- the same of an expression or a statement, and of a target
  abbrev pub Comes : Cells → Cells → ℕ → (State → Plan) → Run → Run → Ended → Value → Type 0
  Comes old new n p had has how v = ComesTo old new n p had has how (ended_as how v)

  abbrev pub Reaches : Cells → Cells → ℕ → (State → Plan) → Run → Run → Ended → Reference → Value → Type 0
  Reaches old new n p had has how of v = ComesTo old new n p had has how (target_as how of v)

  -- where forms run: nothing waits yet
  abbrev pub IsReady : Cells → Run → Type 0
  IsReady s r = (w < 32) × IsConfined fs w s × (r.waits.items ≡ [])
