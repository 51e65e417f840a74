-- What frames have still to do, and what is next.
use Rattle.std.specs.Prelude.{◌≡◌, ℕ, List, [], ◌∷◌}
use Rattle.std.specs.Option.{option_map}
use Rattle.js_tree.specs.Forest.{Forest}
use Rattle.store_cells.specs.Cells.{Cells, PlainCell}
use Rattle.widget_meaning.specs.Values as meaning
use Rattle.widget_meaning.specs.Values.{Completion}
use Rattle.widget_meaning.specs.OwnState.{State}
use Rattle.widget_meaning.specs.Plan.{Plan, Ret, Halt, Do, and_then, charge}
use Rattle.widget_meaning.specs.Natives.{run_native}
use Rattle.widget_meaning.specs.Meaning.{body}
use Rattle.js_image.specs.Image.{Rest, all_seen, image, seen}
use Rattle.js_image.specs.Plans.{meant_cause}
use Rattle.js_flow.specs.declared.job.NativeCall.{NativeCall}
use Rattle.js_flow.specs.declared.job.Next.{Next}
use Rattle.js_flow.specs.declared.job.Next.TheVariants as next
use Rattle.js_flow.specs.declared.frame.Frame.{Frame}
use Rattle.js_flow.specs.declared.frame.Frame.TheVariants as frame
use Rattle.js_flow.specs.Left.{Left, all_frames}
use Rattle.js_flow.specs.Views.{completion_of, job_of}
use Rattle.js_flow.specs.Forms.{form_taken}
use Rattle.js_flow.specs.Statements.{block_at, statement_taken}
use Rattle.js_flow.specs.Calls.{call_taken}

module _ (w : ℕ) (cells : List PlainCell) where
  -- a native, which has its unit
  abbrev pub native_plan : NativeCall → State → Plan
  native_plan c s = run_native c.which (option_map (seen w cells) c.this) (all_seen w cells c.args.items) c.depth s

module _ (fs : List Forest) (w : ℕ) (cells : List PlainCell) where
  -- what a frame does with how its part ended
  abbrev pub taken : Frame → Completion → State → Plan
  taken (frame.Form f) = form_taken fs w cells f
  taken (frame.Statement f) = statement_taken fs w cells f
  taken (frame.Call f) = call_taken fs w cells f

  -- what is next
  abbrev pub next_plan : Next → State → Plan
  next_plan next.Nothing s = Ret meaning.Normal s
  next_plan (next.Go j) s = Do (job_of fs w cells j) s Ret
  next_plan (next.Begin j) s = body (job_of fs w cells j) s
  next_plan (next.Run b p) s = block_at fs w cells b 0 p s
  next_plan (next.Give o) s = Ret (completion_of w cells o) s
  next_plan (next.Pay n) s = charge n s (Ret meaning.Normal s)
  next_plan (next.Native c) s = native_plan w cells c.value s
  next_plan (next.Stop c) s = Halt (meant_cause c) s
  next_plan (next.Done o) s = Ret (completion_of w cells o) s

  -- a plan, and then frames, of which the last is given to first
  abbrev pub before : List Frame → Plan → Plan
  before [] p = p
  before (f ∷ frames) p = and_then (before frames p) (taken f)

  -- what a form leaves
  abbrev pub planned : Left → State → Plan
  planned l s = before l.above (next_plan l.next s)

  -- what frames have still to do, from the last down, over what comes below
  abbrev pub over : List Frame → (Completion → State → Plan) → Completion → State → Plan
  over [] k = k
  over (f ∷ frames) k = over frames (λ o s. and_then (taken f o s) k)

  -- what frames have still to do
  abbrev pub rest : List Frame → Completion → State → Plan
  rest frames = over frames Ret

-- what is next, and then all frames
abbrev pub flow_plan : List Forest → ℕ → List PlainCell → Left → State → Plan
flow_plan fs w cells l s = and_then (next_plan fs w cells l.next s) (rest fs w cells (all_frames l))

-- What a form leaves, in a new store, is what was to be done in the old one, whatever else the widget has.
abbrev pub Plans : List Forest → ℕ → Cells → Cells → (State → Plan) → Left → Type 0
Plans fs w old new todo l = (r : Rest) → planned fs w new.cells l (image fs r w new) ≡ todo (image fs r w old)
