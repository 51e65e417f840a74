-- What a turn that waits has still to do stays the same as another widget's call changes store and page, and what it holds stays its own.
use Rattle.std.proofs.Common.{◌≡◌, ◌∙◌, ℕ, suc, List, refl, ap, subst, sym, true, Option, None, Some}
use Rattle.std.specs.Prelude.{IfSome, drop}
use Rattle.std.specs.Option.{option_map}
use Rattle.js_tree.specs.Lists.{stmt_list}
use Rattle.js_tree.specs.Forest.{Forest, expr_at, stmt_at}
use Rattle.store_cells.specs.declared.value.Value.{Value}
use Rattle.store_cells.specs.Cells.{Cells, PlainCell}
use Rattle.object_store.specs.Grows.{Grows}
use Rattle.object_store.specs.Owned.{owned}
use Rattle.widget_meaning.specs.Meaning.{body}
use Rattle.widget_meaning.specs.Natives.{run_native}
use Rattle.widget_meaning.specs.OwnState.{State}
use Rattle.widget_meaning.specs.Plan as plan
use Rattle.widget_meaning.specs.Plan.{Do, Plan, Ret, and_then, charge}
use Rattle.widget_meaning.specs.Values as meaning
use Rattle.page_image.specs.Image.{number, owns}
use Rattle.page_tree.specs.declared.page.Page.{Page}
use Rattle.js_image.specs.Held.{IsFine}
use Rattle.js_image.specs.Image.{Rest, image, seen, state_of}
use Rattle.js_image.proofs.Grown.{fine_stays, seen_stays}
use Rattle.js_flow.specs.declared.frame.Frame.{Frame}
use Rattle.js_flow.specs.declared.job.Job.{Job}
use Rattle.js_flow.specs.declared.job.Job.TheVariants as job
use Rattle.js_flow.specs.declared.job.NativeCall.{NativeCall}
use Rattle.js_flow.specs.declared.task.Control.{Control}
use Rattle.js_flow.specs.declared.task.Control.TheVariants as control
use Rattle.js_flow.specs.Fine.{FineControl, FineFrames, FineJob, FineNative}
use Rattle.js_flow.specs.Frames.{native_plan}
use Rattle.js_flow.specs.Parts.{forest_at, loop_body, loop_of, variable_of}
use Rattle.js_flow.specs.Todo.{todo}
use Rattle.js_flow.specs.Views.{job_of, name_at}
use Rattle.js_flow.proofs.Stays.{all_fine, all_same, completion_fine, completion_same, frames_fine, place_fine, place_same, rest_same}
use Rattle.plan_ends.specs.Ends.{ByValue, Yields}
use Rattle.turn_dispatch.specs.Ending.{EndsCall}
use Rattle.turn_dispatch.proofs.Ending.{awaits_later}
use Rattle.turn_dispatch.specs.declared.level.Doing.{Doing}
use Rattle.turn_dispatch.specs.declared.level.Doing.TheVariants as doing
use Rattle.turn_dispatch.specs.declared.level.Level.{Level}
use Rattle.turn_dispatch.specs.Held.{FineDoing}
use Rattle.turn_dispatch.specs.Levels.{turn_plan}
use Rattle.turn_dispatch.specs.Waiting.{FineLevels}
use Rattle.turn_dispatch.proofs.Stays.{hearing_fine, hearing_same, levels_same}

module _ (w : ℕ) (old new : List PlainCell) (g : Grows w old new) where
  this_same : (o : Option Value) → IfSome o (IsFine w old) → option_map (seen w new) o ≡ option_map (seen w old) o
  this_same None h = refl
  this_same (Some v) h = ap Some (seen_stays w old new g v h)

  this_fine : (o : Option Value) → IfSome o (IsFine w old) → IfSome o (IsFine w new)
  this_fine None h = tt
  this_fine (Some v) h = fine_stays w old new g v h

  native_same : (c : NativeCall) → FineNative w old c → (s : State) → native_plan w new c s ≡ native_plan w old c s
  native_same c h s = λ i. run_native c.which (this_same c.this h.0 i) (all_same w old new g c.args.items h.1 i) c.depth s

  native_fine : (c : NativeCall) → FineNative w old c → FineNative w new c
  native_fine c h = (this_fine c.this h.0, all_fine w old new g c.args.items h.1)

module _ (fs : List Forest) (w : ℕ) (old new : List PlainCell) (g : Grows w old new) where
  job_same : (j : Job) → FineJob fs w old j → job_of fs w new j ≡ job_of fs w old j
  job_same (job.Eval e p) h = ap (plan.Eval (expr_at (forest_at fs p.code) e)) (place_same fs w old new g p h.0)
  job_same (job.Target e p) h = ap (plan.Target (expr_at (forest_at fs p.code) e)) (place_same fs w old new g p h.0)
  job_same (job.Exec i p) h = ap (plan.Exec (stmt_at (forest_at fs p.code) i)) (place_same fs w old new g p h.0)
  job_same (job.Pass i p) h = ap (plan.Pass (loop_of (stmt_at (forest_at fs p.code) i))) (place_same fs w old new g p h.0)
  job_same (job.PassIn l p) h = λ i. plan.Pass
      (plan.ForInLoop (seen_stays w old new g l.value.object h.0.0 i) (variable_of (stmt_at (forest_at fs p.code) l.value.id)) (name_at l.value.names.items l.value.at)
      (drop (suc l.value.at) l.value.names.items) (stmt_list (loop_body (stmt_at (forest_at fs p.code) l.value.id))))
      (place_same fs w old new g p h.0.1.0 i)
  job_same (job.Call c) h = λ i. plan.Call (seen_stays w old new g c.value.func h.0 i) (this_same w old new g c.value.this h.1 i) (all_same w old new g c.value.args.items h.2 i) c.value.depth
  job_same (job.RunNative c) h = λ i. plan.RunNative c.value.which (this_same w old new g c.value.this h.0 i) (all_same w old new g c.value.args.items h.1 i) c.value.depth

  job_fine : (j : Job) → FineJob fs w old j → FineJob fs w new j
  job_fine (job.Eval e p) h = (place_fine fs w old new g p h.0, h.1)
  job_fine (job.Target e p) h = (place_fine fs w old new g p h.0, h.1)
  job_fine (job.Exec i p) h = (place_fine fs w old new g p h.0, h.1)
  job_fine (job.Pass i p) h = (place_fine fs w old new g p h.0, h.1)
  job_fine (job.PassIn l p) h = ((fine_stays w old new g l.value.object h.0.0, (place_fine fs w old new g p h.0.1.0, h.0.1.1)), h.1)
  job_fine (job.Call c) h = (fine_stays w old new g c.value.func h.0, this_fine w old new g c.value.this h.1, all_fine w old new g c.value.args.items h.2)
  job_fine (job.RunNative c) h = native_fine w old new g c.value h

  todo_same : (c : Control) (frames : List Frame) → FineControl fs w old c → FineFrames fs w old frames → (s : State) → todo fs w new c frames s ≡ todo fs w old c frames s
  todo_same (control.Do j) frames h k s = λ i. Do (job_same j h i) s (rest_same fs w old new g frames k i)
  todo_same (control.Begin j) frames h k s = λ i. and_then (body (job_same j h i) s) (rest_same fs w old new g frames k i)
  todo_same (control.Give o) frames h k s = λ i. rest_same fs w old new g frames k i (completion_same w old new g o h i) s
  todo_same (control.Pay n) frames h k s = λ i. charge n s (rest_same fs w old new g frames k i meaning.Normal s)
  todo_same (control.Waits d) frames h k s = refl
  todo_same control.Over frames h k s = refl

  control_fine : (c : Control) → FineControl fs w old c → FineControl fs w new c
  control_fine (control.Do j) h = job_fine j h
  control_fine (control.Begin j) h = job_fine j h
  control_fine (control.Give o) h = completion_fine w old new g o h
  control_fine (control.Pay n) h = tt
  control_fine (control.Waits d) h = tt
  control_fine control.Over h = tt

module _ (fs : List Forest) (w : ℕ) (old new : Cells) (g : Grows w old.cells new.cells) (same : owned w new ≡ owned w old) where
  -- the call of a task still ends by a value or a throw
  goes_still : (c : Control) (frames : List Frame) → FineControl fs w old.cells c → FineFrames fs w old.cells frames → ((r : Rest) → Yields ByValue (todo fs w old.cells c frames (image fs r w old))) → (r : Rest) → Yields ByValue (todo fs w new.cells c frames (image fs r w new))
  goes_still c frames h k a r =
      subst (λ (x : Plan). Yields ByValue x) (sym (todo_same fs w old.cells new.cells g c frames h k (image fs r w new) ∙ ap (λ o. todo fs w old.cells c frames (state_of fs r o)) same)) (a r)

  call_stays : (c : Control) (frames : List Frame) → FineControl fs w old.cells c → FineFrames fs w old.cells frames → EndsCall fs w old c frames → EndsCall fs w new c frames
  call_stays (control.Do j) frames h k a = (goes_still (control.Do j) frames h k a.0, a.1)
  call_stays (control.Begin j) frames h k a = (goes_still (control.Begin j) frames h k a.0, a.1)
  call_stays (control.Give o) frames h k a = (goes_still (control.Give o) frames h k a.0, a.1)
  call_stays (control.Pay n) frames h k a = (goes_still (control.Pay n) frames h k a.0, a.1)
  call_stays (control.Waits d) frames h k a = awaits_later fs w old.cells new.cells g ByValue frames k a
  call_stays control.Over frames h k a = tt

  module _ (p q : Page) (numbers : (n : ℕ) → owns p w n ≡ true → number q w n ≡ number p w n) where
    -- what a turn has still to do
    pub turn_same : (d : Doing) (levels : List Level) → FineDoing fs w old p d → FineLevels fs w old.cells p levels → (s : State) → turn_plan fs w new.cells q d levels s ≡ turn_plan fs w old.cells p d levels s
    turn_same (doing.Runs t) levels h k s = λ i. and_then (todo_same fs w old.cells new.cells g t.value.control t.value.frames.list.items h.control h.frames s i) (levels_same w old.cells new.cells g p q numbers fs levels k i)
    turn_same (doing.Native t n) levels h k s = λ i. and_then (and_then (native_same w old.cells new.cells g n.value h.2 s i) (rest_same fs w old.cells new.cells g t.value.frames.list.items h.1 i)) (levels_same w old.cells new.cells g p q numbers fs levels k i)
    turn_same (doing.Hears e) levels h k s = λ i. Do (plan.Hear (hearing_same w old.cells new.cells g p q numbers e.value h i)) s (levels_same w old.cells new.cells g p q numbers fs levels k i)
    turn_same (doing.Over o) levels h k s = λ i. Ret (completion_same w old.cells new.cells g o h i) s
    turn_same (doing.Stop c) levels h k s = refl

    -- and what it holds
    pub doing_fine : ((n : ℕ) → owns p w n ≡ true → owns q w n ≡ true) → (d : Doing) → FineDoing fs w old p d → FineDoing fs w new q d
    doing_fine owners (doing.Runs t) h = record {
      widget = h.widget;
      going = h.going;
      control = control_fine fs w old.cells new.cells g t.value.control h.control;
      frames = frames_fine fs w old.cells new.cells g t.value.frames.list.items h.frames;
      call = call_stays t.value.control t.value.frames.list.items h.control h.frames h.call;
    }
    doing_fine owners (doing.Native t n) h = (h.0, frames_fine fs w old.cells new.cells g t.value.frames.list.items h.1, native_fine w old.cells new.cells g n.value h.2, awaits_later fs w old.cells new.cells g ByValue t.value.frames.list.items h.1 h.3)
    doing_fine owners (doing.Hears e) h = hearing_fine w old.cells new.cells g p q numbers owners e.value h
    doing_fine owners (doing.Over o) h = completion_fine w old.cells new.cells g o h
    doing_fine owners (doing.Stop c) h = tt
