-- The call of a task ends by a value or a throw, step by step.
use Rattle.std.proofs.Common.{◌≡◌, ℕ, zero, suc, ◌+◌, ◌<◌, ◌≤◌, List, [], map, sym, subst, arith}
use Rattle.js_tree.specs.Forest.{Forest}
use Rattle.store_cells.specs.declared.value.Value.TheVariants as value
use Rattle.store_cells.specs.Cells.{Cells, PlainCell}
use Rattle.object_store.specs.Grows.{Grows}
use Rattle.widget_meaning.specs.Values as meaning
use Rattle.widget_meaning.specs.OwnState.{State}
use Rattle.widget_meaning.specs.Plan as plan
use Rattle.widget_meaning.specs.Plan.{Plan, Ret, Do, and_then, ticks, charge}
use Rattle.plan_ends.specs.Ends.{ByValue, ByReference, Ends, Way, Yields, way_of}
use Rattle.plan_ends.proofs.Steps.{chain, faulted, gave, halted, job as with_job, joined, passed, value as with_value}
use Rattle.plan_ends.proofs.KeptRows.{body_ends, to_primitive_ends, make_array_ends, text_of_primitive_ends, call_each_ends, each_called_ends, fired_ends}
use Rattle.js_image.specs.Image.{Rest, image, no_rest, seen}
use Rattle.js_image.specs.Plans.{meant_cause, meant_fault}
use Rattle.js_values.specs.Answers.{gathered}
use Rattle.js_values.specs.declared.outcome.Keep.{Keep}
use Rattle.js_values.specs.declared.outcome.Keep.TheVariants as keep
use Rattle.js_values.specs.declared.outcome.NativeOut.{NativeOut}
use Rattle.js_values.specs.declared.outcome.NativeOut.TheVariants as native
use Rattle.js_values.specs.declared.outcome.Plan.TheVariants as calls
use Rattle.js_calls.specs.Called.{given}
use Rattle.js_flow.specs.declared.frame.Frame.{Frame}
use Rattle.std.specs.Global.{Box}
use Rattle.js_flow.specs.declared.job.Call.{Call}
use Rattle.js_flow.specs.declared.job.Completion.{Completion}
use Rattle.js_flow.specs.declared.job.Completion.TheVariants as completion
use Rattle.js_flow.specs.declared.job.Job.{Job}
use Rattle.js_flow.specs.declared.job.Job.TheVariants as job
use Rattle.js_flow.specs.declared.task.Control.{Control}
use Rattle.js_flow.specs.declared.task.Control.TheVariants as control
use Rattle.js_flow.specs.declared.task.Stepped.{Stepped}
use Rattle.js_flow.specs.declared.task.Stepped.TheVariants as stepped
use Rattle.js_flow.specs.Fine.{FineCompletion, FineFrames}
use Rattle.js_flow.specs.Frames.{rest}
use Rattle.js_flow.specs.Free.{control_free, job_weight, native_free}
use Rattle.js_flow.specs.Todo.{Follows, IsGoing, IsNotFuel, IsWaiting, after_step, todo}
use Rattle.js_flow.specs.Views.{completion_of, job_of}
use Rattle.js_flow.proofs.Stays.{rest_same}
use Rattle.js_steps.specs.Charges.{after_charge}
use Rattle.js_steps.specs.Ending.{Awaits, EndsCall, EndsSo, FineEnd, IfNative, IsCallEnd}

-- ## Plans

-- a plan behind a charge
unticked : (n : ℕ) (s : State) (p : Plan) → Yields ByValue (ticks n s p) → Yields ByValue p
unfolding Yields
unticked zero s p h = h
unticked (suc n) s p h = unticked n s p h

pub uncharged : (n : ℕ) (s : State) (p : Plan) → Yields ByValue (charge n s p) → Yields ByValue p
unfolding Yields
uncharged n s p h = unticked n s p h

-- what comes after a job
pub after_job : (j : plan.Job) (s : State) (k : meaning.Completion → State → Plan) → Yields ByValue (Do j s k) → (o : meaning.Completion) (t : State) → Ends (way_of j) o → Yields ByValue (k o t)
unfolding Yields
after_job j s k h = h

at_end : (o : meaning.Completion) (s : State) → Yields ByValue (Ret o s) → Ends ByValue o
unfolding Yields
at_end o s h = h

-- a value or a throw is of each way but those of statements too
of_reference : (o : meaning.Completion) → Ends ByValue o → Ends ByReference o
of_reference (meaning.Is v) h = tt
of_reference (meaning.Throw v) h = tt
of_reference meaning.Normal h = h
of_reference (meaning.Refers r) h = absurd h
of_reference (meaning.Return v) h = h
of_reference meaning.Break h = h
of_reference meaning.Continue h = h

-- what a native gave
gathered_ends : (k : Keep) (vs ws : List meaning.Value) (t : State) → Yields ByValue (gathered k vs ws t)
gathered_ends keep.Nothing vs ws t = gave ByValue _ t
gathered_ends keep.Results vs ws t = make_array_ends ByValue _ _ t _ (λ v u. gave ByValue v u)
gathered_ends keep.Passing vs ws t = make_array_ends ByValue _ _ t _ (λ v u. gave ByValue v u)

pub given_ends : (w : ℕ) (cells : List PlainCell) (node : ℕ → ℕ) (d : ℕ) (out : NativeOut) (s : State) → Yields ByValue (given w cells node d out s)
given_ends w cells node d (native.Value v) s = gave ByValue _ s
given_ends w cells node d (native.Throw f) s = faulted ByValue (meant_fault f) s
given_ends w cells node d (native.Call (calls.ToText i)) s = chain ByValue _ _ (to_primitive_ends (seen w cells (value.Ref i)) d s) (λ o t h. with_value ByValue o t _ h (λ v. text_of_primitive_ends v t))
given_ends w cells node d (native.Call (calls.Each func items last)) s = each_called_ends (seen w cells (value.Ref func)) (map (seen w cells) items.items) (seen w cells last) d s
given_ends w cells node d (native.Call (calls.Fire kind nodes last)) s = fired_ends kind (map node nodes.items) (seen w cells last) d s
given_ends w cells node d (native.Call (calls.Gather func items how)) s =
    call_each_ends ByValue (seen w cells (value.Ref func)) (map (seen w cells) items.items) 0 [] d s _ (λ ws t. gathered_ends how (map (seen w cells) items.items) ws t)
given_ends w cells node d (native.Stop c) s = halted ByValue (meant_cause c) s
given_ends w cells node d native.OutOfFuel s = gave ByValue _ s

-- ## Answers

pub if_native : (k : Stepped) (P Q : Type 0) → (P → Q) → IfNative k P → IfNative k Q
if_native (stepped.Native n) P Q f h = f h
if_native stepped.Went P Q f h = tt
if_native (stepped.Done o) P Q f h = tt
if_native (stepped.Stop c) P Q f h = tt
if_native stepped.OutOfFuel P Q f h = tt

call_end : (w : ℕ) (cells : List PlainCell) (o : Completion) → Ends ByValue (completion_of w cells o) → IsCallEnd o
call_end w cells (completion.Is v) h = tt
call_end w cells (completion.Throw v) h = tt
call_end w cells completion.Normal h = h
call_end w cells (completion.Refers r) h = h
call_end w cells (completion.Return v) h = h
call_end w cells completion.Break h = h
call_end w cells completion.Continue h = h

module _ (fs : List Forest) (w : ℕ) where
  -- frames wait as the store grows
  pub awaits_later : (old new : List PlainCell) → Grows w old new → (way : Way) (frames : List Frame) → FineFrames fs w old frames → Awaits fs w old way frames → Awaits fs w new way frames
  awaits_later old new g way frames fine h = λ o t e. subst (λ (k : meaning.Completion → State → Plan). Yields ByValue (k o t)) (sym (rest_same fs w old new g frames fine)) (h o t e)

  -- a job that may be a native is awaited by what takes a value or a throw
  pub heavy : (cells : List PlainCell) (j : Job) (frames : List Frame) → native_free ≤ job_weight j → ((o : meaning.Completion) (t : State) → Ends (way_of (job_of fs w cells j)) o → Yields ByValue (rest fs w cells frames o t)) → Awaits fs w cells ByValue frames
  heavy cells (job.Target e p) frames n h = λ o t k. h o t (of_reference o k)
  heavy cells (job.RunNative c) frames n h = h
  heavy cells (job.Eval e p) frames n h = absurd (omega (arith, n))
  heavy cells (job.Exec i p) frames n h = absurd (omega (arith, n))
  heavy cells (job.Pass i p) frames n h = absurd (omega (arith, n))
  heavy cells (job.PassIn l p) frames n h = absurd (omega (arith, n))
  heavy cells (job.Call c) frames n h = absurd (omega (arith, n))

  pub less_one : (m n : ℕ) → m < n + 1 → m ≤ n
  less_one m n h = omega (arith, h)

  -- a native that is asked for is awaited so
  pub asked : (s : Cells) (c : Control) (frames : List Frame) → EndsCall fs w s c frames → native_free < control_free (after_charge c) → Awaits fs w s.cells ByValue frames
  asked s (control.Do j) frames h n = heavy s.cells j frames (less_one native_free (job_weight j) n) (after_job _ _ _ (h.0 no_rest))
  asked s (control.Begin j) frames h n = absurd (omega (arith, n, h.1))
  asked s (control.Give o) frames h n = absurd (omega (arith, n))
  asked s (control.Pay m) frames h n = absurd (omega (arith, n))
  asked s (control.Waits d) frames h n = absurd (omega (arith, n))
  asked s control.Over frames h n = absurd (omega (arith, n))

  -- once the charge was taken
  pub after_paid : (s : Cells) (c : Control) (frames : List Frame) → IsGoing c → EndsCall fs w s c frames → (r : Rest) → Yields ByValue (todo fs w s.cells (after_charge c) frames (image fs r w s))
  after_paid s (control.Do j) frames g h r = joined (way_of (job_of fs w s.cells j)) ByValue _ (rest fs w s.cells frames) (body_ends (job_of fs w s.cells j) (image fs r w s)) (after_job _ _ _ (h.0 r))
  after_paid s (control.Begin j) frames g h r = h.0 r
  after_paid s (control.Give o) frames g h r = h.0 r
  after_paid s (control.Pay n) frames g h r = uncharged n (image fs r w s) _ (h.0 r)
  after_paid s (control.Waits d) frames g h r = absurd g
  after_paid s control.Over frames g h r = absurd g

  goes_on : (s : Cells) (c : Control) (frames : List Frame) → IsGoing c → control_free c ≤ native_free → ((r : Rest) → Yields ByValue (todo fs w s.cells c frames (image fs r w s))) → EndsCall fs w s c frames
  goes_on s (control.Do j) frames g l h = (h, l)
  goes_on s (control.Begin j) frames g l h = (h, l)
  goes_on s (control.Give o) frames g l h = (h, l)
  goes_on s (control.Pay n) frames g l h = (h, l)
  goes_on s (control.Waits d) frames g l h = absurd g
  goes_on s control.Over frames g l h = absurd g

  -- what an answer leaves to do, other than want of fuel
  pub after_answer : (s : Cells) (k : Stepped) (c : Control) (frames : List Frame) → Follows k c → IsNotFuel k → control_free c ≤ native_free → IfNative k (Awaits fs w s.cells ByValue frames)
      → ((r : Rest) → Yields ByValue (after_step fs w s.cells k c frames (image fs r w s))) → EndsCall fs w s c frames × EndsSo k
  after_answer s stepped.Went c frames f n l a h = (goes_on s c frames f l h, tt)
  after_answer s (stepped.Native x) c frames f n l a h = (subst (λ (q : Control). EndsCall fs w s q frames) (sym f) a, tt)
  after_answer s (stepped.Done o) c frames f n l a h = (subst (λ (q : Control). EndsCall fs w s q frames) (sym f) tt, call_end w s.cells o (at_end _ _ (h no_rest)))
  after_answer s (stepped.Stop x) c frames f n l a h = (subst (λ (q : Control). EndsCall fs w s q frames) (sym f) tt, tt)
  after_answer s stepped.OutOfFuel c frames f n l a h = absurd n

  -- a step
  pub stepped_ends : (old new : Cells) (c d : Control) (k : Stepped) (frames left : List Frame) → Grows w old.cells new.cells → FineFrames fs w old.cells frames → IsGoing c → EndsCall fs w old c frames
      → ((r : Rest) → after_step fs w new.cells k d left (image fs r w new) ≡ todo fs w old.cells (after_charge c) frames (image fs r w old)) → Follows k d → IsNotFuel k → control_free d ≤ native_free
      → IfNative k ((native_free < control_free (after_charge c)) × (left ≡ frames)) → EndsCall fs w new d left × EndsSo k
  stepped_ends old new c d k frames left grows fine g h plan follows n l a =
      after_answer new k d left follows n l
      (if_native k _ _ (λ x. subst (λ (fr : List Frame). Awaits fs w new.cells ByValue fr) (sym x.1) (awaits_later old.cells new.cells grows ByValue frames fine (asked old c frames h x.0))) a)
      (λ r. subst (λ (p : Plan). Yields ByValue p) (sym (plan r)) (after_paid old c frames g h r))

  -- a native that is waited for gave something
  pub given_ends_so : (old new : Cells) (d : Control) (k : Stepped) (frames left : List Frame) (node : ℕ → ℕ) (depth : ℕ) (out : NativeOut) → Awaits fs w old.cells ByValue frames
      → ((r : Rest) → after_step fs w new.cells k d left (image fs r w new) ≡ and_then (given w old.cells node depth out (image fs r w old)) (rest fs w old.cells frames)) → Follows k d → IsNotFuel k → control_free d ≤ native_free
      → IfNative k ⊥ → EndsCall fs w new d left × EndsSo k
  given_ends_so old new d k frames left node depth out h plan follows n l a =
      after_answer new k d left follows n l (if_native k _ _ (λ x. absurd x) a)
      (λ r. subst (λ (p : Plan). Yields ByValue p) (sym (plan r)) (chain ByValue _ _ (given_ends w old.cells node depth out (image fs r w old)) h))

  -- a native that is waited for threw
  pub waited : (s : Cells) (c : Control) (frames : List Frame) → IsWaiting c → EndsCall fs w s c frames → Awaits fs w s.cells ByValue frames
  waited s (control.Waits d) frames h e = e
  waited s (control.Do j) frames h e = absurd h
  waited s (control.Begin j) frames h e = absurd h
  waited s (control.Give o) frames h e = absurd h
  waited s (control.Pay n) frames h e = absurd h
  waited s control.Over frames h e = absurd h

  -- a call that begins
  pub call_ends : (s : Cells) (c : Box Call) → EndsCall fs w s (control.Do (job.Call c)) []
  call_ends s c = (λ r. with_job ByValue (job_of fs w s.cells (job.Call c)) (image fs r w s) Ret (λ o t h. passed ByValue o t h), omega arith)

  -- how a call ended is given to what waits for it
  pub goes_with : (s : Cells) (o : Completion) (frames : List Frame) → FineEnd w s.cells o → Awaits fs w s.cells ByValue frames → EndsCall fs w s (control.Give o) frames
  goes_with s (completion.Is v) frames h a = (λ r. a _ _ tt, omega arith)
  goes_with s (completion.Throw v) frames h a = (λ r. a _ _ tt, omega arith)
  goes_with s completion.Normal frames h a = absurd h
  goes_with s (completion.Refers x) frames h a = absurd h
  goes_with s (completion.Return v) frames h a = absurd h
  goes_with s completion.Break frames h a = absurd h
  goes_with s completion.Continue frames h a = absurd h

pub end_fine : (w : ℕ) (cells : List PlainCell) (o : Completion) → FineEnd w cells o → FineCompletion w cells o
end_fine w cells (completion.Is v) h = h
end_fine w cells (completion.Throw v) h = h
end_fine w cells completion.Normal h = absurd h
end_fine w cells (completion.Refers x) h = absurd h
end_fine w cells (completion.Return v) h = absurd h
end_fine w cells completion.Break h = absurd h
end_fine w cells completion.Continue h = absurd h
