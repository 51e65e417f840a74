-- The charge of what is next, one kind after the other, and what a task answers where no more steps are taken.
use Rattle.std.proofs.Common.{◌≡◌, ℕ, ◌+◌, ◌-◌, ◌*◌, ◌<◌, ◌≤◌, List, [], ◌++◌, refl, sym, ap, ◌∙◌, subst, arith, append-nil}
use Rattle.js_tree.specs.Forest.{Forest}
use Rattle.store_cells.specs.Cells.{Cells, PlainCell}
use Rattle.object_store.specs.Grows.{Grows}
use Rattle.widget_meaning.specs.OwnState.{State}
use Rattle.widget_meaning.specs.Values.{Normal}
use Rattle.widget_meaning.specs.Plan.{Plan, Ret, and_then}
use Rattle.widget_meaning.proofs.PlansHold.{plan_laws}
use Rattle.plan_ends.specs.Ends.{ByValue, Yields, way_of}
use Rattle.plan_ends.proofs.KeptRows.{body_ends}
use Rattle.plan_ends.proofs.Steps.{joined}
use Rattle.js_image.specs.Image.{Rest, image, no_rest}
use Rattle.js_values.specs.Fuel.{Fuel}
use Rattle.js_flow.specs.declared.frame.Frame.{Frame}
use Rattle.js_flow.specs.declared.job.Job.{Job}
use Rattle.js_flow.specs.declared.job.Next.{Next}
use Rattle.js_flow.specs.declared.job.Next.TheVariants as next
use Rattle.js_flow.specs.declared.task.Control.{Control}
use Rattle.js_flow.specs.declared.task.Control.TheVariants as control
use Rattle.js_flow.specs.declared.task.Stepped.{Stepped as Moved}
use Rattle.js_flow.specs.declared.task.Stepped.TheVariants as moved
use Rattle.js_flow.specs.Fine.{FineFlow, FineLast}
use Rattle.js_flow.specs.Frames.{flow_plan, next_plan, rest}
use Rattle.js_flow.specs.Free.{control_free, flow_free, frames_free, job_weight, left_free, native_free, next_free}
use Rattle.js_flow.specs.Left.{IsSettled, Leaves, Left, all_frames}
use Rattle.js_flow.specs.Todo.{IsGoing, IsNotFuel, IsOver, Moves, todo}
use Rattle.js_flow.specs.Views.{job_of}
use Rattle.js_flow.proofs.Moves.{charge_moves, job_moves, stays}
use Rattle.js_direct.specs.Comes.{IsNative as InPlace}
use Rattle.js_direct.specs.Reduces.{Reduces}
use Rattle.js_direct.proofs.Reducing.{yields}
use Rattle.js_steps.specs.Answered.{IsFuelStop, IsWent, machine}
use Rattle.js_steps.specs.Ending.{Awaits, EndsCall, IsNative}
use Rattle.js_steps.specs.Tolls.{Answers, EndsFlow, Halts, IsHalted, IsRunning, IsTolled, at_rest, next_charge, paid, paid_next}
use Rattle.js_steps.specs.declared.answer.Stepped.{Stepped}
use Rattle.js_steps.specs.declared.answer.Stepped.TheVariants as stepped
use Rattle.js_steps.specs.declared.answer.Stop.TheVariants as stop
use Rattle.js_steps.specs.declared.strides.Toll.{Toll}
use Rattle.js_steps.specs.declared.strides.Toll.TheVariants as toll
use Rattle.js_steps.proofs.Ending.{after_job, awaits_later, heavy, less_one, uncharged}
use Rattle.js_steps.proofs.Settled.{free_all}
use Rattle.js_steps.proofs.Weights.{no_begun, weight_most}

-- ## Weights

pub next_lighter : (n : Next) → next_free (paid_next n) ≤ 32 * next_charge n + next_free n
next_lighter (next.Go j) = omega (arith, weight_most j)
next_lighter (next.Pay n) = omega arith
next_lighter next.Nothing = omega arith
next_lighter (next.Begin j) = omega arith
next_lighter (next.Run b p) = omega arith
next_lighter (next.Give o) = omega arith
next_lighter (next.Native c) = omega arith
next_lighter (next.Stop c) = omega arith
next_lighter (next.Done o) = omega arith

pub left_weight : (l m : Left) (n : Next) → Leaves m l [] n → flow_free l + at_rest l.next ≡ frames_free (all_frames m) + next_free n + at_rest n
left_weight l m n e = omega (arith, free_all l (all_frames m) (ap (λ k. k.below) e), ap left_free e, ap (λ k. at_rest k.next) e)

pub rest_one : (n : Next) → at_rest n ≤ 1
rest_one next.Nothing = omega arith
rest_one (next.Go j) = omega arith
rest_one (next.Begin j) = omega arith
rest_one (next.Run b p) = omega arith
rest_one (next.Give o) = omega arith
rest_one (next.Pay n) = omega arith
rest_one (next.Native c) = omega arith
rest_one (next.Stop c) = omega arith
rest_one (next.Done o) = omega arith

pub ends_at_rest : (fs : List Forest) (w : ℕ) (cells : List PlainCell) (frames : List Frame) (n : Next) → FineLast fs w cells frames n → (IsRunning n → ⊥) → at_rest n ≡ 1
ends_at_rest fs w cells frames next.Nothing h r = absurd h
ends_at_rest fs w cells frames (next.Go j) h r = absurd (r tt)
ends_at_rest fs w cells frames (next.Begin j) h r = absurd (r tt)
ends_at_rest fs w cells frames (next.Run b p) h r = absurd (r tt)
ends_at_rest fs w cells frames (next.Give o) h r = absurd (r tt)
ends_at_rest fs w cells frames (next.Pay n) h r = absurd (r tt)
ends_at_rest fs w cells frames (next.Native c) h r = refl
ends_at_rest fs w cells frames (next.Stop c) h r = refl
ends_at_rest fs w cells frames (next.Done o) h r = refl

-- ## Halts

pub as_go : (k first : ℕ) (old new : Fuel) (j : Job) (t : Toll) → IsTolled k first old new (next.Pay 1) t → IsTolled k first old new (next.Go j) t
as_go k first old new j toll.Paid h = h
as_go k first old new j toll.Cut h = h
as_go k first old new j toll.Short h = h
as_go k first old new j toll.Over h = h

-- what came of a charge that was not paid
pub no_more : (k first : ℕ) (old new : Fuel) (n : Next) (t : Toll) → IsTolled k first old new n t → (t ≡ toll.Paid → ⊥) → (new ≡ old) × Halts k (first - old.left) old.left n t
no_more k first old new n toll.Paid h x = absurd (x refl)
no_more k first old new n toll.Cut h x = h
no_more k first old new n toll.Short h x = h
no_more k first old new n toll.Over h x = h

module _ (k spent left : ℕ) where
  pub halted : (n : Next) (t : Toll) → Halts k spent left n t → IsHalted n t
  halted n toll.Paid h = h
  halted n toll.Cut h = h.0
  halted n toll.Short h = h.0
  halted n toll.Over h = h

  -- nothing that is free is next
  not_free : (n : Next) (t : Toll) → IsRunning n → next_charge n ≡ 0 → Halts k spent left n t → ⊥
  not_free n toll.Paid r z h = h
  not_free n toll.Cut r z h = absurd (omega (arith, z, h.2))
  not_free n toll.Short r z h = absurd (omega (arith, z, h.2))
  not_free n toll.Over r z h = h r

  module _ (fs : List Forest) (w : ℕ) (cells : List PlainCell) where
    by : (l : Left) (n : Next) (t : Toll) → FineLast fs w cells (l.below ++ l.above) n → Halts k spent left n t → IsSettled l n
    by l next.Nothing t f h = f
    by l (next.Go j) t f h = tt
    by l (next.Begin j) t f h = not_free (next.Begin j) t tt refl h
    by l (next.Run b p) t f h = not_free (next.Run b p) t tt refl h
    by l (next.Give o) t f h = not_free (next.Give o) t tt refl h
    by l (next.Pay n) t f h = tt
    by l (next.Native c) t f h = tt
    by l (next.Stop c) t f h = tt
    by l (next.Done o) t f h = f.0

    pub halt_settled : (l : Left) (t : Toll) → FineFlow fs w cells l → Halts k spent left l.next t → IsSettled l l.next
    halt_settled l t f h = by l l.next t f.1 h

-- what a task answers
pub answers_as : (t : Toll) (n : Next) (m : Moved) → IsHalted n t → (t ≡ toll.Short → ⊥) → (IsRunning n → m ≡ moved.Went) → ((IsRunning n → ⊥) → IsOver m) → IsNotFuel m → Answers t m
answers_as toll.Paid n m h x r o f = h
answers_as toll.Cut n m h x r o f = r h
answers_as toll.Short n m h x r o f = absurd (x refl)
answers_as toll.Over n m h x r o f = (o h, f)

module _ (k spent left : ℕ) (n : Next) (e : Stepped) (m : Moved) (s : machine e ≡ m) where
  -- the units are used up
  pub at_cut : (t : Toll) → Halts k spent left n t → Answers t m → IsWent e → IsRunning n × (k ≤ spent) × (0 < next_charge n)
  at_cut toll.Paid h a i = absurd h
  at_cut toll.Cut h a i = h
  at_cut toll.Short h a i = absurd (differ e i (s ∙ a))
    where
      differ : (x : Stepped) → IsWent x → machine x ≡ moved.OutOfFuel → ⊥
      differ stepped.Went j z = cc
      differ (stepped.Native y) j z = j
      differ (stepped.Done y) j z = j
      differ (stepped.Threw y) j z = j
      differ (stepped.Stop y) j z = j
  at_cut toll.Over h a i = absurd (differ e i (subst (λ (q : Moved). IsOver q) (sym s) a.0))
    where
      differ : (x : Stepped) → IsWent x → IsOver (machine x) → ⊥
      differ stepped.Went j o = o
      differ (stepped.Native y) j o = j
      differ (stepped.Done y) j o = j
      differ (stepped.Threw y) j o = j
      differ (stepped.Stop y) j o = j

  -- the next charge is over what is left
  pub at_short : (t : Toll) → Halts k spent left n t → Answers t m → IsFuelStop e → IsRunning n × (spent < k) × (left < next_charge n)
  at_short toll.Paid h a i = absurd h
  at_short toll.Cut h a i = absurd (differ e i (s ∙ a))
    where
      differ : (x : Stepped) → IsFuelStop x → machine x ≡ moved.Went → ⊥
      differ stepped.Went j z = j
      differ (stepped.Native y) j z = j
      differ (stepped.Done y) j z = j
      differ (stepped.Threw y) j z = j
      differ (stepped.Stop stop.Fuel) j z = cc
      differ (stepped.Stop (stop.Due y)) j z = j
  at_short toll.Short h a i = h
  at_short toll.Over h a i = absurd (differ e i (subst (λ (q : Moved). IsNotFuel q) (sym s) a.1))
    where
      differ : (x : Stepped) → IsFuelStop x → IsNotFuel (machine x) → ⊥
      differ stepped.Went j o = j
      differ (stepped.Native y) j o = j
      differ (stepped.Done y) j o = j
      differ (stepped.Threw y) j o = j
      differ (stepped.Stop stop.Fuel) j o = o
      differ (stepped.Stop (stop.Due y)) j o = j

  -- a native, a stop or an end is next
  pub at_over : (t : Toll) → Halts k spent left n t → Answers t m → IsOver (machine e) → (IsFuelStop e → ⊥) → IsRunning n → ⊥
  at_over toll.Paid h a o f = absurd h
  at_over toll.Cut h a o f = absurd (subst (λ (q : Moved). IsOver q) (s ∙ a) o)
  at_over toll.Short h a o f = absurd (f (same e (s ∙ a)))
    where
      same : (x : Stepped) → machine x ≡ moved.OutOfFuel → IsFuelStop x
      same stepped.Went z = absurd (no_went z)
        where
          no_went : moved.Went ≡ moved.OutOfFuel → ⊥
          no_went y = cc
      same (stepped.Native y) z = cc
      same (stepped.Done y) z = cc
      same (stepped.Threw y) z = cc
      same (stepped.Stop stop.Fuel) z = tt
      same (stepped.Stop (stop.Due y)) z = cc
  at_over toll.Over h a o f = h

-- ## Plans

module _ (fs : List Forest) (w : ℕ) where
  module _ (cells : List PlainCell) where
    charge_first : (n : ℕ) (frames : List Frame) (s : State) → and_then (next_plan fs w cells (next.Pay n) s) (rest fs w cells frames) ≡ todo fs w cells (control.Pay n) frames s
    charge_first n frames s = plan_laws.charge_first n s (Ret Normal s) (rest fs w cells frames)

    next_moves : (n : Next) (frames : List Frame) (s : State)
        → Moves (next_charge n) s (and_then (next_plan fs w cells n s) (rest fs w cells frames)) (and_then (next_plan fs w cells (paid_next n) s) (rest fs w cells frames))
    next_moves (next.Go j) frames s = job_moves (job_of fs w cells j) s (rest fs w cells frames) _ refl
    next_moves (next.Pay n) frames s =
        subst (λ (p : Plan). Moves n s p (rest fs w cells frames Normal s)) (sym (charge_first n frames s)) (charge_moves n s (rest fs w cells frames Normal s))
    next_moves next.Nothing frames s = stays s _ _ refl
    next_moves (next.Begin j) frames s = stays s _ _ refl
    next_moves (next.Run b p) frames s = stays s _ _ refl
    next_moves (next.Give o) frames s = stays s _ _ refl
    next_moves (next.Native c) frames s = stays s _ _ refl
    next_moves (next.Stop c) frames s = stays s _ _ refl
    next_moves (next.Done o) frames s = stays s _ _ refl

    -- this is next on all frames
    pub left_plan : (l m : Left) (n : Next) (s : State) → Leaves m l [] n → flow_plan fs w cells l s ≡ and_then (next_plan fs w cells n s) (rest fs w cells (all_frames m))
    left_plan l m n s e = ap (λ k. flow_plan fs w cells k s) e ∙ ap (λ (x : List Frame). and_then (next_plan fs w cells n s) (rest fs w cells x)) (append-nil (all_frames m))

    pub left_pay : (l m : Left) (n : ℕ) (s : State) → Leaves m l [] (next.Pay n) → flow_plan fs w cells l s ≡ todo fs w cells (control.Pay n) (all_frames m) s
    left_pay l m n s e = left_plan l m (next.Pay n) s e ∙ charge_first n (all_frames m) s

    -- the charge of what is next on a flow
    pub flow_moves : (l : Left) (s : State) → Moves (next_charge l.next) s (flow_plan fs w cells l s) (flow_plan fs w cells (paid l) s)
    flow_moves l s = next_moves l.next (all_frames l) s

    next_ends : (n : Next) (frames : List Frame) (s : State) → Yields ByValue (and_then (next_plan fs w cells n s) (rest fs w cells frames)) → Yields ByValue (and_then (next_plan fs w cells (paid_next n) s) (rest fs w cells frames))
    next_ends (next.Go j) frames s h = joined (way_of (job_of fs w cells j)) ByValue _ (rest fs w cells frames) (body_ends (job_of fs w cells j) s) (after_job _ _ _ h)
    next_ends (next.Pay n) frames s h = uncharged n s _ (subst (λ (p : Plan). Yields ByValue p) (charge_first n frames s) h)
    next_ends next.Nothing frames s h = h
    next_ends (next.Begin j) frames s h = h
    next_ends (next.Run b p) frames s h = h
    next_ends (next.Give o) frames s h = h
    next_ends (next.Native c) frames s h = h
    next_ends (next.Stop c) frames s h = h
    next_ends (next.Done o) frames s h = h

    -- a native that is asked for is awaited so
    next_asked : (n : Next) (frames : List Frame) (s : State) → FineLast fs w cells frames n → Yields ByValue (and_then (next_plan fs w cells n s) (rest fs w cells frames)) → IsRunning n → native_free < next_free (paid_next n) → Awaits fs w cells ByValue frames
    next_asked (next.Go j) frames s f h r x = heavy fs w cells j frames (less_one fs w native_free (job_weight j) x) (after_job _ _ _ h)
    next_asked (next.Begin j) frames s f h r x = absurd (no_begun j f.1 (less_one fs w native_free (job_weight j) x))
    next_asked (next.Run b p) frames s f h r x = absurd (omega (arith, x))
    next_asked (next.Give o) frames s f h r x = absurd (omega (arith, x))
    next_asked (next.Pay n) frames s f h r x = absurd (omega (arith, x))
    next_asked next.Nothing frames s f h r x = absurd r
    next_asked (next.Native c) frames s f h r x = absurd r
    next_asked (next.Stop c) frames s f h r x = absurd r
    next_asked (next.Done o) frames s f h r x = absurd r

  -- what is next was done
  pub flow_ends : (old new : Cells) (l m : Left) → Grows w old.cells new.cells → FineFlow fs w old.cells l → IsRunning l.next → EndsFlow fs w old l
      → ((r : Rest) → flow_plan fs w new.cells m (image fs r w new) ≡ flow_plan fs w old.cells (paid l) (image fs r w old))
      → (IsNative m.next → (native_free < next_free (paid_next l.next)) × (all_frames m ≡ all_frames l)) → EndsFlow fs w new m
  flow_ends old new l m g fine run ends plan native = (
    λ r. subst (λ (p : Plan). Yields ByValue p) (sym (plan r)) (next_ends old.cells l.next (all_frames l) (image fs r w old) (ends.0 r)),
    λ x.
        let y = native x in
        subst (λ (fr : List Frame). Awaits fs w new.cells ByValue fr) (sym y.1)
        (awaits_later fs w old.cells new.cells g ByValue (all_frames l) fine.0 (next_asked old.cells l.next (all_frames l) (image fs no_rest w old) fine.1 (ends.0 no_rest) run y.0)),
  )

  going_ends : (s : Cells) (c : Control) (frames : List Frame) → IsGoing c → EndsCall fs w s c frames → ((r : Rest) → Yields ByValue (todo fs w s.cells c frames (image fs r w s))) × (control_free c ≤ native_free)
  going_ends s (control.Do j) frames g h = h
  going_ends s (control.Begin j) frames g h = h
  going_ends s (control.Give o) frames g h = h
  going_ends s (control.Pay n) frames g h = h
  going_ends s (control.Waits d) frames g h = absurd g
  going_ends s control.Over frames g h = absurd g

  -- what a task is at is next
  pub resumed_ends : (old new : Cells) (c : Control) (frames : List Frame) (m : Left) → IsGoing c → EndsCall fs w old c frames
      → ((r : Rest) → flow_plan fs w new.cells m (image fs r w new) ≡ todo fs w old.cells c frames (image fs r w old)) → (IsNative m.next → native_free < control_free c) → EndsFlow fs w new m
  resumed_ends old new c frames m g h plan native =
      let e = going_ends old c frames g h in
      (λ r. subst (λ (p : Plan). Yields ByValue p) (sym (plan r)) (e.0 r), λ x. absurd (omega (arith, native x, e.1)))

  -- what is next was carried out in place
  pub reduced_ends : (old new : Cells) (l m : Left) (c : ℕ) → EndsFlow fs w old l
      → ((r : Rest) → Reduces c (flow_plan fs w old.cells l (image fs r w old)) (flow_plan fs w new.cells m (image fs r w new))) → (IsNative m.next → ⊥) → EndsFlow fs w new m
  reduced_ends old new l m c ends plan native = (λ r. yields ByValue c _ _ (plan r) (ends.0 r), λ x. absurd (native x))

-- what is next is no native, as it is told in place
pub no_native_next : (n : Next) → (InPlace n → ⊥) → IsNative n → ⊥
no_native_next (next.Native c) h x = h x
no_native_next next.Nothing h x = x
no_native_next (next.Go j) h x = x
no_native_next (next.Begin j) h x = x
no_native_next (next.Run b p) h x = x
no_native_next (next.Give o) h x = x
no_native_next (next.Pay n) h x = x
no_native_next (next.Stop c) h x = x
no_native_next (next.Done o) h x = x
