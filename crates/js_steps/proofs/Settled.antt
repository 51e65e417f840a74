-- What a form leaves, and then all frames that wait.
use Rattle.std.proofs.Common.{◌≡◌, ℕ, ◌+◌, ◌≤◌, List, [], ◌∷◌, ◌++◌, true, false, refl, sym, ap, ◌∙◌, subst, arith, append-nil}
use Rattle.js_tree.specs.Forest.{Forest}
use Rattle.store_cells.specs.Cells.{PlainCell}
use Rattle.widget_meaning.specs.OwnState.{State}
use Rattle.widget_meaning.specs.Values.{Normal}
use Rattle.widget_meaning.specs.Plan.{Plan, Ret, and_then}
use Rattle.widget_meaning.proofs.PlansHold.{plan_laws}
use Rattle.js_flow.specs.declared.frame.Frame.{Frame}
use Rattle.js_flow.specs.declared.job.Job.{Job}
use Rattle.js_flow.specs.declared.job.Next.{Next}
use Rattle.js_flow.specs.declared.job.Next.TheVariants as next
use Rattle.js_flow.specs.declared.job.Completion.{Completion}
use Rattle.js_flow.specs.declared.task.Control.{Control}
use Rattle.js_flow.specs.declared.task.Control.TheVariants as control
use Rattle.js_flow.specs.Todo.{todo}
use Rattle.js_flow.specs.Left.{IsSettled, Leaves, Left, all_frames, is_free_next}
use Rattle.js_flow.specs.Views.{completion_of}
use Rattle.js_flow.specs.Fine.{FineCompletion, FineFlow, FineFrames, FineLast, FineLeft, FineNext, FineOver}
use Rattle.js_flow.specs.Frames.{flow_plan, next_plan, planned, rest}
use Rattle.js_flow.specs.Free.{flow_free, frames_free, left_free, native_free, next_free}
use Rattle.js_flow.proofs.Follow.{left_then}
use Rattle.js_steps.specs.Ending.{IsNative}
use Rattle.js_steps.proofs.Weights.{native_weighs}

free_both : (below above : List Frame) → frames_free (below ++ above) ≡ frames_free below + frames_free above
free_both [] above = omega arith
free_both (f ∷ below) above = omega (arith, free_both below above)

pub free_all : (l : Left) (frames : List Frame) → l.below ≡ frames → flow_free l ≡ frames_free frames + left_free l
free_all l frames e = omega (arith, free_both l.below l.above, ap frames_free e)

-- frames on which no form left anything
pub all_new : (l : Left) (frames : List Frame) → l ≡ record { below = frames; above = []; next = next.Nothing } → all_frames l ≡ frames
all_new l frames e = ap all_frames e ∙ append-nil frames

pub free_end : (l m : Left) (how : Completion) → Leaves m l [] (next.Done how) → all_frames m ≡ [] → flow_free l ≡ 0
free_end l m how e z = ap flow_free e ∙ ap (λ (x : List Frame). frames_free (x ++ []) + 0) z

pub free_next : (l m : Left) (n : Next) → l.next ≡ n → m ≡ record l { next = next.Nothing } → flow_free l ≡ frames_free (all_frames m) + next_free n
free_next l m n e f = λ i. frames_free (all_frames (sym f i)) + next_free (e i)

module _ (fs : List Forest) (w : ℕ) where
  pub plan_all : (old new : List PlainCell) (l : Left) (t : State) (frames : List Frame) (p : Plan)
      → l.below ≡ frames → planned fs w new l t ≡ p → rest fs w new frames ≡ rest fs w old frames
      → flow_plan fs w new l t ≡ and_then p (rest fs w old frames)
  plan_all old new l t frames p at e stay =
      sym (left_then fs w new l t) ∙ (λ i. and_then (e i) (rest fs w new (at i))) ∙ ap (and_then p) stay

  module _ (cells : List PlainCell) where
    fine_both : (below above : List Frame) → FineFrames fs w cells below → FineFrames fs w cells above → FineFrames fs w cells (below ++ above)
    fine_both [] above h k = k
    fine_both (f ∷ below) above h k = (h.0, fine_both below above h.1 k)

    native_over : (above : List Frame) (n : Next) → FineOver fs w cells above n → IsNative n → above ≡ []
    native_over above (next.Native c) h k = h.0
    native_over above next.Nothing h k = absurd k
    native_over above (next.Go j) h k = absurd k
    native_over above (next.Begin j) h k = absurd k
    native_over above (next.Run b p) h k = absurd k
    native_over above (next.Give o) h k = absurd k
    native_over above (next.Pay n) h k = absurd k
    native_over above (next.Stop c) h k = absurd k
    native_over above (next.Done o) h k = absurd k

    -- a native that is next weighs as much as one, and no frame waits for it alone
    pub native_one : (l : Left) (frames : List Frame) (m : ℕ) → l.below ≡ frames → FineLeft fs w cells l → left_free l ≤ m → IsNative l.next → (native_free ≤ m) × (all_frames l ≡ frames)
    native_one l frames m e h k x =
        (native_weighs l.next m (omega (arith, k)) x, ap (λ (a : List Frame). l.below ++ a) (native_over l.above l.next h.1 x) ∙ (append-nil l.below ∙ e))

    fine_next_of : (above : List Frame) (n : Next) → FineOver fs w cells above n → FineNext fs w cells n
    fine_next_of above (next.Native c) h = h.1
    fine_next_of above next.Nothing h = h
    fine_next_of above (next.Go j) h = h
    fine_next_of above (next.Begin j) h = h
    fine_next_of above (next.Run b p) h = h
    fine_next_of above (next.Give o) h = h
    fine_next_of above (next.Pay n) h = h
    fine_next_of above (next.Stop c) h = h
    fine_next_of above (next.Done o) h = h

    fine_last : (frames : List Frame) (n : Next) → FineNext fs w cells n → FineLast fs w cells frames n
    fine_last frames next.Nothing h = h
    fine_last frames (next.Go j) h = h
    fine_last frames (next.Begin j) h = h
    fine_last frames (next.Run b p) h = h
    fine_last frames (next.Give o) h = h
    fine_last frames (next.Pay n) h = h
    fine_last frames (next.Native c) h = h
    fine_last frames (next.Stop c) h = h
    fine_last frames (next.Done o) h = absurd h

    pub fine_all : (l : Left) (frames : List Frame) → l.below ≡ frames → FineLeft fs w cells l → FineFrames fs w cells frames → FineFlow fs w cells l
    fine_all l frames e h k = (fine_both l.below l.above (subst (λ (x : List Frame). FineFrames fs w cells x) (sym e) k) h.0, fine_last (l.below ++ l.above) l.next (fine_next_of l.above l.next h.1))

    -- no frame takes an end, and none is left
    pub ended : (l m : Left) (how : Completion) (s : State) → Leaves m l [] (next.Done how) → all_frames m ≡ []
        → flow_plan fs w cells l s ≡ rest fs w cells [] (completion_of w cells how) s
    ended l m how s e z = rw e (ap (λ (x : List Frame). rest fs w cells (x ++ []) (completion_of w cells how) s) z)

    pub fine_end : (l m : Left) (how : Completion) → Leaves m l [] (next.Done how) → all_frames m ≡ [] → FineCompletion w cells how → FineFlow fs w cells l
    fine_end l m how e z h =
        subst (λ (k : Left). FineFlow fs w cells k) (sym e)
        (subst (λ (x : List Frame). FineFrames fs w cells (x ++ [])) (sym z) tt, (ap (λ (x : List Frame). x ++ []) z, h))

    -- what was next is done
    pub at_next : (l m : Left) (n : Next) (s : State) → l.next ≡ n → m ≡ record l { next = next.Nothing }
        → and_then (next_plan fs w cells n s) (rest fs w cells (all_frames m)) ≡ flow_plan fs w cells l s
    at_next l m n s e f = λ i. and_then (next_plan fs w cells (sym e i) s) (rest fs w cells (all_frames (f i)))

    -- what is next is what the task is at
    pub put_go : (l : Left) (frames : List Frame) (j : Job) (q : Control) (s : State) → l.next ≡ next.Go j → frames ≡ all_frames l → q ≡ control.Do j
        → todo fs w cells q frames s ≡ flow_plan fs w cells l s
    put_go l frames j q s e f g = rw (g, f) (sym (ap (λ (k : Next). and_then (next_plan fs w cells k s) (rest fs w cells (all_frames l))) e))

    -- a charge, after which all frames go on
    pub put_pay : (l : Left) (frames : List Frame) (n : ℕ) (q : Control) (s : State) → l.next ≡ next.Pay n → frames ≡ all_frames l → q ≡ control.Pay n
        → todo fs w cells q frames s ≡ flow_plan fs w cells l s
    put_pay l frames n q s e f g = rw (g, f) (sym (
        ap (λ (k : Next). and_then (next_plan fs w cells k s) (rest fs w cells (all_frames l))) e
        ∙ plan_laws.charge_first n s (Ret Normal s) (rest fs w cells (all_frames l))))

    pub put_plan : (l : Left) (frames : List Frame) (n : Next) (s : State) → l.next ≡ n → frames ≡ all_frames l → and_then (next_plan fs w cells n s) (rest fs w cells frames) ≡ flow_plan fs w cells l s
    put_plan l frames n s e f = λ i. and_then (next_plan fs w cells (sym e i) s) (rest fs w cells (f i))

    -- the end of the task
    pub put_done : (l : Left) (how : Completion) (s : State) → l.next ≡ next.Done how → IsSettled l l.next → Ret (completion_of w cells how) s ≡ flow_plan fs w cells l s
    put_done l how s e h =
        let none : all_frames l ≡ [] = subst (λ (n : Next). IsSettled l n) e h in
        ap (λ (x : List Frame). and_then (Ret (completion_of w cells how) s) (rest fs w cells x)) (sym none)
        ∙ put_plan l (all_frames l) (next.Done how) s e refl

    pub fine_next : (l m : Left) (n : Next) → l.next ≡ n → m ≡ record l { next = next.Nothing } → FineFlow fs w cells l → FineFrames fs w cells (all_frames m) × FineLast fs w cells (all_frames m) n
    fine_next l m n e f h = rw f (h.0, subst (λ (k : Next). FineLast fs w cells (all_frames l) k) e h.1)

    no_free : true ≡ false → ⊥
    no_free e = cc

    by : (l : Left) (n : Next) → FineLast fs w cells (l.below ++ l.above) n → is_free_next n ≡ false → IsSettled l n
    by l next.Nothing h e = h
    by l (next.Go j) h e = tt
    by l (next.Begin j) h e = no_free e
    by l (next.Run b p) h e = no_free e
    by l (next.Give o) h e = no_free e
    by l (next.Pay n) h e = tt
    by l (next.Native c) h e = tt
    by l (next.Stop c) h e = tt
    by l (next.Done o) h e = h.0

    -- what costs something, or ends
    pub settled : (l : Left) → FineFlow fs w cells l → is_free_next l.next ≡ false → IsSettled l l.next
    settled l h e = by l l.next h.1 e
