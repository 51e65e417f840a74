-- A part is carried out, and then what waits for it.
use Rattle.std.proofs.Common.{◌≡◌, ℕ, suc, ◌+◌, ◌-◌, ◌<◌, ◌≤◌, List, [], ◌∷◌, ◌++◌, refl, sym, ap, ◌∙◌, subst, arith, append-nil, true}
use Rattle.std.specs.Prelude.{IfOk, Result, Ok, Err}
use Rattle.js_tree.specs.Forest.{Forest}
use Rattle.store_cells.specs.Cells.{Cells, PlainCell}
use Rattle.object_store.specs.Grows.{Grows}
use Rattle.widget_meaning.specs.Values as meaning
use Rattle.widget_meaning.specs.OwnState.{State}
use Rattle.widget_meaning.specs.Plan.{Plan, Ret, Do, Job, and_then}
use Rattle.widget_meaning.specs.Meaning.{body}
use Rattle.widget_meaning.proofs.Runs.{and_then_assoc, and_then_ret}
use Rattle.js_image.specs.Image.{Rest, image}
use Rattle.js_flow.specs.declared.frame.Frame.{Frame}
use Rattle.js_flow.specs.declared.job.Completion.{Completion}
use Rattle.js_flow.specs.declared.job.Next.{Next}
use Rattle.js_flow.specs.declared.job.Next.TheVariants as next
use Rattle.js_flow.specs.Frames.{before, flow_plan, next_plan, rest, taken}
use Rattle.js_flow.specs.Left.{Leaves, Left, all_frames}
use Rattle.js_flow.specs.Fine.{FineCompletion, FineFlow, FineFrame, FineFrames, FineLast, FineNext, FineOver}
use Rattle.js_flow.specs.Free.{flow_free, frame_free, frames_free, native_free, next_free}
use Rattle.js_flow.specs.Views.{completion_of}
use Rattle.js_flow.proofs.Stays.{frame_fine, frame_same}
use Rattle.js_direct.specs.declared.run.Ended.{Ended}
use Rattle.js_direct.specs.declared.run.Ended.TheVariants as ended
use Rattle.js_direct.specs.declared.run.Run.{Run}
use Rattle.js_direct.specs.Comes.{ComesTo, FineCame, FineWith, IsEnd, IsNative, came, came_free, outward}
use Rattle.js_direct.specs.Going.{is_direct}
use Rattle.js_direct.proofs.Reducing.{after_each, counts, ends, paid, starts, under}

module _ (fs : List Forest) (w : ℕ) (cells : List PlainCell) where
  pub came_end : (how : Ended) (o : Completion) (r : Run) (s : State) → IsEnd how → came fs w cells how o r s ≡ Ret (completion_of w cells o) s
  came_end ended.Left o r s h = absurd h
  came_end ended.Normal o r s h = refl
  came_end ended.Is o r s h = refl
  came_end ended.Return o r s h = refl
  came_end ended.Break o r s h = refl
  came_end ended.Continue o r s h = refl
  came_end ended.Threw o r s h = refl

  -- a frame at the end of what waits
  pub outward_last : (frames : List Frame) (f : Frame) (o : meaning.Completion) (s : State) → outward fs w cells (frames ++ f ∷ []) o s ≡ and_then (outward fs w cells frames o s) (taken fs w cells f)
  outward_last [] f o s = and_then_ret (taken fs w cells f o s)
  outward_last (g ∷ frames) f o s =
      (λ i. and_then (taken fs w cells g o s) (λ a t. outward_last frames f a t i))
      ∙ sym (and_then_assoc (taken fs w cells g o s) (outward fs w cells frames) (taken fs w cells f))

  -- the innermost frame is taken from the end
  pub before_last : (frames : List Frame) (f : Frame) (p : Plan) → before fs w cells (frames ++ f ∷ []) p ≡ before fs w cells frames (and_then p (taken fs w cells f))
  before_last [] f p = refl
  before_last (g ∷ frames) f p = ap (λ q. and_then q (taken fs w cells g)) (before_last frames f p)

  pub outward_none : (p : Plan) → p ≡ and_then p (outward fs w cells [])
  outward_none p = sym (and_then_ret p)

  -- one frame more waits
  pub outward_more : (frames : List Frame) (f : Frame) (p : Plan) → and_then (and_then p (outward fs w cells frames)) (taken fs w cells f) ≡ and_then p (outward fs w cells (frames ++ f ∷ []))
  outward_more frames f p = and_then_assoc p (outward fs w cells frames) (taken fs w cells f) ∙ (λ i. and_then p (λ o s. sym (outward_last frames f o s) i))

  -- what a form leaves, where it is no native
  pub fine_with : (above : List Frame) (n : Next) → FineOver fs w cells above n → next_free n < native_free → FineWith fs w cells n
  fine_with above (next.Native c) h l = absurd (omega (arith, l))
  fine_with above next.Nothing h l = h
  fine_with above (next.Go j) h l = h
  fine_with above (next.Begin j) h l = h
  fine_with above (next.Run b p) h l = h
  fine_with above (next.Give o) h l = h
  fine_with above (next.Pay n) h l = h
  fine_with above (next.Stop c) h l = h
  fine_with above (next.Done o) h l = h

  pub fine_last : (frames : List Frame) (f : Frame) → FineFrames fs w cells frames → FineFrame fs w cells f → FineFrames fs w cells (frames ++ f ∷ [])
  fine_last [] f h k = (k, tt)
  fine_last (g ∷ frames) f h k = (h.0, fine_last frames f h.1 k)

pub free_last : (frames : List Frame) (f : Frame) → frames_free (frames ++ f ∷ []) ≡ frames_free frames + frame_free f
free_last [] f = omega arith
free_last (g ∷ frames) f = ap (λ n. frame_free g + n) (free_last frames f) ∙ (omega arith)

fine_end : (fs : List Forest) (w : ℕ) (cells : List PlainCell) (how : Ended) (o : Completion) (r : Run) → IsEnd how → FineCompletion w cells o → r.waits.items ≡ [] → FineCame fs w cells how o r
fine_end fs w cells ended.Left o r h f k = absurd h
fine_end fs w cells ended.Normal o r h f k = (f, k)
fine_end fs w cells ended.Is o r h f k = (f, k)
fine_end fs w cells ended.Return o r h f k = (f, k)
fine_end fs w cells ended.Break o r h f k = (f, k)
fine_end fs w cells ended.Continue o r h f k = (f, k)
fine_end fs w cells ended.Threw o r h f k = (f, k)

free_end : (fs : List Forest) (w : ℕ) (how : Ended) (r : Run) → IsEnd how → came_free fs w how r ≡ 1
free_end fs w ended.Left r h = absurd h
free_end fs w ended.Normal r h = refl
free_end fs w ended.Is r h = refl
free_end fs w ended.Return r h = refl
free_end fs w ended.Break r h = refl
free_end fs w ended.Continue r h = refl
free_end fs w ended.Threw r h = refl

module _ (fs : List Forest) (w : ℕ) where
  -- a part ended, and the frame that waits for it goes on
  pub part_then : (s0 s1 s2 : Cells) (n0 n1 n : ℕ) (p : State → Plan) (f : Frame) (had mid has : Run) (how next : Ended) (o a : Completion)
      → ComesTo fs w s0 s1 n0 p had mid how o → IsEnd how → Grows w s0.cells s1.cells → FineFrame fs w s0.cells f
      → ComesTo fs w s1 s2 n1 (taken fs w s1.cells f (completion_of w s1.cells o)) mid has next a → n1 ≤ n
      → ComesTo fs w s0 s2 n (λ s. and_then (p s) (taken fs w s0.cells f)) had has next a
  part_then s0 s1 s2 n0 n1 n p f had mid has how next o a one end g fine two le = record {
    units = omega (arith, one.units, two.units);
    reduces = λ r. counts ((had.units - mid.units) + (mid.units - has.units)) _ _ _ (omega (arith, one.units, two.units))
        (after_each (had.units - mid.units) (mid.units - has.units) _ _ _
        (under (had.units - mid.units) (p (image fs r w s0)) _ (taken fs w s0.cells f) (one.reduces r))
        (starts (mid.units - has.units) _ _ _
        (ap (λ q. and_then q (taken fs w s0.cells f)) (came_end fs w s1.cells how o mid (image fs r w s1) end)
        ∙ (λ i. sym (frame_same fs w s0.cells s1.cells g f fine) i (completion_of w s1.cells o) (image fs r w s1)))
        (two.reduces r)));
    fine = two.fine;
    near = omega (arith, one.units, two.near, le);
  }

  -- a part is suspended, and the frame that waits for it goes behind what waits
  pub part_waits : (s0 s1 : Cells) (n0 n : ℕ) (p : State → Plan) (f : Frame) (had mid has : Run) (how suspended : Ended) (o a : Completion)
      → ComesTo fs w s0 s1 n0 p had mid how o → how ≡ ended.Left → Grows w s0.cells s1.cells → FineFrame fs w s0.cells f
      → has.units ≡ mid.units → has.next ≡ mid.next → has.waits.items ≡ mid.waits.items ++ f ∷ [] → suspended ≡ ended.Left → n0 + frame_free f ≤ n
      → ComesTo fs w s0 s1 n (λ s. and_then (p s) (taken fs w s0.cells f)) had has suspended a
  part_waits s0 s1 n0 n p f had mid has how suspended o a one is g fine units next waits is_left le = subst (λ (h : Ended). ComesTo fs w s0 s1 n (λ s. and_then (p s) (taken fs w s0.cells f)) had has h a) (sym is_left) by
    where
      was : ComesTo fs w s0 s1 n0 p had mid ended.Left o
      was = subst (λ (h : Ended). ComesTo fs w s0 s1 n0 p had mid h o) is one

      goes : (r : Rest) → and_then (came fs w s1.cells ended.Left o mid (image fs r w s1)) (taken fs w s0.cells f) ≡ came fs w s1.cells ended.Left a has (image fs r w s1)
      goes r =
          and_then_assoc (next_plan fs w s1.cells mid.next (image fs r w s1)) (outward fs w s1.cells mid.waits.items) (taken fs w s0.cells f)
          ∙ (λ i. and_then (next_plan fs w s1.cells mid.next (image fs r w s1)) (λ x t. and_then (outward fs w s1.cells mid.waits.items x t) (sym (frame_same fs w s0.cells s1.cells g f fine) i)))
          ∙ (λ i. and_then (next_plan fs w s1.cells (sym next i) (image fs r w s1)) (λ x t. sym (outward_last fs w s1.cells mid.waits.items f x t) i))
          ∙ (λ i. and_then (next_plan fs w s1.cells has.next (image fs r w s1)) (outward fs w s1.cells (sym waits i)))

      by : ComesTo fs w s0 s1 n (λ s. and_then (p s) (taken fs w s0.cells f)) had has ended.Left a
      by = record {
        units = omega (arith, was.units, units);
        reduces = λ r. counts (had.units - mid.units) _ _ _ (omega (arith, units))
            (ends (had.units - mid.units) _ _ _ (under (had.units - mid.units) (p (image fs r w s0)) _ (taken fs w s0.cells f) (was.reduces r)) (goes r));
        fine = (
          subst (λ (n : Next). FineWith fs w s1.cells n) (sym next) was.fine.0,
          subst (λ (frames : List Frame). FineFrames fs w s1.cells frames) (sym waits)
              (fine_last fs w s1.cells mid.waits.items f was.fine.1 (frame_fine fs w s0.cells s1.cells g f fine)),
        );
        near = omega (arith, was.near, units, le, ap next_free next, ap frames_free waits ∙ free_last mid.waits.items f);
      }

  -- a form ended, and no unit was paid
  pub gives : (s t : Cells) (n : ℕ) (p : State → Plan) (had has : Run) (how : Ended) (o : Completion) → IsEnd how → has.units ≡ had.units → has.waits.items ≡ []
      → ((r : Rest) → p (image fs r w s) ≡ Ret (completion_of w t.cells o) (image fs r w t)) → FineCompletion w t.cells o → 1 ≤ n → ComesTo fs w s t n p had has how o
  gives s t n p had has how o end units none plan fine le = record {
    units = omega (arith, units);
    reduces = λ r. counts 0 (had.units - has.units) _ _ (omega (arith, units)) (plan r ∙ sym (came_end fs w t.cells how o has (image fs r w t) end));
    fine = fine_end fs w t.cells how o has end fine none;
    near = omega (arith, units, le, free_end fs w how has end);
  }

  -- what costs nothing was done first
  pub before_it : (s t : Cells) (n m : ℕ) (p q : State → Plan) (had has : Run) (how : Ended) (o : Completion) → ((r : Rest) → p (image fs r w s) ≡ q (image fs r w t))
      → ComesTo fs w t t n q had has how o → n ≤ m → ComesTo fs w s t m p had has how o
  before_it s t n m p q had has how o plan comes le = record {
    units = comes.units;
    reduces = λ r. starts (had.units - has.units) _ _ _ (plan r) (comes.reduces r);
    fine = comes.fine;
    near = omega (arith, comes.near, le);
  }

  -- frames wait, and no unit was paid
  pub suspends : (s : Cells) (n : ℕ) (p : State → Plan) (had has : Run) (o : Completion) (m : Next) → has.units ≡ had.units → has.next ≡ m
      → ((x : State) → p x ≡ and_then (next_plan fs w s.cells m x) (outward fs w s.cells has.waits.items)) → FineWith fs w s.cells m → FineFrames fs w s.cells has.waits.items
      → next_free m + frames_free has.waits.items ≤ n → ComesTo fs w s s n p had has ended.Left o
  suspends s n p had has o m units next plan fine frames le = record {
    units = omega (arith, units);
    reduces = λ r. counts 0 (had.units - has.units) _ _ (omega (arith, units))
        (plan (image fs r w s) ∙ (λ i. and_then (next_plan fs w s.cells (sym next i) (image fs r w s)) (outward fs w s.cells has.waits.items)));
    fine = (subst (λ (k : Next). FineWith fs w s.cells k) (sym next) fine, frames);
    near = omega (arith, units, le, ap next_free next);
  }

  -- a form is suspended at once, and no unit was paid
  pub leaves : (s t : Cells) (k : ℕ) (p : State → Plan) (had has : Run) (how : Ended) (o : Completion) (n : Next) → how ≡ ended.Left → has.units ≡ had.units → has.waits.items ≡ [] → has.next ≡ n
      → ((r : Rest) → p (image fs r w s) ≡ next_plan fs w t.cells n (image fs r w t)) → FineWith fs w t.cells n → next_free n ≤ k → ComesTo fs w s t k p had has how o
  leaves s t k p had has how o n is units none next plan fine le = subst (λ (h : Ended). ComesTo fs w s t k p had has h o) (sym is) by
    where
      goes : (r : Rest) → p (image fs r w s) ≡ came fs w t.cells ended.Left o has (image fs r w t)
      goes r = plan r ∙ sym ((λ i. and_then (next_plan fs w t.cells (next i) (image fs r w t)) (outward fs w t.cells (none i))) ∙ and_then_ret (next_plan fs w t.cells n (image fs r w t)))

      by : ComesTo fs w s t k p had has ended.Left o
      by = record {
        units = omega (arith, units);
        reduces = λ r. counts 0 (had.units - has.units) _ _ (omega (arith, units)) (goes r);
        fine = (subst (λ (m : Next). FineWith fs w t.cells m) (sym next) fine, subst (λ (frames : List Frame). FineFrames fs w t.cells frames) (sym none) tt);
        near = omega (arith, units, le, ap next_free next, ap frames_free none);
      }

  -- a part ended, and the frame that waits for it passes that on
  pub part_passes : (s0 s1 : Cells) (n0 n : ℕ) (p : State → Plan) (f : Frame) (had mid : Run) (how : Ended) (o : Completion)
      → ComesTo fs w s0 s1 n0 p had mid how o → IsEnd how → Grows w s0.cells s1.cells → FineFrame fs w s0.cells f
      → ((t : State) → taken fs w s1.cells f (completion_of w s1.cells o) t ≡ Ret (completion_of w s1.cells o) t) → n0 ≤ n
      → ComesTo fs w s0 s1 n (λ s. and_then (p s) (taken fs w s0.cells f)) had mid how o
  part_passes s0 s1 n0 n p f had mid how o one end g fine passes le = record {
    units = one.units;
    reduces = λ r. ends (had.units - mid.units) _ _ _ (under (had.units - mid.units) (p (image fs r w s0)) _ (taken fs w s0.cells f) (one.reduces r))
        (ap (λ q. and_then q (taken fs w s0.cells f)) (came_end fs w s1.cells how o mid (image fs r w s1) end)
        ∙ ((λ i. sym (frame_same fs w s0.cells s1.cells g f fine) i (completion_of w s1.cells o) (image fs r w s1))
        ∙ (passes (image fs r w s1) ∙ sym (came_end fs w s1.cells how o mid (image fs r w s1) end))));
    fine = one.fine;
    near = omega (arith, one.near, le);
  }

  -- a job's unit is paid first, and what it then is comes to this
  pub unit_first : (s t : Cells) (n m : ℕ) (j : Job) (p : State → Plan) (k : meaning.Completion → State → Plan) (had paid_had has : Run) (how : Ended) (o : Completion) → paid_had.units + 1 ≡ had.units
      → ((x : State) → and_then (body j x) k ≡ p x) → ComesTo fs w s t n p paid_had has how o → n ≤ 31 + m → ComesTo fs w s t m (λ x. Do j x k) had has how o
  unit_first s t n m j p k had paid_had has how o one plan comes le = record {
    units = omega (arith, one, comes.units);
    reduces = λ r. counts (suc (paid_had.units - has.units)) (had.units - has.units) _ _ (omega (arith, one, comes.units))
        (paid (paid_had.units - has.units) j (image fs r w s) k _ (starts (paid_had.units - has.units) _ _ _ (plan (image fs r w s)) (comes.reduces r)));
    fine = comes.fine;
    near = omega (arith, one, comes.near, le);
  }

  pub more : (s t : Cells) (n m : ℕ) (p : State → Plan) (had has : Run) (how : Ended) (o : Completion) → ComesTo fs w s t n p had has how o → n ≤ m → ComesTo fs w s t m p had has how o
  more s t n m p had has how o comes le = record { units = comes.units; reduces = comes.reduces; fine = comes.fine; near = omega (arith, comes.near, le) }

-- ## What is left on a flow

-- two clauses of one call
pub both_ok : {T E : Type 0} (r : Result T E) (P Q : T → Type 0) → IfOk r P → IfOk r Q → IfOk r (λ k. P k × Q k)
both_ok (Ok x) P Q p q = (p, q)
both_ok (Err e) P Q p q = tt

module _ (fs : List Forest) (w : ℕ) (cells : List PlainCell) where
  pub left_all : (l m : Left) (n : Next) (s : State) → Leaves m l [] n → flow_plan fs w cells l s ≡ and_then (next_plan fs w cells n s) (rest fs w cells (all_frames m))
  left_all l m n s e = ap (λ k. flow_plan fs w cells k s) e ∙ ap (λ (x : List Frame). and_then (next_plan fs w cells n s) (rest fs w cells x)) (append-nil (all_frames m))

  fine_next_of : (n : Next) → FineWith fs w cells n → FineNext fs w cells n
  fine_next_of (next.Native c) h = absurd h
  fine_next_of next.Nothing h = h
  fine_next_of (next.Go j) h = h
  fine_next_of (next.Begin j) h = h
  fine_next_of (next.Run b p) h = h
  fine_next_of (next.Give o) h = h
  fine_next_of (next.Pay n) h = h
  fine_next_of (next.Stop c) h = h
  fine_next_of (next.Done o) h = h

  fine_last_of : (frames : List Frame) (n : Next) → FineNext fs w cells n → FineLast fs w cells frames n
  fine_last_of frames next.Nothing h = h
  fine_last_of frames (next.Go j) h = h
  fine_last_of frames (next.Begin j) h = h
  fine_last_of frames (next.Run b p) h = h
  fine_last_of frames (next.Give o) h = h
  fine_last_of frames (next.Pay n) h = h
  fine_last_of frames (next.Native c) h = h
  fine_last_of frames (next.Stop c) h = h
  fine_last_of frames (next.Done o) h = absurd h

  pub left_fine : (l m : Left) (n : Next) → Leaves m l [] n → FineFrames fs w cells (all_frames m) → FineWith fs w cells n → FineFlow fs w cells l
  left_fine l m n e h k =
      subst (λ (x : Left). FineFlow fs w cells x) (sym e)
      (subst (λ (x : List Frame). FineFrames fs w cells x) (sym (append-nil (all_frames m))) h, fine_last_of (all_frames m ++ []) n (fine_next_of n k))

  pub direct_fine : (frames : List Frame) (n : Next) → is_direct n ≡ true → FineLast fs w cells frames n → FineNext fs w cells n
  direct_fine frames next.Nothing e h = h
  direct_fine frames (next.Go j) e h = h
  direct_fine frames (next.Begin j) e h = h
  direct_fine frames (next.Run b p) e h = h
  direct_fine frames (next.Give o) e h = h
  direct_fine frames (next.Pay n) e h = h
  direct_fine frames (next.Native c) e h = h
  direct_fine frames (next.Stop c) e h = h
  direct_fine frames (next.Done o) e h = cc

  pub no_native : (n : Next) → FineWith fs w cells n → IsNative n → ⊥
  no_native (next.Native c) h x = h
  no_native next.Nothing h x = x
  no_native (next.Go j) h x = x
  no_native (next.Begin j) h x = x
  no_native (next.Run b p) h x = x
  no_native (next.Give o) h x = x
  no_native (next.Pay n) h x = x
  no_native (next.Stop c) h x = x
  no_native (next.Done o) h x = x

pub left_free_all : (l m : Left) (n : Next) → Leaves m l [] n → flow_free l ≡ frames_free (all_frames m) + next_free n
left_free_all l m n e = ap flow_free e ∙ ap (λ (x : List Frame). frames_free x + next_free n) (append-nil (all_frames m))
