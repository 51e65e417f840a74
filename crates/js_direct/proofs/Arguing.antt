-- The arguments of a call one after the other, and what comes then.
use Rattle.std.proofs.Common.{true≢false, ◌≡◌, ℕ, zero, suc, ◌+◌, ◌-◌, ◌<◌, ◌≤◌, List, [], ◌∷◌, ◌++◌, length, drop, refl, sym, ap, ◌∙◌, subst, arith}
use Rattle.std.proofs.lemmas.List.{map-append}
use Rattle.std.specs.Global.{Box}
use Rattle.std.specs.Prelude.{IfOk, IsErr, Result, Ok, Err}
use Rattle.js_tree.specs.declared.nodes.ExprId.{ExprId}
use Rattle.js_tree.specs.Plain.{Expr}
use Rattle.js_tree.specs.Forest.{Forest, expr_at}
use Rattle.store_cells.specs.declared.value.Value.{Value}
use Rattle.store_cells.specs.Cells.{Cells, PlainCell}
use Rattle.object_store.specs.Grows.{Grows}
use Rattle.widget_meaning.specs.Values as meaning
use Rattle.widget_meaning.specs.OwnState.{State}
use Rattle.widget_meaning.specs.Plan as plan
use Rattle.widget_meaning.specs.Plan.{Plan, Ret, Do, after, and_then, on_reference, on_value}
use Rattle.widget_meaning.specs.Expressions.{arguments_then}
use Rattle.js_image.specs.Image.{Rest, all_seen, image, seen}
use Rattle.js_image.specs.Held.{AreFine, IsFine, Kept}
use Rattle.js_flow.specs.declared.frame.Argument.{Argument}
use Rattle.js_flow.specs.declared.frame.CallFrame.TheVariants as call
use Rattle.js_flow.specs.declared.frame.Frame.{Frame}
use Rattle.js_flow.specs.declared.frame.Frame.TheVariants as frame
use Rattle.js_flow.specs.declared.job.Completion.{Completion}
use Rattle.js_flow.specs.declared.job.Completion.TheVariants as completion
use Rattle.js_flow.specs.declared.job.Job.TheVariants as job
use Rattle.js_flow.specs.declared.job.Next.{Next}
use Rattle.js_flow.specs.declared.job.Place.{Place}
use Rattle.js_flow.specs.declared.job.Reference.{Reference}
use Rattle.js_flow.specs.Calls.{argument_taken}
use Rattle.js_flow.specs.Fine.{FineArgument, FineCompletion, FineFrames, FineReference, IsExprAt}
use Rattle.js_flow.specs.Frames.{next_plan, taken}
use Rattle.js_flow.specs.Free.{frames_free, next_free}
use Rattle.js_flow.specs.Parts.{arguments_of, forest_at}
use Rattle.js_flow.specs.Views.{completion_of, job_of, place_of, reference_of}
use Rattle.js_flow.proofs.Stays.{all_fine, all_same}
use Rattle.js_direct.specs.declared.run.Ended.{Ended}
use Rattle.js_direct.specs.declared.run.Ended.TheVariants as ended
use Rattle.js_direct.specs.declared.run.Run.{Run}
use Rattle.js_direct.specs.Argues.{Argued, Argues, FineArgued, HandsArgument, WaitsFor, argued, argument_then}
use Rattle.js_direct.specs.Comes.{ComesTo, FineCame, FineWith, IsEnd, came, came_free, ended_as, outward, target_as}
use Rattle.js_direct.specs.Hands.{HandsOn}
use Rattle.js_direct.specs.Reduces.{Reduces}
use Rattle.js_direct.proofs.FormFrames.{other_end, target_ends}
use Rattle.js_direct.proofs.Handing.{hand_ok}
use Rattle.js_direct.proofs.Parts.{came_end, fine_last, free_last, outward_more, part_then}
use Rattle.js_direct.proofs.Reducing.{after_each, counts, ends, under}

module _ (fs : List Forest) (w : ℕ) (cells : List PlainCell) where
  fine_is : (how : Ended) (o : Completion) (r : Run) → IsEnd how → FineCame fs w cells how o r ≡ (FineCompletion w cells o × (r.waits.items ≡ []))
  fine_is ended.Left o r h = absurd h
  fine_is ended.Normal o r h = refl
  fine_is ended.Is o r h = refl
  fine_is ended.Return o r h = refl
  fine_is ended.Break o r h = refl
  fine_is ended.Continue o r h = refl
  fine_is ended.Threw o r h = refl

free_is : (fs : List Forest) (w : ℕ) (how : Ended) (r : Run) → IsEnd how → came_free fs w how r ≡ 1
free_is fs w ended.Left r h = absurd h
free_is fs w ended.Normal r h = refl
free_is fs w ended.Is r h = refl
free_is fs w ended.Return r h = refl
free_is fs w ended.Break r h = refl
free_is fs w ended.Continue r h = refl
free_is fs w ended.Threw r h = refl

module _ (fs : List Forest) (w : ℕ) where
  -- a part ended, and what comes after it ends at once
  pub part_ends : (s0 s1 : Cells) (n0 n : ℕ) (p : State → Plan) (k : meaning.Completion → State → Plan) (had mid : Run) (how next : Ended) (o a : Completion)
      → ComesTo fs w s0 s1 n0 p had mid how o → IsEnd how → IsEnd next
      → ((s : State) → k (completion_of w s1.cells o) s ≡ Ret (completion_of w s1.cells a) s)
      → (FineCompletion w s1.cells o → FineCompletion w s1.cells a) → n0 ≤ n
      → ComesTo fs w s0 s1 n (λ s. and_then (p s) k) had mid next a
  part_ends s0 s1 n0 n p k had mid how next o a one end last goes fine le = record {
    units = one.units;
    reduces = λ r. ends (had.units - mid.units) _ _ _ (under (had.units - mid.units) (p (image fs r w s0)) _ k (one.reduces r))
        (ap (λ q. and_then q k) (came_end fs w s1.cells how o mid (image fs r w s1) end)
        ∙ goes (image fs r w s1)
        ∙ sym (came_end fs w s1.cells next a mid (image fs r w s1) last));
    fine = by (subst (λ (X : Type 0). X) (fine_is fs w s1.cells how o mid end) one.fine);
    near = omega (arith, one.near, le, free_is fs w how mid end, free_is fs w next mid last);
  }
    where
      by : FineCompletion w s1.cells o × (mid.waits.items ≡ []) → FineCame fs w s1.cells next a mid
      by h = subst (λ (X : Type 0). X) (sym (fine_is fs w s1.cells next a mid last)) (fine h.0, h.1)

  -- what was paid before
  goes_on : (s0 s1 s2 : Cells) (n0 n : ℕ) (p q : State → Plan) (had mid has : Run) (how : Ended) (a : Completion)
      → mid.units ≤ had.units
      → ((r : Rest) → Reduces (had.units - mid.units) (p (image fs r w s0)) (q (image fs r w s1)))
      → ComesTo fs w s1 s2 n0 q mid has how a → n0 ≤ n → ComesTo fs w s0 s2 n p had has how a
  goes_on s0 s1 s2 n0 n p q had mid has how a less before two le = record {
    units = omega (arith, less, two.units);
    reduces = λ r. counts ((had.units - mid.units) + (mid.units - has.units)) _ _ _ (omega (arith, less, two.units))
        (after_each (had.units - mid.units) (mid.units - has.units) _ _ _ (before r) (two.reduces r));
    fine = two.fine;
    near = omega (arith, less, two.near, le);
  }

-- want of memory
pub refused : {T E : Type 0} (r : Result T E) (P : T → Type 0) → IsErr r → IfOk r P
refused (Ok x) P h = absurd (true≢false (sym h))
refused (Err e) P h = tt

-- an end that is no value passes
no_value : (w : ℕ) (cells : List PlainCell) (how : Ended) (v : Value) (s : State) (k : meaning.Value → Plan) → IsEnd how → (how ≡ ended.Is → ⊥)
    → on_value (completion_of w cells (ended_as how v)) s k ≡ Ret (completion_of w cells (ended_as how v)) s
no_value w cells ended.Left v s k h other = absurd h
no_value w cells ended.Is v s k h other = absurd (other refl)
no_value w cells ended.Normal v s k h other = refl
no_value w cells ended.Return v s k h other = refl
no_value w cells ended.Break v s k h other = refl
no_value w cells ended.Continue v s k h other = refl
no_value w cells ended.Threw v s k h other = refl

-- and one that is no reference
no_reference : (w : ℕ) (cells : List PlainCell) (how : Ended) (v : Value) (s : State) (k : meaning.Reference → Plan) → IsEnd how → (how ≡ ended.Is → ⊥)
    → on_reference (completion_of w cells (ended_as how v)) s k ≡ Ret (completion_of w cells (ended_as how v)) s
no_reference w cells ended.Left v s k h other = absurd h
no_reference w cells ended.Is v s k h other = absurd (other refl)
no_reference w cells ended.Normal v s k h other = refl
no_reference w cells ended.Return v s k h other = refl
no_reference w cells ended.Break v s k h other = refl
no_reference w cells ended.Continue v s k h other = refl
no_reference w cells ended.Threw v s k h other = refl

-- the measure of a loop over arguments
pub fewer : (l more : List Expr) (n : ℕ) (e : Expr) → drop n l ≡ e ∷ more → length l - (n + 1) < length l - n
fewer [] more zero e h = absurd (cc)
fewer [] more (suc n) e h = absurd (cc)
fewer (x ∷ l) more zero e h = omega arith
fewer (x ∷ l) more (suc n) e h = omega (arith, fewer l more n e h)

-- a call waits, by the clauses of `wait`
pub waits_for : {E : Type 0} (result : Result Ended E) (had has : Run) (b : Box Argument) (a : Argument) → b.value ≡ a
    → IfOk result (λ h. h ≡ ended.Left) → IfOk result (λ h. has.waits.items ≡ had.waits.items ++ frame.Call (call.Argument b) ∷ []) → IfOk result (λ h. has.next ≡ had.next) → IfOk result (λ h. has.units ≡ had.units)
    → IfOk result (λ h. WaitsFor had has h a)
waits_for (Ok h) had has b a holds left waits next units = record { left = left; box = b; holds = holds; waits = waits; next = next; units = units }
waits_for (Err e) had has b a holds left waits next units = tt

pub argument_left : {E : Type 0} (result : Result Ended E) (had has : Run) (how : Ended) (a : Argument) → how ≡ ended.Left → IfOk result (λ h. WaitsFor had has h a) → IfOk result (λ h. HandsArgument had has how h a)
argument_left (Ok h) had has how a is one = record { is = one.left ∙ sym is; waits = λ e. one; none = λ not_it. absurd (not_it is) }
argument_left (Err e) had has how a is one = tt

pub argument_ended : (had : Run) (how : Ended) (a : Argument) → (how ≡ ended.Left → ⊥) → HandsArgument had had how how a
argument_ended had how a not_it = record { is = refl; waits = λ e. absurd (not_it e); none = λ n. refl }

-- what is left behind so many values
pub more_at : (es : List Expr) (n : ℕ) (vs : List Value) (x : Expr) → n ≡ length vs → drop n es ≡ x ∷ drop (n + 1) es → drop (length vs) es ≡ x ∷ drop (length vs + 1) es
more_at es n vs x e h = subst (λ (k : ℕ). drop k es ≡ x ∷ drop (k + 1) es) e h

-- one value more
longer : (vs : List Value) (v : Value) → length vs + 1 ≡ length (vs ++ v ∷ [])
longer [] v = refl
longer (x ∷ vs) v = let e : suc (length vs) + 1 ≡ suc (length vs + 1) = omega arith in e ∙ ap suc (longer vs v)

-- how many there are
pub counted : (n : ℕ) (vs us : List Value) (v : Value) → n ≡ length vs → us ≡ vs ++ v ∷ [] → n + 1 ≡ length us
counted n vs us v e is = ap (λ k. k + 1) e ∙ longer vs v ∙ ap length (sym is)

module _ (fs : List Forest) (w : ℕ) where
  fine_more : (cells : List PlainCell) (vs : List Value) (v : Value) → AreFine w cells vs → IsFine w cells v → AreFine w cells (vs ++ v ∷ [])
  fine_more cells [] v h k = (k, tt)
  fine_more cells (x ∷ vs) v h k = (h.0, fine_more cells vs v h.1 k)

  module _ (es : List Expr) (p : plan.Place) where
    -- what is left to do at an end that is no value
    argued_end : (cells : List PlainCell) (of : meaning.Reference) (vs : List Value) (how : Ended) (v : Value) (r : Run) (s : State) → IsEnd how → (how ≡ ended.Is → ⊥) → argued fs w es p cells of vs how v r s ≡ Ret (completion_of w cells (ended_as how v)) s
    argued_end cells of vs ended.Left v r s h other = absurd h
    argued_end cells of vs ended.Is v r s h other = absurd (other refl)
    argued_end cells of vs ended.Normal v r s h other = refl
    argued_end cells of vs ended.Return v r s h other = refl
    argued_end cells of vs ended.Break v r s h other = refl
    argued_end cells of vs ended.Continue v r s h other = refl
    argued_end cells of vs ended.Threw v r s h other = refl

    -- as the store grows, what waits for an argument is the same
    argument_same : (old new : List PlainCell) (g : Grows w old new) (of : meaning.Reference) (vs : List Value) → AreFine w old vs → argument_then fs w es p new of vs ≡ argument_then fs w es p old of vs
    argument_same old new g of vs h = λ i. after (λ v t. arguments_then of (all_same w old new g vs h i ++ v ∷ []) (drop (length vs + 1) es) p t)

    -- none is there
    pub none_there : (s : Cells) (vs : List Value) (had : Run) → vs ≡ [] → had.waits.items ≡ [] → Argued fs w es p s s vs had had
    none_there s vs had none waits = subst (λ (l : List Value). Argued fs w es p s s l had had) (sym none) record {
      units = omega arith;
      reduces = λ of r. counts 0 (had.units - had.units) _ _ (omega arith) refl;
      fine = tt;
      waits = waits;
    }

    -- all are there
    pub all_there : (old new : Cells) (vs : List Value) (had has : Run) (v : Value) → Argued fs w es p old new vs had has → drop (length vs) es ≡ [] → Argues fs w es p old new vs had has ended.Is v
    all_there old new vs had has v one over = record {
      units = one.units;
      reduces = λ of r. ends (had.units - has.units) _ _ _ (one.reduces of r) (ap (λ l. arguments_then of (all_seen w new.cells vs) l p (image fs r w new)) over);
      all = one.fine;
      fine = one.waits;
      near = omega (arith, one.units);
    }

    -- another one is carried out
    module _ (old cur : Cells) (vs : List Value) (had mid : Run) (at : Place) (e : ExprId) (so_far : Argued fs w es p old cur vs had mid) (here : place_of w cur.cells at ≡ p)
        (more : drop (length vs) es ≡ expr_at (forest_at fs at.code) e ∷ drop (length vs + 1) es) where
      abbrev asked : State → Plan
      asked s = Do (job_of fs w cur.cells (job.Eval e at)) s Ret

      abbrev waiting_for : meaning.Reference → meaning.Completion → State → Plan
      waiting_for of = argument_then fs w es p cur.cells of vs

      asks : (of : meaning.Reference) (r : Rest) → Reduces (had.units - mid.units) (arguments_then of [] es p (image fs r w old)) (and_then (asked (image fs r w cur)) (waiting_for of))
      asks of r = ends (had.units - mid.units) _ _ _ (so_far.reduces of r)
          (ap (λ l. arguments_then of (all_seen w cur.cells vs) l p (image fs r w cur)) more
          ∙ (λ i. Do (plan.Eval (expr_at (forest_at fs at.code) e) (sym here i)) (image fs r w cur) (waiting_for of)))

      -- it has its value
      pub one_there : (new : Cells) (us : List Value) (has : Run) (how : Ended) (v : Value) → ComesTo fs w cur new 0 asked mid has how (ended_as how v) → how ≡ ended.Is → Grows w cur.cells new.cells
          → us ≡ vs ++ v ∷ [] → Argued fs w es p old new us had has
      one_there new us has how v one is g same = subst (λ (l : List Value). Argued fs w es p old new l had has) (sym same) record {
        units = omega (arith, so_far.units, one.units);
        reduces = λ of r. counts ((had.units - mid.units) + (mid.units - has.units)) _ _ _ (omega (arith, so_far.units, one.units))
            (after_each (had.units - mid.units) (mid.units - has.units) _ _ _ (asks of r)
            (ends (mid.units - has.units) _ _ _ (under (mid.units - has.units) (asked (image fs r w cur)) _ (waiting_for of) (by.reduces r)) (goes of r)));
        fine = fine_more new.cells vs v (all_fine w cur.cells new.cells g vs so_far.fine) by.fine.0;
        waits = by.fine.1;
      }
        where
          by : ComesTo fs w cur new 0 asked mid has ended.Is (completion.Is v)
          by = subst (λ (h : Ended). ComesTo fs w cur new 0 asked mid has h (ended_as h v)) is one

          seen_all : all_seen w cur.cells vs ++ seen w new.cells v ∷ [] ≡ all_seen w new.cells (vs ++ v ∷ [])
          seen_all = (λ i. sym (all_same w cur.cells new.cells g vs so_far.fine) i ++ seen w new.cells v ∷ []) ∙ sym (map-append (seen w new.cells) vs (v ∷ []))

          goes : (of : meaning.Reference) (r : Rest) → waiting_for of (meaning.Is (seen w new.cells v)) (image fs r w new) ≡ arguments_then of (all_seen w new.cells (vs ++ v ∷ [])) (drop (length (vs ++ v ∷ [])) es) p (image fs r w new)
          goes of r = λ i. arguments_then of (seen_all i) (drop (longer vs v i) es) p (image fs r w new)

      -- it ended otherwise, or is suspended
      pub other_there : (new : Cells) (us : List Value) (has : Run) (how : Ended) (v : Value) → ComesTo fs w cur new 0 asked mid has how (ended_as how v) → (how ≡ ended.Is → ⊥) → Grows w cur.cells new.cells
          → us ≡ vs → Argues fs w es p old new us had has how v
      other_there new us has how v one other g same = subst (λ (l : List Value). Argues fs w es p old new l had has how v) (sym same) (by_how how one other)
        where
          goes : (how : Ended) → ComesTo fs w cur new 0 asked mid has how (ended_as how v) → (of : meaning.Reference) (r : Rest)
              → Reduces (had.units - has.units) (arguments_then of [] es p (image fs r w old)) (and_then (came fs w new.cells how (ended_as how v) has (image fs r w new)) (waiting_for of))
          goes how one of r = counts ((had.units - mid.units) + (mid.units - has.units)) _ _ _ (omega (arith, so_far.units, one.units))
              (after_each (had.units - mid.units) (mid.units - has.units) _ _ _ (asks of r)
              (under (mid.units - has.units) (asked (image fs r w cur)) _ (waiting_for of) (one.reduces r)))

          fine : AreFine w new.cells vs
          fine = all_fine w cur.cells new.cells g vs so_far.fine

          at_end : (how : Ended) → ComesTo fs w cur new 0 asked mid has how (ended_as how v) → IsEnd how → (how ≡ ended.Is → ⊥) → FineArgued fs w new.cells how v has → Argues fs w es p old new vs had has how v
          at_end how one end other held = record {
            units = omega (arith, so_far.units, one.units);
            reduces = λ of r. ends (had.units - has.units) _ _ _ (goes how one of r)
                (ap (λ q. and_then q (waiting_for of)) (came_end fs w new.cells how (ended_as how v) has (image fs r w new) end)
                ∙ (no_value w new.cells how v (image fs r w new) _ end other ∙ sym (argued_end new.cells of vs how v has (image fs r w new) end other)));
            all = fine;
            fine = held;
            near = omega (arith, so_far.units, one.near);
          }

          by_how : (how : Ended) → ComesTo fs w cur new 0 asked mid has how (ended_as how v) → (how ≡ ended.Is → ⊥) → Argues fs w es p old new vs had has how v
          by_how ended.Is one other = absurd (other refl)
          by_how ended.Left one other = record {
            units = omega (arith, so_far.units, one.units);
            reduces = λ of r. ends (had.units - has.units) _ _ _ (goes ended.Left one of r)
                (ap (λ k. and_then (came fs w new.cells ended.Left (ended_as ended.Left v) has (image fs r w new)) k) (sym (argument_same cur.cells new.cells g of vs so_far.fine)));
            all = fine;
            fine = one.fine;
            near = omega (arith, so_far.units, one.near);
          }
          by_how ended.Normal one other = at_end ended.Normal one tt other one.fine
          by_how ended.Return one other = at_end ended.Return one tt other one.fine
          by_how ended.Break one other = at_end ended.Break one tt other one.fine
          by_how ended.Continue one other = at_end ended.Continue one tt other one.fine
          by_how ended.Threw one other = at_end ended.Threw one tt other one.fine

  -- ## After the arguments

  module _ (es : List Expr) (p : plan.Place) (old mid : Cells) (vs : List Value) (had part : Run) (how : Ended) (v : Value) (one : Argues fs w es p old mid vs had part how v) where
    -- all are there, and nothing waits
    pub argued_waits_none : how ≡ ended.Is → part.waits.items ≡ []
    argued_waits_none is = subst (λ (h : Ended). FineArgued fs w mid.cells h v part) is one.fine

    pub argued_then : (of of1 : meaning.Reference) (p1 : plan.Place) (new : Cells) (has : Run) (next : Ended) (a : Completion) → how ≡ ended.Is → of1 ≡ of → p1 ≡ p
        → ComesTo fs w mid new 4 (arguments_then of1 (all_seen w mid.cells vs) [] p1) part has next a → ComesTo fs w old new 5 (arguments_then of [] es p) had has next a
    argued_then of of1 p1 new has next a is same here two = record {
      units = omega (arith, one.units, two.units);
      reduces = λ r. counts ((had.units - part.units) + (part.units - has.units)) _ _ _ (omega (arith, one.units, two.units))
          (after_each (had.units - part.units) (part.units - has.units) _ _ _
          (ends (had.units - part.units) _ _ _ (one.reduces of r)
          ((λ i. argued fs w es p mid.cells of vs (is i) v part (image fs r w mid)) ∙ (λ i. arguments_then (sym same i) (all_seen w mid.cells vs) [] (sym here i) (image fs r w mid))))
          (two.reduces r));
      fine = two.fine;
      near = omega (arith, one.units, two.near);
    }

    -- another end passes
    argued_passes : (of : meaning.Reference) → (how ≡ ended.Left → ⊥) → (how ≡ ended.Is → ⊥) → ComesTo fs w old mid 5 (arguments_then of [] es p) had part how (ended_as how v)
    argued_passes of no_left other =
        let end : IsEnd how = other_end how no_left in
        record {
          units = one.units;
          reduces = λ r. ends (had.units - part.units) _ _ _ (one.reduces of r)
              (argued_end es p mid.cells of vs how v part (image fs r w mid) end other ∙ sym (came_end fs w mid.cells how (ended_as how v) part (image fs r w mid) end));
          fine = held how other one.fine;
          near = omega (arith, one.near);
        }
      where
        held : (h : Ended) → (h ≡ ended.Is → ⊥) → FineArgued fs w mid.cells h v part → FineCame fs w mid.cells h (ended_as h v) part
        held ended.Is other k = absurd (other refl)
        held ended.Left other k = k
        held ended.Normal other k = k
        held ended.Return other k = k
        held ended.Break other k = k
        held ended.Continue other k = k
        held ended.Threw other k = k

    -- one of them is suspended, and the call waits for it
    module _ (of : meaning.Reference) (a : Argument) (refers : reference_of w mid.cells a.of ≡ of) (args : a.args.items ≡ vs) (listed : arguments_of (expr_at (forest_at fs a.place.code) a.call) ≡ es) (behind : a.next ≡ length vs + 1) (here : place_of w mid.cells a.place ≡ p)
        (fine_of : FineReference w mid.cells a.of) (fine_at : IsExprAt fs w mid.cells a.call a.place) where
      taken_same : argument_then fs w es p mid.cells of vs ≡ argument_taken fs w mid.cells a
      taken_same = λ i. after (λ u t. arguments_then (sym refers i) (all_seen w mid.cells (sym args i) ++ u ∷ []) (drop (sym behind i) (sym listed i)) (sym here i) t)

      waits_one : (has : Run) (next : Ended) (o : Completion) → how ≡ ended.Left → WaitsFor part has next a → ComesTo fs w old mid 5 (arguments_then of [] es p) had has next o
      waits_one has next o is w1 = subst (λ (h : Ended). ComesTo fs w old mid 5 (arguments_then of [] es p) had has h o) (sym w1.left) by
        where
          was : Argues fs w es p old mid vs had part ended.Left v
          was = subst (λ (h : Ended). Argues fs w es p old mid vs had part h v) is one

          f : Frame
          f = frame.Call (call.Argument w1.box)

          goes : (r : Rest) → and_then (came fs w mid.cells ended.Left (ended_as ended.Left v) part (image fs r w mid)) (argument_then fs w es p mid.cells of vs) ≡ came fs w mid.cells ended.Left o has (image fs r w mid)
          goes r =
              (λ i. and_then (came fs w mid.cells ended.Left (ended_as ended.Left v) part (image fs r w mid)) (taken_same i))
              ∙ (λ i. and_then (came fs w mid.cells ended.Left (ended_as ended.Left v) part (image fs r w mid)) (argument_taken fs w mid.cells (sym w1.holds i)))
              ∙ outward_more fs w mid.cells part.waits.items f (next_plan fs w mid.cells part.next (image fs r w mid))
              ∙ (λ i. and_then (next_plan fs w mid.cells (sym w1.next i) (image fs r w mid)) (outward fs w mid.cells (sym w1.waits i)))

          by : ComesTo fs w old mid 5 (arguments_then of [] es p) had has ended.Left o
          by = record {
            units = omega (arith, was.units, w1.units);
            reduces = λ r. counts (had.units - part.units) _ _ _ (omega (arith, w1.units)) (ends (had.units - part.units) _ _ _ (was.reduces of r) (goes r));
            fine = (
              subst (λ (n : Next). FineWith fs w mid.cells n) (sym w1.next) was.fine.0,
              subst (λ (frames : List Frame). FineFrames fs w mid.cells frames) (sym w1.waits)
                  (fine_last fs w mid.cells part.waits.items f was.fine.1
                  (subst (λ (x : Argument). FineArgument fs w mid.cells x) (sym w1.holds) (fine_of, subst (AreFine w mid.cells) (sym args) was.all, fine_at))),
            );
            near = omega (arith, was.near, w1.units, ap next_free w1.next, ap frames_free w1.waits ∙ free_last part.waits.items f);
          }

      at_end : (has : Run) (next : Ended) → (how ≡ ended.Is → ⊥) → HandsArgument part has how next a → (h : Ended) → IsEnd h → h ≡ how → ComesTo fs w old mid 5 (arguments_then of [] es p) had has next (ended_as next v)
      at_end has next other hand h end same =
          let no_left = λ (q : how ≡ ended.Left). subst IsEnd (same ∙ q) end in
          subst (λ (x : Ended). ComesTo fs w old mid 5 (arguments_then of [] es p) had has x (ended_as x v)) (sym hand.is)
          (subst (λ (r : Run). ComesTo fs w old mid 5 (arguments_then of [] es p) had r how (ended_as how v)) (sym (hand.none no_left)) (argued_passes of no_left other))

      hands_one : (has : Run) (next : Ended) → (how ≡ ended.Is → ⊥) → HandsArgument part has how next a → (h : Ended) → h ≡ how → ComesTo fs w old mid 5 (arguments_then of [] es p) had has next (ended_as next v)
      hands_one has next other hand ended.Left same = waits_one has next (ended_as next v) (sym same) (hand.waits (sym same))
      hands_one has next other hand ended.Is same = at_end has next other hand ended.Is tt same
      hands_one has next other hand ended.Normal same = at_end has next other hand ended.Normal tt same
      hands_one has next other hand ended.Return same = at_end has next other hand ended.Return tt same
      hands_one has next other hand ended.Break same = at_end has next other hand ended.Break tt same
      hands_one has next other hand ended.Continue same = at_end has next other hand ended.Continue tt same
      hands_one has next other hand ended.Threw same = at_end has next other hand ended.Threw tt same

      pub argued_hands : {E : Type 0} (result : Result Ended E) (has : Run) → (how ≡ ended.Is → ⊥) → IfOk result (λ next. HandsArgument part has how next a)
          → IfOk result (λ next. ComesTo fs w old mid 5 (arguments_then of [] es p) had has next (ended_as next v))
      argued_hands (Ok next) has other hand = hands_one has next other hand how refl
      argued_hands (Err e) has other hand = tt

  -- after the target of a call
  module _ (s0 s1 : Cells) (p : State → Plan) (had mid : Run) (how : Ended) (x : Reference) (v : Value) (id : ExprId) (q : Place) (held : IsExprAt fs w s0.cells id q) (kept : Kept fs w s0 s1)
      (one : ComesTo fs w s0 s1 0 p had mid how (target_as how x v)) where
    abbrev waiting : Frame
    waiting = frame.Call (call.Callee id q)

    pub callee_there : (s2 : Cells) (has : Run) (next : Ended) (a : Completion) → how ≡ ended.Is
        → ComesTo fs w s1 s2 5 (arguments_then (reference_of w s1.cells x) [] (arguments_of (expr_at (forest_at fs q.code) id)) (place_of w s1.cells q)) mid has next a
        → ComesTo fs w s0 s2 30 (λ s. and_then (p s) (taken fs w s0.cells waiting)) had has next a
    callee_there s2 has next a is two =
        part_then fs w s0 s1 s2 0 5 30 p waiting had mid has ended.Is next (completion.Refers x) a
        (subst (λ (h : Ended). ComesTo fs w s0 s1 0 p had mid h (target_as h x v)) is one) tt kept.grows held two (omega arith)

    pub callee_hands : {E : Type 0} (result : Result Ended E) (has : Run) → (how ≡ ended.Is → ⊥) → IfOk result (λ h. HandsOn mid has how h waiting)
        → IfOk result (λ h. ComesTo fs w s0 s1 30 (λ s. and_then (p s) (taken fs w s0.cells waiting)) had has h (ended_as h v))
    callee_hands result has other hand =
        hand_ok fs w result s0 s1 0 30 p waiting had mid has how v (target_ends fs w s0 s1 0 p had mid how x v one other)
        (λ t no_left. no_reference w s1.cells how v t _ (other_end how no_left) other) kept held (omega arith) hand
