-- What frames have still to do, over what a form leaves.
use Rattle.std.proofs.Common.{◌≡◌, ℕ, List, [], ◌∷◌, ◌++◌, refl, sym, ap, ◌∙◌}
use Rattle.js_tree.specs.Forest.{Forest}
use Rattle.store_cells.specs.Cells.{PlainCell}
use Rattle.widget_meaning.specs.Values.{Completion}
use Rattle.widget_meaning.specs.OwnState.{State}
use Rattle.widget_meaning.specs.Plan.{Plan, Ret, and_then}
use Rattle.widget_meaning.proofs.Runs.{and_then_assoc}
use Rattle.js_flow.specs.declared.frame.Frame.{Frame}
use Rattle.js_flow.specs.Left.{Left}
use Rattle.js_flow.specs.Frames.{before, next_plan, over, planned, rest, taken}

module _ (fs : List Forest) (w : ℕ) (cells : List PlainCell) where
  over_both : (below above : List Frame) (k : Completion → State → Plan) → over fs w cells (below ++ above) k ≡ over fs w cells above (over fs w cells below k)
  over_both [] above k = refl
  over_both (f ∷ below) above k = over_both below above (λ o s. and_then (taken fs w cells f o s) k)

  before_over : (above : List Frame) (p : Plan) (k : Completion → State → Plan) → and_then (before fs w cells above p) k ≡ and_then p (over fs w cells above k)
  before_over [] p k = refl
  before_over (f ∷ above) p k =
      and_then_assoc (before fs w cells above p) (taken fs w cells f) k
      ∙ before_over above p (λ o s. and_then (taken fs w cells f o s) k)

  pub rest_last : (below : List Frame) (f : Frame) → rest fs w cells (below ++ f ∷ []) ≡ (λ o s. and_then (taken fs w cells f o s) (rest fs w cells below))
  rest_last below f = over_both below (f ∷ []) Ret

  -- what is left, and then the frames that were there, is what is next, and then all frames
  pub left_then : (l : Left) (s : State) → and_then (planned fs w cells l s) (rest fs w cells l.below) ≡ and_then (next_plan fs w cells l.next s) (rest fs w cells (l.below ++ l.above))
  left_then l s =
      before_over l.above (next_plan fs w cells l.next s) (rest fs w cells l.below)
      ∙ sym (ap (and_then (next_plan fs w cells l.next s)) (over_both l.below l.above Ret))
