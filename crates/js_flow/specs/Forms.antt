-- What the frames of expressions and targets have still to do, each by its row of the meaning.
use Rattle.std.specs.Prelude.{ℕ, ◌+◌, List, [], ◌∷◌, drop}
use Rattle.js_tree.specs.Plain.{Expr}
use Rattle.js_tree.specs.Forest.{Forest, expr_at}
use Rattle.store_cells.specs.declared.value.Value.TheVariants as value
use Rattle.store_cells.specs.Cells.{PlainCell}
use Rattle.widget_meaning.specs.Values as meaning
use Rattle.widget_meaning.specs.Values.{Value, Completion, to_text}
use Rattle.widget_meaning.specs.OwnState.{State}
use Rattle.widget_meaning.specs.Plan as plan
use Rattle.widget_meaning.specs.Plan.{Plan, Ret, after}
use Rattle.widget_meaning.specs.Costs.{give}
use Rattle.widget_meaning.specs.Operators.{binary, unary}
use Rattle.widget_meaning.specs.Properties.{index_name, put, read}
use Rattle.widget_meaning.specs.Expressions.{and_right, array_parts, assign_target, assign_with, binary_right, choose, converted_left, delete_target, object_parts, operate, or_right, refer, result, step_converted, step_target, subscript_read, subscript_target, unary_on, write}
use Rattle.js_image.specs.Image.{seen}
use Rattle.js_flow.specs.declared.frame.FormFrame.{FormFrame}
use Rattle.js_flow.specs.declared.frame.FormFrame.TheVariants as frame
use Rattle.js_flow.specs.Parts.{elements_of, forest_at, properties_of}
use Rattle.js_flow.specs.Views.{place_of, reference_of}

-- the property at the head of these has its value: it is written, and then come those after it
abbrev pub property_done : Value → List (List ℕ × Expr) → plan.Place → Value → State → Plan
property_done a [] p v t = give a t
property_done a (q ∷ qs) p v t = put a q.0 v t (object_parts a qs p)

module _ (fs : List Forest) (w : ℕ) (cells : List PlainCell) where
  -- what a frame does with how its part ended
  abbrev pub form_taken : FormFrame → Completion → State → Plan
  form_taken (frame.Dot x) = after (λ b t. read b x t)
  form_taken (frame.TargetDot x) = after (λ b t. refer b x t)
  form_taken (frame.SubBase e p) = subscript_read (expr_at (forest_at fs p.code) e) (place_of w cells p)
  form_taken (frame.Sub b) = after (λ v t. read (seen w cells b) (to_text v) t)
  form_taken (frame.TargetSubBase e p) = subscript_target (expr_at (forest_at fs p.code) e) (place_of w cells p)
  form_taken (frame.TargetSub b) = after (λ v t. refer (seen w cells b) (to_text v) t)
  form_taken frame.Found = after (λ v t. Ret (meaning.Refers (meaning.Found v)) t)
  form_taken (frame.Element a e n p) = after (λ v t. put (seen w cells (value.Ref a)) (index_name n) v t
      (array_parts (seen w cells (value.Ref a)) (n + 1) (drop (n + 1) (elements_of (expr_at (forest_at fs p.code) e))) (place_of w cells p)))
  form_taken (frame.Property a e n p) = after (λ v t. property_done (seen w cells (value.Ref a))
      (drop n (properties_of (expr_at (forest_at fs p.code) e))) (place_of w cells p) v t)
  form_taken (frame.Right op e p) = binary_right op (expr_at (forest_at fs p.code) e) (place_of w cells p)
  form_taken (frame.Operate op v d) = after (λ u t. operate op (seen w cells v) u d t)
  form_taken (frame.ConvertedLeft op v d) = converted_left op (seen w cells v) d
  form_taken (frame.ConvertedRight op v) = after (λ u t. result (binary op (seen w cells v) u) t)
  form_taken (frame.Prefix op p) = after (λ v t. unary_on op v (place_of w cells p) t)
  form_taken (frame.ConvertedPrefix op) = after (λ v t. result (unary op v) t)
  form_taken frame.Delete = delete_target
  form_taken (frame.StepTarget op p) = step_target op (place_of w cells p)
  form_taken (frame.StepConverted op r p) = step_converted op (reference_of w cells r.value) (place_of w cells p)
  form_taken (frame.AssignTarget op e p) = assign_target op (expr_at (forest_at fs p.code) e) (place_of w cells p)
  form_taken (frame.AssignWith a) = assign_with a.value.op (reference_of w cells a.value.of) (seen w cells a.value.has) (place_of w cells a.value.place)
  form_taken (frame.Write r p) = after (λ v t. write (reference_of w cells r) (place_of w cells p) v t (give v))
  form_taken (frame.And e p) = and_right (expr_at (forest_at fs p.code) e) (place_of w cells p)
  form_taken (frame.Or e p) = or_right (expr_at (forest_at fs p.code) e) (place_of w cells p)
  form_taken (frame.Choose a b p) = choose (expr_at (forest_at fs p.code) a) (expr_at (forest_at fs p.code) b) (place_of w cells p)
