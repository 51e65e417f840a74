-- How an answer meets its plan where the widget is confined.
use Rattle.std.proofs.Common.{◌≡◌, ℕ, List, sym, subst}
use Rattle.js_tree.specs.Forest.{Forest}
use Rattle.store_cells.specs.Cells.{Cells}
use Rattle.widget_meaning.specs.OwnState.{State}
use Rattle.widget_meaning.specs.Plan.{Plan}
use Rattle.js_image.specs.Held.{IsConfined}
use Rattle.js_image.specs.Image.{Rest, image, seen}
use Rattle.js_values.specs.Answers.{Answers}
use Rattle.js_values.specs.Fuel.{Fuel}
use Rattle.js_values.specs.declared.outcome.NativeOut.{NativeOut}
use Rattle.native_common.specs.Refines.{Refines}
use Rattle.json_text.specs.Confined.{RefinesConfined}

-- a plan that is the same at the image of a confined widget
pub confined_as : (w : ℕ) (old new : Cells) (had has : Fuel) (p q : ℕ → State → Plan) (o : NativeOut)
    → ((fs : List Forest) (r : Rest) (d : ℕ) → IsConfined fs w old → p d (image fs r w old) ≡ q d (image fs r w old)) → Refines w old new had has q o → RefinesConfined w old new had has p o
confined_as w old new had has p q o e h = record {
  answer = λ fs r node d confined. subst (λ (x : Plan). Answers (seen w new.cells) node d x (image fs r w old) o (image fs r w new) had.left has.left) (sym (e fs r d confined)) (h.answer fs r node d);
  fine = h.fine;
  spent = h.spent;
  unpaid = h.unpaid;
  kept = h.kept;
}
