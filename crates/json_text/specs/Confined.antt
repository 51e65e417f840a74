-- When a function carries out a native's plan at the image of a widget that is confined.
use Rattle.std.specs.Prelude.{◌≡◌, ◌+◌, ℕ, List}
use Rattle.js_tree.specs.Forest.{Forest}
use Rattle.store_cells.specs.Cells.{Cells}
use Rattle.widget_meaning.specs.OwnState.{State}
use Rattle.widget_meaning.specs.Plan.{Plan}
use Rattle.js_image.specs.Held.{IsConfined, Kept}
use Rattle.js_image.specs.Image.{Rest, image, seen}
use Rattle.js_values.specs.declared.outcome.NativeOut.{NativeOut}
use Rattle.js_values.specs.Answers.{Answers, IsFineOut, IsOutOfFuel}
use Rattle.js_values.specs.Fuel.{Fuel}

-- What a native answers where its widget is confined, with the store and the fuel before and after it: it is what the plan gives, the widget may hold it, all fuel that was taken was spent, and nothing changed where fuel is wanting.
pub record RefinesConfined (w : ℕ) (old new : Cells) (had has : Fuel) (plan : ℕ → State → Plan) (o : NativeOut) : Type 0 where
  pub answer : (fs : List Forest) (r : Rest) (node : ℕ → ℕ) (d : ℕ) → IsConfined fs w old
      → Answers (seen w new.cells) node d (plan d (image fs r w old)) (image fs r w old) o (image fs r w new) had.left has.left
  pub fine : IsFineOut w new.cells o
  pub spent : has.left + has.spent ≡ had.left + had.spent
  pub unpaid : IsOutOfFuel o → (new ≡ old) × (has ≡ had)
  pub kept : (fs : List Forest) → Kept fs w old new
