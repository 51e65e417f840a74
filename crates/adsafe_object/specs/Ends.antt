-- When a function carries out a native's plan at the image of a widget that is confined.
use Rattle.std.specs.Prelude.{◌≡◌, ◌+◌, ℕ, List, length}
use Rattle.js_tree.specs.Forest.{Forest}
use Rattle.store_cells.specs.Cells.{Cells}
use Rattle.widget_meaning.specs.OwnState.{State}
use Rattle.widget_meaning.specs.Plan.{Plan}
use Rattle.js_image.specs.Held.{IsConfined, Kept}
use Rattle.js_image.specs.Image.{Rest, image, seen}
use Rattle.js_values.specs.declared.outcome.NativeOut.{NativeOut}
use Rattle.js_values.specs.Answers.{Answers, IsFineOut, IsOutOfFuel, Leaves}
use Rattle.js_values.specs.Fuel.{Fuel}
use Rattle.adsafe_object.specs.Notes.{Notes, noted}

-- What is left of a plan of widget w by an answer, where no fuel was taken and the widget is confined.
pub record EndsConfined (w : ℕ) (old new : Cells) (plan : ℕ → State → Plan) (o : NativeOut) : Type 0 where
  pub leaves : (fs : List Forest) (r : Rest) (node : ℕ → ℕ) (d : ℕ) → IsConfined fs w old
      → Leaves (seen w new.cells) node d o (image fs r w new) (plan d (image fs r w old))
  pub fine : (fs : List Forest) → IsConfined fs w old → IsFineOut w new.cells o
  pub paid : IsOutOfFuel o → ⊥
  pub kept : (fs : List Forest) → Kept fs w old new

-- The same where notes change and so many timers wait.
pub record EndsNoted (w waiting : ℕ) (old new : Cells) (before after : Notes) (plan : ℕ → State → Plan) (o : NativeOut) : Type 0 where
  pub leaves : (fs : List Forest) (r : Rest) (node : ℕ → ℕ) (d : ℕ) → length r.state.own.timers ≡ waiting
      → Leaves (seen w new.cells) node d o (image fs (noted w new.cells after r) w new) (plan d (image fs (noted w old.cells before r) w old))
  pub fine : IsFineOut w new.cells o
  pub paid : IsOutOfFuel o → ⊥
  pub kept : (fs : List Forest) → Kept fs w old new

-- What a native answers, with the store, the fuel and the notes before and after it, where the widget is confined and so many timers wait. It is what the plan gives, the widget may hold it, all fuel that was taken was spent, and nothing changed where fuel is wanting.
pub record RefinesNoted (w waiting : ℕ) (old new : Cells) (had has : Fuel) (before after : Notes) (plan : ℕ → State → Plan) (o : NativeOut) : Type 0 where
  pub answer : (fs : List Forest) (r : Rest) (node : ℕ → ℕ) (d : ℕ) → IsConfined fs w old → length r.state.own.timers ≡ waiting
      → Answers (seen w new.cells) node d (plan d (image fs (noted w old.cells before r) w old)) (image fs (noted w old.cells before r) w old)
      o (image fs (noted w new.cells after r) w new) had.left has.left
  pub fine : (fs : List Forest) → IsConfined fs w old → IsFineOut w new.cells o
  pub spent : has.left + has.spent ≡ had.left + had.spent
  pub unpaid : IsOutOfFuel o → (new ≡ old) × (has ≡ had) × (after ≡ before)
  pub kept : (fs : List Forest) → Kept fs w old new

-- The same of a native that keeps no note, however many timers wait.
pub record RefinesSilent (w : ℕ) (old new : Cells) (had has : Fuel) (plan : ℕ → State → Plan) (o : NativeOut) : Type 0 where
  pub answer : (fs : List Forest) (r : Rest) (node : ℕ → ℕ) (d : ℕ) → IsConfined fs w old
      → Answers (seen w new.cells) node d (plan d (image fs r w old)) (image fs r w old) o (image fs r w new) had.left has.left
  pub fine : (fs : List Forest) → IsConfined fs w old → IsFineOut w new.cells o
  pub spent : has.left + has.spent ≡ had.left + had.spent
  pub unpaid : IsOutOfFuel o → (new ≡ old) × (has ≡ had)
  pub kept : (fs : List Forest) → Kept fs w old new
