-- When a native is carried out where it is called.
use Rattle.std.specs.Prelude.{◌≡◌, ℕ, ◌+◌, List}
use Rattle.js_tree.specs.Forest.{Forest}
use Rattle.store_cells.specs.Cells.{Cells}
use Rattle.widget_meaning.specs.OwnState.{State}
use Rattle.widget_meaning.specs.Plan.{Plan}
use Rattle.js_image.specs.Held.{IsConfined}
use Rattle.js_image.specs.Image.{Rest, image, seen}
use Rattle.js_values.specs.Answers.{Goes, IsCarried, IsFineOut, Lacks, Leaves}
use Rattle.js_values.specs.declared.outcome.NativeOut.{NativeOut}

-- A native of widget w took some fuel and what is left of its plan is its answer, which asks for no handlers, and which the widget may hold.
pub record Done (w : ℕ) (old new : Cells) (before left : ℕ) (plan : ℕ → State → Plan) (o : NativeOut) : Type 0 where
  pub answer : (fs : List Forest) (r : Rest) (node : ℕ → ℕ) (d : ℕ) → IsConfined fs w old
      → (c : ℕ) × (q : Plan) × (before ≡ c + left) × Goes (plan d (image fs r w old)) (image fs r w old) c q × Leaves (seen w new.cells) node d o (image fs r w new) q
  pub fine : IsFineOut w new.cells o
  pub carried : IsCarried o

-- A plan of widget w has too little fuel.
abbrev pub Wants : ℕ → Cells → ℕ → (ℕ → State → Plan) → Type 0
Wants w old left plan = (fs : List Forest) (r : Rest) (d : ℕ) → IsConfined fs w old → Lacks (plan d (image fs r w old)) (image fs r w old) left
