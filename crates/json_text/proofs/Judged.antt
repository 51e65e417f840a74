-- After a text was judged the store is what it was.
use Rattle.std.proofs.Common.{◌≡◌, ℕ, List, Result, IfOk, OnErr, sym, subst}
use Rattle.js_tree.specs.Forest.{Forest}
use Rattle.store_cells.specs.Cells.{Cells}
use Rattle.code_units.specs.declared.memory.Memory.{Memory}
use Rattle.widget_meaning.specs.OwnState.{State}
use Rattle.widget_meaning.specs.Plan.{Plan}
use Rattle.js_image.specs.Held.{Kept}
use Rattle.js_image.specs.Image.{Rest, image, seen}
use Rattle.js_values.specs.Answers.{IsFineOut, Leaves}
use Rattle.js_values.specs.Fuel.{Fuel}
use Rattle.js_values.specs.declared.outcome.NativeOut.{NativeOut}
use Rattle.native_common.specs.Refines.{Refines}
use Rattle.native_common.proofs.Meeting.{ends_here, refines_free}

module _ (w : ℕ) (s t : Cells) (same : t ≡ s) where
  -- an answer before any charge
  pub free_after : (plan : ℕ → State → Plan) (o : NativeOut) (had : Fuel) → ((fs : List Forest) (r : Rest) (node : ℕ → ℕ) (d : ℕ) → Leaves (seen w s.cells) node d o (image fs r w s) (plan d (image fs r w s))) → IsFineOut w s.cells o → Refines w s t had had plan o
  free_after plan o had h fine = subst (λ (u : Cells). Refines w s u had had plan o) (sym same) (refines_free w s s plan o had (ends_here w s plan o h fine))

  -- what goes on from there
  pub refines_after : (new : Cells) (plan : ℕ → State → Plan) (result : Result NativeOut Memory) (had has : Fuel) → IfOk result (Refines w t new had has plan) → IfOk result (Refines w s new had has plan)
  refines_after new plan result had has h = subst (λ (u : Cells). IfOk result (Refines w u new had has plan)) same h

  pub kept_after : (new : Cells) (result : Result NativeOut Memory) → OnErr result ((fs : List Forest) → Kept fs w t new) → OnErr result ((fs : List Forest) → Kept fs w s new)
  kept_after new result h = subst (λ (u : Cells). OnErr result ((fs : List Forest) → Kept fs w u new)) same h
