-- What a native pays when its charge is taken.
use Rattle.std.specs.Prelude.{◌≡◌, ℕ, ◌+◌, List}
use Rattle.js_tree.specs.Forest.{Forest}
use Rattle.store_cells.specs.Cells.{Cells}
use Rattle.widget_meaning.specs.OwnState.{State}
use Rattle.widget_meaning.specs.Plan.{Plan}
use Rattle.widget_meaning.specs.Costs.{pay, slots_cost, units_cost}
use Rattle.js_image.specs.Held.{Kept}
use Rattle.js_image.specs.Image.{Rest, image}
use Rattle.js_values.specs.Fuel.{Fuel}
use Rattle.native_common.specs.Numbers.{counted}
use Rattle.native_image.specs.declared.charging.Cost.{Cost}
use Rattle.native_image.specs.declared.charging.Cost.TheVariants as cost

-- nothing, units of text, or slots
pub data Price : Type 0 where
  Free : Price
  OfUnits : ℕ → Price
  OfSlots : ℕ → Price

-- a price is paid, and the plan goes on
abbrev pub pay_for : Price → State → (State → Plan) → Plan
pay_for Free s k = k s
pay_for (OfUnits n) s k = pay (units_cost n) s k
pay_for (OfSlots n) s k = pay (slots_cost n) s k

-- a cost is a price, whose units are counted
abbrev pub IsPrice : Cost → Price → Type 0
IsPrice cost.Nothing Free = Unit {0}
IsPrice (cost.Units c) (OfUnits n) = c ≡ counted n
IsPrice (cost.Slots c) (OfSlots n) = c ≡ n
IsPrice _ _ = ⊥

-- A charge was taken and a price was paid.
pub record Begins (w : ℕ) (old new : Cells) (had has : Fuel) (n : ℕ) (c : Price) : Type 0 where
  pub left : had.left ≡ n + has.left
  pub spent : has.spent ≡ had.spent + n
  pub paid : (fs : List Forest) (r : Rest) (k : State → Plan) → pay_for c (image fs r w old) k ≡ k (image fs r w new)
  pub kept : (fs : List Forest) → Kept fs w old new
