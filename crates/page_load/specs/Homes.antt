-- The slots of a page.
use Rattle.std.specs.Prelude.{ℕ, List, map}
use Rattle.page_plan.specs.declared.SlotSpec.{SlotSpec}

-- the names of slots
abbrev pub names_of : List SlotSpec → List (List ℕ)
names_of slots = map (λ (s : SlotSpec). s.name) slots

-- the fuel of each of their turns
abbrev pub fuels_of : List SlotSpec → List ℕ
fuels_of slots = map (λ (s : SlotSpec). s.fuel) slots
