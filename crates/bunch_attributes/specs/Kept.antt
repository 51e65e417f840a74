-- Changes of what is kept with nodes.
use Rattle.std.specs.Prelude.{ℕ, List, length}
use Rattle.std.specs.List.{fold}
use Rattle.store_cells.specs.Cells.{PlainCell}
use Rattle.widget_meaning.specs.BunchWrites.{change_kept}
use Rattle.widget_meaning.specs.BunchWrites as writes
use Rattle.widget_meaning.specs.Costs.{give}
use Rattle.widget_meaning.specs.OwnState.{Kept, State}
use Rattle.widget_meaning.specs.Plan.{Plan, charge}
use Rattle.widget_meaning.specs.Values.{Own, Value}
use Rattle.event_loop.specs.Kept as loop
use Rattle.event_loop.specs.Kept.{PlainKept}
use Rattle.page_image.specs.Around.{hushed, marked, protected}
use Rattle.native_image.specs.Charges.{Price, pay_for}
use Rattle.native_image.specs.Sound.{IsOwnCell}
use Rattle.bunch_attributes.specs.declared.keeping.Change.{Change}
use Rattle.bunch_attributes.specs.declared.keeping.Change.TheVariants as change

-- what a change makes of what the loop keeps
abbrev pub plain_change : Change → PlainKept → PlainKept
plain_change (change.Listen kind func) k = loop.with_handler kind func k
plain_change (change.Hush kind) k = loop.without_handlers kind k
plain_change (change.Mark text) k = loop.with_mark text k
plain_change change.Protect k = loop.protected k

-- the same in the meaning, where g gives the numbers of cells
abbrev pub meant : (ℕ → ℕ) → Change → Kept → Kept
meant g (change.Listen kind func) k = writes.with_handler kind (Own (g func)) k
meant g (change.Hush kind) k = hushed kind k
meant g (change.Mark text) k = marked text k
meant g change.Protect k = protected k

-- a handler's function is a cell of the widget
abbrev pub IsFineChange : ℕ → List PlainCell → Change → Type 0
IsFineChange w cells (change.Listen kind func) = IsOwnCell w cells func
IsFineChange w cells _ = Unit {0}

-- what is kept with nodes is changed, once a charge and a price are taken
abbrev pub keep_plan : (Kept → Kept) → Price → List ℕ → Value → State → Plan
keep_plan f c ns b s = charge (length ns) s (pay_for c s (λ u. give b (fold (change_kept f) u ns)))
