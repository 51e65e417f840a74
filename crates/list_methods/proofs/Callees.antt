-- What is called as a function of the widget.
use Rattle.std.proofs.Common.{◌≡◌, ℕ, List, Option, None, Some, ap, refl, sym, true, false}
use Rattle.std.specs.Prelude.{IfSome, is_some}
use Rattle.js_tree.specs.Forest.{Forest}
use Rattle.permitted_table.specs.declared.native.HostEntry.TheVariants as entry
use Rattle.store_cells.specs.declared.value.Value.{Value as StoreValue}
use Rattle.store_cells.specs.declared.value.Value.TheVariants as value
use Rattle.store_cells.specs.declared.value.Number.TheVariants as number
use Rattle.store_cells.specs.Cells.{PlainCell}
use Rattle.widget_meaning.specs.Values.{Value, Undefined, Null, Truth, NaN, Num, Text, Own, Host}
use Rattle.widget_meaning.specs.OwnState.{State}
use Rattle.widget_meaning.specs.Properties.{is_function, is_function_kind, is_own_function}
use Rattle.js_image.specs.declared.outcome.Callee.{Callee}
use Rattle.js_image.specs.declared.outcome.Callee.TheVariants as callee
use Rattle.js_image.specs.Callees.{IsCallee}
use Rattle.js_image.specs.Image.{seen}
use Rattle.js_image.specs.Reads.{cell_in}
use Rattle.js_image.proofs.Puts.{refers}
use Rattle.list_methods.specs.Parts.{is_function_callee}

false_true : false ≡ true → ⊥
false_true h = cc

no_function : (s : State) (v : Value) → is_function s v ≡ false → is_own_function s v ≡ false
no_function s (Host (entry.Native n)) h = refl
no_function s Undefined h = refl
no_function s Null h = refl
no_function s (Truth b) h = refl
no_function s NaN h = refl
no_function s (Num z) h = refl
no_function s (Text t) h = refl
no_function s (Own n) h = h
no_function s (Host e) h = refl

pub callee_seen : (fs : List Forest) (w : ℕ) (cells : List PlainCell) (c : Callee) (s : State) (v : Value) → IsCallee fs w cells c s v → is_own_function s v ≡ is_function_callee c
callee_seen fs w cells (callee.Function p) s v h = ap is_function_kind h
callee_seen fs w cells (callee.Native n) s v h = ap (is_own_function s) h
callee_seen fs w cells callee.Nothing s v h = no_function s v h

-- a function of the widget is a cell
pub function_cell : (w : ℕ) (cells : List PlainCell) (s : State) (v : StoreValue) → is_own_function s (seen w cells v) ≡ true → is_some (cell_in v) ≡ true
function_cell w cells s (value.Ref i) h = refl
function_cell w cells s value.Undefined h = absurd (false_true h)
function_cell w cells s value.Null h = absurd (false_true h)
function_cell w cells s (value.Bool b) h = absurd (false_true h)
function_cell w cells s (value.Num number.NaN) h = absurd (false_true h)
function_cell w cells s (value.Num (number.Whole z)) h = absurd (false_true h)
function_cell w cells s (value.Text t) h = absurd (false_true h)

-- what a value refers to
pub cell_refers : (v : StoreValue) (o : Option ℕ) → o ≡ cell_in v → IfSome o (λ i. v ≡ value.Ref i)
cell_refers v None e = tt
cell_refers v (Some i) e = refers v i (sym e)
