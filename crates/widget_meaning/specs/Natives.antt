-- The natives, each by the file of its family.
--
-- How a native is written. It has taken its one unit; what follows is a plan of a few lines:
--   first the receiver, which is none for a plain call (`on_text`, `on_array`, `on_bunch` throw E3 for another);
--   then the arguments (`want_primitives`, `want_function` throw E4);
--   then the extra (`charge`), the stops `number` and `longtext` in this order, and one cost for all that it makes;
--   then the change of the state, and what it gives (`give`).
-- A native that calls a function asks for the job `Call`, with its own depth; all but a value passes by `on_value`.
-- A recursion goes over a list that the native has listed, never over what a call may change.
use Rattle.std.specs.Prelude.{ℕ, List, Option}
use Rattle.permitted_table.specs.declared.native.NativeId.{NativeId}
use Rattle.permitted_table.specs.declared.native.NativeId.TheVariants as native
use Rattle.widget_meaning.specs.Values.{Value}
use Rattle.widget_meaning.specs.OwnState.{State}
use Rattle.widget_meaning.specs.Plan.{Plan}
use Rattle.widget_meaning.specs.GlobalNatives.{global_native}
use Rattle.widget_meaning.specs.MathNatives.{math_native}
use Rattle.widget_meaning.specs.PrototypeNatives.{prototype_native}
use Rattle.widget_meaning.specs.TextNatives.{text_native}
use Rattle.widget_meaning.specs.ListNatives.{list_native}
use Rattle.widget_meaning.specs.AdsafeNatives.{adsafe_native}
use Rattle.widget_meaning.specs.DomNatives.{dom_native}
use Rattle.widget_meaning.specs.BunchReads.{read_native}
use Rattle.widget_meaning.specs.BunchWrites.{write_native}
use Rattle.widget_meaning.specs.Dispatch.{bubble}

-- a native with its receiver, its arguments and the call depth, after its unit, by its family
abbrev pub run_native : NativeId → Option Value → List Value → ℕ → State → Plan
run_native native.Bubble this vs d s = bubble s.dispatches s
run_native (native.Global w) this vs d s = global_native w this vs d s
run_native (native.Math w) this vs d s = math_native w this vs d s
run_native (native.Prototype w) this vs d s = prototype_native w this vs d s
run_native (native.Text w) this vs d s = text_native w this vs s
run_native (native.List w) this vs d s = list_native w this vs d s
run_native (native.Adsafe w) this vs d s = adsafe_native w this vs d s
run_native (native.Dom w) this vs d s = dom_native w this vs d s
run_native (native.Read w) this vs d s = read_native w this vs d s
run_native (native.Write w) this vs d s = write_native w this vs d s
