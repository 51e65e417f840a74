-- What natives are handed, as their contracts speak of it: of what all widgets share and of one widget.
use Rattle.std.specs.Prelude.{◌≡◌, ℕ, List, Result, IfOk, map}
use Rattle.code_units.specs.declared.memory.Memory.{Memory}
use Rattle.js_tree.specs.Forest.{Forest}
use Rattle.permitted_table.specs.declared.native.WriteNative.{WriteNative}
use Rattle.store_cells.specs.declared.value.Value.{Value}
use Rattle.store_cells.specs.declared.value.Value.TheVariants as value
use Rattle.widget_meaning.specs.BunchWrites.{write_method}
use Rattle.widget_meaning.specs.OwnState.{State}
use Rattle.widget_meaning.specs.Plan.{Plan}
use Rattle.widget_meaning.specs.Values as meaning
use Rattle.js_image.specs.Held.{IsHeld}
use Rattle.js_image.specs.Image.{seen}
use Rattle.js_values.specs.Fuel.{Fuel}
use Rattle.js_values.specs.declared.outcome.NativeOut.{NativeOut}
use Rattle.page_image.specs.Image.{number}
use Rattle.native_image.specs.Image.{Outside, Parts, beside, image}
use Rattle.native_image.specs.Refines.{RefinesAt}
use Rattle.native_image.specs.Sound.{AreNodes, HoldsOwn, IsSound, KeepsAll, KeepsStore}
use Rattle.native_image.specs.declared.handed.Shared.{Shared}
use Rattle.native_image.specs.declared.handed.Widget.{Widget}

module _ (h : Shared) (v : Widget) where
  -- what the widget has to do with
  abbrev pub parts : Parts
  parts = beside h.store h.page v.around v.bubbled

  -- its state
  abbrev pub state : List Forest → Outside → State
  state fs x = image fs x v.id.index parts

  -- a value as it sees it
  abbrev pub sees : Value → meaning.Value
  sees = seen v.id.index h.store.cells

  -- its own numbers of nodes of the page
  abbrev pub numbers : List ℕ → List ℕ
  numbers ns = map (number h.page v.id.index) ns

  -- nodes of the widget that differ
  abbrev pub AreIts : List ℕ → Type 0
  AreIts ns = AreNodes h.page v.id.index ns

  -- all that it has is sound
  abbrev pub IsSoundIn : Type 0
  IsSoundIn = IsSound v.id.index h.store h.page v.around

-- What comes of a native of a widget that reads page and loop: an answer refines its plan; page and code are as they were; and after want of memory too the widget holds its own and keeps what it had.
pub record Reads (old new : Shared) (v : Widget) (had has : Fuel) (plan : ℕ → State → Plan) (r : Result NativeOut Memory) : Type 0 where
  pub refines : IfOk r (RefinesAt v.id.index (parts old v) (parts new v) had has plan)
  pub page : new.page ≡ old.page
  pub codes : new.codes ≡ old.codes
  pub holds : HoldsOwn v.id.index new.store new.page v.around
  pub kept : KeepsStore v.id.index old.store new.store

-- A Bunch of a widget: its cell, which the widget may hold, and its nodes.
pub record IsBunchOf (h : Shared) (v : Widget) (cell : ℕ) (ns : List ℕ) : Type 0 where
  pub nodes : AreIts h v ns
  pub held : IsHeld v.id.index h.store.cells cell

-- What comes of a native that changes store, page and what is kept for the widget: an answer refines its plan; after want of memory too what a call keeps is kept, the code is as it was, and the widget is the same one, with its log and posts.
pub record Writes (old new : Shared) (v u : Widget) (had has : Fuel) (plan : ℕ → State → Plan) (r : Result NativeOut Memory) : Type 0 where
  pub refines : IfOk r (RefinesAt v.id.index (parts old v) (parts new u) had has plan)
  pub kept : KeepsAll v.id.index old.store new.store old.page new.page u.around
  pub codes : new.codes ≡ old.codes
  pub rest : u ≡ record v { around = u.around; bubbled = u.bubbled }

-- What comes of a method of a Bunch that writes, with its arguments.
abbrev pub Runs : (old new : Shared) (v u : Widget) (had has : Fuel) → WriteNative → (cell : ℕ) (ns : List ℕ) → List Value → Result NativeOut Memory → Type 0
Runs old new v u had has method cell ns args r =
    Writes old new v u had has (write_method method (numbers old v ns) (sees old v (value.Ref cell)) (map (sees old v) args)) r
