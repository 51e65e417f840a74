-- What a widget may hold, and that what it holds in the store is its own.
use Rattle.std.specs.Prelude.{◌≡◌, ℕ, ◌<◌, ◌≤◌, Bool, true, false, List, Option, None, Some, IfSome, length, slice_get, slice_index_or, ◌||◌}
use Rattle.std.specs.List.{AllByRecursion}
use Rattle.code_units.specs.Permitted.{IsPermitted}
use Rattle.js_tree.specs.Forest.{Forest, no_trees, IsFun}
use Rattle.store_cells.specs.declared.value.Value.{Value}
use Rattle.store_cells.specs.declared.value.Value.TheVariants as value
use Rattle.store_cells.specs.declared.kind.FunParts.{FunParts}
use Rattle.store_cells.specs.declared.counts.Counts.{Counts}
use Rattle.store_cells.specs.Cells.{Cells, PlainCell, function_in, is_bunch, is_visible}
use Rattle.store_cells.specs.Host.{is_permitted_cell}
use Rattle.object_store.specs.Owned as store
use Rattle.object_store.specs.Owned.{OwnKind, is_own_scope, is_own_scope_at, owned, visible_at}
use Rattle.object_store.specs.Grows.{Grows}

module _ (w : ℕ) (cells : List PlainCell) where
  -- whether the cell at a place is a visible cell of the widget or one of the permitted table
  abbrev pub is_held : ℕ → Bool
  is_held i = visible_at w cells i || is_permitted_cell i

  -- a cell that the widget may hold
  abbrev pub IsHeld : ℕ → Type 0
  IsHeld i = (i < length cells) × (is_held i ≡ true)

  -- a value that the widget may hold: a primitive, or a reference to such a cell
  abbrev pub IsFine : Value → Type 0
  IsFine (value.Ref i) = IsHeld i
  IsFine _ = Unit {0}

  -- values that the widget may hold
  abbrev pub AreFine : List Value → Type 0
  AreFine vs = AllByRecursion IsFine vs

  -- pairs whose values the widget may hold
  abbrev pub ArePairs : List (List ℕ × Value) → Type 0
  ArePairs ps = AllByRecursion (λ p. IsFine p.1) ps

  -- a scope of the widget
  abbrev pub IsOwnScope : ℕ → Type 0
  IsOwnScope i = (i < length cells) × (is_own_scope_at w cells i ≡ true)

  -- a scope of the widget, if there is one
  abbrev pub IsPlaceScope : Option ℕ → Type 0
  IsPlaceScope o = IfSome o IsOwnScope

-- pairs whose names a script may use
abbrev pub ArePermitted : List (List ℕ × Value) → Type 0
ArePermitted ps = AllByRecursion (λ p. IsPermitted p.0) ps

-- a function of one of the trees
abbrev pub IsFunOf : List Forest → FunParts → Type 0
IsFunOf fs p = (p.code < length fs) × IsFun (slice_index_or fs p.code no_trees) p.fun

-- What a visible cell of the widget leads to is the widget's: its prototype, its values, and a function's tree and scope. Its names are those that a script may use, but for the hidden one of a Bunch.
pub record IsFineCell (fs : List Forest) (w : ℕ) (cells : List PlainCell) (c : PlainCell) : Type 0 where
  pub up : IfSome c.up (IsHeld w cells)
  pub pairs : is_bunch c.form ≡ false → ArePairs w cells c.pairs
  pub names : is_bunch c.form ≡ false → ArePermitted c.pairs
  pub fun : IfSome (function_in c.form) (λ p. IsFunOf fs p × IsPlaceScope w cells p.scope)

-- What a scope of the widget leads to is the widget's.
pub record IsFineScope (w : ℕ) (cells : List PlainCell) (c : PlainCell) : Type 0 where
  pub outer : IsPlaceScope w cells c.up
  pub pairs : ArePairs w cells c.pairs

-- a cell of the widget, if it is one, leads to what the widget may hold
pub record IsFineFor (fs : List Forest) (w : ℕ) (cells : List PlainCell) (c : PlainCell) : Type 0 where
  pub cell : is_visible w c ≡ true → IsFineCell fs w cells c
  pub scope : is_own_scope w c ≡ true → IsFineScope w cells c

-- The store's part of confinement: whatever the widget has in the store leads to what it may hold.
pub record IsConfined (fs : List Forest) (w : ℕ) (s : Cells) : Type 0 where
  pub each : (i : ℕ) (c : PlainCell) → slice_get s.cells i ≡ Some c → IsFineFor fs w s.cells c

-- the nodes of an own cell, if it is a Bunch, pass a test
abbrev pub PassNodes : (ℕ → Bool) → OwnKind → Type 0
PassNodes p (store.Bunch ns) = AllByRecursion (λ n. p n ≡ true) ns
PassNodes p _ = Unit {0}

-- the nodes of all Bunches of the widget pass a test, as that they are its own
abbrev pub HoldNodes : (ℕ → Bool) → ℕ → Cells → Type 0
HoldNodes p w s = AllByRecursion (λ c. PassNodes p c.kind) (owned w s).heap

-- no count of what was paid is less
abbrev pub CountsRise : Option Counts → Option Counts → Type 0
CountsRise None o = Unit {0}
CountsRise (Some a) None = ⊥
CountsRise (Some a) (Some b) = (a.cells ≤ b.cells) × (a.slots ≤ b.slots) × (a.units ≤ b.units)

-- What a call keeps for the widget whose call it is: it stays confined, what is there stays under its numbers, other widgets have what they had, under the numbers that it had, and stay confined by any trees, its Bunches get no node that they did not have, and no count falls.
pub record Kept (fs : List Forest) (w : ℕ) (old new : Cells) : Type 0 where
  pub confined : IsConfined fs w old → IsConfined fs w new
  pub grows : Grows w old.cells new.cells
  pub others : (v : ℕ) → (w ≡ v → ⊥) → owned v new ≡ owned v old
  pub others_grow : (v : ℕ) → (w ≡ v → ⊥) → Grows v old.cells new.cells
  pub others_confined : (gs : List Forest) (v : ℕ) → (w ≡ v → ⊥) → IsConfined gs v old → IsConfined gs v new
  pub nodes : (p : ℕ → Bool) → HoldNodes p w old → HoldNodes p w new
  pub counts : CountsRise (owned w old).paid (owned w new).paid
