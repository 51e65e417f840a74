-- What stands in the store and on the page of a host, and how what is seen of a life is read off them.
use Rattle.std.specs.Prelude.{◌≡◌, ℕ, zero, suc, ◌+◌, Bool, List, Some, filter, is_some, length, map, not, ◌&&◌, ◌||◌}
use Rattle.js_tree.specs.Forest.{Forest}
use Rattle.store_cells.specs.declared.kind.Form.TheVariants as form
use Rattle.store_cells.specs.Cells.{Cells, PlainCell, form_at, is_scope, is_visible_form, widget_of}
use Rattle.object_store.specs.Owned.{owned}
use Rattle.widget_meaning.specs.OwnState.{OwnState}
use Rattle.js_image.specs.Image.{meant_cell, meant_counts, meant_scope}
use Rattle.page_image.specs.Image.{forest, own}
use Rattle.native_image.specs.declared.handed.Shared.{Shared}

-- whether a cell is a widget's: one that it sees, or one of its scopes
abbrev pub is_widgets : PlainCell → Bool
is_widgets c = is_some (widget_of c.owner) && (is_visible_form c.form || is_scope c.form)

-- how many cells of a store are the host's: those that are no widget's
abbrev pub cells_of_host : Cells → ℕ
cells_of_host s = length (filter (λ c. not (is_widgets c)) s.cells)

-- how many a widget has: those that it sees, and its scopes
abbrev pub cells_of_widget : Cells → ℕ → ℕ
cells_of_widget s v = length (owned v s).heap + length (owned v s).scopes

-- and the first so many widgets
abbrev pub cells_of_widgets : Cells → ℕ → ℕ
cells_of_widgets s zero = 0
cells_of_widgets s (suc v) = cells_of_widgets s v + cells_of_widget s v

-- A page node has a RawNode, and no other.
pub record HasOneRaw (cells : List PlainCell) (n : ℕ) : Type 0 where
  pub place : ℕ
  pub is : form_at cells place ≡ Some (form.RawNode n)
  pub one : (i : ℕ) → form_at cells i ≡ Some (form.RawNode n) → i ≡ place

-- What an own state has of objects, scopes and trees is what the store and the page have of a widget with these scripts.
pub record IsReadOff (fs : List Forest) (h : Shared) (v : ℕ) (o : OwnState) : Type 0 where
  pub heap : o.heap ≡ map (meant_cell fs (own h.page v)) (owned v h.store).heap
  pub scopes : o.scopes ≡ map meant_scope (owned v h.store).scopes
  pub trees : o.forest ≡ forest h.page v
  pub counts : o.counts ≡ meant_counts (length (own h.page v)) (owned v h.store).paid
