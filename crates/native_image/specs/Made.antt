-- Bunches that were made.
use Rattle.std.specs.Prelude.{◌≡◌, ℕ, List, [], ◌∷◌, Bool, Option, length}
use Rattle.std.specs.List.{fold}
use Rattle.js_tree.specs.Forest.{Forest}
use Rattle.store_cells.specs.declared.value.Value.{Value}
use Rattle.store_cells.specs.Cells.{Cells}
use Rattle.plain_tree.specs.Trees.{Label}
use Rattle.widget_meaning.specs.OwnState.{Amounts, State, new_bunch, with_new_cell}
use Rattle.widget_meaning.specs.PageForms.{next_node, with_node}
use Rattle.widget_meaning.specs.Values.{Own}
use Rattle.widget_meaning.specs.Costs.{with_counts}
use Rattle.widget_meaning.specs.BunchReads.{bunches_from, with_bunch}
use Rattle.page_tree.specs.declared.page.Page.{Page}
use Rattle.event_loop.specs.declared.around.Loop.{Loop}
use Rattle.js_image.specs.Image.{all_seen, seen}
use Rattle.js_image.specs.Held.{AreFine, IsFine}
use Rattle.native_image.specs.Image.{Outside, beside, image}

-- A Bunch of each of these nodes was made, after all objects that there were; what that cost is counted and not said here.
pub record AreBunches (w : ℕ) (s t : Cells) (p : Page) (l : Loop) (ns : List ℕ) (vs : List Value) : Type 0 where
  pub state : (fs : List Forest) (x : Outside) (b : Option Bool) (c : Amounts) → with_counts (image fs x w (beside t p l b)) c ≡ fold with_bunch (with_counts (image fs x w (beside s p l b)) c) ns
  pub values : (fs : List Forest) (x : Outside) (b : Option Bool) → all_seen w t.cells vs ≡ bunches_from (length (image fs x w (beside s p l b)).own.heap) ns
  pub fine : AreFine w t.cells vs

-- a state with a new node, a tree by itself, and the Bunch of it
abbrev pub with_node_bunch : Label → State → State
with_node_bunch l s = with_new_cell (with_node l s) (new_bunch (next_node s ∷ []))

-- A node and the Bunch of it were made; what that cost is counted and not said here.
pub record IsNode (w : ℕ) (s t : Cells) (p q : Page) (l : Loop) (label : Label) (v : Value) : Type 0 where
  pub state : (fs : List Forest) (x : Outside) (b : Option Bool) (c : Amounts) → with_counts (image fs x w (beside t q l b)) c ≡ with_node_bunch label (with_counts (image fs x w (beside s p l b)) c)
  pub value : (fs : List Forest) (x : Outside) (b : Option Bool) → seen w t.cells v ≡ Own (length (image fs x w (beside s p l b)).own.heap)
  pub fine : IsFine w t.cells v
