-- What is made of a JSON value.
use Rattle.std.specs.Prelude.{◌≡◌, ◌+◌, ℕ, List, [], ◌∷◌, ◌++◌, length, sum_by}
use Rattle.serde_json.specs.Data as json
use Rattle.js_tree.specs.Forest.{Forest}
use Rattle.store_cells.specs.declared.value.Value.{Value as StoreValue}
use Rattle.store_cells.specs.Cells.{Cells}
use Rattle.widget_meaning.specs.OwnState.{Cell, Pairs, State, with_own}
use Rattle.widget_meaning.specs.Costs.{cost, sum}
use Rattle.widget_meaning.specs.JsonValues.{Parts, cells_at, value_at}
use Rattle.widget_meaning.specs.Values.{Own}
use Rattle.js_image.specs.Image.{Rest, image, seen}
use Rattle.js_values.specs.Operands.{IsPrimitive, plain}

-- the slots of new objects
abbrev pub slots_in : List Cell → ℕ
slots_in cs = sum_by (λ (c : Cell). length c.pairs) cs

-- a state with new objects, whose cells and slots are paid
abbrev pub raised : State → List Cell → State
raised s cs = with_own s (record s.own { heap = s.own.heap ++ cs; counts = sum s.own.counts (cost 0 (length cs) (slots_in cs) 0) })

-- parts before others
abbrev pub joined : Parts → Parts → Parts
joined p q = (p.0 ++ q.0, p.1 ++ q.1)

-- A value was made of JSON: its objects are born after those that there were, in the meaning's order, and it is the meaning's value.
pub record Builds (fs : List Forest) (r : Rest) (w : ℕ) (old new : Cells) (v : StoreValue) (d : json.Data) : Type 0 where
  pub state : image fs r w new ≡ raised (image fs r w old) (cells_at (length (image fs r w old).own.heap) d)
  pub value : seen w new.cells v ≡ value_at (length (image fs r w old).own.heap) d

-- An object or array of this form was made, whose parts are still to come.
pub record Begins (fs : List Forest) (r : Rest) (w : ℕ) (old new : Cells) (v : StoreValue) (c : Cell) : Type 0 where
  pub state : image fs r w new ≡ raised (image fs r w old) (c ∷ [])
  pub value : seen w new.cells v ≡ Own (length (image fs r w old).own.heap)

-- A value of JSON that is neither an object nor an array.
pub record IsPlainOf (v : StoreValue) (d : json.Data) : Type 0 where
  pub primitive : IsPrimitive v
  pub value : (n : ℕ) → plain v ≡ value_at n d
  pub cells : (n : ℕ) → cells_at n d ≡ []

-- What stands between the parts of an object or array of this form: with the parts so far, those that are still to come give all its parts; its names so far meet a condition.
pub record Comes (fs : List Forest) (r : Rest) (w : ℕ) (old now : Cells) (parent : StoreValue) (form : Pairs → Cell) (Named : Pairs → Type 0) (rest : ℕ → Parts) (total : ℕ → Parts) : Type 0 where
  pub pairs : Pairs
  pub cells : List Cell
  pub state : image fs r w now ≡ raised (image fs r w old) (form pairs ∷ cells)
  pub value : seen w now.cells parent ≡ Own (length (image fs r w old).own.heap)
  pub named : Named pairs
  pub parts : joined (pairs, cells) (rest (length (image fs r w old).own.heap + 1 + length cells)) ≡ total (length (image fs r w old).own.heap + 1)
