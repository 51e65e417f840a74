-- One step of the walk.
use Rattle.std.specs.Prelude.{◌≡◌, ℕ, ◌+◌, ◌<◌, List, [], ◌∷◌, ◌++◌, Bool, if◌then◌else◌}
use Rattle.js_tree.specs.Forest.{Forest}
use Rattle.js_pieces.specs.declared.work.Work.{Work}
use Rattle.js_pieces.specs.Tidy.{Tokens, spaced}
use Rattle.js_pieces.specs.Todo.{todo, row_cost, AreWork}

-- a space, where a token came before
abbrev pub space : Bool → List ℕ
space begun = if begun then 32 ∷ [] else []

-- some bytes of what was to come are written, and less is left to do
pub record Steps (f : Forest) (ts : Tokens) (cost : ℕ) (begun now : Bool) (old new : List Work) (before after : List ℕ) : Type 0 where
  pub written : List ℕ
  pub after_is : after ≡ before ++ written
  pub rest_is : spaced begun (ts ++ todo f old) ≡ written ++ spaced now (todo f new)
  pub lighter : row_cost f new < cost + row_cost f old
  pub valid : AreWork f new
