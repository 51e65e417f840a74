-- A function that is called with each item of a list.
use Rattle.std.specs.Prelude.{◌≡◌, [], ◌∷◌, ◌++◌}
use Rattle.store_cells.specs.declared.value.Value.{Value}
use Rattle.js_flow.specs.declared.frame.Gathering.{Gathering}

-- one result more
pub record IsMore (g h : Gathering) (v : Value) : Type 0 where
  pub func : h.func ≡ g.func
  pub items : h.items ≡ g.items
  pub results : h.results.items ≡ g.results.items ++ v ∷ []
  pub keep : h.keep ≡ g.keep
  pub depth : h.depth ≡ g.depth
